-- The limits on how many of each thing a project may have. (lookd)
use Rattle.std.specs.Prelude.{ℕ, ◌+◌, Bool, true, false, nat_lt, List, [], ◌∷◌, length, Option, Some, None, codes}
use Rattle.std.specs.List.{count_by, list_any}
use Rattle.lk_val.specs.declared.fault.FaultLine.{FaultLine}
use Rattle.lk_types.specs.declared.schema.Schema.{Schema}
use Rattle.lk_types.specs.declared.schema.TableDef.{TableDef}
use Rattle.lk_params.specs.Findings.{named_line}
use Rattle.lk_params.specs.declared.number.Number.TheVariants.{N15}
use Rattle.lk_objects.specs.declared.explore.DeclaredExplore.{DeclaredExplore}
use Rattle.lk_objects.specs.declared.view.Declared.{Declared}
use Rattle.lk_objects.specs.declared.view.DeclaredView.{DeclaredView}
use Rattle.lk_objects.specs.declared.view.Rows.{Rows}
use Rattle.lk_objects.specs.declared.view.Rows.TheVariants as rows
use Rattle.lk_scope.specs.Pieces.{first_of}

-- the fault of a limit that is passed, by its name
abbrev pub limit_line : List ℕ → Bool → Option FaultLine
limit_line name false = None
limit_line name true = Some (named_line N15 name [])

abbrev pub is_wide : TableDef → Bool
is_wide table = nat_lt 64 (length table.columns)

-- how many aggregate tables explores have
abbrev pub rollups_in : List DeclaredExplore → ℕ
rollups_in [] = 0
rollups_in (x ∷ xs) = length x.rollups + rollups_in xs

abbrev pub is_some_name : Option (List ℕ) → Bool
is_some_name None = false
is_some_name (Some name) = true

-- a derived table with a datagroup
abbrev pub is_persisted_rows : Rows → Bool
is_persisted_rows (rows.Stored table) = false
is_persisted_rows (rows.Derived derived) = is_some_name derived.datagroup

abbrev pub is_persisted : DeclaredView → Bool
is_persisted view = is_persisted_rows view.rows

-- aggregate tables and persisted derived tables
abbrev pub has_many_rollups : Declared → Bool
has_many_rollups declared = nat_lt 12 (count_by is_persisted declared.views + rollups_in declared.explores)

-- given the number of files, in this order: files, explores, views, tables, columns of a table, datagroups, and aggregate
-- tables with persisted derived tables
abbrev pub counts_fault : ℕ → Schema → Declared → Option FaultLine
counts_fault files schema declared = first_of
    (limit_line (codes "files") (nat_lt 1000 files)
    ∷ limit_line (codes "explores") (nat_lt 200 (length declared.explores))
    ∷ limit_line (codes "views") (nat_lt 500 (length declared.views))
    ∷ limit_line (codes "tables") (nat_lt 64 (length schema.tables))
    ∷ limit_line (codes "columns") (list_any is_wide schema.tables)
    ∷ limit_line (codes "datagroups") (nat_lt 8 (length declared.datagroups))
    ∷ limit_line (codes "rollups") (has_many_rollups declared)
    ∷ [])
