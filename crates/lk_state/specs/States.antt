-- A state of a server. (lookd)
use Rattle.std.specs.Prelude.{ℕ, List, [], ◌∷◌, map}
use Rattle.lk_types.specs.declared.rows.Sources.{Sources}
use Rattle.lk_types.specs.declared.schema.TableDef.{TableDef}
use Rattle.lk_table.specs.Contents.{Content}
use Rattle.lk_load.specs.Loading.{IsTable}
use Rattle.lk_ledger.specs.declared.kept.KeptId.{KeptId}

-- the number of a state, what the tables of the schema hold by number, and the loads that it keeps, with what their replies say
pub record State : Type 0 where
  pub number : ℕ
  pub tables : List Content
  pub ids : List KeptId

-- the tables as a query sees them
abbrev pub sources_at : State → Sources
sources_at s = record { stored = map (λ content. content.rows) s.tables; derived = [] }

-- what each table holds is of that table
abbrev pub AreTables : List TableDef → List Content → Type 0
AreTables [] [] = Unit {0}
AreTables (def ∷ defs) (content ∷ contents) = IsTable def content × AreTables defs contents
AreTables defs contents = ⊥
