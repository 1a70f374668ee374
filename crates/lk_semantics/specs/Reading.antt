-- Which derived tables a query reads, directly and through others, and the kinds of the columns that it reads.
use Rattle.std.specs.Prelude.{◌≡◌, ℕ, suc, nat_eq, Bool, true, false, ◌||◌, List, [], ◌∷◌, ◌++◌, map, flat_map, length, slice_index_or, Option, Some, None}
use Rattle.std.specs.List.{list_any}
use Rattle.lk_val.specs.Least.{least_set}
use Rattle.lk_types.specs.Expressions.{has_number}
use Rattle.lk_semantics.specs.Joins.{numbers_below}
use Rattle.lk_semantics.specs.Rows.{field_at}
use Rattle.lk_semantics.specs.Answers.{measure_at}
use Rattle.lk_semantics.specs.Derived.{explore_at, derived_query}
use Rattle.lk_semantics.specs.Rollups.{derived_at, origins_of}
use Rattle.lk_types.specs.declared.schema.Kind.{Kind}
use Rattle.lk_types.specs.declared.schema.TableDef.{TableDef}
use Rattle.lk_types.specs.declared.kind_set.Leaves.{Leaves}
use Rattle.lk_types.specs.declared.explore.Origin.{Origin}
use Rattle.lk_types.specs.declared.explore.Origin.TheVariants.{Stored, Derived as FromDerived}
use Rattle.lk_types.specs.declared.explore.Explore.{Explore}
use Rattle.lk_types.specs.declared.model.Model.{Model}
use Rattle.lk_types.specs.declared.model.Derived.{Derived}
use Rattle.lk_types.specs.declared.model.Pick.{Pick}
use Rattle.lk_types.specs.declared.model.Pick.TheVariants.{Dim, Mea}

-- ---- which derived tables are read

-- the derived table that a view's rows come from, if they come from one
abbrev pub derived_in : Origin → List ℕ
derived_in (Stored t) = []
derived_in (FromDerived d) = d ∷ []

-- the derived tables that the query of a derived table reads: that of the base view, and those of the joins that it needs
abbrev pub read_by : Model → ℕ → List ℕ
read_by m d =
    let x = explore_at m (derived_at m d).explore in
    flat_map derived_in (origins_of x (derived_query x (derived_at m d)).joins)

-- a derived table is one of some, or one of the known ones reads it
abbrev pub is_read : Model → List ℕ → List ℕ → ℕ → Bool
is_read m tables known d = has_number d tables || list_any (λ reader. has_number d (read_by m reader)) known

-- some derived tables with all that their queries read, and so on, through persisted tables too: the least set, ascending
abbrev pub with_all_read : Model → List ℕ → List ℕ
with_all_read m tables = least_set nat_eq (numbers_below (length m.derived)) (is_read m tables)

-- all derived tables that the query of a derived table reads, directly or through others
abbrev pub all_read_by : Model → ℕ → List ℕ
all_read_by m d = with_all_read m (read_by m d)

-- the query of a derived table reads it, directly or through others
abbrev pub reads_itself : Model → ℕ → Bool
reads_itself m d = has_number d (all_read_by m d)

-- the derived tables that an explore reaches, through all its views, whether a query needs them or not
abbrev pub reached_tables : Model → Explore → List ℕ
reached_tables m x = with_all_read m (flat_map (λ part. derived_in part.origin) x.parts)

-- ---- the datagroups that an explore reaches

-- the value, if there is one, as a list
abbrev pub listed_value : Option ℕ → List ℕ
listed_value None = []
listed_value (Some n) = n ∷ []

-- the datagroups of the persisted derived tables among these
abbrev pub datagroups_of : Model → List ℕ → List ℕ
datagroups_of m tables = flat_map (λ d. listed_value (derived_at m d).datagroup) tables

-- where some are reached, the datagroups of the explore's own aggregate tables count too
abbrev pub with_rollups : Explore → List ℕ → List ℕ
with_rollups x [] = []
with_rollups x (g ∷ gs) = (g ∷ gs) ++ map (λ r. r.datagroup) x.rollups

-- all datagroups that an explore reaches
abbrev pub explore_datagroups : Model → Explore → List ℕ
explore_datagroups m x = with_rollups x (datagroups_of m (reached_tables m x))

-- ---- the kinds of columns

-- the table past the end of a schema's tables
abbrev pub no_table : TableDef
no_table = record { name = []; columns = []; key = None }

-- the table of a number
abbrev pub table_at : Model → ℕ → TableDef
table_at m t = slice_index_or m.schema.tables t no_table

-- the kind of what a column of a derived table takes
abbrev pub pick_kind : Explore → Pick → Kind
pick_kind x (Dim f) = (field_at x f).kind
pick_kind x (Mea n) = (measure_at x n).kind

-- the kinds of the columns of a derived table, in order
abbrev pub derived_kinds : Model → Derived → List Kind
derived_kinds m d = map (λ c. pick_kind (explore_at m d.explore) c.1) d.columns

-- the kinds of the columns of the table that a view reads
abbrev pub origin_kinds : Model → Origin → List Kind
origin_kinds m (Stored t) = map (λ c. c.kind) (table_at m t).columns
origin_kinds m (FromDerived d) = derived_kinds m (derived_at m d)

-- the kinds of the columns of each view of an explore
abbrev pub leaves_of : Model → Explore → Leaves
leaves_of m x = record { kinds = map (λ part. origin_kinds m part.origin) x.parts }
