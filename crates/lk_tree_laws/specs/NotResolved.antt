-- Rows that no table of a schema holds, and an explore and a derived table of no resolved model.
use Rattle.std.specs.Prelude.{List, [], ◌∷◌, ◌++◌, None, codes}
use Rattle.lk_val.specs.declared.value.Value.TheVariants as value
use Rattle.lk_types.specs.Tables.{Rows}
use Rattle.lk_types.specs.declared.schema.Kind.TheVariants as kind
use Rattle.lk_types.specs.declared.schema.TableDef.{TableDef}
use Rattle.lk_types.specs.declared.explore.Explore.{Explore}
use Rattle.lk_types.specs.declared.explore.Join.{Join}
use Rattle.lk_types.specs.declared.explore.JoinKind.TheVariants.{Left}
use Rattle.lk_types.specs.declared.model.Derived.{Derived}
use Rattle.lk_semantics.specs.Shop.{orders_explore, users_join}
use Rattle.lk_semantics.specs.Corners.{by_today, derived_from}

-- a table of one text, and its row with an empty one, which no cell reads
abbrev pub one_text : TableDef
one_text = record { name = codes "notes"; columns = record { name = codes "note"; kind = kind.Text } ∷ []; key = None }

abbrev pub with_empty_text : Rows
with_empty_text = (value.Text [] ∷ []) ∷ []

-- some joins twice
abbrev twice : List Join → List Join
twice joins = joins ++ joins

-- 32 joins
abbrev pub crowded : Explore
crowded = record orders_explore { joins = twice (twice (twice (twice (twice (users_join Left ∷ []))))) }

-- a derived table with a relative date in its own filter
abbrev pub of_today : Derived
of_today = record (derived_from (codes "today") 0 None) { filters = by_today.filters }
