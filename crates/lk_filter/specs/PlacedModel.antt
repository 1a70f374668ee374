-- A model at a moment: its filters are placed, and nothing else of it differs; and which models are placed.
use Rattle.std.specs.Prelude.{ℕ, ℤ, Bool, ◌&&◌, List, map}
use Rattle.std.specs.List.{list_all}
use Rattle.lk_types.specs.Filters.{placed, is_placed}
use Rattle.lk_types.specs.declared.filter.Filter.{Filter}
use Rattle.lk_types.specs.declared.explore.Measure.{Measure}
use Rattle.lk_types.specs.declared.explore.Rollup.{Rollup}
use Rattle.lk_types.specs.declared.explore.Explore.{Explore}
use Rattle.lk_types.specs.declared.model.Derived.{Derived}
use Rattle.lk_types.specs.declared.model.Model.{Model}

-- the filter of a field, by the field's number
abbrev pub placed_field_filter : ℤ → ℕ × Filter → ℕ × Filter
placed_field_filter now f = (f.0, placed now f.1)

-- a measure with its filters
abbrev pub placed_measure : ℤ → Measure → Measure
placed_measure now m = record m { filters = map (placed_field_filter now) m.filters }

-- an aggregate table with its filters
abbrev pub placed_rollup : ℤ → Rollup → Rollup
placed_rollup now r = record r { filters = map (placed_field_filter now) r.filters }

-- an explore with its default filters, and those of its measures and aggregate tables
abbrev pub placed_explore : ℤ → Explore → Explore
placed_explore now x = record x {
  measures = map (placed_measure now) x.measures;
  always = map (placed_field_filter now) x.always;
  rollups = map (placed_rollup now) x.rollups;
}

-- a derived table with its filters
abbrev pub placed_derived : ℤ → Derived → Derived
placed_derived now d = record d { filters = map (placed_field_filter now) d.filters }

-- a model with the filters of its explores and derived tables
abbrev pub placed_model : ℤ → Model → Model
placed_model now m = record m { explores = map (placed_explore now) m.explores; derived = map (placed_derived now) m.derived }

-- no filter of the fields has a relative date
abbrev pub are_placed : List (ℕ × Filter) → Bool
are_placed filters = list_all (λ f. is_placed f.1) filters

-- nor of a measure, of an aggregate table, or of a derived table
abbrev pub is_placed_measure : Measure → Bool
is_placed_measure m = are_placed m.filters

abbrev pub is_placed_rollup : Rollup → Bool
is_placed_rollup r = are_placed r.filters

abbrev pub is_placed_derived : Derived → Bool
is_placed_derived d = are_placed d.filters

-- nor of an explore, its measures and its aggregate tables
abbrev pub is_placed_explore : Explore → Bool
is_placed_explore x = (are_placed x.always && list_all is_placed_measure x.measures) && list_all is_placed_rollup x.rollups

-- no filter of the model has a relative date
abbrev pub is_placed_model : Model → Bool
is_placed_model m = list_all is_placed_explore m.explores && list_all is_placed_derived m.derived
