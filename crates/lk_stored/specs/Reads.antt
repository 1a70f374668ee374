-- Which derived tables a derived table's query reads, by numbers.
use Rattle.std.specs.Prelude.{ℕ, zero, suc, Bool, false, not, if◌then◌else◌, List, [], ◌∷◌, ◌++◌, flat_map, slice_index_or}
use Rattle.lk_types.specs.Expressions.{has_number}
use Rattle.lk_types.specs.declared.explore.Explore.{Explore}
use Rattle.lk_types.specs.declared.filter.Filter.{Filter}
use Rattle.lk_types.specs.declared.model.Derived.{Derived}
use Rattle.lk_types.specs.declared.model.Model.{Model}
use Rattle.lk_semantics.specs.Answers.{filtered}
use Rattle.lk_semantics.specs.Derived.{derived_query, explore_at}
use Rattle.lk_semantics.specs.Reading.{derived_in, listed_value}
use Rattle.lk_semantics.specs.Rollups.{no_derived, origins_of}
use Rattle.lk_fields.specs.declared.rows.Row.{Row}
use Rattle.lk_fields.specs.Rows.{is_marked}

-- the query of a derived table reads these over an explore
abbrev pub tables_read : Explore → Derived → List ℕ
tables_read x d = flat_map derived_in (origins_of x (derived_query x d).joins)

-- a derived table as a row of a search
unfoldable pub row_of : Model → Derived → Row
row_of m d = record { lacks = false; names = tables_read (explore_at m d.explore) d }

-- a filter is on none of some fields
abbrev pub is_left_out : List ℕ → ℕ × Filter → Bool
is_left_out fields f = not (has_number f.0 fields)

-- the field of a filter, where it is none of some fields
abbrev pub left_out : List ℕ → ℕ × Filter → List ℕ
left_out fields f = if is_left_out fields f then f.0 ∷ [] else []

-- the fields that a derived table's query filters: those of its own filters, and then those of `always_filter` that they leave out
abbrev pub filtered_fields : Explore → List (ℕ × Filter) → List ℕ
filtered_fields x filters = filtered filters ++ flat_map (left_out (filtered filters)) x.always

-- the datagroup of the table of a number, where it is marked and persisted
abbrev pub datagroup_if : List Derived → List Bool → ℕ → List ℕ
datagroup_if tables marks d = if is_marked marks d then listed_value (slice_index_or tables d no_derived).datagroup else []

-- those of the tables of the numbers below n, ascending
abbrev pub marked_datagroups : List Derived → List Bool → ℕ → List ℕ
marked_datagroups tables marks zero = []
marked_datagroups tables marks (suc n) = marked_datagroups tables marks n ++ datagroup_if tables marks n
