-- How the program puts the filters on dimensions together. It is no part of what they are.
use Rattle.std.specs.Prelude.{ℕ, ℤ, nat_eq, Bool, not, List, ◌++◌, filter}
use Rattle.std.specs.Ordering.{nat_cmp, is_le}
use Rattle.std.specs.Cmp.Lexicographic.{slice_cmp}
use Rattle.std.specs.List.{list_any}
use Rattle.lk_types.specs.declared.explore.Explore.{Explore}
use Rattle.lk_types.specs.declared.filter.Filter.{Filter}
use Rattle.lk_semantics.specs.Derived.{by_name}
use Rattle.lk_semantics.specs.Rows.{field_at}
use Rattle.lk_query.specs.Bindings.{each_placed}

-- the name of the first field does not come behind that of the second
abbrev pub is_first_field : Explore → ℕ → ℕ → Bool
is_first_field x f g = is_le (slice_cmp nat_cmp (field_at x f).name (field_at x g).name)

-- a filter on the field stands in front of this one
abbrev pub stands_first : Explore → ℕ → ℕ × Filter → Bool
stands_first x f g = is_first_field x f g.0

-- the filters that are on none of the fields of some
abbrev pub left_out : List (ℕ × Filter) → List (ℕ × Filter) → List (ℕ × Filter)
left_out filters defaults = filter (λ f. not (list_any (λ g. nat_eq f.0 g.0) filters)) defaults

-- filters at their moment, and the defaults that they leave out at it, by their fields' names
abbrev pub with_always_at : ℤ → Explore → List (ℕ × Filter) → List (ℕ × Filter)
with_always_at now x filters = by_name x (filters ++ each_placed now (left_out filters x.always))
