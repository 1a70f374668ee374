-- How the program finds an object's declaration and refinements: a map from each name to them. It is no part of what they are.
use Rattle.std.specs.Prelude.{◌≡◌, ℕ, List, [], map, option_map, Option, Some, None}
use Rattle.std.specs.Ordering.{nat_cmp}
use Rattle.std.specs.Cmp.Lexicographic.{slice_cmp}
use Rattle.std.specs.Borrow.{Bor}
use Rattle.std.specs.BTreeMap.{BTreeMap, get}
use Rattle.lk_overlay.specs.declared.kind.Kind.{Kind}
use Rattle.lk_merge.specs.declared.declaration.Declaration.{Declaration}
use Rattle.lk_merge.specs.Objects.{own}

-- what a map has at a name
abbrev pub found_at : BTreeMap (List ℕ) (List (Bor Declaration)) → List ℕ → Option (List Declaration)
found_at them name = option_map (λ ds. map (λ d. d.now) ds) (get (slice_cmp nat_cmp) them name)

abbrev pub or_none : Option (List Declaration) → List Declaration
or_none None = []
or_none (Some ds) = ds

abbrev pub own_at : BTreeMap (List ℕ) (List (Bor Declaration)) → List ℕ → List Declaration
own_at them name = or_none (found_at them name)

-- at each name a map has the declaration and then the refinements
abbrev pub HasOwn : List Declaration → Kind → BTreeMap (List ℕ) (List (Bor Declaration)) → Type 0
HasOwn all k them = (name : List ℕ) → own_at them name ≡ own all k name
