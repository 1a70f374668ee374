-- Sets, as ascending lists in which no two items tie.
use Rattle.std.specs.Prelude.{Bool, List, [], ◌∷◌, if◌then◌else◌}
use Rattle.std.specs.List.{list_any}
use Rattle.std.specs.Ordering.{match_ordering, eq_by_cmp, is_gt}
use Rattle.std.specs.declared.cmp.Ordering.{Ordering}
use Rattle.std.specs.Cmp.{IsTotalOrder}
use Rattle.std.specs.FinMap.{IsAntisymmetric}

-- a total order in which only equal items tie
pub record IsExactOrder {A : Type 0} (cmp : A → A → Ordering) : Type 0 where
  pub total : IsTotalOrder cmp
  pub exact : IsAntisymmetric cmp

module _ {A : Type 0} (cmp : A → A → Ordering) where
  -- the set with one more item, unless it has it
  abbrev pub with_item : A → List A → List A
  with_item x [] = x ∷ []
  with_item x (y ∷ ys) = match_ordering (cmp x y) (x ∷ y ∷ ys) (y ∷ ys) (y ∷ with_item x ys)

  -- the different items of a list, ascending
  abbrev pub set_of : List A → List A
  set_of [] = []
  set_of (x ∷ xs) = with_item x (set_of xs)

  -- of two items the one that comes first
  abbrev pub first_of : A → A → A
  first_of x y = if is_gt (cmp x y) then y else x

  -- the item ties with one of the list
  abbrev pub has : A → List A → Bool
  has x xs = list_any (eq_by_cmp cmp x) xs
