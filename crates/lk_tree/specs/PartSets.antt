-- A set of views as a truth value for each of the first 32.
use Rattle.std.specs.Prelude.{◌≡◌, ℕ, ◌+◌, Bool, true, false, ◌||◌, ◌++◌, ◌∷◌, [], List, if◌then◌else◌, length, slice_index_or}
use Rattle.std.specs.List.{list_any}
use Rattle.lk_types.specs.Expressions.{has_number}
use Rattle.lk_types.specs.declared.explore.Join.{Join}
use Rattle.lk_tree.specs.declared.fanning.Views.{Views}
use Rattle.lk_semantics.specs.Joins.{condition_of, mentions_of, repeats_earlier, repeats_joined}

-- the set has just the views of a list
pub record HasParts (set : List Bool) (parts : List ℕ) : Type 0 where
  pub each : length set ≡ 32
  pub has : (p : ℕ) → slice_index_or set p false ≡ has_number p parts

-- the fanned views behind a join that brings a view, where some views stand before it and some of them are fanned
abbrev pub fanned_by : Join → ℕ → List ℕ → List ℕ → List ℕ
fanned_by join part before fanned =
    (if repeats_joined join || list_any (λ p. has_number p fanned) (mentions_of (condition_of join)) then part ∷ [] else [])
    ++ (if repeats_earlier join then before else fanned)

-- these are the views before a join, and the fanned ones among them
pub record AreViews (views : Views) (before fanned : List ℕ) : Type 0 where
  pub earlier : HasParts views.before before
  pub repeated : HasParts views.fanned fanned

-- these are the views behind a join that brings view j + 1, if it is taken
abbrev pub AreBehind : Bool → Join → ℕ → Views → List ℕ → List ℕ → Type 0
AreBehind true join j views before fanned = AreViews views ((j + 1) ∷ before) (fanned_by join (j + 1) before fanned)
AreBehind false join j views before fanned = AreViews views before fanned
