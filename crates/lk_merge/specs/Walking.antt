-- How the program follows bases without a recursion: objects wait on a stack, each with the length of chains that is left,
-- and declarations are found from behind. It is no part of what an object gives.
use Rattle.std.specs.Prelude.{ℕ, zero, suc, List, [], ◌∷◌, ◌++◌}
use Rattle.std.specs.Borrow.{Bor}
use Rattle.std.specs.List.{sum_by}
use Rattle.lk_read.specs.declared.tree.Item.{Item}
use Rattle.lk_overlay.specs.declared.kind.Kind.{Kind}
use Rattle.lk_merge.specs.declared.declaration.Declaration.{Declaration}
use Rattle.lk_merge.specs.Objects.{bases_of, handed_on, handed_within}

-- what an object that waits gives
abbrev pub handed_at : List Declaration → Kind → ℕ × List ℕ → List (List Item)
handed_at all k entry = handed_within all k entry.0 entry.1

-- what declarations give, the last one first
abbrev pub handed_back : List (Bor Declaration) → List (List Item)
handed_back [] = []
handed_back (d ∷ ds) = handed_back ds ++ handed_on d.now ∷ []

-- how many objects are visited from an object on, itself too
abbrev pub visits : List Declaration → Kind → ℕ → List ℕ → ℕ
visits all k zero name = 1
visits all k (suc n) name = suc (sum_by (visits all k n) (bases_of all k name))

abbrev pub visits_of : List Declaration → Kind → List (ℕ × List ℕ) → ℕ
visits_of all k todo = sum_by (λ entry. visits all k entry.0 entry.1) todo
