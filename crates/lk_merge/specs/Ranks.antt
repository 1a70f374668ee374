-- How the program sees that no object extends itself: each name has a number above those of its bases; and which is the
-- least that does: no number rises along bases, it falls at all names before, and a path leads back. It is no part of what
-- a cycle is.
use Rattle.std.specs.Prelude.{ℕ, Bool, false, nat_le, nat_lt, ◌&&◌, if◌then◌else◌, List, [], ◌∷◌, Option, Some, None}
use Rattle.std.specs.List.{list_all}
use Rattle.lk_val.specs.Least.{is_in}
use Rattle.lk_val.specs.Texts.{is_same_text}
use Rattle.lk_overlay.specs.declared.kind.Kind.{Kind}
use Rattle.lk_merge.specs.declared.declaration.Declaration.{Declaration}
use Rattle.lk_merge.specs.Objects.{bases_of, declared_names}

-- the number of a name
abbrev pub rank_in : List (List ℕ) → List ℕ → List ℕ → Option ℕ
rank_in [] ranks name = None
rank_in (first ∷ names) [] name = None
rank_in (first ∷ names) (rank ∷ ranks) name = if is_same_text first name then Some rank else rank_in names ranks name

-- both are there, and the first is below the second
abbrev pub is_below : Option ℕ → Option ℕ → Bool
is_below (Some a) (Some b) = nat_lt a b
is_below a b = false

-- each base's number is below the name's
abbrev pub descends : List (List ℕ) → List ℕ → List ℕ → List (List ℕ) → Bool
descends names ranks name bases = list_all (λ base. is_below (rank_in names ranks base) (rank_in names ranks name)) bases

-- that holds of all names
abbrev pub do_descend : List Declaration → Kind → List (List ℕ) → List ℕ → List (List ℕ) → Bool
do_descend all k names ranks some = list_all (λ name. descends names ranks name (bases_of all k name)) some

-- both are there, and the first is not above the second
abbrev pub is_at_most : Option ℕ → Option ℕ → Bool
is_at_most (Some a) (Some b) = nat_le a b
is_at_most a b = false

-- no base's number is above the name's
abbrev pub keeps_down : List (List ℕ) → List ℕ → List ℕ → List (List ℕ) → Bool
keeps_down names ranks name bases = list_all (λ base. is_at_most (rank_in names ranks base) (rank_in names ranks name)) bases

-- that holds of all names
abbrev pub do_keep_down : List Declaration → Kind → List (List ℕ) → List ℕ → List (List ℕ) → Bool
do_keep_down all k names ranks some = list_all (λ name. keeps_down names ranks name (bases_of all k name)) some

-- a path of bases leads from a name over others to a last one
abbrev pub leads : List Declaration → Kind → List (List ℕ) → List ℕ → List ℕ → Bool
leads all k [] from to = is_in is_same_text to (bases_of all k from)
leads all k (step ∷ path) from to =
    is_in is_same_text step (bases_of all k from) && is_in is_same_text step (declared_names all k) && leads all k path step to
