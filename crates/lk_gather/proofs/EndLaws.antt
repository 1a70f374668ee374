-- A list that was made item by item, at each step and at its end.
use Rattle.std.proofs.Common.{◌≡◌, ◌∙◌, ◌+◌, ◌<◌, ◌≤◌, ℕ, List, [], ◌∷◌, ◌++◌, ap, drop, get_or, length, subst, sym}
use Rattle.std.proofs.lemmas.List.{append-nil, append_assoc, drop_more}
use Rattle.std.proofs.Math.ListN.{drop_of_length-le}

-- where what was made of the items before a place goes on with whatever is made of the rest, it is whole at the end
pub ended : {A B : Type 0} (R : List A → List B → Type 0) (items : List A) (i : ℕ) (made : List B)
    → length items ≤ i → R [] [] → ((more : List B) → R (drop i items) more → R items (made ++ more)) → R items made
ended R items i made past none h =
    subst (λ m. R items m) (append-nil made) (h [] (subst (λ d. R d []) (sym (drop_of_length-le items past)) none))

-- and it goes on so with one more that is made of the next item
pub going : {A B : Type 0} (R : List A → List B → Type 0) (items : List A) (i : ℕ) (d : A) (before made : List B) (item : B)
    → i < length items → made ≡ before ++ item ∷ [] → ((more : List B) → R (drop (i + 1) items) more → R (get_or items i d ∷ drop (i + 1) items) (item ∷ more))
    → ((more : List B) → R (drop i items) more → R items (before ++ more)) → (more : List B) → R (drop (i + 1) items) more → R items (made ++ more)
going R items i d before made item within made_is step h more rest =
    subst (R items) (sym (ap (λ m. m ++ more) made_is ∙ append_assoc before (item ∷ []) more))
    (h (item ∷ more) (subst (λ left. R left (item ∷ more)) (sym (drop_more items i d within)) (step more rest)))
