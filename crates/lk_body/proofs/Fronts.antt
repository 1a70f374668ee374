-- What is found so far in front of what is left.
use Rattle.std.proofs.Common.{◌≡◌, ◌∙◌, ℕ, List, [], ◌∷◌, ◌++◌, Option, Some, None, append_assoc, ap, refl}
use Rattle.std.specs.Prelude.{option_map}
use Rattle.lk_body.specs.Bodies.{first_and_rest}

-- some items in front of those that follow, if these are there
abbrev pub in_front : {A : Type 0} → List A → Option (List A) → Option (List A)
in_front front None = None
in_front front (Some rest) = Some (front ++ rest)

next_in_front : {A : Type 0} (front : List A) (x : A) (rest : Option (List A)) → in_front (front ++ x ∷ []) rest ≡ in_front front (first_and_rest (Some x) rest)
next_in_front front x None = refl
next_in_front front x (Some rest) = ap Some (append_assoc front (x ∷ []) rest)

-- one pair more
pub pair_in_front : (pairs after : List (List ℕ × List ℕ)) (key text name word : List ℕ) (found : Option (List ℕ)) (rest : Option (List (List ℕ × List ℕ)))
    → after ≡ pairs ++ (name, word) ∷ [] → name ≡ key → word ≡ text → Some text ≡ found
    → in_front after rest ≡ in_front pairs (first_and_rest (option_map (λ t. (key, t)) found) rest)
pair_in_front pairs after key text name word found rest pushed named said is =
    ap (λ ps. in_front ps rest) (pushed ∙ (λ i. pairs ++ (named i, said i) ∷ []))
    ∙ next_in_front pairs (key, text) rest
    ∙ ap (λ o. in_front pairs (first_and_rest (option_map (λ t. (key, t)) o) rest)) is
