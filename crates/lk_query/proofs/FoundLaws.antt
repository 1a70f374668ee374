-- What is found for each of some things, one after the other.
use Rattle.std.proofs.Common.{◌≡◌, ◌∙◌, ℕ, ◌+◌, ◌<◌, List, [], ◌∷◌, ◌++◌, length, drop, get_or, append_assoc, append-nil, Option, Some, None, refl, sym, ap}
use Rattle.std.specs.Prelude.{Result, Ok, Err}
use Rattle.std.proofs.lemmas.List.{drop_more}
use Rattle.lk_body.specs.declared.fault.QueryFault.{QueryFault}
use Rattle.lk_query.specs.Refusals.{each_found, found_then, in_front}

-- an item of a list, and those behind it
pub item_here : {A : Type 0} (xs : List A) (i : ℕ) (x : A) → i < length xs → x ≡ get_or xs i x → drop i xs ≡ x ∷ drop (i + 1) xs
item_here xs i x within at = drop_more xs i x within ∙ ap (λ y. y ∷ drop (i + 1) xs) (sym at)

-- one thing more in front of those that follow
pub more_in_front : {B : Type 0} (front : List B) (b : B) (rest : Result (List B) QueryFault) → in_front (front ++ b ∷ []) rest ≡ in_front front (in_front (b ∷ []) rest)
more_in_front front b (Ok bs) = ap Ok (append_assoc front (b ∷ []) bs)
more_in_front front b (Err fault) = refl

-- given: what is found for a thing, the refusal where there is nothing, and what is found for all
module _ {A B : Type 0} (refusal : A → QueryFault) (found : A → Option B) (all : Result (List B) QueryFault) where
  -- what is found for the next goes behind what was found
  pub next_found : (here rest : List A) (front after : List B) (a : A) (b : B) → here ≡ a ∷ rest → Some b ≡ found a → after ≡ front ++ b ∷ []
      → in_front front (each_found refusal found here) ≡ all → in_front after (each_found refusal found rest) ≡ all
  next_found here rest front after a b these is pushed so_far =
      ap (λ bs. in_front bs (each_found refusal found rest)) pushed
      ∙ more_in_front front b (each_found refusal found rest)
      ∙ ap (λ o. in_front front (found_then refusal found a o (each_found refusal found rest))) is
      ∙ ap (λ xs. in_front front (each_found refusal found xs)) (sym these)
      ∙ so_far

  -- the first for which there is nothing is refused
  pub next_refused : (here rest : List A) (front : List B) (a : A) → here ≡ a ∷ rest → None ≡ found a
      → in_front front (each_found refusal found here) ≡ all → Err (refusal a) ≡ all
  next_refused here rest front a these is so_far =
      ap (λ o. in_front front (found_then refusal found a o (each_found refusal found rest))) is
      ∙ ap (λ xs. in_front front (each_found refusal found xs)) (sym these)
      ∙ so_far

  -- behind the last, what was found is all
  pub all_found : (here : List A) (front : List B) → here ≡ [] → in_front front (each_found refusal found here) ≡ all → Ok front ≡ all
  all_found here front none so_far =
      ap Ok (sym (append-nil front)) ∙ ap (λ xs. in_front front (each_found refusal found xs)) (sym none) ∙ so_far

-- given: what some things become, and that it is what each of them becomes, one behind the other
module _ {A B : Type 0} (made : List A → List B) (by_one : (a : A) (rest : List A) → made (a ∷ rest) ≡ made (a ∷ []) ++ made rest) (all : List B) where
  -- what the next becomes goes behind what was made
  pub next_made : (here rest : List A) (front after : List B) (a : A) → here ≡ a ∷ rest → after ≡ front ++ made (a ∷ [])
      → front ++ made here ≡ all → after ++ made rest ≡ all
  next_made here rest front after a these pushed so_far =
      ap (λ bs. bs ++ made rest) pushed
      ∙ append_assoc front (made (a ∷ [])) (made rest)
      ∙ ap (λ bs. front ++ bs) (sym (by_one a rest))
      ∙ ap (λ xs. front ++ made xs) (sym these)
      ∙ so_far
