-- Rows by name, a name further.
use Rattle.std.proofs.Common.{◌≡◌, ◌∙◌, ◌+◌, ◌<◌, ℕ, true, false, cond, List, [], ◌∷◌, ◌++◌, length, map, drop, get_or, Option, Some, refl, sym, ap, subst, append_assoc}
use Rattle.std.specs.Ordering.{nat_cmp, is_eq}
use Rattle.std.specs.Cmp.Lexicographic.{slice_cmp}
use Rattle.std.proofs.lemmas.List.{drop_more}
use Rattle.lk_read.specs.declared.tree.Item.{Item}
use Rattle.lk_merge.specs.Rows.{IsRow}
use Rattle.lk_overlay.proofs.TextLaws.{tied_exact}

pub row_step : (row : List ℕ → List Item) (blocks after : List (List Item)) (names : List (List ℕ)) (i : ℕ) (name : List ℕ) (got : Option (List Item)) (v : List Item)
    → i < length names → name ≡ get_or names i name → IsRow (row name) got → Some v ≡ got → after ≡ blocks ++ v ∷ []
    → after ++ map row (drop (i + 1) names) ≡ blocks ++ map row (drop i names)
row_step row blocks after names i name got v lt is has there e =
    let this : v ≡ row name = subst (IsRow (row name)) (sym there) has in
    ap (λ t. t ++ map row (drop (i + 1) names)) (e ∙ ap (λ z. blocks ++ z ∷ []) (this ∙ ap row is))
    ∙ append_assoc blocks (row (get_or names i name) ∷ []) (map row (drop (i + 1) names))
    ∙ ap (λ xs. blocks ++ map row xs) (sym (drop_more names i name lt))

-- what a map has at each name after a row was put at one
pub put_row : (row : List ℕ → List Item) (old : List ℕ → Option (List Item)) (got : Option (List Item)) (key q : List ℕ) (w : List Item)
    → got ≡ cond (is_eq (slice_cmp nat_cmp key q)) (Some w) (old q) → ((q : List ℕ) → IsRow (row q) (old q)) → w ≡ row key
    → IsRow (row q) got
put_row row old got key q w e has is =
    elim (is_eq (slice_cmp nat_cmp key q)) as (λ b. is_eq (slice_cmp nat_cmp key q) ≡ b → got ≡ cond b (Some w) (old q) → IsRow (row q) got) [
      | true ↦ λ s g. subst (IsRow (row q)) (sym g) (is ∙ ap row (tied_exact key q s))
      | false ↦ λ s g. subst (IsRow (row q)) (sym g) (has q)
    ] refl e
