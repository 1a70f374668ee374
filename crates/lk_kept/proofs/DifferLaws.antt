-- Texts of which none stands twice, and one more before or behind them.
use Rattle.std.proofs.Common.{◌≡◌, ◌∙◌, ◌++◌, ◌∷◌, [], ℕ, Bool, true, false, List, refl, ap}
use Rattle.std.specs.List.{list_any}
use Rattle.std.specs.Prelude.{not, ◌&&◌, ◌||◌}
use Rattle.std.proofs.lemmas.List.Folds.{list_any-append}
use Rattle.std.proofs.lemmas.Slice.Eq.{bytes_eq-Decides}
use Rattle.lk_val.specs.Distinct.{do_differ}
use Rattle.lk_val.specs.Texts.{is_same_text}

pub differ_more : (a b : Bool) → a ≡ false → b ≡ true → (not a && b) ≡ true
differ_more a b e f = rw (e, f) refl

first_differs : (a b : Bool) → (not a && b) ≡ true → (a ≡ false) × (b ≡ true)
first_differs true b e = cc e
first_differs false b e = (refl, e)

pub neither : (a b : Bool) → (a || b) ≡ false → (a ≡ false) × (b ≡ false)
neither true b e = cc e
neither false b e = (refl, e)

-- one more text behind others
pub differ_behind : (names : List (List ℕ)) (name : List ℕ) → do_differ is_same_text names ≡ true
    → list_any (λ (other : List ℕ). is_same_text other name) names ≡ false → do_differ is_same_text (names ++ name ∷ []) ≡ true
differ_behind [] name differ none = refl
differ_behind (first ∷ names) name differ none =
    let those = first_differs (list_any (is_same_text first) names) (do_differ is_same_text names) differ in
    let apart = neither (is_same_text first name) (list_any (λ (other : List ℕ). is_same_text other name) names) none in
    differ_more (list_any (is_same_text first) (names ++ name ∷ [])) (do_differ is_same_text (names ++ name ∷ []))
    (list_any-append (is_same_text first) names (name ∷ [])
    ∙ ap (λ (b : Bool). b || (is_same_text first name || false)) those.0
    ∙ ap (λ (b : Bool). b || false) apart.0)
    (differ_behind names name those.1 apart.1)

pub same_text : (text : List ℕ) → is_same_text text text ≡ true
same_text text = (bytes_eq-Decides text text).1 refl
