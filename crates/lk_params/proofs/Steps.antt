-- Steps of loops over parameters, entries and blocks.
use Rattle.std.proofs.Common.{◌≡◌, ◌∙◌, ℕ, ◌+◌, ◌-◌, ◌<◌, true, false, List, [], ◌∷◌, ◌++◌, length, take, drop, get_or, Option, Some, None, refl, sym, ap, append_assoc}
use Rattle.std.specs.Option.{option_or}
use Rattle.std.specs.Cmp.Lexicographic.{same_text}
use Rattle.std.proofs.lemmas.List.{drop_more, take_rest}
use Rattle.lk_val.specs.Texts.{is_same_text}
use Rattle.lk_params.specs.Known.{begins_liquid, holds_liquid}
use Rattle.lk_params.specs.Values.{prefixed, before_all}
use Rattle.lk_params.specs.Picking.{or_list, firsts, with_new}
use Rattle.lk_params.proofs.FirstLaws.{left, none_known, more_step}

pub option_or_assoc : {A : Type 0} (a b c : Option A) → option_or (option_or a b) c ≡ option_or a (option_or b c)
option_or_assoc None b c = refl
option_or_assoc (Some x) b c = refl

prefixed_step : {A : Type 0} (front : List A) (x : A) (rest : Option (List A))
    → prefixed front (before_all (Some x) rest) ≡ prefixed (front ++ x ∷ []) rest
prefixed_step front x None = refl
prefixed_step front x (Some ys) = ap Some (sym (append_assoc front (x ∷ []) ys))

pub prefixed_more : (front : List (List ℕ)) (x : List ℕ) (rest : Option (List (List ℕ)))
    → prefixed front (before_all (Some x) rest) ≡ prefixed (front ++ x ∷ []) rest
prefixed_more = prefixed_step

pub prefixed_pair : (front : List (List ℕ × List ℕ)) (x : List ℕ × List ℕ) (rest : Option (List (List ℕ × List ℕ)))
    → prefixed front (before_all (Some x) rest) ≡ prefixed (front ++ x ∷ []) rest
prefixed_pair = prefixed_step

-- Liquid begins at none of the bytes before
pub liquid_step : (xs : List ℕ) (i d : ℕ) → i < length xs → begins_liquid (take (length xs - i) (drop i xs)) ≡ false
    → holds_liquid (drop (i + 1) xs) ≡ holds_liquid (drop i xs)
liquid_step xs i d lt none =
    let same : get_or xs i d ∷ drop (i + 1) xs ≡ take (length xs - i) (drop i xs) = sym (drop_more xs i d lt) ∙ sym (take_rest xs i) in
    rw (drop_more xs i d lt) (rw (ap begins_liquid same ∙ none) refl)

pub or_list_assoc : {A : Type 0} (a b c : List A) → or_list (or_list a b) c ≡ or_list a (or_list b c)
or_list_assoc [] b c = refl
or_list_assoc (x ∷ xs) b c = refl

pub text_exact : (x y : List ℕ) → is_same_text x y ≡ true → x ≡ y
text_exact x y e = same_text x y (sym e)

-- a text more, unless it is known
pub text_step : (known : List (List ℕ)) (x : List ℕ) (xs : List (List ℕ))
    → with_new is_same_text known x ++ left is_same_text (with_new is_same_text known x) (firsts is_same_text xs)
    ≡ known ++ left is_same_text known (firsts is_same_text (x ∷ xs))
text_step = more_step is_same_text text_exact

pub text_none : (xs : List (List ℕ)) → left is_same_text [] xs ≡ xs
text_none xs = none_known is_same_text xs
