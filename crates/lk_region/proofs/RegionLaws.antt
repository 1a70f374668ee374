-- Interned texts: one that is there, and one that comes.
use Rattle.std.proofs.Common.{◌≡◌, ◌<◌, ◌+◌, ◌++◌, ◌∷◌, ◌||◌, ◌⊎◌, [], ℕ, zero, suc, Bool, true, false, List, length, refl, sym, ap, arith, ◌∙◌, true≢false, inl, inr, eq-or-lt_of_le, length-append}
use Rattle.std.specs.List.{list_any}
use Rattle.std.proofs.lemmas.Slice.Eq.{bytes_eq-Decides}
use Rattle.std.proofs.lemmas.List.{get_or_append_left, get_or_push}
use Rattle.lk_val.specs.Texts.{is_same_text}
use Rattle.lk_region.specs.Regions.{text_at, with_text, HasText, KeepsTexts, AreOnce, AreExact}

pub none_once : AreOnce []
unfolding AreOnce
none_once a b a_in b_in same = absurd (omega arith)

pub equal_texts : (text other : List ℕ) → is_same_text text other ≡ true → other ≡ text
equal_texts text other same = sym ((bytes_eq-Decides text other).0 same)

or_true : (b c : Bool) → c ≡ true → (b || c) ≡ true
or_true true c is_true = refl
or_true false c is_true = is_true

has_some : (text : List ℕ) (texts : List (List ℕ)) (n : ℕ) → n < length texts → text_at texts n ≡ text
    → list_any (is_same_text text) texts ≡ true
has_some text [] n below same = absurd (omega arith)
has_some text (x ∷ xs) zero below same = rw ((bytes_eq-Decides text x).1 (sym same)) refl
has_some text (x ∷ xs) (suc n) below same =
    or_true (is_same_text text x) (list_any (is_same_text text) xs) (has_some text xs n (omega arith) same)

pub text_stays : (text : List ℕ) (texts : List (List ℕ)) (n : ℕ) → HasText texts n text
    → texts ≡ with_text text texts
text_stays text texts n has = rw (has_some text texts n has.0 has.1) refl

pub text_comes : (text : List ℕ) (texts : List (List ℕ)) → list_any (is_same_text text) texts ≡ false
    → texts ++ text ∷ [] ≡ with_text text texts
text_comes text texts absent = rw absent refl

pub text_last : (text : List ℕ) (texts : List (List ℕ)) → HasText (texts ++ text ∷ []) (length texts) text
text_last text texts =
    (rw (length-append texts (text ∷ [])) (omega arith), get_or_push texts text [] (length texts) refl)

module _ (text : List ℕ) (texts : List (List ℕ)) (once : AreOnce texts)
    (absent : list_any (is_same_text text) texts ≡ false) where
  -- an earlier number has another text
  other : (n : ℕ) → n < length texts → text_at (texts ++ text ∷ []) n ≡ text_at (texts ++ text ∷ []) (length texts) → ⊥
  other n below same =
      true≢false (sym (has_some text texts n below
      (sym (get_or_append_left texts (text ∷ []) [] n below) ∙ same ∙ get_or_push texts text [] (length texts) refl))
      ∙ absent)

  cases : (n : ℕ) → n < length (texts ++ text ∷ []) → (n ≡ length texts) ⊎ (n < length texts)
  cases n below =
      let inside : n < length texts + 1 = rw (sym (length-append texts (text ∷ []))) below in
      eq-or-lt_of_le (omega (arith, inside))

  pub added_once : AreOnce (texts ++ text ∷ [])
  unfolding AreOnce
  added_once a b a_in b_in same = both (cases a a_in) (cases b b_in)
    where
      both : (a ≡ length texts) ⊎ (a < length texts) → (b ≡ length texts) ⊎ (b < length texts) → a ≡ b
      both (inl a_last) (inl b_last) = a_last ∙ sym b_last
      both (inl a_last) (inr b_old) =
          absurd (other b b_old (sym same ∙ ap (text_at (texts ++ text ∷ [])) a_last))
      both (inr a_old) (inl b_last) =
          absurd (other a a_old (same ∙ ap (text_at (texts ++ text ∷ [])) b_last))
      both (inr a_old) (inr b_old) =
          once a b a_old b_old
          (sym (get_or_append_left texts (text ∷ []) [] a a_old) ∙ same
          ∙ get_or_append_left texts (text ∷ []) [] b b_old)

-- ---- what a caller sees of it

pub same_kept : (texts : List (List ℕ)) → KeepsTexts texts texts
same_kept texts number within = (within, refl)

pub added_kept : (text : List ℕ) (texts : List (List ℕ)) → KeepsTexts texts (texts ++ text ∷ [])
added_kept text texts number within =
    (rw (length-append texts (text ∷ [])) (omega (arith, within)), get_or_append_left texts (text ∷ []) [] number within)

pub once_exact : (texts : List (List ℕ)) → AreOnce texts → AreExact texts
unfolding AreOnce
once_exact texts once a b a_in b_in = (λ same. ap (text_at texts) same, λ same. once a b a_in b_in same)
