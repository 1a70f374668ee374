-- Rows one after the other, with the marks of those before.
use Rattle.std.proofs.Common.{◌≡◌, ◌∙◌, ◌+◌, ◌<◌, ℕ, Bool, true, false, cond, not, ◌||◌, List, [], ◌∷◌, ◌++◌, length, take, drop, get_or, Option, Some, None, refl, sym, ap, arith}
use Rattle.std.specs.Prelude.{if◌then◌else◌}
use Rattle.std.specs.List.{list_any}
use Rattle.std.proofs.lemmas.List.{take_more, drop_more, length-take-le}
use Rattle.std.proofs.lemmas.List.Folds.{list_any-append}
use Rattle.lk_val.specs.declared.fault.FaultLine.{FaultLine}
use Rattle.lk_schema.specs.Rows.{first_again, have_one_mark, is_marked, stands_again}

-- a row is taken from those that are left
pub taken : {A : Type 0} (rows : List A) (i : ℕ) (x : A) → i < length rows → x ≡ get_or rows i x → drop i rows ≡ x ∷ drop (i + 1) rows
taken rows i x lt is = drop_more rows i x lt ∙ ap (λ y. y ∷ drop (i + 1) rows) (sym is)

-- and stands behind those that were seen
pub put_behind : {A : Type 0} (rows : List A) (i : ℕ) (x : A) → i < length rows → x ≡ get_or rows i x → take (i + 1) rows ≡ take i rows ++ x ∷ []
put_behind rows i x lt is = take_more rows i x lt ∙ ap (λ y. take i rows ++ y ∷ []) (sym is)

pub either : (b c : Bool) → cond b true c ≡ (b || c)
either true c = refl
either false c = refl

one_last : (a b : Bool) → (a || (b || false)) ≡ (b || a)
one_last true true = refl
one_last true false = refl
one_last false true = refl
one_last false false = refl

pub not_true : (b : Bool) → true ≡ not b → b ≡ false
not_true false e = refl
not_true true e = e

pub not_false : (b : Bool) → false ≡ not b → b ≡ true
not_false true e = refl
not_false false e = e

module _ {A M : Type 0} (is_same : M → M → Bool) (mark_of : A → Option M) where
  -- a row of those before has the mark
  abbrev pub is_seen : List A → M → Bool
  is_seen before mark = list_any (λ other. have_one_mark is_same (mark_of other) (Some mark)) before

  no_mark : (o : Option M) → have_one_mark is_same o None ≡ false
  no_mark None = refl
  no_mark (Some m) = refl

  none_seen : (before : List A) → list_any (λ other. have_one_mark is_same (mark_of other) None) before ≡ false
  none_seen [] = refl
  none_seen (x ∷ xs) = rw (no_mark (mark_of x)) (none_seen xs)

  -- whether a row stands again is whether its mark was seen
  again_by : (o : Option M) (before : List A) → list_any (λ other. have_one_mark is_same (mark_of other) o) before ≡ is_marked (is_seen before) o
  again_by None before = none_seen before
  again_by (Some m) before = refl

  -- a row more was seen
  pub seen_more : (rows : List A) (i : ℕ) (x : A) → i < length rows → x ≡ get_or rows i x → (m : M)
      → (have_one_mark is_same (mark_of x) (Some m) || is_seen (take i rows) m) ≡ is_seen (take (i + 1) rows) m
  seen_more rows i x lt is m =
      sym (ap (λ t. is_seen t m) (put_behind rows i x lt is)
      ∙ list_any-append (λ other. have_one_mark is_same (mark_of other) (Some m)) (take i rows) (x ∷ [])
      ∙ one_last (is_seen (take i rows) m) (have_one_mark is_same (mark_of x) (Some m)))

  module _ (line_of : ℕ → A → FaultLine) where
    -- a row stands again where its mark is known
    pub again_known : (known : M → Bool) (before : List A) (x : A) → ((m : M) → known m ≡ is_seen before m)
        → stands_again is_same mark_of line_of before x ≡ is_marked known (mark_of x)
    again_known known before x h = again_by (mark_of x) before ∙ (λ i. is_marked (λ m. sym (h m) i) (mark_of x))

    -- a row that does not stand again is passed
    pub step_new : (rows : List A) (i : ℕ) (x : A) → i < length rows → x ≡ get_or rows i x → stands_again is_same mark_of line_of (take i rows) x ≡ false
        → first_again is_same mark_of line_of (take (i + 1) rows) (drop (i + 1) rows) ≡ first_again is_same mark_of line_of (take i rows) (drop i rows)
    step_new rows i x lt is h =
        ap (λ t. first_again is_same mark_of line_of t (drop (i + 1) rows)) (put_behind rows i x lt is)
        ∙ sym (ap (first_again is_same mark_of line_of (take i rows)) (taken rows i x lt is) ∙ passed (stands_again is_same mark_of line_of (take i rows) x) h)
      where
        passed : (b : Bool) → b ≡ false
            → (if b then Some (line_of (length (take i rows) + 1) x) else first_again is_same mark_of line_of (take i rows ++ x ∷ []) (drop (i + 1) rows))
            ≡ first_again is_same mark_of line_of (take i rows ++ x ∷ []) (drop (i + 1) rows)
        passed false e = refl
        passed true e = cc

    -- a row that stands again has the fault
    pub step_again : (rows : List A) (i : ℕ) (x : A) → i < length rows → x ≡ get_or rows i x → stands_again is_same mark_of line_of (take i rows) x ≡ true
        → Some (line_of (i + 1) x) ≡ first_again is_same mark_of line_of (take i rows) (drop i rows)
    step_again rows i x lt is h =
        sym (ap (first_again is_same mark_of line_of (take i rows)) (taken rows i x lt is)
        ∙ found (stands_again is_same mark_of line_of (take i rows) x) h
        ∙ ap (λ n. Some (line_of (n + 1) x)) (length-take-le i rows (omega arith)))
      where
        found : (b : Bool) → b ≡ true
            → (if b then Some (line_of (length (take i rows) + 1) x) else first_again is_same mark_of line_of (take i rows ++ x ∷ []) (drop (i + 1) rows))
            ≡ Some (line_of (length (take i rows) + 1) x)
        found true e = refl
        found false e = cc
