-- An expression stays whole where its text literals are read and other whole expressions are put in.
use Rattle.std.proofs.Common.{◌≡◌, ◌∙◌, ℕ, Bool, true, false, ◌&&◌, List, [], ◌∷◌, refl, ap, sym}
use Rattle.std.specs.Prelude.{if◌then◌else◌}
use Rattle.std.specs.List.{AllByRecursion}
use Rattle.lk_val.specs.declared.value.Value.TheVariants as value
use Rattle.lk_types.specs.Formula.{Formula, Column, Literal, Framed, Not, And, Or, Compare, IsNull, In, Between, Like, Number, Negate, Concat, Lower, Upper, Case, Coalesce, NullIf, Formulas, no_more, more, Cases, without_else, otherwise, when}
use Rattle.lk_types.specs.Unfolded.{Sides, any_equal, compared_each, equation, from_to, is_text_literal, listed, null_if, null_where_equal, or_equal, others, ranged}
use Rattle.lk_types.specs.WholeForms.{has_branch, has_item, is_whole_form}
use Rattle.lk_types.specs.declared.kind_set.KindSet.{KindSet}
use Rattle.lk_dated.specs.Dated.{all_dated_by, cases_dated_by, compared, dated_by, read_beside}
use Rattle.lk_semantics.proofs.EveryLaws.{both, first, second}

-- ---- lists and branches

-- each of the expressions is whole
abbrev pub are_whole : Formulas → Bool
are_whole no_more = true
are_whole (more a xs) = is_whole_form a && are_whole xs

-- each condition and each value is
abbrev pub are_whole_cases : Cases → Bool
are_whole_cases without_else = true
are_whole_cases (otherwise a) = is_whole_form a
are_whole_cases (when c a rest) = is_whole_form c && is_whole_form a && are_whole_cases rest

pub call_form : (xs : Formulas) → is_whole_form (Coalesce xs) ≡ (has_item xs && are_whole xs)
call_form no_more = refl
call_form (more a no_more) = refl
call_form (more a (more b xs)) = ap (λ t. is_whole_form a && t) (call_form (more b xs))

pub list_form : (x : Formula) (xs : Formulas) → is_whole_form (In x xs) ≡ (is_whole_form x && has_item xs && are_whole xs)
list_form x no_more = refl
list_form x (more a xs) = ap (λ t. is_whole_form x && true && t) (call_form (more a xs))

pub case_form : (cases : Cases) → is_whole_form (Case cases) ≡ (has_branch cases && are_whole_cases cases)
case_form without_else = refl
case_form (otherwise a) = refl
case_form (when c a without_else) = refl
case_form (when c a (otherwise b)) = refl
case_form (when c a (when d b rest)) = ap (λ t. is_whole_form c && is_whole_form a && t) (case_form (when d b rest))

-- ---- comparisons

whole_beside : (kinds : KindSet) (e : Formula) → is_whole_form e ≡ true → is_whole_form (read_beside kinds e) ≡ true
whole_beside kinds (Column p c) h = h
whole_beside kinds (Literal v) h = refl
whole_beside kinds (Framed f a) h = h
whole_beside kinds (Not a) h = h
whole_beside kinds (And a b) h = h
whole_beside kinds (Or a b) h = h
whole_beside kinds (Compare c a b) h = h
whole_beside kinds (IsNull a) h = h
whole_beside kinds (In a xs) h = h
whole_beside kinds (Between a low high) h = h
whole_beside kinds (Like a pieces) h = h
whole_beside kinds (Number o a b) h = h
whole_beside kinds (Negate a) h = h
whole_beside kinds (Concat a b) h = h
whole_beside kinds (Lower a) h = h
whole_beside kinds (Upper a) h = h
whole_beside kinds (Case cases) h = h
whole_beside kinds (Coalesce xs) h = h
whole_beside kinds (NullIf a b) h = h

-- both sides are whole
abbrev AreWhole : Sides → Type 0
AreWhole sides = (is_whole_form sides.0 ≡ true) × (is_whole_form sides.1 ≡ true)

whole_or : (e : Formula) (all : List Sides) → is_whole_form e ≡ true → AllByRecursion AreWhole all → is_whole_form (or_equal e all) ≡ true
whole_or e [] h k = h
whole_or e (sides ∷ all) h k =
    whole_or (Or e (equation sides)) all
    (both (is_whole_form e) (is_whole_form sides.0 && is_whole_form sides.1) h (both (is_whole_form sides.0) (is_whole_form sides.1) k.0.0 k.0.1)) k.1

whole_others : (all : List Sides) → AllByRecursion AreWhole all → are_whole (others all) ≡ true
whole_others [] k = refl
whole_others (sides ∷ all) k = both (is_whole_form sides.1) (are_whole (others all)) k.0.1 (whole_others all k.1)

module _ (kinds : Formula → KindSet) where
  sides_whole : (a b : Formula) → is_whole_form a ≡ true → is_whole_form b ≡ true → AreWhole (compared kinds a b)
  sides_whole a b h k = (whole_beside (kinds b) a h, whole_beside (kinds a) b k)

  each_whole : (x : Formula) (xs : Formulas) → is_whole_form x ≡ true → are_whole xs ≡ true → AllByRecursion AreWhole (compared_each (compared kinds) x xs)
  each_whole x no_more h k = tt
  each_whole x (more a xs) h k =
      (sides_whole x a h (first (is_whole_form a) (are_whole xs) k), each_whole x xs h (second (is_whole_form a) (are_whole xs) k))

  same_items : (x : Formula) (xs : Formulas) → has_item (others (compared_each (compared kinds) x xs)) ≡ has_item xs
  same_items x no_more = refl
  same_items x (more a xs) = refl

  pub listed_whole : (x : Formula) (xs : Formulas) → is_whole_form x ≡ true → has_item xs ≡ true → are_whole xs ≡ true → is_whole_form (listed (compared kinds) x xs) ≡ true
  listed_whole x xs h some k =
      let all = compared_each (compared kinds) x xs in
      elim (is_text_literal x) as (λ b. is_whole_form (if b then any_equal all else In x (others all)) ≡ true) [
        | true ↦ whole_or (Literal (value.Truth false)) all refl (each_whole x xs h k)
        | false ↦ list_form x (others all) ∙ both (is_whole_form x && has_item (others all)) (are_whole (others all))
            (both (is_whole_form x) (has_item (others all)) h (same_items x xs ∙ some)) (whole_others all (each_whole x xs h k))
      ]

  pub ranged_whole : (x low high : Formula) → is_whole_form x ≡ true → is_whole_form low ≡ true → is_whole_form high ≡ true → is_whole_form (ranged (compared kinds) x low high) ≡ true
  ranged_whole x low high h k l =
      let a = compared kinds x low in
      let b = compared kinds x high in
      let in_a = sides_whole x low h k in
      let in_b = sides_whole x high h l in
      elim (is_text_literal x) as (λ t. is_whole_form (if t then from_to a b else Between x a.1 b.1) ≡ true) [
        | true ↦ both (is_whole_form a.0 && is_whole_form a.1) (is_whole_form b.0 && is_whole_form b.1)
            (both (is_whole_form a.0) (is_whole_form a.1) in_a.0 in_a.1) (both (is_whole_form b.0) (is_whole_form b.1) in_b.0 in_b.1)
        | false ↦ both (is_whole_form x && is_whole_form a.1) (is_whole_form b.1) (both (is_whole_form x) (is_whole_form a.1) h in_a.1) in_b.1
      ]

  pub null_whole : (a b : Formula) → is_whole_form a ≡ true → is_whole_form b ≡ true → is_whole_form (null_if (compared kinds) a b) ≡ true
  null_whole a b h k =
      let sides = compared kinds a b in
      let in_sides = sides_whole a b h k in
      elim (is_text_literal a) as (λ t. is_whole_form (if t then null_where_equal a sides else NullIf a sides.1) ≡ true) [
        | true ↦ both (is_whole_form (equation sides) && true) (is_whole_form a)
            (both (is_whole_form (equation sides)) true (both (is_whole_form sides.0) (is_whole_form sides.1) in_sides.0 in_sides.1) refl) h
        | false ↦ both (is_whole_form a) (is_whole_form sides.1) h in_sides.1
      ]

  pub compared_whole : (a b : Formula) → is_whole_form a ≡ true → is_whole_form b ≡ true → (is_whole_form (compared kinds a b).0 && is_whole_form (compared kinds a b).1) ≡ true
  compared_whole a b h k = let in_sides = sides_whole a b h k in both (is_whole_form (compared kinds a b).0) (is_whole_form (compared kinds a b).1) in_sides.0 in_sides.1

  -- ---- the whole expression

  module _ (leaf : ℕ → ℕ → Formula) (leaves : (p c : ℕ) → is_whole_form (leaf p c) ≡ true) where
    abbrev dated : Formula → Formula
    dated e = dated_by kinds leaf e

    items_kept : (xs : Formulas) → has_item xs ≡ true → has_item (all_dated_by kinds leaf xs) ≡ true
    items_kept no_more h = h
    items_kept (more a xs) h = refl

    branches_kept : (cases : Cases) → has_branch cases ≡ true → has_branch (cases_dated_by kinds leaf cases) ≡ true
    branches_kept without_else h = h
    branches_kept (otherwise a) h = h
    branches_kept (when c a rest) h = refl

    mutual
      pub dated_whole : (e : Formula) → is_whole_form e ≡ true → is_whole_form (dated e) ≡ true
      dated_whole (Column p c) h = leaves p c
      dated_whole (Literal v) h = refl
      dated_whole (Framed f a) h = dated_whole a h
      dated_whole (Not a) h = dated_whole a h
      dated_whole (And a b) h =
          both (is_whole_form (dated a)) (is_whole_form (dated b)) (dated_whole a (first (is_whole_form a) (is_whole_form b) h)) (dated_whole b (second (is_whole_form a) (is_whole_form b) h))
      dated_whole (Or a b) h =
          both (is_whole_form (dated a)) (is_whole_form (dated b)) (dated_whole a (first (is_whole_form a) (is_whole_form b) h)) (dated_whole b (second (is_whole_form a) (is_whole_form b) h))
      dated_whole (Compare c a b) h =
          compared_whole (dated a) (dated b) (dated_whole a (first (is_whole_form a) (is_whole_form b) h)) (dated_whole b (second (is_whole_form a) (is_whole_form b) h))
      dated_whole (IsNull a) h = dated_whole a h
      dated_whole (In a xs) h =
          let parts = sym (list_form a xs) ∙ h in
          let front = first (is_whole_form a && has_item xs) (are_whole xs) parts in
          listed_whole (dated a) (all_dated_by kinds leaf xs) (dated_whole a (first (is_whole_form a) (has_item xs) front))
          (items_kept xs (second (is_whole_form a) (has_item xs) front)) (all_whole xs (second (is_whole_form a && has_item xs) (are_whole xs) parts))
      dated_whole (Between a low high) h =
          let front = first (is_whole_form a && is_whole_form low) (is_whole_form high) h in
          ranged_whole (dated a) (dated low) (dated high) (dated_whole a (first (is_whole_form a) (is_whole_form low) front))
          (dated_whole low (second (is_whole_form a) (is_whole_form low) front)) (dated_whole high (second (is_whole_form a && is_whole_form low) (is_whole_form high) h))
      dated_whole (Like a pieces) h = dated_whole a h
      dated_whole (Number o a b) h =
          both (is_whole_form (dated a)) (is_whole_form (dated b)) (dated_whole a (first (is_whole_form a) (is_whole_form b) h)) (dated_whole b (second (is_whole_form a) (is_whole_form b) h))
      dated_whole (Negate a) h = dated_whole a h
      dated_whole (Concat a b) h =
          both (is_whole_form (dated a)) (is_whole_form (dated b)) (dated_whole a (first (is_whole_form a) (is_whole_form b) h)) (dated_whole b (second (is_whole_form a) (is_whole_form b) h))
      dated_whole (Lower a) h = dated_whole a h
      dated_whole (Upper a) h = dated_whole a h
      dated_whole (Case cases) h =
          let parts = sym (case_form cases) ∙ h in
          case_form (cases_dated_by kinds leaf cases) ∙ both (has_branch (cases_dated_by kinds leaf cases)) (are_whole_cases (cases_dated_by kinds leaf cases))
          (branches_kept cases (first (has_branch cases) (are_whole_cases cases) parts)) (branches_whole cases (second (has_branch cases) (are_whole_cases cases) parts))
      dated_whole (Coalesce xs) h =
          let parts = sym (call_form xs) ∙ h in
          call_form (all_dated_by kinds leaf xs) ∙ both (has_item (all_dated_by kinds leaf xs)) (are_whole (all_dated_by kinds leaf xs))
          (items_kept xs (first (has_item xs) (are_whole xs) parts)) (all_whole xs (second (has_item xs) (are_whole xs) parts))
      dated_whole (NullIf a b) h =
          null_whole (dated a) (dated b) (dated_whole a (first (is_whole_form a) (is_whole_form b) h)) (dated_whole b (second (is_whole_form a) (is_whole_form b) h))

      all_whole : (xs : Formulas) → are_whole xs ≡ true → are_whole (all_dated_by kinds leaf xs) ≡ true
      all_whole no_more h = refl
      all_whole (more a xs) h =
          both (is_whole_form (dated a)) (are_whole (all_dated_by kinds leaf xs))
          (dated_whole a (first (is_whole_form a) (are_whole xs) h)) (all_whole xs (second (is_whole_form a) (are_whole xs) h))

      branches_whole : (cases : Cases) → are_whole_cases cases ≡ true → are_whole_cases (cases_dated_by kinds leaf cases) ≡ true
      branches_whole without_else h = refl
      branches_whole (otherwise a) h = dated_whole a h
      branches_whole (when c a rest) h =
          let front = first (is_whole_form c && is_whole_form a) (are_whole_cases rest) h in
          both (is_whole_form (dated c) && is_whole_form (dated a)) (are_whole_cases (cases_dated_by kinds leaf rest))
          (both (is_whole_form (dated c)) (is_whole_form (dated a)) (dated_whole c (first (is_whole_form c) (is_whole_form a) front)) (dated_whole a (second (is_whole_form c) (is_whole_form a) front)))
          (branches_whole rest (second (is_whole_form c && is_whole_form a) (are_whole_cases rest) h))
