-- The literals of formulas are of the years 1 to 9999.
use Rattle.std.proofs.Common.{◌≡◌, ℕ, Bool, true, false, ◌&&◌, List, [], ◌∷◌, refl, Option, Some, None}
use Rattle.std.specs.Prelude.{ℤ, IfSome, if◌then◌else◌}
use Rattle.std.specs.List.{AllByRecursion}
use Rattle.std.specs.Option.{option_map}
use Rattle.lk_val.specs.declared.value.Value.{Value}
use Rattle.lk_val.specs.declared.value.Value.TheVariants as value
use Rattle.lk_types.specs.Dates.{are_all_dated, are_cases_dated, are_literals_dated, is_dated}
use Rattle.lk_types.specs.Formula.{Formula, Column, Literal, Framed, Not, And, Or, Compare, IsNull, In, Between, Like, Number, Negate, Concat, Lower, Upper, Case, Coalesce, NullIf, Formulas, no_more, more, Cases, without_else, otherwise, when}
use Rattle.lk_types.specs.Unfolded.{Sides, any_equal, compared_each, equation, from_to, is_text_literal, listed, null_if, null_where_equal, or_equal, others, ranged}
use Rattle.lk_types.specs.declared.kind_set.KindSet.{KindSet}
use Rattle.lk_cell.specs.Days.{day_cell}
use Rattle.lk_cell.specs.Moments.{moment_cell}
use Rattle.lk_cell.proofs.DayLaws.{day_cell-dated}
use Rattle.lk_cell.proofs.MomentLaws.{moment_cell-dated}
use Rattle.lk_dated.specs.Dated.{all_dated_by, cases_dated_by, compared, dated_by, is_time, or_text, read_beside, value_beside}
use Rattle.lk_semantics.proofs.EveryLaws.{both, first, second}

-- ---- literals beside kinds

value_dated : (kinds : KindSet) (v : Value) → is_dated v ≡ true → is_dated (value_beside kinds v) ≡ true
value_dated kinds value.Null h = refl
value_dated kinds (value.Num n) h = refl
value_dated kinds (value.Truth b) h = refl
value_dated kinds (value.Day d) h = h
value_dated kinds (value.Moment m) h = h
value_dated kinds (value.Text text) h = of_time (is_time kinds) kinds.moment
  where
    of_moment : (o : Option ℤ) → IfSome o (λ m. is_dated (value.Moment m) ≡ true) → is_dated (or_text text (option_map value.Moment o)) ≡ true
    of_moment None h = refl
    of_moment (Some m) h = h

    of_day : (o : Option ℤ) → IfSome o (λ d. is_dated (value.Day d) ≡ true) → is_dated (or_text text (option_map value.Day o)) ≡ true
    of_day None h = refl
    of_day (Some d) h = h

    of_time : (a b : Bool) → is_dated (or_text text (if a then (if b then option_map value.Moment (moment_cell text) else option_map value.Day (day_cell text)) else None)) ≡ true
    of_time true true = of_moment (moment_cell text) (moment_cell-dated text)
    of_time true false = of_day (day_cell text) (day_cell-dated text)
    of_time false b = refl

dated_beside : (kinds : KindSet) (e : Formula) → are_literals_dated e ≡ true → are_literals_dated (read_beside kinds e) ≡ true
dated_beside kinds (Column p c) h = h
dated_beside kinds (Literal v) h = value_dated kinds v h
dated_beside kinds (Framed f a) h = h
dated_beside kinds (Not a) h = h
dated_beside kinds (And a b) h = h
dated_beside kinds (Or a b) h = h
dated_beside kinds (Compare c a b) h = h
dated_beside kinds (IsNull a) h = h
dated_beside kinds (In a xs) h = h
dated_beside kinds (Between a low high) h = h
dated_beside kinds (Like a pieces) h = h
dated_beside kinds (Number o a b) h = h
dated_beside kinds (Negate a) h = h
dated_beside kinds (Concat a b) h = h
dated_beside kinds (Lower a) h = h
dated_beside kinds (Upper a) h = h
dated_beside kinds (Case cases) h = h
dated_beside kinds (Coalesce xs) h = h
dated_beside kinds (NullIf a b) h = h

-- ---- comparisons

abbrev AreDated : Sides → Type 0
AreDated sides = (are_literals_dated sides.0 ≡ true) × (are_literals_dated sides.1 ≡ true)

dated_or : (e : Formula) (all : List Sides) → are_literals_dated e ≡ true → AllByRecursion AreDated all → are_literals_dated (or_equal e all) ≡ true
dated_or e [] h k = h
dated_or e (sides ∷ all) h k =
    dated_or (Or e (equation sides)) all
    (both (are_literals_dated e) (are_literals_dated sides.0 && are_literals_dated sides.1) h (both (are_literals_dated sides.0) (are_literals_dated sides.1) k.0.0 k.0.1)) k.1

dated_others : (all : List Sides) → AllByRecursion AreDated all → are_all_dated (others all) ≡ true
dated_others [] k = refl
dated_others (sides ∷ all) k = both (are_literals_dated sides.1) (are_all_dated (others all)) k.0.1 (dated_others all k.1)

module _ (kinds : Formula → KindSet) where
  sides_dated : (a b : Formula) → are_literals_dated a ≡ true → are_literals_dated b ≡ true → AreDated (compared kinds a b)
  sides_dated a b h k = (dated_beside (kinds b) a h, dated_beside (kinds a) b k)

  each_dated : (x : Formula) (xs : Formulas) → are_literals_dated x ≡ true → are_all_dated xs ≡ true → AllByRecursion AreDated (compared_each (compared kinds) x xs)
  each_dated x no_more h k = tt
  each_dated x (more a xs) h k = (sides_dated x a h (first (are_literals_dated a) (are_all_dated xs) k), each_dated x xs h (second (are_literals_dated a) (are_all_dated xs) k))

  listed_dated : (x : Formula) (xs : Formulas) → are_literals_dated x ≡ true → are_all_dated xs ≡ true → are_literals_dated (listed (compared kinds) x xs) ≡ true
  listed_dated x xs h k =
      let all = compared_each (compared kinds) x xs in
      elim (is_text_literal x) as (λ b. are_literals_dated (if b then any_equal all else In x (others all)) ≡ true) [
        | true ↦ dated_or (Literal (value.Truth false)) all refl (each_dated x xs h k)
        | false ↦ both (are_literals_dated x) (are_all_dated (others all)) h (dated_others all (each_dated x xs h k))
      ]

  ranged_dated : (x low high : Formula) → are_literals_dated x ≡ true → are_literals_dated low ≡ true → are_literals_dated high ≡ true → are_literals_dated (ranged (compared kinds) x low high) ≡ true
  ranged_dated x low high h k l =
      let a = compared kinds x low in
      let b = compared kinds x high in
      let in_a = sides_dated x low h k in
      let in_b = sides_dated x high h l in
      elim (is_text_literal x) as (λ t. are_literals_dated (if t then from_to a b else Between x a.1 b.1) ≡ true) [
        | true ↦ both (are_literals_dated a.0 && are_literals_dated a.1) (are_literals_dated b.0 && are_literals_dated b.1)
            (both (are_literals_dated a.0) (are_literals_dated a.1) in_a.0 in_a.1) (both (are_literals_dated b.0) (are_literals_dated b.1) in_b.0 in_b.1)
        | false ↦ both (are_literals_dated x) (are_literals_dated a.1 && are_literals_dated b.1) h (both (are_literals_dated a.1) (are_literals_dated b.1) in_a.1 in_b.1)
      ]

  null_dated : (a b : Formula) → are_literals_dated a ≡ true → are_literals_dated b ≡ true → are_literals_dated (null_if (compared kinds) a b) ≡ true
  null_dated a b h k =
      let sides = compared kinds a b in
      let in_sides = sides_dated a b h k in
      elim (is_text_literal a) as (λ t. are_literals_dated (if t then null_where_equal a sides else NullIf a sides.1) ≡ true) [
        | true ↦ both (are_literals_dated (equation sides)) (true && are_literals_dated a)
            (both (are_literals_dated sides.0) (are_literals_dated sides.1) in_sides.0 in_sides.1) h
        | false ↦ both (are_literals_dated a) (are_literals_dated sides.1) h in_sides.1
      ]

  pub compared_dated : (a b : Formula) → are_literals_dated a ≡ true → are_literals_dated b ≡ true → (are_literals_dated (compared kinds a b).0 && are_literals_dated (compared kinds a b).1) ≡ true
  compared_dated a b h k = let in_sides = sides_dated a b h k in both (are_literals_dated (compared kinds a b).0) (are_literals_dated (compared kinds a b).1) in_sides.0 in_sides.1

  -- ---- the whole expression

  module _ (leaf : ℕ → ℕ → Formula) (leaves : (p c : ℕ) → are_literals_dated (leaf p c) ≡ true) where
    abbrev d : Formula → Formula
    d e = dated_by kinds leaf e

    two : (a b : Formula) → are_literals_dated (d a) ≡ true → are_literals_dated (d b) ≡ true → (are_literals_dated (d a) && are_literals_dated (d b)) ≡ true
    two a b h k = both (are_literals_dated (d a)) (are_literals_dated (d b)) h k

    mutual
      pub read_dated : (e : Formula) → are_literals_dated e ≡ true → are_literals_dated (d e) ≡ true
      read_dated (Column p c) h = leaves p c
      read_dated (Literal v) h = h
      read_dated (Framed f a) h = read_dated a h
      read_dated (Not a) h = read_dated a h
      read_dated (And a b) h = two a b (read_dated a (first (are_literals_dated a) (are_literals_dated b) h)) (read_dated b (second (are_literals_dated a) (are_literals_dated b) h))
      read_dated (Or a b) h = two a b (read_dated a (first (are_literals_dated a) (are_literals_dated b) h)) (read_dated b (second (are_literals_dated a) (are_literals_dated b) h))
      read_dated (Compare c a b) h =
          compared_dated (d a) (d b) (read_dated a (first (are_literals_dated a) (are_literals_dated b) h)) (read_dated b (second (are_literals_dated a) (are_literals_dated b) h))
      read_dated (IsNull a) h = read_dated a h
      read_dated (In a xs) h =
          listed_dated (d a) (all_dated_by kinds leaf xs) (read_dated a (first (are_literals_dated a) (are_all_dated xs) h)) (all_read_dated xs (second (are_literals_dated a) (are_all_dated xs) h))
      read_dated (Between a low high) h =
          let rest = second (are_literals_dated a) (are_literals_dated low && are_literals_dated high) h in
          ranged_dated (d a) (d low) (d high) (read_dated a (first (are_literals_dated a) (are_literals_dated low && are_literals_dated high) h))
          (read_dated low (first (are_literals_dated low) (are_literals_dated high) rest)) (read_dated high (second (are_literals_dated low) (are_literals_dated high) rest))
      read_dated (Like a pieces) h = read_dated a h
      read_dated (Number o a b) h = two a b (read_dated a (first (are_literals_dated a) (are_literals_dated b) h)) (read_dated b (second (are_literals_dated a) (are_literals_dated b) h))
      read_dated (Negate a) h = read_dated a h
      read_dated (Concat a b) h = two a b (read_dated a (first (are_literals_dated a) (are_literals_dated b) h)) (read_dated b (second (are_literals_dated a) (are_literals_dated b) h))
      read_dated (Lower a) h = read_dated a h
      read_dated (Upper a) h = read_dated a h
      read_dated (Case cases) h = cases_read_dated cases h
      read_dated (Coalesce xs) h = all_read_dated xs h
      read_dated (NullIf a b) h =
          null_dated (d a) (d b) (read_dated a (first (are_literals_dated a) (are_literals_dated b) h)) (read_dated b (second (are_literals_dated a) (are_literals_dated b) h))

      all_read_dated : (xs : Formulas) → are_all_dated xs ≡ true → are_all_dated (all_dated_by kinds leaf xs) ≡ true
      all_read_dated no_more h = refl
      all_read_dated (more a xs) h =
          both (are_literals_dated (d a)) (are_all_dated (all_dated_by kinds leaf xs)) (read_dated a (first (are_literals_dated a) (are_all_dated xs) h)) (all_read_dated xs (second (are_literals_dated a) (are_all_dated xs) h))

      cases_read_dated : (cases : Cases) → are_cases_dated cases ≡ true → are_cases_dated (cases_dated_by kinds leaf cases) ≡ true
      cases_read_dated without_else h = refl
      cases_read_dated (otherwise a) h = read_dated a h
      cases_read_dated (when c a rest) h =
          let behind = second (are_literals_dated c) (are_literals_dated a && are_cases_dated rest) h in
          both (are_literals_dated (d c)) (are_literals_dated (d a) && are_cases_dated (cases_dated_by kinds leaf rest)) (read_dated c (first (are_literals_dated c) (are_literals_dated a && are_cases_dated rest) h))
          (both (are_literals_dated (d a)) (are_cases_dated (cases_dated_by kinds leaf rest)) (read_dated a (first (are_literals_dated a) (are_cases_dated rest) behind))
          (cases_read_dated rest (second (are_literals_dated a) (are_cases_dated rest) behind)))
