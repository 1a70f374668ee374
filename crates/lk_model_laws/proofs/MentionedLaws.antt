-- What is told of an expression hangs only on the parts that it mentions.
use Rattle.std.proofs.Common.{◌≡◌, ◌∙◌, ℕ, Bool, true, false, ◌&&◌, List, [], ◌∷◌, ◌++◌, refl, ap, sym, subst}
use Rattle.std.specs.Prelude.{if◌then◌else◌, not}
use Rattle.std.specs.List.{AllByRecursion, list_all}
use Rattle.std.proofs.lemmas.Bool.{false≢true}
use Rattle.lk_val.specs.declared.value.Value.TheVariants as value
use Rattle.lk_types.specs.Expressions.{mentions, mentions_all, mentions_cases}
use Rattle.lk_types.specs.Formula.{Formula, Column, Literal, Framed, Not, And, Or, Compare, IsNull, In, Between, Like, Number, Negate, Concat, Lower, Upper, Case, Coalesce, NullIf, Formulas, no_more, more, Cases, without_else, otherwise, when}
use Rattle.lk_types.specs.Kinds.{comparable, do_compare, is_empty, kinds_framed, kinds_if, number_if, shared, text_if, truth_if}
use Rattle.lk_types.specs.Unfolded.{Sides, any_equal, compared_each, equation, from_to, is_text_literal, listed, null_if, null_where_equal, or_equal, others, ranged}
use Rattle.lk_types.specs.declared.kind_set.KindSet.{KindSet}
use Rattle.lk_dated.specs.Dated.{all_dated_by, cases_dated_by, compare_sides, compared, dated_by, read_beside}
use Rattle.lk_dated.specs.FormulaKinds.{do_all_compare_by, kinds_by, kinds_of_all_by, kinds_of_cases_by}
use Rattle.lk_semantics.proofs.EveryLaws.{Every, both, every-append, first, second}

-- ---- a text literal that is read mentions nothing

beside_mentions : (kinds : KindSet) (e : Formula) → mentions (read_beside kinds e) ≡ mentions e
beside_mentions kinds (Column p c) = refl
beside_mentions kinds (Literal v) = refl
beside_mentions kinds (Framed f a) = refl
beside_mentions kinds (Not a) = refl
beside_mentions kinds (And a b) = refl
beside_mentions kinds (Or a b) = refl
beside_mentions kinds (Compare c a b) = refl
beside_mentions kinds (IsNull a) = refl
beside_mentions kinds (In a xs) = refl
beside_mentions kinds (Between a low high) = refl
beside_mentions kinds (Like a pieces) = refl
beside_mentions kinds (Number o a b) = refl
beside_mentions kinds (Negate a) = refl
beside_mentions kinds (Concat a b) = refl
beside_mentions kinds (Lower a) = refl
beside_mentions kinds (Upper a) = refl
beside_mentions kinds (Case cases) = refl
beside_mentions kinds (Coalesce xs) = refl
beside_mentions kinds (NullIf a b) = refl

text_mentions : (e : Formula) → is_text_literal e ≡ true → mentions e ≡ []
text_mentions (Literal v) h = refl
text_mentions (Column p c) h = absurd (false≢true h)
text_mentions (Framed f a) h = absurd (false≢true h)
text_mentions (Not a) h = absurd (false≢true h)
text_mentions (And a b) h = absurd (false≢true h)
text_mentions (Or a b) h = absurd (false≢true h)
text_mentions (Compare c a b) h = absurd (false≢true h)
text_mentions (IsNull a) h = absurd (false≢true h)
text_mentions (In a xs) h = absurd (false≢true h)
text_mentions (Between a low high) h = absurd (false≢true h)
text_mentions (Like a pieces) h = absurd (false≢true h)
text_mentions (Number o a b) h = absurd (false≢true h)
text_mentions (Negate a) h = absurd (false≢true h)
text_mentions (Concat a b) h = absurd (false≢true h)
text_mentions (Lower a) h = absurd (false≢true h)
text_mentions (Upper a) h = absurd (false≢true h)
text_mentions (Case cases) h = absurd (false≢true h)
text_mentions (Coalesce xs) h = absurd (false≢true h)
text_mentions (NullIf a b) h = absurd (false≢true h)

module _ (t : ℕ → Bool) where
  -- all parts that an expression mentions pass
  abbrev pub IsOver : Formula → Type 0
  IsOver e = Every t (mentions e)

  pub in_front : (xs ys : List ℕ) → Every t (xs ++ ys) → Every t xs
  in_front [] ys h = refl
  in_front (x ∷ xs) ys h = both (t x) (list_all t xs) (first (t x) (list_all t (xs ++ ys)) h) (in_front xs ys (second (t x) (list_all t (xs ++ ys)) h))

  pub behind : (xs ys : List ℕ) → Every t (xs ++ ys) → Every t ys
  behind [] ys h = h
  behind (x ∷ xs) ys h = behind xs ys (second (t x) (list_all t (xs ++ ys)) h)

  -- ---- the sides of comparisons

  AreOver : Sides → Type 0
  AreOver sides = IsOver sides.0 × IsOver sides.1

  beside_over : (kinds : KindSet) (e : Formula) → IsOver (read_beside kinds e) → IsOver e
  beside_over kinds e h = subst (Every t) (beside_mentions kinds e) h

  or_over : (e : Formula) (all : List Sides) → IsOver (or_equal e all) → IsOver e × AllByRecursion (λ sides. IsOver sides.1) all
  or_over e [] h = (h, tt)
  or_over e (sides ∷ all) h =
      let rest = or_over (Or e (equation sides)) all h in
      (in_front (mentions e) (mentions sides.0 ++ mentions sides.1) rest.0, (behind (mentions sides.0) (mentions sides.1) (behind (mentions e) (mentions sides.0 ++ mentions sides.1) rest.0), rest.1))

  others_over : (all : List Sides) → Every t (mentions_all (others all)) → AllByRecursion (λ sides. IsOver sides.1) all
  others_over [] h = tt
  others_over (sides ∷ all) h = (in_front (mentions sides.1) (mentions_all (others all)) h, others_over all (behind (mentions sides.1) (mentions_all (others all)) h))

  text_over : (e : Formula) → is_text_literal e ≡ true → IsOver e
  text_over e h = subst (Every t) (sym (text_mentions e h)) refl

  module _ (kinds : Formula → KindSet) where
    each_over : (x : Formula) (xs : Formulas) → AllByRecursion (λ sides. IsOver sides.1) (compared_each (compared kinds) x xs) → Every t (mentions_all xs)
    each_over x no_more h = refl
    each_over x (more a xs) h = every-append t (mentions a) (mentions_all xs) (beside_over (kinds x) a h.0) (each_over x xs h.1)

    pub compare_over : (a b : Formula) → Every t (mentions (compared kinds a b).0 ++ mentions (compared kinds a b).1) → IsOver a × IsOver b
    compare_over a b h =
        (beside_over (kinds b) a (in_front (mentions (compared kinds a b).0) (mentions (compared kinds a b).1) h), beside_over (kinds a) b (behind (mentions (compared kinds a b).0) (mentions (compared kinds a b).1) h))

    pub listed_over : (x : Formula) (xs : Formulas) → IsOver (listed (compared kinds) x xs) → IsOver x × Every t (mentions_all xs)
    listed_over x xs h =
        let all = compared_each (compared kinds) x xs in
        elim (is_text_literal x) as (λ b. is_text_literal x ≡ b → IsOver (if b then any_equal all else In x (others all)) → IsOver x × Every t (mentions_all xs)) [
          | true ↦ λ is h. (text_over x is, each_over x xs (or_over (Literal (value.Truth false)) all h).1)
          | false ↦ λ is h. (in_front (mentions x) (mentions_all (others all)) h, each_over x xs (others_over all (behind (mentions x) (mentions_all (others all)) h)))
        ] refl h

    pub ranged_over : (x low high : Formula) → IsOver (ranged (compared kinds) x low high) → IsOver x × IsOver low × IsOver high
    ranged_over x low high h =
        let a = compared kinds x low in
        let b = compared kinds x high in
        elim (is_text_literal x) as (λ d. is_text_literal x ≡ d → IsOver (if d then from_to a b else Between x a.1 b.1) → IsOver x × IsOver low × IsOver high) [
          | true ↦ λ is h.
              let p = in_front (mentions a.0 ++ mentions a.1) (mentions b.0 ++ mentions b.1) h in
              let q = behind (mentions a.0 ++ mentions a.1) (mentions b.0 ++ mentions b.1) h in
              (text_over x is, (compare_over x low p).1, (compare_over x high q).1)
          | false ↦ λ is h.
              let front = in_front (mentions x ++ mentions a.1) (mentions b.1) h in
              (in_front (mentions x) (mentions a.1) front, beside_over (kinds x) low (behind (mentions x) (mentions a.1) front), beside_over (kinds x) high (behind (mentions x ++ mentions a.1) (mentions b.1) h))
        ] refl h

    pub null_over : (a b : Formula) → IsOver (null_if (compared kinds) a b) → IsOver a × IsOver b
    null_over a b h =
        let sides = compared kinds a b in
        elim (is_text_literal a) as (λ d. is_text_literal a ≡ d → IsOver (if d then null_where_equal a sides else NullIf a sides.1) → IsOver a × IsOver b) [
          | true ↦ λ is h. (text_over a is, (compare_over a b (in_front (mentions sides.0 ++ mentions sides.1) [] (in_front (mentions (equation sides) ++ []) (mentions a) h))).1)
          | false ↦ λ is h. (in_front (mentions a) (mentions sides.1) h, beside_over (kinds a) b (behind (mentions a) (mentions sides.1) h))
        ] refl h

  -- ---- the kinds of an expression

  module _ (f g : ℕ → ℕ → KindSet) (same : (p c : ℕ) → t p ≡ true → f p c ≡ g p c) where
    mutual
      -- they are the same where those of the columns of the parts that it mentions are
      pub same_kinds_by : (e : Formula) → IsOver e → kinds_by f e ≡ kinds_by g e
      same_kinds_by (Column p c) h = same p c (first (t p) true h)
      same_kinds_by (Literal v) h = refl
      same_kinds_by (Framed fr a) h = ap (kinds_framed fr) (same_kinds_by a h)
      same_kinds_by (Not a) h = ap (λ (s : KindSet). truth_if s.truth) (same_kinds_by a h)
      same_kinds_by (And a b) h = let p = same_kinds_by a (in_front (mentions a) (mentions b) h) in let q = same_kinds_by b (behind (mentions a) (mentions b) h) in λ i. truth_if ((p i).truth && (q i).truth)
      same_kinds_by (Or a b) h = let p = same_kinds_by a (in_front (mentions a) (mentions b) h) in let q = same_kinds_by b (behind (mentions a) (mentions b) h) in λ i. truth_if ((p i).truth && (q i).truth)
      same_kinds_by (Compare c a b) h = let p = same_kinds_by a (in_front (mentions a) (mentions b) h) in let q = same_kinds_by b (behind (mentions a) (mentions b) h) in λ i. truth_if (do_compare (p i) (q i))
      same_kinds_by (IsNull a) h = ap (λ s. truth_if (not (is_empty s))) (same_kinds_by a h)
      same_kinds_by (In a xs) h =
          let p = same_kinds_by a (in_front (mentions a) (mentions_all xs) h) in
          let q = same_compared (kinds_by g a) xs (behind (mentions a) (mentions_all xs) h) in
          ap (λ s. truth_if (not (is_empty s) && do_all_compare_by f s xs)) p ∙ ap (λ b. truth_if (not (is_empty (kinds_by g a)) && b)) q
      same_kinds_by (Between a low high) h =
          let front = in_front (mentions a ++ mentions low) (mentions high) h in
          let p = same_kinds_by a (in_front (mentions a) (mentions low) front) in
          let q = same_kinds_by low (behind (mentions a) (mentions low) front) in
          let r = same_kinds_by high (behind (mentions a ++ mentions low) (mentions high) h) in
          λ i. truth_if (do_compare (p i) (q i) && do_compare (p i) (r i))
      same_kinds_by (Like a pieces) h = ap (λ (s : KindSet). truth_if s.text) (same_kinds_by a h)
      same_kinds_by (Number o a b) h = let p = same_kinds_by a (in_front (mentions a) (mentions b) h) in let q = same_kinds_by b (behind (mentions a) (mentions b) h) in λ i. number_if ((p i).number && (q i).number)
      same_kinds_by (Negate a) h = ap (λ (s : KindSet). number_if s.number) (same_kinds_by a h)
      same_kinds_by (Concat a b) h = let p = same_kinds_by a (in_front (mentions a) (mentions b) h) in let q = same_kinds_by b (behind (mentions a) (mentions b) h) in λ i. text_if ((p i).text && (q i).text)
      same_kinds_by (Lower a) h = ap (λ (s : KindSet). text_if s.text) (same_kinds_by a h)
      same_kinds_by (Upper a) h = ap (λ (s : KindSet). text_if s.text) (same_kinds_by a h)
      same_kinds_by (Case cases) h = same_cases cases h
      same_kinds_by (Coalesce xs) h = same_all xs h
      same_kinds_by (NullIf a b) h = let p = same_kinds_by a (in_front (mentions a) (mentions b) h) in let q = same_kinds_by b (behind (mentions a) (mentions b) h) in λ i. shared (p i) (comparable (q i))

      same_compared : (s : KindSet) (xs : Formulas) → Every t (mentions_all xs) → do_all_compare_by f s xs ≡ do_all_compare_by g s xs
      same_compared s no_more h = refl
      same_compared s (more a xs) h =
          let p = same_kinds_by a (in_front (mentions a) (mentions_all xs) h) in let q = same_compared s xs (behind (mentions a) (mentions_all xs) h) in λ i. do_compare s (p i) && q i

      same_all : (xs : Formulas) → Every t (mentions_all xs) → kinds_of_all_by f xs ≡ kinds_of_all_by g xs
      same_all no_more h = refl
      same_all (more a xs) h = let p = same_kinds_by a (in_front (mentions a) (mentions_all xs) h) in let q = same_all xs (behind (mentions a) (mentions_all xs) h) in λ i. shared (p i) (q i)

      same_cases : (cases : Cases) → Every t (mentions_cases cases) → kinds_of_cases_by f cases ≡ kinds_of_cases_by g cases
      same_cases without_else h = refl
      same_cases (otherwise a) h = same_kinds_by a h
      same_cases (when c a rest) h =
          let front = in_front (mentions c ++ mentions a) (mentions_cases rest) h in
          let p = same_kinds_by c (in_front (mentions c) (mentions a) front) in
          let q = same_kinds_by a (behind (mentions c) (mentions a) front) in
          let r = same_cases rest (behind (mentions c ++ mentions a) (mentions_cases rest) h) in
          λ i. kinds_if (p i).truth (shared (q i) (r i))

  -- ---- an expression with its text literals read

  module _ (j k : Formula → KindSet) (same : (e : Formula) → IsOver e → j e ≡ k e) where
    same_compared_each : (x : Formula) (xs : Formulas) → IsOver x → Every t (mentions_all xs) → compared_each (compared j) x xs ≡ compared_each (compared k) x xs
    same_compared_each x no_more h l = refl
    same_compared_each x (more a xs) h l =
        let p = same x h in
        let q = same a (in_front (mentions a) (mentions_all xs) l) in
        let r = same_compared_each x xs h (behind (mentions a) (mentions_all xs) l) in
        λ i. (read_beside (q i) x, read_beside (p i) a) ∷ r i

    same_listed : (x : Formula) (xs : Formulas) → IsOver x → Every t (mentions_all xs) → listed (compared j) x xs ≡ listed (compared k) x xs
    same_listed x xs h l = ap (λ all. if is_text_literal x then any_equal all else In x (others all)) (same_compared_each x xs h l)

    same_sides : (a b : Formula) → IsOver a → IsOver b → compared j a b ≡ compared k a b
    same_sides a b h l = let p = same a h in let q = same b l in λ i. (read_beside (q i) a, read_beside (p i) b)

    same_ranged : (x low high : Formula) → IsOver x → IsOver low → IsOver high → ranged (compared j) x low high ≡ ranged (compared k) x low high
    same_ranged x low high h l m =
        let p = same_sides x low h l in let q = same_sides x high h m in λ i. if is_text_literal x then from_to (p i) (q i) else Between x (p i).1 (q i).1

    same_null : (a b : Formula) → IsOver a → IsOver b → null_if (compared j) a b ≡ null_if (compared k) a b
    same_null a b h l = ap (λ sides. if is_text_literal a then null_where_equal a sides else NullIf a sides.1) (same_sides a b h l)

    module _ (leaf : ℕ → ℕ → Formula) where
      abbrev d : Formula → Formula
      d e = dated_by k leaf e

      mutual
        -- it is read alike by kinds that are the same for what mentions such parts
        pub same_dated_by : (e : Formula) → IsOver (d e) → dated_by j leaf e ≡ d e
        same_dated_by (Column p c) h = refl
        same_dated_by (Literal v) h = refl
        same_dated_by (Framed f a) h = ap (Framed f) (same_dated_by a h)
        same_dated_by (Not a) h = ap Not (same_dated_by a h)
        same_dated_by (And a b) h = let p = same_dated_by a (in_front (mentions (d a)) (mentions (d b)) h) in let q = same_dated_by b (behind (mentions (d a)) (mentions (d b)) h) in λ i. And (p i) (q i)
        same_dated_by (Or a b) h = let p = same_dated_by a (in_front (mentions (d a)) (mentions (d b)) h) in let q = same_dated_by b (behind (mentions (d a)) (mentions (d b)) h) in λ i. Or (p i) (q i)
        same_dated_by (Compare c a b) h =
            let over = compare_over k (d a) (d b) h in
            let p = same_dated_by a over.0 in
            let q = same_dated_by b over.1 in
            (λ i. compare_sides c (compared j (p i) (q i))) ∙ ap (compare_sides c) (same_sides (d a) (d b) over.0 over.1)
        same_dated_by (IsNull a) h = ap IsNull (same_dated_by a h)
        same_dated_by (In a xs) h =
            let over = listed_over k (d a) (all_dated_by k leaf xs) h in
            let p = same_dated_by a over.0 in
            let q = all_same_dated_by xs over.1 in
            (λ i. listed (compared j) (p i) (q i)) ∙ same_listed (d a) (all_dated_by k leaf xs) over.0 over.1
        same_dated_by (Between a low high) h =
            let over = ranged_over k (d a) (d low) (d high) h in
            let p = same_dated_by a over.0 in
            let q = same_dated_by low over.1 in
            let r = same_dated_by high over.2 in
            (λ i. ranged (compared j) (p i) (q i) (r i)) ∙ same_ranged (d a) (d low) (d high) over.0 over.1 over.2
        same_dated_by (Like a pieces) h = ap (λ x. Like x pieces) (same_dated_by a h)
        same_dated_by (Number o a b) h = let p = same_dated_by a (in_front (mentions (d a)) (mentions (d b)) h) in let q = same_dated_by b (behind (mentions (d a)) (mentions (d b)) h) in λ i. Number o (p i) (q i)
        same_dated_by (Negate a) h = ap Negate (same_dated_by a h)
        same_dated_by (Concat a b) h = let p = same_dated_by a (in_front (mentions (d a)) (mentions (d b)) h) in let q = same_dated_by b (behind (mentions (d a)) (mentions (d b)) h) in λ i. Concat (p i) (q i)
        same_dated_by (Lower a) h = ap Lower (same_dated_by a h)
        same_dated_by (Upper a) h = ap Upper (same_dated_by a h)
        same_dated_by (Case cases) h = ap Case (cases_same_dated_by cases h)
        same_dated_by (Coalesce xs) h = ap Coalesce (all_same_dated_by xs h)
        same_dated_by (NullIf a b) h =
            let over = null_over k (d a) (d b) h in
            let p = same_dated_by a over.0 in
            let q = same_dated_by b over.1 in
            (λ i. null_if (compared j) (p i) (q i)) ∙ same_null (d a) (d b) over.0 over.1

        all_same_dated_by : (xs : Formulas) → Every t (mentions_all (all_dated_by k leaf xs)) → all_dated_by j leaf xs ≡ all_dated_by k leaf xs
        all_same_dated_by no_more h = refl
        all_same_dated_by (more a xs) h =
            let p = same_dated_by a (in_front (mentions (d a)) (mentions_all (all_dated_by k leaf xs)) h) in
            let q = all_same_dated_by xs (behind (mentions (d a)) (mentions_all (all_dated_by k leaf xs)) h) in
            λ i. more (p i) (q i)

        cases_same_dated_by : (cases : Cases) → Every t (mentions_cases (cases_dated_by k leaf cases)) → cases_dated_by j leaf cases ≡ cases_dated_by k leaf cases
        cases_same_dated_by without_else h = refl
        cases_same_dated_by (otherwise a) h = ap otherwise (same_dated_by a h)
        cases_same_dated_by (when c a rest) h =
            let front = in_front (mentions (d c) ++ mentions (d a)) (mentions_cases (cases_dated_by k leaf rest)) h in
            let p = same_dated_by c (in_front (mentions (d c)) (mentions (d a)) front) in
            let q = same_dated_by a (behind (mentions (d c)) (mentions (d a)) front) in
            let r = cases_same_dated_by rest (behind (mentions (d c) ++ mentions (d a)) (mentions_cases (cases_dated_by k leaf rest)) h) in
            λ i. when (p i) (q i) (r i)
