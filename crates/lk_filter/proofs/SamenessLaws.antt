-- Two tests are the same only where they are equal, so the same filters have the same sets of tests.
use Rattle.std.proofs.Common.{◌≡◌, Bool, true, false, ◌&&◌, ◌||◌, List, [], ◌∷◌, refl, sym, ap, ◌∙◌, eq-eqb}
use Rattle.std.specs.Prelude.{ℕ, ◌==◌, not, Option, Some, None}
use Rattle.std.specs.List.{list_any}
use Rattle.std.specs.Cmp.Lexicographic.{pointwise}
use Rattle.std.specs.Ordering.{int_eq}
use Rattle.std.specs.Cmp.Derive.{both_true}
use Rattle.std.proofs.lemmas.Bool.{false≢true, eqb-true}
use Rattle.std.proofs.lemmas.Bool.Decides.{Decides-int_eq}
use Rattle.lk_val.specs.Fractions.{Fraction}
use Rattle.lk_val.specs.declared.num.Num.{Num}
use Rattle.lk_val.specs.declared.value.Value.{Value}
use Rattle.lk_types.specs.Filters.{is_same_piece, is_same_num, is_same_comparison, is_same_bound, is_same_edge, is_same_truth, is_same_end, is_same_days, is_same_period, is_same_count, is_same_test, are_among, is_same_filter, passes, passes_by, passes_frac}
use Rattle.lk_types.specs.declared.expr.Comparison.{Comparison}
use Rattle.lk_types.specs.declared.expr.Comparison.TheVariants as comparison
use Rattle.lk_types.specs.declared.expr.Piece.TheVariants as piece
use Rattle.lk_types.specs.declared.filter.Filter.{Filter}
use Rattle.lk_types.specs.declared.filter.Edge.TheVariants.{Lowest, At, Highest}
use Rattle.lk_types.specs.declared.filter.Period.{Period}
use Rattle.lk_types.specs.declared.filter.Period.TheVariants.{Day, Week, Month, Quarter, Year}
use Rattle.lk_types.specs.declared.filter.Test.{Test}
use Rattle.lk_types.specs.declared.filter.Test.TheVariants as test
use Rattle.lk_filter.proofs.Steps.{both}

-- ---- what is the same is equal

abbrev IsExact : {A : Type 0} → (A → A → Bool) → Type 0
IsExact {A} same = (x y : A) → same x y ≡ true → x ≡ y

int-exact : IsExact int_eq
int-exact x y = (Decides-int_eq x y).0

num-exact : IsExact is_same_num
num-exact m n e = ap (λ count. record { 0 = count }) (int-exact m.0 n.0 e)

piece-exact : IsExact is_same_piece
piece-exact piece.Any piece.Any e = refl
piece-exact piece.One piece.One e = refl
piece-exact (piece.Byte b) (piece.Byte c) e = ap piece.Byte (eqb-true b c e)
piece-exact p q e = cc

comparison-exact : IsExact is_same_comparison
comparison-exact comparison.Equal comparison.Equal e = refl
comparison-exact comparison.NotEqual comparison.NotEqual e = refl
comparison-exact comparison.Less comparison.Less e = refl
comparison-exact comparison.AtMost comparison.AtMost e = refl
comparison-exact comparison.Greater comparison.Greater e = refl
comparison-exact comparison.AtLeast comparison.AtLeast e = refl
comparison-exact c d e = cc

bound-exact : IsExact is_same_bound
bound-exact None None e = refl
bound-exact (Some m) (Some n) e = ap Some (num-exact m n e)
bound-exact m n e = cc

edge-exact : IsExact is_same_edge
edge-exact Lowest Lowest e = refl
edge-exact (At m) (At n) e = ap At (num-exact m n e)
edge-exact Highest Highest e = refl
edge-exact a b e = cc

truth-exact : IsExact is_same_truth
truth-exact true true e = refl
truth-exact false false e = refl
truth-exact a b e = cc

end-exact : IsExact is_same_end
end-exact a b e =
    let parts = both (is_same_edge a.edge b.edge) (is_same_truth a.closed b.closed) e in
    λ i. record { edge = edge-exact a.edge b.edge parts.0 i; closed = truth-exact a.closed b.closed parts.1 i }

days-exact : IsExact is_same_days
days-exact a b e =
    let parts = both (int_eq a.from b.from) (int_eq a.up_to b.up_to) e in
    λ i. record { from = int-exact a.from b.from parts.0 i; up_to = int-exact a.up_to b.up_to parts.1 i }

pointwise-exact : {A : Type 0} {same : A → A → Bool} → IsExact same → IsExact (pointwise same)
pointwise-exact exact [] [] e = refl
pointwise-exact {same = same} exact (x ∷ xs) (y ∷ ys) e =
    let parts = both (same x y) (pointwise same xs ys) e in
    λ i. exact x y parts.0 i ∷ pointwise-exact exact xs ys parts.1 i
pointwise-exact exact xs ys e = cc

period-exact : IsExact is_same_period
period-exact Day Day e = refl
period-exact Week Week e = refl
period-exact Month Month e = refl
period-exact Quarter Quarter e = refl
period-exact Year Year e = refl
period-exact p q e = cc

-- counts of periods that are the same are equal
count-exact : (m : ℕ) (p : Period) (n : ℕ) (q : Period) → is_same_count m p n q ≡ true → (m ≡ n) × (p ≡ q)
count-exact m p n q e = let parts = both (m == n) (is_same_period p q) e in (eqb-true m n parts.0, period-exact p q parts.1)

pub test-exact : IsExact is_same_test
test-exact test.Null test.Null e = refl
test-exact test.Empty test.Empty e = refl
test-exact (test.Like p) (test.Like q) e = ap test.Like (pointwise-exact piece-exact p q e)
test-exact (test.Is m) (test.Is n) e = ap test.Is (num-exact m n e)
test-exact (test.Compare cs) (test.Compare ds) e = ap test.Compare (pointwise-exact pair-exact cs ds e)
  where
    pair-exact : IsExact (λ (c d : Comparison × Num). is_same_comparison c.0 d.0 && is_same_num c.1 d.1)
    pair-exact c d e =
        let parts = both (is_same_comparison c.0 d.0) (is_same_num c.1 d.1) e in
        λ i. (comparison-exact c.0 d.0 parts.0 i, num-exact c.1 d.1 parts.1 i)
test-exact (test.To a b) (test.To c d) e =
    let parts = both (is_same_bound a c) (is_same_bound b d) e in
    λ i. test.To (bound-exact a c parts.0 i) (bound-exact b d parts.1 i)
test-exact (test.Range a b) (test.Range c d) e =
    let parts = both (is_same_end a c) (is_same_end b d) e in
    λ i. test.Range (end-exact a c parts.0 i) (end-exact b d parts.1 i)
test-exact (test.In a) (test.In b) e = ap test.In (days-exact a b e)
test-exact (test.Before a) (test.Before b) e = ap test.Before (days-exact a b e)
test-exact (test.After a) (test.After b) e = ap test.After (days-exact a b e)
test-exact (test.FromTo a b) (test.FromTo c d) e =
    let parts = both (is_same_days a c) (is_same_days b d) e in
    λ i. test.FromTo (days-exact a c parts.0 i) (days-exact b d parts.1 i)
test-exact test.Today test.Today e = refl
test-exact test.Yesterday test.Yesterday e = refl
test-exact (test.This p) (test.This q) e = ap test.This (period-exact p q e)
test-exact (test.Last p) (test.Last q) e = ap test.Last (period-exact p q e)
test-exact (test.Recent m p) (test.Recent n q) e = let parts = count-exact m p n q e in λ i. test.Recent (parts.0 i) (parts.1 i)
test-exact (test.Ago m p) (test.Ago n q) e = let parts = count-exact m p n q e in λ i. test.Ago (parts.0 i) (parts.1 i)
test-exact (test.Truth a) (test.Truth b) e = ap test.Truth (truth-exact a b e)
test-exact s t e = cc

-- ---- each test is the same as itself

abbrev IsReflexive : {A : Type 0} → (A → A → Bool) → Type 0
IsReflexive {A} same = (x : A) → same x x ≡ true

int-itself : IsReflexive int_eq
int-itself x = (Decides-int_eq x x).1 refl

num-itself : IsReflexive is_same_num
num-itself n = int-itself n.0

piece-itself : IsReflexive is_same_piece
piece-itself piece.Any = refl
piece-itself piece.One = refl
piece-itself (piece.Byte b) = eq-eqb b b refl

comparison-itself : IsReflexive is_same_comparison
comparison-itself comparison.Equal = refl
comparison-itself comparison.NotEqual = refl
comparison-itself comparison.Less = refl
comparison-itself comparison.AtMost = refl
comparison-itself comparison.Greater = refl
comparison-itself comparison.AtLeast = refl

bound-itself : IsReflexive is_same_bound
bound-itself None = refl
bound-itself (Some n) = num-itself n

edge-itself : IsReflexive is_same_edge
edge-itself Lowest = refl
edge-itself (At n) = num-itself n
edge-itself Highest = refl

truth-itself : IsReflexive is_same_truth
truth-itself true = refl
truth-itself false = refl

end-itself : IsReflexive is_same_end
end-itself a = both_true (edge-itself a.edge) (truth-itself a.closed)

days-itself : IsReflexive is_same_days
days-itself a = both_true (int-itself a.from) (int-itself a.up_to)

pointwise-itself : {A : Type 0} (same : A → A → Bool) → IsReflexive same → IsReflexive (pointwise same)
pointwise-itself same itself [] = refl
pointwise-itself same itself (x ∷ xs) = both_true (itself x) (pointwise-itself same itself xs)

period-itself : IsReflexive is_same_period
period-itself Day = refl
period-itself Week = refl
period-itself Month = refl
period-itself Quarter = refl
period-itself Year = refl

count-itself : (n : ℕ) (p : Period) → is_same_count n p n p ≡ true
count-itself n p = both_true (eq-eqb n n refl) (period-itself p)

pub test-itself : IsReflexive is_same_test
test-itself test.Null = refl
test-itself test.Empty = refl
test-itself (test.Like p) = pointwise-itself is_same_piece piece-itself p
test-itself (test.Is n) = num-itself n
test-itself (test.Compare cs) = pointwise-itself (λ (c d : Comparison × Num). is_same_comparison c.0 d.0 && is_same_num c.1 d.1) (λ c. both_true (comparison-itself c.0) (num-itself c.1)) cs
test-itself (test.To a b) = both_true (bound-itself a) (bound-itself b)
test-itself (test.Range a b) = both_true (end-itself a) (end-itself b)
test-itself (test.In a) = days-itself a
test-itself (test.Before a) = days-itself a
test-itself (test.After a) = days-itself a
test-itself (test.FromTo a b) = both_true (days-itself a) (days-itself b)
test-itself test.Today = refl
test-itself test.Yesterday = refl
test-itself (test.This p) = period-itself p
test-itself (test.Last p) = period-itself p
test-itself (test.Recent n p) = count-itself n p
test-itself (test.Ago n p) = count-itself n p
test-itself (test.Truth a) = truth-itself a

-- ---- sets of tests

or_right : (a b : Bool) → b ≡ true → (a || b) ≡ true
or_right true b e = refl
or_right false b e = e

-- what a test of the list meets, some test of the list meets
met_by_one : (met : Test → Bool) (t : Test) (ts : List Test) → list_any (is_same_test t) ts ≡ true → met t ≡ true → list_any met ts ≡ true
met_by_one met t [] e m = absurd (false≢true e)
met_by_one met t (u ∷ us) e m = by (is_same_test t u) refl (λ rest. met_by_one met t us rest m)
  where
    by : (b : Bool) → is_same_test t u ≡ b → (list_any (is_same_test t) us ≡ true → list_any met us ≡ true) → (met u || list_any met us) ≡ true
    by true same further = ap (λ b. b || list_any met us) (ap met (sym (test-exact t u same)) ∙ m)
    by false same further = or_right (met u) (list_any met us) (further (ap (λ b. b || list_any (is_same_test t) us) (sym same) ∙ e))

-- what is met in a list, is met in each list that it lies in
pub any-among : (met : Test → Bool) (ss ts : List Test) → are_among ss ts ≡ true → list_any met ss ≡ true → list_any met ts ≡ true
any-among met [] ts among e = absurd (false≢true e)
any-among met (s ∷ ss) ts among e =
    let parts = both (list_any (is_same_test s) ts) (are_among ss ts) among in
    by (met s) refl parts.0 (any-among met ss ts parts.1)
  where
    by : (b : Bool) → met s ≡ b → list_any (is_same_test s) ts ≡ true → (list_any met ss ≡ true → list_any met ts ≡ true) → list_any met ts ≡ true
    by true m there further = met_by_one met s ts there m
    by false m there further = further (ap (λ b. b || list_any met ss) (sym m) ∙ e)

equal_truth : (a b : Bool) → (a ≡ true → b ≡ true) → (b ≡ true → a ≡ true) → a ≡ b
equal_truth true b to back = sym (to refl)
equal_truth false true to back = back refl
equal_truth false false to back = refl

-- two lists with the same tests are met by the same
any-same : (met : Test → Bool) (ss ts : List Test) → are_among ss ts ≡ true → are_among ts ss ≡ true → list_any met ss ≡ list_any met ts
any-same met ss ts to back = equal_truth (list_any met ss) (list_any met ts) (any-among met ss ts to) (any-among met ts ss back)

among-trans : (rs ss ts : List Test) → are_among rs ss ≡ true → are_among ss ts ≡ true → are_among rs ts ≡ true
among-trans [] ss ts first second = refl
among-trans (r ∷ rs) ss ts first second =
    let parts = both (list_any (is_same_test r) ss) (are_among rs ss) first in
    both_true (any-among (is_same_test r) ss ts second parts.0) (among-trans rs ss ts parts.1 second)

among-more : (ss ts : List Test) (t : Test) → are_among ss ts ≡ true → are_among ss (t ∷ ts) ≡ true
among-more [] ts t e = refl
among-more (s ∷ ss) ts t e =
    let parts = both (list_any (is_same_test s) ts) (are_among ss ts) e in
    both_true (or_right (is_same_test s t) (list_any (is_same_test s) ts) parts.0) (among-more ss ts t parts.1)

among-itself : (ts : List Test) → are_among ts ts ≡ true
among-itself [] = refl
among-itself (t ∷ ts) = both_true (ap (λ b. b || list_any (is_same_test t) ts) (test-itself t)) (among-more ts ts t (among-itself ts))

-- ---- filters

-- the same filters have the same tests
record HaveSameTests (f g : Filter) : Type 0 where
  include_to : are_among f.include g.include ≡ true
  include_back : are_among g.include f.include ≡ true
  exclude_to : are_among f.exclude g.exclude ≡ true
  exclude_back : are_among g.exclude f.exclude ≡ true

parts_of : (f g : Filter) → is_same_filter f g ≡ true → HaveSameTests f g
parts_of f g e =
    let last = both (are_among f.include g.include && are_among g.include f.include && are_among f.exclude g.exclude) (are_among g.exclude f.exclude) e in
    let third = both (are_among f.include g.include && are_among g.include f.include) (are_among f.exclude g.exclude) last.0 in
    let first = both (are_among f.include g.include) (are_among g.include f.include) third.0 in
    record { include_to = first.0; include_back = first.1; exclude_to = third.1; exclude_back = last.1 }

joined : (f g : Filter) → HaveSameTests f g → is_same_filter f g ≡ true
joined f g h = both_true (both_true (both_true h.include_to h.include_back) h.exclude_to) h.exclude_back

pub filter-itself : (f : Filter) → is_same_filter f f ≡ true
filter-itself f = joined f f (record {
  include_to = among-itself f.include;
  include_back = among-itself f.include;
  exclude_to = among-itself f.exclude;
  exclude_back = among-itself f.exclude;
})

turned : (f g : Filter) → is_same_filter f g ≡ true → is_same_filter g f ≡ true
turned f g e =
    let h = parts_of f g e in
    joined g f (record { include_to = h.include_back; include_back = h.include_to; exclude_to = h.exclude_back; exclude_back = h.exclude_to })

pub filter-turned : (f g : Filter) → is_same_filter f g ≡ is_same_filter g f
filter-turned f g = equal_truth (is_same_filter f g) (is_same_filter g f) (turned f g) (turned g f)

pub filter-trans : (f g h : Filter) → is_same_filter f g ≡ true → is_same_filter g h ≡ true → is_same_filter f h ≡ true
filter-trans f g h first second =
    let p = parts_of f g first in
    let q = parts_of g h second in
    joined f h (record {
      include_to = among-trans f.include g.include h.include p.include_to q.include_to;
      include_back = among-trans h.include g.include f.include q.include_back p.include_back;
      exclude_to = among-trans f.exclude g.exclude h.exclude p.exclude_to q.exclude_to;
      exclude_back = among-trans h.exclude g.exclude f.exclude q.exclude_back p.exclude_back;
    })

-- the same filters pass what meets the same tests
passes_by-same : (met : Test → Bool) (f g : Filter) → is_same_filter f g ≡ true → passes_by met f ≡ passes_by met g
passes_by-same met f g e =
    let h = parts_of f g e in
    λ i. (not (any-same (λ t. true) f.include g.include h.include_to h.include_back i)
    || any-same met f.include g.include h.include_to h.include_back i)
    && not (any-same met f.exclude g.exclude h.exclude_to h.exclude_back i)

pub passes-same : (f g : Filter) (v : Value) → is_same_filter f g ≡ true → passes f v ≡ passes g v
passes-same f g v e = passes_by-same _ f g e

pub passes_frac-same : (f g : Filter) (x : Option Fraction) → is_same_filter f g ≡ true → passes_frac f x ≡ passes_frac g x
passes_frac-same f g None e = passes_by-same _ f g e
passes_frac-same f g (Some x) e = passes_by-same _ f g e
