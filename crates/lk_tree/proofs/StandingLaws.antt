-- Rounds over marks are rounds over what is known of views.
use Rattle.std.proofs.Common.{◌≡◌, ℕ, zero, suc, ◌+◌, ◌<◌, ◌≤◌, Bool, true, false, ◌&&◌, ◌||◌, List, [], ◌∷◌, ◌++◌, map, length, refl, sym, ap, ◌∙◌, subst, arith, ⊎_elim}
use Rattle.std.specs.Prelude.{◌==◌, filter, if◌then◌else◌, not, nat_eq}
use Rattle.std.specs.List.{list_any}
use Rattle.std.specs.Bool.{beq}
use Rattle.std.specs.Cmp.Lexicographic.{pointwise}
use Rattle.std.proofs.lemmas.List.Folds.{list_any-append}
use Rattle.std.proofs.lemmas.Bool.{false≢true, cases_lt, eq-eqb, eqb-true, ne_eqb}
use Rattle.lk_val.specs.Least.{grown, grown_times, is_in, least_set}
use Rattle.lk_types.specs.declared.explore.Explore.{Explore}
use Rattle.lk_semantics.specs.Joins.{join_at, numbers_below}
use Rattle.lk_semantics.specs.Rollups.{Standing, determined, present, all_standings, determined_views, has_full, is_determined_in, is_inner, is_present_in, is_same_standing, stands, standings}
use Rattle.lk_tree.specs.Roles.{is_marked}
use Rattle.lk_tree.specs.Standings.{are_same, finds_earlier_by, finds_joined_by, is_determined_next, is_present_next, marks_times, next_marks}
use Rattle.lk_tree.specs.declared.standing.Standings.{Standings}
use Rattle.lk_tree.proofs.RoundLaws.{at_number, numbers_count, past_numbers}

-- ---- once a round adds nothing, none does

module _ (x : Explore) (joins : List ℕ) (v : ℕ) where
  pub marks_end : (n : ℕ) → next_marks x joins v (marks_times x joins v n) ≡ marks_times x joins v n → (k m : ℕ) → m ≡ k + n → marks_times x joins v m ≡ marks_times x joins v n
  marks_end n kept zero m is = let e : m ≡ n = omega (arith, is) in ap (marks_times x joins v) e
  marks_end n kept (suc k) zero is = absurd (omega (arith, is))
  marks_end n kept (suc k) (suc m) is = ap (next_marks x joins v) (marks_end n kept k m (omega (arith, is))) ∙ kept

-- marks that are the same one by one
pub same_marks : (xs ys : List Bool) → pointwise beq xs ys ≡ true → xs ≡ ys
same_marks [] [] e = refl
same_marks [] (y ∷ ys) e = absurd (false≢true e)
same_marks (x ∷ xs) [] e = absurd (false≢true e)
same_marks (true ∷ xs) (true ∷ ys) e = ap (λ t. true ∷ t) (same_marks xs ys e)
same_marks (false ∷ xs) (false ∷ ys) e = ap (λ t. false ∷ t) (same_marks xs ys e)
same_marks (true ∷ xs) (false ∷ ys) e = absurd (false≢true e)
same_marks (false ∷ xs) (true ∷ ys) e = absurd (false≢true e)

-- ---- what is in a filtered list

and_or : (p a b : Bool) → ((p && a) || (p && b)) ≡ (p && (a || b))
and_or true a b = refl
and_or false a b = refl

if_one : (s : Standing) (b : Bool) (t : Standing) (rest : List Standing) → list_any (is_same_standing s) (if b then t ∷ rest else rest) ≡ ((b && is_same_standing s t) || list_any (is_same_standing s) rest)
if_one s true t rest = refl
if_one s false t rest = refl

same_standing : (s t : Standing) → is_same_standing s t ≡ true → s ≡ t
same_standing (determined v) (determined w) h = ap determined (eqb-true v w h)
same_standing (present v) (present w) h = ap present (eqb-true v w h)
same_standing (determined v) (present w) h = absurd (false≢true h)
same_standing (present v) (determined w) h = absurd (false≢true h)

in_filter : (test : Standing → Bool) (s : Standing) (xs : List Standing) → list_any (is_same_standing s) (filter test xs) ≡ (test s && list_any (is_same_standing s) xs)
in_filter test s [] = none (test s) where
  none : (b : Bool) → false ≡ (b && false)
  none true = refl
  none false = refl
in_filter test s (t ∷ ts) =
    if_one s (test t) t (filter test ts)
    ∙ (λ i. by_same (is_same_standing s t) refl i || in_filter test s ts i)
    ∙ and_or (test s) (is_same_standing s t) (list_any (is_same_standing s) ts)
  where
    by_same : (b : Bool) → is_same_standing s t ≡ b → (test t && is_same_standing s t) ≡ (test s && is_same_standing s t)
    by_same true h = ap (λ u. test u && is_same_standing s t) (sym (same_standing s t h))
    by_same false h = ap (λ b. test t && b) h ∙ none (test t) ∙ sym (none (test s)) ∙ ap (λ b. test s && b) (sym h) where
      none : (b : Bool) → (b && false) ≡ false
      none true = refl
      none false = refl

-- ---- the standings of all views

-- the number is one of those below n
abbrev pub is_below : ℕ → ℕ → Bool
is_below w n = list_any (nat_eq w) (numbers_below n)

or_none : (a : Bool) → (a || false) ≡ a
or_none true = refl
or_none false = refl

or_all : (a : Bool) → (a || true) ≡ true
or_all true = refl
or_all false = refl

and_all : (a : Bool) → (a && true) ≡ a
and_all true = refl
and_all false = refl

and_none : (a : Bool) → (a && false) ≡ false
and_none true = refl
and_none false = refl

pub below : (w n : ℕ) → w < n → is_below w n ≡ true
below w zero h = absurd (omega (arith, h))
below w (suc n) h =
    list_any-append (nat_eq w) (numbers_below n) (n ∷ [])
    ∙ ⊎_elim
    (λ less. ap (λ b. b || (nat_eq w n || false)) (below w n less))
    (λ past. let e : w ≡ n = omega (arith, h, past) in ap (λ b. is_below w n || (b || false)) (eq-eqb w n e) ∙ or_all (is_below w n))
    (cases_lt w n)

pub above : (w n : ℕ) → n ≤ w → is_below w n ≡ false
above w zero h = refl
above w (suc n) h =
    list_any-append (nat_eq w) (numbers_below n) (n ∷ [])
    ∙ (λ i. above w n (omega (arith, h)) i || (ne_eqb w n (λ e. omega (arith, h, e)) i || false))

among_determined : (w : ℕ) (ns : List ℕ) → is_determined_in (map determined ns) w ≡ list_any (nat_eq w) ns
among_determined w [] = refl
among_determined w (n ∷ ns) = ap (λ b. nat_eq w n || b) (among_determined w ns)

not_present : (w : ℕ) (ns : List ℕ) → is_determined_in (map present ns) w ≡ false
not_present w [] = refl
not_present w (n ∷ ns) = not_present w ns

among_present : (w : ℕ) (ns : List ℕ) → is_present_in (map present ns) w ≡ list_any (nat_eq w) ns
among_present w [] = refl
among_present w (n ∷ ns) = ap (λ b. nat_eq w n || b) (among_present w ns)

not_determined : (w : ℕ) (ns : List ℕ) → is_present_in (map determined ns) w ≡ false
not_determined w [] = refl
not_determined w (n ∷ ns) = not_determined w ns

module _ (x : Explore) (w : ℕ) where
  abbrev all : List ℕ
  all = numbers_below (length x.parts)

  determined_of_all : is_determined_in (all_standings x) w ≡ is_below w (length x.parts)
  determined_of_all =
      list_any-append (is_same_standing (determined w)) (map determined all) (map present all)
      ∙ (λ i. among_determined w all i || not_present w all i)
      ∙ or_none (is_below w (length x.parts))

  present_of_all : is_present_in (all_standings x) w ≡ is_below w (length x.parts)
  present_of_all =
      list_any-append (is_same_standing (present w)) (map determined all) (map present all)
      ∙ (λ i. not_determined w all i || among_present w all i)

-- a mark of each view
marks_below : (f : ℕ → Bool) (n w : ℕ) → is_marked (map f (numbers_below n)) w ≡ (f w && is_below w n)
marks_below f n w =
    ⊎_elim
    (λ less. at_number f false n w less ∙ sym (and_all (f w)) ∙ ap (λ b. f w && b) (sym (below w n less)))
    (λ past. past_numbers f false n w past ∙ sym (and_none (f w)) ∙ ap (λ b. f w && b) (sym (above w n past)))
    (cases_lt w n)

-- ---- the marks are those of what is known

pub record AreStandings (marks : Standings) (known : List Standing) : Type 0 where
  pub determined : (w : ℕ) → is_marked marks.determined w ≡ is_determined_in known w
  pub present : (w : ℕ) → is_marked marks.present w ≡ is_present_in known w

module _ (x : Explore) (joins : List ℕ) (v : ℕ) where
  abbrev round : List Standing → List Standing
  round known = grown is_same_standing (all_standings x) (stands x joins v) known

  module _ (marks : Standings) (known : List Standing) (h : AreStandings marks known) (w : ℕ) where
    says_determined : is_determined_next x joins v marks w ≡ (is_in is_same_standing (determined w) known || stands x joins v known (determined w))
    says_determined = λ i. h.determined w i || ((w == v) || (not (has_full x joins) && list_any (λ j. finds_joined_by x (λ p. h.determined p i) w j || finds_earlier_by x (λ p. h.determined p i) (λ p. h.present p i) w j) joins))

    says_present : is_present_next x joins v marks w ≡ (is_in is_same_standing (present w) known || stands x joins v known (present w))
    says_present = λ i. h.present w i || ((w == v) || (not (has_full x joins) && list_any (λ j. (finds_joined_by x (λ p. h.determined p i) w j && is_inner (join_at x j).kind) || finds_earlier_by x (λ p. h.determined p i) (λ p. h.present p i) w j) joins))

    abbrev stays : Standing → Bool
    stays s = is_in is_same_standing s known || stands x joins v known s

    next_determined : is_marked (next_marks x joins v marks).determined w ≡ is_determined_in (round known) w
    next_determined =
        marks_below (is_determined_next x joins v marks) (length x.parts) w
        ∙ (λ i. says_determined i && sym (determined_of_all x w) i)
        ∙ sym (in_filter stays (determined w) (all_standings x))

    next_present : is_marked (next_marks x joins v marks).present w ≡ is_present_in (round known) w
    next_present =
        marks_below (is_present_next x joins v marks) (length x.parts) w
        ∙ (λ i. says_present i && sym (present_of_all x w) i)
        ∙ sym (in_filter stays (present w) (all_standings x))

  marks_after : (n : ℕ) → AreStandings (marks_times x joins v n) (grown_times is_same_standing (all_standings x) (stands x joins v) n)
  marks_after zero = record { determined = λ w. refl; present = λ w. refl }
  marks_after (suc n) =
      let before = marks_after n in
      let marks = marks_times x joins v n in
      let known = grown_times is_same_standing (all_standings x) (stands x joins v) n in
      record { determined = next_determined marks known before; present = next_present marks known before }

  count_map : {A : Type 0} (f : ℕ → A) (ns : List ℕ) → length (map f ns) ≡ length ns
  count_map f [] = refl
  count_map f (n ∷ ns) = ap suc (count_map f ns)

  count_both : (ss ts : List Standing) → length (ss ++ ts) ≡ length ss + length ts
  count_both [] ts = let e : length ts ≡ 0 + length ts = omega arith in e
  count_both (s ∷ ss) ts = let rest = count_both ss ts in let e : suc (length (ss ++ ts)) ≡ suc (length ss) + length ts = omega (arith, rest) in e

  pub rounds_count : length (all_standings x) ≡ length x.parts + length x.parts
  rounds_count =
      let ns = numbers_below (length x.parts) in
      count_both (map determined ns) (map present ns)
      ∙ (λ i. (count_map determined ns ∙ numbers_count (length x.parts)) i + (count_map present ns ∙ numbers_count (length x.parts)) i)

  -- the views that are marked after all rounds are the determined ones
  pub marked_are_determined : filter (is_marked (marks_times x joins v (length x.parts + length x.parts)).determined) (numbers_below (length x.parts)) ≡ determined_views x joins v
  marked_are_determined =
      let last = marks_after (length x.parts + length x.parts) in
      (λ i. filter (λ w. last.determined w i) (numbers_below (length x.parts)))
      ∙ ap (λ n. filter (is_determined_in (grown_times is_same_standing (all_standings x) (stands x joins v) n)) (numbers_below (length x.parts))) (sym rounds_count)

both_true : (a b : Bool) → (a && b) ≡ true → (a ≡ true) × (b ≡ true)
both_true true b h = (refl, h)
both_true false b h = absurd (false≢true h)

pub same_standings : (a b : Standings) → are_same a b ≡ true → a ≡ b
same_standings a b h =
    let parts = both_true (pointwise beq a.determined b.determined) (pointwise beq a.present b.present) h in
    λ i. record { determined = same_marks a.determined b.determined parts.0 i; present = same_marks a.present b.present parts.1 i }
