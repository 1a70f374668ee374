-- A search over numbers visits each field once, and marks those that are reached.
use Rattle.std.proofs.Common.{◌≡◌, ℕ, zero, suc, ◌+◌, ◌<◌, ◌≤◌, Bool, true, false, ◌&&◌, ◌||◌, List, [], ◌∷◌, ◌++◌, length, take, Option, Some, None, refl, sym, ap, ◌∙◌, subst, inl, inr, ⊎_elim, arith, length-append}
use Rattle.std.specs.Prelude.{◌⊎◌, cond, nat_eq, slice_get, slice_set}
use Rattle.std.specs.List.{count_by, list_all}
use Rattle.std.specs.Option.{option_and_then}
use Rattle.std.proofs.lemmas.Bool.{eq-eqb, eqb-true, false≢true}
use Rattle.std.proofs.lemmas.List.{take_all}
use Rattle.std.proofs.lemmas.List.Folds.{list_any-append, list_all-append}
use Rattle.std.proofs.lemmas.List.Sums.{count_by-le-length, sum_by-cons}
use Rattle.lk_val.specs.Least.{is_in}
use Rattle.lk_fields.specs.declared.rows.Row.{Row}
use Rattle.lk_fields.specs.Reaching.{AreTaken, IsClosed, IsFit, IsReached, IsSearched, IsVisit, names_at, names_found, names_with}
use Rattle.lk_fields.specs.Rows.{is_marked, no_marks}

or_true : (b : Bool) → (b || true) ≡ true
or_true true = refl
or_true false = refl

one_of : (a b : Bool) → (a || b) ≡ true → (a ≡ true) ⊎ (b ≡ true)
one_of true b h = inl refl
one_of false b h = inr h

both : (a b : Bool) → (a && b) ≡ true → (a ≡ true) × (b ≡ true)
both true b h = (refl, h)
both false b h = absurd (false≢true h)

same_number : (m n : ℕ) → nat_eq m n ≡ true → m ≡ n
same_number m n h = eqb-true m n h

-- a number of one
alone : (m n : ℕ) → is_in nat_eq m (n ∷ []) ≡ true → m ≡ n
alone m n h = ⊎_elim (λ e. same_number m n e) (λ e. absurd (false≢true e)) (one_of (nat_eq m n) false h)

-- ---- marks

abbrev count : List Bool → ℕ
count marks = count_by (λ b. b) marks

counted : (b : Bool) (marks : List Bool) → count (b ∷ marks) ≡ cond b 1 0 + count marks
counted b marks = sum_by-cons (λ x. cond x 1 0) b marks

count_set : (marks : List Bool) (n : ℕ) → n < length marks → is_marked marks n ≡ false → count (slice_set marks n true) ≡ suc (count marks)
count_set [] n lt h = absurd (omega arith)
count_set (b ∷ marks) zero lt h =
    counted true marks ∙ (let e : 1 + count marks ≡ suc (0 + count marks) = omega arith in e)
    ∙ ap (λ x. suc (cond x 1 0 + count marks)) (sym h) ∙ ap (λ x. suc x) (sym (counted b marks))
count_set (b ∷ marks) (suc n) lt h =
    counted b (slice_set marks n true) ∙ ap (λ x. cond b 1 0 + x) (count_set marks n (omega arith) h)
    ∙ (let e : cond b 1 0 + suc (count marks) ≡ suc (cond b 1 0 + count marks) = omega arith in e)
    ∙ ap (λ x. suc x) (sym (counted b marks))

marked_here : (marks : List Bool) (n : ℕ) → n < length marks → is_marked (slice_set marks n true) n ≡ true
marked_here [] n lt = absurd (omega arith)
marked_here (b ∷ marks) zero lt = refl
marked_here (b ∷ marks) (suc n) lt = marked_here marks n (omega arith)

marked_more : (marks : List Bool) (n m : ℕ) → is_marked marks m ≡ true → is_marked (slice_set marks n true) m ≡ true
marked_more [] n m h = absurd (false≢true h)
marked_more (b ∷ marks) zero zero h = refl
marked_more (b ∷ marks) zero (suc m) h = h
marked_more (b ∷ marks) (suc n) zero h = h
marked_more (b ∷ marks) (suc n) (suc m) h = marked_more marks n m h

marked_before : (marks : List Bool) (n m : ℕ) → is_marked (slice_set marks n true) m ≡ true → (m ≡ n) ⊎ (is_marked marks m ≡ true)
marked_before [] n m h = absurd (false≢true h)
marked_before (b ∷ marks) zero zero h = inl refl
marked_before (b ∷ marks) zero (suc m) h = inr h
marked_before (b ∷ marks) (suc n) zero h = inr h
marked_before (b ∷ marks) (suc n) (suc m) h = ⊎_elim (λ e. inl (ap (λ x. suc x) e)) (λ e. inr e) (marked_before marks n m h)

set_length : (marks : List Bool) (n : ℕ) → length (slice_set marks n true) ≡ length marks
set_length [] n = refl
set_length (b ∷ marks) zero = refl
set_length (b ∷ marks) (suc n) = ap (λ x. suc x) (set_length marks n)

-- ---- lists of numbers

in_right : (m : ℕ) (xs ys : List ℕ) → is_in nat_eq m ys ≡ true → is_in nat_eq m (xs ++ ys) ≡ true
in_right m xs ys h = list_any-append (nat_eq m) xs ys ∙ ap (λ b. is_in nat_eq m xs || b) h ∙ or_true (is_in nat_eq m xs)

in_left : (m : ℕ) (xs ys : List ℕ) → is_in nat_eq m xs ≡ true → is_in nat_eq m (xs ++ ys) ≡ true
in_left m xs ys h = list_any-append (nat_eq m) xs ys ∙ ap (λ b. b || is_in nat_eq m ys) h

in_either : (m : ℕ) (xs ys : List ℕ) → is_in nat_eq m (xs ++ ys) ≡ true → (is_in nat_eq m xs ≡ true) ⊎ (is_in nat_eq m ys ≡ true)
in_either m xs ys h = one_of (is_in nat_eq m xs) (is_in nat_eq m ys) (sym (list_any-append (nat_eq m) xs ys) ∙ h)

in_self : (n : ℕ) → is_in nat_eq n (n ∷ []) ≡ true
in_self n = ap (λ b. b || false) (eq-eqb n n refl)

take_front : (xs ys : List ℕ) (k : ℕ) → k ≤ length xs → take k (xs ++ ys) ≡ take k xs
take_front xs ys zero h = refl
take_front [] ys (suc k) h = absurd (omega arith)
take_front (x ∷ xs) ys (suc k) h = ap (λ t. x ∷ t) (take_front xs ys k (omega arith))

take_next : (xs : List ℕ) (k m : ℕ) → is_in nat_eq m (take (suc k) xs) ≡ true → (is_in nat_eq m (take k xs) ≡ true) ⊎ (slice_get xs k ≡ Some m)
take_next [] k m h = absurd (false≢true h)
take_next (x ∷ xs) zero m h = inr (ap (λ n. Some n) (sym (alone m x h)))
take_next (x ∷ xs) (suc k) m h =
    ⊎_elim (λ e. inl (ap (λ b. b || is_in nat_eq m (take k xs)) e))
    (λ e. ⊎_elim (λ f. inl (ap (λ b. nat_eq m x || b) f ∙ or_true (nat_eq m x))) (λ f. inr f) (take_next xs k m e))
    (one_of (nat_eq m x) (is_in nat_eq m (take (suc k) xs)) h)

got_within : (xs : List ℕ) (k v : ℕ) → slice_get xs k ≡ Some v → k < length xs
got_within [] k v h = cc
got_within (x ∷ xs) zero v h = omega arith
got_within (x ∷ xs) (suc k) v h = let lt = got_within xs k v h in omega arith

got_in : (xs : List ℕ) (k v : ℕ) → slice_get xs k ≡ Some v → is_in nat_eq v xs ≡ true
got_in [] k v h = cc
got_in (x ∷ xs) zero v h = let e : x ≡ v = cc in ap (λ b. b || is_in nat_eq v xs) (eq-eqb v x (sym e))
got_in (x ∷ xs) (suc k) v h = ap (λ b. nat_eq v x || b) (got_in xs k v h) ∙ or_true (nat_eq v x)

-- ---- visits

pub visit_none : (marks : List Bool) (found : List ℕ) → IsVisit [] marks found marks found
visit_none marks found = record {
  fit = λ f. f;
  many = refl;
  more = λ m h. h;
  stays = λ k h. refl;
  longer = omega arith;
  visited = λ n h lt. absurd (false≢true h);
  least = λ p h old m marked. old m marked;
  none = λ e. refl;
}

-- a number that needs no visit
visit_not : (n : ℕ) (marks : List Bool) (found : List ℕ) → (n < length marks → is_marked marks n ≡ true) → IsVisit (n ∷ []) marks found marks found
visit_not n marks found done = record {
  fit = λ f. f;
  many = refl;
  more = λ m h. h;
  stays = λ k h. refl;
  longer = omega arith;
  visited = λ m h lt. let e = alone m n h in subst (λ x. is_marked marks x ≡ true) (sym e) (done (subst (λ x. x < length marks) e lt));
  least = λ p h old m marked. old m marked;
  none = λ e. refl;
}

pub visit_past : (n : ℕ) (marks : List Bool) (found : List ℕ) → length marks ≤ n → IsVisit (n ∷ []) marks found marks found
visit_past n marks found past = visit_not n marks found (λ lt. absurd (omega arith))

pub visit_marked : (n : ℕ) (marks : List Bool) (found : List ℕ) → is_marked marks n ≡ true → IsVisit (n ∷ []) marks found marks found
visit_marked n marks found h = visit_not n marks found (λ lt. h)

pub visit_new : (n : ℕ) (marks : List Bool) (found : List ℕ) → n < length marks → is_marked marks n ≡ false → IsVisit (n ∷ []) marks found (slice_set marks n true) (found ++ n ∷ [])
visit_new n marks found lt h = record {
  fit = λ f. record {
    listed = λ m marked. ⊎_elim (λ e. in_right m found (n ∷ []) (subst (λ x. is_in nat_eq x (n ∷ []) ≡ true) (sym e) (in_self n)))
        (λ old. in_left m found (n ∷ []) (f.listed m old)) (marked_before marks n m marked);
    marked = λ m there. ⊎_elim (λ old. marked_more marks n m (f.marked m old))
        (λ e. subst (λ x. is_marked (slice_set marks n true) x ≡ true) (sym (alone m n e)) (marked_here marks n lt)) (in_either m found (n ∷ []) there);
    count = let was = f.count in (let e : length (found ++ n ∷ []) ≡ suc (count marks) = omega (arith, length-append found (n ∷ [])) in e) ∙ sym (count_set marks n lt h);
  };
  many = set_length marks n;
  more = λ m marked. marked_more marks n m marked;
  stays = λ k le. take_front found (n ∷ []) k le;
  longer = omega (arith, length-append found (n ∷ []));
  visited = λ m there lt. subst (λ x. is_marked (slice_set marks n true) x ≡ true) (sym (alone m n there)) (marked_here marks n (subst (λ x. x < length marks) (alone m n there) lt));
  least = λ p all old m marked. ⊎_elim (λ e. subst (λ x. p x ≡ true) (sym e) (both (p n) true all).0) (λ was. old m was) (marked_before marks n m marked);
  none = λ e. cc;
}

not_empty : (xs : List ℕ) (n : ℕ) → xs ++ n ∷ [] ≡ [] → ⊥
not_empty xs n e = let some = ap length e in absurd (omega (arith, length-append xs (n ∷ []), some))

pub visit_more : (ns : List ℕ) (n : ℕ) (marks : List Bool) (found : List ℕ) (now : List Bool) (later : List ℕ) (last : List Bool) (end : List ℕ)
    → IsVisit ns marks found now later → IsVisit (n ∷ []) now later last end → IsVisit (ns ++ n ∷ []) marks found last end
visit_more ns n marks found now later last end a b =
    let longer_a = a.longer in let longer_b = b.longer in let same = a.many in
    record {
      fit = λ f. b.fit (a.fit f);
      many = b.many ∙ a.many;
      more = λ m h. b.more m (a.more m h);
      stays = λ k le. b.stays k (omega (arith, longer_a)) ∙ a.stays k le;
      longer = omega (arith, longer_a, longer_b);
      visited = λ m there lt. ⊎_elim (λ e. b.more m (a.visited m e lt)) (λ e. b.visited m e (omega (arith, same))) (in_either m ns (n ∷ []) there);
      least = λ p all old m marked.
          let parts = both (list_all p ns) (list_all p (n ∷ [])) (sym (list_all-append p ns (n ∷ [])) ∙ all) in
          b.least p parts.1 (a.least p parts.0 old) m marked;
      none = λ e. absurd (not_empty ns n e);
    }

-- ---- the search

unmarked : (rows : List Row) (m : ℕ) → is_marked (no_marks rows) m ≡ false
unmarked [] m = refl
unmarked (r ∷ rows) zero = refl
unmarked (r ∷ rows) (suc m) = unmarked rows m

none_count : (rows : List Row) → count (no_marks rows) ≡ 0
none_count [] = refl
none_count (r ∷ rows) = counted false (no_marks rows) ∙ (let rest = none_count rows in (let e : 0 + count (no_marks rows) ≡ 0 = omega (arith, rest) in e))

none_length : (rows : List Row) → length (no_marks rows) ≡ length rows
none_length [] = refl
none_length (r ∷ rows) = ap (λ n. suc n) (none_length rows)

none_fit : (rows : List Row) → IsFit (no_marks rows) []
none_fit rows = record {
  listed = λ m h. absurd (false≢true (sym (unmarked rows m) ∙ h));
  marked = λ m h. absurd (false≢true h);
  count = sym (none_count rows);
}

taken_by : (marks now : List Bool) (ns : List ℕ) → length now ≡ length marks → ((n : ℕ) → is_in nat_eq n ns ≡ true → n < length marks → is_marked now n ≡ true) → AreTaken now ns
taken_by marks now ns same visited n there lt = visited n there (omega (arith, same))

taken_more : (marks now : List Bool) (ns : List ℕ) → length now ≡ length marks → ((m : ℕ) → is_marked marks m ≡ true → is_marked now m ≡ true) → AreTaken marks ns → AreTaken now ns
taken_more marks now ns same more taken n there lt = more n (taken n there (omega (arith, same)))

pub search_begins : (rows : List Row) (begun : List ℕ) (marks : List Bool) (found : List ℕ) (now : List Bool) (later : List ℕ)
    → marks ≡ no_marks rows → found ≡ [] → IsVisit begun marks found now later → IsSearched rows begun 0 now later
search_begins rows begun marks found now later empty none v = record {
  many = v.many ∙ ap length empty ∙ none_length rows;
  fit = v.fit (subst (λ f. IsFit marks f) (sym none) (subst (λ m. IsFit m []) (sym empty) (none_fit rows)));
  started = taken_by marks now begun v.many v.visited;
  passed = λ m h. absurd (false≢true h);
  least = λ p closed m marked. v.least p closed.first (λ m h. absurd (false≢true (sym (ap (λ ms. is_marked ms m) empty ∙ unmarked rows m) ∙ h))) m marked;
}

pub search_goes_on : (rows : List Row) (begun : List ℕ) (next : ℕ) (marks : List Bool) (found : List ℕ) (now : List Bool) (later : List ℕ)
    → IsSearched rows begun next marks found → IsVisit (names_found rows found next) marks found now later → IsSearched rows begun (next + 1) now later
search_goes_on rows begun next marks found now later s v =
    let one : suc next ≡ next + 1 = omega arith in
    subst (λ n. IsSearched rows begun n now later) one
    (record {
      many = v.many ∙ s.many;
      fit = v.fit s.fit;
      started = taken_more marks now begun v.many v.more s.started;
      passed = λ m there.
          ⊎_elim (λ e. taken_more marks now (names_at rows m) v.many v.more (s.passed m e))
          (λ e. taken_by marks now (names_at rows m) v.many (subst (λ ns. (n : ℕ) → is_in nat_eq n ns ≡ true → n < length marks → is_marked now n ≡ true) (ap (λ o. names_with (option_and_then (slice_get rows) o)) e) v.visited))
          (take_next found next m (subst (λ xs. is_in nat_eq m xs ≡ true) (front (slice_get found next) refl) there));
      least = λ p closed m marked. v.least p (all_of p closed (slice_get found next) refl) (s.least p closed) m marked;
    })
  where
    front : (o : Option ℕ) → slice_get found next ≡ o → take (suc next) later ≡ take (suc next) found
    front None e = ap (take (suc next)) (v.none (ap (λ o. names_with (option_and_then (slice_get rows) o)) e))
    front (Some x) e = let lt = got_within found next x e in v.stays (suc next) (omega (arith, lt))

    all_of : (p : ℕ → Bool) → IsClosed rows begun p → (o : Option ℕ) → slice_get found next ≡ o → list_all p (names_found rows found next) ≡ true
    all_of p closed None e = ap (λ o. list_all p (names_with (option_and_then (slice_get rows) o))) e
    all_of p closed (Some x) e =
        ap (λ o. list_all p (names_with (option_and_then (slice_get rows) o))) e
        ∙ closed.next x (s.least p closed x (s.fit.marked x (got_in found next x e)))

pub search_ends : (rows : List Row) (begun : List ℕ) (next : ℕ) (marks : List Bool) (found : List ℕ) → length rows ≤ next → IsSearched rows begun next marks found → IsReached rows begun marks
search_ends rows begun next marks found end s =
    let fit = s.fit.count in
    let many = s.many in
    let few : length found ≤ next = omega (arith, count_by-le-length (λ (b : Bool). b) marks, fit, many, end) in
    record {
      many = s.many;
      started = s.started;
      closed = λ m marked. s.passed m (subst (λ xs. is_in nat_eq m xs ≡ true) (sym (take_all next found few)) (s.fit.listed m marked));
      least = s.least;
    }
