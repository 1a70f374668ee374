-- Rounds that add nothing add nothing further, and what is found by number is what is defined.
use Rattle.std.proofs.Common.{◌≡◌, ℕ, zero, suc, ◌+◌, ◌<◌, ◌≤◌, Bool, true, false, ◌||◌, List, [], ◌∷◌, ◌++◌, drop, map, length, refl, sym, ap, ◌∙◌, arith, cond, ⊎_elim}
use Rattle.std.specs.Prelude.{filter, if◌then◌else◌, nat_eq, slice_index_or}
use Rattle.std.specs.List.{list_any}
use Rattle.std.proofs.lemmas.Bool.{cases_lt}
use Rattle.std.proofs.lemmas.List.{drop_more, map-append}
use Rattle.std.proofs.lemmas.List.Elements.{filter-append}
use Rattle.lk_val.specs.Least.{grown, grown_times}
use Rattle.lk_types.specs.Expressions.{has_number}
use Rattle.lk_types.specs.declared.explore.Explore.{Explore}
use Rattle.lk_types.specs.declared.explore.Join.{Join}
use Rattle.lk_semantics.specs.Joins.{brings_one_of, condition_of, is_asked, mentions_of, no_join, numbers_below}
use Rattle.lk_tree.specs.Asking.{IsAsking, does_ask, is_asked_first}

-- ---- rounds

module _ (all : List ℕ) (rule : List ℕ → ℕ → Bool) where
  -- once a round adds nothing, none does
  pub rounds_end : (n : ℕ) → grown nat_eq all rule (grown_times nat_eq all rule n) ≡ grown_times nat_eq all rule n → (k m : ℕ) → m ≡ k + n → grown_times nat_eq all rule m ≡ grown_times nat_eq all rule n
  rounds_end n kept zero m is = let e : m ≡ n = omega (arith, is) in ap (grown_times nat_eq all rule) e
  rounds_end n kept (suc k) zero is = absurd (omega (arith, is))
  rounds_end n kept (suc k) (suc m) is = ap (grown nat_eq all rule) (rounds_end n kept k m (omega (arith, is))) ∙ kept

-- ---- numbers in order

at_first : {A : Type 0} (xs ys : List A) (j : ℕ) (d : A) → j < length xs → slice_index_or (xs ++ ys) j d ≡ slice_index_or xs j d
at_first [] ys j d within = absurd (omega (arith, within))
at_first (x ∷ xs) ys zero d within = refl
at_first (x ∷ xs) ys (suc j) d within = at_first xs ys j d (omega (arith, within))

at_last : {A : Type 0} (xs : List A) (y : A) (j : ℕ) (d : A) → j ≡ length xs → slice_index_or (xs ++ y ∷ []) j d ≡ y
at_last [] y zero d is = refl
at_last [] y (suc j) d is = absurd (omega (arith, is))
at_last (x ∷ xs) y zero d is = absurd (omega (arith, is))
at_last (x ∷ xs) y (suc j) d is = at_last xs y j d (omega (arith, is))

at_past : {A : Type 0} (xs : List A) (j : ℕ) (d : A) → length xs ≤ j → slice_index_or xs j d ≡ d
at_past [] j d past = refl
at_past (x ∷ xs) zero d past = absurd (omega (arith, past))
at_past (x ∷ xs) (suc j) d past = at_past xs j d (omega (arith, past))

length_append_one : {A : Type 0} (xs : List A) (y : A) → length (xs ++ y ∷ []) ≡ suc (length xs)
length_append_one [] y = refl
length_append_one (x ∷ xs) y = ap suc (length_append_one xs y)

pub numbers_count : (n : ℕ) → length (numbers_below n) ≡ n
numbers_count zero = refl
numbers_count (suc n) = length_append_one (numbers_below n) n ∙ ap suc (numbers_count n)

module _ {A : Type 0} (f : ℕ → A) (d : A) where
  map_length : (ns : List ℕ) → length (map f ns) ≡ length ns
  map_length [] = refl
  map_length (m ∷ ns) = ap suc (map_length ns)

  numbers_length : (n : ℕ) → length (map f (numbers_below n)) ≡ n
  numbers_length n = map_length (numbers_below n) ∙ numbers_count n

  -- what stands at a number, of what is made of the numbers in order
  pub at_number : (n j : ℕ) → j < n → slice_index_or (map f (numbers_below n)) j d ≡ f j
  at_number zero j within = absurd (omega (arith, within))
  at_number (suc n) j within =
      ap (λ xs. slice_index_or xs j d) (map-append f (numbers_below n) (n ∷ []))
      ∙ ⊎_elim
      (λ less. at_first (map f (numbers_below n)) (f n ∷ []) j d (omega (arith, less, numbers_length n)) ∙ at_number n j less)
      (λ past. let e : n ≡ j = omega (arith, within, past) in at_last (map f (numbers_below n)) (f n) j d (omega (arith, within, past, numbers_length n)) ∙ ap f e)
      (cases_lt j n)

  pub past_numbers : (n j : ℕ) → n ≤ j → slice_index_or (map f (numbers_below n)) j d ≡ d
  past_numbers n j past = at_past (map f (numbers_below n)) j d (omega (arith, past, numbers_length n))

-- what is made of one number more
pub made_more : {A : Type 0} (f : ℕ → A) (made more : List A) (j : ℕ) (y : A) → made ≡ map f (numbers_below j) → y ≡ f j → more ≡ made ++ y ∷ [] → more ≡ map f (numbers_below (j + 1))
made_more f made more j y so_far is more_is =
    let next : suc j ≡ j + 1 = omega arith in
    more_is
    ∙ (λ i. so_far i ++ is i ∷ [])
    ∙ sym (map-append f (numbers_below j) (j ∷ []))
    ∙ ap (λ n. map f (numbers_below n)) next

-- ---- one item more

-- whether an item is found, and what is found behind it
pub found_from : {A : Type 0} (test : A → Bool) (xs : List A) (i : ℕ) (d : A) (is found all : Bool) → i < length xs → is ≡ test (slice_index_or xs i d) → is ≡ found → list_any test (drop i xs) ≡ all
    → (found || list_any test (drop (i + 1) xs)) ≡ all
found_from test xs i d is found all within tested known so_far =
    ap (λ b. b || list_any test (drop (i + 1) xs)) (sym known ∙ tested) ∙ sym (ap (list_any test) (drop_more xs i d within)) ∙ so_far

-- ---- which joins are asked for

module _ (x : Explore) (parts : List ℕ) (asked : List Bool) (asking : List (List Bool)) (is : IsAsking x parts asked asking) (j : ℕ) (within : j < length x.joins) where
  no_ask : (i : ℕ) → length x.joins ≤ i → does_ask x i j ≡ false
  no_ask i past = ap (λ (join : Join). has_number j join.required || brings_one_of (mentions_of (condition_of join)) j) (at_past x.joins i no_join past)

  asks : (i : ℕ) → slice_index_or (slice_index_or asking i []) j false ≡ does_ask x i j
  asks i =
      ap (λ (all : List (List Bool)). slice_index_or (slice_index_or all i []) j false) is.asking
      ∙ ⊎_elim
      (λ less. ap (λ (row : List Bool). slice_index_or row j false) (at_number (λ k. map (does_ask x k) (numbers_below (length x.joins))) [] (length x.joins) i less) ∙ at_number (does_ask x i) false (length x.joins) j within)
      (λ past. ap (λ (row : List Bool). slice_index_or row j false) (past_numbers (λ k. map (does_ask x k) (numbers_below (length x.joins))) [] (length x.joins) i past) ∙ sym (no_ask i past))
      (cases_lt i (length x.joins))

  first : slice_index_or asked j false ≡ is_asked_first x parts j
  first = ap (λ (all : List Bool). slice_index_or all j false) is.asked ∙ at_number (is_asked_first x parts) false (length x.joins) j within

  -- what the marks say of a join is the rule of the least set
  pub marks_are : (joins : List ℕ) → (slice_index_or asked j false || list_any (λ i. slice_index_or (slice_index_or asking i []) j false) joins) ≡ is_asked x parts joins j
  marks_are joins = λ k. first k || list_any (λ i. asks i k) joins

-- one number more, if it passes a test
pub kept_more : (test : ℕ → Bool) (n : ℕ) → filter test (numbers_below n) ++ (if test n then n ∷ [] else []) ≡ filter test (numbers_below (suc n))
kept_more test n = ap (λ ns. filter test (numbers_below n) ++ ns) (one (test n)) ∙ sym (filter-append test (numbers_below n) (n ∷ []))
  where
    one : (b : Bool) → (if b then n ∷ [] else []) ≡ cond b (n ∷ []) []
    one true = refl
    one false = refl
