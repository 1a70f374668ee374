-- What a search over numbers marks is what a field reaches.
use Rattle.std.proofs.Common.{◌≡◌, ℕ, zero, suc, ◌+◌, ◌<◌, Bool, true, false, ◌&&◌, ◌||◌, List, [], ◌∷◌, ◌++◌, length, map, Option, Some, None, refl, sym, ap, ◌∙◌, subst, inl, inr, ⊎_elim, arith}
use Rattle.std.specs.Prelude.{◌⊎◌, cond, filter, if◌then◌else◌, is_some, nat_eq, not, option_map, slice_get}
use Rattle.std.specs.List.{list_all, list_any, position_from}
use Rattle.std.proofs.lemmas.Bool.{eq-eqb, false≢true}
use Rattle.std.proofs.lemmas.Iterator.Adapters.{position_from-zero}
use Rattle.std.proofs.lemmas.List.Folds.{list_any-append}
use Rattle.lk_val.specs.Least.{grown_times, is_in}
use Rattle.lk_val.proofs.LeastLaws.{IsEquality, any_within, least_set-kept, least_set-within, round_within}
use Rattle.lk_objects.specs.declared.field.DeclaredField.{DeclaredField}
use Rattle.lk_objects.specs.declared.view.DeclaredView.{DeclaredView}
use Rattle.lk_fields.specs.declared.rows.Row.{Row}
use Rattle.lk_fields.specs.declared.rows.Rule.TheVariants.{Ends}
use Rattle.lk_fields.specs.declared.scope.Found.{Found}
use Rattle.lk_fields.specs.declared.scope.Place.{Place}
use Rattle.lk_fields.specs.declared.scope.Scope.{Scope}
use Rattle.lk_fields.specs.Existing.{all_places, ending, ends_after, field_at, is_on_cycle, is_same_place, is_target_of, places_of, reached, reaches_cycle, referred, targets, targets_with}
use Rattle.lk_fields.specs.Reaching.{IsClosed, IsReached, names_at, names_with}
use Rattle.lk_fields.specs.Rows.{is_marked, number_of, numbers_in, option_list, row_at, row_by}
use Rattle.lk_fields.proofs.LostLaws.{both, passing, same_exact, same_itself, there}

equality : IsEquality is_same_place
equality = record { itself = same_itself; exact = same_exact }

or_true : (b : Bool) → (b || true) ≡ true
or_true true = refl
or_true false = refl

one_of : (a b : Bool) → (a || b) ≡ true → (a ≡ true) ⊎ (b ≡ true)
one_of true b h = inl refl
one_of false b h = inr h

together : (a b : Bool) → a ≡ true → b ≡ true → (a && b) ≡ true
together true b p q = q
together false b p q = absurd (false≢true p)

same_test : (a b : Bool) → (a ≡ true → b ≡ true) → (b ≡ true → a ≡ true) → a ≡ b
same_test true b f g = sym (f refl)
same_test false true f g = g refl
same_test false false f g = refl

-- ---- places by numbers

at_number : (t : Place) (j : ℕ) (xs : List Place) (n : ℕ) → position_from (is_same_place t) j xs ≡ Some n → (m : ℕ) × (n ≡ j + m) × (slice_get xs m ≡ Some t)
at_number t j [] n e = cc
at_number t j (x ∷ xs) n e =
    elim (is_same_place t x) as (λ b. is_same_place t x ≡ b → cond b (Some j) (position_from (is_same_place t) (j + 1) xs) ≡ Some n → (m : ℕ) × (n ≡ j + m) × (slice_get (x ∷ xs) m ≡ Some t)) [
      | true ↦ λ same h. let is : j ≡ n = cc in (zero, omega arith, ap (λ y. Some y) (sym (same_exact t x same)))
      | false ↦ λ _ h. let rest = at_number t (j + 1) xs n h in let is = rest.1 in (suc rest.0, omega arith, rest.2)
    ] refl e

pub placed : (xs : List Place) (t : Place) (n : ℕ) → number_of xs t ≡ Some n → slice_get xs n ≡ Some t
placed xs t n e =
    let found = at_number t 0 xs n (sym (position_from-zero (is_same_place t) xs) ∙ e) in
    let is = found.1 in
    let same : n ≡ found.0 = omega arith in
    ap (λ k. slice_get xs k) same ∙ found.2

got_within : {A : Type 0} (xs : List A) (k : ℕ) (v : A) → slice_get xs k ≡ Some v → k < length xs
got_within [] k v h = cc
got_within (x ∷ xs) zero v h = omega arith
got_within (x ∷ xs) (suc k) v h = let lt = got_within xs k v h in omega arith

get_map : {A B : Type 0} (f : A → B) (xs : List A) (k : ℕ) → slice_get (map f xs) k ≡ option_map f (slice_get xs k)
get_map f [] k = refl
get_map f (x ∷ xs) zero = refl
get_map f (x ∷ xs) (suc k) = get_map f xs k

map_count : {A B : Type 0} (f : A → B) (xs : List A) → length (map f xs) ≡ length xs
map_count f [] = refl
map_count f (x ∷ xs) = ap (λ n. suc n) (map_count f xs)

any_at : (f : Place → Bool) (y : Place) (xs : List Place) → f y ≡ true → is_in is_same_place y xs ≡ true → list_any f xs ≡ true
any_at f y [] h inside = absurd (false≢true inside)
any_at f y (x ∷ xs) h inside =
    ⊎_elim (λ e. ap (λ b. b || list_any f xs) (ap f (sym (same_exact y x e)) ∙ h)) (λ e. ap (λ b. f x || b) (any_at f y xs h e) ∙ or_true (f x))
    (one_of (is_same_place y x) (is_in is_same_place y xs) inside)

any_of : (f q : Place → Bool) (xs : List Place) → list_any f (filter q xs) ≡ true → (y : Place) × (q y ≡ true) × (f y ≡ true)
any_of f q [] h = absurd (false≢true h)
any_of f q (x ∷ xs) h =
    elim (q x) as (λ b. q x ≡ b → list_any f (if b then x ∷ filter q xs else filter q xs) ≡ true → (y : Place) × (q y ≡ true) × (f y ≡ true)) [
      | true ↦ λ qx h. ⊎_elim (λ e. (x, qx, e)) (λ e. any_of f q xs e) (one_of (f x) (list_any f (filter q xs)) h)
      | false ↦ λ qx h. any_of f q xs h
    ] refl h

-- the number of a place that is named is one of the numbers of names
names_have : (all : List Place) (found : List (Option Found)) (x : Place) (n : ℕ) → is_in is_same_place x (places_of found) ≡ true → number_of all x ≡ Some n → is_in nat_eq n (numbers_in all found) ≡ true
names_have all [] x n h e = absurd (false≢true h)
names_have all (None ∷ more) x n h e = names_have all more x n h e
names_have all (Some f ∷ more) x n h e =
    list_any-append (nat_eq n) (option_list (number_of all f.place)) (numbers_in all more)
    ∙ ⊎_elim
    (λ same. ap (λ k. is_in nat_eq n (option_list k) || is_in nat_eq n (numbers_in all more)) (ap (number_of all) (sym (same_exact x f.place same)) ∙ e)
    ∙ ap (λ b. (b || false) || is_in nat_eq n (numbers_in all more)) (eq-eqb n n refl))
    (λ rest. ap (λ b. is_in nat_eq n (option_list (number_of all f.place)) || b) (names_have all more x n rest e) ∙ or_true (is_in nat_eq n (option_list (number_of all f.place))))
    (one_of (is_same_place x f.place) (is_in is_same_place x (places_of more)) h)

module _ (views : List DeclaredView) (scope : Scope) where
  -- what the field at a place refers to
  abbrev found_of : ℕ → Option DeclaredField → List (Option Found)
  found_of part None = []
  found_of part (Some field) = referred views scope part field

  row_names : (all : List Place) (part : ℕ) (o : Option DeclaredField) → (row_by Ends views scope all part o).names ≡ numbers_in all (found_of part o)
  row_names all part None = refl
  row_names all part (Some field) = refl

  target_places : (part : ℕ) (o : Option DeclaredField) → targets_with views scope part o ≡ places_of (found_of part o)
  target_places part None = refl
  target_places part (Some field) = refl

  abbrev found_at : Place → List (Option Found)
  found_at y = found_of y.part (field_at views scope y)

  abbrev rows : List Row
  rows = map (row_at Ends views scope (all_places views scope)) (all_places views scope)

  names_of_place : (m : ℕ) (y : Place) → slice_get (all_places views scope) m ≡ Some y → names_at rows m ≡ numbers_in (all_places views scope) (found_at y)
  names_of_place m y e =
      ap names_with (get_map (row_at Ends views scope (all_places views scope)) (all_places views scope) m ∙ ap (option_map (row_at Ends views scope (all_places views scope))) e)
      ∙ row_names (all_places views scope) y.part (field_at views scope y)

  module _ (start : Place) where
    abbrev rule : List Place → Place → Bool
    rule set other = is_target_of views scope (start ∷ set) other

    grows : (s t : List Place) → ((x : Place) → is_in is_same_place x s ≡ true → is_in is_same_place x t ≡ true) → (x : Place) → rule s x ≡ true → rule t x ≡ true
    grows s t more x h =
        ⊎_elim (λ e. ap (λ b. b || list_any (λ from. is_in is_same_place x (targets views scope from)) t) e)
        (λ e. ap (λ b. is_in is_same_place x (targets views scope start) || b) (any_within equality (λ from. is_in is_same_place x (targets views scope from)) s t more e) ∙ or_true (is_in is_same_place x (targets views scope start)))
        (one_of (is_in is_same_place x (targets views scope start)) (list_any (λ from. is_in is_same_place x (targets views scope from)) s) h)

    abbrev set : List Place
    set = reached views scope start

    -- a place that is reached is there
    reached_there : (x : Place) → is_in is_same_place x set ≡ true → is_in is_same_place x (all_places views scope) ≡ true
    reached_there x h = round_within equality (all_places views scope) rule grows (all_places views scope) (λ y inside _. inside) (length (all_places views scope)) x h

    pub nowhere : number_of (all_places views scope) start ≡ None → false ≡ is_on_cycle views scope start
    nowhere e =
        same_test false (is_in is_same_place start set) (λ h. absurd (false≢true h))
        (λ h. ap is_some (sym e) ∙ there (all_places views scope) start ∙ reached_there start h)

    -- ---- each mark is reached

    abbrev held : Option Place → Bool
    held None = false
    held (Some x) = is_in is_same_place x set

    abbrev test : ℕ → Bool
    test m = held (slice_get (all_places views scope) m)

    names_held : (found : List (Option Found)) → ((t : Place) → is_in is_same_place t (places_of found) ≡ true → is_in is_same_place t (all_places views scope) ≡ true → is_in is_same_place t set ≡ true)
        → list_all test (numbers_in (all_places views scope) found) ≡ true
    names_held [] h = refl
    names_held (None ∷ more) h = names_held more h
    names_held (Some f ∷ more) h =
        let rest = names_held more (λ t inside. h t (ap (λ b. is_same_place t f.place || b) inside ∙ or_true (is_same_place t f.place))) in
        elim (number_of (all_places views scope) f.place) as (λ k. number_of (all_places views scope) f.place ≡ k → list_all test (option_list k ++ numbers_in (all_places views scope) more) ≡ true) [
          | None ↦ λ _. rest
          | Some n ↦ λ e.
              let inside = sym (there (all_places views scope) f.place) ∙ ap is_some e in
              let first = h f.place (ap (λ b. b || is_in is_same_place f.place (places_of more)) (same_itself f.place)) inside in
              together (test n) (list_all test (numbers_in (all_places views scope) more)) (ap held (placed (all_places views scope) f.place n e) ∙ first) rest
        ] refl

    -- all that a field refers to is reached, where its targets are
    held_from : (y : Place) → ((t : Place) → is_in is_same_place t (targets views scope y) ≡ true → rule set t ≡ true) → list_all test (numbers_in (all_places views scope) (found_at y)) ≡ true
    held_from y h =
        names_held (found_at y) (λ t inside there_t.
        least_set-kept equality (all_places views scope) rule grows t there_t
        (h t (ap (λ ts. is_in is_same_place t ts) (target_places y.part (field_at views scope y)) ∙ inside)))

    closed : (s : ℕ) → slice_get (all_places views scope) s ≡ Some start → IsClosed rows (names_at rows s) test
    closed s at = record {
      first = ap (list_all test) (names_of_place s start at)
          ∙ held_from start (λ t inside. ap (λ b. b || list_any (λ from. is_in is_same_place t (targets views scope from)) set) inside);
      next = λ m h. after m (slice_get (all_places views scope) m) refl h;
    }
      where
        after : (m : ℕ) (o : Option Place) → slice_get (all_places views scope) m ≡ o → held o ≡ true → list_all test (names_at rows m) ≡ true
        after m None e h = absurd (false≢true h)
        after m (Some y) e h =
            ap (list_all test) (names_of_place m y e)
            ∙ held_from y (λ t inside.
            ap (λ b. is_in is_same_place t (targets views scope start) || b) (any_at (λ from. is_in is_same_place t (targets views scope from)) y set inside h)
            ∙ or_true (is_in is_same_place t (targets views scope start)))

    -- ---- all that is reached is marked

    module _ (s : ℕ) (marks : List Bool) (number : number_of (all_places views scope) start ≡ Some s) (r : IsReached rows (names_at rows s) marks) where
      abbrev passes : Place → Bool
      passes x = list_any (is_marked marks) (option_list (number_of (all_places views scope) x))

      abbrev kept : List Place
      kept = filter passes (all_places views scope)

      passes_at : (x : Place) (n : ℕ) → number_of (all_places views scope) x ≡ Some n → is_marked marks n ≡ true → passes x ≡ true
      passes_at x n e h = ap (λ k. list_any (is_marked marks) (option_list k)) e ∙ ap (λ b. b || false) h

      marked_at : (y : Place) (k : Option ℕ) → list_any (is_marked marks) (option_list k) ≡ true → number_of (all_places views scope) y ≡ k → (m : ℕ) × (is_marked marks m ≡ true) × (number_of (all_places views scope) y ≡ Some m)
      marked_at y None h e = absurd (false≢true h)
      marked_at y (Some m) h e = (m, ⊎_elim (λ t. t) (λ t. absurd (false≢true t)) (one_of (is_marked marks m) false h), e)

      within : (x : Place) (n : ℕ) → number_of (all_places views scope) x ≡ Some n → n < length marks
      within x n e =
          let lt = got_within (all_places views scope) n x (placed (all_places views scope) x n e) in
          let many = r.many ∙ map_count (row_at Ends views scope (all_places views scope)) (all_places views scope) in
          omega (arith, lt, many)

      named_by : (m : ℕ) (y x : Place) (n : ℕ) → number_of (all_places views scope) y ≡ Some m → is_in is_same_place x (targets views scope y) ≡ true → number_of (all_places views scope) x ≡ Some n → is_in nat_eq n (names_at rows m) ≡ true
      named_by m y x n ey inside ex =
          ap (λ ns. is_in nat_eq n ns) (names_of_place m y (placed (all_places views scope) y m ey))
          ∙ names_have (all_places views scope) (found_at y) x n (ap (λ ts. is_in is_same_place x ts) (sym (target_places y.part (field_at views scope y))) ∙ inside) ex

      keeps_at : (x : Place) (n : ℕ) → number_of (all_places views scope) x ≡ Some n → rule kept x ≡ true → is_marked marks n ≡ true
      keeps_at x n e h =
          ⊎_elim (λ inside. r.started n (named_by s start x n number inside e) (within x n e))
          (λ some.
          let from = any_of (λ y. is_in is_same_place x (targets views scope y)) passes (all_places views scope) some in
          let at = marked_at from.0 (number_of (all_places views scope) from.0) from.1 refl in
          r.closed at.0 at.1 n (named_by at.0 from.0 x n at.2 from.2 e) (within x n e))
          (one_of (is_in is_same_place x (targets views scope start)) (list_any (λ y. is_in is_same_place x (targets views scope y)) kept) h)

      keeps : (x : Place) → is_in is_same_place x (all_places views scope) ≡ true → rule kept x ≡ true → is_in is_same_place x kept ≡ true
      keeps x inside h =
          passing passes x (all_places views scope)
          ∙ together (passes x) (is_in is_same_place x (all_places views scope)) (here (number_of (all_places views scope) x) refl) inside
        where
          here : (k : Option ℕ) → number_of (all_places views scope) x ≡ k → passes x ≡ true
          here (Some n) e = passes_at x n e (keeps_at x n e h)
          here None e = absurd (false≢true (sym (ap is_some e) ∙ there (all_places views scope) x ∙ inside))

      reached_marked : is_in is_same_place start set ≡ true → is_marked marks s ≡ true
      reached_marked h =
          let inside = least_set-within equality (all_places views scope) rule grows kept keeps start h in
          let parts = both (passes start) (is_in is_same_place start (all_places views scope)) (sym (passing passes start (all_places views scope)) ∙ inside) in
          let at = marked_at start (number_of (all_places views scope) start) parts.0 refl in
          let same : at.0 ≡ s = cc (number, at.2) in
          subst (λ m. is_marked marks m ≡ true) same at.1

      marked_reached : is_marked marks s ≡ true → is_in is_same_place start set ≡ true
      marked_reached h =
          let at = placed (all_places views scope) start s number in
          ap held (sym at) ∙ r.least test (closed s at) s h

      -- the mark of the start says whether the field reaches itself
      pub on_cycle : is_marked marks s ≡ is_on_cycle views scope start
      on_cycle = same_test (is_marked marks s) (is_in is_same_place start set) marked_reached reached_marked

-- ---- a field on a cycle reaches a cycle

all_in : (inner ts : List Place) → list_all (λ t. is_in is_same_place t inner) ts ≡ true → (t : Place) → is_in is_same_place t ts ≡ true → is_in is_same_place t inner ≡ true
all_in inner [] h t inside = absurd (false≢true inside)
all_in inner (x ∷ ts) h t inside =
    let parts = both (is_in is_same_place x inner) (list_all (λ y. is_in is_same_place y inner) ts) h in
    ⊎_elim (λ e. ap (λ y. is_in is_same_place y inner) (same_exact t x e) ∙ parts.0) (λ e. all_in inner ts parts.1 t e)
    (one_of (is_same_place t x) (is_in is_same_place t ts) inside)

any_in : (f : Place → Bool) (xs : List Place) → list_any f xs ≡ true → (y : Place) × (is_in is_same_place y xs ≡ true) × (f y ≡ true)
any_in f [] h = absurd (false≢true h)
any_in f (x ∷ xs) h =
    ⊎_elim (λ e. (x, ap (λ b. b || is_in is_same_place x xs) (same_itself x), e))
    (λ e. let rest = any_in f xs e in (rest.0, ap (λ b. is_same_place rest.0 x || b) rest.1 ∙ or_true (is_same_place rest.0 x), rest.2))
    (one_of (f x) (list_any f xs) h)

or_left : (a b : Bool) → a ≡ true → (a || b) ≡ true
or_left true b h = refl
or_left false b h = absurd (false≢true h)

ended : (a b : Bool) → (a && not b) ≡ false → a ≡ true → b ≡ true
ended true true h e = refl
ended true false h e = absurd (false≢true (sym h))
ended false b h e = absurd (false≢true e)

module _ (views : List DeclaredView) (scope : Scope) where
  abbrev round : ℕ → List Place
  round n = grown_times is_same_place (all_places views scope) (ends_after views scope) n

  abbrev grows_by : ℕ → Place → Bool
  grows_by n x = is_in is_same_place x (round n) || ends_after views scope (round n) x

  -- what is in a round was in the one before, or all its targets were
  in_round : (n : ℕ) (x : Place) → is_in is_same_place x (round (suc n)) ≡ true → (grows_by n x ≡ true) × (is_in is_same_place x (all_places views scope) ≡ true)
  in_round n x h = both (grows_by n x) (is_in is_same_place x (all_places views scope)) (sym (passing (grows_by n) x (all_places views scope)) ∙ h)

  round_there : (n : ℕ) (x : Place) → is_in is_same_place x (round n) ≡ true → is_in is_same_place x (all_places views scope) ≡ true
  round_there zero x h = absurd (false≢true h)
  round_there (suc n) x h = (in_round n x h).1

  later : (n : ℕ) (x : Place) → is_in is_same_place x (round n) ≡ true → is_in is_same_place x (round (suc n)) ≡ true
  later n x h =
      passing (grows_by n) x (all_places views scope)
      ∙ together (grows_by n x) (is_in is_same_place x (all_places views scope)) (or_left (is_in is_same_place x (round n)) (ends_after views scope (round n) x) h) (round_there n x h)

  -- a round has the targets of all that it has
  down : (n : ℕ) (x t : Place) → is_in is_same_place x (round n) ≡ true → is_in is_same_place t (targets views scope x) ≡ true → is_in is_same_place t (round n) ≡ true
  down zero x t h inside = absurd (false≢true h)
  down (suc n) x t h inside =
      ⊎_elim (λ before. later n t (down n x t before inside)) (λ added. later n t (all_in (round n) (targets views scope x) added t inside))
      (one_of (is_in is_same_place x (round n)) (ends_after views scope (round n) x) (in_round n x h).0)

  leaves : (n : ℕ) (p : Place) → is_in is_same_place p (round n) ≡ true → is_in is_same_place p (reached views scope p) ≡ true → ⊥
  leaves zero p h cycle = absurd (false≢true h)
  leaves (suc n) p h cycle =
      ⊎_elim (λ before. leaves n p before cycle)
      (λ added.
      leaves n p
      (least_set-within equality (all_places views scope) (rule views scope p) (grows views scope p) (round n)
      (λ x _ named. ⊎_elim (λ inside. all_in (round n) (targets views scope p) added x inside)
      (λ some. let from = any_in (λ y. is_in is_same_place x (targets views scope y)) (round n) some in down n from.0 x from.1 from.2)
      (one_of (is_in is_same_place x (targets views scope p)) (list_any (λ y. is_in is_same_place x (targets views scope y)) (round n)) named)) p cycle)
      cycle)
      (one_of (is_in is_same_place p (round n)) (ends_after views scope (round n) p) (in_round n p h).0)

  pub none_on_cycle : (p : Place) → reaches_cycle views scope p ≡ false → false ≡ is_on_cycle views scope p
  none_on_cycle p h =
      same_test false (is_on_cycle views scope p) (λ e. absurd (false≢true e))
      (λ cycle. absurd (leaves (length (all_places views scope)) p
      (ended (is_in is_same_place p (all_places views scope)) (is_in is_same_place p (ending views scope)) h (reached_there views scope p p cycle)) cycle))
