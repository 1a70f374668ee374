-- What a search over rows marks is what is read.
use Rattle.std.proofs.Common.{◌≡◌, ℕ, zero, suc, ◌<◌, ◌≤◌, Bool, true, false, ◌&&◌, ◌||◌, List, [], ◌∷◌, ◌++◌, length, map, refl, sym, ap, ◌∙◌, subst, arith, ⊎_elim}
use Rattle.std.specs.Prelude.{filter, flat_map, if◌then◌else◌, nat_eq, not, slice_get, slice_index_or}
use Rattle.std.specs.List.{list_all, list_any}
use Rattle.std.proofs.lemmas.Bool.{cases_lt, false≢true}
use Rattle.std.proofs.lemmas.Map.Views.{any-filter_same}
use Rattle.lk_val.specs.Least.{grown_times, is_in, least_set}
use Rattle.lk_val.proofs.LeastLaws.{any_within, least_set-kept, least_set-within}
use Rattle.lk_types.specs.Expressions.{has_number}
use Rattle.lk_types.specs.declared.model.Derived.{Derived}
use Rattle.lk_types.specs.declared.model.Model.{Model}
use Rattle.lk_semantics.specs.Joins.{numbers_below}
use Rattle.lk_semantics.specs.Reading.{all_read_by, datagroups_of, is_read, listed_value, read_by, reads_itself, with_all_read}
use Rattle.lk_semantics.specs.Rollups.{derived_at, no_derived}
use Rattle.lk_fields.specs.declared.rows.Row.{Row}
use Rattle.lk_fields.specs.Reaching.{IsClosed, IsReached, names_at, names_with}
use Rattle.lk_fields.specs.Rows.{is_marked}
use Rattle.lk_tree.proofs.StandingLaws.{above, below, is_below}
use Rattle.lk_stored.specs.Reads.{datagroup_if, marked_datagroups, row_of}
use Rattle.lk_stored.proofs.Logic.{all_from, and_true, any_at, any_of, both, filter_same, numbers_equal, one_of, or_true, same_test, together}

below_if : (d n : ℕ) → is_below d n ≡ true → d < n
below_if d n h = ⊎_elim (λ less. less) (λ past. absurd (false≢true (sym (above d n past) ∙ h))) (cases_lt d n)

marked_within : (marks : List Bool) (d : ℕ) → is_marked marks d ≡ true → d < length marks
marked_within [] d h = absurd (false≢true h)
marked_within (b ∷ bs) zero h = omega arith
marked_within (b ∷ bs) (suc d) h = let less = marked_within bs d h in omega (arith, less)

or_left : (a b : Bool) → (a || b) ≡ true → b ≡ false → a ≡ true
or_left true b h e = refl
or_left false b h e = absurd (false≢true (sym e ∙ h))

module _ (m : Model) where
  abbrev rows : List Row
  rows = map (row_of m) m.derived

  abbrev count : ℕ
  count = length m.derived

  abbrev all : List ℕ
  all = numbers_below count

  names_of : (ds : List Derived) (k : ℕ) → k < length ds → names_with (slice_get (map (row_of m) ds) k) ≡ (row_of m (slice_index_or ds k no_derived)).names
  names_of [] k less = absurd (omega (arith, less))
  names_of (d ∷ ds) zero less = refl
  names_of (d ∷ ds) (suc k) less = names_of ds k (omega (arith, less))

  no_names : (ds : List Derived) (k : ℕ) → length ds ≤ k → names_with (slice_get (map (row_of m) ds) k) ≡ []
  no_names [] k past = refl
  no_names (d ∷ ds) zero past = absurd (omega (arith, past))
  no_names (d ∷ ds) (suc k) past = no_names ds k (omega (arith, past))

  -- the row at a place
  pub row_at : (ds : List Derived) (d : ℕ) (other : Row) → d < length ds → slice_index_or (map (row_of m) ds) d other ≡ row_of m (slice_index_or ds d no_derived)
  row_at [] d other less = absurd (omega (arith, less))
  row_at (x ∷ ds) zero other less = refl
  row_at (x ∷ ds) (suc d) other less = row_at ds d other (omega (arith, less))

  -- the row of a table names what it reads
  pub row_names : (k : ℕ) → k < count → names_at rows k ≡ read_by m k
  unfolding row_of
  row_names k less = names_of m.derived k less

  row_count : (ds : List Derived) → length (map (row_of m) ds) ≡ length ds
  row_count [] = refl
  row_count (d ∷ ds) = ap suc (row_count ds)

  module _ (tables : List ℕ) (marks : List Bool) (r : IsReached rows tables marks) where
    abbrev rule : List ℕ → ℕ → Bool
    rule = is_read m tables

    abbrev set : List ℕ
    set = with_all_read m tables

    abbrev reads : ℕ → ℕ → Bool
    reads d reader = has_number d (read_by m reader)

    grows : (s t : List ℕ) → ((d : ℕ) → is_in nat_eq d s ≡ true → is_in nat_eq d t ≡ true) → (d : ℕ) → rule s d ≡ true → rule t d ≡ true
    grows s t more d h =
        ⊎_elim (λ e. ap (λ b. b || list_any (reads d) t) e)
        (λ e. ap (λ b. has_number d tables || b) (any_within numbers_equal (reads d) s t more e) ∙ or_true (has_number d tables))
        (one_of (has_number d tables) (list_any (reads d) s) h)

    kept : (d : ℕ) → d < count → rule set d ≡ true → has_number d set ≡ true
    kept d less h = least_set-kept numbers_equal all rule grows d (below d count less) h

    -- ---- what is marked is read

    abbrev test : ℕ → Bool
    test d = has_number d set || not (is_below d count)

    held : (names : List ℕ) → ((d : ℕ) → has_number d names ≡ true → rule set d ≡ true) → list_all test names ≡ true
    held names h =
        all_from test names
        (λ d inside.
        ⊎_elim
        (λ less. ap (λ b. b || not (is_below d count)) (kept d less (h d inside)))
        (λ past. ap (λ b. has_number d set || not b) (above d count past) ∙ or_true (has_number d set))
        (cases_lt d count))

    closed : IsClosed rows tables test
    closed = record {
      first = held tables (λ d inside. ap (λ b. b || list_any (reads d) set) inside);
      next = λ k h. ⊎_elim
          (λ less.
          let inside = or_left (has_number k set) (not (is_below k count)) h (ap not (below k count less)) in
          ap (list_all test) (row_names k less)
          ∙ held (read_by m k) (λ d named. ap (λ b. has_number d tables || b) (any_at (reads d) k set named inside) ∙ or_true (has_number d tables)))
          (λ past. ap (list_all test) (no_names m.derived k past))
          (cases_lt k count);
    }

    -- ---- what is read is marked

    abbrev marked : List ℕ
    marked = filter (is_marked marks) all

    many : length marks ≡ count
    many = r.many ∙ row_count m.derived

    in_marked : (d : ℕ) → is_in nat_eq d marked ≡ (is_marked marks d && is_below d count)
    in_marked d = any-filter_same (nat_eq d) (is_marked marks) (is_marked marks d) (λ k same. ap (is_marked marks) (sym (numbers_equal.exact d k same))) all

    keeps : (d : ℕ) → is_in nat_eq d all ≡ true → rule marked d ≡ true → is_in nat_eq d marked ≡ true
    keeps d inside h =
        let less = below_if d count inside in
        let same = many in
        let within : d < length marks = omega (arith, less, same) in
        let is : is_marked marks d ≡ true =
        ⊎_elim (λ named. r.started d named within)
        (λ some.
        let from = any_of (reads d) (is_marked marks) all some in
        let lt = marked_within marks from.0 from.1 in
        r.closed from.0 from.1 d (ap (λ ns. is_in nat_eq d ns) (row_names from.0 (omega (arith, lt, same))) ∙ from.2) within)
        (one_of (has_number d tables) (list_any (reads d) marked) h) in
        in_marked d ∙ together (is_marked marks d) (is_below d count) is inside

    -- the marks are those of what is read
    pub marks_are : (d : ℕ) → d < count → is_marked marks d ≡ has_number d set
    marks_are d less =
        same_test (is_marked marks d) (has_number d set)
        (λ is. or_left (has_number d set) (not (is_below d count)) (r.least test closed d is) (ap not (below d count less)))
        (λ inside. (both (is_marked marks d) (is_below d count) (sym (in_marked d) ∙ least_set-within numbers_equal all rule grows marked keeps d inside)).0)

    filtered_once : (test : ℕ → Bool) (xs : List ℕ) → filter test xs ≡ filter (λ d. has_number d (filter test xs)) xs
    filtered_once test xs =
        filter_same test (λ d. has_number d (filter test xs)) xs
        (λ d inside. sym (and_true (test d)) ∙ ap (λ b. test d && b) (sym inside) ∙ sym (any-filter_same (nat_eq d) test (test d) (λ k same. ap test (sym (numbers_equal.exact d k same))) xs))

    set_of_itself : (n : ℕ) → grown_times nat_eq all rule n ≡ filter (λ d. has_number d (grown_times nat_eq all rule n)) all
    set_of_itself zero = sym (none all) where
      none : (xs : List ℕ) → filter (λ d. has_number d []) xs ≡ []
      none [] = refl
      none (x ∷ xs) = none xs
    set_of_itself (suc n) = filtered_once (λ d. is_in nat_eq d (grown_times nat_eq all rule n) || rule (grown_times nat_eq all rule n) d) all

    pub set_is_marked : set ≡ marked
    set_is_marked = set_of_itself (length all) ∙ filter_same (λ d. has_number d set) (is_marked marks) all (λ d inside. sym (marks_are d (below_if d count inside)))

  -- ---- datagroups

  abbrev datagroup_of : ℕ → List ℕ
  datagroup_of d = listed_value (derived_at m d).datagroup

  flat_append : (xs ys : List ℕ) → flat_map datagroup_of (xs ++ ys) ≡ flat_map datagroup_of xs ++ flat_map datagroup_of ys
  flat_append [] ys = refl
  flat_append (x ∷ xs) ys = ap (λ zs. datagroup_of x ++ zs) (flat_append xs ys) ∙ sym (assoc (datagroup_of x) (flat_map datagroup_of xs) (flat_map datagroup_of ys)) where
    assoc : (us bs cs : List ℕ) → (us ++ bs) ++ cs ≡ us ++ (bs ++ cs)
    assoc [] bs cs = refl
    assoc (a ∷ us) bs cs = ap (λ t. a ∷ t) (assoc us bs cs)

  filter_append : (test : ℕ → Bool) (xs ys : List ℕ) → filter test (xs ++ ys) ≡ filter test xs ++ filter test ys
  filter_append test [] ys = refl
  filter_append test (x ∷ xs) ys = elim (test x) as (λ b. (if b then x ∷ filter test (xs ++ ys) else filter test (xs ++ ys)) ≡ (if b then x ∷ filter test xs else filter test xs) ++ filter test ys) [
    | true ↦ ap (λ t. x ∷ t) (filter_append test xs ys)
    | false ↦ filter_append test xs ys
  ]

  -- those of the marked tables
  pub datagroups_are : (marks : List Bool) (n : ℕ) → marked_datagroups m.derived marks n ≡ datagroups_of m (filter (is_marked marks) (numbers_below n))
  datagroups_are marks zero = refl
  datagroups_are marks (suc n) =
      (λ i. datagroups_are marks n i ++ one (is_marked marks n) i)
      ∙ sym (flat_append (filter (is_marked marks) (numbers_below n)) (if is_marked marks n then n ∷ [] else []))
      ∙ ap (flat_map datagroup_of) (sym (filter_append (is_marked marks) (numbers_below n) (n ∷ [])))
    where
      one : (b : Bool) → (if b then datagroup_of n else []) ≡ flat_map datagroup_of (if b then n ∷ [] else [])
      one true = sym (none (datagroup_of n)) where
        none : (xs : List ℕ) → xs ++ [] ≡ xs
        none [] = refl
        none (x ∷ xs) = ap (λ t. x ∷ t) (none xs)
      one false = refl
