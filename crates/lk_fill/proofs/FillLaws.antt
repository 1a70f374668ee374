-- Tables are filled in an order in which each stands behind those that it reads.
use Rattle.std.proofs.Common.{◌≡◌, ℕ, zero, suc, ◌+◌, ◌<◌, ◌≤◌, true, false, ◌&&◌, ◌||◌, List, [], ◌∷◌, ◌++◌, drop, drop-cons, map, length, take, refl, sym, ap, subst, ◌∙◌, arith, inl, inr, ⊎_elim, Option, None}
use Rattle.std.specs.Prelude.{◌⊎◌, if◌then◌else◌, flat_map, is_none, nat_eq, nat_lt, not, slice_index_or, slice_set}
use Rattle.std.specs.List.{list_all}
use Rattle.std.proofs.lemmas.Bool.{false≢true, eqb-true}
use Rattle.std.proofs.lemmas.List.{append-nil, append_assoc, get_or-map, get_or-set_other, get_or-set_same, get_or_past, length-map, length-set, take_more}
use Rattle.lk_types.specs.Expressions.{has_number}
use Rattle.lk_types.specs.Tables.{Rows, are_valid_tables}
use Rattle.lk_types.specs.declared.bound.Bound.{Bound}
use Rattle.lk_types.specs.declared.explore.Explore.{Explore}
use Rattle.lk_types.specs.declared.explore.Origin.{Origin}
use Rattle.lk_types.specs.declared.explore.Origin.TheVariants as origin
use Rattle.lk_types.specs.declared.model.Derived.{Derived}
use Rattle.lk_types.specs.declared.model.Model.{Model}
use Rattle.lk_types.specs.declared.rows.Sources.{Sources}
use Rattle.lk_semantics.specs.Derived.{derived_query, derived_rows, explore_at}
use Rattle.lk_semantics.specs.Joins.{part_at, rows_from}
use Rattle.lk_semantics.specs.Reading.{derived_in, read_by}
use Rattle.lk_semantics.specs.Resolved.{IsResolved}
use Rattle.lk_semantics.specs.Rollups.{derived_at, no_derived}
use Rattle.lk_semantics.proofs.DepthLaws.{derived_rows_are_whole, lt_or_ge, past_end}
use Rattle.lk_semantics.proofs.EveryLaws.{both, first, second}
use Rattle.lk_semantics.proofs.JoinLaws.{numbers_equal}
use Rattle.lk_derived.specs.ReadRows.{HasRowsFor, whole}
use Rattle.lk_rollup.specs.Builds.{query_of_derived}
use Rattle.lk_rollup.proofs.StoredLaws.{derived_query_is}
use Rattle.lk_fill.specs.Fills.{IsClosed, IsFilled, needed_over, no_rows, whole_rows, with_reads, with_rows}
use Rattle.lk_fill.specs.Orders.{IsDeriveOrder, are_different, stand_behind}
use Rattle.lk_fill.specs.Reads.{HasRowsOf, tables_read}
use Rattle.lk_fill.proofs.NumberLaws.{in_either, in_left, in_right, is_not, of_all, of_test, only_one, or_left, or_right, stands_there}

-- ---- a query's rows

-- the rows of a view agree where those of its derived table do
same_rows : (s t : Sources) (o : Origin) → s.stored ≡ t.stored → ((e : ℕ) → has_number e (derived_in o) ≡ true → slice_index_or s.derived e [] ≡ slice_index_or t.derived e [])
    → rows_from s o ≡ rows_from t o
same_rows s t (origin.Stored n) stored h = ap (λ tables. slice_index_or tables n []) stored
same_rows s t (origin.Derived e) stored h = h e (or_left (nat_eq e e) false (numbers_equal.itself e))

-- the derived table of a joined view is among those of the joins
in_joins : (f : ℕ → Origin) (j e : ℕ) (js : List ℕ) → has_number j js ≡ true → has_number e (derived_in (f j)) ≡ true → has_number e (flat_map derived_in (map f js)) ≡ true
in_joins f j e [] h there = absurd (false≢true h)
in_joins f j e (i ∷ js) h there =
    elim (nat_eq j i) as (λ b. nat_eq j i ≡ b → (b || has_number j js) ≡ true → has_number e (derived_in (f i) ++ flat_map derived_in (map f js)) ≡ true) [
      | true ↦ λ same _. in_left e (derived_in (f i)) (flat_map derived_in (map f js)) (subst (λ k. has_number e (derived_in (f k)) ≡ true) (eqb-true j i same) there)
      | false ↦ λ _ later. in_right e (derived_in (f i)) (flat_map derived_in (map f js)) (in_joins f j e js later there)
    ] refl h

pub rows_read : (m : Model) (s : Sources) (b : Bound) → HasRowsOf m s (tables_read (explore_at m b.explore) b.joins) → HasRowsFor m s b
rows_read m s b h =
    let x = explore_at m b.explore in
    let part : ℕ → Origin = λ j. (part_at x (j + 1)).origin in
    record {
      valid = h.valid;
      derived = h.derived;
      read = record {
        base = same_rows s (whole m s) (part_at x 0).origin refl
            (λ e there. h.there e (in_left e (derived_in (part_at x 0).origin) (flat_map derived_in (map part b.joins)) there));
        joined = λ j taken. same_rows s (whole m s) (part j) refl
            (λ e there. h.there e (in_right e (derived_in (part_at x 0).origin) (flat_map derived_in (map part b.joins)) (in_joins part j e b.joins taken there)));
      };
    }

-- ---- what a derived table reads

-- what a derived table reads, from what equals it, its explore and its query
pub reads_found : (m : Model) (d : ℕ) (x : Explore) (table : Derived) (q : Bound) (joins : List ℕ) → table ≡ derived_at m d → x ≡ explore_at m table.explore → q ≡ derived_query x table
    → joins ≡ q.joins → tables_read x joins ≡ read_by m d
reads_found m d x table q joins derived explore query is =
    let x_is : x ≡ explore_at m (derived_at m d).explore = explore ∙ ap (λ (t : Derived). explore_at m t.explore) derived in
    let joins_are = is ∙ ap (λ (b : Bound). b.joins) (derived_query_is m d x table q derived explore query) in
    λ i. tables_read (x_is i) (joins_are i)

-- it stands in front of the table in an order
reads_before : (m : Model) (before order : List ℕ) (i : ℕ) → stand_behind m before order ≡ true → i < length order
    → list_all (λ e. has_number e (before ++ take i order)) (read_by m (slice_index_or order i 0)) ≡ true
reads_before m before [] i h less = absurd (omega arith)
reads_before m before (x ∷ order) zero h less =
    subst (λ all. list_all (λ e. has_number e all) (read_by m x) ≡ true) (sym (append-nil before)) (first (list_all (λ e. has_number e before) (read_by m x)) (stand_behind m (before ++ x ∷ []) order) h)
reads_before m before (x ∷ order) (suc i) h less =
    subst (λ all. list_all (λ e. has_number e all) (read_by m (slice_index_or order i 0)) ≡ true) (append_assoc before (x ∷ []) (take i order))
    (reads_before m (before ++ x ∷ []) order i (second (list_all (λ e. has_number e before) (read_by m x)) (stand_behind m (before ++ x ∷ []) order) h) (omega arith))

-- ---- which tables are needed

module _ (m : Model) (at_hand : List (Option Rows)) (wanted : List ℕ) where
  abbrev needed : List ℕ → List ℕ
  needed order = needed_over m at_hand order wanted

  keeps : (x e : ℕ) (all : List ℕ) → has_number e all ≡ true → has_number e (with_reads m at_hand x all) ≡ true
  keeps x e all h =
      elim (has_number x all && is_none (slice_index_or at_hand x None)) as (λ b. has_number e (if b then all ++ read_by m x else all) ≡ true) [
        | true ↦ in_left e all (read_by m x) h
        | false ↦ h
      ]

  pub wanted_needed : (e : ℕ) (order : List ℕ) → has_number e wanted ≡ true → has_number e (needed order) ≡ true
  wanted_needed e [] h = h
  wanted_needed e (x ∷ order) h = keeps x e (needed order) (wanted_needed e order h)

  -- the turn of a table, from the end
  pub needed_next : (order : List ℕ) (i place : ℕ) (now after : List ℕ) → i + 1 ≡ place → i < length order → now ≡ needed (drop place order)
      → after ≡ with_reads m at_hand (slice_index_or order i 0) now → after ≡ needed (drop i order)
  needed_next order i place now after next less so_far is =
      let more : place ≡ suc i = omega (arith, next) in
      is ∙ ap (with_reads m at_hand (slice_index_or order i 0)) so_far ∙ (λ k. with_reads m at_hand (slice_index_or order i 0) (needed (drop (more k) order)))
      ∙ ap needed (sym (drop-cons order i 0 less))

  adds : (x e : ℕ) (all : List ℕ) → has_number x (with_reads m at_hand x all) ≡ true → slice_index_or at_hand x None ≡ None → has_number e (read_by m x) ≡ true
      → has_number e (with_reads m at_hand x all) ≡ true
  adds x e all there none read =
      let missing : is_none (slice_index_or at_hand x None) ≡ true = ap is_none none in
      elim (has_number x all && is_none (slice_index_or at_hand x None)) as (λ b. (has_number x all && is_none (slice_index_or at_hand x None)) ≡ b → has_number x (if b then all ++ read_by m x else all) ≡ true → has_number e (if b then all ++ read_by m x else all) ≡ true) [
        | true ↦ λ _ _. in_right e all (read_by m x) read
        | false ↦ λ out is. absurd (false≢true (sym out ∙ both (has_number x all) (is_none (slice_index_or at_hand x None)) is missing))
      ] refl there

  -- a table that isn't read by another was needed before
  was_needed : (x d : ℕ) (all : List ℕ) → (has_number d (read_by m x) ≡ true → ⊥) → has_number d (with_reads m at_hand x all) ≡ true → has_number d all ≡ true
  was_needed x d all apart there =
      elim (has_number x all && is_none (slice_index_or at_hand x None)) as (λ b. has_number d (if b then all ++ read_by m x else all) ≡ true → has_number d all ≡ true) [
        | true ↦ λ is. ⊎_elim (λ here. here) (λ read. absurd (apart read)) (in_either d all (read_by m x) is)
        | false ↦ λ is. is
      ] there

  closed : (before order : List ℕ) → stand_behind m before order ≡ true → are_different order ≡ true
      → ((e : ℕ) → has_number e before ≡ true → has_number e order ≡ true → ⊥) → IsClosed m at_hand order (needed order)
  closed before [] behind once apart d there is none e read = absurd (false≢true there)
  closed before (x ∷ order) behind once apart d there is none e read =
      let reads = first (list_all (λ e. has_number e before) (read_by m x)) (stand_behind m (before ++ x ∷ []) order) behind in
      let alone : has_number x order ≡ false = is_not (has_number x order) (first (not (has_number x order)) (are_different order) once) in
      elim (nat_eq d x) as (λ b. nat_eq d x ≡ b → (b || has_number d order) ≡ true → has_number e (needed (x ∷ order)) ≡ true) [
        | true ↦ λ same _.
            let here : d ≡ x = eqb-true d x same in
            adds x e (needed order) (subst (λ k. has_number k (needed (x ∷ order)) ≡ true) here is)
            (subst (λ k. slice_index_or at_hand k None ≡ None) here none) (subst (λ k. has_number e (read_by m k) ≡ true) here read)
        | false ↦ λ _ later.
            keeps x e (needed order)
            (closed (before ++ x ∷ []) order (second (list_all (λ e. has_number e before) (read_by m x)) (stand_behind m (before ++ x ∷ []) order) behind)
            (second (not (has_number x order)) (are_different order) once)
            (λ k behind_it in_it. ⊎_elim (λ old. apart k old (or_right (nat_eq k x) (has_number k order) in_it))
            (λ new. false≢true (sym alone ∙ subst (λ z. has_number z order ≡ true) (only_one k x new) in_it)) (in_either k before (x ∷ []) behind_it))
            d later
            (was_needed x d (needed order) (λ read_it. apart d (of_all (λ e. has_number e before) (read_by m x) reads d read_it) (or_right (nat_eq d x) (has_number d order) later)) is)
            none e read)
      ] refl there

  pub needed_closed : (order : List ℕ) → IsDeriveOrder m order → IsClosed m at_hand order (needed order)
  needed_closed order is = closed [] order is.behind is.once (λ e none _. false≢true none)

-- ---- tables with the rows of some derived ones in place

no_rows_at : (tables : List Derived) (d : ℕ) → slice_index_or {A = Rows} (map (λ table. []) tables) d [] ≡ []
no_rows_at [] d = refl
no_rows_at (table ∷ tables) zero = refl
no_rows_at (table ∷ tables) (suc d) = no_rows_at tables d

module _ (m : Model) (stored : List Rows) (needed : List ℕ) where
  filled_none : IsFilled m stored needed [] (record { stored = stored; derived = no_rows m })
  filled_none = record {
    same = refl;
    many = length-map m.derived (λ table. []);
    derived = λ d. inl (no_rows_at m.derived d);
    there = λ d none _. absurd (false≢true none);
  }

  pub filled_begun : (s : Sources) → s ≡ record { stored = stored; derived = no_rows m } → IsFilled m stored needed [] s
  filled_begun s is = subst (IsFilled m stored needed []) (sym is) filled_none

  module _ (front : List ℕ) (d : ℕ) (s : Sources) (less : d < length m.derived) (is : IsFilled m stored needed front s) where
    abbrev put : Sources
    put = record { stored = s.stored; derived = slice_set s.derived d (whole_rows m s d) }

    here : slice_index_or put.derived d [] ≡ whole_rows m s d
    here = get_or-set_same s.derived d (whole_rows m s d) [] (omega (arith, less, is.many))

    elsewhere : (e : ℕ) → nat_eq e d ≡ false → slice_index_or put.derived e [] ≡ slice_index_or s.derived e []
    elsewhere e other = get_or-set_other s.derived d e (whole_rows m s d) [] (λ same. false≢true (sym other ∙ ap (nat_eq e) (sym same) ∙ numbers_equal.itself e))

    by_place : (e : ℕ) (P : Rows → Type 0) → (e ≡ d → P (whole_rows m s e)) → (nat_eq e d ≡ false → P (slice_index_or s.derived e [])) → P (slice_index_or put.derived e [])
    by_place e P own other =
        elim (nat_eq e d) as (λ b. nat_eq e d ≡ b → P (slice_index_or put.derived e [])) [
          | true ↦ λ same. let same : e ≡ d = eqb-true e d same in
              subst P (sym (subst (λ k. slice_index_or put.derived k [] ≡ whole_rows m s k) (sym same) here)) (own same)
          | false ↦ λ out. subst P (sym (elsewhere e out)) (other out)
        ] refl

    put_filled : IsFilled m stored needed (front ++ d ∷ []) put
    put_filled = record {
      same = is.same;
      many = length-set s.derived d (whole_rows m s d) ∙ is.many;
      derived = λ e. by_place e (λ rows. (rows ≡ []) ⊎ (rows ≡ whole_rows m s e)) (λ _. inr refl) (λ _. is.derived e);
      there = λ e turn need. by_place e (λ rows. rows ≡ whole_rows m s e) (λ _. refl)
          (λ out. is.there e (⊎_elim (λ old. old) (λ new. absurd (false≢true (sym out ∙ ap (nat_eq e) (sym (only_one e d new)) ∙ numbers_equal.itself e))) (in_either e front (d ∷ []) turn)) need);
    }

    left_filled : has_number d needed ≡ false → IsFilled m stored needed (front ++ d ∷ []) s
    left_filled out = record {
      same = is.same;
      many = is.many;
      derived = is.derived;
      there = λ e turn need. ⊎_elim (λ old. is.there e old need)
          (λ new. absurd (false≢true (sym out ∙ subst (λ k. has_number k needed ≡ true) (only_one e d new) need))) (in_either e front (d ∷ []) turn);
    }

    filled_more : IsFilled m stored needed (front ++ d ∷ []) (with_rows m needed d s)
    filled_more =
        elim (has_number d needed) as (λ b. has_number d needed ≡ b → IsFilled m stored needed (front ++ d ∷ []) (if b then put else s)) [
          | true ↦ λ _. put_filled
          | false ↦ λ out. left_filled out
        ] refl

  -- what a table reads that has its turn is in place
  filled_reads : (front : List ℕ) (d : ℕ) (s : Sources) → IsFilled m stored needed front s → are_valid_tables m.schema.tables stored ≡ true
      → list_all (λ e. has_number e front) (read_by m d) ≡ true → ((e : ℕ) → has_number e (read_by m d) ≡ true → has_number e needed ≡ true) → HasRowsOf m s (read_by m d)
  filled_reads front d s is valid before need = record {
    valid = subst (λ tables. are_valid_tables m.schema.tables tables ≡ true) (sym is.same) valid;
    derived = is.derived;
    there = λ e read. is.there e (of_all (λ k. has_number k front) (read_by m d) before e read) (need e read);
  }

  -- the turn of a table, from the front
  module _ (order : List ℕ) (i : ℕ) (s : Sources) (all : IsDeriveOrder m order) (less : i < length order) (is : IsFilled m stored needed (take i order) s) where
    abbrev d : ℕ
    d = slice_index_or order i 0

    pub filled_next : (t : Sources) → t ≡ with_rows m needed d s → IsFilled m stored needed (take (i + 1) order) t
    filled_next t same =
        subst (λ front. IsFilled m stored needed front t) (sym (take_more order i 0 less))
        (subst (IsFilled m stored needed (take i order ++ d ∷ [])) (sym same)
        (filled_more (take i order) d s (of_test d (length m.derived) (of_all (λ e. nat_lt e (length m.derived)) order all.within d (stands_there order i less))) is))

    pub turn_reads : (at_hand : List (Option Rows)) → are_valid_tables m.schema.tables stored ≡ true → IsClosed m at_hand order needed
        → has_number d needed ≡ true → slice_index_or at_hand d None ≡ None → HasRowsFor m s (query_of_derived m d)
    turn_reads at_hand valid closed need none =
        rows_read m s (query_of_derived m d)
        (filled_reads (take i order) d s is valid (reads_before m [] order i all.behind less) (closed d (stands_there order i less) need none))

  -- at the end all that is wanted is in place
  pub filled_all : (order wanted : List ℕ) (s : Sources) → IsDeriveOrder m order → IsFilled m stored needed order s → are_valid_tables m.schema.tables stored ≡ true
      → ((e : ℕ) → has_number e wanted ≡ true → has_number e needed ≡ true) → HasRowsOf m s wanted
  filled_all order wanted s all is valid need = record {
    valid = subst (λ tables. are_valid_tables m.schema.tables tables ≡ true) (sym is.same) valid;
    derived = is.derived;
    there = λ d want. ⊎_elim (λ less. is.there d (all.each d less) (need d want))
        (λ past. get_or_past s.derived d [] (subst (λ n. n ≤ d) (sym is.many) past) ∙ sym (past_end m s.stored (length m.derived) d past)) (lt_or_ge d (length m.derived));
  }

-- the rows of a derived table over tables that are whole
pub rows_whole : (m : Model) (s : Sources) (d : ℕ) → IsResolved m → nat_lt d (length m.derived) ≡ true → derived_rows m (whole m s) (derived_at m d) ≡ whole_rows m s d
rows_whole m s d resolved less =
    sym (ap (λ tables. slice_index_or tables d []) (derived_rows_are_whole m (record { tables = s.stored }) resolved.acyclic)
    ∙ get_or-map (derived_rows m (whole m s)) m.derived d no_derived [] (of_test d (length m.derived) less))
