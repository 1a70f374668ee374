-- Rounds over the derived tables of a resolved model put each behind those that its query reads, and come to all.
use Rattle.std.proofs.Common.{◌≡◌, ℕ, zero, suc, ◌+◌, ◌<◌, Bool, true, false, ◌&&◌, ◌||◌, List, [], ◌∷◌, ◌++◌, drop, drop-cons, map, length, refl, sym, ap, subst, ◌∙◌, arith}
use Rattle.std.specs.Prelude.{if◌then◌else◌, nat_eq, nat_lt, not, slice_index_or}
use Rattle.std.specs.List.{list_all}
use Rattle.std.proofs.lemmas.Bool.{false≢true, eqb-true}
use Rattle.std.proofs.lemmas.List.{append-nil, append_assoc, get_or-map, length-map}
use Rattle.lk_types.specs.Expressions.{has_number}
use Rattle.lk_types.specs.declared.explore.Origin.{Origin}
use Rattle.lk_types.specs.declared.explore.Origin.TheVariants as origin
use Rattle.lk_types.specs.declared.explore.Part.{Part}
use Rattle.lk_types.specs.declared.model.Derived.{Derived}
use Rattle.lk_types.specs.declared.model.Model.{Model}
use Rattle.lk_semantics.specs.Derived.{derived_query, explore_at, no_explore}
use Rattle.lk_semantics.specs.Joins.{no_part, numbers_below, part_at}
use Rattle.lk_semantics.specs.Reading.{derived_in, read_by}
use Rattle.lk_semantics.specs.Resolved.{IsResolved, is_none_or_below, is_numbered_datagroup, is_numbered_derived, is_numbered_explore, is_origin}
use Rattle.lk_semantics.specs.Rollups.{derived_at, no_derived, origins_of}
use Rattle.lk_semantics.proofs.DepthLaws.{IsAcyclic, no_table_reads_itself, rank, rank_bound, rank_falls}
use Rattle.lk_semantics.proofs.EveryLaws.{Every, both, every-at, every-flat_map, first, second}
use Rattle.lk_fill.specs.Orders.{IsDeriveOrder, after_rounds, are_different, is_ready, reads_of_each, stand_behind, with_ready}
use Rattle.lk_fill.specs.Reads.{tables_read}
use Rattle.lk_fill.proofs.NumberLaws.{all_below, all_of, at_back, below_there, different_more, in_front, is_not, of_all, of_test, to_test, within_more}

-- ---- one more in the order

behind_more : (m : Model) (before order : List ℕ) (d : ℕ) → stand_behind m before order ≡ true
    → list_all (λ e. has_number e (before ++ order)) (read_by m d) ≡ true → stand_behind m before (order ++ d ∷ []) ≡ true
behind_more m before [] d h reads =
    both (list_all (λ e. has_number e before) (read_by m d)) true (subst (λ all. list_all (λ e. has_number e all) (read_by m d) ≡ true) (append-nil before) reads) refl
behind_more m before (x ∷ order) d h reads =
    both (list_all (λ e. has_number e before) (read_by m x)) (stand_behind m (before ++ x ∷ []) (order ++ d ∷ []))
    (first (list_all (λ e. has_number e before) (read_by m x)) (stand_behind m (before ++ x ∷ []) order) h)
    (behind_more m (before ++ x ∷ []) order d (second (list_all (λ e. has_number e before) (read_by m x)) (stand_behind m (before ++ x ∷ []) order) h)
    (subst (λ all. list_all (λ e. has_number e all) (read_by m d) ≡ true) (sym (append_assoc before (x ∷ []) order)) reads))

-- ---- one round

module _ (reads : List (List ℕ)) where
  abbrev next : List ℕ → ℕ → List ℕ
  next order d = if is_ready order d (slice_index_or reads d []) then order ++ d ∷ [] else order

  next_keeps : (order : List ℕ) (d e : ℕ) → has_number e order ≡ true → has_number e (next order d) ≡ true
  next_keeps order d e h =
      elim (is_ready order d (slice_index_or reads d [])) as (λ b. has_number e (if b then order ++ d ∷ [] else order) ≡ true) [
        | true ↦ in_front e d order h
        | false ↦ h
      ]

  round_keeps : (ds order : List ℕ) (e : ℕ) → has_number e order ≡ true → has_number e (with_ready reads ds order) ≡ true
  round_keeps [] order e h = h
  round_keeps (d ∷ ds) order e h = round_keeps ds (next order d) e (next_keeps order d e h)

  -- a table all of whose reads are there is there afterwards
  next_adds : (order : List ℕ) (d : ℕ) → list_all (λ e. has_number e order) (slice_index_or reads d []) ≡ true → has_number d (next order d) ≡ true
  next_adds order d h =
      elim (has_number d order) as (λ b. has_number d order ≡ b → has_number d (if not b && list_all (λ e. has_number e order) (slice_index_or reads d []) then order ++ d ∷ [] else order) ≡ true) [
        | true ↦ λ there. there
        | false ↦ λ _. subst (λ b. has_number d (if b then order ++ d ∷ [] else order) ≡ true) (sym h) (at_back d order)
      ] refl

  round_adds : (ds order : List ℕ) (d : ℕ) → has_number d ds ≡ true → list_all (λ e. has_number e order) (slice_index_or reads d []) ≡ true → has_number d (with_ready reads ds order) ≡ true
  round_adds [] order d there h = absurd (false≢true there)
  round_adds (x ∷ ds) order d there h =
      elim (nat_eq d x) as (λ b. nat_eq d x ≡ b → (b || has_number d ds) ≡ true → has_number d (with_ready reads ds (next order x)) ≡ true) [
        | true ↦ λ same _. round_keeps ds (next order x) d (subst (λ y. has_number d (next order y) ≡ true) (eqb-true d x same) (next_adds order d h))
        | false ↦ λ _ later. round_adds ds (next order x) d later
            (all_of (λ e. has_number e (next order x)) (slice_index_or reads d []) (λ e read. next_keeps order x e (of_all (λ e. has_number e order) (slice_index_or reads d []) h e read)))
      ] refl there

  -- a table is added only where it isn't there
  round_different : (ds order : List ℕ) → are_different order ≡ true → are_different (with_ready reads ds order) ≡ true
  round_different [] order h = h
  round_different (d ∷ ds) order h =
      round_different ds (next order d)
      (elim (is_ready order d (slice_index_or reads d [])) as (λ b. is_ready order d (slice_index_or reads d []) ≡ b → are_different (if b then order ++ d ∷ [] else order) ≡ true) [
        | true ↦ λ ready. different_more order d h
            (is_not (has_number d order) (first (not (has_number d order)) (list_all (λ e. has_number e order) (slice_index_or reads d [])) ready))
        | false ↦ λ _. h
      ] refl)

-- a round over one table more
round_more : (reads : List (List ℕ)) (ds : List ℕ) (d : ℕ) (order : List ℕ) → next reads (with_ready reads ds order) d ≡ with_ready reads (ds ++ d ∷ []) order
round_more reads [] d order = refl
round_more reads (x ∷ ds) d order = round_more reads ds d (next reads order x)

pub next_round : (reads : List (List ℕ)) (i : ℕ) (start order after row : List ℕ) → order ≡ with_ready reads (numbers_below i) start → row ≡ slice_index_or reads i []
    → after ≡ (if is_ready order i row then order ++ i ∷ [] else order) → after ≡ with_ready reads (numbers_below (i + 1)) start
next_round reads i start order after row so_far here is =
    let more : suc i ≡ i + 1 = omega arith in
    is ∙ (λ k. if is_ready (so_far k) i (here k) then so_far k ++ i ∷ [] else so_far k)
    ∙ round_more reads (numbers_below i) i start ∙ ap (λ k. with_ready reads (numbers_below k) start) more

pub rounds_next : (reads : List (List ℕ)) (k : ℕ) → with_ready reads (numbers_below (length reads)) (after_rounds reads k) ≡ after_rounds reads (k + 1)
rounds_next reads k = let more : suc k ≡ k + 1 = omega arith in ap (after_rounds reads) more

-- ---- of a model

-- what the query of a derived table reads
abbrev pub read_from : Model → Derived → List ℕ
read_from m t = tables_read (explore_at m t.explore) (derived_query (explore_at m t.explore) t).joins

-- the reads of one table more
pub reads_next : (m : Model) (i : ℕ) (reads after : List (List ℕ)) (row : List ℕ) → i < length m.derived → reads ++ map (read_from m) (drop i m.derived) ≡ reads_of_each m
    → row ≡ read_by m i → after ≡ reads ++ row ∷ [] → after ++ map (read_from m) (drop (i + 1) m.derived) ≡ reads_of_each m
reads_next m i reads after row less so_far here is =
    let more : i + 1 ≡ suc i = omega arith in
    ap (λ all. all ++ map (read_from m) (drop (i + 1) m.derived)) is
    ∙ append_assoc reads (row ∷ []) (map (read_from m) (drop (i + 1) m.derived))
    ∙ (λ k. reads ++ here k ∷ map (read_from m) (drop (more k) m.derived))
    ∙ ap (λ tables. reads ++ map (read_from m) tables) (sym (drop-cons m.derived i no_derived less))
    ∙ so_far

module _ (m : Model) (resolved : IsResolved m) where
  abbrev n : ℕ
  n = length m.derived

  abbrev reads : List (List ℕ)
  reads = reads_of_each m

  reads_are : (d : ℕ) → nat_lt d n ≡ true → slice_index_or reads d [] ≡ read_by m d
  reads_are d h = get_or-map (read_from m) m.derived d no_derived [] (of_test d n h)

  round_within : (ds order : List ℕ) → list_all (λ d. nat_lt d n) ds ≡ true → list_all (λ d. nat_lt d n) order ≡ true → list_all (λ d. nat_lt d n) (with_ready reads ds order) ≡ true
  round_within [] order h all = all
  round_within (d ∷ ds) order h all =
      round_within ds (next reads order d) (second (nat_lt d n) (list_all (λ d. nat_lt d n) ds) h)
      (elim (is_ready order d (slice_index_or reads d [])) as (λ b. list_all (λ d. nat_lt d n) (if b then order ++ d ∷ [] else order) ≡ true) [
        | true ↦ within_more n d order all (first (nat_lt d n) (list_all (λ d. nat_lt d n) ds) h)
        | false ↦ all
      ])

  round_behind : (ds order : List ℕ) → list_all (λ d. nat_lt d n) ds ≡ true → stand_behind m [] order ≡ true → stand_behind m [] (with_ready reads ds order) ≡ true
  round_behind [] order h behind = behind
  round_behind (d ∷ ds) order h behind =
      round_behind ds (next reads order d) (second (nat_lt d n) (list_all (λ d. nat_lt d n) ds) h)
      (elim (is_ready order d (slice_index_or reads d [])) as (λ b. is_ready order d (slice_index_or reads d []) ≡ b → stand_behind m [] (if b then order ++ d ∷ [] else order) ≡ true) [
        | true ↦ λ ready. behind_more m [] order d behind
            (subst (λ rs. list_all (λ e. has_number e order) rs ≡ true) (reads_are d (first (nat_lt d n) (list_all (λ d. nat_lt d n) ds) h))
            (second (not (has_number d order)) (list_all (λ e. has_number e order) (slice_index_or reads d [])) ready))
        | false ↦ λ _. behind
      ] refl)

  -- ---- what is read is a derived table of the model

  abbrev pub is_there : Origin → Bool
  is_there (origin.Stored t) = true
  is_there (origin.Derived d) = nat_lt d n

  origin_there : (o : Origin) → is_origin m o ≡ true → is_there o ≡ true
  origin_there (origin.Stored t) h = refl
  origin_there (origin.Derived d) h = h

  numbered_parts : (e : ℕ) → list_all (λ part. is_origin m part.origin) (explore_at m e).parts ≡ true
  numbered_parts e =
      let x = explore_at m e in
      let explores = second (list_all (λ t. is_none_or_below (length t.columns) t.key) m.schema.tables) (list_all (is_numbered_explore m) m.explores)
      (first _ (list_all (is_numbered_derived m) m.derived) (first _ (list_all (is_numbered_datagroup m) m.datagroups) resolved.numbered)) in
      let numbered = every-at (is_numbered_explore m) m.explores e no_explore explores refl in
      first (list_all (λ part. is_origin m part.origin) x.parts) _ (first _ _ (first _ _ (first _ _ (first _ _ (first _ _ (first _ _ numbered))))))

  at_part : (parts : List Part) (p : ℕ) → list_all (λ part. is_origin m part.origin) parts ≡ true → is_there (slice_index_or parts p no_part).origin ≡ true
  at_part [] p h = refl
  at_part (part ∷ parts) zero h = origin_there part.origin (first (is_origin m part.origin) (list_all (λ part. is_origin m part.origin) parts) h)
  at_part (part ∷ parts) (suc p) h = at_part parts p (second (is_origin m part.origin) (list_all (λ part. is_origin m part.origin) parts) h)

  part_there : (e p : ℕ) → is_there (part_at (explore_at m e) p).origin ≡ true
  part_there e p = at_part (explore_at m e).parts p (numbered_parts e)

  joins_there : (e : ℕ) (js : List ℕ) → Every is_there (map (λ j. (part_at (explore_at m e) (j + 1)).origin) js)
  joins_there e [] = refl
  joins_there e (j ∷ js) = both (is_there (part_at (explore_at m e) (j + 1)).origin) _ (part_there e (j + 1)) (joins_there e js)

  pub origins_there : (e : ℕ) (joins : List ℕ) → Every is_there (origins_of (explore_at m e) joins)
  origins_there e joins = both (is_there (part_at (explore_at m e) 0).origin) _ (part_there e 0) (joins_there e joins)

  derived_there : (o : Origin) → is_there o ≡ true → Every (λ e. nat_lt e n) (derived_in o)
  derived_there (origin.Stored t) h = refl
  derived_there (origin.Derived d) h = both (nat_lt d n) true h refl

  read_there : (d e : ℕ) → has_number e (read_by m d) ≡ true → e < n
  read_there d e read =
      let t = derived_at m d in
      let x = explore_at m t.explore in
      of_test e n (of_all (λ e. nat_lt e n) (read_by m d)
      (every-flat_map (λ e. nat_lt e n) is_there derived_in derived_there (origins_of x (derived_query x t).joins) (origins_there t.explore (derived_query x t).joins)) e read)

  -- ---- all rounds

  acyclic : IsAcyclic m
  acyclic = no_table_reads_itself m resolved.acyclic

  as_many : length reads ≡ n
  as_many = length-map m.derived (read_from m)

  tables : list_all (λ d. nat_lt d n) (numbers_below (length reads)) ≡ true
  tables = all_below (length reads) n (omega (arith, as_many))

  -- after k rounds each table of a rank below k is there
  ranked : (k d : ℕ) → d < n → rank m d < k → has_number d (after_rounds reads k) ≡ true
  ranked zero d there h = absurd (omega arith)
  ranked (suc k) d there h =
      let order = after_rounds reads k in
      round_adds reads (numbers_below (length reads)) order d (below_there (length reads) d (omega (arith, there, as_many)))
      (subst (λ rs. list_all (λ e. has_number e order) rs ≡ true) (sym (reads_are d (to_test d n there)))
      (all_of (λ e. has_number e order) (read_by m d) (λ e read.
      ranked k e (read_there d e read) (omega (arith, rank_falls m acyclic d e (below_there n e (read_there d e read)) read, h)))))

  rounds_different : (k : ℕ) → are_different (after_rounds reads k) ≡ true
  rounds_different zero = refl
  rounds_different (suc k) = round_different reads (numbers_below (length reads)) (after_rounds reads k) (rounds_different k)

  rounds_within : (k : ℕ) → list_all (λ d. nat_lt d n) (after_rounds reads k) ≡ true
  rounds_within zero = refl
  rounds_within (suc k) = round_within (numbers_below (length reads)) (after_rounds reads k) tables (rounds_within k)

  rounds_behind : (k : ℕ) → stand_behind m [] (after_rounds reads k) ≡ true
  rounds_behind zero = refl
  rounds_behind (suc k) = round_behind (numbers_below (length reads)) (after_rounds reads k) tables (rounds_behind k)

  pub rounds-order : IsDeriveOrder m (after_rounds reads n)
  rounds-order = record {
    once = rounds_different n;
    within = rounds_within n;
    each = λ d there. ranked n d there (rank_bound m acyclic d (below_there n d there));
    behind = rounds_behind n;
  }

  -- the order over what each derived table reads
  pub order_is : (reads_found : List (List ℕ)) (order : List ℕ) → reads_found ≡ reads → order ≡ after_rounds reads_found (length reads_found) → IsDeriveOrder m order
  order_is reads_found order found is =
      subst (IsDeriveOrder m) (sym (is ∙ ap (λ all. after_rounds all (length all)) found ∙ ap (after_rounds reads) as_many)) rounds-order
