-- Where no derived table reads itself, as many rounds as there are derived tables give the rows of each.
use Rattle.std.proofs.Common.{◌≡◌, ℕ, zero, suc, ◌+◌, ◌<◌, ◌≤◌, Bool, true, false, ◌||◌, List, [], ◌∷◌, ◌++◌, map, length, refl, sym, ap, subst, ◌∙◌, arith, inl, inr, ⊎_elim}
use Rattle.std.specs.Prelude.{filter, flat_map, nat_eq, not, ◌⊎◌, slice_index_or, if◌then◌else◌}
use Rattle.std.specs.List.{list_any, list_all}
use Rattle.std.proofs.lemmas.Bool.{false≢true, eqb-true}
use Rattle.std.proofs.lemmas.List.{get_or-map, length-map}
use Rattle.lk_val.proofs.LeastLaws.{IsEquality, IsMonotone, IsKept, least_set-kept, least_set-within, any_within}
use Rattle.lk_types.specs.Expressions.{has_number}
use Rattle.lk_types.specs.Tables.{Rows}
use Rattle.lk_semantics.specs.Joins.{numbers_below, part_at, rows_from, base_rows, join_rows, joined_after, joined_rows, joined_by, with_part, null_row, join_at, in_declared_order}
use Rattle.lk_semantics.specs.Rows.{passing_rows}
use Rattle.lk_semantics.specs.Answers.{dims_of, query_components, rows_grouped, lines_of}
use Rattle.lk_semantics.specs.Derived.{explore_at, derived_query, value_of_cell, answer_rows, derived_rows, derived_within, sources_of}
use Rattle.lk_semantics.specs.Rollups.{derived_at, no_derived, origins_of}
use Rattle.lk_semantics.specs.Reading.{derived_in, read_by, is_read, with_all_read, all_read_by, reads_itself}
use Rattle.lk_semantics.proofs.JoinLaws.{numbers_equal}
use Rattle.lk_semantics.proofs.EveryLaws.{first, second}
use Rattle.lk_semantics.proofs.CountLaws.{no_more, fewer, all_kept}
use Rattle.lk_types.specs.declared.rows.Joined.{Joined}
use Rattle.lk_types.specs.declared.rows.Sources.{Sources}
use Rattle.lk_types.specs.declared.rows.Tables.{Tables}
use Rattle.lk_types.specs.declared.bound.Bound.{Bound}
use Rattle.lk_types.specs.declared.explore.Explore.{Explore}
use Rattle.lk_types.specs.declared.explore.Origin.{Origin}
use Rattle.lk_types.specs.declared.explore.Origin.TheVariants.{Stored, Derived as FromDerived}
use Rattle.lk_types.specs.declared.model.Model.{Model}
use Rattle.lk_types.specs.declared.model.Derived.{Derived}

or_left : (a b : Bool) → a ≡ true → (a || b) ≡ true
or_left true b h = refl
or_left false b h = absurd (false≢true h)

or_right : (a b : Bool) → b ≡ true → (a || b) ≡ true
or_right true b h = refl
or_right false b h = h

-- what is read from the known is read from more
or_second : (a b c : Bool) → (b ≡ true → c ≡ true) → (a || b) ≡ true → (a || c) ≡ true
or_second true b c f h = refl
or_second false b c f h = f h

-- a number of the list passes: some passes
some_passes : (f : ℕ → Bool) (y : ℕ) (xs : List ℕ) → f y ≡ true → has_number y xs ≡ true → list_any f xs ≡ true
some_passes f y [] h there = absurd (false≢true there)
some_passes f y (x ∷ xs) h there =
    elim (nat_eq y x) as (λ b. nat_eq y x ≡ b → (b || has_number y xs) ≡ true → (f x || list_any f xs) ≡ true) [
      | true ↦ λ same _. or_left (f x) (list_any f xs) (subst (λ z. f z ≡ true) (eqb-true y x same) h)
      | false ↦ λ _ later. or_right (f x) (list_any f xs) (some_passes f y xs h later)
    ] refl there

split : (y n : ℕ) → y < suc n → (y < n) ⊎ (y ≡ n)
split zero zero h = inr refl
split zero (suc n) h = inl (omega arith)
split (suc y) zero h = absurd (omega arith)
split (suc y) (suc n) h = ⊎_elim (λ less. inl (omega arith)) (λ same. inr (ap suc same)) (split y n (omega arith))

in_front : (y n : ℕ) (xs : List ℕ) → has_number y xs ≡ true → has_number y (xs ++ n ∷ []) ≡ true
in_front y n [] h = absurd (false≢true h)
in_front y n (x ∷ xs) h = or_second (nat_eq y x) (has_number y xs) (has_number y (xs ++ n ∷ [])) (in_front y n xs) h

at_back : (y n : ℕ) (xs : List ℕ) → y ≡ n → has_number y (xs ++ n ∷ []) ≡ true
at_back y n [] is = or_left (nat_eq y n) false (subst (λ z. nat_eq y z ≡ true) is (numbers_equal.itself y))
at_back y n (x ∷ xs) is = or_right (nat_eq y x) (has_number y (xs ++ n ∷ [])) (at_back y n xs is)

-- each number below n is one of those, and they are n
below_there : (n y : ℕ) → y < n → has_number y (numbers_below n) ≡ true
below_there zero y h = absurd (omega arith)
below_there (suc n) y h = ⊎_elim (λ less. in_front y n (numbers_below n) (below_there n y less)) (at_back y n (numbers_below n)) (split y n h)

length-snoc : (n : ℕ) (xs : List ℕ) → length (xs ++ n ∷ []) ≡ suc (length xs)
length-snoc n [] = refl
length-snoc n (x ∷ xs) = ap suc (length-snoc n xs)

length-below : (n : ℕ) → length (numbers_below n) ≡ n
length-below zero = refl
length-below (suc n) = length-snoc n (numbers_below n) ∙ ap suc (length-below n)

-- ---- what is read is less

module _ (m : Model) where
  abbrev all : List ℕ
  all = numbers_below (length m.derived)

  is_read-monotone : (tables : List ℕ) → IsMonotone numbers_equal all (is_read m tables)
  is_read-monotone tables s t within d h =
      or_second (has_number d tables) _ _ (any_within numbers_equal (λ reader. has_number d (read_by m reader)) s t within) h

  read_kept : (tables : List ℕ) → IsKept numbers_equal all (is_read m tables) (with_all_read m tables)
  read_kept tables = least_set-kept numbers_equal all (is_read m tables) (is_read-monotone tables)

  -- what a table reads directly, it reads
  reads : (d e : ℕ) → has_number e all ≡ true → has_number e (read_by m d) ≡ true → has_number e (all_read_by m d) ≡ true
  reads d e there h = read_kept (read_by m d) e there (or_left (has_number e (read_by m d)) _ h)

  -- and so all that the other reads
  reads_through : (d e : ℕ) → has_number e (all_read_by m d) ≡ true → (k : ℕ) → has_number k (all_read_by m e) ≡ true → has_number k (all_read_by m d) ≡ true
  reads_through d e known = least_set-within numbers_equal all (is_read m (read_by m e)) (is_read-monotone (read_by m e)) (all_read_by m d) closed
    where
      closed : IsKept numbers_equal all (is_read m (read_by m e)) (all_read_by m d)
      closed k there h =
          elim (has_number k (read_by m e)) as (λ b. has_number k (read_by m e) ≡ b → (b || list_any (λ reader. has_number k (read_by m reader)) (all_read_by m d)) ≡ true → has_number k (all_read_by m d) ≡ true) [
            | true ↦ λ read _. read_kept (read_by m d) k there (or_right (has_number k (read_by m d)) _ (some_passes (λ reader. has_number k (read_by m reader)) e (all_read_by m d) read known))
            | false ↦ λ _ through. read_kept (read_by m d) k there (or_right (has_number k (read_by m d)) _ through)
          ] refl h

  -- how many tables a table reads
  pub rank : ℕ → ℕ
  rank d = length (filter (λ k. has_number k (all_read_by m d)) all)

  -- no derived table reads itself
  abbrev pub IsAcyclic : Type 0
  IsAcyclic = (d : ℕ) → has_number d all ≡ true → reads_itself m d ≡ false

  module _ (acyclic : IsAcyclic) where
    pub rank_falls : (d e : ℕ) → has_number e all ≡ true → has_number e (read_by m d) ≡ true → rank e < rank d
    unfolding rank
    rank_falls d e there h =
        fewer (λ k. has_number k (all_read_by m e)) (λ k. has_number k (all_read_by m d)) (reads_through d e (reads d e there h)) e (acyclic e there) (reads d e there h) all there

    pub rank_bound : (d : ℕ) → has_number d all ≡ true → rank d < length m.derived
    unfolding rank
    rank_bound d there =
        subst (λ n. rank d < n) (all_kept all ∙ length-below (length m.derived))
        (fewer (λ k. has_number k (all_read_by m d)) (λ k. true) (λ k h. refl) d (acyclic d there) refl all there)

-- ---- rows depend on what is read

-- two sources give the same rows of the views that a query reads
pub record AgreeOn (x : Explore) (joins : List ℕ) (s t : Sources) : Type 0 where
  pub base : rows_from s (part_at x 0).origin ≡ rows_from t (part_at x 0).origin
  pub joined : (j : ℕ) → has_number j joins ≡ true → rows_from s (part_at x (j + 1)).origin ≡ rows_from t (part_at x (j + 1)).origin

module _ (x : Explore) (joins : List ℕ) (s t : Sources) (agree : AgreeOn x joins s t) where
  after_agrees : (js : List ℕ) (left : List Joined) → joined_after x s left (filter (λ j. has_number j joins) js) ≡ joined_after x t left (filter (λ j. has_number j joins) js)
  after_agrees [] left = refl
  after_agrees (j ∷ js) left =
      elim (has_number j joins) as (λ b. has_number j joins ≡ b → joined_after x s left (if b then j ∷ filter (λ k. has_number k joins) js else filter (λ k. has_number k joins) js) ≡ joined_after x t left (if b then j ∷ filter (λ k. has_number k joins) js else filter (λ k. has_number k joins) js)) [
        | true ↦ λ taken. after_agrees js (join_rows x s left j) ∙ ap (λ rights. joined_after x t (joined_by (join_at x j).kind x (join_at x j).on (j + 1) left rights) (filter (λ k. has_number k joins) js)) (agree.joined j taken)
        | false ↦ λ _. after_agrees js left
      ] refl

  pub joined_rows_agree : joined_rows x s joins ≡ joined_rows x t joins
  joined_rows_agree = after_agrees (numbers_below (length x.joins)) (base_rows x s) ∙ ap (λ rows. joined_after x t (map (with_part 0 (null_row x)) rows) (in_declared_order x joins)) agree.base

-- ---- rounds

module _ (m : Model) (stored : List Rows) where
  abbrev round : ℕ → Sources
  round n = record { stored = stored; derived = derived_within m stored n }

  -- the rows of a table past the end
  pub past_end : (n e : ℕ) → length m.derived ≤ e → slice_index_or (derived_within m stored n) e [] ≡ []
  past_end zero e h = refl
  past_end (suc n) e h = past (map (derived_rows m (round n)) m.derived) e (subst (λ k. k ≤ e) (sym (length-map m.derived (derived_rows m (round n)))) h)
    where
      past : (xs : List Rows) (e : ℕ) → length xs ≤ e → slice_index_or xs e [] ≡ []
      past [] e h = refl
      past (x ∷ xs) zero h = absurd (omega arith)
      past (x ∷ xs) (suc e) h = past xs e (omega arith)

  pub row_at : (n d : ℕ) → d < length m.derived → slice_index_or (derived_within m stored (suc n)) d [] ≡ derived_rows m (round n) (derived_at m d)
  row_at n d h = get_or-map (derived_rows m (round n)) m.derived d no_derived [] h

pub lt_or_ge : (a b : ℕ) → (a < b) ⊎ (b ≤ a)
lt_or_ge a zero = inr (omega arith)
lt_or_ge zero (suc b) = inl (omega arith)
lt_or_ge (suc a) (suc b) = ⊎_elim (λ less. inl (omega arith)) (λ more. inr (omega arith)) (lt_or_ge a b)

in_right : (e : ℕ) (xs ys : List ℕ) → has_number e ys ≡ true → has_number e (xs ++ ys) ≡ true
in_right e [] ys h = h
in_right e (x ∷ xs) ys h = or_right (nat_eq e x) (has_number e (xs ++ ys)) (in_right e xs ys h)

in_left : (e : ℕ) (xs ys : List ℕ) → has_number e xs ≡ true → has_number e (xs ++ ys) ≡ true
in_left e [] ys h = absurd (false≢true h)
in_left e (x ∷ xs) ys h = or_second (nat_eq e x) (has_number e xs) (has_number e (xs ++ ys)) (in_left e xs ys) h

-- a view's derived table is among those of its origin
in_origin : (o : Origin) (e : ℕ) → o ≡ FromDerived e → has_number e (derived_in o) ≡ true
in_origin o e is = subst (λ p. has_number e (derived_in p) ≡ true) (sym is) (or_left (nat_eq e e) false (numbers_equal.itself e))

-- and that of a joined view is among those of the joins
in_joins : (f : ℕ → Origin) (j e : ℕ) (js : List ℕ) → has_number j js ≡ true → f j ≡ FromDerived e → has_number e (flat_map derived_in (map f js)) ≡ true
in_joins f j e [] h is = absurd (false≢true h)
in_joins f j e (i ∷ js) h is =
    elim (nat_eq j i) as (λ b. nat_eq j i ≡ b → (b || has_number j js) ≡ true → has_number e (derived_in (f i) ++ flat_map derived_in (map f js)) ≡ true) [
      | true ↦ λ same _. in_left e (derived_in (f i)) (flat_map derived_in (map f js)) (in_origin (f i) e (ap f (sym (eqb-true j i same)) ∙ is))
      | false ↦ λ _ later. in_right e (derived_in (f i)) (flat_map derived_in (map f js)) (in_joins f j e js later is)
    ] refl h

same_rows : (s t : Sources) (o : Origin) → s.stored ≡ t.stored → ((e : ℕ) → o ≡ FromDerived e → slice_index_or s.derived e [] ≡ slice_index_or t.derived e []) → rows_from s o ≡ rows_from t o
same_rows s t (Stored n) stored h = ap (λ tables. slice_index_or tables n []) stored
same_rows s t (FromDerived e) stored h = h e refl

answer_rows_agree : (x : Explore) (q : Bound) (s t : Sources) → AgreeOn x q.joins s t → answer_rows x s q ≡ answer_rows x t q
answer_rows_agree x q s t agree =
    ap (λ rows. map (λ line. map value_of_cell line.cells) (lines_of x q (rows_grouped x (dims_of q.picks) (query_components x q) (passing_rows x q.rows rows)))) (joined_rows_agree x q.joins s t agree)

module _ (m : Model) (stored : List Rows) (acyclic : IsAcyclic m) where
  -- a table, its explore and its query
  abbrev over : ℕ → Explore
  over d = explore_at m (derived_at m d).explore

  abbrev asked : ℕ → Bound
  asked d = derived_query (over d) (derived_at m d)

  -- the rows of a table after some rounds
  abbrev row : ℕ → ℕ → Rows
  row n e = slice_index_or (derived_within m stored n) e []

  module _ (n d : ℕ) (lower : (e : ℕ) → e < length m.derived → rank m e < rank m d → row n e ≡ row (suc n) e) where
    read_settled : (e : ℕ) → has_number e (read_by m d) ≡ true → row n e ≡ row (suc n) e
    read_settled e read =
        ⊎_elim (λ less. lower e less (rank_falls m acyclic d e (below_there (length m.derived) e less) read))
        (λ past. past_end m stored n e past ∙ sym (past_end m stored (suc n) e past)) (lt_or_ge e (length m.derived))

    agree_after : AgreeOn (over d) (asked d).joins (round m stored n) (round m stored (suc n))
    agree_after = record {
      base = same_rows (round m stored n) (round m stored (suc n)) (part_at (over d) 0).origin refl
          (λ e is. read_settled e (in_left e (derived_in (part_at (over d) 0).origin) (flat_map derived_in (map (λ j. (part_at (over d) (j + 1)).origin) (asked d).joins)) (in_origin (part_at (over d) 0).origin e is)));
      joined = λ j taken. same_rows (round m stored n) (round m stored (suc n)) (part_at (over d) (j + 1)).origin refl
          (λ e is. read_settled e (in_right e (derived_in (part_at (over d) 0).origin) (flat_map derived_in (map (λ j. (part_at (over d) (j + 1)).origin) (asked d).joins)) (in_joins (λ j. (part_at (over d) (j + 1)).origin) j e (asked d).joins taken is)));
    }

  -- after more rounds than it reads tables, the rows of a table stay
  settled : (n d : ℕ) → d < length m.derived → rank m d < n → row n d ≡ row (suc n) d
  settled zero d there h = absurd (omega arith)
  settled (suc n) d there h =
      row_at m stored n d there
      ∙ answer_rows_agree (over d) (asked d) (round m stored n) (round m stored (suc n)) (agree_after n d (λ e less falls. settled n e less (omega arith)))
      ∙ sym (row_at m stored (suc n) d there)

  length-round : (n : ℕ) → length m.derived ≤ n → length (derived_within m stored n) ≡ length m.derived
  length-round zero h = omega arith
  length-round (suc n) h = length-map m.derived (derived_rows m (round m stored n))

  same_list : (xs ys : List Rows) → length xs ≡ length ys → ((d : ℕ) → d < length xs → slice_index_or xs d [] ≡ slice_index_or ys d []) → xs ≡ ys
  same_list [] [] e h = refl
  same_list [] (y ∷ ys) e h = absurd (omega arith)
  same_list (x ∷ xs) [] e h = absurd (omega arith)
  same_list (x ∷ xs) (y ∷ ys) e h = λ i. h 0 (omega arith) i ∷ same_list xs ys (omega arith) (λ d less. h (suc d) (omega arith)) i

  -- as many rounds as there are derived tables are enough
  pub rounds_are_enough : derived_within m stored (length m.derived) ≡ map (derived_rows m (round m stored (length m.derived))) m.derived
  rounds_are_enough =
      let whole : length (derived_within m stored (length m.derived)) ≡ length m.derived = length-round (length m.derived) (omega arith) in
      same_list (derived_within m stored (length m.derived)) (derived_within m stored (suc (length m.derived))) (whole ∙ sym (length-map m.derived (derived_rows m (round m stored (length m.derived)))))
      (λ d less. let there : d < length m.derived = subst (λ n. d < n) whole less in
      settled (length m.derived) d there (rank_bound m acyclic d (below_there (length m.derived) d there)))

-- ---- from the test over all derived tables

of_all : (p : ℕ → Bool) (d : ℕ) (xs : List ℕ) → list_all p xs ≡ true → has_number d xs ≡ true → p d ≡ true
of_all p d [] all there = absurd (false≢true there)
of_all p d (x ∷ xs) all there =
    elim (nat_eq d x) as (λ b. nat_eq d x ≡ b → (b || has_number d xs) ≡ true → p d ≡ true) [
      | true ↦ λ same _. subst (λ z. p z ≡ true) (sym (eqb-true d x same)) (first (p x) (list_all p xs) all)
      | false ↦ λ _ later. of_all p d xs (second (p x) (list_all p xs) all) later
    ] refl there

not_true : (b : Bool) → not b ≡ true → b ≡ false
not_true true h = absurd (false≢true h)
not_true false h = refl

pub no_table_reads_itself : (m : Model) → list_all (λ d. not (reads_itself m d)) (numbers_below (length m.derived)) ≡ true → IsAcyclic m
no_table_reads_itself m h d there = not_true (reads_itself m d) (of_all (λ k. not (reads_itself m k)) d (numbers_below (length m.derived)) h there)

pub derived_rows_are_whole : (m : Model) (t : Tables) → list_all (λ d. not (reads_itself m d)) (numbers_below (length m.derived)) ≡ true →
    (sources_of m t).derived ≡ map (derived_rows m (sources_of m t)) m.derived
derived_rows_are_whole m t h = rounds_are_enough m t.tables (no_table_reads_itself m h)
