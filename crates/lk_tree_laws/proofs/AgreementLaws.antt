-- Rows with one row of a view agree in what its key determines.
use Rattle.std.proofs.Common.{◌≡◌, ℕ, suc, ◌+◌, ◌<◌, ◌≤◌, Bool, true, false, ◌&&◌, ◌||◌, List, [], map, length, refl, sym, ap, ◌∙◌, subst, arith, Some, None, inl, inr, ⊎_elim}
use Rattle.std.specs.Prelude.{◌==◌, Option, filter, nat_lt, not, slice_get, slice_set}
use Rattle.std.specs.List.{list_all, list_any}
use Rattle.std.proofs.lemmas.Bool.{cases_eq, cases_lt, eqb-true, false≢true, ltb-true}
use Rattle.std.proofs.lemmas.List.{get_or_past}
use Rattle.lk_val.specs.Least.{is_in}
use Rattle.lk_val.specs.Values.{is_null, rank}
use Rattle.lk_types.specs.Expressions.{beside, column_of, has_number, is_true, mentions, value_in, value_of}
use Rattle.lk_types.specs.Formula.{Formula}
use Rattle.lk_types.specs.Tables.{Cells, Rows, are_keys, column_values}
use Rattle.lk_types.proofs.MentionLaws.{value_of-agree}
use Rattle.lk_types.specs.declared.explore.Explore.{Explore}
use Rattle.lk_types.specs.declared.explore.Join.{Join}
use Rattle.lk_types.specs.declared.explore.JoinKind.{JoinKind}
use Rattle.lk_types.specs.declared.explore.JoinKind.TheVariants.{Left, Full, Inner, Cross}
use Rattle.lk_types.specs.declared.rows.Joined.{Joined}
use Rattle.lk_types.specs.declared.rows.Sources.{Sources}
use Rattle.lk_semantics.specs.Joins.{is_met, join_at, mentions_of, no_join, numbers_below, part_at, partners, with_part}
use Rattle.lk_semantics.specs.Rollups.{Standing, conjuncts_of, determined, finds_earlier, finds_joined, has_full, has_key_equation, is_determined_in, is_inner, is_key_equation, is_left, is_present_in, is_same_standing, present, stands, standings}
use Rattle.lk_tree_laws.proofs.Among.{Among, filter-among, map-among}
use Rattle.lk_tree_laws.proofs.PartsLaws.{get-set_other, get-set_same, is_none, part_there, replicate-none}
use Rattle.lk_tree_laws.proofs.KeyLaws.{Probe, both, key_in, one_key, one_of, one_row, probe_of}
use Rattle.lk_tree_laws.proofs.TableLaws.{of_tables, rights_of}
use Rattle.lk_tree_laws.proofs.PastLaws.{Becomes, HasMet, IsPast, is_taken, made, made-earlier, past, rows_before, shaped}
use Rattle.lk_tree_laws.proofs.RoundLaws.{all_at, any_of, by_rounds}

-- ---- keys of tables

-- a column of the table that a view reads holds keys of one kind
pub record HasKeys (x : Explore) (s : Sources) (p column : ℕ) : Type 0 where
  pub keys : are_keys (column_values (rights_of x s p) column) ≡ true
  pub ranks : (c d : Cells) → Among (rights_of x s p) c → Among (rights_of x s p) d → rank (key_in column c) ≡ rank (key_in column d)

-- the enforced keys of an explore are such columns
abbrev pub AreKeyed : Explore → Sources → Type 0
AreKeyed x s = (p column : ℕ) → (part_at x p).enforced ≡ Some column → HasKeys x s p column

-- the view is there in a row
abbrev pub HasPart : ℕ → Joined → Type 0
HasPart w r = (cells : Cells) × (slice_get r.parts w ≡ Some (Some cells))

one_cells : (a b : Joined) (w : ℕ) (c d : Cells) → slice_get a.parts w ≡ Some (Some c) → slice_get b.parts w ≡ Some (Some d) → c ≡ d → slice_get a.parts w ≡ slice_get b.parts w
one_cells a b w c d is_c is_d same = is_c ∙ ap (λ (cells : Cells). Some (Some cells)) same ∙ sym is_d

module _ (x : Explore) (s : Sources) (keyed : AreKeyed x s) where
  -- rows of the tables with equal keys of a view, that are not null, have the same row of it
  pub same_key : (a b : Joined) (w column : ℕ) → (part_at x w).enforced ≡ Some column
      → ((q : ℕ) (cells : Cells) → slice_get a.parts q ≡ Some (Some cells) → Among (rights_of x s q) cells)
      → ((q : ℕ) (cells : Cells) → slice_get b.parts q ≡ Some (Some cells) → Among (rights_of x s q) cells)
      → is_null (column_of a w column) ≡ false → column_of b w column ≡ column_of a w column → slice_get a.parts w ≡ slice_get b.parts w
  same_key a b w column enforced of_a of_b known same =
      let in_a = part_there (slice_get a.parts w) column known in
      let in_b = part_there (slice_get b.parts w) column (ap is_null same ∙ known) in
      one_cells a b w in_a.0 in_b.0 in_a.1 in_b.1
      (one_row column (rights_of x s w) in_a.0 in_b.0 (keyed w column enforced).keys (of_a w in_a.0 in_a.1) (of_b w in_b.0 in_b.1)
      (ap (λ o. value_in o column) (sym in_a.1) ∙ sym same ∙ ap (λ o. value_in o column) in_b.1))

  module _ (joins : List ℕ) (streams : has_full x joins ≡ false) (one other : Joined)
      (one_row_here : Among (rows_before x s joins streams (length x.joins)) one) (other_row_here : Among (rows_before x s joins streams (length x.joins)) other) where
    -- the rows have the same row of a view, or none both
    abbrev pub AreSame : ℕ → Type 0
    AreSame q = slice_get one.parts q ≡ slice_get other.parts q

    -- what is said of a view
    abbrev pub Holds : Standing → Type 0
    Holds (determined w) = AreSame w
    Holds (present w) = HasPart w one × HasPart w other

    abbrev Before : ℕ → Joined → Type 0
    Before n r = Among (rows_before x s joins streams n) r

    abbrev Past : ℕ → Joined → Joined → Type 0
    Past n r l = IsPast x s joins streams n r l

    -- what the rows were before a join agrees where they do
    same_past : (n : ℕ) (a b : Joined) → Past n one a → Past n other b → (q : ℕ) → AreSame q → slice_get a.parts q ≡ slice_get b.parts q
    same_past n a b pa pb q same =
        elim (cases_lt n q) [
          | inl later ↦ (shaped x s joins streams n a pa.before).later q later ∙ sym ((shaped x s joins streams n b pb.before).later q later)
          | inr earlier ↦ pa.earlier q earlier ∙ same ∙ sym (pb.earlier q earlier)
        ]

    module _ (known : ℕ → Bool) (agree : (q : ℕ) → known q ≡ true → AreSame q) where
      -- where a condition that equates the view's key with what is known is true of both
      found_by_key : (w : ℕ) (e : Formula) → Probe x known w e → (n : ℕ) (a b : Joined) → Past n one a → Past n other b → is_true (value_of e a) ≡ true → is_true (value_of e b) ≡ true
          → (slice_get a.parts w ≡ slice_get b.parts w) × HasPart w a × HasPart w b
      found_by_key w e probe n a b pa pb ta tb =
          let in_a = part_there (slice_get a.parts w) probe.column (probe.known a ta) in
          let in_b = part_there (slice_get b.parts w) probe.column (probe.known b tb) in
          let of_a = of_tables x s (filter (is_taken x s joins streams) (numbers_below n)) a pa.before w in_a.0 in_a.1 in
          let of_b = of_tables x s (filter (is_taken x s joins streams) (numbers_below n)) b pb.before w in_b.0 in_b.1 in
          let key_a : column_of a w probe.column ≡ key_in probe.column in_a.0 = ap (λ o. value_in o probe.column) in_a.1 in
          let key_b : column_of b w probe.column ≡ key_in probe.column in_b.0 = ap (λ o. value_in o probe.column) in_b.1 in
          let side : value_of probe.side a ≡ value_of probe.side b =
          value_of-agree probe.side a b (record { at = λ q there. same_past n a b pa pb q (agree q (all_at known (mentions probe.side) q probe.within there)) }) in
          let meets_a : beside (key_in probe.column in_a.0) (value_of probe.side a) ≡ beside (value_of probe.side a) (key_in probe.column in_a.0) =
          subst (λ k. beside k (value_of probe.side a) ≡ beside (value_of probe.side a) k) key_a (probe.meets a ta) in
          let meets_b : beside (key_in probe.column in_b.0) (value_of probe.side a) ≡ beside (value_of probe.side a) (key_in probe.column in_b.0) =
          subst (λ v. beside (key_in probe.column in_b.0) v ≡ beside v (key_in probe.column in_b.0)) (sym side)
          (subst (λ k. beside k (value_of probe.side b) ≡ beside (value_of probe.side b) k) key_b (probe.meets b tb)) in
          let has = keyed w probe.column probe.enforced in
          let same_key_in = one_key (key_in probe.column in_a.0) (key_in probe.column in_b.0) (value_of probe.side a) (has.ranks in_a.0 in_b.0 of_a of_b) meets_a meets_b in
          (one_cells a b w in_a.0 in_b.0 in_a.1 in_b.1 (one_row probe.column (rights_of x s w) in_a.0 in_b.0 has.keys of_a of_b same_key_in), in_a, in_b)

      -- ---- a join

      -- what a row was behind a join that is taken, and before it
      record Passed (j : ℕ) (r : Joined) : Type 0 where
        after : Joined
        behind : Past (suc j) r after
        was : Joined
        before : Past j r was
        becomes : Becomes (join_at x j).kind was (join_at x j).on (j + 1) (rights_of x s (j + 1)) after

      passed : (j : ℕ) (r : Joined) → j < length x.joins → has_number j joins ≡ true → Before (length x.joins) r → Passed j r
      passed j r within taken h =
          let later = past x s joins streams (length x.joins) r h (suc j) (omega (arith, within)) in
          let step = made x s joins streams j later.0 later.1.before in
          record {
            after = later.0;
            behind = later.1;
            was = step.0;
            before = record { before = step.1.before; earlier = λ q below. made-earlier x s joins streams j step.0 later.0 step.1 q below ∙ later.1.earlier q (omega (arith, below)) };
            becomes = step.1.makes taken;
          }

      -- the view that a join brings is not there before it
      not_before : (j : ℕ) (l : Joined) → Before j l → is_none (slice_get l.parts (j + 1))
      not_before j l h = subst is_none (sym ((shaped x s joins streams j l h).later (j + 1) (omega arith))) (replicate-none (length x.parts) (j + 1))

      -- a condition with a key's equation
      equated : (w : ℕ) (on : Option Formula) → list_any (is_key_equation x known w) (conjuncts_of on) ≡ true → (e : Formula) × (on ≡ Some e) × Probe x known w e
      equated w None h = absurd (false≢true h)
      equated w (Some e) h = (e, refl, probe_of x known w e h)

      true_of : (on : Option Formula) (e : Formula) (r : Joined) → on ≡ Some e → is_met on r ≡ true → is_true (value_of e r) ≡ true
      true_of on e r is h = subst (λ (o : Option Formula). is_met o r ≡ true) is h

      -- where the joined view is there, the condition was true
      met_there : (k : JoinKind) (on : Option Formula) (e : Formula) (p : ℕ) (rights : Rows) (l r : Joined) → (is_left k || is_inner k) ≡ true → on ≡ Some e → is_none (slice_get l.parts p) → HasPart p r
          → Becomes k l on p rights r → is_true (value_of e r) ≡ true
      met_there Inner on e p rights l r keeps is none there b = true_of on e r is b.met
      met_there Left on e p rights l r keeps is none there (inl b) = true_of on e r is b.met
      met_there Left on e p rights l r keeps is none there (inr b) = absurd (subst is_none (ap (λ (row : Joined). slice_get row.parts p) b.is ∙ there.1) none)
      met_there Full on e p rights l r keeps is none there b = absurd b
      met_there Cross on e p rights l r keeps is none there b = absurd (false≢true keeps)

      -- the earlier view that is the partner of one that is there
      from_later : (j w : ℕ) → j < length x.joins → has_number j joins ≡ true → w < j + 1 → (is_left (join_at x j).kind || is_inner (join_at x j).kind) ≡ true → has_key_equation x known w (join_at x j) ≡ true
          → HasPart (j + 1) one × HasPart (j + 1) other → AreSame w × HasPart w one × HasPart w other
      from_later j w within taken below keeps equation there =
          let a = passed j one within taken one_row_here in
          let b = passed j other within taken other_row_here in
          let found = equated w (join_at x j).on equation in
          let last : j + 1 ≤ suc j = omega arith in
          let there_a : HasPart (j + 1) a.after = (there.0.0, a.behind.earlier (j + 1) last ∙ there.0.1) in
          let there_b : HasPart (j + 1) b.after = (there.1.0, b.behind.earlier (j + 1) last ∙ there.1.1) in
          let true_a = met_there (join_at x j).kind (join_at x j).on found.0 (j + 1) (rights_of x s (j + 1)) a.was a.after keeps found.1 (not_before j a.was a.before.before) there_a a.becomes in
          let true_b = met_there (join_at x j).kind (join_at x j).on found.0 (j + 1) (rights_of x s (j + 1)) b.was b.after keeps found.1 (not_before j b.was b.before.before) there_b b.becomes in
          let same = found_by_key w found.0 found.2 (suc j) a.after b.after a.behind b.behind true_a true_b in
          let early : w ≤ suc j = omega (arith, below) in (
            sym (a.behind.earlier w early) ∙ same.0 ∙ b.behind.earlier w early,
            (same.1.0, sym (a.behind.earlier w early) ∙ same.1.1),
            (same.2.0, sym (b.behind.earlier w early) ∙ same.2.1),
          )

      -- a row that meets the condition is a partner
      not_alone : (on : Option Formula) (e : Formula) (p : ℕ) (rights : Rows) (l k r : Joined) → on ≡ Some e
          → ((cells : Cells) → is_true (value_of e (with_part p l cells)) ≡ is_true (value_of e (with_part p k cells))) → HasMet l on p rights r → partners on p rights k ≡ [] → ⊥
      not_alone on e p rights l k r is truths b none =
          let meets : is_true (value_of e (with_part p l b.cells)) ≡ true = ap (λ (row : Joined). is_true (value_of e row)) b.is ∙ true_of on e r is b.met in
          let met : is_met on (with_part p k b.cells) ≡ true = subst (λ (o : Option Formula). is_met o (with_part p k b.cells) ≡ true) (sym is) (sym (truths b.cells) ∙ meets) in
          subst (λ rows. Among rows (with_part p k b.cells)) none
          (filter-among (is_met on) (map (with_part p k) rights) (with_part p k b.cells) (map-among (with_part p k) rights b.cells b.there) met)

      -- rows of which a join finds the partner by its key, and by nothing in which they differ
      same_partner : (k : JoinKind) (on : Option Formula) (e : Formula) (p : ℕ) (rights : Rows) (l m a b : Joined) → (is_left k || is_inner k) ≡ true → on ≡ Some e
          → ((cells : Cells) → is_true (value_of e (with_part p l cells)) ≡ is_true (value_of e (with_part p m cells)))
          → (is_true (value_of e a) ≡ true → is_true (value_of e b) ≡ true → (slice_get a.parts p ≡ slice_get b.parts p) × HasPart p a × HasPart p b)
          → slice_get l.parts p ≡ slice_get m.parts p
          → Becomes k l on p rights a → Becomes k m on p rights b
          → (slice_get a.parts p ≡ slice_get b.parts p) × (is_inner k ≡ true → HasPart p a × HasPart p b)
      same_partner Inner on e p rights l m a b keeps is truths found none pa pb =
          let same = found (true_of on e a is pa.met) (true_of on e b is pb.met) in (same.0, λ _. (same.1, same.2))
      same_partner Left on e p rights l m a b keeps is truths found none (inl pa) (inl pb) =
          ((found (true_of on e a is pa.met) (true_of on e b is pb.met)).0, λ inner. absurd (false≢true inner))
      same_partner Left on e p rights l m a b keeps is truths found none (inl pa) (inr pb) = absurd (not_alone on e p rights l m a is truths pa pb.none)
      same_partner Left on e p rights l m a b keeps is truths found none (inr pa) (inl pb) = absurd (not_alone on e p rights m l b is (λ cells. sym (truths cells)) pb pa.none)
      same_partner Left on e p rights l m a b keeps is truths found none (inr pa) (inr pb) =
          (ap (λ (row : Joined). slice_get row.parts p) (sym pa.is) ∙ none ∙ ap (λ (row : Joined). slice_get row.parts p) pb.is, λ inner. absurd (false≢true inner))
      same_partner Full on e p rights l m a b keeps is truths found none pa pb = absurd pa
      same_partner Cross on e p rights l m a b keeps is truths found none pa pb = absurd (false≢true keeps)

      -- a condition over what is known and the joined view is true of both rows or of none
      same_truth : (j : ℕ) (e : Formula) (l m : Joined) → Past j one l → Past j other m → list_all (λ q. (q == j + 1) || known q) (mentions e) ≡ true → (cells : Cells)
          → is_true (value_of e (with_part (j + 1) l cells)) ≡ is_true (value_of e (with_part (j + 1) m cells))
      same_truth j e l m pl pm near cells = ap is_true (value_of-agree e (with_part (j + 1) l cells) (with_part (j + 1) m cells) (record { at = at }))
        where
          sizes : length l.parts ≡ length m.parts
          sizes = (shaped x s joins streams j l pl.before).size ∙ sym (shaped x s joins streams j m pm.before).size

          at : (q : ℕ) → has_number q (mentions e) ≡ true → slice_get (slice_set l.parts (j + 1) (Some cells)) q ≡ slice_get (slice_set m.parts (j + 1) (Some cells)) q
          at q there =
              elim (cases_eq q (j + 1)) [
                | inl same ↦ subst (λ p. slice_get (slice_set l.parts (j + 1) (Some cells)) p ≡ slice_get (slice_set m.parts (j + 1) (Some cells)) p) (sym same) (get-set_same l.parts m.parts (j + 1) (Some cells) sizes)
                | inr differs ↦
                    ⊎_elim (λ same. absurd (differs (eqb-true q (j + 1) same)))
                    (λ is_known. get-set_other l.parts (j + 1) q (Some cells) differs ∙ same_past j l m pl pm q (agree q is_known) ∙ sym (get-set_other m.parts (j + 1) q (Some cells) differs))
                    (one_of (q == j + 1) (known q) (all_at (λ q. (q == j + 1) || known q) (mentions e) q near there))
              ]

      -- the joined view that is found by its key
      from_join : (j : ℕ) → j < length x.joins → has_number j joins ≡ true → (is_left (join_at x j).kind || is_inner (join_at x j).kind) ≡ true → has_key_equation x known (j + 1) (join_at x j) ≡ true
          → list_all (λ q. (q == j + 1) || known q) (mentions_of (join_at x j).on) ≡ true → AreSame (j + 1) × (is_inner (join_at x j).kind ≡ true → HasPart (j + 1) one × HasPart (j + 1) other)
      from_join j within taken keeps equation near =
          let a = passed j one within taken one_row_here in
          let b = passed j other within taken other_row_here in
          let found = equated (j + 1) (join_at x j).on equation in
          let last : j + 1 ≤ suc j = omega arith in
          let near_e : list_all (λ q. (q == j + 1) || known q) (mentions found.0) ≡ true = subst (λ (o : Option Formula). list_all (λ q. (q == j + 1) || known q) (mentions_of o) ≡ true) found.1 near in
          let none : slice_get a.was.parts (j + 1) ≡ slice_get b.was.parts (j + 1) =
          (shaped x s joins streams j a.was a.before.before).later (j + 1) (omega arith) ∙ sym ((shaped x s joins streams j b.was b.before.before).later (j + 1) (omega arith)) in
          let same = same_partner (join_at x j).kind (join_at x j).on found.0 (j + 1) (rights_of x s (j + 1)) a.was b.was a.after b.after keeps found.1
          (same_truth j found.0 a.was b.was a.before b.before near_e) (found_by_key (j + 1) found.0 found.2 (suc j) a.after b.after a.behind b.behind) none a.becomes b.becomes in (
            sym (a.behind.earlier (j + 1) last) ∙ same.0 ∙ b.behind.earlier (j + 1) last,
            λ inner. let there = same.1 inner in ((there.0.0, sym (a.behind.earlier (j + 1) last) ∙ there.0.1), (there.1.0, sym (b.behind.earlier (j + 1) last) ∙ there.1.1)),
          )

    -- ---- rules

    is_join : (j : ℕ) → (is_left (join_at x j).kind || is_inner (join_at x j).kind) ≡ true → j < length x.joins
    is_join j keeps =
        elim (cases_lt j (length x.joins)) [
          | inl within ↦ within
          | inr past_end ↦ absurd (false≢true (ap (λ (join : Join). is_left join.kind || is_inner join.kind) (sym (get_or_past x.joins j no_join past_end)) ∙ keeps))
        ]

    module _ (known : List Standing) (hold : (y : Standing) → is_in is_same_standing y known ≡ true → Holds y) where
      agree : (q : ℕ) → is_determined_in known q ≡ true → AreSame q
      agree q h = hold (determined q) h

      joined_found : (w j : ℕ) → has_number j joins ≡ true → finds_joined x known w j ≡ true → AreSame w × (is_inner (join_at x j).kind ≡ true → HasPart w one × HasPart w other)
      joined_found w j taken h =
          let keeps_left = is_left (join_at x j).kind || is_inner (join_at x j).kind in
          let outer = both ((w == j + 1) && keeps_left && has_key_equation x (is_determined_in known) w (join_at x j)) (list_all (λ p. (p == w) || is_determined_in known p) (mentions_of (join_at x j).on)) h in
          let inner = both ((w == j + 1) && keeps_left) (has_key_equation x (is_determined_in known) w (join_at x j)) outer.0 in
          let first = both (w == j + 1) keeps_left inner.0 in
          let is : w ≡ j + 1 = eqb-true w (j + 1) first.0 in
          subst (λ v. AreSame v × (is_inner (join_at x j).kind ≡ true → HasPart v one × HasPart v other)) (sym is)
          (from_join (is_determined_in known) agree j (is_join j first.1) taken first.1
          (subst (λ v. has_key_equation x (is_determined_in known) v (join_at x j) ≡ true) is inner.1)
          (subst (λ v. list_all (λ p. (p == v) || is_determined_in known p) (mentions_of (join_at x j).on) ≡ true) is outer.1))

      earlier_found : (w j : ℕ) → has_number j joins ≡ true → finds_earlier x known w j ≡ true → AreSame w × HasPart w one × HasPart w other
      earlier_found w j taken h =
          let keeps_left = is_left (join_at x j).kind || is_inner (join_at x j).kind in
          let outer = both (is_present_in known (j + 1) && nat_lt w (j + 1) && keeps_left) (has_key_equation x (is_determined_in known) w (join_at x j)) h in
          let inner = both (is_present_in known (j + 1) && nat_lt w (j + 1)) keeps_left outer.0 in
          let first = both (is_present_in known (j + 1)) (nat_lt w (j + 1)) inner.0 in
          from_later (is_determined_in known) agree j w (is_join j inner.1) taken (ltb-true w (j + 1) first.1) inner.1 outer.1 (hold (present (j + 1)) first.0)

      -- what the rules add holds where what is known does
      pub rule_holds : (v : ℕ) → AreSame v → HasPart v one → HasPart v other → (y : Standing) → stands x joins v known y ≡ true → Holds y
      rule_holds v same here there (determined w) h =
          ⊎_elim (λ is. subst AreSame (sym (eqb-true w v is)) same)
          (λ found.
          let any = any_of (λ j. finds_joined x known w j || finds_earlier x known w j) joins (both (not (has_full x joins)) (list_any (λ j. finds_joined x known w j || finds_earlier x known w j) joins) found).1 in
          ⊎_elim (λ f. (joined_found w any.0 any.1 f).0) (λ f. (earlier_found w any.0 any.1 f).0) (one_of (finds_joined x known w any.0) (finds_earlier x known w any.0) any.2))
          (one_of (w == v) (not (has_full x joins) && list_any (λ j. finds_joined x known w j || finds_earlier x known w j) joins) h)
      rule_holds v same here there (present w) h =
          ⊎_elim (λ is. subst (λ u. HasPart u one × HasPart u other) (sym (eqb-true w v is)) (here, there))
          (λ found.
          let any = any_of (λ j. (finds_joined x known w j && is_inner (join_at x j).kind) || finds_earlier x known w j) joins (both (not (has_full x joins)) (list_any (λ j. (finds_joined x known w j && is_inner (join_at x j).kind) || finds_earlier x known w j) joins) found).1 in
          ⊎_elim (λ f. let split = both (finds_joined x known w any.0) (is_inner (join_at x any.0).kind) f in (joined_found w any.0 any.1 split.0).1 split.1)
          (λ f. let e = earlier_found w any.0 any.1 f in (e.1, e.2)) (one_of (finds_joined x known w any.0 && is_inner (join_at x any.0).kind) (finds_earlier x known w any.0) any.2))
          (one_of (w == v) (not (has_full x joins) && list_any (λ j. (finds_joined x known w j && is_inner (join_at x j).kind) || finds_earlier x known w j) joins) h)

    -- what stands with a view of which the rows have one row
    pub standings_hold : (v : ℕ) → AreSame v → HasPart v one → HasPart v other → (y : Standing) → is_in is_same_standing y (standings x joins v) ≡ true → Holds y
    standings_hold v same here there = by_rounds x joins v Holds (λ known hold. rule_holds known hold v same here there)
