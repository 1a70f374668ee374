-- An enforced key finds one row of its table, and an equation with a key says which.
use Rattle.std.proofs.Common.{◌≡◌, ℕ, Bool, true, false, ◌&&◌, ◌||◌, List, [], ◌∷◌, refl, sym, ap, ◌∙◌, subst, arith, Some, None, inl, inr, ⊎_elim}
use Rattle.std.specs.Prelude.{if◌then◌else◌, not, Option, ◌⊎◌, ◌==◌, ℤ, slice_index_or}
use Rattle.std.specs.List.{list_all, list_any}
use Rattle.std.specs.Ordering.{eq_by_cmp, is_eq}
use Rattle.std.specs.Cmp.{Equal-is, tied_itself}
use Rattle.std.proofs.lemmas.Bool.{false≢true, eqb-true}
use Rattle.std.proofs.lemmas.Int.{ints}
use Rattle.lk_val.specs.Sets.{has}
use Rattle.lk_val.specs.Values.{is_null, rank, value_cmp}
use Rattle.lk_val.specs.ValueOrder.{values_ordered}
use Rattle.lk_val.specs.declared.value.Value.{Value}
use Rattle.lk_val.specs.declared.value.Value.TheVariants as value
use Rattle.lk_types.specs.Calendar.{midnight}
use Rattle.lk_types.specs.Expressions.{beside, column_of, compared, conjuncts, is_true, value_of, value_of_truth}
use Rattle.lk_types.specs.Formula.{Formula, Column, Compare}
use Rattle.lk_types.specs.Tables.{Cells, Rows, are_keys, column_values}
use Rattle.lk_types.specs.declared.expr.Comparison.TheVariants as comparison
use Rattle.lk_types.specs.declared.explore.Explore.{Explore}
use Rattle.lk_types.specs.declared.rows.Joined.{Joined}
use Rattle.lk_semantics.specs.Joins.{part_at}
use Rattle.lk_semantics.specs.Rollups.{is_enforced_key, is_key_equation, is_number, mentions_only}
use Rattle.lk_semantics.proofs.JoinLaws.{is_true-conjuncts}
use Rattle.lk_tree_laws.proofs.Among.{Among}

-- ---- keys

-- the value in a column of a row of a table
abbrev pub key_in : ℕ → Cells → Value
key_in column cells = slice_index_or cells column value.Null

same_midnight : (a b : ℤ) → midnight a ≡ midnight b → a ≡ b
same_midnight a b e = omega (arith, ints, e)

moment_in : Value → ℤ → ℤ
moment_in (value.Moment m) d = m
moment_in v d = d

-- a day as its midnight
abbrev as_moment : Value → Value
as_moment (value.Day d) = value.Moment (midnight d)
as_moment v = v

as_moment-beside : (k v : Value) → as_moment (beside k v) ≡ as_moment k
as_moment-beside (value.Day d) (value.Moment m) = refl
as_moment-beside (value.Day d) v = refl
as_moment-beside k v = refl

same_at_midnight : (k l : Value) → as_moment k ≡ as_moment l → rank k ≡ rank l → k ≡ l
unfolding moment_in
same_at_midnight (value.Day d) (value.Day e) p r = ap value.Day (same_midnight d e (ap (λ v. moment_in v d) p))
same_at_midnight (value.Day d) l p r = absurd (omega (arith, r))
same_at_midnight k (value.Day e) p r = absurd (omega (arith, r))
same_at_midnight k l p r = p

-- keys of one kind that both equal a value are one key
pub one_key : (k l v : Value) → rank k ≡ rank l → beside k v ≡ beside v k → beside l v ≡ beside v l → k ≡ l
one_key k l v r p q =
    same_at_midnight k l (
    sym (as_moment-beside k v) ∙ ap as_moment p ∙ as_moment-beside v k
    ∙ sym (sym (as_moment-beside l v) ∙ ap as_moment q ∙ as_moment-beside v l)) r

pub both : (a b : Bool) → (a && b) ≡ true → (a ≡ true) × (b ≡ true)
both true b h = (refl, h)
both false b h = absurd (false≢true h)

pub one_of : (a b : Bool) → (a || b) ≡ true → (a ≡ true) ⊎ (b ≡ true)
one_of true b h = inl refl
one_of false b h = inr h

or_second : (a b : Bool) → b ≡ true → (a || b) ≡ true
or_second true b h = refl
or_second false b h = h

-- a row's key stands among the keys of a table that has it
has_key : (column : ℕ) (rows : Rows) (c : Cells) → Among rows c → has value_cmp (key_in column c) (column_values rows column) ≡ true
has_key column [] c h = absurd h
has_key column (d ∷ rows) c (inl is) =
    ap (λ e. is_eq (value_cmp (key_in column c) (key_in column e)) || has value_cmp (key_in column c) (column_values rows column)) is
    ∙ ap (λ o. is_eq o || has value_cmp (key_in column c) (column_values rows column)) (tied_itself values_ordered.total (key_in column c))
has_key column (d ∷ rows) c (inr h) = or_second (eq_by_cmp value_cmp (key_in column c) (key_in column d)) (has value_cmp (key_in column c) (column_values rows column)) (has_key column rows c h)

not_true : (a : Bool) → not a ≡ true → a ≡ true → ⊥
not_true true h e = false≢true h
not_true false h e = false≢true e

-- two rows of a table whose column holds keys, with one key there, are one
pub one_row : (column : ℕ) (rows : Rows) (c d : Cells) → are_keys (column_values rows column) ≡ true → Among rows c → Among rows d → key_in column c ≡ key_in column d → c ≡ d
one_row column [] c d keys hc hd same = absurd hc
one_row column (e ∷ rows) c d keys hc hd same =
    let split = both (not (is_null (key_in column e)) && not (has value_cmp (key_in column e) (column_values rows column))) (are_keys (column_values rows column)) keys in
    let here = both (not (is_null (key_in column e))) (not (has value_cmp (key_in column e) (column_values rows column))) split.0 in
    by_place here.1 (λ p q. one_row column rows c d split.1 p q same) hc hd
  where
    apart : not (has value_cmp (key_in column e) (column_values rows column)) ≡ true → (f : Cells) → Among rows f → key_in column f ≡ key_in column e → ⊥
    apart alone f h is = not_true (has value_cmp (key_in column e) (column_values rows column)) alone (ap (λ k. has value_cmp k (column_values rows column)) (sym is) ∙ has_key column rows f h)

    by_place : not (has value_cmp (key_in column e) (column_values rows column)) ≡ true → (Among rows c → Among rows d → c ≡ d) → Among (e ∷ rows) c → Among (e ∷ rows) d → c ≡ d
    by_place alone further (inl ec) (inl ed) = sym ec ∙ ed
    by_place alone further (inl ec) (inr hd) = absurd (apart alone d hd (sym same ∙ ap (key_in column) (sym ec)))
    by_place alone further (inr hc) (inl ed) = absurd (apart alone c hc (same ∙ ap (key_in column) (sym ed)))
    by_place alone further (inr hc) (inr hd) = further hc hd

-- no row of a table whose column holds keys has null there
pub key_known : (column : ℕ) (rows : Rows) (c : Cells) → are_keys (column_values rows column) ≡ true → Among rows c → is_null (key_in column c) ≡ false
key_known column [] c keys h = absurd h
key_known column (e ∷ rows) c keys h =
    let split = both (not (is_null (key_in column e)) && not (has value_cmp (key_in column e) (column_values rows column))) (are_keys (column_values rows column)) keys in
    let here = both (not (is_null (key_in column e))) (not (has value_cmp (key_in column e) (column_values rows column))) split.0 in
    elim h [
      | inl is ↦ known (is_null (key_in column c)) (ap (λ r. not (is_null (key_in column r))) (sym is) ∙ here.0)
      | inr there ↦ key_known column rows c split.1 there
    ]
  where
    known : (b : Bool) → not b ≡ true → b ≡ false
    known true n = absurd (false≢true n)
    known false n = refl

-- ---- an equation with a key

-- two values that compare equal are one beside each other, and neither is null
equal_values : (a b : Value) → is_true (value_of_truth (compared comparison.Equal a b)) ≡ true → (is_null a ≡ false) × (is_null b ≡ false) × (beside a b ≡ beside b a)
equal_values a b h =
    elim (is_null a) as (λ m. is_null a ≡ m → is_true (value_of_truth (if m || is_null b then None else Some (is_eq (value_cmp (beside a b) (beside b a))))) ≡ true → (is_null a ≡ false) × (is_null b ≡ false) × (beside a b ≡ beside b a)) [
      | true ↦ λ _ h. absurd (false≢true h)
      | false ↦ λ na h. elim (is_null b) as (λ n. is_null b ≡ n → is_true (value_of_truth (if n then None else Some (is_eq (value_cmp (beside a b) (beside b a))))) ≡ true → (is_null a ≡ false) × (is_null b ≡ false) × (beside a b ≡ beside b a)) [
        | true ↦ λ _ h. absurd (false≢true h)
        | false ↦ λ nb h. (na, nb, values_ordered.exact (beside a b) (beside b a) ((Equal-is (value_cmp (beside a b) (beside b a))).0 h))
      ] refl h
    ] refl h

-- an expression whose value the view's enforced key equals wherever the condition is true
pub record Probe (x : Explore) (test : ℕ → Bool) (p : ℕ) (e : Formula) : Type 0 where
  pub column : ℕ
  pub side : Formula
  pub enforced : (part_at x p).enforced ≡ Some column
  pub within : mentions_only test side ≡ true
  pub known : (row : Joined) → is_true (value_of e row) ≡ true → is_null (column_of row p column) ≡ false
  pub meets : (row : Joined) → is_true (value_of e row) ≡ true → beside (column_of row p column) (value_of side row) ≡ beside (value_of side row) (column_of row p column)

numbered : (o : Option ℕ) (n : ℕ) → is_number o n ≡ true → o ≡ Some n
numbered None n h = absurd (false≢true h)
numbered (Some m) n h = ap Some (eqb-true m n h)

module _ (x : Explore) (test : ℕ → Bool) (p : ℕ) where
  key_column : (a : Formula) → is_enforced_key x p a ≡ true → (column : ℕ) × (a ≡ Column p column) × ((part_at x p).enforced ≡ Some column)
  key_column (Column part column) h =
      let split = both (part == p) (is_number (part_at x p).enforced column) h in
      (column, ap (λ q. Column q column) (eqb-true part p split.0), numbered (part_at x p).enforced column split.1)
  key_column a h = absurd (false≢true h)

  from_left : (a b : Formula) → is_enforced_key x p a ≡ true → mentions_only test b ≡ true → Probe x test p (Compare comparison.Equal a b)
  from_left a b ha hb =
      let k = key_column a ha in
      record {
        column = k.0;
        side = b;
        enforced = k.2;
        within = hb;
        known = λ row h. ap (λ f. is_null (value_of f row)) (sym k.1) ∙ (equal_values (value_of a row) (value_of b row) h).0;
        meets = λ row h. subst (λ f. beside (value_of f row) (value_of b row) ≡ beside (value_of b row) (value_of f row)) k.1 (equal_values (value_of a row) (value_of b row) h).2;
      }

  from_right : (a b : Formula) → is_enforced_key x p b ≡ true → mentions_only test a ≡ true → Probe x test p (Compare comparison.Equal a b)
  from_right a b hb ha =
      let k = key_column b hb in
      record {
        column = k.0;
        side = a;
        enforced = k.2;
        within = ha;
        known = λ row h. ap (λ f. is_null (value_of f row)) (sym k.1) ∙ (equal_values (value_of a row) (value_of b row) h).1;
        meets = λ row h. subst (λ f. beside (value_of f row) (value_of a row) ≡ beside (value_of a row) (value_of f row)) k.1 (sym (equal_values (value_of a row) (value_of b row) h).2);
      }

  probe_at : (c : Formula) → is_key_equation x test p c ≡ true → Probe x test p c
  probe_at (Compare comparison.Equal a b) h =
      ⊎_elim (λ l. let s = both (is_enforced_key x p a) (mentions_only test b) l in from_left a b s.0 s.1)
      (λ r. let s = both (is_enforced_key x p b) (mentions_only test a) r in from_right a b s.0 s.1)
      (one_of (is_enforced_key x p a && mentions_only test b) (is_enforced_key x p b && mentions_only test a) h)
  probe_at c h = absurd (false≢true h)

  probe_in : (cs : List Formula) → list_any (is_key_equation x test p) cs ≡ true → (c : Formula) × (Probe x test p c) × ((t : Formula → Bool) → list_all t cs ≡ true → t c ≡ true)
  probe_in [] h = absurd (false≢true h)
  probe_in (c ∷ cs) h =
      ⊎_elim (λ here. (c, probe_at c here, λ t every. (both (t c) (list_all t cs) every).0))
      (λ there. let rest = probe_in cs there in (rest.0, rest.1, λ t every. rest.2 t (both (t c) (list_all t cs) every).1))
      (one_of (is_key_equation x test p c) (list_any (is_key_equation x test p) cs) h)

  -- a condition with a key equation among its conjuncts
  pub probe_of : (e : Formula) → list_any (is_key_equation x test p) (conjuncts e) ≡ true → Probe x test p e
  probe_of e h =
      let found = probe_in (conjuncts e) h in
      let part : (row : Joined) → is_true (value_of e row) ≡ true → is_true (value_of found.0 row) ≡ true = λ row t. found.2 (λ c. is_true (value_of c row)) (sym (is_true-conjuncts e row) ∙ t) in
      record {
        column = found.1.column;
        side = found.1.side;
        enforced = found.1.enforced;
        within = found.1.within;
        known = λ row t. found.1.known row (part row t);
        meets = λ row t. found.1.meets row (part row t);
      }
