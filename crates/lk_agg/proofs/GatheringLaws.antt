-- Grouping by a map: its entries are the groups, each with its columns.
use Rattle.std.proofs.Common.{◌≡◌, ◌+◌, ℕ, zero, suc, true, false, cond, List, [], ◌∷◌, ◌++◌, length, map, refl, sym, ap, ◌∙◌, subst}
use Rattle.std.specs.Prelude.{filter, Some, None, ◌||◌}
use Rattle.std.specs.List.{AllByRecursion}
use Rattle.std.specs.List.Sorted.{IsStrictlySortedBy}
use Rattle.std.specs.Ordering.{is_eq, match_ordering, eq_by_cmp}
use Rattle.std.specs.declared.cmp.Ordering.TheVariants.{Less, Equal, Greater}
use Rattle.std.specs.Map.{lookup, set_value, keys_of}
use Rattle.std.specs.BTreeMap.{is_at, insert_entry}
use Rattle.std.specs.Cmp.{tied_itself, eq_by_cmp_equiv}
use Rattle.std.proofs.lemmas.Bool.{false≢true}
use Rattle.std.proofs.lemmas.List.{map-append}
use Rattle.lk_val.specs.declared.value.Value.{Value}
use Rattle.lk_val.specs.ValueOrder.{tuples_ordered}
use Rattle.lk_val.specs.Values.{tuple_cmp, is_same_tuple}
use Rattle.lk_val.specs.Sets.{with_item, set_of, has}
use Rattle.lk_val.proofs.SetLaws.{has-set_of, has_not, IsStrictlySortedBy-set_of, set_of-push}
use Rattle.lk_semantics.specs.Measures.{Entry, entry_at, entries_of, groups_of}
use Rattle.lk_types.specs.declared.answer.GivenRow.{GivenRow}
use Rattle.lk_types.specs.declared.explore.Op.{Op}
use Rattle.lk_agg.specs.Columns.{column_of, fresh, with_cells}
use Rattle.lk_agg.specs.Gathering.{columns_at, gathered, gathered_from_none, with_step}
use Rattle.lk_agg.proofs.ColumnLaws.{columns-push, columns-other}
use Rattle.lk_agg.proofs.PartLaws.{or_first_false, or_second_false}

-- a group with what it has
abbrev pub entry_by : {S : Type 0} → (List Value → S) → List Value → List Value × S
entry_by P g = (g, P g)

-- ---- a step at a key of a map

module _ {S : Type 0} (new : S) (step : S → S) where
  -- no group that is after g is g
  none_found : (g : List Value) (es : List (List Value × S)) → AllByRecursion (λ q. tuple_cmp g q ≡ Less) (keys_of es) → lookup (is_at (tuple_cmp g)) es ≡ None
  none_found g [] all = refl
  none_found g (e ∷ es) all = ap (λ r. cond (is_eq r) (Some e.1) (lookup (is_at (tuple_cmp g)) es)) all.0 ∙ none_found g es all.1

  keys_after : (g h : List Value) (es : List (List Value × S)) → tuple_cmp g h ≡ Less → AllByRecursion (λ q. tuple_cmp h q ≡ Less) (keys_of es) → AllByRecursion (λ q. tuple_cmp g q ≡ Less) (keys_of es)
  keys_after g h [] less all = tt
  keys_after g h (e ∷ es) less all = (tuples_ordered.total.trans g h e.0 less all.0, keys_after g h es less all.1)

  -- a step at a key that a look-up found
  pub with_step-found : (es : List (List Value × S)) (g : List Value) (v : S) → IsStrictlySortedBy tuple_cmp (keys_of es) → lookup (is_at (tuple_cmp g)) es ≡ Some v → set_value (is_at (tuple_cmp g)) es (step v) ≡ with_step new step es g
  unfolding IsStrictlySortedBy
  with_step-found [] g v sorted found = cc found
  with_step-found (e ∷ es) g v sorted found =
      elim (tuple_cmp g e.0) as (λ r. tuple_cmp g e.0 ≡ r → cond (is_eq r) (Some e.1) (lookup (is_at (tuple_cmp g)) es) ≡ Some v
      → cond (is_eq r) ((e.0, step v) ∷ es) (e ∷ set_value (is_at (tuple_cmp g)) es (step v))
      ≡ match_ordering r ((g, step new) ∷ e ∷ es) ((e.0, step e.1) ∷ es) (e ∷ with_step new step es g)) [
        | Less ↦ λ less here. let none : lookup (is_at (tuple_cmp g)) es ≡ None = none_found g es (keys_after g e.0 es less sorted.0) in cc (here, none)
        | Equal ↦ λ same here. let is : e.1 ≡ v = cc here in ap (λ w. (e.0, step w) ∷ es) (sym is)
        | Greater ↦ λ more here. ap (λ rest. e ∷ rest) (with_step-found es g v sorted.1 here)
      ] refl found

  -- the first step at a key that no look-up found
  pub with_step-new : (es : List (List Value × S)) (g : List Value) → lookup (is_at (tuple_cmp g)) es ≡ None → insert_entry tuple_cmp es g (step new) ≡ with_step new step es g
  with_step-new [] g none = refl
  with_step-new (e ∷ es) g none =
      elim (tuple_cmp g e.0) as (λ r. cond (is_eq r) (Some e.1) (lookup (is_at (tuple_cmp g)) es) ≡ None
      → match_ordering r ((g, step new) ∷ e ∷ es) ((e.0, step new) ∷ es) (e ∷ insert_entry tuple_cmp es g (step new))
      ≡ match_ordering r ((g, step new) ∷ e ∷ es) ((e.0, step e.1) ∷ es) (e ∷ with_step new step es g)) [
        | Less ↦ λ here. refl
        | Equal ↦ λ here. cc here
        | Greater ↦ λ here. ap (λ rest. e ∷ rest) (with_step-new es g here)
      ] none

  -- ---- a step at a group of a set of groups

  module _ (t : List Value) (P Q : List Value → S) (stepped : (g : List Value) → is_same_tuple t g ≡ true → step (P g) ≡ Q g) (kept : (g : List Value) → is_same_tuple t g ≡ false → Q g ≡ P g) where
    -- the groups after t keep what they have
    kept_after : (ys : List (List Value)) → AllByRecursion (λ q. tuple_cmp t q ≡ Less) ys → map (entry_by P) ys ≡ map (entry_by Q) ys
    kept_after [] all = refl
    kept_after (y ∷ ys) all =
        let here : P y ≡ Q y = sym (kept y (ap is_eq all.0)) in
        λ i. (y, here i) ∷ kept_after ys all.1 i

    all_after : (g h : List Value) (zs : List (List Value)) → tuple_cmp g h ≡ Less → AllByRecursion (λ q. tuple_cmp h q ≡ Less) zs → AllByRecursion (λ q. tuple_cmp g q ≡ Less) zs
    all_after g h [] less all = tt
    all_after g h (z ∷ zs) less all = (tuples_ordered.total.trans g h z less all.0, all_after g h zs less all.1)

    first_step : P t ≡ new → step new ≡ Q t
    first_step is = ap step (sym is) ∙ stepped t (ap is_eq (tied_itself tuples_ordered.total t))

    pub with_step-set : (s : List (List Value)) → IsStrictlySortedBy tuple_cmp s → (has tuple_cmp t s ≡ false → P t ≡ new) → with_step new step (map (entry_by P) s) t ≡ map (entry_by Q) (with_item tuple_cmp t s)
    unfolding IsStrictlySortedBy
    with_step-set [] sorted none = λ i. (t, first_step (none refl) i) ∷ []
    with_step-set (y ∷ ys) sorted none =
        elim (tuple_cmp t y) as (λ r. tuple_cmp t y ≡ r
        → match_ordering r ((t, step new) ∷ (y, P y) ∷ map (entry_by P) ys) ((y, step (P y)) ∷ map (entry_by P) ys) ((y, P y) ∷ with_step new step (map (entry_by P) ys) t)
        ≡ map (entry_by Q) (match_ordering r (t ∷ y ∷ ys) (y ∷ ys) (y ∷ with_item tuple_cmp t ys))) [
          | Less ↦ λ less.
              let all : AllByRecursion (λ q. tuple_cmp t q ≡ Less) (y ∷ ys) = (less, all_after t y ys less sorted.0) in
              let is = first_step (none (has_not tuples_ordered t (y ∷ ys) all)) in
              λ i. (t, is i) ∷ kept_after (y ∷ ys) all i
          | Equal ↦ λ same.
              let one : t ≡ y = tuples_ordered.exact t y same in
              let all : AllByRecursion (λ q. tuple_cmp t q ≡ Less) ys = subst (λ z. AllByRecursion (λ q. tuple_cmp z q ≡ Less) ys) (sym one) sorted.0 in
              let more = stepped y (ap is_eq same) in
              λ i. (y, more i) ∷ kept_after ys all i
          | Greater ↦ λ more.
              let here : P y ≡ Q y = sym (kept y (ap is_eq more)) in
              let rest = with_step-set ys sorted.1 (λ absent. none (ap (λ r. is_eq r || has tuple_cmp t ys) more ∙ absent)) in
              λ i. (y, here i) ∷ rest i
        ] refl

-- ---- the groups with one more row

IsStrictlySortedBy-groups_of : (dims : ℕ) (rows : List GivenRow) → IsStrictlySortedBy tuple_cmp (groups_of dims rows)
unfolding IsStrictlySortedBy
IsStrictlySortedBy-groups_of zero rows = (tt, tt)
IsStrictlySortedBy-groups_of (suc n) rows = IsStrictlySortedBy-set_of tuples_ordered (map (λ (r : GivenRow). r.group) rows)

empty_tuple : (group : List Value) → length group ≡ 0 → group ≡ []
empty_tuple [] e = refl
empty_tuple (v ∷ vs) e = absurd (cc)

groups_of-push : (dims : ℕ) (rows : List GivenRow) (row : GivenRow) → length row.group ≡ dims → groups_of dims (rows ++ row ∷ []) ≡ with_item tuple_cmp row.group (groups_of dims rows)
groups_of-push zero rows row e = ap (λ g. with_item tuple_cmp g ([] ∷ [])) (sym (empty_tuple row.group e))
groups_of-push (suc n) rows row e =
    ap (set_of tuple_cmp) (map-append (λ (r : GivenRow). r.group) rows (row ∷ []))
    ∙ set_of-push tuples_ordered (map (λ (r : GivenRow). r.group) rows) row.group

none_of_group : (rows : List GivenRow) (group : List Value) → has tuple_cmp group (map (λ (r : GivenRow). r.group) rows) ≡ false → filter (λ (r : GivenRow). is_same_tuple r.group group) rows ≡ []
none_of_group [] group none = refl
none_of_group (row ∷ rows) group none =
    let turned : is_same_tuple row.group group ≡ false =
    (eq_by_cmp_equiv tuples_ordered.total).symm row.group group ∙ or_first_false (eq_by_cmp tuple_cmp group row.group) (has tuple_cmp group (map (λ (r : GivenRow). r.group) rows)) none in
    ap (λ b. cond b (row ∷ filter (λ (r : GivenRow). is_same_tuple r.group group) rows) (filter (λ (r : GivenRow). is_same_tuple r.group group) rows)) turned
    ∙ none_of_group rows group (or_second_false (eq_by_cmp tuple_cmp group row.group) (has tuple_cmp group (map (λ (r : GivenRow). r.group) rows)) none)

-- a group without rows has kept nothing
no_columns : (i : ℕ) (ops : List Op) (rows : List GivenRow) (group : List Value) → filter (λ (r : GivenRow). is_same_tuple r.group group) rows ≡ [] → columns_at i ops rows group ≡ map fresh ops
no_columns i [] rows group none = refl
no_columns i (o ∷ ops) rows group none =
    let here : column_of o (entries_of i rows group) ≡ fresh o = ap (λ rs. column_of o (filter (λ (e : Entry). e.1.counts) (map (entry_at i) rs))) none in
    λ k. here k ∷ no_columns (i + 1) ops rows group none k

-- a group that is none of the rows' groups has kept nothing
fresh_group : (dims : ℕ) (ops : List Op) (rows : List GivenRow) (group : List Value) → length group ≡ dims → has tuple_cmp group (groups_of dims rows) ≡ false → columns_at 0 ops rows group ≡ map fresh ops
fresh_group zero ops rows group e none = absurd (false≢true (sym none ∙ ap (λ g. has tuple_cmp g ([] ∷ [])) (empty_tuple group e)))
fresh_group (suc n) ops rows group e none =
    no_columns 0 ops rows group (none_of_group rows group (sym (has-set_of tuples_ordered group (map (λ (r : GivenRow). r.group) rows)) ∙ none))

-- the groups before any row
pub gathered-none : (dims : ℕ) (ops : List Op) → gathered dims ops [] ≡ gathered_from_none dims ops
gathered-none zero ops = λ i. ([], no_columns 0 ops [] [] refl i) ∷ []
gathered-none (suc n) ops = refl

-- the groups with one row more
pub gathered-push : (dims : ℕ) (ops : List Op) (rows : List GivenRow) (row : GivenRow) → length row.group ≡ dims
    → with_step (map fresh ops) (with_cells 0 row.place row.cells) (gathered dims ops rows) row.group ≡ gathered dims ops (rows ++ row ∷ [])
gathered-push dims ops rows row e =
    with_step-set (map fresh ops) (with_cells 0 row.place row.cells) row.group (columns_at 0 ops rows) (columns_at 0 ops (rows ++ row ∷ []))
    (λ g same. columns-push 0 ops rows row g same) (λ g other. columns-other 0 ops rows row g other)
    (groups_of dims rows) (IsStrictlySortedBy-groups_of dims rows) (fresh_group dims ops rows row.group e)
    ∙ sym (ap (map (entry_by (columns_at 0 ops (rows ++ row ∷ [])))) (groups_of-push dims rows row e))
