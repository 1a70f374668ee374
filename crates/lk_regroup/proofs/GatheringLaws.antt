-- The groups of a query by a map: its entries are the groups of the rows so far, each with what it has.
use Rattle.std.proofs.Common.{◌≡◌, ◌+◌, ◌<◌, ℕ, Bool, true, false, cond, List, [], ◌∷◌, ◌++◌, map, take, length, refl, sym, ap, ◌∙◌, subst, append-nil}
use Rattle.std.specs.Prelude.{slice_index_or, Some, None, ◌||◌}
use Rattle.std.specs.List.{AllByRecursion}
use Rattle.std.specs.List.Sorted.{IsStrictlySortedBy}
use Rattle.std.specs.Ordering.{is_eq, match_ordering}
use Rattle.std.specs.declared.cmp.Ordering.TheVariants.{Less, Equal, Greater}
use Rattle.std.specs.Map.{lookup, set_value, keys_of}
use Rattle.std.specs.BTreeMap.{is_at, insert_entry}
use Rattle.std.specs.Cmp.{tied_itself, eq_by_cmp_equiv}
use Rattle.std.proofs.lemmas.Bool.{false≢true}
use Rattle.std.proofs.lemmas.List.{map-append, take_more}
use Rattle.std.proofs.lemmas.List.Elements.{filter-append}
use Rattle.lk_val.specs.declared.value.Value.{Value}
use Rattle.lk_val.specs.ValueOrder.{tuples_ordered}
use Rattle.lk_val.specs.Values.{tuple_cmp, is_same_tuple}
use Rattle.lk_val.specs.Sets.{with_item, set_of, has}
use Rattle.lk_val.proofs.SetLaws.{has-set_of, has_not, IsStrictlySortedBy-set_of, set_of-push}
use Rattle.lk_types.specs.declared.answer.Partial.{Partial}
use Rattle.lk_semantics.specs.Rollups.{merged}
use Rattle.lk_regroup_laws.specs.Regroup.{RollupRow, all_merged}
use Rattle.lk_regroup.specs.declared.component.Component.{Component}
use Rattle.lk_regroup.specs.declared.component.ComponentParts.{ComponentParts}
use Rattle.lk_regroup.specs.declared.asked.Regrouping.{Regrouping}
use Rattle.lk_regroup.specs.ComponentParts.{first_parts, part_from, with_parts}
use Rattle.lk_regroup.specs.FieldSources.{passes_each}
use Rattle.lk_regroup.specs.Regroupings.{Entry, after_row, component_over, counted, gathered, group_of, parts_over, rows_within, with_row}
use Rattle.lk_regroup.proofs.ComponentLaws.{merged-assoc}

-- a group with what it has
abbrev pub entry_by : (List Value → List ComponentParts) → List Value → Entry
entry_by P g = (g, P g)

-- ---- a row at a group of a map

module _ (first : List ComponentParts) (more : List ComponentParts → List ComponentParts) where
  -- no group that is after g is g
  none_found : (g : List Value) (es : List Entry) → AllByRecursion (λ q. tuple_cmp g q ≡ Less) (keys_of es) → lookup (is_at (tuple_cmp g)) es ≡ None
  none_found g [] all = refl
  none_found g (e ∷ es) all = ap (λ r. cond (is_eq r) (Some e.1) (lookup (is_at (tuple_cmp g)) es)) all.0 ∙ none_found g es all.1

  keys_after : (g h : List Value) (es : List Entry) → tuple_cmp g h ≡ Less → AllByRecursion (λ q. tuple_cmp h q ≡ Less) (keys_of es) → AllByRecursion (λ q. tuple_cmp g q ≡ Less) (keys_of es)
  keys_after g h [] less all = tt
  keys_after g h (e ∷ es) less all = (tuples_ordered.total.trans g h e.0 less all.0, keys_after g h es less all.1)

  -- a group that a look-up found gets more
  pub with_row-found : (es : List Entry) (g : List Value) (v : List ComponentParts) → IsStrictlySortedBy tuple_cmp (keys_of es) → lookup (is_at (tuple_cmp g)) es ≡ Some v
      → set_value (is_at (tuple_cmp g)) es (more v) ≡ with_row first more es g
  unfolding IsStrictlySortedBy
  with_row-found [] g v sorted found = cc found
  with_row-found (e ∷ es) g v sorted found =
      elim (tuple_cmp g e.0) as (λ r. tuple_cmp g e.0 ≡ r → cond (is_eq r) (Some e.1) (lookup (is_at (tuple_cmp g)) es) ≡ Some v
      → cond (is_eq r) ((e.0, more v) ∷ es) (e ∷ set_value (is_at (tuple_cmp g)) es (more v))
      ≡ match_ordering r ((g, first) ∷ e ∷ es) ((e.0, more e.1) ∷ es) (e ∷ with_row first more es g)) [
        | Less ↦ λ less here. let none : lookup (is_at (tuple_cmp g)) es ≡ None = none_found g es (keys_after g e.0 es less sorted.0) in cc (here, none)
        | Equal ↦ λ same here. let is : e.1 ≡ v = cc here in ap (λ w. (e.0, more w) ∷ es) (sym is)
        | Greater ↦ λ after here. ap (λ rest. e ∷ rest) (with_row-found es g v sorted.1 here)
      ] refl found

  -- one that no look-up found gets its first
  pub with_row-new : (es : List Entry) (g : List Value) → lookup (is_at (tuple_cmp g)) es ≡ None → insert_entry tuple_cmp es g first ≡ with_row first more es g
  with_row-new [] g none = refl
  with_row-new (e ∷ es) g none =
      elim (tuple_cmp g e.0) as (λ r. cond (is_eq r) (Some e.1) (lookup (is_at (tuple_cmp g)) es) ≡ None
      → match_ordering r ((g, first) ∷ e ∷ es) ((e.0, first) ∷ es) (e ∷ insert_entry tuple_cmp es g first)
      ≡ match_ordering r ((g, first) ∷ e ∷ es) ((e.0, more e.1) ∷ es) (e ∷ with_row first more es g)) [
        | Less ↦ λ here. refl
        | Equal ↦ λ here. cc here
        | Greater ↦ λ here. ap (λ rest. e ∷ rest) (with_row-new es g here)
      ] none

  -- ---- a row at a group of a set of groups

  module _ (t : List Value) (P Q : List Value → List ComponentParts) (kept : (g : List Value) → is_same_tuple t g ≡ false → Q g ≡ P g) where
    -- the groups after t keep what they have
    kept_after : (ys : List (List Value)) → AllByRecursion (λ q. tuple_cmp t q ≡ Less) ys → map (entry_by P) ys ≡ map (entry_by Q) ys
    kept_after [] all = refl
    kept_after (y ∷ ys) all =
        let here : P y ≡ Q y = sym (kept y (ap is_eq all.0)) in
        λ i. (y, here i) ∷ kept_after ys all.1 i

    all_after : (g h : List Value) (zs : List (List Value)) → tuple_cmp g h ≡ Less → AllByRecursion (λ q. tuple_cmp h q ≡ Less) zs → AllByRecursion (λ q. tuple_cmp g q ≡ Less) zs
    all_after g h [] less all = tt
    all_after g h (z ∷ zs) less all = (tuples_ordered.total.trans g h z less all.0, all_after g h zs less all.1)

    pub with_row-set : (s : List (List Value)) → IsStrictlySortedBy tuple_cmp s → (has tuple_cmp t s ≡ false → first ≡ Q t) → (has tuple_cmp t s ≡ true → more (P t) ≡ Q t)
        → with_row first more (map (entry_by P) s) t ≡ map (entry_by Q) (with_item tuple_cmp t s)
    unfolding IsStrictlySortedBy
    with_row-set [] sorted new old = λ i. (t, new refl i) ∷ []
    with_row-set (y ∷ ys) sorted new old =
        elim (tuple_cmp t y) as (λ r. tuple_cmp t y ≡ r
        → match_ordering r ((t, first) ∷ (y, P y) ∷ map (entry_by P) ys) ((y, more (P y)) ∷ map (entry_by P) ys) ((y, P y) ∷ with_row first more (map (entry_by P) ys) t)
        ≡ map (entry_by Q) (match_ordering r (t ∷ y ∷ ys) (y ∷ ys) (y ∷ with_item tuple_cmp t ys))) [
          | Less ↦ λ less.
              let all : AllByRecursion (λ q. tuple_cmp t q ≡ Less) (y ∷ ys) = (less, all_after t y ys less sorted.0) in
              let is = new (has_not tuples_ordered t (y ∷ ys) all) in
              λ i. (t, is i) ∷ kept_after (y ∷ ys) all i
          | Equal ↦ λ same.
              let one : t ≡ y = tuples_ordered.exact t y same in
              let all : AllByRecursion (λ q. tuple_cmp t q ≡ Less) ys = subst (λ z. AllByRecursion (λ q. tuple_cmp z q ≡ Less) ys) (sym one) sorted.0 in
              let is : more (P y) ≡ Q y = ap (λ z. more (P z)) (sym one) ∙ old (ap (λ r. is_eq r || has tuple_cmp t ys) same) ∙ ap Q one in
              λ i. (y, is i) ∷ kept_after ys all i
          | Greater ↦ λ after.
              let here : P y ≡ Q y = sym (kept y (ap is_eq after)) in
              let skipped : has tuple_cmp t (y ∷ ys) ≡ has tuple_cmp t ys = ap (λ r. is_eq r || has tuple_cmp t ys) after in
              let rest = with_row-set ys sorted.1 (λ absent. new (skipped ∙ absent)) (λ present. old (skipped ∙ present)) in
              λ i. (y, here i) ∷ rest i
        ] refl

-- ---- parts of several rows

-- one more at the end
all_merged-push : (p : Partial) (ps : List Partial) (q : Partial) → all_merged ((p ∷ ps) ++ q ∷ []) ≡ merged (all_merged (p ∷ ps)) q
all_merged-push p [] q = refl
all_merged-push p (r ∷ ps) q = ap (merged p) (all_merged-push r ps q) ∙ sym (merged-assoc p (all_merged (r ∷ ps)) q)

abbrev part_of : Component → RollupRow → Partial
part_of c row = part_from row.1 c.place

component_over-push : (r : RollupRow) (rows : List RollupRow) (row : RollupRow) (c : Component) → with_parts row.1 (component_over (r ∷ rows) c) ≡ component_over ((r ∷ rows) ++ row ∷ []) c
component_over-push r rows row c =
    let parts : merged (all_merged (map (part_of c) (r ∷ rows))) (part_of c row) ≡ all_merged (map (part_of c) ((r ∷ rows) ++ row ∷ [])) =
    sym (ap all_merged (map-append (part_of c) (r ∷ rows) (row ∷ [])) ∙ all_merged-push (part_of c r) (map (part_of c) rows) (part_of c row)) in
    λ i. record { component = c; parts = parts i }

parts-push : (r : RollupRow) (rows : List RollupRow) (row : RollupRow) (cs : List Component) → map (with_parts row.1) (map (component_over (r ∷ rows)) cs) ≡ map (component_over ((r ∷ rows) ++ row ∷ [])) cs
parts-push r rows row [] = refl
parts-push r rows row (c ∷ cs) = λ i. component_over-push r rows row c i ∷ parts-push r rows row cs i

-- ---- one more row

module _ (how : Regrouping) (rows : List RollupRow) (row : RollupRow) where
  -- a row of the group
  within : (g : List Value) → is_same_tuple (group_of how row) g ≡ true → rows_within how (rows ++ row ∷ []) g ≡ rows_within how rows g ++ row ∷ []
  within g same =
      filter-append (λ (r : RollupRow). is_same_tuple (group_of how r) g) rows (row ∷ [])
      ∙ ap (λ b. rows_within how rows g ++ cond b (row ∷ []) []) same

  -- and one of another group
  without : (g : List Value) → is_same_tuple (group_of how row) g ≡ false → rows_within how (rows ++ row ∷ []) g ≡ rows_within how rows g
  without g other =
      filter-append (λ (r : RollupRow). is_same_tuple (group_of how r) g) rows (row ∷ [])
      ∙ ap (λ b. rows_within how rows g ++ cond b (row ∷ []) []) other
      ∙ append-nil (rows_within how rows g)

same_itself : (g : List Value) → is_same_tuple g g ≡ true
same_itself g = ap is_eq (tied_itself tuples_ordered.total g)

same_turned : (g h : List Value) → is_same_tuple g h ≡ is_same_tuple h g
same_turned g h = (eq_by_cmp_equiv tuples_ordered.total).symm g h

or_first_false : (a b : Bool) → (a || b) ≡ false → a ≡ false
or_first_false true b e = e
or_first_false false b e = refl

or_second_false : (a b : Bool) → (a || b) ≡ false → b ≡ false
or_second_false true b e = absurd (false≢true (sym e))
or_second_false false b e = e

-- a group that no row has
none_within : (how : Regrouping) (rows : List RollupRow) (g : List Value) → has tuple_cmp g (map (group_of how) rows) ≡ false → rows_within how rows g ≡ []
none_within how [] g none = refl
none_within how (r ∷ rows) g none =
    let here = same_turned (group_of how r) g ∙ or_first_false (is_same_tuple g (group_of how r)) (has tuple_cmp g (map (group_of how) rows)) none in
    ap (λ b. cond b (r ∷ rows_within how rows g) (rows_within how rows g)) here
    ∙ none_within how rows g (or_second_false (is_same_tuple g (group_of how r)) (has tuple_cmp g (map (group_of how) rows)) none)

-- a group that some row has
some_within : (how : Regrouping) (rows : List RollupRow) (g : List Value) → has tuple_cmp g (map (group_of how) rows) ≡ true → rows_within how rows g ≡ [] → ⊥
some_within how [] g some none = false≢true some
some_within how (r ∷ rows) g some none =
    elim (is_same_tuple g (group_of how r)) as (λ b. is_same_tuple g (group_of how r) ≡ b → (b || has tuple_cmp g (map (group_of how) rows)) ≡ true → ⊥) [
      | true ↦ λ same _.
          let full : r ∷ rows_within how rows g ≡ [] = sym (ap (λ b. cond b (r ∷ rows_within how rows g) (rows_within how rows g)) (same_turned (group_of how r) g ∙ same)) ∙ none in
          absurd (cc full)
      | false ↦ λ other later.
          some_within how rows g later (sym (ap (λ b. cond b (r ∷ rows_within how rows g) (rows_within how rows g)) (same_turned (group_of how r) g ∙ other)) ∙ none)
    ] refl some

-- the parts of some rows of a group with one more
more_parts : (how : Regrouping) (row : RollupRow) (rs : List RollupRow) → (rs ≡ [] → ⊥) → map (with_parts row.1) (map (component_over rs) how.components) ≡ map (component_over (rs ++ row ∷ [])) how.components
more_parts how row [] some = absurd (some refl)
more_parts how row (r ∷ rs) some = parts-push r rs row how.components

gathered-push : (how : Regrouping) (rows : List RollupRow) (row : RollupRow)
    → with_row (map (first_parts row.1) how.components) (map (with_parts row.1)) (gathered how rows) (group_of how row) ≡ gathered how (rows ++ row ∷ [])
gathered-push how rows row =
    let t = group_of how row in
    let groups = map (group_of how) rows in
    let here = within how rows row t (same_itself t) in
    with_row-set (map (first_parts row.1) how.components) (map (with_parts row.1)) t (parts_over how rows) (parts_over how (rows ++ row ∷ []))
    (λ g other. ap (λ rs. map (component_over rs) how.components) (without how rows row g other))
    (set_of tuple_cmp groups) (IsStrictlySortedBy-set_of tuples_ordered groups)
    (λ absent. sym (ap (λ rs. map (component_over rs) how.components) (here ∙ ap (λ rs. rs ++ row ∷ []) (none_within how rows t (sym (has-set_of tuples_ordered t groups) ∙ absent)))))
    (λ present.
    more_parts how row (rows_within how rows t) (some_within how rows t (sym (has-set_of tuples_ordered t groups) ∙ present))
    ∙ sym (ap (λ rs. map (component_over rs) how.components) here))
    ∙ sym (ap (map (entry_by (parts_over how (rows ++ row ∷ [])))) (ap (set_of tuple_cmp) (map-append (group_of how) rows (row ∷ [])) ∙ set_of-push tuples_ordered groups t))

-- the entries after a row, whether it counts or not
pub after_row-push : (how : Regrouping) (rows : List RollupRow) (row : RollupRow) → after_row how row (gathered how (counted how rows)) ≡ gathered how (counted how (rows ++ row ∷ []))
after_row-push how rows row =
    elim (passes_each how.filters row.0) as (λ b. cond b (with_row (map (first_parts row.1) how.components) (map (with_parts row.1)) (gathered how (counted how rows)) (group_of how row)) (gathered how (counted how rows))
    ≡ gathered how (counted how rows ++ cond b (row ∷ []) [])) [
      | true ↦ gathered-push how (counted how rows) row
      | false ↦ ap (gathered how) (sym (append-nil (counted how rows)))
    ]
    ∙ ap (gathered how) (sym (filter-append (λ (r : RollupRow). passes_each how.filters r.0) rows (row ∷ [])))

-- the entries after the row at a place
pub gathered-next : (how : Regrouping) (rows : List RollupRow) (i : ℕ) (row : RollupRow) (before after : List Entry) → i < length rows → row ≡ slice_index_or rows i row
    → before ≡ gathered how (counted how (take i rows)) → after ≡ after_row how row before → after ≡ gathered how (counted how (take (i + 1) rows))
gathered-next how rows i row before after is_within is so_far next =
    next
    ∙ ap (after_row how row) so_far
    ∙ after_row-push how (take i rows) row
    ∙ ap (λ (rs : List RollupRow). gathered how (counted how rs)) (sym (take_more rows i row is_within ∙ ap (λ r. take i rows ++ r ∷ []) (sym is)))
