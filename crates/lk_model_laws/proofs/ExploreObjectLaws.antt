-- What the explores of a project without a fault have: views, few joins, right codes, and datagroups that there are.
use Rattle.std.proofs.Common.{◌≡◌, ◌∙◌, ℕ, suc, ◌+◌, true, false, List, [], ◌∷◌, ◌++◌, length, refl, ap, sym, subst, Option, Some, None}
use Rattle.std.specs.Prelude.{codes, flat_map, is_some, nat_lt, not}
use Rattle.std.specs.List.{AllByRecursion, filter, list_any}
use Rattle.std.specs.Option.{option_and_then}
use Rattle.lk_val.specs.Texts.{is_same_text}
use Rattle.lk_read.specs.declared.tree.Item.{Item}
use Rattle.lk_read.specs.declared.tree.Node.{Node}
use Rattle.lk_read.specs.declared.tree.Node.TheVariants as node
use Rattle.lk_types.specs.declared.schema.Schema.{Schema}
use Rattle.lk_params.specs.declared.number.Order.TheVariants as order
use Rattle.lk_params.specs.declared.owner.Owner.TheVariants as owner
use Rattle.lk_params.specs.Known.{block_findings, item_findings}
use Rattle.lk_params.specs.Parameters.{items_of, last_named}
use Rattle.lk_params.specs.Values.{scalar}
use Rattle.lk_params.specs.Values as values
use Rattle.lk_objects.specs.declared.code.Code.{Code}
use Rattle.lk_objects.specs.declared.datagroup.DeclaredDatagroup.{DeclaredDatagroup}
use Rattle.lk_objects.specs.declared.explore.AggregateTable.{AggregateTable}
use Rattle.lk_objects.specs.declared.explore.DeclaredExplore.{DeclaredExplore}
use Rattle.lk_objects.specs.declared.explore.DeclaredJoin.{DeclaredJoin}
use Rattle.lk_objects.specs.declared.explore.ExploreFilter.{ExploreFilter}
use Rattle.lk_objects.specs.declared.explore.ExploreFilter.TheVariants as explore_filter
use Rattle.lk_objects.specs.declared.view.Declared.{Declared}
use Rattle.lk_objects.specs.declared.view.DeclaredView.{DeclaredView}
use Rattle.lk_merge.specs.declared.project.Object.{Object}
use Rattle.lk_fields.specs.declared.scope.Scope.{Scope}
use Rattle.lk_written.specs.Blocks.{block_items, block_name}
use Rattle.lk_written.specs.CodeFindings.{code_findings}
use Rattle.lk_written.specs.Values.{code_at, is_missing, is_wrong_at, text_at}
use Rattle.lk_explore.specs.ExploreFilters.{AreExploreFilters, is_filter}
use Rattle.lk_explore.specs.Explores.{AreJoins, AreRollups, IsExplore, count_findings, explore_findings, joins_in, rollups_in, value_findings}
use Rattle.lk_explore.specs.Joins.{IsJoin, condition_findings, join_findings, name_findings, sort_findings}
use Rattle.lk_explore.specs.PartFindings as parts
use Rattle.lk_explore.specs.Rollups as rollups
use Rattle.lk_explore.specs.Rollups.{IsRollup, rollup_findings}
use Rattle.lk_explore.specs.Values.{block_at, is_no_text, plain_items, view_or, wrong_at}
use Rattle.lk_scope.specs.Pieces.{line_with}
use Rattle.lk_scope.specs.Scopes.{scope_of}
use Rattle.lk_model.specs.declared.view_kinds.ViewKinds.{ViewKinds}
use Rattle.lk_explore_faults.specs.FilterFaults as faults
use Rattle.lk_explore_faults.specs.FilterFaults.{rollup_line}
use Rattle.lk_explore_faults.specs.JoinFaults as joins
use Rattle.lk_explore_faults.specs.JoinFaults.{join_line, own_findings}
use Rattle.lk_explore_faults.specs.StoredQueries.{datagroup_findings, is_datagroup, query_findings}
use Rattle.lk_resolve.specs.Objects.{AreExplores}
use Rattle.lk_model_laws.proofs.CodeLaws.{IsRightCode, code_right}
use Rattle.lk_model_laws.proofs.FaultlessLaws.{IsClear}
use Rattle.lk_model_laws.proofs.PartLaws.{IsGiven}
use Rattle.lk_model_laws.proofs.PieceLaws.{EachFrom, nil_along, nil_each, nil_left, nil_right, none_lined, none_soonest, not_so}
use Rattle.lk_model_laws.proofs.ViewObjectLaws.{last_holds, nil_no, not_false, some_of}

-- ---- the view of an explore and of a join

module _ (own : List ℕ) (items : List Item) where
  given_view : ((item : Item) → last_named (codes "from") items ≡ Some item → is_no_text item.value ≡ false) → IsGiven (view_or own items)
  given_view h = of_item (last_named (codes "from") items) refl
    where
      of_item : (o : Option Item) → last_named (codes "from") items ≡ o → IsGiven (view_or own items)
      of_item None at = (own, rw at refl)
      of_item (Some item) at =
          let text = some_of (scalar item.value) (not_false (is_some (scalar item.value)) (h item at)) in
          (text.0, rw at text.1)

explore_value : (explore : List ℕ) (item : Item) → item.name ≡ codes "from" → value_findings explore item ≡ [] → is_no_text item.value ≡ false
explore_value explore item is h = not_so (is_no_text item.value) _ (rw is at h)

base_given : (name : List ℕ) (items : List Item) → explore_findings name items ≡ [] → IsGiven (view_or name items)
base_given name items none =
    given_view name items (λ item at.
    let each = nil_each (value_findings name) items
    (nil_right (block_findings order.Object owner.Explore name None items) (flat_map (value_findings name) items)
    (nil_left (block_findings order.Object owner.Explore name None items ++ flat_map (value_findings name) items) (count_findings items) none)) in
    let found = last_holds (λ i. value_findings name i ≡ []) (codes "from") items item each at in
    explore_value name item found.1 found.0)

joins_few : (name : List ℕ) (items : List Item) → explore_findings name items ≡ [] → nat_lt 31 (length (joins_in items)) ≡ false
joins_few name items none =
    not_so (nat_lt 31 (length (joins_in items))) _ (nil_right (block_findings order.Object owner.Explore name None items ++ flat_map (value_findings name) items) (count_findings items) none)

join_view_given : (name : List ℕ) (items : List Item) (on : Code) → join_findings name items on ≡ [] → IsGiven (view_or name items)
join_view_given name items on none =
    given_view name items (λ item at.
    let front = nil_left (block_findings order.Object owner.Join name None items ++ sort_findings name items ++ name_findings name items ++ condition_findings name items) (code_findings order.Object name (codes "sql_on") on) none in
    let sorts : sort_findings name items ≡ [] =
    nil_right (block_findings order.Object owner.Join name None items) (sort_findings name items)
    (nil_left (block_findings order.Object owner.Join name None items ++ sort_findings name items) (name_findings name items)
    (nil_left (block_findings order.Object owner.Join name None items ++ sort_findings name items ++ name_findings name items) (condition_findings name items) front)) in
    let wrong : is_wrong_at is_no_text (codes "from") items ≡ false =
    not_so (is_wrong_at is_no_text (codes "from") items) _ (nil_left (wrong_at name (codes "from") (is_wrong_at is_no_text (codes "from") items)) _ (nil_left _ _ sorts)) in
    rw at at wrong)

-- ---- joins

join_right : (name : List ℕ) (items : List Item) (join : DeclaredJoin) → IsJoin name items join → join.first ≡ None → IsGiven join.view × IsRightCode join.on
join_right name items join is none = (
  subst IsGiven (sym is.view_is) (join_view_given name items join.on (none_soonest (join_findings name items join.on) (sym is.first_is ∙ none))),
  code_right false (code_at (codes "sql_on") items) join.on is.on_is,
)

module _ (schema : Schema) (views : List DeclaredView) (scope : Scope) where
  joins_right : (all : List DeclaredJoin) (n : ℕ) (items : List Item) (more : List DeclaredJoin) → AreJoins items more → EachFrom (λ k join. join_line schema views scope all k join ≡ None) n more
      → AllByRecursion (λ join. IsGiven join.view × IsRightCode join.on) more
  joins_right all n [] [] h fine = tt
  joins_right all n [] (join ∷ more) h fine = absurd h
  joins_right all n (item ∷ items) [] h fine = absurd h
  joins_right all n (item ∷ items) (join ∷ more) h fine =
      (join_right (block_name item) (block_items item) join h.0 (none_lined join.first (joins.join_findings schema views scope all n join) fine.0).0, joins_right all (n + 1) items more h.1 fine.1)

joins_count : (items : List Item) (more : List DeclaredJoin) → AreJoins items more → length items ≡ length more
joins_count [] [] h = refl
joins_count [] (join ∷ more) h = absurd h
joins_count (item ∷ items) [] h = absurd h
joins_count (item ∷ items) (join ∷ more) h = ap suc (joins_count items more h.1)

-- ---- filters

abbrev pub IsRightFilter : ExploreFilter → Type 0
IsRightFilter (explore_filter.Where c first) = IsRightCode c
IsRightFilter (explore_filter.Always f) = Unit {0}
IsRightFilter (explore_filter.Access f) = Unit {0}

filters_right : (explore : List ℕ) (items : List Item) (filters : List ExploreFilter) → AreExploreFilters explore items filters → AllByRecursion IsRightFilter filters
filters_right explore [] [] h = tt
filters_right explore [] (f ∷ filters) h = absurd h
filters_right explore (item ∷ items) [] h = absurd h
filters_right explore (item ∷ items) (explore_filter.Where c first ∷ filters) h = (code_right false (values.code item.value) c h.0.1, filters_right explore items filters h.1)
filters_right explore (item ∷ items) (explore_filter.Always f ∷ filters) h = (tt, filters_right explore items filters h.1)
filters_right explore (item ∷ items) (explore_filter.Access f ∷ filters) h = (tt, filters_right explore items filters h.1)

-- ---- aggregate tables

-- the datagroup of an aggregate table is there
pub record HasDatagroup (datagroups : List DeclaredDatagroup) (table : AggregateTable) : Type 0 where
  pub name : List ℕ
  pub named : table.datagroup ≡ Some name
  pub there : list_any (λ g. is_same_text g.name name) datagroups ≡ true

name_value : (table at : List ℕ) (item : Item) → item.name ≡ codes "datagroup_trigger" → parts.name_findings table at item ≡ [] → is_no_text item.value ≡ false
name_value table at item is h = not_so (is_no_text item.value) _ (rw is at h)

text_is : (items : List Item) (item : Item) (text : List ℕ) → last_named (codes "datagroup_trigger") items ≡ Some item → scalar item.value ≡ Some text
    → text_at (codes "datagroup_trigger") items ≡ Some text
text_is items item text at is = ap (option_and_then (λ (i : Item). scalar i.value)) at ∙ is

group_is : (items : List Item) (item : Item) (group : List ℕ) → block_at (codes "materialization") items ≡ plain_items item.value
    → text_at (codes "datagroup_trigger") (plain_items item.value) ≡ Some group → text_at (codes "datagroup_trigger") (block_at (codes "materialization") items) ≡ Some group
group_is items item group block is = ap (text_at (codes "datagroup_trigger")) block ∙ is

module _ (table : List ℕ) where
  -- the datagroup of a materialization
  group_given : (value : Node) → rollups.materialization_findings table value ≡ [] → (group : List ℕ) × (text_at (codes "datagroup_trigger") (plain_items value) ≡ Some group)
  group_given (node.Block None outline) h =
      let items = items_of outline in
      let front = parts.part_findings owner.Materialization table (codes "materialization") items in
      let missing = is_missing (codes "datagroup_trigger") items in
      let last = some_of (last_named (codes "datagroup_trigger") items) (not_false (is_some (last_named (codes "datagroup_trigger") items)) (not_so missing _ (nil_right front _ h))) in
      let each = nil_along (λ before i. item_findings order.Object owner.Materialization table (Some (codes "materialization")) before i ++ parts.name_findings table (codes "materialization") i) [] items (nil_left front _ h) in
      let found = last_holds (λ i. (before : List Item) × (item_findings order.Object owner.Materialization table (Some (codes "materialization")) before i ++ parts.name_findings table (codes "materialization") i ≡ []))
      (codes "datagroup_trigger") items last.0 each last.1 in
      let text = some_of (scalar last.0.value) (not_false (is_some (scalar last.0.value)) (name_value table (codes "materialization") last.0 found.1
      (nil_right (item_findings order.Object owner.Materialization table (Some (codes "materialization")) found.0.0 last.0) (parts.name_findings table (codes "materialization") last.0) found.0.1))) in
      (text.0, text_is items last.0 text.0 last.1 text.1)
  group_given (node.Block (Some title) outline) h = absurd (nil_no _ [] h)
  group_given (node.Word text) h = absurd (nil_no _ [] h)
  group_given (node.Quoted text) h = absurd (nil_no _ [] h)
  group_given (node.List entries) h = absurd (nil_no _ [] h)
  group_given (node.Code text) h = absurd (nil_no _ [] h)

  materialization_value : (item : Item) → item.name ≡ codes "materialization" → rollups.value_findings table item ≡ [] → rollups.materialization_findings table item.value ≡ []
  materialization_value item is h = rw is at h

  block_is : (items : List Item) (item : Item) → last_named (codes "materialization") items ≡ Some item → block_at (codes "materialization") items ≡ plain_items item.value
  block_is items item at = rw at refl

  given_group : (items : List Item) → rollup_findings table items ≡ [] → (group : List ℕ) × (text_at (codes "datagroup_trigger") (block_at (codes "materialization") items) ≡ Some group)
  given_group items none =
      let own = rollups.item_by_item table [] items in
      let query = wrong_at table (codes "query") (is_missing (codes "query") items) in
      let missing = is_missing (codes "materialization") items in
      let last = some_of (last_named (codes "materialization") items) (not_false (is_some (last_named (codes "materialization") items)) (not_so missing _ (nil_right (own ++ query) (wrong_at table (codes "materialization") missing) none))) in
      let each = nil_along (λ before i. item_findings order.Object owner.AggregateTable table None before i ++ rollups.value_findings table i) [] items
      (nil_left own query (nil_left (own ++ query) (wrong_at table (codes "materialization") missing) none)) in
      let found = last_holds (λ i. (before : List Item) × (item_findings order.Object owner.AggregateTable table None before i ++ rollups.value_findings table i ≡ [])) (codes "materialization") items last.0 each last.1 in
      let value = materialization_value last.0 found.1 (nil_right (item_findings order.Object owner.AggregateTable table None found.0.0 last.0) (rollups.value_findings table last.0) found.0.1) in
      let group = group_given last.0.value value in
      let block = block_is items last.0 last.1 in
      (group.0, group_is items last.0 group.0 block group.1)

module _ (views : List DeclaredView) (scope : Scope) (datagroups : List DeclaredDatagroup) where
  pub rollup_parts : (table : AggregateTable) → rollup_line views scope datagroups table ≡ None → (table.first ≡ None) × (faults.rollup_findings views scope datagroups table ≡ [])
  unfolding rollup_line
  rollup_parts table h = none_lined table.first (faults.rollup_findings views scope datagroups table) h

  has_datagroup : (name : List ℕ) (items : List Item) (table : AggregateTable) → IsRollup name items table → rollup_line views scope datagroups table ≡ None → HasDatagroup datagroups table
  has_datagroup name items table is h =
      let fine = rollup_parts table h in
      let group = given_group name items (none_soonest (rollup_findings name items) (sym is.first_is ∙ fine.0)) in
      let named : table.datagroup ≡ Some group.0 = is.datagroup_is ∙ group.1 in
      let found : datagroup_findings datagroups table.name (codes "materialization") (Some group.0) ≡ [] =
      ap (datagroup_findings datagroups table.name (codes "materialization")) (sym named)
      ∙ nil_right (query_findings views scope table.name (codes "query") table.filters table.entries) (datagroup_findings datagroups table.name (codes "materialization") table.datagroup) fine.1 in
      record {
        name = group.0;
        named = named;
        there = not_false (is_datagroup datagroups group.0) (not_so (not (is_datagroup datagroups group.0)) _ found);
      }

  rollups_have : (items : List Item) (tables : List AggregateTable) → AreRollups items tables → AllByRecursion (λ table. rollup_line views scope datagroups table ≡ None) tables → AllByRecursion (HasDatagroup datagroups) tables
  rollups_have [] [] h fine = tt
  rollups_have [] (table ∷ tables) h fine = absurd h
  rollups_have (item ∷ items) [] h fine = absurd h
  rollups_have (item ∷ items) (table ∷ tables) h fine = (has_datagroup (block_name item) (block_items item) table h.0 fine.0, rollups_have items tables h.1 fine.1)

-- ---- explores

-- an explore without a fault
pub record IsRightExplore (datagroups : List DeclaredDatagroup) (x : DeclaredExplore) : Type 0 where
  pub base : IsGiven x.base
  pub joins_are : AllByRecursion (λ join. IsGiven join.view × IsRightCode join.on) x.joins
  pub few : nat_lt 31 (length x.joins) ≡ false
  pub filters_are : AllByRecursion IsRightFilter x.filters
  pub rollups_are : AllByRecursion (HasDatagroup datagroups) x.rollups

module _ (schema : Schema) (declared : Declared) (scope : Scope) where
  right_explore : (name : List ℕ) (items : List Item) (x : DeclaredExplore) → IsExplore name items x → line_with x.first (own_findings declared.views scope x) ≡ None
      → EachFrom (λ n join. join_line schema declared.views scope x.joins n join ≡ None) 1 x.joins → AllByRecursion (λ table. rollup_line declared.views scope declared.datagroups table ≡ None) x.rollups
      → IsRightExplore declared.datagroups x
  right_explore name items x is own joins_fine rollups_fine =
      let parts = none_lined x.first (own_findings declared.views scope x) own in
      let none = none_soonest (explore_findings name items) (sym is.first_is ∙ parts.0) in
      record {
        base = subst IsGiven (sym is.base_is) (base_given name items none);
        joins_are = joins_right schema declared.views scope x.joins 1 (joins_in items) x.joins is.joins_are joins_fine;
        few = ap (λ n. nat_lt 31 n) (sym (joins_count (joins_in items) x.joins is.joins_are)) ∙ joins_few name items none;
        filters_are = filters_right name (filter is_filter items) x.filters is.filters_are;
        rollups_are = rollups_have declared.views scope declared.datagroups (rollups_in items) x.rollups is.rollups_are rollups_fine;
      }

module _ (schema : Schema) (declared : Declared) (kinds : ViewKinds) where
  -- all explores without a fault
  pub right_explores : (objects : List Object) (explores : List DeclaredExplore) → AreExplores objects explores → AllByRecursion (IsClear schema declared kinds) explores
      → AllByRecursion (IsRightExplore declared.datagroups) explores
  right_explores [] [] h fine = tt
  right_explores [] (x ∷ explores) h fine = absurd h
  right_explores (o ∷ objects) [] h fine = absurd h
  right_explores (o ∷ objects) (x ∷ explores) h fine =
      (right_explore schema declared (scope_of declared.views x) o.name (items_of o.tree) x h.0 fine.0.own fine.0.joins fine.0.rollups, right_explores objects explores h.1 fine.1)
