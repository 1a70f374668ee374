-- Each declaration of an explore says something, given that texts do.
use Rattle.std.proofs.Common.{◌≡◌, inl, inr, ℕ, true, false, ◌||◌, List, [], ◌∷◌, Option, filter, codes, refl, if◌then◌else◌}
use Rattle.lk_val.specs.Texts.{is_same_text}
use Rattle.lk_read.specs.declared.tree.Item.{Item}
use Rattle.lk_read.specs.declared.tree.Node.{Node}
use Rattle.lk_grammar.proofs.FormLaws.{one_of}
use Rattle.lk_params.specs.Findings.{soonest}
use Rattle.lk_params.specs.declared.finding.Finding.{Finding}
use Rattle.lk_types.specs.declared.explore.JoinKind.{JoinKind}
use Rattle.lk_types.specs.declared.explore.Relation.{Relation}
use Rattle.lk_objects.specs.declared.code.Code.{Code}
use Rattle.lk_objects.specs.declared.filter_text.FilterText.{FilterText}
use Rattle.lk_objects.specs.declared.view.Entry.{Entry}
use Rattle.lk_written.specs.Codes.{IsCode}
use Rattle.lk_written.specs.ReadFilters.{AreFilters}
use Rattle.lk_params.specs.Values as values
use Rattle.lk_objects.specs.declared.explore.AggregateTable.{AggregateTable}
use Rattle.lk_objects.specs.declared.explore.DeclaredJoin.{DeclaredJoin}
use Rattle.lk_objects.specs.declared.explore.ExploreFilter.{ExploreFilter}
use Rattle.lk_objects.specs.declared.explore.ExploreFilter.TheVariants as explore_filter
use Rattle.lk_written.specs.Blocks.{block_items, block_name}
use Rattle.lk_written.specs.Values.{code_at, filters_at, text_at}
use Rattle.lk_explore.specs.ExploreFilters.{AreExploreFilters, IsAlways, IsExploreFilter, access_of, always_findings, is_filter, where_findings}
use Rattle.lk_explore.specs.Explores.{AreJoins, AreRollups, IsExplore, explore_findings, joins_in, rollups_in}
use Rattle.lk_explore.specs.Joins.{IsJoin, join_findings, kind_of, relation_of}
use Rattle.lk_explore.specs.Rollups.{IsRollup, entries_in, rollup_findings}
use Rattle.lk_explore.specs.Values.{block_at, plain_items, view_or, words_at}
use Rattle.lk_complete_laws.specs.Holding.{HoldsOfSome}
use Rattle.lk_complete_laws.proofs.NotNot.{of_both, of_these, of_this}
use Rattle.lk_some_reply.proofs.Parameters.{SomeCode, SomeFilters}

module _ (some_code : SomeCode) (some_filters : SomeFilters) where
  -- ---- joins

  join_with : (name : List ℕ) (items : List Item) (on : Code) (view : Option (List ℕ)) (kind : JoinKind) (relation : Relation) (key : Option (List ℕ)) (required : List (List ℕ)) (first : Option Finding)
      → IsCode false (code_at (codes "sql_on") items) on → view ≡ view_or name items → kind ≡ kind_of items → relation ≡ relation_of items
      → key ≡ text_at (codes "foreign_key") items → required ≡ words_at (codes "required_joins") items
      → first ≡ soonest (join_findings name items on) → HoldsOfSome (IsJoin name items)
  join_with name items on view kind relation key required first on_is view_is kind_is relation_is key_is required_are first_is =
      of_this {Holds = IsJoin name items}
      (record { name = name; view = view; kind = kind; relation = relation; on = on; foreign_key = key; required = required; first = first })
      (record {
        name_is = refl;
        view_is = view_is;
        kind_is = kind_is;
        relation_is = relation_is;
        on_is = on_is;
        key_is = key_is;
        required_are = required_are;
        first_is = first_is;
      })

  one_join : (name : List ℕ) (items : List Item) → HoldsOfSome (IsJoin name items)
  one_join name items =
      of_these {Holds = IsCode false (code_at (codes "sql_on") items)} {Fits = IsJoin name items} (some_code false (code_at (codes "sql_on") items)) (λ on on_is.
      join_with name items on (view_or name items) (kind_of items) (relation_of items) (text_at (codes "foreign_key") items)
      (words_at (codes "required_joins") items) (soonest (join_findings name items on)) on_is refl refl refl refl refl refl)

  some_joins : (items : List Item) → HoldsOfSome (AreJoins items)
  some_joins [] = of_this {Holds = AreJoins []} [] tt
  some_joins (item ∷ items) =
      of_both {One = IsJoin (block_name item) (block_items item)} {Other = AreJoins items} {Both = AreJoins (item ∷ items)}
      (one_join (block_name item) (block_items item)) (some_joins items) (λ j js. j ∷ js) (λ j js is are. (is, are))

  -- ---- filters

  one_always : (explore : List ℕ) (value : Node) → HoldsOfSome (IsAlways explore value)
  one_always explore value =
      of_these {Holds = AreFilters (filters_at (plain_items value))} {Fits = IsAlways explore value} (some_filters (filters_at (plain_items value))) (λ filters filters_are.
      of_this {Holds = IsAlways explore value} (record { filters = filters; first = soonest (always_findings explore value) }) (record { filters_are = filters_are; first_is = refl }))

  module _ (explore : List ℕ) (item : Item) where
    always_filter : is_same_text item.name (codes "always_filter") ≡ true → HoldsOfSome (IsExploreFilter explore item)
    always_filter is =
        of_these {Holds = IsAlways explore item.value} {Fits = IsExploreFilter explore item} (one_always explore item.value) (λ f always.
        of_this {Holds = IsExploreFilter explore item} (explore_filter.Always f) (is, always))

    access_filter : is_same_text item.name (codes "access_filter") ≡ true → HoldsOfSome (IsExploreFilter explore item)
    access_filter is = of_this {Holds = IsExploreFilter explore item} (explore_filter.Access (access_of explore item.value)) (is, refl)

    where_filter : is_same_text item.name (codes "sql_always_where") ≡ true → HoldsOfSome (IsExploreFilter explore item)
    where_filter is =
        of_these {Holds = IsCode false (values.code item.value)} {Fits = IsExploreFilter explore item} (some_code false (values.code item.value)) (λ c c_is.
        of_this {Holds = IsExploreFilter explore item} (explore_filter.Where c (soonest (where_findings explore c))) (is, c_is, refl))

    one_filter : is_filter item ≡ true → HoldsOfSome (IsExploreFilter explore item)
    one_filter h =
        elim (one_of (is_same_text item.name (codes "always_filter") || is_same_text item.name (codes "access_filter")) (is_same_text item.name (codes "sql_always_where")) h) [
          | inl front ↦
              elim (one_of (is_same_text item.name (codes "always_filter")) (is_same_text item.name (codes "access_filter")) front) [
                | inl always ↦ always_filter always
                | inr access ↦ access_filter access
              ]
          | inr last ↦ where_filter last
        ]

  some_explore_filters : (explore : List ℕ) (items : List Item) → HoldsOfSome (AreExploreFilters explore (filter is_filter items))
  some_explore_filters explore [] = of_this {Holds = AreExploreFilters explore []} [] tt
  some_explore_filters explore (item ∷ items) =
      elim (is_filter item) as (λ b. is_filter item ≡ b → HoldsOfSome (AreExploreFilters explore (if b then item ∷ filter is_filter items else filter is_filter items))) [
        | true ↦ λ is.
            of_both {One = IsExploreFilter explore item} {Other = AreExploreFilters explore (filter is_filter items)} {Both = AreExploreFilters explore (item ∷ filter is_filter items)}
            (one_filter explore item is) (some_explore_filters explore items) (λ f fs. f ∷ fs) (λ f fs is are. (is, are))
        | false ↦ λ _. some_explore_filters explore items
      ] refl

  -- ---- aggregate tables

  rollup_with : (name : List ℕ) (items : List Item) (filters : List FilterText) (dimensions measures : List (List ℕ)) (datagroup : Option (List ℕ)) (entries : List Entry) (first : Option Finding)
      → AreFilters (filters_at (block_at (codes "query") items)) filters → dimensions ≡ words_at (codes "dimensions") (block_at (codes "query") items)
      → measures ≡ words_at (codes "measures") (block_at (codes "query") items)
      → datagroup ≡ text_at (codes "datagroup_trigger") (block_at (codes "materialization") items)
      → entries ≡ entries_in (block_at (codes "query") items) → first ≡ soonest (rollup_findings name items) → HoldsOfSome (IsRollup name items)
  rollup_with name items filters dimensions measures datagroup entries first filters_are dimensions_are measures_are datagroup_is entries_are first_is =
      of_this {Holds = IsRollup name items}
      (record { name = name; dimensions = dimensions; measures = measures; filters = filters; datagroup = datagroup; entries = entries; first = first })
      (record {
        name_is = refl;
        dimensions_are = dimensions_are;
        measures_are = measures_are;
        filters_are = filters_are;
        datagroup_is = datagroup_is;
        entries_are = entries_are;
        first_is = first_is;
      })

  one_rollup : (name : List ℕ) (items : List Item) → HoldsOfSome (IsRollup name items)
  one_rollup name items =
      of_these {Holds = AreFilters (filters_at (block_at (codes "query") items))} {Fits = IsRollup name items}
      (some_filters (filters_at (block_at (codes "query") items))) (λ filters filters_are.
      rollup_with name items filters (words_at (codes "dimensions") (block_at (codes "query") items)) (words_at (codes "measures") (block_at (codes "query") items))
      (text_at (codes "datagroup_trigger") (block_at (codes "materialization") items)) (entries_in (block_at (codes "query") items))
      (soonest (rollup_findings name items)) filters_are refl refl refl refl refl)

  some_rollups : (items : List Item) → HoldsOfSome (AreRollups items)
  some_rollups [] = of_this {Holds = AreRollups []} [] tt
  some_rollups (item ∷ items) =
      of_both {One = IsRollup (block_name item) (block_items item)} {Other = AreRollups items} {Both = AreRollups (item ∷ items)}
      (one_rollup (block_name item) (block_items item)) (some_rollups items) (λ t ts. t ∷ ts) (λ t ts is are. (is, are))

  -- ---- explores

  explore_with : (name : List ℕ) (items : List Item) (joins : List DeclaredJoin) (filters : List ExploreFilter) (rollups : List AggregateTable) (base : Option (List ℕ)) (always : List (List ℕ)) (first : Option Finding)
      → AreJoins (joins_in items) joins → AreExploreFilters name (filter is_filter items) filters → AreRollups (rollups_in items) rollups
      → base ≡ view_or name items → always ≡ words_at (codes "always_join") items → first ≡ soonest (explore_findings name items)
      → HoldsOfSome (IsExplore name items)
  explore_with name items joins filters rollups base always first joins_are filters_are rollups_are base_is always_is first_is =
      of_this {Holds = IsExplore name items}
      (record { name = name; base = base; joins = joins; always_join = always; filters = filters; rollups = rollups; first = first })
      (record {
        name_is = refl;
        base_is = base_is;
        joins_are = joins_are;
        always_join_is = always_is;
        filters_are = filters_are;
        rollups_are = rollups_are;
        first_is = first_is;
      })

  pub one_explore : (name : List ℕ) (items : List Item) → HoldsOfSome (IsExplore name items)
  one_explore name items =
      of_these {Holds = AreJoins (joins_in items)} {Fits = IsExplore name items} (some_joins (joins_in items)) (λ joins joins_are.
      of_these {Holds = AreExploreFilters name (filter is_filter items)} {Fits = IsExplore name items} (some_explore_filters name items) (λ filters filters_are.
      of_these {Holds = AreRollups (rollups_in items)} {Fits = IsExplore name items} (some_rollups (rollups_in items)) (λ rollups rollups_are.
      explore_with name items joins filters rollups (view_or name items) (words_at (codes "always_join") items) (soonest (explore_findings name items))
      joins_are filters_are rollups_are refl refl refl)))
