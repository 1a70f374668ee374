-- Explores that are what the same parameters say are equal, given that texts say one thing.
use Rattle.std.proofs.Common.{◌≡◌, ◌∙◌, ℕ, true, false, List, [], ◌∷◌, refl, sym, ap, subst}
use Rattle.std.specs.Prelude.{codes}
use Rattle.std.specs.List.{filter}
use Rattle.std.specs.Cmp.Lexicographic.{bytes_decides}
use Rattle.std.proofs.lemmas.Bool.{false≢true}
use Rattle.lk_val.specs.Texts.{is_same_text}
use Rattle.lk_read.specs.declared.tree.Item.{Item}
use Rattle.lk_read.specs.declared.tree.Node.{Node}
use Rattle.lk_params.specs.Findings.{soonest}
use Rattle.lk_params.specs.Values as values
use Rattle.lk_objects.specs.declared.explore.AggregateTable.{AggregateTable}
use Rattle.lk_objects.specs.declared.explore.AlwaysFilter.{AlwaysFilter}
use Rattle.lk_objects.specs.declared.explore.DeclaredExplore.{DeclaredExplore}
use Rattle.lk_objects.specs.declared.explore.DeclaredJoin.{DeclaredJoin}
use Rattle.lk_objects.specs.declared.explore.ExploreFilter.{ExploreFilter}
use Rattle.lk_objects.specs.declared.explore.ExploreFilter.TheVariants as explore_filter
use Rattle.lk_written.specs.Values.{code_at}
use Rattle.lk_written.specs.Blocks.{block_items, block_name}
use Rattle.lk_explore.specs.ExploreFilters.{AreExploreFilters, IsAlways, IsExploreFilter, is_filter, where_findings}
use Rattle.lk_explore.specs.Explores.{AreJoins, AreRollups, IsExplore, joins_in, rollups_in}
use Rattle.lk_explore.specs.Joins.{IsJoin, join_findings}
use Rattle.lk_explore.specs.Rollups.{IsRollup}
use Rattle.lk_one_reply.proofs.OneObject.{OneCode, OneFilters}

-- a parameter has one name
two_names : (name one other : List ℕ) → is_same_text one other ≡ false → is_same_text name one ≡ true → is_same_text name other ≡ true → ⊥
two_names name one other differ h k =
    false≢true (sym differ ∙ subst (λ n. is_same_text n other ≡ true) ((bytes_decides name one).0 h) k)

module _ (one_code : OneCode) (one_filters : OneFilters) where
  -- ---- joins

  one_join : (name : List ℕ) (items : List Item) (x y : DeclaredJoin) → IsJoin name items x → IsJoin name items y → x ≡ y
  one_join name items x y h k =
      let name_is : x.name ≡ y.name = h.name_is ∙ sym k.name_is in
      let view : x.view ≡ y.view = h.view_is ∙ sym k.view_is in
      let kind : x.kind ≡ y.kind = h.kind_is ∙ sym k.kind_is in
      let relation : x.relation ≡ y.relation = h.relation_is ∙ sym k.relation_is in
      let on : x.on ≡ y.on = one_code false (code_at (codes "sql_on") items) x.on y.on h.on_is k.on_is in
      let key : x.foreign_key ≡ y.foreign_key = h.key_is ∙ sym k.key_is in
      let required : x.required ≡ y.required = h.required_are ∙ sym k.required_are in
      let first : x.first ≡ y.first = h.first_is ∙ ap (λ c. soonest (join_findings name items c)) on ∙ sym k.first_is in
      (λ i. record {
        name = name_is i;
        view = view i;
        kind = kind i;
        relation = relation i;
        on = on i;
        foreign_key = key i;
        required = required i;
        first = first i;
      })

  one_joins : (items : List Item) (xs ys : List DeclaredJoin) → AreJoins items xs → AreJoins items ys → xs ≡ ys
  one_joins [] [] [] h k = refl
  one_joins [] [] (y ∷ ys) h k = absurd k
  one_joins [] (x ∷ xs) ys h k = absurd h
  one_joins (item ∷ items) [] ys h k = absurd h
  one_joins (item ∷ items) (x ∷ xs) [] h k = absurd k
  one_joins (item ∷ items) (x ∷ xs) (y ∷ ys) h k =
      let head = one_join (block_name item) (block_items item) x y h.0 k.0 in
      let tail = one_joins items xs ys h.1 k.1 in
      (λ i. head i ∷ tail i)

  -- ---- filters

  one_always : (explore : List ℕ) (value : Node) (f g : AlwaysFilter) → IsAlways explore value f → IsAlways explore value g → f ≡ g
  one_always explore value f g h k =
      let filters : f.filters ≡ g.filters = one_filters _ f.filters g.filters h.filters_are k.filters_are in
      let first : f.first ≡ g.first = h.first_is ∙ sym k.first_is in
      (λ i. record { filters = filters i; first = first i })

  one_filter : (explore : List ℕ) (item : Item) (f g : ExploreFilter) → IsExploreFilter explore item f → IsExploreFilter explore item g → f ≡ g
  one_filter explore item (explore_filter.Always f) (explore_filter.Always g) h k = ap (λ a. explore_filter.Always a) (one_always explore item.value f g h.1 k.1)
  one_filter explore item (explore_filter.Always f) (explore_filter.Access g) h k = absurd (two_names item.name (codes "always_filter") (codes "access_filter") refl h.0 k.0)
  one_filter explore item (explore_filter.Always f) (explore_filter.Where c first) h k = absurd (two_names item.name (codes "always_filter") (codes "sql_always_where") refl h.0 k.0)
  one_filter explore item (explore_filter.Access f) (explore_filter.Always g) h k = absurd (two_names item.name (codes "access_filter") (codes "always_filter") refl h.0 k.0)
  one_filter explore item (explore_filter.Access f) (explore_filter.Access g) h k = ap (λ a. explore_filter.Access a) (h.1 ∙ sym k.1)
  one_filter explore item (explore_filter.Access f) (explore_filter.Where c first) h k = absurd (two_names item.name (codes "access_filter") (codes "sql_always_where") refl h.0 k.0)
  one_filter explore item (explore_filter.Where c first) (explore_filter.Always g) h k = absurd (two_names item.name (codes "sql_always_where") (codes "always_filter") refl h.0 k.0)
  one_filter explore item (explore_filter.Where c first) (explore_filter.Access g) h k = absurd (two_names item.name (codes "sql_always_where") (codes "access_filter") refl h.0 k.0)
  one_filter explore item (explore_filter.Where c first) (explore_filter.Where d other) h k =
      let code : c ≡ d = one_code false (values.code item.value) c d h.1 k.1 in
      let found : first ≡ other = h.2 ∙ ap (λ e. soonest (where_findings explore e)) code ∙ sym k.2 in
      (λ i. explore_filter.Where (code i) (found i))

  one_filter_list : (explore : List ℕ) (items : List Item) (fs gs : List ExploreFilter) → AreExploreFilters explore items fs → AreExploreFilters explore items gs → fs ≡ gs
  one_filter_list explore [] [] [] h k = refl
  one_filter_list explore [] [] (g ∷ gs) h k = absurd k
  one_filter_list explore [] (f ∷ fs) gs h k = absurd h
  one_filter_list explore (item ∷ items) [] gs h k = absurd h
  one_filter_list explore (item ∷ items) (f ∷ fs) [] h k = absurd k
  one_filter_list explore (item ∷ items) (f ∷ fs) (g ∷ gs) h k =
      let head = one_filter explore item f g h.0 k.0 in
      let tail = one_filter_list explore items fs gs h.1 k.1 in
      (λ i. head i ∷ tail i)

  -- ---- aggregate tables

  one_rollup : (name : List ℕ) (items : List Item) (t u : AggregateTable) → IsRollup name items t → IsRollup name items u → t ≡ u
  one_rollup name items t u h k =
      let name_is : t.name ≡ u.name = h.name_is ∙ sym k.name_is in
      let dimensions : t.dimensions ≡ u.dimensions = h.dimensions_are ∙ sym k.dimensions_are in
      let measures : t.measures ≡ u.measures = h.measures_are ∙ sym k.measures_are in
      let filters : t.filters ≡ u.filters = one_filters _ t.filters u.filters h.filters_are k.filters_are in
      let datagroup : t.datagroup ≡ u.datagroup = h.datagroup_is ∙ sym k.datagroup_is in
      let entries : t.entries ≡ u.entries = h.entries_are ∙ sym k.entries_are in
      let first : t.first ≡ u.first = h.first_is ∙ sym k.first_is in
      (λ i. record {
        name = name_is i;
        dimensions = dimensions i;
        measures = measures i;
        filters = filters i;
        datagroup = datagroup i;
        entries = entries i;
        first = first i;
      })

  one_rollups : (items : List Item) (ts us : List AggregateTable) → AreRollups items ts → AreRollups items us → ts ≡ us
  one_rollups [] [] [] h k = refl
  one_rollups [] [] (u ∷ us) h k = absurd k
  one_rollups [] (t ∷ ts) us h k = absurd h
  one_rollups (item ∷ items) [] us h k = absurd h
  one_rollups (item ∷ items) (t ∷ ts) [] h k = absurd k
  one_rollups (item ∷ items) (t ∷ ts) (u ∷ us) h k =
      let head = one_rollup (block_name item) (block_items item) t u h.0 k.0 in
      let tail = one_rollups items ts us h.1 k.1 in
      (λ i. head i ∷ tail i)

  -- ---- explores

  pub one_explore : (name : List ℕ) (items : List Item) (x y : DeclaredExplore) → IsExplore name items x → IsExplore name items y → x ≡ y
  one_explore name items x y h k =
      let name_is : x.name ≡ y.name = h.name_is ∙ sym k.name_is in
      let base : x.base ≡ y.base = h.base_is ∙ sym k.base_is in
      let joins : x.joins ≡ y.joins = one_joins (joins_in items) x.joins y.joins h.joins_are k.joins_are in
      let always : x.always_join ≡ y.always_join = h.always_join_is ∙ sym k.always_join_is in
      let filters : x.filters ≡ y.filters = one_filter_list name (filter is_filter items) x.filters y.filters h.filters_are k.filters_are in
      let rollups : x.rollups ≡ y.rollups = one_rollups (rollups_in items) x.rollups y.rollups h.rollups_are k.rollups_are in
      let first : x.first ≡ y.first = h.first_is ∙ sym k.first_is in
      (λ i. record {
        name = name_is i;
        base = base i;
        joins = joins i;
        always_join = always i;
        filters = filters i;
        rollups = rollups i;
        first = first i;
      })
