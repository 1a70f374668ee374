-- The rows of a model's derived tables are dated.
use Rattle.std.proofs.Common.{◌≡◌, ℕ, zero, suc, Bool, true, false, ◌&&◌, List, [], ◌∷◌, map, length, refl}
use Rattle.std.specs.Prelude.{Option, Some, None, not, ◌||◌}
use Rattle.std.specs.List.{list_any, list_all, AllByRecursion}
use Rattle.std.proofs.lemmas.Bool.{false≢true}
use Rattle.lk_types.specs.Formula.{Formula}
use Rattle.lk_types.specs.Tables.{Rows}
use Rattle.lk_types.specs.Dates.{is_dated, is_row_dated, are_literals_dated}
use Rattle.lk_types.specs.Kinds.{kinds_of, has_kind, is_empty, is_same_kind}
use Rattle.lk_types.specs.declared.explore.Shape.{Shape}
use Rattle.lk_types.specs.declared.explore.Shape.TheVariants as shape
use Rattle.lk_semantics.specs.DatedRows.{are_rows_dated, are_sources_dated, is_condition_dated}
use Rattle.lk_semantics.specs.Reading.{leaves_of}
use Rattle.lk_semantics.specs.Resolved.{IsResolved, IsResolvedExplore, is_typed_explore, has_typed_key, is_typed_join, is_typed_field, is_typed_measure, has_operands, has_own_kind, is_no_formula, is_some_known, is_some_typed, is_typed, is_settled, is_some_settled, settled_kind, is_type_kind, is_time_kind, has_shape_kind, names_numbers, has_tiers}
use Rattle.lk_types.specs.declared.schema.Kind.{Kind}
use Rattle.lk_types.specs.declared.schema.Kind.TheVariants as kind
use Rattle.lk_types.specs.declared.kind_set.Leaves.{Leaves}
use Rattle.lk_types.specs.declared.explore.Field.{Field}
use Rattle.lk_types.specs.declared.explore.Measure.{Measure}
use Rattle.lk_types.specs.declared.explore.Op.{Op}
use Rattle.lk_types.specs.declared.explore.Op.TheVariants as op
use Rattle.lk_semantics.specs.Joins.{joined_rows, is_met}
use Rattle.lk_semantics.specs.Rows.{passes_all, passing_rows}
use Rattle.lk_semantics.specs.Answers.{dims_of, query_components, rows_grouped, lines_of}
use Rattle.lk_semantics.specs.Derived.{explore_at, no_explore, derived_query, value_of_cell, derived_rows, derived_within}
use Rattle.lk_semantics.proofs.EveryLaws.{Every, both, first, second, every-filter, every-at, every-map}
use Rattle.lk_semantics.proofs.DatedLaws.{joined_rows-dated}
use Rattle.lk_derived.specs.DatedExplores.{is_explore_dated}
use Rattle.lk_derived.proofs.DatedAnswers.{is_cell_dated, is_group_dated, answer-dated}
use Rattle.lk_types.specs.declared.rows.Sources.{Sources}
use Rattle.lk_types.specs.declared.explore.Explore.{Explore}
use Rattle.lk_types.specs.declared.model.Derived.{Derived}
use Rattle.lk_types.specs.declared.model.Model.{Model}

module _ (m : Model) (explores : Every is_explore_dated m.explores) where
  abbrev over : Derived → Explore
  over d = explore_at m d.explore

  over-dated : (d : Derived) → is_explore_dated (over d) ≡ true
  over-dated d = every-at is_explore_dated m.explores d.explore no_explore explores refl

  rows-dated : (s : Sources) → are_sources_dated s ≡ true → (d : Derived) → are_rows_dated (derived_rows m s d) ≡ true
  rows-dated s dated d =
      let q = derived_query (over d) d in
      let joined = joined_rows (over d) s q.joins in
      let passing = passing_rows (over d) q.rows joined in
      every-map (list_all is_dated) is_group_dated (λ line. map value_of_cell line.cells)
      (λ line h. every-map is_dated is_cell_dated value_of_cell (λ c e. e) line.cells (second (list_all is_dated line.group) (list_all is_cell_dated line.cells) h))
      (lines_of (over d) q (rows_grouped (over d) (dims_of q.picks) (query_components (over d) q) passing))
      (answer-dated (over d) (over-dated d) q passing
      (every-filter is_row_dated (λ row. is_met (over d).always_where row && passes_all (over d) q.rows row) joined (joined_rows-dated (over d) s dated q.joins)))

  all_tables : (ds : List Derived) → Every (λ d. true) ds
  all_tables [] = refl
  all_tables (d ∷ ds) = all_tables ds

  module _ (stored : List Rows) (dated : Every are_rows_dated stored) where
    rounds-dated : (n : ℕ) → Every are_rows_dated (derived_within m stored n)
    rounds-dated zero = refl
    rounds-dated (suc n) =
        every-map are_rows_dated (λ d. true) (derived_rows m (record { stored = stored; derived = derived_within m stored n }))
        (λ d _. rows-dated (record { stored = stored; derived = derived_within m stored n }) (both (list_all are_rows_dated stored) _ dated (rounds-dated n)) d) m.derived (all_tables m.derived)

    pub sources-dated : are_sources_dated (record { stored = stored; derived = derived_within m stored (length m.derived) }) ≡ true
    sources-dated = both (list_all are_rows_dated stored) _ dated (rounds-dated (length m.derived))

-- ---- what is typed is dated

some_kind : {A : Type 0} (p : A → Bool) (q : Bool) → ((k : A) → p k ≡ true → q ≡ true) → (ks : List A) → list_any p ks ≡ true → q ≡ true
some_kind p q f [] h = absurd (false≢true h)
some_kind p q f (k ∷ ks) h = elim (p k) as (λ b. p k ≡ b → (b || list_any p ks) ≡ true → q ≡ true) [ true ↦ λ pk _. f k pk | false ↦ λ _ later. some_kind p q f ks later ] refl h

pub some_typed : (leaves : Leaves) (k : Kind) (e : Option Formula) → is_some_typed leaves k e ≡ true → is_condition_dated e ≡ true
some_typed leaves k None h = refl
some_typed leaves k (Some e) h = second (has_kind k (kinds_of leaves e)) (are_literals_dated e) h

some_settled : (leaves : Leaves) (default k : Kind) (e : Option Formula) → is_some_settled leaves default k e ≡ true → is_condition_dated e ≡ true
some_settled leaves default k None h = refl
some_settled leaves default k (Some e) h = second (not (is_empty (kinds_of leaves e)) && is_same_kind k (settled_kind leaves default e)) (are_literals_dated e) h

pub some_known : (leaves : Leaves) (e : Option Formula) → is_some_known leaves e ≡ true → is_condition_dated e ≡ true
some_known leaves e h = some_kind (λ k. is_some_typed leaves k e) (is_condition_dated e) (λ k. some_typed leaves k e) (kind.Text ∷ kind.Number ∷ kind.Truth ∷ kind.Day ∷ kind.Moment ∷ []) h

pub no_formula : (e : Option Formula) → is_no_formula e ≡ true → is_condition_dated e ≡ true
no_formula None h = refl
no_formula (Some e) h = absurd (false≢true h)

pub operands : (leaves : Leaves) (o : Op) (k : Kind) (v key : Option Formula) → has_operands leaves o k v key ≡ true → is_condition_dated v ≡ true
operands leaves op.Count k v key h = no_formula v (first (is_no_formula v) (is_no_formula key) h)
operands leaves op.Number k v key h = no_formula v (first (is_no_formula v) (is_no_formula key) h)
operands leaves op.CountDistinct k v key h = some_known leaves v (first (is_some_known leaves v) (is_no_formula key) h)
operands leaves op.Min k v key h = some_settled leaves kind.Text k v (first (is_some_settled leaves kind.Text k v) (is_no_formula key) h)
operands leaves op.Max k v key h = some_settled leaves kind.Text k v (first (is_some_settled leaves kind.Text k v) (is_no_formula key) h)
operands leaves op.Sum k v key h = some_typed leaves kind.Number v (first (is_some_typed leaves kind.Number v) (is_no_formula key) h)
operands leaves op.Average k v key h = some_typed leaves kind.Number v (first (is_some_typed leaves kind.Number v) (is_no_formula key) h)
operands leaves op.SumDistinct k v key h = some_typed leaves kind.Number v (first (is_some_typed leaves kind.Number v) (is_some_known leaves key) h)
operands leaves op.AverageDistinct k v key h = some_typed leaves kind.Number v (first (is_some_typed leaves kind.Number v) (is_some_known leaves key) h)

pub implied : {A : Type 0} (t u : A → Bool) → ((x : A) → t x ≡ true → u x ≡ true) → (xs : List A) → Every t xs → Every u xs
implied t u f [] h = refl
implied t u f (x ∷ xs) h = both (u x) (list_all u xs) (f x (first (t x) (list_all t xs) h)) (implied t u f xs (second (t x) (list_all t xs) h))

shape-typed : (leaves : Leaves) (s : Shape) (k : Kind) (e : Formula) → has_shape_kind leaves s k e ≡ true → are_literals_dated e ≡ true
shape-typed leaves shape.Plain k e h = second (has_kind k (kinds_of leaves e)) (are_literals_dated e) (second (is_type_kind k) (is_typed leaves k e) h)
shape-typed leaves (shape.Tier bounds) k e h = second (has_kind kind.Number (kinds_of leaves e)) (are_literals_dated e) (second (is_same_kind k kind.Number) (is_typed leaves kind.Number e) h)
shape-typed leaves (shape.Frame group frame) k e h =
    let base = settled_kind leaves kind.Moment e in
    second (not (is_empty (kinds_of leaves e)) && is_same_kind base (settled_kind leaves kind.Moment e)) (are_literals_dated e)
    (second (is_time_kind base) (is_settled leaves kind.Moment base e) (first (is_time_kind base && is_settled leaves kind.Moment base e) _ h))

pub field-typed : (leaves : Leaves) (f : Field) → is_typed_field leaves f ≡ true → are_literals_dated f.expr ≡ true
field-typed leaves f h = shape-typed leaves f.shape f.kind f.expr (second (has_tiers f.shape) (has_shape_kind leaves f.shape f.kind f.expr) h)

pub measure-typed : (leaves : Leaves) (n : Measure) → is_typed_measure leaves n ≡ true → is_condition_dated n.value ≡ true
measure-typed leaves n h = operands leaves n.op n.kind n.value n.key (first (has_operands leaves n.op n.kind n.value n.key) _ (first (has_operands leaves n.op n.kind n.value n.key && has_own_kind n.op n.kind) _ h))

explore-typed : (m : Model) (x : Explore) → is_typed_explore m x ≡ true → is_explore_dated x ≡ true
explore-typed m x h =
    let to_measures = first _ (list_all (names_numbers x) x.measures) (first (list_all (has_typed_key (leaves_of m x)) x.parts && list_all (is_typed_join (leaves_of m x)) x.joins && list_all (is_typed_field (leaves_of m x)) x.fields && list_all (is_typed_measure (leaves_of m x)) x.measures && list_all (names_numbers x) x.measures) _ h) in
    let to_fields = first (list_all (has_typed_key (leaves_of m x)) x.parts && list_all (is_typed_join (leaves_of m x)) x.joins && list_all (is_typed_field (leaves_of m x)) x.fields) (list_all (is_typed_measure (leaves_of m x)) x.measures) to_measures in
    both (list_all (λ f. are_literals_dated f.expr) x.fields) _
    (implied (is_typed_field (leaves_of m x)) (λ f. are_literals_dated f.expr) (field-typed (leaves_of m x)) x.fields (second (list_all (has_typed_key (leaves_of m x)) x.parts && list_all (is_typed_join (leaves_of m x)) x.joins) (list_all (is_typed_field (leaves_of m x)) x.fields) to_fields))
    (implied (is_typed_measure (leaves_of m x)) (λ n. is_condition_dated n.value) (measure-typed (leaves_of m x)) x.measures
    (second (list_all (has_typed_key (leaves_of m x)) x.parts && list_all (is_typed_join (leaves_of m x)) x.joins && list_all (is_typed_field (leaves_of m x)) x.fields) (list_all (is_typed_measure (leaves_of m x)) x.measures) to_measures))

explores-typed : (m : Model) (xs : List Explore) → AllByRecursion (IsResolvedExplore m) xs → Every is_explore_dated xs
explores-typed m [] h = refl
explores-typed m (x ∷ xs) h = both (is_explore_dated x) (list_all is_explore_dated xs) (explore-typed m x h.0.typed) (explores-typed m xs h.1)

pub resolved-dated : (m : Model) → IsResolved m → Every is_explore_dated m.explores
resolved-dated m r = explores-typed m m.explores r.explores
