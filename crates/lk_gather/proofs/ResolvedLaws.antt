-- An explore of a resolved model has what answering asks of it.
use Rattle.std.proofs.Common.{◌≡◌, ℕ, Bool, true, ◌&&◌, ℤ, List, [], ◌∷◌, length, refl, arith}
use Rattle.std.specs.Prelude.{◌+◌, Option, Some, None, neg_ℤ, pos, int_le, int_lt, nat_eq}
use Rattle.std.specs.List.{list_all}
use Rattle.std.proofs.lemmas.Bool.{false≢true}
use Rattle.lk_types.specs.Dates.{are_literals_dated}
use Rattle.lk_types.specs.Formula.{Formula}
use Rattle.lk_types.specs.declared.explore.Explore.{Explore}
use Rattle.lk_types.specs.declared.explore.Field.{Field}
use Rattle.lk_types.specs.declared.explore.Join.{Join}
use Rattle.lk_types.specs.declared.explore.JoinKind.{JoinKind}
use Rattle.lk_types.specs.declared.explore.JoinKind.TheVariants.{Left, Full, Inner, Cross}
use Rattle.lk_types.specs.declared.explore.Measure.{Measure}
use Rattle.lk_types.specs.declared.explore.Op.{Op}
use Rattle.lk_types.specs.declared.explore.Op.TheVariants as op
use Rattle.lk_types.specs.declared.explore.Part.{Part}
use Rattle.lk_types.specs.declared.explore.Relation.{Relation}
use Rattle.lk_types.specs.declared.explore.Shape.{Shape}
use Rattle.lk_types.specs.declared.explore.Shape.TheVariants as shape
use Rattle.lk_types.specs.declared.kind_set.Leaves.{Leaves}
use Rattle.lk_types.specs.declared.model.Model.{Model}
use Rattle.lk_types.specs.declared.schema.Kind.{Kind}
use Rattle.lk_types.specs.declared.schema.Kind.TheVariants as kind
use Rattle.lk_semantics.specs.DatedRows.{are_joins_dated, is_condition_dated}
use Rattle.lk_semantics.specs.Reading.{leaves_of}
use Rattle.lk_semantics.specs.Resolved.{IsResolvedExplore, are_tiers, has_operands, has_own_kind, has_shape_kind, has_tiers, has_typed_key, is_no_formula, is_none_or_typed, is_some_known, is_some_settled, is_some_typed, is_typed_field, is_typed_join, is_typed_measure, names_numbers}
use Rattle.lk_semantics.proofs.EveryLaws.{both, first, second}
use Rattle.lk_derived.proofs.DatedModels.{field-typed, implied, measure-typed, no_formula, some_known, some_typed}
use Rattle.lk_gather.specs.Dims.{has_bounds, is_bound, is_fine_field}
use Rattle.lk_gather.specs.Measures.{is_fine_explore, is_fine_measure, is_fine_part}

-- ---- fields

bounds : (bs : List ℤ) → are_tiers bs ≡ true → list_all is_bound bs ≡ true
bounds [] h = absurd (false≢true h)
bounds (b ∷ []) h = both (is_bound b) true h refl
bounds (b ∷ c ∷ bs) h =
    both (is_bound b) (list_all is_bound (c ∷ bs)) (grind (arith, first (int_le (neg_ℤ (pos 922337203685477)) b && int_lt b c) (are_tiers (c ∷ bs)) h, bounds (c ∷ bs) (second (int_le (neg_ℤ (pos 922337203685477)) b && int_lt b c) (are_tiers (c ∷ bs)) h)))
    (bounds (c ∷ bs) (second (int_le (neg_ℤ (pos 922337203685477)) b && int_lt b c) (are_tiers (c ∷ bs)) h))

shape_bounds : (s : Shape) → has_tiers s ≡ true → has_bounds s ≡ true
shape_bounds shape.Plain h = refl
shape_bounds (shape.Tier bs) h = bounds bs h
shape_bounds (shape.Frame group frame) h = refl

field_fine : (leaves : Leaves) (f : Field) → is_typed_field leaves f ≡ true → is_fine_field f ≡ true
field_fine leaves f h =
    both (has_bounds f.shape) (are_literals_dated f.expr)
    (shape_bounds f.shape (first (has_tiers f.shape) (has_shape_kind leaves f.shape f.kind f.expr) h)) (field-typed leaves f h)

-- ---- measures

key_dated : (leaves : Leaves) (o : Op) (k : Kind) (v key : Option Formula) → has_operands leaves o k v key ≡ true → is_condition_dated key ≡ true
key_dated leaves op.Count k v key h = no_formula key (second (is_no_formula v) (is_no_formula key) h)
key_dated leaves op.Number k v key h = no_formula key (second (is_no_formula v) (is_no_formula key) h)
key_dated leaves op.CountDistinct k v key h = no_formula key (second (is_some_known leaves v) (is_no_formula key) h)
key_dated leaves op.Min k v key h = no_formula key (second (is_some_settled leaves kind.Text k v) (is_no_formula key) h)
key_dated leaves op.Max k v key h = no_formula key (second (is_some_settled leaves kind.Text k v) (is_no_formula key) h)
key_dated leaves op.Sum k v key h = no_formula key (second (is_some_typed leaves kind.Number v) (is_no_formula key) h)
key_dated leaves op.Average k v key h = no_formula key (second (is_some_typed leaves kind.Number v) (is_no_formula key) h)
key_dated leaves op.SumDistinct k v key h = some_known leaves key (second (is_some_typed leaves kind.Number v) (is_some_known leaves key) h)
key_dated leaves op.AverageDistinct k v key h = some_known leaves key (second (is_some_typed leaves kind.Number v) (is_some_known leaves key) h)

measure_fine : (leaves : Leaves) (n : Measure) → is_typed_measure leaves n ≡ true → is_fine_measure n ≡ true
measure_fine leaves n h =
    both (is_condition_dated n.value) (is_condition_dated n.key) (measure-typed leaves n h)
    (key_dated leaves n.op n.kind n.value n.key
    (first (has_operands leaves n.op n.kind n.value n.key) (has_own_kind n.op n.kind) (first (has_operands leaves n.op n.kind n.value n.key && has_own_kind n.op n.kind) _ h)))

-- ---- keys of views, and conditions of joins

part_fine : (leaves : Leaves) (part : Part) → has_typed_key leaves part ≡ true → is_fine_part part ≡ true
part_fine leaves part h = key_fine part.origin part.key part.enforced h where
  key_fine : (origin : _) (key : Option Formula) (enforced : Option ℕ) → has_typed_key leaves (record { name = part.name; origin = origin; key = key; enforced = enforced }) ≡ true → is_condition_dated key ≡ true
  key_fine origin None enforced h = refl
  key_fine origin (Some e) enforced h = some_known leaves (Some e) h

on_dated : (leaves : Leaves) (k : JoinKind) (relation : Relation) (on : Option Formula) (required : List ℕ)
    → is_typed_join leaves (record { kind = k; relation = relation; on = on; required = required }) ≡ true → is_condition_dated on ≡ true
on_dated leaves Left relation on required h = some_typed leaves kind.Truth on h
on_dated leaves Full relation on required h = some_typed leaves kind.Truth on h
on_dated leaves Inner relation on required h = some_typed leaves kind.Truth on h
on_dated leaves Cross relation None required h = refl
on_dated leaves Cross relation (Some e) required h = absurd (false≢true h)

join_dated : (leaves : Leaves) (join : Join) → is_typed_join leaves join ≡ true → is_condition_dated join.on ≡ true
join_dated leaves join h = on_dated leaves join.kind join.relation join.on join.required h

-- ---- the explore

equal_of : (m n : ℕ) → nat_eq m n ≡ true → m ≡ n
equal_of m n h = grind arith

module _ (m : Model) (x : Explore) (resolved : IsResolvedExplore m x) where
  pub one_more : length x.parts ≡ length x.joins + 1
  one_more = equal_of (length x.parts) (length x.joins + 1) resolved.parts

  abbrev keys : Bool
  keys = list_all (has_typed_key (leaves_of m x)) x.parts

  abbrev joins : Bool
  joins = list_all (is_typed_join (leaves_of m x)) x.joins

  abbrev fields : Bool
  fields = list_all (is_typed_field (leaves_of m x)) x.fields

  abbrev measures : Bool
  measures = list_all (is_typed_measure (leaves_of m x)) x.measures

  to_measures : (keys && joins && fields && measures) ≡ true
  to_measures =
      first (keys && joins && fields && measures) (list_all (names_numbers x) x.measures)
      (first (keys && joins && fields && measures && list_all (names_numbers x) x.measures) (is_none_or_typed (leaves_of m x) kind.Truth x.always_where) resolved.typed)

  to_joins : (keys && joins) ≡ true
  to_joins = first (keys && joins) fields (first (keys && joins && fields) measures to_measures)

  pub all_joins : are_joins_dated x ≡ true
  all_joins = implied (is_typed_join (leaves_of m x)) (λ join. is_condition_dated join.on) (join_dated (leaves_of m x)) x.joins (second keys joins to_joins)

  pub all_fine : is_fine_explore x ≡ true
  unfolding is_fine_explore
  all_fine =
      both (list_all is_fine_field x.fields) (list_all is_fine_measure x.measures && list_all is_fine_part x.parts)
      (implied (is_typed_field (leaves_of m x)) is_fine_field (field_fine (leaves_of m x)) x.fields (second (keys && joins) fields (first (keys && joins && fields) measures to_measures)))
      (both (list_all is_fine_measure x.measures) (list_all is_fine_part x.parts)
      (implied (is_typed_measure (leaves_of m x)) is_fine_measure (measure_fine (leaves_of m x)) x.measures (second (keys && joins && fields) measures to_measures))
      (implied (has_typed_key (leaves_of m x)) is_fine_part (part_fine (leaves_of m x)) x.parts (first keys joins to_joins)))
