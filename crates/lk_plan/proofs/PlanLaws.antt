-- A plan's conditions are true on the rows that pass.
use Rattle.std.proofs.Common.{◌≡◌, ℕ, true, ◌&&◌, List, [], ◌∷◌, ◌++◌, Option, Some, None, refl, sym, ap, subst, ◌∙◌}
use Rattle.std.specs.List.{list_all}
use Rattle.lk_types.specs.Dates.{are_literals_dated, is_row_dated}
use Rattle.lk_types.specs.Expressions.{value_of}
use Rattle.lk_types.specs.Filters.{passes}
use Rattle.lk_types.specs.Formula.{Formula}
use Rattle.lk_types.specs.Kinds.{HasKinds, has_kind, kinds_of}
use Rattle.lk_types.specs.Tables.{is_of_kind}
use Rattle.lk_types.specs.declared.bound.Bound.{Bound}
use Rattle.lk_types.specs.declared.explore.Explore.{Explore}
use Rattle.lk_types.specs.declared.filter.Filter.{Filter}
use Rattle.lk_types.specs.declared.model.Model.{Model}
use Rattle.lk_types.specs.declared.rows.Joined.{Joined}
use Rattle.lk_types.specs.declared.schema.Kind.TheVariants as kind
use Rattle.lk_eval.proofs.DateLaws.{value_of-dated}
use Rattle.lk_semantics.specs.DatedRows.{is_condition_dated}
use Rattle.lk_semantics.specs.Joins.{is_met}
use Rattle.lk_semantics.specs.Reading.{leaves_of}
use Rattle.lk_semantics.specs.Resolved.{IsResolvedExplore, has_shape_kind, has_tiers, is_none_or_typed, is_typed_field}
use Rattle.lk_semantics.specs.Rows.{dim_value, field_at, no_field, passes_all}
use Rattle.lk_semantics.proofs.EveryLaws.{every-at}
use Rattle.lk_plan.specs.Joining.{listed}
use Rattle.lk_plan.specs.FieldFormulas.{field_formula}
use Rattle.lk_plan.specs.Conditions.{condition_on, filter_conditions, passing_condition, visible_condition}
use Rattle.lk_plan.proofs.JoiningLaws.{left, right, all-append, holds_all, holds_of}
use Rattle.lk_plan.proofs.FilterLaws.{filter_is, listed_met}
use Rattle.lk_plan.proofs.LiteralLaws.{all_dated, all_of_dated, filter_dated, listed_dated, shaped_dated}
use Rattle.lk_plan.proofs.FieldLaws.{shape_dated, shaped_is, shaped_kind_is}
use Rattle.lk_plan.proofs.ResolvedLaws.{fields, hidden}

module _ (m : Model) (x : Explore) (resolved : IsResolvedExplore m x) where
  -- the field of a number, past the end too
  typed : (f : ℕ) → is_typed_field (leaves_of m x) (field_at x f) ≡ true
  typed f = every-at (is_typed_field (leaves_of m x)) x.fields f no_field (fields m x resolved) refl

  shape : (f : ℕ) → has_shape_kind (leaves_of m x) (field_at x f).shape (field_at x f).kind (field_at x f).expr ≡ true
  shape f = right (has_tiers (field_at x f).shape) (has_shape_kind (leaves_of m x) (field_at x f).shape (field_at x f).kind (field_at x f).expr) (typed f)

  tiers : (f : ℕ) → has_tiers (field_at x f).shape ≡ true
  tiers f = left (has_tiers (field_at x f).shape) (has_shape_kind (leaves_of m x) (field_at x f).shape (field_at x f).kind (field_at x f).expr) (typed f)

  -- ---- the literals

  formula_dated : (f : ℕ) → are_literals_dated (field_formula (field_at x f)) ≡ true
  formula_dated f =
      let g = field_at x f in
      shaped_dated g.expr (shape_dated (leaves_of m x) g.shape g.kind g.expr (shape f)) g.shape g.kind

  conditions_dated : (filters : List (ℕ × Filter)) → list_all are_literals_dated (filter_conditions x filters) ≡ true
  conditions_dated [] = refl
  conditions_dated (f ∷ filters) =
      all_dated (listed (condition_on x f)) (filter_conditions x filters)
      (listed_dated (condition_on x f) (filter_dated (field_formula (field_at x f.0)) (formula_dated f.0) (field_at x f.0).kind f.1)) (conditions_dated filters)

  hidden_dated : is_condition_dated x.always_where ≡ true
  hidden_dated = of x.always_where (hidden m x resolved)
    where
      of : (e : Option Formula) → is_none_or_typed (leaves_of m x) kind.Truth e ≡ true → is_condition_dated e ≡ true
      of None h = refl
      of (Some e) h = right (has_kind kind.Truth (kinds_of (leaves_of m x) e)) (are_literals_dated e) h

  pub visible_dated : (b : Bound) → are_literals_dated (visible_condition x b) ≡ true
  visible_dated b = all_of_dated (filter_conditions x b.access) (conditions_dated b.access)

  pub passing_dated : (b : Bound) → are_literals_dated (passing_condition x b) ≡ true
  passing_dated b =
      all_of_dated (listed x.always_where ++ filter_conditions x b.rows)
      (all_dated (listed x.always_where) (filter_conditions x b.rows) (listed_dated x.always_where hidden_dated) (conditions_dated b.rows))

  -- ---- a row

  module _ (row : Joined) (has : HasKinds (leaves_of m x) row) where
    pub field_is : (f : ℕ) → value_of (field_formula (field_at x f)) row ≡ dim_value x row f
    field_is f = let g = field_at x f in shaped_is (leaves_of m x) row has g.shape g.kind g.expr (tiers f) (shape f)

    of_kind : (f : ℕ) → is_of_kind (field_at x f).kind (value_of (field_formula (field_at x f)) row) ≡ true
    of_kind f =
        let g = field_at x f in
        subst (λ v. is_of_kind g.kind v ≡ true) (sym (field_is f)) (shaped_kind_is (leaves_of m x) row has g.shape g.kind g.expr (shape f))

    module _ (dated : is_row_dated row ≡ true) where
      condition_is : (f : ℕ × Filter) → is_met (condition_on x f) row ≡ passes f.1 (dim_value x row f.0)
      condition_is f =
          filter_is (field_formula (field_at x f.0)) row (field_at x f.0).kind (of_kind f.0) (value_of-dated (field_formula (field_at x f.0)) row dated (formula_dated f.0)) f.1
          ∙ ap (passes f.1) (field_is f.0)

      conditions_are : (filters : List (ℕ × Filter)) → list_all (holds_of row) (filter_conditions x filters) ≡ passes_all x filters row
      conditions_are [] = refl
      conditions_are (f ∷ filters) =
          all-append (holds_of row) (listed (condition_on x f)) (filter_conditions x filters)
          ∙ (λ i. (listed_met row (condition_on x f) ∙ condition_is f) i && conditions_are filters i)

      pub visible_is : (b : Bound) → holds_of row (visible_condition x b) ≡ passes_all x b.access row
      visible_is b = holds_all row (filter_conditions x b.access) ∙ conditions_are b.access

      pub passing_is : (b : Bound) → holds_of row (passing_condition x b) ≡ (is_met x.always_where row && passes_all x b.rows row)
      passing_is b =
          holds_all row (listed x.always_where ++ filter_conditions x b.rows)
          ∙ all-append (holds_of row) (listed x.always_where) (filter_conditions x b.rows)
          ∙ (λ i. listed_met row x.always_where i && conditions_are b.rows i)
