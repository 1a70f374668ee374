-- A dimension that has the kind that its shape makes of its expression is a day or a moment where it is a raw time.
use Rattle.std.proofs.Common.{◌≡◌, Bool, true, ◌&&◌, ◌||◌, List, [], ◌∷◌, refl}
use Rattle.std.specs.Prelude.{not}
use Rattle.std.specs.List.{list_all}
use Rattle.std.proofs.lemmas.Bool.{false≢true}
use Rattle.lk_types.specs.Formula.{Formula}
use Rattle.lk_types.specs.Kinds.{is_same_kind}
use Rattle.lk_types.specs.declared.explore.Field.{Field}
use Rattle.lk_types.specs.declared.explore.Shape.{Shape}
use Rattle.lk_types.specs.declared.explore.Shape.TheVariants as shape
use Rattle.lk_types.specs.declared.kind_set.Leaves.{Leaves}
use Rattle.lk_types.specs.declared.schema.Frame.TheVariants as frame
use Rattle.lk_types.specs.declared.schema.Kind.{Kind}
use Rattle.lk_types.specs.declared.schema.Kind.TheVariants as kind
use Rattle.lk_semantics.specs.Resolved.{has_shape_kind, has_tiers, is_settled, is_time_kind, is_typed_field, settled_kind}
use Rattle.lk_semantics.proofs.EveryLaws.{both, first, second}
use Rattle.lk_model_laws.specs.Typed.{is_raw, is_time_if_raw}

same_time : (k base : Kind) → is_same_kind k base ≡ true → is_time_kind base ≡ true → is_time_kind k ≡ true
same_time kind.Day base h time = refl
same_time kind.Moment base h time = refl
same_time kind.Text kind.Text h time = absurd (false≢true time)
same_time kind.Text kind.Number h time = absurd (false≢true h)
same_time kind.Text kind.Truth h time = absurd (false≢true h)
same_time kind.Text kind.Day h time = absurd (false≢true h)
same_time kind.Text kind.Moment h time = absurd (false≢true h)
same_time kind.Number kind.Text h time = absurd (false≢true h)
same_time kind.Number kind.Number h time = absurd (false≢true time)
same_time kind.Number kind.Truth h time = absurd (false≢true h)
same_time kind.Number kind.Day h time = absurd (false≢true h)
same_time kind.Number kind.Moment h time = absurd (false≢true h)
same_time kind.Truth kind.Text h time = absurd (false≢true h)
same_time kind.Truth kind.Number h time = absurd (false≢true h)
same_time kind.Truth kind.Truth h time = absurd (false≢true time)
same_time kind.Truth kind.Day h time = absurd (false≢true h)
same_time kind.Truth kind.Moment h time = absurd (false≢true h)

module _ (leaves : Leaves) where
  shape_time : (s : Shape) (k : Kind) (e : Formula) → has_shape_kind leaves s k e ≡ true → (not (is_raw s) || is_time_kind k) ≡ true
  shape_time shape.Plain k e h = refl
  shape_time (shape.Tier bounds) k e h = refl
  shape_time (shape.Frame group frame.Raw) k e h =
      let base = settled_kind leaves kind.Moment e in
      same_time k base (second (is_time_kind base && is_settled leaves kind.Moment base e) (is_same_kind k base) h)
      (first (is_time_kind base) (is_settled leaves kind.Moment base e) (first (is_time_kind base && is_settled leaves kind.Moment base e) (is_same_kind k base) h))
  shape_time (shape.Frame group frame.Time) k e h = refl
  shape_time (shape.Frame group frame.Date) k e h = refl
  shape_time (shape.Frame group frame.Week) k e h = refl
  shape_time (shape.Frame group frame.Month) k e h = refl
  shape_time (shape.Frame group frame.Quarter) k e h = refl
  shape_time (shape.Frame group frame.Year) k e h = refl
  shape_time (shape.Frame group frame.HourOfDay) k e h = refl
  shape_time (shape.Frame group frame.DayOfWeek) k e h = refl
  shape_time (shape.Frame group frame.DayOfMonth) k e h = refl
  shape_time (shape.Frame group frame.MonthNum) k e h = refl

  pub typed_time : (f : Field) → is_typed_field leaves f ≡ true → is_time_if_raw f ≡ true
  typed_time f h = shape_time f.shape f.kind f.expr (second (has_tiers f.shape) (has_shape_kind leaves f.shape f.kind f.expr) h)

-- where one test follows from another, it passes all that pass that
pub every_more : {A : Type 0} (t u : A → Bool) → ((x : A) → t x ≡ true → u x ≡ true) → (xs : List A) → list_all t xs ≡ true → list_all u xs ≡ true
every_more t u f [] h = refl
every_more t u f (x ∷ xs) h = both (u x) (list_all u xs) (f x (first (t x) (list_all t xs) h)) (every_more t u f xs (second (t x) (list_all t xs) h))
