-- Fields and filters on fields, ready to be computed on joined rows.
use Rattle.std.specs.Prelude.{◌≡◌, ℕ, Bool, true, ◌&&◌, List, [], ◌∷◌, ℤ, pos, neg_ℤ, int_le}
use Rattle.std.specs.List.{list_all}
use Rattle.lk_val.specs.declared.value.Value.{Value}
use Rattle.lk_types.specs.Dates.{are_literals_dated}
use Rattle.lk_types.specs.Expressions.{value_of}
use Rattle.lk_types.specs.Filters.{passes}
use Rattle.lk_types.specs.Shapes.{shaped, tier_of, yes_or_no}
use Rattle.lk_types.specs.declared.explore.Explore.{Explore}
use Rattle.lk_types.specs.declared.explore.Field.{Field}
use Rattle.lk_types.specs.declared.explore.Shape.{Shape}
use Rattle.lk_types.specs.declared.explore.Shape.TheVariants as shape
use Rattle.lk_types.specs.declared.filter.Filter.{Filter}
use Rattle.lk_types.specs.declared.rows.Joined.{Joined}
use Rattle.lk_semantics.specs.Rows.{field_at}
use Rattle.lk_gather.specs.declared.dims.Dim.{Dim}
use Rattle.lk_gather.specs.declared.dims.Finish.{Finish}
use Rattle.lk_gather.specs.declared.dims.Finish.TheVariants as finish
use Rattle.lk_gather.specs.declared.dims.FieldTest.{FieldTest}
use Rattle.lk_gather.specs.Moments.{filter_of}

-- ---- what an explore's fields have to be

-- a tier's bound that is a number of a column
abbrev pub is_bound : ℤ → Bool
is_bound b = int_le (neg_ℤ (pos 922337203685477)) b && int_le b (pos 922337203685477)

abbrev pub has_bounds : Shape → Bool
has_bounds shape.Plain = true
has_bounds (shape.Tier bounds) = list_all is_bound bounds
has_bounds (shape.Frame group frame) = true

-- a field whose tiers are numbers of a column, and whose literals are of the years 1 to 9999
abbrev pub is_fine_field : Field → Bool
is_fine_field f = has_bounds f.shape && are_literals_dated f.expr

-- ---- fields

-- what is made of the value of a field's expression
abbrev pub finished : Finish → Value → Value
finished finish.Same v = v
finished finish.YesNo v = yes_or_no v
finished (finish.Tier bounds) v = tier_of bounds.now v

abbrev pub has_fine_finish : Finish → Bool
has_fine_finish finish.Same = true
has_fine_finish finish.YesNo = true
has_fine_finish (finish.Tier bounds) = list_all is_bound bounds.now

abbrev pub dim_of : Dim → Joined → Value
dim_of d row = finished d.finish (value_of d.expr row)

-- it can be computed on rows whose days and moments are of the years 1 to 9999
abbrev pub is_fine_dim : Dim → Bool
is_fine_dim d = has_fine_finish d.finish && are_literals_dated d.expr

-- it gives on each row what is grouped and filtered of a field
pub record IsDim (f : Field) (d : Dim) : Type 0 where
  pub value : (row : Joined) → dim_of d row ≡ shaped f.shape f.kind (value_of f.expr row)
  pub fine : is_fine_dim d ≡ true

-- and each of some that of a field
abbrev pub AreDims : Explore → List ℕ → List Dim → Type 0
AreDims x [] [] = Unit {0}
AreDims x (f ∷ fs) (d ∷ ds) = IsDim (field_at x f) d × AreDims x fs ds
AreDims x fs ds = ⊥

-- ---- filters on fields

abbrev pub is_met_by : Joined → FieldTest → Bool
is_met_by row t = passes (filter_of t.filter) (dim_of t.dim row)

-- it is the test of a filter: it passes the same values of the field
pub record IsTest (x : Explore) (f : ℕ × Filter) (t : FieldTest) : Type 0 where
  pub dim : IsDim (field_at x f.0) t.dim
  pub filter : (v : Value) → passes (filter_of t.filter) v ≡ passes f.1 v

abbrev pub AreTests : Explore → List (ℕ × Filter) → List FieldTest → Type 0
AreTests x [] [] = Unit {0}
AreTests x (f ∷ fs) (t ∷ ts) = IsTest x f t × AreTests x fs ts
AreTests x fs ts = ⊥

abbrev pub are_fine_tests : List FieldTest → Bool
are_fine_tests tests = list_all (λ t. is_fine_dim t.dim) tests
