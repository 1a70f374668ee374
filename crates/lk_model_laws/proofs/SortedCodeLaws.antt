-- A calculation stands at a measure of type number alone, and an expression at no such measure.
use Rattle.std.proofs.Common.{◌≡◌, ℕ, Bool, true, false, List, [], ◌∷◌, refl, sym, subst, Option, Some, None}
use Rattle.std.specs.List.{AllByRecursion}
use Rattle.lk_read.specs.declared.tree.Item.{Item}
use Rattle.lk_types.specs.declared.explore.Op.TheVariants as op
use Rattle.lk_types.specs.declared.schema.Schema.{Schema}
use Rattle.lk_params.specs.Known.{holds_liquid}
use Rattle.lk_params.specs.Parameters.{items_of}
use Rattle.lk_merge.specs.declared.project.Object.{Object}
use Rattle.lk_expr_place.specs.declared.judging.Grammar.TheVariants.{Expressions, Measures}
use Rattle.lk_objects.specs.declared.code.Code.{Code}
use Rattle.lk_objects.specs.declared.code.Code.TheVariants as code
use Rattle.lk_objects.specs.declared.field.DeclaredField.{DeclaredField}
use Rattle.lk_objects.specs.declared.field.FieldSort.{FieldSort}
use Rattle.lk_objects.specs.declared.field.FieldSort.TheVariants as field_sort
use Rattle.lk_objects.specs.declared.view.DeclaredView.{DeclaredView}
use Rattle.lk_formulas.specs.FieldKinds.{is_number}
use Rattle.lk_view.specs.FieldOrder.{fields_in}
use Rattle.lk_view.specs.Views.{AreFields}
use Rattle.lk_view_field.specs.Fields.{is_over_measures, sql_text}
use Rattle.lk_written.specs.Blocks.{block_items, block_name}
use Rattle.lk_written.specs.Codes.{IsCode, IsLiquidOr, IsReading}
use Rattle.lk_resolve.specs.Objects.{AreViews}

abbrev pub IsSortedCode : FieldSort → Code → Type 0
IsSortedCode s (code.Number written) = is_number s ≡ true
IsSortedCode s (code.Expr written) = is_number s ≡ false
IsSortedCode s c = Unit {0}

reading_number : (s : FieldSort) (text : List ℕ) (c : Code) → is_number s ≡ true → IsReading Measures text c → IsSortedCode s c
reading_number s text (code.Number written) is h = is
reading_number s text (code.Expr written) is h = absurd h
reading_number s text (code.Syntax place) is h = tt
reading_number s text code.Absent is h = tt
reading_number s text code.Liquid is h = tt

reading_other : (s : FieldSort) (text : List ℕ) (c : Code) → is_number s ≡ false → IsReading Expressions text c → IsSortedCode s c
reading_other s text (code.Expr written) is h = is
reading_other s text (code.Number written) is h = absurd h
reading_other s text (code.Syntax place) is h = tt
reading_other s text code.Absent is h = tt
reading_other s text code.Liquid is h = tt

abbrev Sorted : FieldSort → Type 0
Sorted s = (text : Option (List ℕ)) (c : Code) → IsCode (is_over_measures s) text c → IsSortedCode s c

number_sorted : Sorted (field_sort.Measure (Some op.Number))
number_sorted None c h = subst (IsSortedCode (field_sort.Measure (Some op.Number))) (sym h) tt
number_sorted (Some text) c h = of_liquid (holds_liquid text) h
  where
    of_liquid : (b : Bool) → IsLiquidOr b Measures text c → IsSortedCode (field_sort.Measure (Some op.Number)) c
    of_liquid true is = subst (IsSortedCode (field_sort.Measure (Some op.Number))) (sym is) tt
    of_liquid false is = reading_number (field_sort.Measure (Some op.Number)) text c refl is

other_sorted : (s : FieldSort) → is_number s ≡ false → (text : Option (List ℕ)) (c : Code) → IsCode false text c → IsSortedCode s c
other_sorted s other None c h = subst (IsSortedCode s) (sym h) tt
other_sorted s other (Some text) c h = of_liquid (holds_liquid text) h
  where
    of_liquid : (b : Bool) → IsLiquidOr b Expressions text c → IsSortedCode s c
    of_liquid true is = subst (IsSortedCode s) (sym is) tt
    of_liquid false is = reading_other s text c other is

code_sorted : (s : FieldSort) → Sorted s
code_sorted (field_sort.Dimension t) text c h = other_sorted (field_sort.Dimension t) refl text c h
code_sorted field_sort.Group text c h = other_sorted field_sort.Group refl text c h
code_sorted (field_sort.Measure None) text c h = other_sorted (field_sort.Measure None) refl text c h
code_sorted (field_sort.Measure (Some op.Count)) text c h = other_sorted (field_sort.Measure (Some op.Count)) refl text c h
code_sorted (field_sort.Measure (Some op.CountDistinct)) text c h = other_sorted (field_sort.Measure (Some op.CountDistinct)) refl text c h
code_sorted (field_sort.Measure (Some op.Sum)) text c h = other_sorted (field_sort.Measure (Some op.Sum)) refl text c h
code_sorted (field_sort.Measure (Some op.Average)) text c h = other_sorted (field_sort.Measure (Some op.Average)) refl text c h
code_sorted (field_sort.Measure (Some op.Min)) text c h = other_sorted (field_sort.Measure (Some op.Min)) refl text c h
code_sorted (field_sort.Measure (Some op.Max)) text c h = other_sorted (field_sort.Measure (Some op.Max)) refl text c h
code_sorted (field_sort.Measure (Some op.SumDistinct)) text c h = other_sorted (field_sort.Measure (Some op.SumDistinct)) refl text c h
code_sorted (field_sort.Measure (Some op.AverageDistinct)) text c h = other_sorted (field_sort.Measure (Some op.AverageDistinct)) refl text c h
code_sorted (field_sort.Measure (Some op.Number)) text c h = number_sorted text c h

-- ---- fields

abbrev pub HasSortedCode : DeclaredField → Type 0
HasSortedCode f = IsSortedCode f.sort f.sql

sorted_fields : (name : List ℕ) (items : List Item) (fields : List DeclaredField) → AreFields name items fields → AllByRecursion HasSortedCode fields
sorted_fields name [] [] h = tt
sorted_fields name [] (f ∷ fields) h = absurd h
sorted_fields name (item ∷ items) [] h = absurd h
sorted_fields name (item ∷ items) (f ∷ fields) h = (code_sorted f.sort (sql_text f.sort (block_name item) (block_items item)) f.sql h.0.sql_is, sorted_fields name items fields h.1)

pub sorted_codes : (schema : Schema) (objects : List Object) (views : List DeclaredView) → AreViews schema objects views → AllByRecursion (λ v. AllByRecursion HasSortedCode v.fields) views
sorted_codes schema [] [] h = tt
sorted_codes schema [] (v ∷ views) h = absurd h
sorted_codes schema (o ∷ objects) [] h = absurd h
sorted_codes schema (o ∷ objects) (v ∷ views) h = (sorted_fields o.name (fields_in (items_of o.tree)) v.fields h.0.fields_are, sorted_codes schema objects views h.1)
