-- Where each column that a name means has a known kind, formulas are the same whatever an unknown column would be.
use Rattle.std.proofs.Common.{◌≡◌, ℕ, zero, suc, List, [], ◌∷◌, map, length, refl, ap, Option, Some, None}
use Rattle.std.specs.Prelude.{if◌then◌else◌}
use Rattle.lk_types.specs.Formula.{Formula}
use Rattle.lk_types.specs.declared.schema.Kind.{Kind}
use Rattle.lk_types.specs.declared.schema.Schema.{Schema}
use Rattle.lk_objects.specs.declared.code.Code.{Code}
use Rattle.lk_objects.specs.declared.code.Code.TheVariants as code
use Rattle.lk_objects.specs.declared.code.Reference.{Reference}
use Rattle.lk_objects.specs.declared.code.Reference.TheVariants as reference
use Rattle.lk_objects.specs.declared.code.Written.{Written}
use Rattle.lk_objects.specs.declared.field.DeclaredField.{DeclaredField}
use Rattle.lk_objects.specs.declared.view.DeclaredView.{DeclaredView}
use Rattle.lk_fields.specs.declared.scope.Found.{Found}
use Rattle.lk_fields.specs.declared.scope.Place.{Place}
use Rattle.lk_fields.specs.declared.scope.Scope.{Scope}
use Rattle.lk_fields.specs.declared.scope.Sort.TheVariants as sort
use Rattle.lk_fields.specs.declared.scope.Writer.{Writer}
use Rattle.lk_fields.specs.declared.scope.Writer.TheVariants as writer
use Rattle.lk_fields.specs.Existing.{all_places, field_at}
use Rattle.lk_formulas.specs.declared.columns.ColumnKinds.{ColumnKinds}
use Rattle.lk_formulas.specs.declared.columns.UnknownColumn.TheVariants.{Kept, Null}
use Rattle.lk_formulas.specs.Columns.{column_named, known_kind}
use Rattle.lk_formulas.specs.Formulas.{as_read, as_written, column_at, column_formula, dated_in, dated_of, ends, expanded, expanded_field, field_named, formula_in, formula_of, formula_within, framed, meaning, null, part_of, through}

module _ (schema : Schema) (views : List DeclaredView) (scope : Scope) (columns : ColumnKinds)
    (known : (p : ℕ) (name : List ℕ) (c : ℕ) → column_named schema views scope p name ≡ Some c → (k : Kind) × (known_kind columns p c ≡ Some k)) where
  same_column : (p : ℕ) (name : List ℕ) → column_at columns Null p (column_named schema views scope p name) ≡ column_at columns Kept p (column_named schema views scope p name)
  same_column p name = of_column (column_named schema views scope p name) refl
    where
      of_kind : (k : Option Kind) (c : ℕ) → ((j : Kind) × (k ≡ Some j)) → column_formula Null k p c ≡ column_formula Kept k p c
      of_kind None c h = λ i. column_formula Null (h.1 i) p c
      of_kind (Some k) c h = refl

      of_column : (o : Option ℕ) → column_named schema views scope p name ≡ o → column_at columns Null p o ≡ column_at columns Kept p o
      of_column None is = refl
      of_column (Some c) is = of_kind (known_kind columns p c) c (known p name c is)

  module _ (join : List Formula → Written → Formula) where
    module _ (f g : Place → Formula) (same : (p : Place) → f p ≡ g p) where
      same_through : (o : Option Found) → through schema views scope columns Null f o ≡ through schema views scope columns Kept g o
      same_through None = refl
      same_through (Some found) = ap (λ e. if ends views scope found.place then framed found.frame e else null) (same found.place)

      same_meaning : (w : Writer) (r : Reference) → meaning schema views scope columns Null f w r ≡ meaning schema views scope columns Kept g w r
      same_meaning w (reference.Column name) = same_column (part_of w) name
      same_meaning w (reference.Own name) = same_through (field_named views scope w sort.Dimension (reference.Own name))
      same_meaning w (reference.Of view name) = same_through (field_named views scope w sort.Dimension (reference.Of view name))

      same_meanings : (w : Writer) (rs : List Reference) → map (meaning schema views scope columns Null f w) rs ≡ map (meaning schema views scope columns Kept g w) rs
      same_meanings w [] = refl
      same_meanings w (r ∷ rs) = λ i. same_meaning w r i ∷ same_meanings w rs i

      same_expanded : (w : Writer) (c : Code) → expanded schema views scope columns Null join f w c ≡ expanded schema views scope columns Kept join g w c
      same_expanded w (code.Expr written) = ap (λ by. join by written) (same_meanings w written.references)
      same_expanded w (code.Number written) = refl
      same_expanded w code.Absent = refl
      same_expanded w code.Liquid = refl
      same_expanded w (code.Syntax place) = refl

      same_field : (part : ℕ) (o : Option DeclaredField) → expanded_field schema views scope columns Null join f part o ≡ expanded_field schema views scope columns Kept join g part o
      same_field part None = refl
      same_field part (Some field) = same_expanded (writer.Field part) field.sql

    same_within : (n : ℕ) (p : Place) → formula_within schema views scope columns Null join n p ≡ formula_within schema views scope columns Kept join n p
    same_within zero p = refl
    same_within (suc n) p =
        same_field (formula_within schema views scope columns Null join n) (formula_within schema views scope columns Kept join n) (same_within n) p.part (field_at views scope p)

  -- a field's formula with its text literals read
  pub same_dated : (p : Place) → dated_of schema views scope columns Null p ≡ dated_of schema views scope columns Kept p
  same_dated p = same_within (as_read columns) (length (all_places views scope)) p

  -- and as it is written
  pub same_formula : (p : Place) → formula_of schema views scope columns Null p ≡ formula_of schema views scope columns Kept p
  same_formula p = same_within as_written (length (all_places views scope)) p

  -- that of a code
  pub same_dated_in : (w : Writer) (c : Code) → dated_in schema views scope columns Null w c ≡ dated_in schema views scope columns Kept w c
  same_dated_in w c = same_expanded (as_read columns) (dated_of schema views scope columns Null) (dated_of schema views scope columns Kept) same_dated w c

  pub same_formula_in : (w : Writer) (c : Code) → formula_in schema views scope columns Null w c ≡ formula_in schema views scope columns Kept w c
  same_formula_in w c = same_expanded as_written (formula_of schema views scope columns Null) (formula_of schema views scope columns Kept) same_formula w c
