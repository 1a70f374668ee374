-- A formula has as many nodes whether a column of unknown kind is kept or null.
use Rattle.std.proofs.Common.{◌≡◌, ℕ, zero, suc, ◌+◌, true, false, List, [], ◌∷◌, map, length, refl, ap, Option, Some, None}
use Rattle.std.specs.Prelude.{if◌then◌else◌}
use Rattle.lk_types.specs.Formula.{Formula, Column, Literal, Framed, Not, And, Or, Compare, IsNull, In, Between, Like, Number, Negate, Concat, Lower, Upper, Case, Coalesce, NullIf, Formulas, no_more, more, Cases, without_else, otherwise, when}
use Rattle.lk_types.specs.declared.schema.Frame.{Frame}
use Rattle.lk_types.specs.declared.schema.Kind.{Kind}
use Rattle.lk_types.specs.declared.schema.Schema.{Schema}
use Rattle.lk_objects.specs.declared.code.Code.{Code}
use Rattle.lk_objects.specs.declared.code.Code.TheVariants as code
use Rattle.lk_objects.specs.declared.code.Reference.{Reference}
use Rattle.lk_objects.specs.declared.code.Reference.TheVariants as reference
use Rattle.lk_objects.specs.declared.field.DeclaredField.{DeclaredField}
use Rattle.lk_objects.specs.declared.view.DeclaredView.{DeclaredView}
use Rattle.lk_fields.specs.declared.scope.Found.{Found}
use Rattle.lk_fields.specs.declared.scope.Place.{Place}
use Rattle.lk_fields.specs.declared.scope.Scope.{Scope}
use Rattle.lk_fields.specs.declared.scope.Sort.TheVariants as sort
use Rattle.lk_fields.specs.declared.scope.Writer.{Writer}
use Rattle.lk_fields.specs.declared.scope.Writer.TheVariants as writer
use Rattle.lk_fields.specs.Existing.{all_places, field_at}
use Rattle.lk_fields.specs.Substituted.{nodes_in, nodes_in_all, nodes_in_cases, replacement, substituted, substituted_all, substituted_cases}
use Rattle.lk_formulas.specs.declared.columns.ColumnKinds.{ColumnKinds}
use Rattle.lk_formulas.specs.declared.columns.UnknownColumn.TheVariants.{Kept, Null}
use Rattle.lk_formulas.specs.Columns.{column_named, known_kind}
use Rattle.lk_formulas.specs.Formulas.{as_written, column_at, column_formula, ends, expanded, expanded_field, field_named, formula_of, formula_within, framed, meaning, null, part_of, through}

-- ---- expressions put in

module _ (s t : ℕ → Formula) (same : (i : ℕ) → nodes_in (s i) ≡ nodes_in (t i)) where
  mutual
    put_same : (e : Formula) → nodes_in (substituted s e) ≡ nodes_in (substituted t e)
    put_same (Column p c) = same c
    put_same (Literal v) = refl
    put_same (Framed f a) = ap (λ n. 1 + n) (put_same a)
    put_same (Not a) = ap (λ n. 1 + n) (put_same a)
    put_same (And a b) = λ i. 1 + put_same a i + put_same b i
    put_same (Or a b) = λ i. 1 + put_same a i + put_same b i
    put_same (Compare c a b) = λ i. 1 + put_same a i + put_same b i
    put_same (IsNull a) = ap (λ n. 1 + n) (put_same a)
    put_same (In a xs) = λ i. 1 + put_same a i + all_put_same xs i
    put_same (Between a low high) = λ i. 1 + put_same a i + put_same low i + put_same high i
    put_same (Like a pieces) = ap (λ n. 1 + n) (put_same a)
    put_same (Number o a b) = λ i. 1 + put_same a i + put_same b i
    put_same (Negate a) = ap (λ n. 1 + n) (put_same a)
    put_same (Concat a b) = λ i. 1 + put_same a i + put_same b i
    put_same (Lower a) = ap (λ n. 1 + n) (put_same a)
    put_same (Upper a) = ap (λ n. 1 + n) (put_same a)
    put_same (Case cases) = ap (λ n. 1 + n) (cases_put_same cases)
    put_same (Coalesce xs) = ap (λ n. 1 + n) (all_put_same xs)
    put_same (NullIf a b) = λ i. 1 + put_same a i + put_same b i

    all_put_same : (xs : Formulas) → nodes_in_all (substituted_all s xs) ≡ nodes_in_all (substituted_all t xs)
    all_put_same no_more = refl
    all_put_same (more a xs) = λ i. put_same a i + all_put_same xs i

    cases_put_same : (cases : Cases) → nodes_in_cases (substituted_cases s cases) ≡ nodes_in_cases (substituted_cases t cases)
    cases_put_same without_else = refl
    cases_put_same (otherwise a) = put_same a
    cases_put_same (when c a rest) = λ i. put_same c i + put_same a i + cases_put_same rest i

-- ---- the formulas of fields

framed_same : (f : Option Frame) (a b : Formula) → nodes_in a ≡ nodes_in b → nodes_in (framed f a) ≡ nodes_in (framed f b)
framed_same None a b h = h
framed_same (Some f) a b h = ap (λ n. 1 + n) h

module _ (schema : Schema) (views : List DeclaredView) (scope : Scope) (columns : ColumnKinds) where
  column_same : (p : ℕ) (o : Option ℕ) → nodes_in (column_at columns Null p o) ≡ nodes_in (column_at columns Kept p o)
  column_same p None = refl
  column_same p (Some c) = of_kind (known_kind columns p c)
    where
      of_kind : (k : Option Kind) → nodes_in (column_formula Null k p c) ≡ nodes_in (column_formula Kept k p c)
      of_kind None = refl
      of_kind (Some k) = refl

  module _ (f g : Place → Formula) (same : (p : Place) → nodes_in (f p) ≡ nodes_in (g p)) where
    through_same : (o : Option Found) → nodes_in (through schema views scope columns Null f o) ≡ nodes_in (through schema views scope columns Kept g o)
    through_same None = refl
    through_same (Some found) =
        elim (ends views scope found.place) as (λ b. nodes_in (if b then framed found.frame (f found.place) else null) ≡ nodes_in (if b then framed found.frame (g found.place) else null)) [
          | true ↦ framed_same found.frame (f found.place) (g found.place) (same found.place)
          | false ↦ refl
        ]

    meaning_same : (w : Writer) (r : Reference) → nodes_in (meaning schema views scope columns Null f w r) ≡ nodes_in (meaning schema views scope columns Kept g w r)
    meaning_same w (reference.Column name) = column_same (part_of w) (column_named schema views scope (part_of w) name)
    meaning_same w (reference.Own name) = through_same (field_named views scope w sort.Dimension (reference.Own name))
    meaning_same w (reference.Of view name) = through_same (field_named views scope w sort.Dimension (reference.Of view name))

    meanings_same : (w : Writer) (rs : List Reference) (i : ℕ) → nodes_in (replacement (map (meaning schema views scope columns Null f w) rs) i) ≡ nodes_in (replacement (map (meaning schema views scope columns Kept g w) rs) i)
    meanings_same w [] i = refl
    meanings_same w (r ∷ rs) zero = meaning_same w r
    meanings_same w (r ∷ rs) (suc i) = meanings_same w rs i

    code_same : (w : Writer) (c : Code) → nodes_in (expanded schema views scope columns Null as_written f w c) ≡ nodes_in (expanded schema views scope columns Kept as_written g w c)
    code_same w (code.Expr written) =
        put_same (replacement (map (meaning schema views scope columns Null f w) written.references)) (replacement (map (meaning schema views scope columns Kept g w) written.references)) (meanings_same w written.references) written.expr
    code_same w (code.Number written) = refl
    code_same w code.Absent = refl
    code_same w code.Liquid = refl
    code_same w (code.Syntax place) = refl

    field_same : (part : ℕ) (o : Option DeclaredField) → nodes_in (expanded_field schema views scope columns Null as_written f part o) ≡ nodes_in (expanded_field schema views scope columns Kept as_written g part o)
    field_same part None = refl
    field_same part (Some field) = code_same (writer.Field part) field.sql

  within_same : (n : ℕ) (p : Place) → nodes_in (formula_within schema views scope columns Null as_written n p) ≡ nodes_in (formula_within schema views scope columns Kept as_written n p)
  within_same zero p = refl
  within_same (suc n) p =
      field_same (formula_within schema views scope columns Null as_written n) (formula_within schema views scope columns Kept as_written n) (within_same n) p.part (field_at views scope p)

  pub same_count : (p : Place) → nodes_in (formula_of schema views scope columns Null p) ≡ nodes_in (formula_of schema views scope columns Kept p)
  same_count p = within_same (length (all_places views scope)) p
