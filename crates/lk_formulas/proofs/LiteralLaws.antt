-- A formula that is a text literal with its text literals read has one node as it is written.
use Rattle.std.proofs.Common.{◌≡◌, ℕ, zero, suc, ◌≤◌, Bool, true, false, List, [], ◌∷◌, length, map, Option, Some, None, refl, sym, ◌∙◌, arith}
use Rattle.std.specs.Prelude.{if◌then◌else◌}
use Rattle.lk_types.specs.Formula.{Formula, Column, Literal, Framed, In, Between, NullIf}
use Rattle.lk_types.specs.declared.kind_set.KindSet.{KindSet}
use Rattle.lk_types.specs.declared.schema.Frame.{Frame}
use Rattle.lk_types.specs.declared.schema.Kind.{Kind}
use Rattle.lk_types.specs.declared.schema.Schema.{Schema}
use Rattle.lk_objects.specs.declared.code.Code.{Code}
use Rattle.lk_objects.specs.declared.code.Code.TheVariants as code
use Rattle.lk_objects.specs.declared.code.Reference.{Reference}
use Rattle.lk_objects.specs.declared.code.Reference.TheVariants as reference
use Rattle.lk_objects.specs.declared.field.DeclaredField.{DeclaredField}
use Rattle.lk_objects.specs.declared.view.DeclaredView.{DeclaredView}
use Rattle.lk_fields.specs.declared.scope.Found.{Found}
use Rattle.lk_fields.specs.declared.scope.Place.{Place}
use Rattle.lk_fields.specs.declared.scope.Scope.{Scope}
use Rattle.lk_fields.specs.declared.scope.Sort.TheVariants as sort
use Rattle.lk_fields.specs.declared.scope.Writer.{Writer}
use Rattle.lk_fields.specs.declared.scope.Writer.TheVariants as writer
use Rattle.lk_fields.specs.Existing.{all_places, field_at}
use Rattle.lk_fields.specs.Substituted.{nodes_in, replacement, substituted}
use Rattle.lk_dated.specs.Dated.{all_dated_by, compared, dated_by, stands_at, text_of}
use Rattle.lk_dated.proofs.ReadLaws.{listed_text, null_if_text, ranged_text}
use Rattle.lk_formulas.specs.declared.columns.ColumnKinds.{ColumnKinds}
use Rattle.lk_formulas.specs.declared.columns.UnknownColumn.{UnknownColumn}
use Rattle.lk_formulas.specs.declared.columns.UnknownColumn.TheVariants as unknown_column
use Rattle.lk_formulas.specs.Columns.{column_named, known_kind}
use Rattle.lk_formulas.specs.FormulaKinds.{kinds_in}
use Rattle.lk_formulas.specs.Formulas.{as_read, as_written, column_at, column_formula, dated_of, ends, expanded, expanded_field, field_named, formula_of, formula_within, framed, meaning, null, part_of, put_in, read_in, through, where_known}

-- two formulas, of which the second is a text literal only where the first has one node
abbrev pub IsSmall : Formula → Formula → Type 0
IsSmall e read = (text : List ℕ) → text_of read ≡ Some text → nodes_in e ≤ 1

no_text : (e read : Formula) → text_of read ≡ None → IsSmall e read
no_text e read none text h = let never : None ≡ Some text = sym none ∙ h in cc

module _ (kinds : Formula → KindSet) (raw : ℕ → Formula) (leaf : ℕ → ℕ → Formula) (small : (p i : ℕ) → IsSmall (raw i) (leaf p i)) where
  read_small : (e : Formula) → IsSmall (substituted raw e) (dated_by kinds leaf e)
  read_small (Column p c) = small p c
  read_small (Literal v) = λ text h. omega arith
  read_small (In a xs) = no_text (substituted raw (In a xs)) (dated_by kinds leaf (In a xs)) (listed_text (compared kinds) (dated_by kinds leaf a) (all_dated_by kinds leaf xs))
  read_small (Between a low high) =
      no_text (substituted raw (Between a low high)) (dated_by kinds leaf (Between a low high)) (ranged_text (compared kinds) (dated_by kinds leaf a) (dated_by kinds leaf low) (dated_by kinds leaf high))
  read_small (NullIf a b) = no_text (substituted raw (NullIf a b)) (dated_by kinds leaf (NullIf a b)) (null_if_text (compared kinds) (dated_by kinds leaf a) (dated_by kinds leaf b))
  read_small e = no_text (substituted raw e) (dated_by kinds leaf e) refl

column_small : (u : UnknownColumn) (k : Option Kind) (part column : ℕ) → IsSmall (column_formula u k part column) (column_formula u k part column)
column_small unknown_column.Null None part column = λ text h. omega arith
column_small unknown_column.Null (Some k) part column = λ text h. omega arith
column_small unknown_column.Kept k part column = λ text h. omega arith

framed_small : (f : Option Frame) (e read : Formula) → IsSmall e read → IsSmall (framed f e) (framed f read)
framed_small None e read small = small
framed_small (Some f) e read small = no_text (Framed f e) (Framed f read) refl

null_small : IsSmall null null
null_small text h = omega arith

known_small : (unknown : Option ℕ) (e read : Formula) → IsSmall e read → IsSmall e (where_known unknown read)
known_small None e read small = small
known_small (Some place) e read small = no_text e null refl

module _ (schema : Schema) (views : List DeclaredView) (scope : Scope) (columns : ColumnKinds) (u : UnknownColumn) where
  module _ (f g : Place → Formula) (small : (p : Place) → IsSmall (f p) (g p)) where
    if_small : (found : Found) (e : Bool) → IsSmall (if e then framed found.frame (f found.place) else null) (if e then framed found.frame (g found.place) else null)
    if_small found true = framed_small found.frame (f found.place) (g found.place) (small found.place)
    if_small found false = null_small

    through_small : (o : Option Found) → IsSmall (through schema views scope columns u f o) (through schema views scope columns u g o)
    through_small None = null_small
    through_small (Some found) = if_small found (ends views scope found.place)

    at_small : (part : ℕ) (c : Option ℕ) → IsSmall (column_at columns u part c) (column_at columns u part c)
    at_small part None = null_small
    at_small part (Some column) = column_small u (known_kind columns part column) part column

    meaning_small : (w : Writer) (r : Reference) → IsSmall (meaning schema views scope columns u f w r) (meaning schema views scope columns u g w r)
    meaning_small w (reference.Column name) = at_small (part_of w) (column_named schema views scope (part_of w) name)
    meaning_small w (reference.Own name) = through_small (field_named views scope w sort.Dimension (reference.Own name))
    meaning_small w (reference.Of view name) = through_small (field_named views scope w sort.Dimension (reference.Of view name))

    meanings_small : (w : Writer) (rs : List Reference) (i : ℕ)
        → IsSmall (replacement (map (meaning schema views scope columns u f w) rs) i) (replacement (map (meaning schema views scope columns u g w) rs) i)
    meanings_small w [] i = null_small
    meanings_small w (r ∷ rs) zero = meaning_small w r
    meanings_small w (r ∷ rs) (suc i) = meanings_small w rs i

    expanded_small : (w : Writer) (c : Code) → IsSmall (expanded schema views scope columns u as_written f w c) (expanded schema views scope columns u (as_read columns) g w c)
    expanded_small w (code.Expr written) =
        let by = map (meaning schema views scope columns u f w) written.references in
        let read = map (meaning schema views scope columns u g w) written.references in
        known_small written.unknown_call (put_in by written.expr) (read_in columns read written.expr)
        (read_small (kinds_in columns) (replacement by) (stands_at read) (λ p i. meanings_small w written.references i) written.expr)
    expanded_small w code.Absent = null_small
    expanded_small w code.Liquid = null_small
    expanded_small w (code.Number written) = null_small
    expanded_small w (code.Syntax place) = null_small

    field_small : (part : ℕ) (o : Option DeclaredField)
        → IsSmall (expanded_field schema views scope columns u as_written f part o) (expanded_field schema views scope columns u (as_read columns) g part o)
    field_small part None = null_small
    field_small part (Some field) = expanded_small (writer.Field part) field.sql

  within_small : (n : ℕ) (p : Place) → IsSmall (formula_within schema views scope columns u as_written n p) (formula_within schema views scope columns u (as_read columns) n p)
  within_small zero p = null_small
  within_small (suc n) p =
      field_small (formula_within schema views scope columns u as_written n) (formula_within schema views scope columns u (as_read columns) n) (within_small n) p.part (field_at views scope p)

  pub formula_small : (p : Place) → IsSmall (formula_of schema views scope columns u p) (dated_of schema views scope columns u p)
  formula_small p = within_small (length (all_places views scope)) p
