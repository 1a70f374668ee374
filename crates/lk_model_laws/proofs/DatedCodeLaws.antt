-- The literals that a text of code is read to are no days and moments.
use Rattle.std.proofs.Common.{◌≡◌, ℕ, ◌+◌, Bool, true, false, ◌&&◌, List, [], ◌∷◌, ◌++◌, refl, sym, subst, Option, Some, None}
use Rattle.std.specs.Prelude.{Result, Ok, Err}
use Rattle.std.specs.List.{AllByRecursion, list_all}
use Rattle.lk_val.specs.Numbers.{num_of}
use Rattle.lk_val.specs.declared.num.Num.{Num}
use Rattle.lk_val.specs.declared.num.NumFault.{NumFault}
use Rattle.lk_params.specs.Known.{holds_liquid}
use Rattle.lk_types.specs.Dates.{are_all_dated, are_cases_dated, are_literals_dated, is_dated}
use Rattle.lk_types.specs.Formula as formula
use Rattle.lk_types.specs.Formula.{Formula, Formulas, Cases}
use Rattle.lk_types.specs.FormulaNodes.{cases_of, formulas_of}
use Rattle.lk_expr_token.specs.declared.functions.Function.{Function}
use Rattle.lk_expr_token.specs.declared.functions.Function.TheVariants as function
use Rattle.lk_expr_token.specs.Functions.{function_of}
use Rattle.lk_expr_tree.specs.declared.raw.Joint.{Joint}
use Rattle.lk_expr_tree.specs.declared.raw.Joint.TheVariants as joint
use Rattle.lk_expr_tree.specs.Grammar.{Tree, Number, Text, Name, Column, Field, FieldOf, Truth, Null, Group, Call, Case, CaseElse, Negate, Chain, Compare, IsNull, In, Between, Like, Not, Args, one, more, Branches, when, then_when}
use Rattle.lk_expr_place.specs.declared.judging.Grammar.{Grammar}
use Rattle.lk_expr_place.specs.declared.judging.Grammar.TheVariants.{Expressions, Measures}
use Rattle.lk_objects.specs.declared.code.Code.{Code}
use Rattle.lk_objects.specs.declared.code.Code.TheVariants as code
use Rattle.lk_objects.specs.declared.field.DeclaredField.{DeclaredField}
use Rattle.lk_objects.specs.declared.view.DeclaredView.{DeclaredView}
use Rattle.lk_merge.specs.declared.project.Object.{Object}
use Rattle.lk_params.specs.Parameters.{items_of}
use Rattle.lk_read.specs.declared.tree.Item.{Item}
use Rattle.lk_types.specs.declared.schema.Schema.{Schema}
use Rattle.lk_semantics.proofs.EveryLaws.{Every, both, every-append, first, second}
use Rattle.lk_view.specs.FieldOrder.{fields_in}
use Rattle.lk_view.specs.Views.{AreFields}
use Rattle.lk_view_field.specs.Fields.{IsField, is_over_measures, key_text, sql_text}
use Rattle.lk_written.specs.Blocks.{block_items, block_name}
use Rattle.lk_written.specs.Codes.{IsCode, IsLiquidOr, IsReading, grammar_of}
use Rattle.lk_written.specs.References.{count, count_among, count_in}
use Rattle.lk_written.specs.Skeletons.{branch_skeletons, called, joined, number_value, skeleton, skeletons, unless}
use Rattle.lk_resolve.specs.Objects.{AreViews}

-- ---- expressions

all_dated : (xs : List Formula) → Every are_literals_dated xs → are_all_dated (formulas_of xs) ≡ true
all_dated [] h = refl
all_dated (a ∷ xs) h = both (are_literals_dated a) (are_all_dated (formulas_of xs)) (first (are_literals_dated a) (list_all are_literals_dated xs) h) (all_dated xs (second (are_literals_dated a) (list_all are_literals_dated xs) h))

cases_dated : (xs : List Formula) → Every are_literals_dated xs → are_cases_dated (cases_of xs) ≡ true
cases_dated [] h = refl
cases_dated (a ∷ []) h = first (are_literals_dated a) true h
cases_dated (c ∷ a ∷ xs) h =
    let rest = second (are_literals_dated c) (are_literals_dated a && list_all are_literals_dated xs) h in
    both (are_literals_dated c) (are_literals_dated a && are_cases_dated (cases_of xs)) (first (are_literals_dated c) (are_literals_dated a && list_all are_literals_dated xs) h)
    (both (are_literals_dated a) (are_cases_dated (cases_of xs)) (first (are_literals_dated a) (list_all are_literals_dated xs) rest) (cases_dated xs (second (are_literals_dated a) (list_all are_literals_dated xs) rest)))

called_dated : (f : Option Function) (xs : List Formula) → Every are_literals_dated xs → are_literals_dated (called f xs) ≡ true
called_dated None xs h = all_dated xs h
called_dated (Some function.Coalesce) xs h = all_dated xs h
called_dated (Some function.NullIf) [] h = refl
called_dated (Some function.NullIf) (a ∷ []) h = all_dated (a ∷ []) h
called_dated (Some function.NullIf) (a ∷ b ∷ []) h =
    let rest = second (are_literals_dated a) (are_literals_dated b && true) h in
    both (are_literals_dated a) (are_literals_dated b) (first (are_literals_dated a) (are_literals_dated b && true) h) (first (are_literals_dated b) true rest)
called_dated (Some function.NullIf) (a ∷ b ∷ c ∷ xs) h = all_dated (a ∷ b ∷ c ∷ xs) h
called_dated (Some function.Lower) [] h = refl
called_dated (Some function.Lower) (a ∷ []) h = first (are_literals_dated a) true h
called_dated (Some function.Lower) (a ∷ b ∷ xs) h = all_dated (a ∷ b ∷ xs) h
called_dated (Some function.Upper) [] h = refl
called_dated (Some function.Upper) (a ∷ []) h = first (are_literals_dated a) true h
called_dated (Some function.Upper) (a ∷ b ∷ xs) h = all_dated (a ∷ b ∷ xs) h

unless_dated : (negated : Bool) (e : Formula) → are_literals_dated e ≡ true → are_literals_dated (unless negated e) ≡ true
unless_dated true e h = h
unless_dated false e h = h

joined_dated : (j : Joint) (a b : Formula) → are_literals_dated a ≡ true → are_literals_dated b ≡ true → are_literals_dated (joined j a b) ≡ true
joined_dated joint.Or a b h k = both (are_literals_dated a) (are_literals_dated b) h k
joined_dated joint.And a b h k = both (are_literals_dated a) (are_literals_dated b) h k
joined_dated joint.Plus a b h k = both (are_literals_dated a) (are_literals_dated b) h k
joined_dated joint.Minus a b h k = both (are_literals_dated a) (are_literals_dated b) h k
joined_dated joint.Concat a b h k = both (are_literals_dated a) (are_literals_dated b) h k
joined_dated joint.Times a b h k = both (are_literals_dated a) (are_literals_dated b) h k
joined_dated joint.Over a b h k = both (are_literals_dated a) (are_literals_dated b) h k

number_dated : (r : Result Num NumFault) → is_dated (number_value r) ≡ true
number_dated (Ok n) = refl
number_dated (Err e) = refl

mutual
  skeleton_dated : (n : ℕ) (e : Tree) → are_literals_dated (skeleton n e) ≡ true
  skeleton_dated n (Number text) = number_dated (num_of text)
  skeleton_dated n (Text text) = refl
  skeleton_dated n (Column name) = refl
  skeleton_dated n (Name name place) = refl
  skeleton_dated n (Field name) = refl
  skeleton_dated n (FieldOf view name) = refl
  skeleton_dated n (Truth b) = refl
  skeleton_dated n Null = refl
  skeleton_dated n (Group a) = skeleton_dated n a
  skeleton_dated n (Call name place args) = called_dated (function_of name) (skeletons n args) (skeletons_dated n args)
  skeleton_dated n (Case branches) = cases_dated (branch_skeletons n branches) (branches_dated n branches)
  skeleton_dated n (CaseElse branches a) =
      cases_dated (branch_skeletons n branches ++ skeleton (n + count_among branches) a ∷ []) (every-append are_literals_dated (branch_skeletons n branches) (skeleton (n + count_among branches) a ∷ []) (branches_dated n branches)
      (both (are_literals_dated (skeleton (n + count_among branches) a)) true (skeleton_dated (n + count_among branches) a) refl))
  skeleton_dated n (Negate a) = skeleton_dated n a
  skeleton_dated n (Chain j a b) = joined_dated j (skeleton n a) (skeleton (n + count a) b) (skeleton_dated n a) (skeleton_dated (n + count a) b)
  skeleton_dated n (Compare c a b) = both (are_literals_dated (skeleton n a)) (are_literals_dated (skeleton (n + count a) b)) (skeleton_dated n a) (skeleton_dated (n + count a) b)
  skeleton_dated n (IsNull negated a) = unless_dated negated (formula.IsNull (skeleton n a)) (skeleton_dated n a)
  skeleton_dated n (In negated a args) =
      let xs = skeletons (n + count a) args in
      unless_dated negated (formula.In (skeleton n a) (formulas_of xs))
      (both (are_literals_dated (skeleton n a)) (are_all_dated (formulas_of xs)) (skeleton_dated n a) (all_dated xs (skeletons_dated (n + count a) args)))
  skeleton_dated n (Between negated a low high) =
      let l = skeleton (n + count a) low in
      let h = skeleton (n + count a + count low) high in
      unless_dated negated (formula.Between (skeleton n a) l h)
      (both (are_literals_dated (skeleton n a)) (are_literals_dated l && are_literals_dated h) (skeleton_dated n a)
      (both (are_literals_dated l) (are_literals_dated h) (skeleton_dated (n + count a) low) (skeleton_dated (n + count a + count low) high)))
  skeleton_dated n (Like negated a pattern) = unless_dated negated (formula.Like (skeleton n a) _) (skeleton_dated n a)
  skeleton_dated n (Not a) = skeleton_dated n a

  skeletons_dated : (n : ℕ) (args : Args) → Every are_literals_dated (skeletons n args)
  skeletons_dated n (one a) = both (are_literals_dated (skeleton n a)) true (skeleton_dated n a) refl
  skeletons_dated n (more args a) =
      every-append are_literals_dated (skeletons n args) (skeleton (n + count_in args) a ∷ []) (skeletons_dated n args)
      (both (are_literals_dated (skeleton (n + count_in args) a)) true (skeleton_dated (n + count_in args) a) refl)

  branches_dated : (n : ℕ) (branches : Branches) → Every are_literals_dated (branch_skeletons n branches)
  branches_dated n (when c a) =
      both (are_literals_dated (skeleton n c)) (are_literals_dated (skeleton (n + count c) a) && true) (skeleton_dated n c) (both (are_literals_dated (skeleton (n + count c) a)) true (skeleton_dated (n + count c) a) refl)
  branches_dated n (then_when branches c a) =
      let d = skeleton (n + count_among branches) c in
      let b = skeleton (n + count_among branches + count c) a in
      every-append are_literals_dated (branch_skeletons n branches) (d ∷ b ∷ []) (branches_dated n branches)
      (both (are_literals_dated d) (are_literals_dated b && true) (skeleton_dated (n + count_among branches) c) (both (are_literals_dated b) true (skeleton_dated (n + count_among branches + count c) a) refl))

-- ---- codes

abbrev pub IsDatedCode : Code → Type 0
IsDatedCode (code.Expr written) = are_literals_dated written.expr ≡ true
IsDatedCode c = Unit {0}

reading_dated : (g : Grammar) (text : List ℕ) (c : Code) → IsReading g text c → IsDatedCode c
reading_dated Expressions text (code.Expr written) h = subst (λ (w : _). are_literals_dated w.expr ≡ true) (sym h.2) (skeleton_dated 0 h.0)
reading_dated Measures text (code.Number written) h = tt
reading_dated Expressions text (code.Number written) h = absurd h
reading_dated Measures text (code.Expr written) h = absurd h
reading_dated g text (code.Syntax place) h = tt
reading_dated g text code.Absent h = tt
reading_dated g text code.Liquid h = tt

pub code_dated : (over : Bool) (text : Option (List ℕ)) (c : Code) → IsCode over text c → IsDatedCode c
code_dated over None c h = subst IsDatedCode (sym h) tt
code_dated over (Some text) c h = of_liquid (holds_liquid text) h
  where
    of_liquid : (b : Bool) → IsLiquidOr b (grammar_of over) text c → IsDatedCode c
    of_liquid true is = subst IsDatedCode (sym is) tt
    of_liquid false is = reading_dated (grammar_of over) text c is

-- ---- fields

abbrev pub HasDatedCodes : DeclaredField → Type 0
HasDatedCodes field = IsDatedCode field.sql × IsDatedCode field.key

dated_field : (name kind own : List ℕ) (items : List Item) (field : DeclaredField) → IsField name kind own items field → HasDatedCodes field
dated_field name kind own items field is =
    (code_dated (is_over_measures field.sort) (sql_text field.sort own items) field.sql is.sql_is, code_dated false (key_text field.sort items) field.key is.key_is)

dated_fields : (name : List ℕ) (items : List Item) (fields : List DeclaredField) → AreFields name items fields → AllByRecursion HasDatedCodes fields
dated_fields name [] [] h = tt
dated_fields name [] (f ∷ fields) h = absurd h
dated_fields name (item ∷ items) [] h = absurd h
dated_fields name (item ∷ items) (f ∷ fields) h = (dated_field name item.name (block_name item) (block_items item) f h.0, dated_fields name items fields h.1)

pub dated_codes : (schema : Schema) (objects : List Object) (views : List DeclaredView) → AreViews schema objects views → AllByRecursion (λ v. AllByRecursion HasDatedCodes v.fields) views
dated_codes schema [] [] h = tt
dated_codes schema [] (v ∷ views) h = absurd h
dated_codes schema (o ∷ objects) [] h = absurd h
dated_codes schema (o ∷ objects) (v ∷ views) h = (dated_fields o.name (fields_in (items_of o.tree)) v.fields h.0.fields_are, dated_codes schema objects views h.1)
