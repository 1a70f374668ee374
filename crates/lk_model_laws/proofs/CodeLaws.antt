-- What a text of code is read as is whole, and a calculation names only measures that its text names.
use Rattle.std.proofs.Common.{◌≡◌, ◌∙◌, ℕ, zero, suc, ◌+◌, Bool, true, false, ◌&&◌, List, [], ◌∷◌, ◌++◌, length, refl, ap, sym, subst, Option, Some, None, arith}
use Rattle.std.specs.Prelude.{Result, Ok, Err, is_ok, slice_get}
use Rattle.std.specs.List.{AllByRecursion, list_all}
use Rattle.std.proofs.lemmas.Bool.{false≢true}
use Rattle.std.proofs.lemmas.List.{append-nil}
use Rattle.lk_val.specs.Numbers.{num_of}
use Rattle.lk_val.specs.declared.num.Num.{Num}
use Rattle.lk_val.specs.declared.num.NumFault.{NumFault}
use Rattle.lk_params.specs.Known.{holds_liquid}
use Rattle.lk_types.specs.Calculation as calculation
use Rattle.lk_types.specs.Calculation.{Calculation}
use Rattle.lk_types.specs.CalculationNodes.{calculations_of}
use Rattle.lk_types.specs.Formula as formula
use Rattle.lk_types.specs.Formula.{Formula, Formulas, Cases}
use Rattle.lk_types.specs.FormulaNodes.{cases_of, formulas_of}
use Rattle.lk_types.specs.WholeForms.{has_argument, has_branch, has_item, is_whole_calculation, is_whole_form}
use Rattle.lk_expr_token.specs.declared.functions.Function.{Function}
use Rattle.lk_expr_token.specs.declared.functions.Function.TheVariants as function
use Rattle.lk_expr_token.specs.declared.token.Sign.TheVariants as sign
use Rattle.lk_expr_token.specs.declared.token.Token.{Token}
use Rattle.lk_expr_token.specs.declared.token.Token.TheVariants as token
use Rattle.lk_expr_token.specs.Functions.{function_of, is_of_measures}
use Rattle.lk_expr_tree.specs.declared.raw.Joint.{Joint}
use Rattle.lk_expr_tree.specs.declared.raw.Joint.TheVariants as joint
use Rattle.lk_expr_tree.specs.Calls.{are_measures, is_arithmetic, is_measure}
use Rattle.lk_expr_tree.specs.Grammar.{Tree, Number, Text, Name, Column, Field, FieldOf, Truth, Null, Group, Call, Case, CaseElse, Negate, Chain, Compare, IsNull, In, Between, Like, Not, Args, one, more, Branches, when, then_when, print, print_args}
use Rattle.lk_expr_place.specs.declared.judging.Grammar.{Grammar}
use Rattle.lk_expr_place.specs.declared.judging.Grammar.TheVariants.{Expressions, Measures}
use Rattle.lk_objects.specs.declared.code.Code.{Code}
use Rattle.lk_objects.specs.declared.code.Code.TheVariants as code
use Rattle.lk_objects.specs.declared.code.Reference.{Reference}
use Rattle.lk_semantics.specs.Answers.{measures_in, measures_in_all}
use Rattle.lk_semantics.proofs.EveryLaws.{Every, both, every-append, first, second}
use Rattle.lk_written.specs.Calculations as numbers
use Rattle.lk_written.specs.Calculations.{measure_skeleton, measure_skeletons, number_of, written_number_of}
use Rattle.lk_written.specs.Codes.{IsCode, IsLiquidOr, IsReading, grammar_of}
use Rattle.lk_written.specs.References.{count, count_among, count_in, references_in, references_of}
use Rattle.lk_written.specs.Skeletons.{branch_skeletons, called, joined, skeleton, skeletons, unless}
use Rattle.lk_written.proofs.TokenLaws.{both_true, is_real, spelled_real}
use Rattle.lk_model_laws.proofs.GroundedLaws.{IsReferred, IsReferredCode}
use Rattle.lk_model_laws.proofs.ListLaws.{all_append, all_more}
use Rattle.lk_model_laws.proofs.PieceLaws.{some_none}
use Rattle.lk_model_laws.proofs.WholeExploreLaws.{IsWholeCode, are_whole_numbers, numbers_form}
use Rattle.lk_model_laws.proofs.WholeLaws.{are_whole, are_whole_cases, call_form, case_form, list_form}

-- ---- expressions

all_forms : (xs : List Formula) → Every is_whole_form xs → are_whole (formulas_of xs) ≡ true
all_forms [] h = refl
all_forms (a ∷ xs) h = both (is_whole_form a) (are_whole (formulas_of xs)) (first (is_whole_form a) (list_all is_whole_form xs) h) (all_forms xs (second (is_whole_form a) (list_all is_whole_form xs) h))

all_cases : (xs : List Formula) → Every is_whole_form xs → are_whole_cases (cases_of xs) ≡ true
all_cases [] h = refl
all_cases (a ∷ []) h = first (is_whole_form a) true h
all_cases (c ∷ a ∷ xs) h =
    let rest = second (is_whole_form c) (is_whole_form a && list_all is_whole_form xs) h in
    both (is_whole_form c && is_whole_form a) (are_whole_cases (cases_of xs))
    (both (is_whole_form c) (is_whole_form a) (first (is_whole_form c) (is_whole_form a && list_all is_whole_form xs) h) (first (is_whole_form a) (list_all is_whole_form xs) rest))
    (all_cases xs (second (is_whole_form a) (list_all is_whole_form xs) rest))

coalesce_whole : (xs : List Formula) → has_item (formulas_of xs) ≡ true → Every is_whole_form xs → is_whole_form (formula.Coalesce (formulas_of xs)) ≡ true
coalesce_whole xs some h = call_form (formulas_of xs) ∙ both (has_item (formulas_of xs)) (are_whole (formulas_of xs)) some (all_forms xs h)

-- a call that is unknown too, which stands as COALESCE
called_whole : (f : Option Function) (xs : List Formula) → has_item (formulas_of xs) ≡ true → Every is_whole_form xs → is_whole_form (called f xs) ≡ true
called_whole None xs some h = coalesce_whole xs some h
called_whole (Some function.Coalesce) xs some h = coalesce_whole xs some h
called_whole (Some function.NullIf) [] some h = coalesce_whole [] some h
called_whole (Some function.NullIf) (a ∷ []) some h = coalesce_whole (a ∷ []) some h
called_whole (Some function.NullIf) (a ∷ b ∷ []) some h =
    let rest = second (is_whole_form a) (is_whole_form b && true) h in
    both (is_whole_form a) (is_whole_form b) (first (is_whole_form a) (is_whole_form b && true) h) (first (is_whole_form b) true rest)
called_whole (Some function.NullIf) (a ∷ b ∷ c ∷ xs) some h = coalesce_whole (a ∷ b ∷ c ∷ xs) some h
called_whole (Some function.Lower) [] some h = coalesce_whole [] some h
called_whole (Some function.Lower) (a ∷ []) some h = first (is_whole_form a) true h
called_whole (Some function.Lower) (a ∷ b ∷ xs) some h = coalesce_whole (a ∷ b ∷ xs) some h
called_whole (Some function.Upper) [] some h = coalesce_whole [] some h
called_whole (Some function.Upper) (a ∷ []) some h = first (is_whole_form a) true h
called_whole (Some function.Upper) (a ∷ b ∷ xs) some h = coalesce_whole (a ∷ b ∷ xs) some h

unless_whole : (negated : Bool) (e : Formula) → is_whole_form e ≡ true → is_whole_form (unless negated e) ≡ true
unless_whole true e h = h
unless_whole false e h = h

joined_whole : (j : Joint) (a b : Formula) → is_whole_form a ≡ true → is_whole_form b ≡ true → is_whole_form (joined j a b) ≡ true
joined_whole joint.Or a b h k = both (is_whole_form a) (is_whole_form b) h k
joined_whole joint.And a b h k = both (is_whole_form a) (is_whole_form b) h k
joined_whole joint.Plus a b h k = both (is_whole_form a) (is_whole_form b) h k
joined_whole joint.Minus a b h k = both (is_whole_form a) (is_whole_form b) h k
joined_whole joint.Concat a b h k = both (is_whole_form a) (is_whole_form b) h k
joined_whole joint.Times a b h k = both (is_whole_form a) (is_whole_form b) h k
joined_whole joint.Over a b h k = both (is_whole_form a) (is_whole_form b) h k

some_item : (xs : List Formula) (a : Formula) → has_item (formulas_of (xs ++ a ∷ [])) ≡ true
some_item [] a = refl
some_item (x ∷ xs) a = refl

skeletons_some : (n : ℕ) (args : Args) → has_item (formulas_of (skeletons n args)) ≡ true
skeletons_some n (one a) = refl
skeletons_some n (more args a) = some_item (skeletons n args) (skeleton (n + count_in args) a)

-- a condition and a value come first
abbrev IsPaired : List Formula → Type 0
IsPaired xs = (c a : Formula) × (rest : List Formula) × (xs ≡ c ∷ a ∷ rest)

paired_more : (xs ys : List Formula) → IsPaired xs → IsPaired (xs ++ ys)
paired_more xs ys h = (h.0, h.1, h.2 ++ ys, ap (λ zs. zs ++ ys) h.3)

branches_paired : (n : ℕ) (branches : Branches) → IsPaired (branch_skeletons n branches)
branches_paired n (when c a) = (skeleton n c, skeleton (n + count c) a, [], refl)
branches_paired n (then_when branches c a) = paired_more (branch_skeletons n branches) _ (branches_paired n branches)

paired_branch : (xs : List Formula) → IsPaired xs → has_branch (cases_of xs) ≡ true
paired_branch xs h = ap (λ ys. has_branch (cases_of ys)) h.3

mutual
  pub skeleton_whole : (n : ℕ) (e : Tree) → is_whole_form (skeleton n e) ≡ true
  skeleton_whole n (Number text) = refl
  skeleton_whole n (Text text) = refl
  skeleton_whole n (Column name) = refl
  skeleton_whole n (Name name place) = refl
  skeleton_whole n (Field name) = refl
  skeleton_whole n (FieldOf view name) = refl
  skeleton_whole n (Truth b) = refl
  skeleton_whole n Null = refl
  skeleton_whole n (Group a) = skeleton_whole n a
  skeleton_whole n (Call name place args) = called_whole (function_of name) (skeletons n args) (skeletons_some n args) (skeletons_whole n args)
  skeleton_whole n (Case branches) =
      case_form (cases_of (branch_skeletons n branches))
      ∙ both (has_branch (cases_of (branch_skeletons n branches))) (are_whole_cases (cases_of (branch_skeletons n branches)))
      (paired_branch (branch_skeletons n branches) (branches_paired n branches)) (all_cases (branch_skeletons n branches) (branches_whole n branches))
  skeleton_whole n (CaseElse branches a) =
      let all = branch_skeletons n branches ++ skeleton (n + count_among branches) a ∷ [] in
      case_form (cases_of all)
      ∙ both (has_branch (cases_of all)) (are_whole_cases (cases_of all))
      (paired_branch all (paired_more (branch_skeletons n branches) (skeleton (n + count_among branches) a ∷ []) (branches_paired n branches)))
      (all_cases all (every-append is_whole_form (branch_skeletons n branches) (skeleton (n + count_among branches) a ∷ []) (branches_whole n branches)
      (both (is_whole_form (skeleton (n + count_among branches) a)) true (skeleton_whole (n + count_among branches) a) refl)))
  skeleton_whole n (Negate a) = skeleton_whole n a
  skeleton_whole n (Chain j a b) = joined_whole j (skeleton n a) (skeleton (n + count a) b) (skeleton_whole n a) (skeleton_whole (n + count a) b)
  skeleton_whole n (Compare c a b) = both (is_whole_form (skeleton n a)) (is_whole_form (skeleton (n + count a) b)) (skeleton_whole n a) (skeleton_whole (n + count a) b)
  skeleton_whole n (IsNull negated a) = unless_whole negated (formula.IsNull (skeleton n a)) (skeleton_whole n a)
  skeleton_whole n (In negated a args) =
      let xs = skeletons (n + count a) args in
      unless_whole negated (formula.In (skeleton n a) (formulas_of xs))
      (list_form (skeleton n a) (formulas_of xs)
      ∙ both (is_whole_form (skeleton n a) && has_item (formulas_of xs)) (are_whole (formulas_of xs))
      (both (is_whole_form (skeleton n a)) (has_item (formulas_of xs)) (skeleton_whole n a) (skeletons_some (n + count a) args)) (all_forms xs (skeletons_whole (n + count a) args)))
  skeleton_whole n (Between negated a low high) =
      let l = skeleton (n + count a) low in
      let h = skeleton (n + count a + count low) high in
      unless_whole negated (formula.Between (skeleton n a) l h)
      (both (is_whole_form (skeleton n a) && is_whole_form l) (is_whole_form h)
      (both (is_whole_form (skeleton n a)) (is_whole_form l) (skeleton_whole n a) (skeleton_whole (n + count a) low)) (skeleton_whole (n + count a + count low) high))
  skeleton_whole n (Like negated a pattern) = unless_whole negated (formula.Like (skeleton n a) _) (skeleton_whole n a)
  skeleton_whole n (Not a) = skeleton_whole n a

  skeletons_whole : (n : ℕ) (args : Args) → Every is_whole_form (skeletons n args)
  skeletons_whole n (one a) = both (is_whole_form (skeleton n a)) true (skeleton_whole n a) refl
  skeletons_whole n (more args a) =
      every-append is_whole_form (skeletons n args) (skeleton (n + count_in args) a ∷ []) (skeletons_whole n args)
      (both (is_whole_form (skeleton (n + count_in args) a)) true (skeleton_whole (n + count_in args) a) refl)

  branches_whole : (n : ℕ) (branches : Branches) → Every is_whole_form (branch_skeletons n branches)
  branches_whole n (when c a) =
      both (is_whole_form (skeleton n c)) (is_whole_form (skeleton (n + count c) a) && true) (skeleton_whole n c) (both (is_whole_form (skeleton (n + count c) a)) true (skeleton_whole (n + count c) a) refl)
  branches_whole n (then_when branches c a) =
      let d = skeleton (n + count_among branches) c in
      let b = skeleton (n + count_among branches + count c) a in
      every-append is_whole_form (branch_skeletons n branches) (d ∷ b ∷ []) (branches_whole n branches)
      (both (is_whole_form d) (is_whole_form b && true) (skeleton_whole (n + count_among branches) c) (both (is_whole_form b) true (skeleton_whole (n + count_among branches + count c) a) refl))

-- ---- calculations: each part is there

real_parts : (xs ys : List Token) → list_all is_real (xs ++ ys) ≡ true → (list_all is_real xs ≡ true) × (list_all is_real ys ≡ true)
real_parts [] ys h = (refl, h)
real_parts (t ∷ xs) ys h =
    let heads = both_true (is_real t) (list_all is_real (xs ++ ys)) h in
    let rest = real_parts xs ys heads.1 in
    (both (is_real t) (list_all is_real xs) heads.0 rest.0, rest.1)

number_whole : (r : Result Num NumFault) → is_ok r ≡ true → is_whole_calculation (number_of r) ≡ true
number_whole (Ok n) h = refl
number_whole (Err e) h = absurd (false≢true h)

joined_number : (j : Joint) (a b : Calculation) → is_arithmetic j ≡ true → is_whole_calculation a ≡ true → is_whole_calculation b ≡ true → is_whole_calculation (numbers.joined j a b) ≡ true
joined_number joint.Plus a b is h k = both (is_whole_calculation a) (is_whole_calculation b) h k
joined_number joint.Minus a b is h k = both (is_whole_calculation a) (is_whole_calculation b) h k
joined_number joint.Times a b is h k = both (is_whole_calculation a) (is_whole_calculation b) h k
joined_number joint.Over a b is h k = both (is_whole_calculation a) (is_whole_calculation b) h k
joined_number joint.Or a b is h k = absurd (false≢true is)
joined_number joint.And a b is h k = absurd (false≢true is)
joined_number joint.Concat a b is h k = absurd (false≢true is)

all_numbers : (xs : List Calculation) → Every is_whole_calculation xs → are_whole_numbers (calculations_of xs) ≡ true
all_numbers [] h = refl
all_numbers (a ∷ xs) h =
    both (is_whole_calculation a) (are_whole_numbers (calculations_of xs)) (first (is_whole_calculation a) (list_all is_whole_calculation xs) h)
    (all_numbers xs (second (is_whole_calculation a) (list_all is_whole_calculation xs) h))

some_argument : (xs : List Calculation) (a : Calculation) → has_argument (calculations_of (xs ++ a ∷ [])) ≡ true
some_argument [] a = refl
some_argument (x ∷ xs) a = refl

numbers_some : (n : ℕ) (args : Args) → has_argument (calculations_of (measure_skeletons n args)) ≡ true
numbers_some n (one a) = refl
numbers_some n (more args a) = some_argument (measure_skeletons n args) (measure_skeleton (n + count_in args) a)

coalesce_number : (xs : List Calculation) → has_argument (calculations_of xs) ≡ true → Every is_whole_calculation xs → is_whole_calculation (calculation.Coalesce (calculations_of xs)) ≡ true
coalesce_number xs some h = numbers_form (calculations_of xs) ∙ both (has_argument (calculations_of xs)) (are_whole_numbers (calculations_of xs)) some (all_numbers xs h)

called_number : (f : Option Function) (xs : List Calculation) → has_argument (calculations_of xs) ≡ true → Every is_whole_calculation xs → is_whole_calculation (numbers.called f xs) ≡ true
called_number None xs some h = coalesce_number xs some h
called_number (Some function.Coalesce) xs some h = coalesce_number xs some h
called_number (Some function.NullIf) [] some h = coalesce_number [] some h
called_number (Some function.NullIf) (x ∷ []) some h = coalesce_number (x ∷ []) some h
called_number (Some function.NullIf) (x ∷ y ∷ []) some h =
    let rest = second (is_whole_calculation x) (is_whole_calculation y && true) h in
    both (is_whole_calculation x) (is_whole_calculation y) (first (is_whole_calculation x) (is_whole_calculation y && true) h) (first (is_whole_calculation y) true rest)
called_number (Some function.NullIf) (x ∷ y ∷ z ∷ xs) some h = coalesce_number (x ∷ y ∷ z ∷ xs) some h
called_number (Some function.Lower) xs some h = coalesce_number xs some h
called_number (Some function.Upper) xs some h = coalesce_number xs some h

mutual
  measure_whole : (n : ℕ) (e : Tree) → list_all is_real (print e) ≡ true → is_measure e ≡ true → is_whole_calculation (measure_skeleton n e) ≡ true
  measure_whole n (Number text) real is = number_whole (num_of text) (both_true (is_ok (num_of text)) true real).0
  measure_whole n (Field name) real is = refl
  measure_whole n (FieldOf view name) real is = refl
  measure_whole n (Group a) real is = measure_whole n a (real_parts (print a) (token.Sign sign.Close ∷ []) real).0 is
  measure_whole n (Call name place args) real is =
      let called_is = both_true (is_of_measures (function_of name)) (are_measures args) is in
      called_number (function_of name) (measure_skeletons n args) (numbers_some n args)
      (measures_whole n args (real_parts (print_args args) (token.Sign sign.Close ∷ []) (both_true (is_real (token.Name name place)) (list_all is_real (print_args args ++ token.Sign sign.Close ∷ [])) real).1).0 called_is.1)
  measure_whole n (Negate a) real is = measure_whole n a real is
  measure_whole n (Chain j a b) real is =
      let parts = both_true (is_arithmetic j) (is_measure a && is_measure b) is in
      let sides = both_true (is_measure a) (is_measure b) parts.1 in
      let left_real = real_parts (print a) _ real in
      joined_number j (measure_skeleton n a) (measure_skeleton (n + count a) b) parts.0
      (measure_whole n a left_real.0 sides.0)
      (measure_whole (n + count a) b (both_true (is_real _) (list_all is_real (print b)) left_real.1).1 sides.1)
  measure_whole n (Text text) real is = absurd (false≢true is)
  measure_whole n (Column name) real is = absurd (false≢true is)
  measure_whole n (Name name place) real is = absurd (false≢true is)
  measure_whole n (Truth b) real is = absurd (false≢true is)
  measure_whole n Null real is = absurd (false≢true is)
  measure_whole n (Case branches) real is = absurd (false≢true is)
  measure_whole n (CaseElse branches a) real is = absurd (false≢true is)
  measure_whole n (Compare c a b) real is = absurd (false≢true is)
  measure_whole n (IsNull negated a) real is = absurd (false≢true is)
  measure_whole n (In negated a args) real is = absurd (false≢true is)
  measure_whole n (Between negated a low high) real is = absurd (false≢true is)
  measure_whole n (Like negated a pattern) real is = absurd (false≢true is)
  measure_whole n (Not a) real is = absurd (false≢true is)

  measures_whole : (n : ℕ) (args : Args) → list_all is_real (print_args args) ≡ true → are_measures args ≡ true → Every is_whole_calculation (measure_skeletons n args)
  measures_whole n (one a) real is = both (is_whole_calculation (measure_skeleton n a)) true (measure_whole n a real is) refl
  measures_whole n (more args a) real is =
      let parts = both_true (are_measures args) (is_measure a) is in
      let sides = real_parts (print_args args) (token.Sign sign.Comma ∷ print a) real in
      every-append is_whole_calculation (measure_skeletons n args) (measure_skeleton (n + count_in args) a ∷ [])
      (measures_whole n args sides.0 parts.0)
      (both (is_whole_calculation (measure_skeleton (n + count_in args) a)) true
      (measure_whole (n + count_in args) a (both_true (is_real (token.Sign sign.Comma)) (list_all is_real (print a)) sides.1).1 parts.1) refl)

-- ---- calculations: what they name

-- a number from one on is that of a reference
abbrev IsFrom : ℕ → List Reference → ℕ → Type 0
IsFrom n references i = (k : ℕ) × (i ≡ n + k) × IsReferred references k

got_front : (xs ys : List Reference) (k : ℕ) (r : Reference) → slice_get xs k ≡ Some r → slice_get (xs ++ ys) k ≡ Some r
got_front [] ys k r h = absurd (some_none (sym h))
got_front (x ∷ xs) ys zero r h = h
got_front (x ∷ xs) ys (suc k) r h = got_front xs ys k r h

got_behind : (xs ys : List Reference) (k : ℕ) (r : Reference) → slice_get ys k ≡ Some r → slice_get (xs ++ ys) (length xs + k) ≡ Some r
got_behind [] ys k r h = ap (slice_get ys) (none k) ∙ h
  where
    none : (n : ℕ) → zero + n ≡ n
    none n = omega arith
got_behind (x ∷ xs) ys k r h = ap (slice_get (x ∷ (xs ++ ys))) (one_more (length xs) k) ∙ got_behind xs ys k r h
  where
    one_more : (m n : ℕ) → suc m + n ≡ suc (m + n)
    one_more m n = omega arith

in_front : (n : ℕ) (xs ys : List Reference) (i : ℕ) → IsFrom n xs i → IsFrom n (xs ++ ys) i
in_front n xs ys i h = (h.0, h.1, (h.2.0, got_front xs ys h.0 h.2.0 h.2.1, h.2.2))

in_rest : (n : ℕ) (xs ys : List Reference) (i : ℕ) → IsFrom (n + length xs) ys i → IsFrom n (xs ++ ys) i
in_rest n xs ys i h = (length xs + h.0, number i h.0 h.1, (h.2.0, got_behind xs ys h.0 h.2.0 h.2.1, h.2.2))
  where
    number : (j k : ℕ) → j ≡ n + length xs + k → j ≡ n + (length xs + k)
    number j k e = omega arith

numbers_append : (xs ys : List Calculation) → measures_in_all (calculations_of (xs ++ ys)) ≡ measures_in_all (calculations_of xs) ++ measures_in_all (calculations_of ys)
numbers_append [] ys = refl
numbers_append (x ∷ xs) ys = ap (λ ns. measures_in x ++ ns) (numbers_append xs ys) ∙ sym (grouped (measures_in x) (measures_in_all (calculations_of xs)) (measures_in_all (calculations_of ys)))
  where
    grouped : (a b c : List ℕ) → (a ++ b) ++ c ≡ a ++ (b ++ c)
    grouped [] b c = refl
    grouped (n ∷ a) b c = ap (λ ns. n ∷ ns) (grouped a b c)

module _ (P : ℕ → Type 0) where
  joined_named : (j : Joint) (a b : Calculation) → AllByRecursion P (measures_in a) → AllByRecursion P (measures_in b) → AllByRecursion P (measures_in (numbers.joined j a b))
  joined_named joint.Plus a b h k = all_append P (measures_in a) (measures_in b) h k
  joined_named joint.Minus a b h k = all_append P (measures_in a) (measures_in b) h k
  joined_named joint.Times a b h k = all_append P (measures_in a) (measures_in b) h k
  joined_named joint.Over a b h k = all_append P (measures_in a) (measures_in b) h k
  joined_named joint.Or a b h k = tt
  joined_named joint.And a b h k = tt
  joined_named joint.Concat a b h k = tt

  called_named : (f : Option Function) (xs : List Calculation) → AllByRecursion P (measures_in_all (calculations_of xs)) → AllByRecursion P (measures_in (numbers.called f xs))
  called_named (Some function.Coalesce) xs h = h
  called_named (Some function.NullIf) [] h = h
  called_named (Some function.NullIf) (a ∷ []) h = h
  called_named (Some function.NullIf) (a ∷ b ∷ []) h = subst (λ ns. AllByRecursion P (measures_in a ++ ns)) (append-nil (measures_in b)) h
  called_named (Some function.NullIf) (a ∷ b ∷ c ∷ xs) h = h
  called_named (Some function.Lower) xs h = h
  called_named (Some function.Upper) xs h = h
  called_named None xs h = h

number_named : (n : ℕ) (references : List Reference) (r : Result Num NumFault) → AllByRecursion (IsFrom n references) (measures_in (number_of r))
number_named n references (Ok v) = tt
number_named n references (Err e) = tt

first_of : (n : ℕ) → n ≡ n + zero
first_of n = omega arith

mutual
  measure_named : (n : ℕ) (e : Tree) → AllByRecursion (IsFrom n (references_of e)) (measures_in (measure_skeleton n e))
  measure_named n (Number text) = number_named n [] (num_of text)
  measure_named n (Field name) = ((zero, first_of n, (_, refl, tt)), tt)
  measure_named n (FieldOf view name) = ((zero, first_of n, (_, refl, tt)), tt)
  measure_named n (Group a) = measure_named n a
  measure_named n (Call name place args) = called_named (IsFrom n (references_in args)) (function_of name) (measure_skeletons n args) (measures_named n args)
  measure_named n (Negate a) = measure_named n a
  measure_named n (Chain j a b) =
      joined_named (IsFrom n (references_of a ++ references_of b)) j (measure_skeleton n a) (measure_skeleton (n + count a) b)
      (all_more (IsFrom n (references_of a)) (IsFrom n (references_of a ++ references_of b)) (λ i h. in_front n (references_of a) (references_of b) i h) (measures_in (measure_skeleton n a)) (measure_named n a))
      (all_more (IsFrom (n + count a) (references_of b)) (IsFrom n (references_of a ++ references_of b)) (λ i h. in_rest n (references_of a) (references_of b) i h) (measures_in (measure_skeleton (n + count a) b)) (measure_named (n + count a) b))
  measure_named n (Text text) = tt
  measure_named n (Column name) = tt
  measure_named n (Name name place) = tt
  measure_named n (Truth b) = tt
  measure_named n Null = tt
  measure_named n (Case branches) = tt
  measure_named n (CaseElse branches a) = tt
  measure_named n (Compare c a b) = tt
  measure_named n (IsNull negated a) = tt
  measure_named n (In negated a args) = tt
  measure_named n (Between negated a low high) = tt
  measure_named n (Like negated a pattern) = tt
  measure_named n (Not a) = tt

  measures_named : (n : ℕ) (args : Args) → AllByRecursion (IsFrom n (references_in args)) (measures_in_all (calculations_of (measure_skeletons n args)))
  measures_named n (one a) = all_append (IsFrom n (references_of a)) (measures_in (measure_skeleton n a)) [] (measure_named n a) tt
  measures_named n (more args a) =
      let last = measure_skeleton (n + count_in args) a in
      let all = references_in args ++ references_of a in
      subst (λ ns. AllByRecursion (IsFrom n all) ns) (sym (numbers_append (measure_skeletons n args) (last ∷ [])))
      (all_append (IsFrom n all) (measures_in_all (calculations_of (measure_skeletons n args))) (measures_in last ++ [])
      (all_more (IsFrom n (references_in args)) (IsFrom n all) (λ i h. in_front n (references_in args) (references_of a) i h) (measures_in_all (calculations_of (measure_skeletons n args))) (measures_named n args))
      (all_append (IsFrom n all) (measures_in last) []
      (all_more (IsFrom (n + count_in args) (references_of a)) (IsFrom n all) (λ i h. in_rest n (references_in args) (references_of a) i h) (measures_in last) (measure_named (n + count_in args) a)) tt))

referred : (e : Tree) → AllByRecursion (IsReferred (references_of e)) (measures_in (measure_skeleton 0 e))
referred e =
    all_more (IsFrom 0 (references_of e)) (IsReferred (references_of e)) (λ i h. subst (IsReferred (references_of e)) (sym (from_zero i h.0 h.1)) h.2) (measures_in (measure_skeleton 0 e)) (measure_named 0 e)
  where
    from_zero : (i k : ℕ) → i ≡ 0 + k → i ≡ k
    from_zero i k e = omega arith

-- ---- codes

-- what a text is read as is whole, and names what is there
abbrev pub IsRightCode : Code → Type 0
IsRightCode c = IsWholeCode c × IsReferredCode c

reading_right : (g : Grammar) (text : List ℕ) (c : Code) → IsReading g text c → IsRightCode c
reading_right Expressions text (code.Expr written) h = (subst (λ (w : _). is_whole_form w.expr ≡ true) (sym h.2) (skeleton_whole 0 h.0), tt)
reading_right Measures text (code.Number written) h = (
  subst (λ (w : _). is_whole_calculation w.expr ≡ true) (sym h.2)
      (measure_whole 0 h.0 (spelled_real (length text) (print h.0) text h.1.expr.spelled) h.1.measure),
  subst (λ (w : _). AllByRecursion (IsReferred w.references) (measures_in w.expr)) (sym h.2) (referred h.0),
)
reading_right Expressions text (code.Number written) h = absurd h
reading_right Measures text (code.Expr written) h = absurd h
reading_right g text (code.Syntax place) h = (tt, tt)
reading_right g text code.Absent h = (tt, tt)
reading_right g text code.Liquid h = (tt, tt)

pub code_right : (over : Bool) (text : Option (List ℕ)) (c : Code) → IsCode over text c → IsRightCode c
code_right over None c h = subst IsRightCode (sym h) (tt, tt)
code_right over (Some text) c h = of_liquid (holds_liquid text) h
  where
    of_liquid : (b : Bool) → IsLiquidOr b (grammar_of over) text c → IsRightCode c
    of_liquid true is = subst IsRightCode (sym is) (tt, tt)
    of_liquid false is = reading_right (grammar_of over) text c is
