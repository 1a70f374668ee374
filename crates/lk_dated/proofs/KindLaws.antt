-- The kinds of an expression over columns that all have known kinds.
use Rattle.std.proofs.Common.{◌≡◌, ℕ, ◌&&◌, refl, ap}
use Rattle.std.specs.Prelude.{not}
use Rattle.lk_types.specs.Formula.{Formula, Column, Literal, Framed, Not, And, Or, Compare, IsNull, In, Between, Like, Number, Negate, Concat, Lower, Upper, Case, Coalesce, NullIf, Formulas, no_more, more, Cases, without_else, otherwise, when}
use Rattle.lk_types.specs.Kinds.{shared, kinds_if, comparable, do_compare, is_empty, kind_at, kinds_of, kinds_of_all, kinds_of_cases, kinds_of_column, do_all_compare, kinds_framed, truth_if, number_if, text_if}
use Rattle.lk_types.specs.declared.kind_set.KindSet.{KindSet}
use Rattle.lk_types.specs.declared.kind_set.Leaves.{Leaves}
use Rattle.lk_dated.specs.FormulaKinds.{kinds_by, do_all_compare_by, kinds_of_all_by, kinds_of_cases_by}

module _ (leaves : Leaves) where
  abbrev pub known : ℕ → ℕ → KindSet
  known part column = kinds_of_column (kind_at leaves part column)

  mutual
    pub as_known : (e : Formula) → kinds_by known e ≡ kinds_of leaves e
    as_known (Column p c) = refl
    as_known (Literal v) = refl
    as_known (Framed f a) = ap (kinds_framed f) (as_known a)
    as_known (Not a) = ap (λ (k : KindSet). truth_if k.truth) (as_known a)
    as_known (And a b) = λ i. truth_if ((as_known a i).truth && (as_known b i).truth)
    as_known (Or a b) = λ i. truth_if ((as_known a i).truth && (as_known b i).truth)
    as_known (Compare c a b) = λ i. truth_if (do_compare (as_known a i) (as_known b i))
    as_known (IsNull a) = ap (λ k. truth_if (not (is_empty k))) (as_known a)
    as_known (In a xs) = λ i. truth_if (not (is_empty (as_known a i)) && compared_known (as_known a i) xs i)
    as_known (Between a low high) = λ i. truth_if (do_compare (as_known a i) (as_known low i) && do_compare (as_known a i) (as_known high i))
    as_known (Like a pieces) = ap (λ (k : KindSet). truth_if k.text) (as_known a)
    as_known (Number op a b) = λ i. number_if ((as_known a i).number && (as_known b i).number)
    as_known (Negate a) = ap (λ (k : KindSet). number_if k.number) (as_known a)
    as_known (Concat a b) = λ i. text_if ((as_known a i).text && (as_known b i).text)
    as_known (Lower a) = ap (λ (k : KindSet). text_if k.text) (as_known a)
    as_known (Upper a) = ap (λ (k : KindSet). text_if k.text) (as_known a)
    as_known (Case cases) = cases_known cases
    as_known (Coalesce xs) = all_known xs
    as_known (NullIf a b) = λ i. shared (as_known a i) (comparable (as_known b i))

    compared_known : (k : KindSet) (xs : Formulas) → do_all_compare_by known k xs ≡ do_all_compare leaves k xs
    compared_known k no_more = refl
    compared_known k (more a xs) = λ i. do_compare k (as_known a i) && compared_known k xs i

    all_known : (xs : Formulas) → kinds_of_all_by known xs ≡ kinds_of_all leaves xs
    all_known no_more = refl
    all_known (more a xs) = λ i. shared (as_known a i) (all_known xs i)

    cases_known : (cases : Cases) → kinds_of_cases_by known cases ≡ kinds_of_cases leaves cases
    cases_known without_else = refl
    cases_known (otherwise a) = as_known a
    cases_known (when c a rest) = λ i. kinds_if (as_known c i).truth (shared (as_known a i) (cases_known rest i))
