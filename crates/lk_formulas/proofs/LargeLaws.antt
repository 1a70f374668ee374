-- Whatever stands for what is too large, an expression that is not too large is the same with its text literals read.
use Rattle.std.proofs.Common.{◌≡◌, ℕ, ◌<◌, ◌≤◌, refl, ap, ⊎_elim, arith}
use Rattle.std.specs.Prelude.{◌⊎◌}
use Rattle.lk_types.specs.Formula.{Formula, Column, Literal, Framed, Not, And, Or, Compare, IsNull, In, Between, Like, Number, Negate, Concat, Lower, Upper, Case, Coalesce, NullIf, Formulas, no_more, more, Cases, without_else, otherwise, when}
use Rattle.lk_types.specs.Unfolded.{listed, null_if, ranged}
use Rattle.lk_types.specs.declared.kind_set.KindSet.{KindSet}
use Rattle.lk_fields.specs.Substituted.{nodes_in, nodes_in_all, nodes_in_cases, substituted, substituted_all, substituted_cases}
use Rattle.lk_dated.specs.Dated.{all_dated_by, cases_dated_by, compare_sides, compared, dated_by}

-- two ways to put expressions in that differ only in what as it is written has over m nodes
module _ (kinds : Formula → KindSet) (raw : ℕ → Formula) (s t : ℕ → ℕ → Formula) (m : ℕ) (near : (p i : ℕ) → (s p i ≡ t p i) ⊎ (m < nodes_in (raw i))) where
  mutual
    pub same : (e : Formula) → nodes_in (substituted raw e) ≤ m → dated_by kinds s e ≡ dated_by kinds t e
    same (Column p c) h = ⊎_elim (λ is. is) (λ large. absurd (omega arith)) (near p c)
    same (Literal v) h = refl
    same (Framed f a) h = ap (Framed f) (same a (omega arith))
    same (Not a) h = ap Not (same a (omega arith))
    same (And a b) h = let p = same a (omega arith) in let q = same b (omega arith) in λ i. And (p i) (q i)
    same (Or a b) h = let p = same a (omega arith) in let q = same b (omega arith) in λ i. Or (p i) (q i)
    same (Compare c a b) h = let p = same a (omega arith) in let q = same b (omega arith) in λ i. compare_sides c (compared kinds (p i) (q i))
    same (IsNull a) h = ap IsNull (same a (omega arith))
    same (In a xs) h = let p = same a (omega arith) in let q = same_all xs (omega arith) in λ i. listed (compared kinds) (p i) (q i)
    same (Between a low high) h =
        let p = same a (omega arith) in let q = same low (omega arith) in let r = same high (omega arith) in λ i. ranged (compared kinds) (p i) (q i) (r i)
    same (Like a pieces) h = ap (λ x. Like x pieces) (same a (omega arith))
    same (Number op a b) h = let p = same a (omega arith) in let q = same b (omega arith) in λ i. Number op (p i) (q i)
    same (Negate a) h = ap Negate (same a (omega arith))
    same (Concat a b) h = let p = same a (omega arith) in let q = same b (omega arith) in λ i. Concat (p i) (q i)
    same (Lower a) h = ap Lower (same a (omega arith))
    same (Upper a) h = ap Upper (same a (omega arith))
    same (Case cases) h = ap Case (same_cases cases (omega arith))
    same (Coalesce xs) h = ap Coalesce (same_all xs (omega arith))
    same (NullIf a b) h = let p = same a (omega arith) in let q = same b (omega arith) in λ i. null_if (compared kinds) (p i) (q i)

    same_all : (xs : Formulas) → nodes_in_all (substituted_all raw xs) ≤ m → all_dated_by kinds s xs ≡ all_dated_by kinds t xs
    same_all no_more h = refl
    same_all (more a xs) h = let p = same a (omega arith) in let q = same_all xs (omega arith) in λ i. more (p i) (q i)

    same_cases : (cases : Cases) → nodes_in_cases (substituted_cases raw cases) ≤ m → cases_dated_by kinds s cases ≡ cases_dated_by kinds t cases
    same_cases without_else h = refl
    same_cases (otherwise a) h = ap otherwise (same a (omega arith))
    same_cases (when c a rest) h =
        let p = same c (omega arith) in let q = same a (omega arith) in let r = same_cases rest (omega arith) in λ i. when (p i) (q i) (r i)
