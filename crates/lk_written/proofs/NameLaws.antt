-- The names of a node's tree are those of its operands, and then its own.
use Rattle.std.proofs.Common.{◌≡◌, ℕ, ◌-◌, List, [], ◌∷◌, ◌++◌, length, take, drop, refl, sym, ap, ◌∙◌, arith}
use Rattle.lk_expr_tree.specs.declared.raw.RawNode.{RawNode}
use Rattle.lk_expr_tree.specs.declared.raw.RawNode.TheVariants as raw
use Rattle.lk_expr_tree.specs.Grammar.{Tree}
use Rattle.lk_expr_tree.specs.RawNodes.{arity, made, operand, args_among, branches_among}
use Rattle.lk_expr_tree.proofs.GatheredLaws.{gathered-append, last_of}
use Rattle.lk_objects.specs.declared.code.Reference.{Reference}
use Rattle.lk_written.specs.References.{references_of, references_in, references_among}
use Rattle.lk_written.specs.SkeletonNodes.{node_references}
use Rattle.lk_written.proofs.Numbered.{all_references, args_references, branches_references, references_assoc, references_left, references_right}

-- a name itself, which has no operands
named : (own : List Reference) (ts : List Tree) → length ts ≡ 0 → own ≡ all_references ts ++ own
named own [] h = refl
named own (a ∷ ts) h = absurd (omega arith)

-- a node that is no name
unnamed : (own : List Reference) (ts : List Tree) → own ≡ all_references ts → own ≡ all_references ts ++ []
unnamed own ts h = h ∙ sym (references_right (all_references ts))

none : (ts : List Tree) → length ts ≡ 0 → [] ≡ all_references ts
none [] h = refl
none (a ∷ ts) h = absurd (omega arith)

single : (ts : List Tree) → length ts ≡ 1 → references_of (operand ts 0) ≡ all_references ts
single [] h = absurd (omega arith)
single (a ∷ []) h = sym (references_right (references_of a))
single (a ∷ b ∷ ts) h = absurd (omega arith)

two : (ts : List Tree) → length ts ≡ 2 → references_of (operand ts 0) ++ references_of (operand ts 1) ≡ all_references ts
two [] h = absurd (omega arith)
two (a ∷ ts) h = let fewer : length ts ≡ 1 = omega arith in ap (λ rest. references_of a ++ rest) (single ts fewer)

three : (ts : List Tree) → length ts ≡ 3 → references_of (operand ts 0) ++ (references_of (operand ts 1) ++ references_of (operand ts 2)) ≡ all_references ts
three [] h = absurd (omega arith)
three (a ∷ ts) h = let fewer : length ts ≡ 2 = omega arith in ap (λ rest. references_of a ++ rest) (two ts fewer)

list : (ts : List Tree) → references_of (operand ts 0) ++ references_in (args_among (drop 1 ts)) ≡ all_references ts
list [] = refl
list (a ∷ ts) = ap (λ rest. references_of a ++ rest) (args_references ts)

behind : (ts : List Tree) (k : ℕ) → length ts ≡ k → references_among (branches_among (take (k - 1) ts)) ++ references_of (operand ts (k - 1)) ≡ all_references ts
behind [] k h = let zero : k - 1 ≡ 0 = omega arith in rw zero refl
behind (t ∷ ts) k h =
    ap (λ m. m ++ references_of (operand (t ∷ ts) (k - 1))) (branches_references (take (k - 1) (t ∷ ts)))
    ∙ ap (λ m. all_references (take (k - 1) (t ∷ ts)) ++ m) (sym (references_right (references_of (operand (t ∷ ts) (k - 1)))))
    ∙ sym (gathered-append ◌++◌ [] references_assoc references_left references_right references_of (take (k - 1) (t ∷ ts)) (operand (t ∷ ts) (k - 1) ∷ []))
    ∙ ap all_references (last_of (t ∷ ts) k h (omega arith))

pub node_names : (n : RawNode) (ts : List Tree) → length ts ≡ arity n → references_of (made n ts) ≡ all_references ts ++ node_references n
node_names (raw.Number number) ts h = unnamed _ ts (none ts h)
node_names (raw.Text text) ts h = unnamed _ ts (none ts h)
node_names (raw.Truth b) ts h = unnamed _ ts (none ts h)
node_names raw.Null ts h = unnamed _ ts (none ts h)
node_names (raw.Name name place) ts h = named _ ts h
node_names (raw.Column name) ts h = named _ ts h
node_names (raw.Field name) ts h = named _ ts h
node_names (raw.FieldOf view name) ts h = named _ ts h
node_names raw.Group ts h = unnamed _ ts (single ts h)
node_names (raw.Call name place k) ts h = unnamed _ ts (args_references ts)
node_names (raw.Case k) ts h = unnamed _ ts (branches_references ts)
node_names (raw.CaseElse k) ts h = unnamed _ ts (behind ts k h)
node_names raw.Negate ts h = unnamed _ ts (single ts h)
node_names (raw.Chain j) ts h = unnamed _ ts (two ts h)
node_names (raw.Compare c) ts h = unnamed _ ts (two ts h)
node_names (raw.IsNull negated) ts h = unnamed _ ts (single ts h)
node_names (raw.In negated k) ts h = unnamed _ ts (list ts)
node_names (raw.Between negated) ts h = unnamed _ ts (three ts h)
node_names (raw.Like negated pattern) ts h = unnamed _ ts (single ts h)
node_names raw.Not ts h = unnamed _ ts (single ts h)
