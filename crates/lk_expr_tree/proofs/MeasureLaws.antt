-- An expression is one over measures where each of its nodes may stand in one.
use Rattle.std.proofs.Common.{◌≡◌, Bool, true, false, List, [], ◌∷◌, length, Some, refl, sym, ap, ◌∙◌, arith}
use Rattle.std.specs.Prelude.{◌&&◌}
use Rattle.std.specs.List.{list_all}
use Rattle.lk_postfix.specs.Postfix.{depth_after, gathered}
use Rattle.lk_postfix.proofs.PostfixLaws.{gathered-Builds}
use Rattle.lk_expr_token.specs.Functions.{function_of, is_of_measures}
use Rattle.lk_expr_tree.specs.declared.raw.RawNode.{RawNode}
use Rattle.lk_expr_tree.specs.declared.raw.RawNode.TheVariants as raw
use Rattle.lk_expr_tree.specs.Grammar.{Tree}
use Rattle.lk_expr_tree.specs.RawNodes.{arity, made, args_among, trees_of}
use Rattle.lk_expr_tree.specs.Calls.{is_measure, are_measures, is_arithmetic}
use Rattle.lk_expr_tree.specs.NodeCalls.{is_measure_node}
use Rattle.lk_expr_tree.proofs.GatheredLaws.{args_among-gathered}

and_assoc : (a b c : Bool) → (a && b) && c ≡ a && (b && c)
and_assoc true b c = refl
and_assoc false b c = refl

and_left : (a : Bool) → true && a ≡ a
and_left a = refl

and_right : (a : Bool) → a && true ≡ a
and_right true = refl
and_right false = refl

and_false : (a : Bool) → false ≡ a && false
and_false true = refl
and_false false = refl

and_swap : (a b : Bool) → a && b ≡ b && a
and_swap true true = refl
and_swap true false = refl
and_swap false true = refl
and_swap false false = refl

abbrev all_measures : List Tree → Bool
all_measures ts = gathered ◌&&◌ true is_measure ts

args_measures : (ts : List Tree) → are_measures (args_among ts) ≡ all_measures ts
args_measures ts = args_among-gathered ◌&&◌ true and_assoc and_left and_right is_measure refl are_measures (λ a. refl) (λ args a. refl) ts

one_measure : (ts : List Tree) (n : RawNode) → length ts ≡ 1 → ((a : Tree) → is_measure (made n (a ∷ [])) ≡ is_measure a) → is_measure_node n ≡ true → is_measure (made n ts) ≡ all_measures ts && is_measure_node n
one_measure [] n h is node = absurd (omega arith)
one_measure (a ∷ []) n h is node = rw node (is a ∙ sym (and_right (is_measure a)) ∙ sym (and_right (is_measure a && true)))
one_measure (a ∷ b ∷ ts) n h is node = absurd (omega arith)

measured : (n : RawNode) (ts : List Tree) → length ts ≡ arity n → is_measure (made n ts) ≡ all_measures ts && is_measure_node n
measured (raw.Number number) [] h = refl
measured (raw.Number number) (a ∷ ts) h = absurd (omega arith)
measured (raw.Field name) [] h = refl
measured (raw.Field name) (a ∷ ts) h = absurd (omega arith)
measured (raw.FieldOf view name) [] h = refl
measured (raw.FieldOf view name) (a ∷ ts) h = absurd (omega arith)
measured raw.Group ts h = one_measure ts raw.Group h (λ a. refl) refl
measured raw.Negate ts h = one_measure ts raw.Negate h (λ a. refl) refl
measured (raw.Call name place count) ts h =
    ap (λ m. is_of_measures (function_of name) && m) (args_measures ts) ∙ and_swap (is_of_measures (function_of name)) (all_measures ts)
measured (raw.Chain j) [] h = absurd (omega arith)
measured (raw.Chain j) (a ∷ []) h = absurd (omega arith)
measured (raw.Chain j) (a ∷ b ∷ []) h =
    and_swap (is_arithmetic j) (is_measure a && is_measure b)
    ∙ ap (λ m. (is_measure a && m) && is_arithmetic j) (sym (and_right (is_measure b)))
measured (raw.Chain j) (a ∷ b ∷ c ∷ ts) h = absurd (omega arith)
measured (raw.Text text) ts h = and_false (all_measures ts)
measured (raw.Truth b) ts h = and_false (all_measures ts)
measured raw.Null ts h = and_false (all_measures ts)
measured (raw.Name name place) ts h = and_false (all_measures ts)
measured (raw.Column name) ts h = and_false (all_measures ts)
measured (raw.Case count) ts h = and_false (all_measures ts)
measured (raw.CaseElse count) ts h = and_false (all_measures ts)
measured (raw.Compare c) ts h = and_false (all_measures ts)
measured (raw.IsNull n) ts h = and_false (all_measures ts)
measured (raw.In n count) ts h = and_false (all_measures ts)
measured (raw.Between n) ts h = and_false (all_measures ts)
measured (raw.Like n text) ts h = and_false (all_measures ts)
measured raw.Not ts h = and_false (all_measures ts)

nodes_all : (nodes : List RawNode) → list_all is_measure_node nodes ≡ gathered ◌&&◌ true is_measure_node nodes
nodes_all [] = refl
nodes_all (n ∷ nodes) = ap (λ m. is_measure_node n && m) (nodes_all nodes)

pub measure_of_nodes : (nodes : List RawNode) (t : Tree) → trees_of nodes ≡ t ∷ [] → depth_after arity 0 nodes ≡ Some 1 → list_all is_measure_node nodes ≡ is_measure t
measure_of_nodes nodes t value whole =
    nodes_all nodes
    ∙ sym (gathered-Builds arity made ◌&&◌ true and_assoc and_left and_right is_measure is_measure_node measured {nodes = nodes} (record { stack = value; depth = whole }))
    ∙ and_right (is_measure t)
