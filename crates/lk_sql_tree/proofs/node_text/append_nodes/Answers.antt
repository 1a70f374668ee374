use Rattle.std.proofs.Common.{◌≡◌, ◌∙◌, ◌++◌, OnOk, List, ℕ, ap, subst}
use Rattle.lk_sql_tree.specs.NodeTexts.{operand_text}
use Rattle.lk_sql_tree.proofs.TreeLaws.{text-nodes}
use Rattle.lk_sql_tree.proofs.node_text.append_nodes.Goals as goal

pub returns : goal.returns
returns c =
    subst (λ (ts : List ℕ). OnOk c.append_operand.result (c.append_operand.new.text ≡ c.args.text.now ++ ts))
    (ap (λ (ts : List (List ℕ)). operand_text ts 0) (c.as_slice.ensures ∙ c.in_ok-stack.ensures) ∙ text-nodes c.args.nodes.now)
    c.append_operand.ensures
