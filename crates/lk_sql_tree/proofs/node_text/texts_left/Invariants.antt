use Rattle.std.proofs.Common.{◌≡◌, [], take}
use Rattle.lk_postfix.specs.Postfix.{after_nodes}
use Rattle.lk_sql_tree.specs.SqlNodes.{arity}
use Rattle.lk_sql_tree.specs.NodeTexts.{text_made}
use Rattle.lk_sql_tree.proofs.node_text.texts_left.Given as goal

abbrev pub invariant-loop-node : goal.invariant-loop-node
invariant-loop-node l = l.stack ≡ after_nodes arity text_made [] (take l.node-index l.nodes)
