use Rattle.lk_postfix.proofs.PostfixLaws.{after_nodes-map, depth_after-more}
use Rattle.lk_postfix.proofs.laws.lists_of_nodes_are_computed.Goals as goal

pub returns-clause-mapped : goal.returns-clause-mapped
returns-clause-mapped c = λ made means f does stack nodes. after_nodes-map (λ n. n) made means f does stack nodes

pub returns-clause-deeper : goal.returns-clause-deeper
returns-clause-deeper c = λ k d e nodes h. depth_after-more (λ n. n) k d e nodes h
