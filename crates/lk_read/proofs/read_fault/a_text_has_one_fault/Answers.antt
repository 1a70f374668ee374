use Rattle.lk_read.proofs.OneFault.{one_fault, no_tree, tree_or_fault}
use Rattle.lk_read.proofs.read_fault.a_text_has_one_fault.Goals as goal

pub returns : goal.returns
returns c = record { one = one_fault; unspelled = no_tree; some = tree_or_fault }
