use Rattle.lk_tree_laws.proofs.ViewLaws.{present_agree, rows_agree}
use Rattle.lk_tree_laws.proofs.laws.rows_with_one_key_agree.Goals as goal

pub returns-clause-determined : goal.returns-clause-determined
returns-clause-determined c = rows_agree

pub returns-clause-present : goal.returns-clause-present
returns-clause-present c = present_agree
