use Rattle.std.proofs.lemmas.Bool.{false≢true}
use Rattle.std.proofs.Common.{refl}
use Rattle.lk_tree_laws.proofs.examples.unresolved_corners_are_defined.Goals as goal

pub returns-clause-text : goal.returns-clause-text
returns-clause-text c = refl

pub returns-clause-joins : goal.returns-clause-joins
returns-clause-joins c = λ h. absurd (false≢true h.few_joins)

pub returns-clause-moment : goal.returns-clause-moment
returns-clause-moment c = λ h. absurd (false≢true h.fixed)
