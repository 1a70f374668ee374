use Rattle.lk_val.proofs.CellLaws.{cell_cmp-itself, cell_cmp-tied, cell_cmp-turned, cell_cmp-less}
use Rattle.lk_val.proofs.laws.cells_are_ordered.Goals as goal

pub returns-clause-itself : goal.returns-clause-itself
returns-clause-itself c = cell_cmp-itself

pub returns-clause-tied : goal.returns-clause-tied
returns-clause-tied c = cell_cmp-tied

pub returns-clause-turned : goal.returns-clause-turned
returns-clause-turned c = cell_cmp-turned

pub returns-clause-less : goal.returns-clause-less
returns-clause-less c = cell_cmp-less
