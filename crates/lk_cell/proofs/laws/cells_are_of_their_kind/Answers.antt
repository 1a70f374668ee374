use Rattle.lk_cell.proofs.CellLaws.{cell_value-dated}
use Rattle.lk_cell.proofs.laws.cells_are_of_their_kind.Goals as goal

pub returns-clause-years : goal.returns-clause-years
returns-clause-years c = cell_value-dated
