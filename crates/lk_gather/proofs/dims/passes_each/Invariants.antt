use Rattle.std.proofs.Common.{◌≡◌, drop}
use Rattle.std.specs.List.{list_all}
use Rattle.lk_gather.specs.Dims.{is_met_by}
use Rattle.lk_gather.proofs.dims.passes_each.Given as goal

abbrev pub invariant-loop-test : goal.invariant-loop-test
invariant-loop-test g l =
    list_all (is_met_by (g.R.HasCells.row_of l.row)) (drop l.test-index l.tests) ≡ list_all (is_met_by (g.R.HasCells.row_of l.row)) l.tests
