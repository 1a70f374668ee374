use Rattle.std.proofs.Common.{◌∙◌, map}
use Rattle.lk_agg.specs.Columns.{fresh, with_cells}
use Rattle.lk_agg.specs.Gathering.{with_step}
use Rattle.lk_agg.specs.Given.{given_cells}
use Rattle.lk_agg.proofs.GatheringLaws.{gathered-push}
use Rattle.lk_agg.proofs.acc.Acc.add_given.Goals as goal

pub returns : goal.returns
returns c = λ dims ops rows taken few.
    let group = c.args.group in
    let cells = given_cells c.args.cells in
    let place = c.args.place in
    record {
      shape = taken.shape;
      measures = taken.measures;
      groups =
          c.in_ok-add_row.ensures
          ∙ (λ i. with_step (map fresh ((c.as_slice.ensures ∙ taken.measures) i)) (with_cells 0 place cells) (taken.groups i) group)
          ∙ gathered-push dims ops rows (record { place = place; group = group; cells = cells }) few;
    }
