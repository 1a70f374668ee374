use Rattle.std.proofs.Common.{arith, map}
use Rattle.std.specs.Arc.{arc_value}
use Rattle.lk_state.proofs.ContentLaws.{number_small}
use Rattle.lk_edition.specs.Editions.{state_of}
use Rattle.lk_edition.proofs.edition.Edition.next_number.Goals as goal

pub overflow_add-result : goal.overflow_add-result
overflow_add-result c =
    let fields = c.self.inside in
    let small = number_small (state_of fields.number fields.tables (map arc_value fields.loads)) c.self.invariant.standing.small in
    omega (arith, small)
