use Rattle.std.proofs.Common.{◌≡◌, ◌∙◌}
use Rattle.std.proofs.lemmas.Result.{IfOk-weaker}
use Rattle.lk_types.specs.Formula.{And}
use Rattle.lk_types.specs.Unfolded.{from_to}
use Rattle.lk_dated.specs.DatedNodes.{first_beside}
use Rattle.lk_dated.proofs.WrittenLaws.{ranged_made}
use Rattle.lk_dated.proofs.written_out.from_to.Goals as goal

pub returns : goal.returns
returns c =
    let sides = c.args.sides.now in
    let all = c.args.operands.items in
    let from = c.in_ok-from.from in
    let to = c.in_ok-to.to in
    IfOk-weaker c.binary.result (λ tree. tree ≡ And from to) (λ tree. tree ≡ from_to (first_beside sides all 1) (first_beside sides all 2))
    (λ tree is. is ∙ ranged_made sides all c.last_of-high.new.operands.items c.last_of-low.new.operands.items c.as_slice-first.result.now c.last_of-low.result c.last_of-high.result from to c.side_at.result c.side_at-2.result
    c.requires c.last_of-high.ensures c.last_of-low.ensures c.as_slice-first.ensures.value c.side_at.ensures c.side_at-2.ensures c.in_ok-from.ensures c.in_ok-to.ensures)
    c.binary.ensures
