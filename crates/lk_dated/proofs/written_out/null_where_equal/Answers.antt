use Rattle.std.proofs.Common.{◌≡◌, ◌∙◌}
use Rattle.std.proofs.lemmas.Result.{IfOk-weaker}
use Rattle.lk_types.specs.Formula.{Case, otherwise, when}
use Rattle.lk_types.specs.FormulaNodes.{operand}
use Rattle.lk_types.specs.Unfolded.{null_where_equal}
use Rattle.lk_dated.specs.DatedNodes.{first_beside}
use Rattle.lk_dated.proofs.WrittenLaws.{null_made}
use Rattle.lk_dated.proofs.written_out.null_where_equal.Goals as goal

pub returns : goal.returns
returns c =
    let sides = c.args.sides.now in
    let all = c.args.operands.items in
    let condition = c.in_ok-is_equal.is_equal in
    let null = c.in_ok-null.null in
    let rest = c.in_ok-otherwise.otherwise in
    IfOk-weaker c.case_of.result (λ tree. tree ≡ Case (when condition null (otherwise rest))) (λ tree. tree ≡ null_where_equal (operand all 0) (first_beside sides all 1))
    (λ tree is. is ∙ null_made sides all c.last_of-other.new.operands.items c.as_slice-first.result.now c.last_of-other.result condition null rest c.side_at.result
    c.requires c.last_of-other.ensures c.as_slice-first.ensures.value c.side_at.ensures c.in_ok-is_equal.ensures c.in_ok-null.ensures c.in_ok-otherwise.ensures)
    c.case_of.ensures
