use Rattle.std.proofs.Common.{◌≡◌, ◌∙◌, ap, drop, length, min, sym}
use Rattle.std.specs.Vec.Iter.{into_iter_items}
use Rattle.lk_types.specs.FormulaNodes.{operand}
use Rattle.lk_types.specs.Unfolded.{any_equal, or_equal}
use Rattle.lk_dated.specs.DatedNodes.{equations_beside}
use Rattle.lk_dated.proofs.NodeLaws.{no_equation, none_left}
use Rattle.lk_dated.proofs.WrittenLaws.{one_at_most, or_first, or_last, or_more}
use Rattle.lk_dated.proofs.written_out.any_equal.Goals as goal

pub returns : goal.returns
returns c =
    let x = operand c.args.operands.items 0 in
    let left = c.loop-other.left.now in
    ap (or_equal c.loop-other.made) (sym (no_equation x left) ∙ ap (equations_beside x left) (sym (none_left (into_iter_items c.loop-other.other-iterator) (sym c.loop-other.other-iterator.rest.ok.0 ∙ c.in-None.ensures.steps.0))))
    ∙ c.loop-other.invariant.made

pub loop-other-init : goal.loop-other-init
loop-other-init c =
    let x = operand c.args.operands.items 0 in
    let count : c.min.result ≡ min (length c.args.operands.items) 1 = c.min.ensures ∙ ap (λ n. min n 1) (c.len.ensures ∙ c.args.operands.ok.0) in
    let parts = one_at_most c.args.operands.items c.min.result count in
    record {
      can_go_on = tt;
      will_end = tt;
      first = ap (λ xs. operand xs 0) c.in_ok-others.ensures.items ∙ parts.0;
      made = or_first x c.in_ok-made.made c.args.sides.now c.behind_first-left.result.now c.args.operands.items (into_iter_items c.into_iter-other-iterator.result)
          c.in_ok-made.ensures c.behind_first-left.ensures (c.into_iter-other-iterator.ensures.into_iter_gives.0 ∙ c.in_ok-others.ensures.tail ∙ parts.1);
    }

pub loop-other-preserved : goal.loop-other-preserved
loop-other-preserved c =
    let x = operand c.args.operands.items 0 in
    let side = c.in-Some-split_first.side.now in
    let first = operand c.as_slice.result.now 0 in
    record {
      can_go_on = tt;
      will_end = tt;
      first = c.loop-other.invariant.first;
      made = or_more x first c.in-Some.other c.loop-other.made c.in_ok-equation.equation c.in_ok-made-2.made (any_equal (equations_beside x (drop 1 c.args.sides.now) (drop 1 c.args.operands.items)))
          side c.loop-other.left.now c.in-Some-split_first.rest.now (into_iter_items c.loop-other.other-iterator) (into_iter_items c.next.new.self)
          c.in-Some-split_first.ensures.cases.0 c.in-Some.ensures.steps.0 (ap (λ xs. operand xs 0) c.as_slice.ensures.value ∙ c.loop-other.invariant.first)
          c.in_ok-equation.ensures c.in_ok-made-2.ensures c.loop-other.invariant.made;
    }

pub returns-in_default : goal.returns-in_default
returns-in_default c =
    let x = operand c.args.operands.items 0 in
    or_last x c.loop-other.made (any_equal (equations_beside x (drop 1 c.args.sides.now) (drop 1 c.args.operands.items))) c.loop-other.left.now (into_iter_items c.loop-other.other-iterator)
    c.in_default.ensures.cases c.loop-other.invariant.made
