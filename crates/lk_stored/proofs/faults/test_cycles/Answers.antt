use Rattle.std.proofs.Common.{◌≡◌, ◌+◌, ◌∙◌, suc, None, length, ap, arith, subst, sym}
use Rattle.lk_semantics.specs.Joins.{numbers_below}
use Rattle.lk_scope.specs.Pieces.{first_at}
use Rattle.lk_stored.specs.StoredFaults.{self_read_line}
use Rattle.lk_stored.proofs.FaultLaws.{found_number, next_number}
use Rattle.lk_stored.proofs.faults.test_cycles.Goals as goal

pub returns-in-Some : goal.returns-in-Some
returns-in-Some c =
    found_number (self_read_line c.args.m.now) c.loop-d.d (length c.args.m.now.derived) c.in-Some.line c.loop-d.invariant (sym c.in_ok-line.ensures ∙ c.in-Some.is) (omega (arith, c.loop-d-test.true, c.len-d-end.ensures))

pub loop-d-preserved : goal.loop-d-preserved
loop-d-preserved c =
    let d = c.loop-d.d in
    let next : suc d ≡ d + 1 = omega arith in
    subst (λ n. first_at (self_read_line c.args.m.now) (numbers_below n) ≡ None) next
    (next_number (self_read_line c.args.m.now) d c.loop-d.invariant (sym c.in_ok-line.ensures ∙ c.in_default.is))
