use Rattle.std.proofs.Common.{◌+◌, ℕ, List, ◌∙◌, ap, drop}
use Rattle.lk_tree.proofs.ComponentLaws.{found_all, found_first, found_next}
use Rattle.lk_tree.proofs.component.first_each.Goals as goal

pub loop-n-init : goal.loop-n-init
loop-n-init c = ap (λ (first : List ℕ). found_first first c.args.numbers.now) c.new-first.ensures ∙ found_all c.args.numbers.now

pub loop-n-preserved : goal.loop-n-preserved
loop-n-preserved c =
    ap (λ (first : List ℕ). found_first first (drop (c.loop-n.n-index + 1) c.args.numbers.now)) c.in_ok-add_new.ensures
    ∙ found_next c.loop-n.first c.args.numbers.now c.loop-n.n-index c.loop-n-test.true
    ∙ c.loop-n.invariant
