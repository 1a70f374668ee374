use Rattle.std.proofs.Common.{◌≡◌, ◌+◌, ◌-◌, ◌∙◌, suc, arith, ap, sym}
use Rattle.lk_model.specs.ViewKinds.{round, rounds}
use Rattle.lk_model.proofs.KindLaws.{settled}
use Rattle.lk_model.proofs.view_kinds.rounds.Goals as goal

pub returns-then-are_same : goal.returns-then-are_same
returns-then-are_same c =
    let schema = c.args.schema.now in
    let declared = c.args.declared.now in
    let kinds = c.loop-round.kinds in
    let left = c.args.most - c.loop-round._round in
    let same : round schema declared kinds ≡ kinds = sym c.in_ok-next.ensures ∙ c.are_same.ensures c.if-are_same.true in
    sym (settled schema declared kinds left same) ∙ c.loop-round.invariant.rest

pub loop-round-preserved : goal.loop-round-preserved
loop-round-preserved c =
    let schema = c.args.schema.now in
    let declared = c.args.declared.now in
    let rest = c.args.most - (c.loop-round._round + 1) in
    let left : c.args.most - c.loop-round._round ≡ suc rest = omega arith in
    record {
      begun = omega arith;
      rest = ap (rounds schema declared rest) c.in_ok-next.ensures
          ∙ ap (λ n. rounds schema declared n c.loop-round.kinds) (sym left)
          ∙ c.loop-round.invariant.rest;
    }
