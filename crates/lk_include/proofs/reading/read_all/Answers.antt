use Rattle.std.proofs.Common.{◌≡◌, length, subst, rules, arith, IfSome}
use Rattle.lk_include.specs.Gathering.{goes_on, step}
use Rattle.lk_include.specs.Following.{IsStopped, progress_of}
use Rattle.lk_include.proofs.ReadSteps.{steps_on, steps_stop}
use Rattle.lk_include.proofs.reading.read_all.Goals as goal

pub returns-in-Err-clause-steps : goal.returns-in-Err-clause-steps
returns-in-Err-clause-steps g c =
    steps_stop (g.F.Files.told c.args.files.now) (length c.args.listing.now.lookml) c.loop-round.round (progress_of c.args.reading.now)
    (progress_of c.loop-round.reading) c.in-Err.fault (omega arith) c.loop-round.invariant.steps
    (subst (λ t. IfSome t (λ told. IsStopped c.in-Err.fault (step told (progress_of c.loop-round.reading))))
    c.loop-round.invariant.same c.in-Err.ensures.step)

pub loop-round-preserved : goal.loop-round-preserved
loop-round-preserved g c = record {
  steps = steps_on (g.F.Files.told c.args.files.now) (length c.args.listing.now.lookml) c.loop-round.round (progress_of c.args.reading.now)
      (progress_of c.loop-round.reading) (progress_of c.read_one.new.reading)
      (omega arith) c.loop-round.invariant.steps
      (subst (λ t. IfSome t (λ told. step told (progress_of c.loop-round.reading) ≡ goes_on (progress_of c.read_one.new.reading)))
      c.loop-round.invariant.same c.in-Ok.ensures.step);
  read = c.in-Ok.ensures.read;
  same = first_of (search rules, grind arith);
  later = first_of (search rules, omega arith);
}
