use Rattle.std.proofs.Common.{◌≡◌, drop}
use Rattle.lk_params.specs.Picking.{first_in}
use Rattle.lk_include.specs.Gathering.{reaches_nothing}
use Rattle.lk_include.proofs.includes.reaches_nothing.Given as goal

abbrev pub invariant-loop-include : goal.invariant-loop-include
invariant-loop-include l =
    first_in (reaches_nothing l.lookml l.file) (drop l.include-index l.includes) ≡ first_in (reaches_nothing l.lookml l.file) l.includes
