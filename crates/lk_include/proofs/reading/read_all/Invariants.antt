use Rattle.std.proofs.Common.{◌≡◌, ◌≤◌, ◌-◌, length, IfSome}
use Rattle.lk_include.specs.Gathering.{steps}
use Rattle.lk_include.specs.Following.{progress_of}
use Rattle.lk_include.specs.Reading.{AreRead}
use Rattle.lk_include.proofs.reading.read_all.Given as goal

-- the steps that are left lead from here where all of them lead
abbrev pub invariant-loop-round : goal.invariant-loop-round
invariant-loop-round g l = record {
  steps : IfSome (g.F.Files.told l.fn.files) (λ told.
      steps told (length l.listing.lookml - l.round) (progress_of l.reading)
      ≡ steps told (length l.listing.lookml) (progress_of l.fn.reading));
  read : AreRead l.reading.trees;
  same : g.F.Files.told l.files ≡ g.F.Files.told l.fn.files;
  later : g.F.Files.faults l.fn.files ≤ g.F.Files.faults l.files;
}
