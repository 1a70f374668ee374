use Rattle.lk_region.proofs.ChainLaws.{AreLeft, above}
use Rattle.lk_region.proofs.region.Region.find.Given as goal

abbrev pub invariant-loop-candidate : goal.invariant-loop-candidate
invariant-loop-candidate l = AreLeft l.self-inside.texts l.text l.candidate

abbrev pub decreases-loop-candidate : goal.decreases-loop-candidate
decreases-loop-candidate l = above l.candidate
