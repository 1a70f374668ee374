use Rattle.lk_bureau.proofs.PaddingLaws.{IsMore}
use Rattle.lk_bureau.proofs.bureau.Bureau.pad.Given as goal

-- the present edition was shown once more in each round
abbrev pub invariant-loop : goal.invariant-loop
invariant-loop g l = IsMore l.fn.self l.self l.counter
