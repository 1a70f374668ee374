use Rattle.std.proofs.Common.{[], refl, subst, sym}
use Rattle.std.specs.Prelude.{None}
use Rattle.lk_semantics.specs.Answers.{no_measure}
use Rattle.lk_gather.specs.Dims.{AreTests}
use Rattle.lk_gather.proofs.MeasureLaws.{is_taken}
use Rattle.lk_gather.proofs.measures.taken_by_none.Goals as goal

pub returns : goal.returns
returns c =
    let tests = subst (AreTests c.args.explore.now []) (sym c.new.ensures) tt in
    is_taken c.args.explore.now no_measure (record { key = c.key_of_part-key.result; value = None; tests = c.new.result; wanted = c.wanted.result })
    c.requires refl c.key_of_part-key.ensures refl tests c.wanted.ensures
