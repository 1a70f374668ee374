-- A write takes a front of the bytes that were not done.
use Rattle.std.proofs.Common.{arith, length, ap, length-drop}
use Rattle.lk_io.proofs.StreamLemmas.{more_of_front, rest_is_drop}
use Rattle.lk_io.proofs.out_sink.write_whole.Goals as goal

pub loop-done-preserved : goal.loop-done-preserved
loop-done-preserved g c =
    let bytes = c.args.bytes.now in
    let done = c.loop-done.done in
    record {
      within = omega (arith, ap length (rest_is_drop done bytes), length-drop done bytes, c.in_ok-count.ensures.bound);
      out = more_of_front _ _ _ bytes done c.in_ok-count.count c.loop-done.invariant.out (rw rest_is_drop at c.in_ok-count.ensures.bytes);
    }
