-- Where only the flush failed, all bytes were written.
use Rattle.std.proofs.lemmas.Result.{err_from_is_err_and}
use Rattle.lk_io.proofs.StreamLemmas.{all_is_front}
use Rattle.lk_io.proofs.out_sink.send.Goals as goal

pub returns-in_err-flush-clause-err : goal.returns-in_err-flush-clause-err
returns-in_err-flush-clause-err g c =
    let failed = err_from_is_err_and c.from_residual-in_err-flush.result c.from_residual-in_err-flush.ensures.1 in
    rw failed.1 (all_is_front _ _ _ c.args.bytes.now c.in_ok-write_whole.ensures.ok c.flush.ensures.bytes)
