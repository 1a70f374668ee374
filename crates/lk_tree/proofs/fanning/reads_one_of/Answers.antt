use Rattle.std.proofs.Common.{◌∙◌, sym, arith}
use Rattle.lk_semantics.specs.Joins.{condition_of, mentions_of}
use Rattle.lk_tree.proofs.PartSetLaws.{none_of_all, one_of_some}
use Rattle.lk_tree.proofs.fanning.reads_one_of.Goals as goal

pub returns-then-join_reads : goal.returns-then-join_reads
returns-then-join_reads c = λ parts h.
    sym (one_of_some c.args.set parts (mentions_of (condition_of c.args.join.now)) c.loop-part.part h c.if-set-part.true (sym c.join_reads.ensures ∙ c.if-join_reads.true))

pub returns : goal.returns
returns c = λ parts h.
    sym (none_of_all c.args.set parts (mentions_of (condition_of c.args.join.now)) h (λ p within. c.loop-part.invariant p (omega (arith, within, c.loop-part-test.false))))
