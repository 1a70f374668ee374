use Rattle.std.proofs.Common.{◌≡◌, suc, ◌+◌, drop, ap, sym, ◌∙◌, arith}
use Rattle.std.specs.Prelude.{option_map}
use Rattle.lk_sql_read.specs.Machine.{go_on, read}
use Rattle.lk_sql_read.proofs.StepLaws.{one_step}
use Rattle.lk_sql_read.proofs.expression.read_nodes.Goals as goal

pub returns-in-None : goal.returns-in-None
returns-in-None c =
    let i = c.loop-byte._byte-index in
    ap (λ o. go_on (read (drop (suc i) c.args.text.now)) (option_map (λ first. (first.0, first.1.now)) o)) (sym c.in-None.is)
    ∙ ap (go_on (read (drop (suc i) c.args.text.now))) c.in_ok-next.ensures
    ∙ sym (one_step i c.args.text.now c.loop-byte.reader c.loop-byte.rest.now (omega (arith, c.loop-byte-test.true)) (sym c.is_done.ensures ∙ c.if-is_done.false))
    ∙ c.loop-byte.invariant

pub loop-byte-preserved : goal.loop-byte-preserved
loop-byte-preserved c =
    let i = c.loop-byte._byte-index in
    let next : i + 1 ≡ suc i = omega arith in
    rw next (
    ap (λ o. go_on (read (drop (suc i) c.args.text.now)) (option_map (λ first. (first.0, first.1.now)) o)) (sym c.in-Some.is)
    ∙ ap (go_on (read (drop (suc i) c.args.text.now))) c.in_ok-next.ensures
    ∙ sym (one_step i c.args.text.now c.loop-byte.reader c.loop-byte.rest.now (omega (arith, c.loop-byte-test.true)) (sym c.is_done.ensures ∙ c.if-is_done.false))
    ∙ c.loop-byte.invariant
    )
