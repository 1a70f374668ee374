use Rattle.std.proofs.Common.{option_map, sym, ap, ◌∙◌}
use Rattle.lk_expr_token.proofs.ScanSteps.{terminals_end, terminals_next}
use Rattle.lk_expr_token.proofs.scan.terminals_in.Goals as goal

pub returns-in-None : goal.returns-in-None
returns-in-None c = terminals_end _ _ _ _ _ _ c.loop-byte-test.true (sym c.in_ok-terminal.ensures ∙ ap (option_map _) c.in-None.is) c.loop-byte.invariant

pub loop-byte-preserved : goal.loop-byte-preserved
loop-byte-preserved c = terminals_next _ _ _ _ _ _ _ _ _ c.loop-byte-test.true (sym c.in_ok-terminal.ensures ∙ ap (option_map _) c.in-Some.is) c.in_ok-push-in-Some.ensures.items c.loop-byte.invariant
