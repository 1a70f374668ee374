use Rattle.std.proofs.Common.{option_map, sym, ap, ◌∙◌}
use Rattle.lk_expr_token.proofs.ScanSteps.{behind_end, behind_next}
use Rattle.lk_expr_token.proofs.scan.behind_tokens.Goals as goal

pub returns-in-None : goal.returns-in-None
returns-in-None c = c.behind_spaces.ensures ∙ behind_end _ _ _ _ _ c.loop-terminal-test.true (sym c.in_ok-behind.ensures ∙ ap (option_map _) c.in-None.is) c.loop-terminal.invariant

pub loop-terminal-preserved : goal.loop-terminal-preserved
loop-terminal-preserved c = behind_next _ _ _ _ _ _ _ c.loop-terminal-test.true (sym c.in_ok-behind.ensures ∙ ap (option_map _) c.in-Some.is) c.loop-terminal.invariant
