use Rattle.std.proofs.Common.{◌-◌, refl}
use Rattle.lk_expr_token.specs.Terminals.{terminal_byte}
use Rattle.lk_expr_token.proofs.TerminalsKnown.{same_terminal, terminal_there}
use Rattle.lk_expr_token.proofs.terminal.terminals_are_known_by_bytes.Goals as goal

pub returns : goal.returns
returns c = record {
  known = same_terminal;
  listed = refl;
  every = λ k. (terminal_byte k - 1, terminal_there k);
}
