use Rattle.std.proofs.Common.{◌≡◌, ◌+◌, drop}
use Rattle.lk_grammar.specs.Places.{place_from}
use Rattle.lk_expr_token.specs.declared.quoting.Quoting.TheVariants as quoting
use Rattle.lk_expr_token.specs.Quoting.{quoting_after}
use Rattle.lk_expr_token.proofs.quoting.text_front.Given as goal

abbrev pub invariant-loop-byte : goal.invariant-loop-byte
invariant-loop-byte l = record {
  few : l.place ≡ l.byte-index;
  rest : l.place + place_from quoting_after l.quoting (drop l.byte-index l.text) ≡ place_from quoting_after quoting.Unopened l.text;
}
