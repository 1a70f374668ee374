use Rattle.std.proofs.Common.{◌≡◌, length}
use Rattle.lk_grammar.specs.Tokens.{skip_spaces}
use Rattle.lk_grammar.proofs.lexer.skip_spaces.Given as goal

abbrev pub decreases-loop-first : goal.decreases-loop-first
decreases-loop-first l = length l.rest

abbrev pub invariant-loop-first : goal.invariant-loop-first
invariant-loop-first l = skip_spaces l.white l.rest ≡ skip_spaces l.white l.text
