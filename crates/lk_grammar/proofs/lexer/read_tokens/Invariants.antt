use Rattle.std.proofs.Common.{◌≡◌, ◌++◌, drop, option_map}
use Rattle.lk_grammar.specs.Tokens.{tokens_from, tokens_of}
use Rattle.lk_grammar.proofs.lexer.read_tokens.Given as goal

abbrev pub invariant-loop-used : goal.invariant-loop-used
invariant-loop-used g l =
    option_map (λ more. l.tokens ++ more) (tokens_from l.white (g.L.Lexer.first_token l.lexer) (drop l._used-index l.text) l.rest)
    ≡ tokens_of l.white (g.L.Lexer.first_token l.lexer) l.text
