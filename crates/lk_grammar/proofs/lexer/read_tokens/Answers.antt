use Rattle.std.proofs.Common.{sym, ◌∙◌, arith}
use Rattle.lk_grammar.specs.Tokens.{tokens_of}
use Rattle.lk_grammar.proofs.TokenLaws.{done, stopped, gone_on}
use Rattle.lk_grammar.proofs.lexer.read_tokens.Goals as goal

pub returns-then-is_empty : goal.returns-then-is_empty
returns-then-is_empty g c =
    done c.args.white.now (g.L.Lexer.first_token c.args.lexer.now) c.loop-used.tokens _ c.loop-used.rest.now _ (sym c.is_empty.ensures ∙ c.if-is_empty.true) c.loop-used.invariant

pub returns-in_default : goal.returns-in_default
returns-in_default g c =
    let none = rw c.in_default.is at c.in_ok-token.ensures in
    stopped c.args.white.now (g.L.Lexer.first_token c.args.lexer.now) c.loop-used.tokens c.args.text.now c.loop-used.rest.now c.loop-used._used-index (tokens_of c.args.white.now (g.L.Lexer.first_token c.args.lexer.now) c.args.text.now) (omega arith) (sym c.is_empty.ensures ∙ c.if-is_empty.false) (sym none) c.loop-used.invariant

pub loop-used-preserved : goal.loop-used-preserved
loop-used-preserved g c =
    let first_token = g.L.Lexer.first_token c.args.lexer.now in
    let some = rw c.in-Some.is at c.in_ok-token.ensures in
    let more = gone_on c.args.white.now first_token c.loop-used.tokens c.args.text.now c.loop-used.rest.now c.in-Some.behind.now c.in-Some.token c.loop-used._used-index (tokens_of c.args.white.now (g.L.Lexer.first_token c.args.lexer.now) c.args.text.now) (omega arith) (sym c.is_empty.ensures ∙ c.if-is_empty.false) (sym some) c.loop-used.invariant in
    rw (c.in_ok-push.ensures.ok, c.skip_spaces-rest-in-loop-used.ensures) more
