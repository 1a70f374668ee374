use Rattle.lk_grammar.proofs.TokenLaws.{result_spelled, result_every}
use Rattle.lk_grammar.proofs.LiteralLaws.{tokens_lex, result_literals}
use Rattle.lk_grammar.proofs.literals.read_words_and_literals.Goals as goal

pub returns-clause-spelled : goal.returns-clause-spelled
returns-clause-spelled g c form goes_on is_clear reader = result_spelled (tokens_lex c.args.white.now g.W.Word.letters_of reader c.args.table.now) c.args.text.now c.read_tokens.result c.read_tokens.ensures

pub returns-clause-every : goal.returns-clause-every
returns-clause-every g c form goes_on is_clear reader = result_every (tokens_lex c.args.white.now g.W.Word.letters_of reader c.args.table.now) c.args.text.now c.read_tokens.result c.read_tokens.ensures

pub returns-clause-literals : goal.returns-clause-literals
returns-clause-literals g c form goes_on is_clear reader = result_literals g.W.Word.letters_of reader c.args.table.now c.args.text.now c.read_tokens.result c.read_tokens.ensures
