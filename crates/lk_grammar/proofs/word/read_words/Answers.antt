use Rattle.lk_grammar.proofs.TokenLaws.{result_spelled, result_every}
use Rattle.lk_grammar.proofs.WordLaws.{table_lexes}
use Rattle.lk_grammar.proofs.word.read_words.Goals as goal

pub returns-clause-spelled : goal.returns-clause-spelled
returns-clause-spelled g c = result_spelled (table_lexes g.W.Word.letters_of c.args.white.now c.args.table.now) c.args.text.now c.read_tokens.result c.read_tokens.ensures

pub returns-clause-every : goal.returns-clause-every
returns-clause-every g c = result_every (table_lexes g.W.Word.letters_of c.args.white.now c.args.table.now) c.args.text.now c.read_tokens.result c.read_tokens.ensures
