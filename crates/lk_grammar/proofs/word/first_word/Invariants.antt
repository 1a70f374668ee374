use Rattle.std.proofs.Common.{◌≡◌, drop}
use Rattle.lk_grammar.specs.Words.{first_word}
use Rattle.lk_grammar.proofs.word.first_word.Given as goal

abbrev pub invariant-loop-word : goal.invariant-loop-word
invariant-loop-word g l =
    first_word g.W.Word.letters_of (drop l.word-index l.table) l.text ≡ first_word g.W.Word.letters_of l.table l.text
