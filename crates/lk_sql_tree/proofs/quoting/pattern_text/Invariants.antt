use Rattle.std.proofs.Common.{◌≡◌, take}
use Rattle.lk_sql_tree.specs.Texts.{pattern_text}
use Rattle.lk_sql_tree.proofs.quoting.pattern_text.Given as goal

abbrev pub invariant-loop-piece : goal.invariant-loop-piece
invariant-loop-piece l = l.text ≡ pattern_text (take l.piece-index l.pieces)
