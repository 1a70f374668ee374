use Rattle.std.proofs.Common.{◌≡◌, ◌++◌, drop}
use Rattle.lk_val.specs.Texts.{is_same_text}
use Rattle.lk_params.specs.Picking.{firsts}
use Rattle.lk_params.proofs.FirstLaws.{left}
use Rattle.lk_params.proofs.overlay.firsts.Given as goal

abbrev pub invariant-loop-text : goal.invariant-loop-text
invariant-loop-text l = l.once ++ left is_same_text l.once (firsts is_same_text (drop l.text-index l.texts)) ≡ firsts is_same_text l.texts
