use Rattle.std.proofs.Common.{◌≡◌, drop}
use Rattle.std.specs.List.{list_all}
use Rattle.lk_formulas.specs.Filling.{is_kept}
use Rattle.lk_formulas.proofs.filling.are_all_kept.Given as goal

abbrev pub invariant-loop-number : goal.invariant-loop-number
invariant-loop-number l = list_all (is_kept l.fields) (drop l.number-index l.numbers) ≡ list_all (is_kept l.fields) l.numbers
