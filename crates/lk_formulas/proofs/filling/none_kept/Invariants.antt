use Rattle.std.proofs.Common.{◌≡◌, ◌++◌, None, drop, map}
use Rattle.lk_formulas.proofs.filling.none_kept.Given as goal

abbrev pub invariant-loop-row : goal.invariant-loop-row
invariant-loop-row l = l.fields.items ++ map (λ row. None) (drop l._row-index l.rows) ≡ map (λ row. None) l.rows
