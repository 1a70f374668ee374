-- Cells behind nulls that are counted only.
use Rattle.std.specs.Prelude.{ℕ, List, ◌++◌, Option, None, replicate}

-- so many nulls, and cells behind them
abbrev pub behind_nulls : {T : Type 0} → ℕ → List (Option T) → List (Option T)
behind_nulls nulls cells = replicate nulls None ++ cells
