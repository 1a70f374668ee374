-- What the writer and the readers of a shelf know of how long its list is. (lookd)
use Rattle.std.specs.Prelude.{ℕ, ◌≡◌, ◌≤◌, List}
use Rattle.std.specs.List.{All}

-- nobody knows of more values than the shown list has
abbrev pub NoneKnowsMore : ℕ → List ℕ → Type 0
NoneKnowsMore shown knowing = All (λ known. known ≤ shown) knowing

-- what was known was no more than the list had before, and what is known now is how many it has after
abbrev pub Looks : ℕ → ℕ → ℕ → ℕ → Type 0
Looks known before after knows = (known ≤ before) × (knows ≡ after)
