-- Parts of measures that a line writes.
use Rattle.std.specs.Prelude.{◌<◌, ◌^◌, ◌≤ℤ◌, ◌<ℤ◌, neg_ℤ, pos}
use Rattle.lk_types.specs.declared.answer.Partial.{Partial}

-- so small that two of them have a sum
pub record IsSmall (p : Partial) : Type 0 where
  pub low : neg_ℤ (pos (2 ^ 63)) ≤ℤ p.sum
  pub high : p.sum <ℤ pos (2 ^ 63)
  pub count : p.count < 2 ^ 32
  pub values : p.values < 2 ^ 32
