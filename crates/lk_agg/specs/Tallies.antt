-- Rows without keys: each counts for itself.
use Rattle.std.specs.Prelude.{ℕ, ◌+◌, if◌then◌else◌, ℤ, pos, ◌+ℤ◌, List, [], ◌∷◌}
use Rattle.lk_val.specs.Values.{is_null}
use Rattle.lk_val.specs.declared.value.Value.{Value}
use Rattle.lk_semantics.specs.Measures.{Entry, amount}

-- how many rows there are, how many of their values are not null, and the sum of those
pub record Tallied : Type 0 where
  pub rows : ℕ
  pub values : ℕ
  pub sum : ℤ

abbrev pub no_tally : Tallied
no_tally = record { rows = 0; values = 0; sum = pos 0 }

-- with one more value
abbrev pub with_amount : Value → Tallied → Tallied
with_amount v t = record { rows = t.rows + 1; values = t.values + (if is_null v then 0 else 1); sum = t.sum +ℤ amount v }

-- of some entries
abbrev pub tally_of : List Entry → Tallied
tally_of [] = no_tally
tally_of (e ∷ entries) = with_amount e.1.value (tally_of entries)
