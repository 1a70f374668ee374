-- Small steps on truth values and on orders.
use Rattle.std.proofs.Common.{◌≡◌, ℕ, ◌≤◌, ◌<◌, Bool, true, false, ◌&&◌, refl, arith}
use Rattle.std.proofs.lemmas.Bool.{false≢true}

pub both : (a b : Bool) → (a && b) ≡ true → (a ≡ true) × (b ≡ true)
both true b e = (refl, e)
both false b e = absurd (false≢true e)

pub trans-le : (a b c : ℕ) → a ≤ b → b ≤ c → a ≤ c
trans-le a b c p q = omega arith

pub trans-lt : (a b c : ℕ) → a < b → b ≤ c → a < c
trans-lt a b c p q = omega arith
