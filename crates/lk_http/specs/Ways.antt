-- The ways that steps of one kind lead, from one state of an object to another.
use Rattle.std.specs.Prelude.{ℕ, ◌≡◌, zero, suc}

-- so many steps lead from the first state to the last
abbrev pub After : {S : Type 0} → (S → S → Type 0) → ℕ → S → S → Type 0
After R zero first last = last ≡ first
After {S} R (suc count) first last = (before : S) × After R count first before × R before last

-- some steps lead from the first state to the last
abbrev pub Comes : {S : Type 0} → (S → S → Type 0) → S → S → Type 0
Comes R first last = (count : ℕ) × After R count first last
