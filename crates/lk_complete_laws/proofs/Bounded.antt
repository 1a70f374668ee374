-- The greatest number up to a bound that has a property, and the first below one; and so the longest front of a text that begins
-- a text of a grammar.
use Rattle.std.proofs.Common.{◌≡◌, ◌⊎◌, inl, inr, ℕ, zero, suc, ◌≤◌, ◌<◌, List, [], ◌∷◌, length, take, refl, sym, subst, arith}
use Rattle.std.proofs.lemmas.Bool.{cases_lt}
use Rattle.lk_grammar.specs.Places.{IsPlace, IsViable}
use Rattle.lk_complete_laws.proofs.NotNot.{NotNot, there_is, and_then, so_is, excluded}

-- ---- the greatest

-- the greatest number up to the bound that has the property
pub record IsGreatest (Has : ℕ → Type 0) (most n : ℕ) : Type 0 where
  pub within : n ≤ most
  pub has : Has n
  pub greatest : (m : ℕ) → m ≤ most → Has m → m ≤ n

pub record HasGreatest (Has : ℕ → Type 0) (most : ℕ) : Type 0 where
  pub number : ℕ
  pub is : IsGreatest Has most number

at_bound : (Has : ℕ → Type 0) (most : ℕ) → Has most → HasGreatest Has most
at_bound Has most has = record { number = most; is = record { within = omega arith; has = has; greatest = λ m fits _. fits } }

below_bound : (Has : ℕ → Type 0) (most : ℕ) → (Has (suc most) → ⊥) → HasGreatest Has most → HasGreatest Has (suc most)
below_bound Has most lacks g = record {
  number = g.number;
  is = record {
    within = omega (arith, g.is.within);
    has = g.is.has;
    greatest = λ m fits has.
        elim (cases_lt most m) [
          | inl above ↦
              let same : m ≡ suc most = omega (arith, fits, above) in
              absurd (lacks (subst Has same has))
          | inr low ↦ g.is.greatest m low has
        ];
  };
}

-- where 0 has the property, there is a greatest
pub greatest : (Has : ℕ → Type 0) → Has zero → (most : ℕ) → NotNot (HasGreatest Has most)
greatest Has first zero = there_is (at_bound Has zero first)
greatest Has first (suc most) =
    and_then (excluded (Has (suc most))) (λ c.
    elim c [
      | inl has ↦ there_is (at_bound Has (suc most) has)
      | inr lacks ↦ so_is (greatest Has first most) (below_bound Has most lacks)
    ])

-- ---- the first

-- no number below has the property, and it has it, or is the bound
pub record IsFirst (Has : ℕ → Type 0) (bound n : ℕ) : Type 0 where
  pub within : n ≤ bound
  pub none : (m : ℕ) → m < n → Has m → ⊥
  pub reached : (n ≡ bound) ⊎ Has n

pub record HasFirst (Has : ℕ → Type 0) (bound : ℕ) : Type 0 where
  pub number : ℕ
  pub is : IsFirst Has bound number

module _ (Has : ℕ → Type 0) (bound : ℕ) (f : HasFirst Has bound) where
  stays : Has f.number → HasFirst Has (suc bound)
  stays has = record { number = f.number; is = record { within = omega (arith, f.is.within); none = f.is.none; reached = inr has } }

  at_last : f.number ≡ bound → Has bound → HasFirst Has (suc bound)
  at_last same has = stays (subst Has (sym same) has)

  goes_up : f.number ≡ bound → (Has bound → ⊥) → HasFirst Has (suc bound)
  goes_up same lacks = record {
    number = suc bound;
    is = record {
      within = omega arith;
      none = λ m low has.
          elim (cases_lt m bound) [
            | inl below ↦ f.is.none m (omega (arith, below, same)) has
            | inr up ↦
                let here : m ≡ bound = omega (arith, low, up) in
                lacks (subst Has here has)
          ];
      reached = inl refl;
    };
  }

  next_first : NotNot (HasFirst Has (suc bound))
  next_first =
      elim f.is.reached [
        | inr has ↦ there_is (stays has)
        | inl same ↦
            so_is (excluded (Has bound)) (λ c.
            elim c [
              | inl has ↦ at_last same has
              | inr lacks ↦ goes_up same lacks
            ])
      ]

-- there is a first, or none up to the bound
pub first : (Has : ℕ → Type 0) (bound : ℕ) → NotNot (HasFirst Has bound)
first Has zero = there_is (record { number = zero; is = record { within = omega arith; none = λ m low _. absurd (omega (arith, low)); reached = inl refl } })
first Has (suc bound) = and_then (first Has bound) (λ f. next_first Has bound f)

-- ---- places

-- the place of a text in a grammar
pub record HasPlace (Grammar : List ℕ → Type 0) (text : List ℕ) : Type 0 where
  pub number : ℕ
  pub is : IsPlace Grammar text number

empty_front : (Grammar : List ℕ → Type 0) (text : List ℕ) → IsViable Grammar [] → IsViable Grammar (take zero text)
empty_front Grammar [] viable = viable
empty_front Grammar (b ∷ text) viable = viable

-- where the grammar has a text, each text has its place
pub place : (Grammar : List ℕ → Type 0) → IsViable Grammar [] → (text : List ℕ) → NotNot (HasPlace Grammar text)
place Grammar viable text =
    so_is (greatest (λ n. IsViable Grammar (take n text)) (empty_front Grammar text viable) (length text)) (λ g. record {
      number = g.number;
      is = record { within = g.is.within; begins = g.is.has; longest = g.is.greatest };
    })
