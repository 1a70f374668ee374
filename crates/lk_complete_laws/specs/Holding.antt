-- That a relation holds of something.

-- It can't be that the relation holds of nothing. Which thing it holds of is not told.
abbrev pub HoldsOfSome : {A : Type 0} → (A → Type 0) → Type 0
HoldsOfSome {A} Holds = ((a : A) → Holds a → ⊥) → ⊥
