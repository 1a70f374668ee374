-- Lists in which each value may stand behind the one in front of it. (lookd)
use Rattle.std.specs.Prelude.{◌≡◌, List, [], ◌∷◌, ◌++◌}

-- given: what holds of a first value, and of a value and the one behind it
module _ {T : Type 0} (begins : T → Type 0) (follows : T → T → Type 0) where
  -- values that may stand behind another, one behind the other
  abbrev pub Follow : T → List T → Type 0
  Follow value [] = Unit {0}
  Follow value (next ∷ values) = follows value next × Follow next values

  -- the first one begins, and the others follow it
  abbrev pub IsChain : List T → Type 0
  IsChain [] = Unit {0}
  IsChain (first ∷ values) = begins first × Follow first values

-- the value is the last one
abbrev pub EndsIn : {T : Type 0} → List T → T → Type 0
EndsIn {T} values last = (front : List T) × (values ≡ front ++ last ∷ [])
