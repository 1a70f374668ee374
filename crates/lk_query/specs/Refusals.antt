-- What is found for each of some things, or the first refusal; and one look after another.
use Rattle.std.specs.Prelude.{List, [], ◌∷◌, ◌++◌, Option, Some, None, Result, Ok, Err}
use Rattle.lk_body.specs.declared.fault.QueryFault.{QueryFault}

-- what is found, or a refusal where there is nothing
abbrev pub found_or : {A : Type 0} → QueryFault → Option A → Result A QueryFault
found_or fault None = Err fault
found_or fault (Some a) = Ok a

-- some things in front of those that follow, if these are not refused
abbrev pub in_front : {A : Type 0} → List A → Result (List A) QueryFault → Result (List A) QueryFault
in_front front (Err fault) = Err fault
in_front front (Ok rest) = Ok (front ++ rest)

-- given: what is found for a thing, and the refusal where there is nothing
module _ {A B : Type 0} (refusal : A → QueryFault) (found : A → Option B) where
  -- what is found for one in front of what is found for those behind it, or its refusal
  abbrev pub found_then : A → Option B → Result (List B) QueryFault → Result (List B) QueryFault
  found_then a None rest = Err (refusal a)
  found_then a (Some b) rest = in_front (b ∷ []) rest

  -- what is found for each, in their order, or the refusal of the first for which there is nothing
  abbrev pub each_found : List A → Result (List B) QueryFault
  each_found [] = Ok []
  each_found (a ∷ rest) = found_then a (found a) (each_found rest)
