-- Faults one piece after another: a piece is asked where all pieces before it have none. (lookd)
use Rattle.std.specs.Prelude.{◌≡◌, ℕ, ◌+◌, List, [], ◌∷◌, Option, Some, None, Result, Ok, Err}
use Rattle.std.specs.List.{fold}
use Rattle.std.specs.Option.{option_or}
use Rattle.lk_val.specs.declared.fault.FaultLine.{FaultLine}
use Rattle.lk_val.specs.declared.fault.ModelFault.{ModelFault}
use Rattle.lk_val.specs.declared.fault.ModelFault.TheVariants.{Fault, NoMemory}
use Rattle.lk_params.specs.declared.finding.Finding.{Finding}
use Rattle.lk_params.specs.Findings.{first_line, sooner}

-- the first fault of some pieces
abbrev pub first_of : List (Option FaultLine) → Option FaultLine
first_of [] = None
first_of (piece ∷ pieces) = option_or piece (first_of pieces)

-- the first fault that a test finds at items in order
abbrev pub first_at : {A : Type 0} → (A → Option FaultLine) → List A → Option FaultLine
first_at test [] = None
first_at test (x ∷ xs) = option_or (test x) (first_at test xs)

-- the line of an object, of which one fault is known, when more are found
abbrev pub line_with : Option Finding → List Finding → Option FaultLine
line_with first more = first_line (fold sooner first more)

-- a call that tests a piece: it ends well exactly where the piece has no fault, and answers the fault that it has
abbrev pub IsTested : {A : Type 0} → Result A ModelFault → Option FaultLine → Type 0
IsTested (Ok value) fault = fault ≡ None
IsTested (Err (Fault line)) fault = fault ≡ Some line
IsTested (Err NoMemory) fault = Unit {0}

-- the first fault that a test finds at items in order, which are numbered from one on
abbrev pub first_along : {A : Type 0} → (ℕ → A → Option FaultLine) → ℕ → List A → Option FaultLine
first_along test n [] = None
first_along test n (x ∷ xs) = option_or (test n x) (first_along test (n + 1) xs)
