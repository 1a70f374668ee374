-- The outcome of a text: the tree that it spells, or its fault.
use Rattle.std.specs.Prelude.{ℕ, List, Option, Some, None, Result, Ok, Err}
use Rattle.lk_read.specs.declared.read_fault.ReadFault.{ReadFault}
use Rattle.lk_read.specs.declared.read_fault.ReadFault.TheVariants.{NoMemory}
use Rattle.lk_read.specs.Outline.{Outline}
use Rattle.lk_read.specs.Grammar.{IsFile}
use Rattle.lk_read.specs.Faults.{IsFaultOf}

pub data Outcome : Type 0 where
  tree : Outline → Outcome
  fault : ReadFault → Outcome

-- the text spells the tree, or has the fault
abbrev pub IsOutcome : ℕ → List ℕ → Outcome → Type 0
IsOutcome most text (tree outline) = IsFile most text outline
IsOutcome most text (fault why) = IsFaultOf most text why

-- what the program answers as an outcome, and none where memory ran out
abbrev pub outcome_of : Result Outline ReadFault → Option Outcome
outcome_of (Ok outline) = Some (tree outline)
outcome_of (Err NoMemory) = None
outcome_of (Err why) = Some (fault why)
