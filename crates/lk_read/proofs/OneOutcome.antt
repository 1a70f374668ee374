-- Each text has exactly one outcome, and the program answers with it.
use Rattle.std.proofs.Common.{◌≡◌, inl, inr, ℕ, List, Result, Ok, Err, IfSome, ap}
use Rattle.lk_read.specs.declared.read_fault.ReadFault.{ReadFault}
use Rattle.lk_read.specs.declared.read_fault.ReadFault.TheVariants as fault
use Rattle.lk_read.specs.Outline.{Outline}
use Rattle.lk_read.specs.Outcome.{Outcome, IsOutcome, outcome_of}
use Rattle.lk_read.specs.Outcome as outcome
use Rattle.lk_read.specs.Lines.{lines}
use Rattle.lk_read.specs.Grammar.{IsFile}
use Rattle.lk_read.specs.Reading.{GivesLines, read_lines}
use Rattle.lk_read.proofs.Complete.{complete}
use Rattle.lk_read.proofs.Refused.{refused}
use Rattle.lk_read.proofs.LinesLaws.{same_tree}
use Rattle.lk_read.proofs.OneFault.{one_fault, no_tree, tree_or_fault}
use Rattle.lk_read.proofs.Answered.{ok_lines, answers_found}

module _ (most : ℕ) (text : List ℕ) where
  one_tree : (t u : Outline) → IsFile most text t → IsFile most text u → t ≡ u
  one_tree t u h k = same_tree t u (ok_lines most text (lines t) (lines u) (read_lines most text) (complete most text (lines t) h) (complete most text (lines u) k))

  pub one_outcome : (o p : Outcome) → IsOutcome most text o → IsOutcome most text p → o ≡ p
  one_outcome (outcome.tree t) (outcome.tree u) h k = ap (λ x. outcome.tree x) (one_tree t u h k)
  one_outcome (outcome.tree t) (outcome.fault why) h k = absurd (no_tree most text why k t h)
  one_outcome (outcome.fault why) (outcome.tree t) h k = absurd (no_tree most text why h t k)
  one_outcome (outcome.fault one) (outcome.fault other) h k = ap (λ x. outcome.fault x) (one_fault most text one other h k)

  pub some_outcome : (o : Outcome) × IsOutcome most text o
  some_outcome =
      elim (tree_or_fault most text) [
        | inl spelled ↦ (outcome.tree spelled.0, spelled.1)
        | inr refused ↦ (outcome.fault refused.0, refused.1)
      ]

  pub answers_outcome : (answer : Result Outline ReadFault) → GivesLines answer (read_lines most text) → IfSome (outcome_of answer) (IsOutcome most text)
  answers_outcome (Ok tree) h = answers_found most text (Ok tree) h
  answers_outcome (Err fault.NoMemory) h = tt
  answers_outcome (Err (fault.R1 p)) h = (refused most text (fault.R1 p) h).first
  answers_outcome (Err (fault.R2 p)) h = (refused most text (fault.R2 p) h).first
  answers_outcome (Err (fault.R3 p)) h = (refused most text (fault.R3 p) h).first
  answers_outcome (Err (fault.R4 p)) h = (refused most text (fault.R4 p) h).first
  answers_outcome (Err (fault.R5 p)) h = (refused most text (fault.R5 p) h).first
