-- What an answer of the program says, where it is the definition's.
use Rattle.std.proofs.Common.{◌≡◌, List, ℕ, Result, Ok, Err, IfOk, IfErr, ap}
use Rattle.lk_read.specs.declared.read_fault.ReadFault.{ReadFault}
use Rattle.lk_read.specs.declared.read_fault.ReadFault.TheVariants as fault
use Rattle.lk_read.specs.Outline.{Outline}
use Rattle.lk_read.specs.Lines.{Line, lines}
use Rattle.lk_read.specs.Grammar.{IsFile}
use Rattle.lk_read.specs.Reading.{Gives, GivesLines, read_lines}
use Rattle.lk_read.proofs.Found.{found}
use Rattle.lk_read.proofs.Complete.{complete}
use Rattle.lk_read.proofs.Refused.{refused}
use Rattle.lk_read.proofs.LinesLaws.{same_tree}
use Rattle.lk_read.specs.Faults.{AsFault}

module _ (most : ℕ) (text : List ℕ) where
  pub answers_found : (answer : Result Outline ReadFault) → GivesLines answer (read_lines most text) → IfOk answer (λ tree. IsFile most text tree)
  answers_found (Ok tree) h = found most text (lines tree) h
  answers_found (Err why) h = tt

  pub ok_lines : (x y : List Line) (z : Result (List Line) ReadFault) → z ≡ Ok x → z ≡ Ok y → x ≡ y
  ok_lines x y z p q = cc

  pub answers_only : (answer : Result Outline ReadFault) → GivesLines answer (read_lines most text) → IfOk answer (λ tree. (other : Outline) → IsFile most text other → other ≡ tree)
  answers_only (Ok tree) h = λ other is. same_tree other tree (ok_lines (lines other) (lines tree) (read_lines most text) (complete most text (lines other) is) h)
  answers_only (Err why) h = tt

  never : (x : List Line) (why : ReadFault) (tree : Outline) (z : Result (List Line) ReadFault) → z ≡ Ok x → z ≡ Err why → Ok tree ≡ Err why
  never x why tree z p q = cc

  pub answers_complete : (answer : Result Outline ReadFault) → GivesLines answer (read_lines most text) → (tree : Outline) → IsFile most text tree → Gives answer (Ok tree)
  answers_complete (Ok x) h tree is = ap Ok (same_tree tree x (ok_lines (lines tree) (lines x) (read_lines most text) (complete most text (lines tree) is) h))
  answers_complete (Err fault.NoMemory) h tree is = tt
  answers_complete (Err (fault.R1 p)) h tree is = never (lines tree) (fault.R1 p) tree (read_lines most text) (complete most text (lines tree) is) h
  answers_complete (Err (fault.R2 p)) h tree is = never (lines tree) (fault.R2 p) tree (read_lines most text) (complete most text (lines tree) is) h
  answers_complete (Err (fault.R3 p)) h tree is = never (lines tree) (fault.R3 p) tree (read_lines most text) (complete most text (lines tree) is) h
  answers_complete (Err (fault.R4 p)) h tree is = never (lines tree) (fault.R4 p) tree (read_lines most text) (complete most text (lines tree) is) h
  answers_complete (Err (fault.R5 p)) h tree is = never (lines tree) (fault.R5 p) tree (read_lines most text) (complete most text (lines tree) is) h

  pub answers_refused : (answer : Result Outline ReadFault) → GivesLines answer (read_lines most text) → IfErr answer (λ why. AsFault most text why)
  answers_refused (Ok x) h = tt
  answers_refused (Err fault.NoMemory) h = tt
  answers_refused (Err (fault.R1 p)) h = refused most text (fault.R1 p) h
  answers_refused (Err (fault.R2 p)) h = refused most text (fault.R2 p) h
  answers_refused (Err (fault.R3 p)) h = refused most text (fault.R3 p) h
  answers_refused (Err (fault.R4 p)) h = refused most text (fault.R4 p) h
  answers_refused (Err (fault.R5 p)) h = refused most text (fault.R5 p) h
