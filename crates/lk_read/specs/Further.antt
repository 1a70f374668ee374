-- A text of the program with more bytes behind it.
use Rattle.std.specs.Prelude.{ℕ, List, Option, Some, None, Result, Ok, Err}
use Rattle.lk_read.specs.declared.read_fault.ReadFault.{ReadFault}
use Rattle.lk_read.specs.declared.read_fault.ReadFault.TheVariants as fault
use Rattle.lk_utf8.specs.declared.utf8.Utf8.{Utf8}

-- the text, and what its last character owes, unless no character goes on with the byte at this place
abbrev pub further : List ℕ → Option Utf8 → ℕ → Result (List ℕ × Utf8) ReadFault
further text None place = Err (fault.R4 place)
further text (Some next) place = Ok (text, next)
