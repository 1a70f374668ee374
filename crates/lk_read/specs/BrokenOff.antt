-- How a text ends before a value or in the middle of one.
use Rattle.std.specs.Prelude.{ℕ, List, Result, Err}
use Rattle.lk_read.specs.declared.read_fault.ReadFault.{ReadFault}
use Rattle.lk_read.specs.declared.read_fault.ReadFault.TheVariants as fault
use Rattle.lk_read.specs.declared.phase.Phase.{Phase}
use Rattle.lk_read.specs.declared.phase.Phase.TheVariants as phase
use Rattle.lk_read.specs.Built.{Built, first_of}
use Rattle.lk_read.specs.Lines.{Line}
use Rattle.lk_read.specs.Reading.{missing, start_end}

-- the arms of `end_at` that read nothing; where a value has ended, what would be missing
abbrev pub broken_off : Built → Phase → ℕ → Result (List Line) ReadFault
broken_off built (phase.Start param spot) place = start_end built spot place
broken_off built (phase.Comma param open_list) place = Err (fault.R2 open_list.bracket)
broken_off built (phase.Quoted param spot quote text utf8) place = Err (fault.R1 quote)
broken_off built (phase.Escape param spot quote text) place = Err (fault.R1 quote)
broken_off built (phase.Code param raw utf8) place = Err (fault.R3 param.place)
broken_off built (phase.Semicolon param raw) place = Err (fault.R3 param.place)
broken_off built now place = missing (first_of built.open_braces) place
