-- What a store holds after a save.
use Rattle.std.specs.Prelude.{ℕ, not, if◌then◌else◌, List, [], ◌∷◌, ◌++◌, filter, Option}
use Rattle.std.specs.List.{fold}
use Rattle.std.specs.Option.{option_map}
use Rattle.lk_val.specs.Texts.{is_same_text}
use Rattle.lk_ledger.specs.declared.command.Command.{Command}
use Rattle.lk_ledger.specs.declared.kept.Chunk.{Chunk}
use Rattle.lk_ledger.specs.declared.kept.Kept.{Kept}
use Rattle.lk_ledger.specs.declared.kept.KeptId.{KeptId}

-- the batch of a load
abbrev pub chunk_of : Command → Chunk
chunk_of command = record { table = command.table; body = command.body }

-- the id of a load, with what its reply says
abbrev pub id_of : Command → KeptId
id_of command = record { id = command.id; number = command.number; rows = command.rows }

-- the batches of the other tables
abbrev pub other_chunks : List ℕ → List Chunk → List Chunk
other_chunks table = filter (λ chunk. not (is_same_text chunk.table table))

-- the batches that stay: where the load replaces, those of the other tables, and else all
abbrev pub staying : Command → List Chunk → List Chunk
staying command chunks = if command.replace then other_chunks command.table chunks else chunks

-- the batches that stay, behind them the load's, its id behind the others, and its number
abbrev pub after_load : Kept → Command → Kept
after_load kept command = record {
  number = command.number;
  chunks = staying command kept.chunks ++ chunk_of command ∷ [];
  ids = kept.ids ++ id_of command ∷ [];
}

-- the same batches and ids at another number
abbrev pub after_check : Kept → ℕ → Kept
after_check kept number = record { number = number; chunks = kept.chunks; ids = kept.ids }

-- a save: of an accepted load, or of the number of a check
pub data Save : Type 0 where
  load : Command → Save
  check : ℕ → Save

-- what is held after a save
abbrev pub after_save : Kept → Save → Kept
after_save kept (load command) = after_load kept command
after_save kept (check number) = after_check kept number

-- what is held after the saves, one after the other
abbrev pub after_saves : Kept → List Save → Kept
after_saves = fold after_save

-- what is told after a save, where the object tells
abbrev pub told_after : Save → Option Kept → Option Kept
told_after save = option_map (λ kept. after_save kept save)
