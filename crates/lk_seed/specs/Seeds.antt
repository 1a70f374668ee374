-- The data files of a schema's tables: their paths, and their bodies among a folder's files. (lookd)
use Rattle.std.specs.Prelude.{ℕ, List, [], ◌∷◌, ◌++◌, codes, Option, Result, Ok}
use Rattle.lk_io.specs.declared.files.File.{File}
use Rattle.lk_include.specs.Gathering.{table_at}
use Rattle.lk_include.specs.declared.project.ProjectFault.{ProjectFault}
use Rattle.lk_types.specs.declared.schema.TableDef.{TableDef}
use Rattle.lk_table.specs.Batches.{and_then, in_front}

-- a data file's body, where the file is listed
abbrev pub Seed : Type 0
Seed = Option (List ℕ)

-- the data file of the table of a name
abbrev pub data_path : List ℕ → List ℕ
data_path name = codes "data/" ++ name ++ codes ".csv"

-- the body of each table's data file, by table, none where no such file is listed; or P1 for the first of them, in the
-- order of the tables, that has over 67,108,864 bytes
abbrev pub seeds_of : List TableDef → List File → Result (List Seed) ProjectFault
seeds_of [] files = Ok []
seeds_of (def ∷ defs) files =
    and_then (table_at files (data_path def.name)) (λ seed. in_front (seed ∷ []) (seeds_of defs files))
