-- The line that names a fault of a project's files.
use Rattle.std.specs.Prelude.{ℕ, List, [], ◌∷◌, ◌++◌, codes, decimal}
use Rattle.lk_val.specs.declared.fault.FaultLine.{FaultLine}

-- an empty part prints as `-`
abbrev pub part_text : List ℕ → List ℕ
part_text [] = codes "-"
part_text (c ∷ cs) = c ∷ cs

-- code, path, place, name and other with single spaces, and a line feed (lookd)
abbrev pub fault_text : FaultLine → List ℕ
fault_text fault =
    part_text fault.code ++ codes " " ++ part_text fault.path ++ codes " " ++ decimal fault.place
    ++ codes " " ++ part_text fault.name ++ codes " " ++ part_text fault.other ++ 10 ∷ []
