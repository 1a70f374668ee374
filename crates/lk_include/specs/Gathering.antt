-- Which files of a project are read, in which order, and the first fault on the way. (Looker, LookML reference: include;
-- lookd)
use Rattle.std.specs.Prelude.{ℕ, zero, suc, Bool, false, not, nat_lt, if◌then◌else◌, List, [], ◌∷◌, ◌++◌, map, length, unwrap_or, option_map, Option, Some, None, codes, Result, Ok, Err}
use Rattle.std.specs.List.{filter, flat_map, list_any}
use Rattle.lk_val.specs.Texts.{is_same_text}
use Rattle.lk_val.specs.declared.fault.FaultLine.{FaultLine}
use Rattle.lk_io.specs.declared.files.File.{File}
use Rattle.lk_io.specs.Folder.{body_of, paths_of}
use Rattle.lk_read.specs.Outcome as outcome
use Rattle.lk_read.specs.Outline.{Outline}
use Rattle.lk_read.specs.declared.read_fault.ReadFault.{ReadFault}
use Rattle.lk_read.specs.declared.read_fault.ReadFault.TheVariants as refused
use Rattle.lk_read.specs.declared.tree.Node.{Node}
use Rattle.lk_read.specs.declared.tree.Node.TheVariants as node
use Rattle.lk_params.specs.Parameters.{items_of, named}
use Rattle.lk_params.specs.Values.{entry_scalar}
use Rattle.lk_params.specs.Picking.{first_in}
use Rattle.lk_include.specs.Reading.{reading_of}
use Rattle.lk_include.specs.Patterns.{is_lookml, is_root, matches, pattern_for}
use Rattle.lk_include.specs.declared.matching.Pattern.{Pattern}
use Rattle.lk_include.specs.declared.includes.Include.{Include}
use Rattle.lk_include.specs.declared.reading.Task.{Task}
use Rattle.lk_include.specs.declared.reading.Task.TheVariants.{Read, Reach}
use Rattle.lk_include.specs.declared.project.Project.{Project}
use Rattle.lk_include.specs.declared.project.ProjectFault.{ProjectFault}
use Rattle.lk_include.specs.declared.project.ProjectFault.TheVariants as fault

-- a fault of a file, at a place in it
abbrev pub file_line : List ℕ → List ℕ → ℕ → List ℕ → FaultLine
file_line code path place name = record { code = code; path = path; place = place; name = name; other = [] }

-- ---- includes

-- the patterns of a value of `include`: a word, a string, or each of a list. Anything else is no pattern
abbrev pub patterns_in : Node → List (Option (List ℕ))
patterns_in (node.Word text) = Some text ∷ []
patterns_in (node.Quoted text) = Some text ∷ []
patterns_in (node.List entries) = map entry_scalar entries
patterns_in value = None ∷ []

abbrev pub included : ℕ → Option (List ℕ) → Include
included place pattern = record { place = place; pattern = pattern }

-- the includes of a file, in order: each pattern with the place of its parameter
abbrev pub includes_of : Outline → List Include
includes_of tree =
    flat_map (λ item. map (included item.place) (patterns_in item.value))
    (named (codes "include") (items_of tree))

-- what is no pattern matches nothing
abbrev pub matches_if : Option Pattern → List ℕ → Bool
matches_if None path = false
matches_if (Some pattern) path = matches pattern path

-- an include in a file reaches a path
abbrev pub reaches : List ℕ → Option (List ℕ) → List ℕ → Bool
reaches file pattern = matches_if (option_map (pattern_for file) pattern)

-- an include that reaches none of the LookML files is a fault, M1; one that reaches only files that are read is none
abbrev pub reaches_nothing : List (List ℕ) → List ℕ → Include → Option FaultLine
reaches_nothing lookml file include =
    if list_any (reaches file include.pattern) lookml then None
    else Some (file_line (codes "M1") file include.place (unwrap_or include.pattern []))

-- ---- the order of reading

-- the trees so far, the LookML files that no include has reached so far, and what is to be done, the next first: a file
-- is to be read, or the files that an include reaches are to be
pub record Progress : Type 0 where
  pub trees : List (List ℕ × Outline)
  pub left : List (List ℕ)
  pub tasks : List Task

-- a fault, or progress
pub data Outcome : Type 0 where
  stops : FaultLine → Outcome
  goes_on : Progress → Outcome

abbrev pub go_on : (Progress → Outcome) → Outcome → Outcome
go_on next (stops line) = stops line
go_on next (goes_on progress) = next progress

-- what is left for includes to reach, and what is to be done
pub record Pending : Type 0 where
  pub left : List (List ℕ)
  pub tasks : List Task

-- given what an include reaches and what it doesn't, the tasks behind it, and what is pending where it reaches nothing
abbrev pub after_reach : List (List ℕ) → List (List ℕ) → List Task → Pending → Pending
after_reach [] others tasks without = without
after_reach (path ∷ paths) others tasks without =
    record { left = others; tasks = map Read (path ∷ paths) ++ tasks }

-- an include reaches all its files at once, before any of them is read; those that were reached before stay where they
-- are. So includes are followed until a file is to be read
abbrev pub followed : List (List ℕ) → List Task → Pending
followed left [] = record { left = left; tasks = [] }
followed left (Read path ∷ tasks) = record { left = left; tasks = Read path ∷ tasks }
followed left (Reach file pattern ∷ tasks) =
    after_reach (filter (reaches file pattern) left) (filter (λ path. not (reaches file pattern path)) left) tasks
    (followed left tasks)

abbrev pub reach_in : List ℕ → Include → Task
reach_in path include = Reach path include.pattern

-- from the root on, to which no include leads again
abbrev pub from_root : List (List ℕ) → List ℕ → Progress
from_root lookml root = record {
  trees = [];
  left = filter (λ path. not (is_same_text path root)) lookml;
  tasks = Read root ∷ [];
}

-- ---- one file

-- a table that is not listed is a fault, P2
abbrev pub missing : List (List ℕ) → List ℕ → Option FaultLine
missing paths path = if list_any (is_same_text path) paths then None else Some (file_line (codes "P2") path 0 [])

-- a body of over 67,108,864 bytes is a fault, P1
abbrev pub sized : List ℕ → Option (List ℕ) → Result (Option (List ℕ)) ProjectFault
sized path None = Ok None
sized path (Some body) =
    if nat_lt 67108864 (length body) then Err (fault.Model (file_line (codes "P1") path 0 [])) else Ok (Some body)

-- the line of a text's fault
abbrev pub refused_line : List ℕ → ReadFault → FaultLine
refused_line path (refused.R1 place) = file_line (codes "R1") path place []
refused_line path (refused.R2 place) = file_line (codes "R2") path place []
refused_line path (refused.R3 place) = file_line (codes "R3") path place []
refused_line path (refused.R4 place) = file_line (codes "R4") path place []
refused_line path (refused.R5 place) = file_line (codes "R5") path place []
refused_line path refused.NoMemory = file_line [] path 0 []

abbrev pub tree_in : List ℕ → outcome.Outcome → Result Outline ProjectFault
tree_in path (outcome.tree tree) = Ok tree
tree_in path (outcome.fault why) = Err (fault.Model (refused_line path why))

abbrev pub trees_in : Outcome → Result (List (List ℕ × Outline)) ProjectFault
trees_in (stops line) = Err (fault.Model line)
trees_in (goes_on p) = Ok p.trees

abbrev pub with_trees : List ℕ → List ℕ → Result (List (List ℕ × Outline)) ProjectFault → Result Project ProjectFault
with_trees schema users (Err why) = Err why
with_trees schema users (Ok trees) = Ok (record { schema = schema; users = users; trees = trees })

abbrev pub unless_line : Option FaultLine → Result Project ProjectFault → Result Project ProjectFault
unless_line (Some line) project = Err (fault.Model line)
unless_line None project = project

-- given: the project's files
module _ (files : List File) where
  abbrev pub lookml_paths : List (List ℕ)
  lookml_paths = filter is_lookml (paths_of files)

  -- the includes of a file that is read are followed before all else, if each of them reaches something
  abbrev pub after_tree : List (List ℕ × Outline) → List (List ℕ) → List ℕ → List Task → Outline → Option FaultLine → Outcome
  after_tree trees left path rest tree (Some line) = stops line
  after_tree trees left path rest tree None = goes_on (record {
    trees = trees ++ (path, tree) ∷ [];
    left = left;
    tasks = map (reach_in path) (includes_of tree) ++ rest;
  })

  abbrev pub after_reading : List (List ℕ × Outline) → List (List ℕ) → List ℕ → List Task → Result Outline ProjectFault → Outcome
  after_reading trees left path rest (Err (fault.Model line)) = stops line
  after_reading trees left path rest (Err why) = stops (file_line [] path 0 [])
  after_reading trees left path rest (Ok tree) =
      after_tree trees left path rest tree (first_in (reaches_nothing lookml_paths path) (includes_of tree))

  abbrev pub after_body : List (List ℕ × Outline) → List (List ℕ) → List ℕ → List Task → Result (Option (List ℕ)) ProjectFault → Outcome
  after_body trees left path rest (Err (fault.Model line)) = stops line
  after_body trees left path rest (Err why) = stops (file_line [] path 0 [])
  after_body trees left path rest (Ok None) = goes_on (record { trees = trees; left = left; tasks = rest })
  after_body trees left path rest (Ok (Some body)) = after_reading trees left path rest (tree_in path (reading_of body))

  -- the next file is read, if one is to be
  abbrev pub after_task : List (List ℕ × Outline) → List (List ℕ) → List Task → Outcome
  after_task trees left [] = goes_on (record { trees = trees; left = left; tasks = [] })
  after_task trees left (Read path ∷ rest) = after_body trees left path rest (sized path (body_of path files))
  after_task trees left (Reach file pattern ∷ rest) =
      goes_on (record { trees = trees; left = left; tasks = Reach file pattern ∷ rest })

  abbrev pub after_pending : List (List ℕ × Outline) → Pending → Outcome
  after_pending trees p = after_task trees p.left p.tasks

  abbrev pub step : Progress → Outcome
  step p = after_pending p.trees (followed p.left p.tasks)

  -- each step reads a file that was not read before, so there are at most as many steps as LookML files
  abbrev pub steps : ℕ → Progress → Outcome
  steps zero p = goes_on p
  steps (suc n) p = go_on (steps n) (step p)

  -- ---- all of it

  -- from the one model file on; where there is none or there are several, M6
  abbrev pub trees_from : List (List ℕ) → Result (List (List ℕ × Outline)) ProjectFault
  trees_from (root ∷ []) = trees_in (steps (length lookml_paths) (from_root lookml_paths root))
  trees_from roots = Err (fault.Model (file_line (codes "M6") [] 0 []))

  abbrev pub with_tables : Result (Option (List ℕ)) ProjectFault → Result (Option (List ℕ)) ProjectFault → Result Project ProjectFault
  with_tables (Err why) users = Err why
  with_tables (Ok schema) (Err why) = Err why
  with_tables (Ok schema) (Ok users) =
      with_trees (unwrap_or schema []) (unwrap_or users []) (trees_from (filter is_root (paths_of files)))

  abbrev pub table_at : List ℕ → Result (Option (List ℕ)) ProjectFault
  table_at path = sized path (body_of path files)

  -- the tables that are missing, then those that are too big, then the number of model files, then the LookML files in
  -- order of reading; in each its size, then its text, then its includes
  abbrev pub gathered : Result Project ProjectFault
  gathered =
      unless_line (missing (paths_of files) (codes "schema.csv")) (unless_line (missing (paths_of files) (codes "users.csv"))
      (with_tables (table_at (codes "schema.csv")) (table_at (codes "users.csv"))))
