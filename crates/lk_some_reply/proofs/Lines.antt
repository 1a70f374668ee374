-- Neither a text nor a file's size is the cause of a want of memory or of a failure: what is wrong with them has a line.
use Rattle.std.proofs.Common.{ℕ, ◌+◌, Bool, List, [], ◌∷◌, filter, length, Option, Some, None, unwrap_or, codes, Result, Ok, Err}
use Rattle.std.specs.Prelude.{nat_lt}
use Rattle.lk_val.specs.declared.fault.FaultLine.{FaultLine}
use Rattle.lk_val.specs.declared.fault.ModelFault.{ModelFault}
use Rattle.lk_val.specs.declared.fault.ModelFault.TheVariants as model
use Rattle.lk_io.specs.Folder.{body_of, paths_of}
use Rattle.lk_io.specs.declared.files.File.{File}
use Rattle.lk_csv.specs.Records.{records_of}
use Rattle.lk_read.specs.Outline.{Outline}
use Rattle.lk_include.specs.Gathering.{Outcome, file_line, from_root, gathered, goes_on, lookml_paths, missing, sized, steps, stops, table_at, trees_from, trees_in, unless_line, with_tables, with_trees}
use Rattle.lk_include.specs.Patterns.{is_root}
use Rattle.lk_include.specs.declared.project.Project.{Project}
use Rattle.lk_include.specs.declared.project.ProjectFault.{ProjectFault}
use Rattle.lk_include.specs.declared.project.ProjectFault.TheVariants as project
use Rattle.lk_schema.specs.Rows.{Fields, row_line, row_then, rows_before, rows_from, rows_of}
use Rattle.lk_schema.specs.Schemas as schemas
use Rattle.lk_schema.specs.Schemas.{fault_in, schema_of, schema_unless, schema_with}
use Rattle.lk_schema.specs.Users as user_rows
use Rattle.lk_schema.specs.Users.{second_attribute, users_of, users_unless, users_with}
use Rattle.lk_schema.specs.declared.schema.Declared.{Declared as DeclaredColumn}
use Rattle.lk_some_reply.proofs.Failing.{FailsBy, fails_if}

-- ---- no fault of the texts is want of memory or a failure

-- the line of a fault
abbrev pub IsLine : ModelFault → Type 0
IsLine (model.Fault line) = Unit {0}
IsLine model.NoMemory = ⊥

abbrev pub IsFileLine : ProjectFault → Type 0
IsFileLine (project.Model line) = Unit {0}
IsFileLine project.Failed = ⊥
IsFileLine project.NoMemory = ⊥

before_lines : {A : Type 0} (front : List A) (rest : Result (List A) ModelFault) → FailsBy IsLine rest → FailsBy IsLine (rows_before front rest)
before_lines front (Ok rest) h = tt
before_lines front (Err fault) h = h

module _ {A : Type 0} (code path : List ℕ) (is_header : Fields → Bool) (row_of : Fields → Option A) where
  then_lines : (number : ℕ) (row : Option A) (rest : Result (List A) ModelFault) → FailsBy IsLine rest
      → FailsBy IsLine (row_then code path is_header row_of number row rest)
  then_lines number None rest h = tt
  then_lines number (Some row) rest h = before_lines (row ∷ []) rest h

  from_lines : (number : ℕ) (records : List Fields) → FailsBy IsLine (rows_from code path is_header row_of number records)
  from_lines number [] = tt
  from_lines number (fields ∷ records) =
      then_lines number (row_of fields) (rows_from code path is_header row_of (number + 1) records) (from_lines (number + 1) records)

  rows_lines : (records : List Fields) → FailsBy IsLine (rows_of code path is_header row_of records)
  rows_lines [] = tt
  rows_lines (header ∷ records) = fails_if IsLine (is_header header) (rows_from code path is_header row_of 1 records) (Err (model.Fault (row_line code path 0 [] []))) (from_lines 1 records) tt

unless_schema : (fault : Option FaultLine) (rows : List DeclaredColumn) → FailsBy IsLine (schema_unless fault rows)
unless_schema (Some line) rows = tt
unless_schema None rows = tt

with_schema : (rows : Result (List DeclaredColumn) ModelFault) → FailsBy IsLine rows → FailsBy IsLine (schema_with rows)
with_schema (Err fault) h = h
with_schema (Ok rows) h = unless_schema (fault_in rows) rows

pub schema_lines : (text : List ℕ) → FailsBy IsLine (schema_of text)
schema_lines text =
    with_schema (rows_of (codes "C1") (codes "schema.csv") schemas.is_header schemas.declared_of (records_of text))
    (rows_lines (codes "C1") (codes "schema.csv") schemas.is_header schemas.declared_of (records_of text))

unless_users : (fault : Option FaultLine) (rows : List user_rows.User) → FailsBy IsLine (users_unless fault rows)
unless_users (Some line) rows = tt
unless_users None rows = tt

with_users : (rows : Result (List user_rows.User) ModelFault) → FailsBy IsLine rows → FailsBy IsLine (users_with rows)
with_users (Err fault) h = h
with_users (Ok rows) h = unless_users (second_attribute rows) rows

pub users_lines : (text : List ℕ) → FailsBy IsLine (users_of text)
users_lines text =
    with_users (rows_of (codes "U1") (codes "users.csv") user_rows.is_header user_rows.user_of (records_of text))
    (rows_lines (codes "U1") (codes "users.csv") user_rows.is_header user_rows.user_of (records_of text))

-- ---- gathering

sized_lines : (path : List ℕ) (body : Option (List ℕ)) → FailsBy IsFileLine (sized path body)
sized_lines path None = tt
sized_lines path (Some body) = fails_if IsFileLine (nat_lt 67108864 (length body)) (Err (project.Model (file_line (codes "P1") path 0 []))) (Ok (Some body)) tt tt

outcome_lines : (o : Outcome) → FailsBy IsFileLine (trees_in o)
outcome_lines (stops line) = tt
outcome_lines (goes_on p) = tt

unless_lines : (line : Option FaultLine) (p : Result Project ProjectFault) → FailsBy IsFileLine p → FailsBy IsFileLine (unless_line line p)
unless_lines (Some line) p h = tt
unless_lines None p h = h

both_lines : (line other : Option FaultLine) (p : Result Project ProjectFault) → FailsBy IsFileLine p
    → FailsBy IsFileLine (unless_line line (unless_line other p))
both_lines line other p h = unless_lines line (unless_line other p) (unless_lines other p h)

trees_lines : (schema table : List ℕ) (trees : Result (List (List ℕ × Outline)) ProjectFault) → FailsBy IsFileLine trees
    → FailsBy IsFileLine (with_trees schema table trees)
trees_lines schema table (Err why) h = h
trees_lines schema table (Ok trees) h = tt

module _ (files : List File) where
  pub table_lines : (path : List ℕ) → FailsBy IsFileLine (table_at files path)
  table_lines path = sized_lines path (body_of path files)

  root_lines : (roots : List (List ℕ)) → FailsBy IsFileLine (trees_from files roots)
  root_lines [] = tt
  root_lines (root ∷ []) = outcome_lines (steps files (length (lookml_paths files)) (from_root (lookml_paths files) root))
  root_lines (root ∷ other ∷ roots) = tt

  tables_lines : (schema table : Result (Option (List ℕ)) ProjectFault) → FailsBy IsFileLine schema → FailsBy IsFileLine table
      → FailsBy IsFileLine (with_tables files schema table)
  tables_lines (Err why) table h k = h
  tables_lines (Ok schema) (Err why) h k = k
  tables_lines (Ok schema) (Ok table) h k =
      trees_lines (unwrap_or schema []) (unwrap_or table []) (trees_from files (filter is_root (paths_of files))) (root_lines (filter is_root (paths_of files)))

  pub gathered_lines : FailsBy IsFileLine (gathered files)
  gathered_lines =
      both_lines (missing (paths_of files) (codes "schema.csv")) (missing (paths_of files) (codes "users.csv"))
      (with_tables files (table_at files (codes "schema.csv")) (table_at files (codes "users.csv")))
      (tables_lines (table_at files (codes "schema.csv")) (table_at files (codes "users.csv")) (table_lines (codes "schema.csv")) (table_lines (codes "users.csv")))
