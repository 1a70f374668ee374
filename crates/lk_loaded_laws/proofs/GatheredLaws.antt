-- The trees of a project that is gathered are as texts spell them.
use Rattle.std.proofs.Common.{◌≡◌, ℕ, zero, suc, true, List, [], ◌∷◌, subst, Option, Some, None}
use Rattle.std.specs.Prelude.{Result, Ok, Err, codes, filter, length, unwrap_or}
use Rattle.std.specs.List.{AllByRecursion}
use Rattle.lk_val.specs.declared.fault.FaultLine.{FaultLine}
use Rattle.lk_io.specs.declared.files.File.{File}
use Rattle.lk_io.specs.Folder.{body_of, paths_of}
use Rattle.lk_read.specs.Outcome as outcome
use Rattle.lk_read.specs.Outline.{Outline}
use Rattle.lk_read.proofs.OneOutcome.{some_outcome}
use Rattle.lk_params.specs.Picking.{first_in}
use Rattle.lk_include.specs.Gathering.{Outcome, Progress, after_body, after_reading, after_task, after_tree, followed, from_root, gathered, go_on, goes_on, includes_of, lookml_paths, missing, reaches_nothing, sized, step, steps, stops, table_at, tree_in, trees_from, trees_in, unless_line, with_tables, with_trees}
use Rattle.lk_include.specs.Patterns.{is_root}
use Rattle.lk_include.specs.Reading.{reading_of}
use Rattle.lk_include.specs.declared.project.Project.{Project}
use Rattle.lk_include.specs.declared.project.ProjectFault.{ProjectFault}
use Rattle.lk_include.specs.declared.project.ProjectFault.TheVariants as fault
use Rattle.lk_include.specs.declared.reading.Task.{Task}
use Rattle.lk_include.specs.declared.reading.Task.TheVariants.{Reach, Read}
use Rattle.lk_model_laws.specs.Spelled.{is_spelled}
use Rattle.lk_model_laws.proofs.ListLaws.{all_append}
use Rattle.lk_loaded_laws.proofs.SpelledFileLaws.{file_spelled}

-- each tree is as a text spells it
abbrev pub AreTrees : List (List ℕ × Outline) → Type 0
AreTrees trees = AllByRecursion (λ file. is_spelled file.1 ≡ true) trees

abbrev IsFine : Outcome → Type 0
IsFine (stops line) = Unit {0}
IsFine (goes_on p) = AreTrees p.trees

-- ---- a text

abbrev IsReadOutcome : outcome.Outcome → Type 0
IsReadOutcome (outcome.tree tree) = is_spelled tree ≡ true
IsReadOutcome (outcome.fault why) = Unit {0}

outcome_fine : (text : List ℕ) (o : outcome.Outcome) → outcome.IsOutcome 32 text o → IsReadOutcome o
outcome_fine text (outcome.tree tree) h = file_spelled 32 text tree h
outcome_fine text (outcome.fault why) h = tt

reading_fine : (text : List ℕ) → IsReadOutcome (reading_of text)
unfolding reading_of
reading_fine text = outcome_fine text (some_outcome 32 text).0 (some_outcome 32 text).1

-- ---- steps

module _ (files : List File) (trees : List (List ℕ × Outline)) (fine : AreTrees trees) (left : List (List ℕ)) where
  module _ (path : List ℕ) (rest : List Task) where
    tree_fine : (tree : Outline) → is_spelled tree ≡ true → (o : Option FaultLine) → IsFine (after_tree files trees left path rest tree o)
    tree_fine tree h (Some line) = tt
    tree_fine tree h None = all_append (λ file. is_spelled file.1 ≡ true) trees ((path, tree) ∷ []) fine (h, tt)

    outcome_read : (o : outcome.Outcome) → IsReadOutcome o → IsFine (after_reading files trees left path rest (tree_in path o))
    outcome_read (outcome.tree tree) h = tree_fine tree h (first_in (reaches_nothing (lookml_paths files) path) (includes_of tree))
    outcome_read (outcome.fault why) h = tt

    body_fine : (body : Result (Option (List ℕ)) ProjectFault) → IsFine (after_body files trees left path rest body)
    body_fine (Err (fault.Model line)) = tt
    body_fine (Err fault.Failed) = tt
    body_fine (Err fault.NoMemory) = tt
    body_fine (Ok None) = fine
    body_fine (Ok (Some text)) = outcome_read (reading_of text) (reading_fine text)

  task_fine : (tasks : List Task) → IsFine (after_task files trees left tasks)
  task_fine [] = fine
  task_fine (Read path ∷ rest) = body_fine path rest (sized path (body_of path files))
  task_fine (Reach file pattern ∷ rest) = fine

module _ (files : List File) where
  step_fine : (p : Progress) → AreTrees p.trees → IsFine (step files p)
  step_fine p h = let pending = followed p.left p.tasks in task_fine files p.trees h pending.left pending.tasks

  steps_fine : (n : ℕ) (p : Progress) → AreTrees p.trees → IsFine (steps files n p)
  steps_fine zero p h = h
  steps_fine (suc n) p h = of_outcome (λ q k. steps_fine n q k) (step files p) (step_fine p h)
    where
      of_outcome : ((q : Progress) → AreTrees q.trees → IsFine (steps files n q)) → (o : Outcome) → IsFine o → IsFine (go_on (steps files n) o)
      of_outcome next (stops line) k = tt
      of_outcome next (goes_on q) k = next q k

  -- ---- all of it

  abbrev AreFine : Result (List (List ℕ × Outline)) ProjectFault → Type 0
  AreFine (Ok trees) = AreTrees trees
  AreFine (Err why) = Unit {0}

  abbrev IsFineProject : Result Project ProjectFault → Type 0
  IsFineProject (Ok p) = AreTrees p.trees
  IsFineProject (Err why) = Unit {0}

  roots_fine : (roots : List (List ℕ)) → AreFine (trees_from files roots)
  roots_fine [] = tt
  roots_fine (root ∷ []) = of_outcome (steps files (length (lookml_paths files)) (from_root (lookml_paths files) root)) (steps_fine (length (lookml_paths files)) (from_root (lookml_paths files) root) tt)
    where
      of_outcome : (o : Outcome) → IsFine o → AreFine (trees_in o)
      of_outcome (stops line) h = tt
      of_outcome (goes_on p) h = h
  roots_fine (root ∷ other ∷ roots) = tt

  trees_fine : (schema users : List ℕ) (r : Result (List (List ℕ × Outline)) ProjectFault) → AreFine r → IsFineProject (with_trees schema users r)
  trees_fine schema users (Ok trees) h = h
  trees_fine schema users (Err why) h = tt

  tables_fine : (schema users : Result (Option (List ℕ)) ProjectFault) → IsFineProject (with_tables files schema users)
  tables_fine (Err why) users = tt
  tables_fine (Ok schema) (Err why) = tt
  tables_fine (Ok schema) (Ok users) = trees_fine (unwrap_or schema []) (unwrap_or users []) (trees_from files (filter is_root (paths_of files))) (roots_fine (filter is_root (paths_of files)))

  unless_fine : (o : Option FaultLine) (r : Result Project ProjectFault) → IsFineProject r → IsFineProject (unless_line o r)
  unless_fine None r h = h
  unless_fine (Some line) r h = tt

  gathered_fine : IsFineProject (gathered files)
  gathered_fine =
      let tables = with_tables files (table_at files (codes "schema.csv")) (table_at files (codes "users.csv")) in
      let no_users = missing (paths_of files) (codes "users.csv") in
      unless_fine (missing (paths_of files) (codes "schema.csv")) (unless_line no_users tables)
      (unless_fine no_users tables (tables_fine (table_at files (codes "schema.csv")) (table_at files (codes "users.csv"))))

  -- the trees of a project
  pub project_fine : (p : Project) → gathered files ≡ Ok p → AreTrees p.trees
  project_fine p h = subst IsFineProject h gathered_fine
