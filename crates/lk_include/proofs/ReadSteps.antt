-- Steps of reading a project's files.
use Rattle.std.proofs.Common.{◌≡◌, ◌∙◌, ◌<◌, ◌≤◌, ℕ, suc, ◌+◌, ◌-◌, List, [], ◌∷◌, ◌++◌, length, length-append, refl, sym, ap, arith}
use Rattle.std.specs.Prelude.{Bool, true, false, filter, not, if◌then◌else◌, Option, Some, None, IfSome, IfOk, Result, Ok, Err, map}
use Rattle.lk_val.specs.declared.fault.FaultLine.{FaultLine}
use Rattle.lk_io.specs.declared.files.File.{File}
use Rattle.lk_read.specs.declared.read_fault.ReadFault.{ReadFault}
use Rattle.lk_read.specs.declared.read_fault.ReadFault.TheVariants as refused
use Rattle.lk_read.specs.Outcome as outcome
use Rattle.lk_read.specs.Outcome.{IsOutcome, outcome_of}
use Rattle.lk_include.specs.Reading.{reading_of}
use Rattle.lk_include.proofs.ReadingLaws.{only_reading}
use Rattle.lk_include.specs.Gathering.{Progress, goes_on, go_on, step, steps, refused_line, tree_in}
use Rattle.lk_val.specs.Memory.{IsUnlessMemory}
use Rattle.lk_include.specs.Causes.{is_outside}
use Rattle.lk_include.specs.Following.{IsStopped, IsTold, refusal_of}
use Rattle.lk_include.specs.declared.reading.Task.{Task}
use Rattle.lk_include.specs.declared.reading.Task.TheVariants.{Read}
use Rattle.lk_include.specs.declared.project.ProjectFault.{ProjectFault}
use Rattle.lk_include.specs.declared.project.ProjectFault.TheVariants as fault

-- what passes a test and what doesn't are all together
pub both_parts : (test : List ℕ → Bool) (xs : List (List ℕ)) → length (filter test xs) + length (filter (λ x. not (test x)) xs) ≡ length xs
both_parts test [] = refl
both_parts test (x ∷ xs) =
    elim (test x) as (λ b. length (if b then x ∷ filter test xs else filter test xs) + length (if not b then x ∷ filter (λ y. not (test y)) xs else filter (λ y. not (test y)) xs) ≡ suc (length xs)) [
      | true ↦ let e = both_parts test xs in omega arith
      | false ↦ let e = both_parts test xs in omega arith
    ]

-- where the files that an include reaches are to be read, as much is to be done as before
pub fewer_if : {A E : Type 0} (result : Result A E) (test : List ℕ → Bool) (left paths others : List (List ℕ)) (tasks now : List Task)
    → paths ≡ filter test left → others ≡ filter (λ x. not (test x)) left → IfOk result (λ _. now ≡ map Read paths ++ tasks)
    → IfOk result (λ _. length others + length now ≤ length left + length tasks)
fewer_if (Err e) test left paths others tasks now p o h = tt
fewer_if (Ok x) test left paths others tasks now p o h =
    let parts = both_parts test left in
    let all : length now ≡ length paths + length tasks = ap length h ∙ length-append (map Read paths) tasks ∙ ap (λ n. n + length tasks) (length-map Read paths) in
    let in_paths : length paths ≡ length (filter test left) = ap length p in
    let in_others : length others ≡ length (filter (λ x. not (test x)) left) = ap length o in
    omega arith
  where
    length-map : {A B : Type 0} (f : A → B) (xs : List A) → length (map f xs) ≡ length xs
    length-map f [] = refl
    length-map f (x ∷ xs) = ap suc (length-map f xs)

-- a step further
one_more : (files : List File) (n i : ℕ) (p : Progress) → i < n
    → steps files (n - i) p ≡ go_on (steps files (n - (i + 1))) (step files p)
one_more files n i p lt = let e : n - i ≡ suc (n - (i + 1)) = omega arith in ap (λ m. steps files m p) e

pub steps_on : (told : Option (List File)) (n i : ℕ) (first p q : Progress) → i < n
    → IfSome told (λ files. steps files (n - i) p ≡ steps files n first)
    → IfSome told (λ files. step files p ≡ goes_on q)
    → IfSome told (λ files. steps files (n - (i + 1)) q ≡ steps files n first)
steps_on None n i first p q lt h k = tt
steps_on (Some files) n i first p q lt h k =
    ap (go_on (steps files (n - (i + 1)))) (sym k) ∙ sym (one_more files n i p lt) ∙ h

-- a step that stops
pub steps_stop : (told : Option (List File)) (n i : ℕ) (first p : Progress) (why : ProjectFault) → i < n
    → IfSome told (λ files. steps files (n - i) p ≡ steps files n first)
    → IfSome told (λ files. IsStopped why (step files p))
    → IfSome told (λ files. IsStopped why (steps files n first))
steps_stop None n i first p why lt h k = tt
steps_stop (Some files) n i first p (fault.Model line) lt h k =
    sym h ∙ one_more files n i p lt ∙ ap (go_on (steps files (n - (i + 1)))) k
steps_stop (Some files) n i first p fault.Failed lt h k = tt
steps_stop (Some files) n i first p fault.NoMemory lt h k = tt

by_fault : (path body : List ℕ) (why : ReadFault) (line : FaultLine) → IsOutcome 32 body (outcome.fault why)
    → Some (refused_line path why) ≡ Some line → Err (fault.Model line) ≡ tree_in path (reading_of body)
by_fault path body why line h e =
    let same : refused_line path why ≡ line = cc in
    ap (λ l. Err (fault.Model l)) (sym same) ∙ sym (ap (tree_in path) (only_reading body (outcome.fault why) h))

-- a text that is refused has the fault that is answered, but for want of memory
pub refused_as : (path body : List ℕ) (why : ReadFault) (answer : ProjectFault)
    → IfSome (outcome_of (Err why)) (IsOutcome 32 body) → IsTold (refusal_of path why) answer
    → IsUnlessMemory is_outside (Err answer) (tree_in path (reading_of body))
refused_as path body (refused.R1 p) (fault.Model line) h e = by_fault path body (refused.R1 p) line h e
refused_as path body (refused.R2 p) (fault.Model line) h e = by_fault path body (refused.R2 p) line h e
refused_as path body (refused.R3 p) (fault.Model line) h e = by_fault path body (refused.R3 p) line h e
refused_as path body (refused.R4 p) (fault.Model line) h e = by_fault path body (refused.R4 p) line h e
refused_as path body (refused.R5 p) (fault.Model line) h e = by_fault path body (refused.R5 p) line h e
refused_as path body refused.NoMemory (fault.Model line) h e = cc
refused_as path body why fault.Failed h e = tt
refused_as path body why fault.NoMemory h e = tt
