-- What opens nothing over any store opens nothing over what a store handed over.
use Rattle.std.proofs.Common.{◌≡◌, ap, refl, List}
use Rattle.std.specs.Prelude.{ℤ, pos, IfErr, IfSome, Option, Some, None, Result, Ok, Err}
use Rattle.lk_io.specs.declared.files.File.{File}
use Rattle.lk_include.specs.declared.project.ProjectFault.{ProjectFault}
use Rattle.lk_include.specs.declared.project.ProjectFault.TheVariants as project
use Rattle.lk_ledger.specs.declared.kept.Kept.{Kept}
use Rattle.lk_resolve.specs.declared.loading.Loaded.{Loaded}
use Rattle.lk_seed.specs.Seeds as seeds
use Rattle.lk_state.specs.Openings.{Seed}
use Rattle.lk_serve.specs.Opened.{IsOpenedBy, IsOpenedNextBy, OverBatches, OverFiles, batches_of}
use Rattle.lk_serve.specs.Openings.{HasProjectBy, IsFileLine, IsLineBy, IsProjectBy, IsUnservedBy, IsWhy}
use Rattle.lk_serve.specs.declared.opening.DataFiles.{DataFiles}
use Rattle.lk_serve.specs.declared.opening.Why.{Why}
use Rattle.lk_serve.specs.declared.opening.Why.TheVariants as why
use Rattle.lk_serve.specs.declared.replies.Reply.{Reply}

module _ (begins : Kept → Type 0) (now : ℤ) where
  file_line : (loaded : Loaded) (found : Result (List seeds.Seed) ProjectFault) (reply : Reply) → IsFileLine found reply → OverFiles loaded begins now found (Err reply)
  file_line loaded (Ok found) reply h = absurd h
  file_line loaded (Err (project.Model fault)) reply h = ap Err h
  file_line loaded (Err project.Failed) reply h = h
  file_line loaded (Err project.NoMemory) reply h = h

  unserved : (which : DataFiles) (files : List File) (loaded : Result Loaded ProjectFault) (reply : Reply) → IsUnservedBy which files loaded reply → OverBatches which files begins now loaded (Err reply)
  unserved which files (Ok loaded) reply h = file_line loaded (batches_of which loaded.model.schema.tables files) reply h
  unserved which files (Err (project.Model fault)) reply h = ap Err h
  unserved which files (Err project.Failed) reply h = h
  unserved which files (Err project.NoMemory) reply h = h

  line_at : (which : DataFiles) (files : List File) (reply : Reply) → IsLineBy which files reply → IsOpenedBy which files begins now (Err reply)
  line_at which files reply h = record { loaded = h.loaded; is_load = h.is_load; over = unserved which files h.loaded reply h.over }

-- at the next moment of a clock, and at any where it tells none
line_next : (which : DataFiles) (begins : Kept → Type 0) (next : Option ℤ) (files : List File) (reply : Reply) → IsLineBy which files reply → IsOpenedNextBy which files begins next (Err reply)
line_next which begins None files reply h = record { moment = pos 0; is_next = tt; is = line_at begins (pos 0) which files reply h }
line_next which begins (Some told) files reply h = record { moment = told; is_next = refl; is = line_at begins told which files reply h }

line_of : (which : DataFiles) (begins : Kept → Type 0) (next : Option ℤ) (files : List File) (reason : Why) → IsWhy (IsLineBy which files) reason
    → IsWhy (λ reply. IsOpenedNextBy which files begins next (Err reply)) reason
line_of which begins next files (why.Told reply) h = line_next which begins next files reply h
line_of which begins next files why.Store h = tt
line_of which begins next files why.Files h = tt
line_of which begins next files why.Memory h = tt

-- the line on a project whose files open nothing
pub line_opens : (which : DataFiles) (begins : Kept → Type 0) (next : Option ℤ) (files : Option (List File)) (reason : Why) → IfSome files (λ told. IsWhy (IsLineBy which told) reason)
    → IfSome files (λ told. IsWhy (λ reply. IsOpenedNextBy which told begins next (Err reply)) reason)
line_opens which begins next None reason h = tt
line_opens which begins next (Some told) reason h = line_of which begins next told reason h

-- ---- what opens nothing for the store's sake

-- the files have no line where their project was read
pub project_there : {A B : Type 0} (which : DataFiles) (r : Result A B) (why_of : B → Why) (files : Option (List File)) (loaded : Loaded) (given : List Seed)
    → IfSome files (λ told. IsProjectBy which told loaded given) → IfSome files (λ told. IfErr r (λ unserved. why_of unserved ≡ why.Store → HasProjectBy which told))
project_there which r why_of None loaded given h = tt
project_there which (Ok office) why_of (Some told) loaded given h = tt
project_there which (Err unserved) why_of (Some told) loaded given h = λ _. record { loaded = loaded; given = given; is = h }

-- where their project was not read, the store stops nothing
pub project_aside : (which : DataFiles) (files : Option (List File)) (reason : Why) → (reason ≡ why.Store → ⊥) → IfSome files (λ told. reason ≡ why.Store → HasProjectBy which told)
project_aside which None reason never = tt
project_aside which (Some told) reason never = λ store. absurd (never store)
