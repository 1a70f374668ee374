-- What is answered at a moment is answered at the next one of the clock, as far as it tells.
use Rattle.std.proofs.Common.{◌≡◌, List, [], ℕ, Option, Some, None, refl}
use Rattle.std.specs.Prelude.{ℤ, IfErr, IfSome, Result, Ok, Err, slice_get}
use Rattle.lk_io.specs.declared.files.File.{File}
use Rattle.lk_ledger.specs.declared.kept.Kept.{Kept}
use Rattle.lk_edition.specs.Histories.{Stands}
use Rattle.lk_edition.specs.Standings.{Standing}
use Rattle.lk_serve.specs.Opened.{HasOpened, IsOpened, IsOpenedBy, IsOpenedNext, IsOpenedNextBy}
use Rattle.lk_serve.specs.Openings.{IsWhy}
use Rattle.lk_serve.specs.Queries.{IsQueried, OverEdition}
use Rattle.lk_serve.specs.Runs.{next_moment}
use Rattle.lk_serve.specs.declared.opening.DataFiles.{DataFiles}
use Rattle.lk_serve.specs.declared.opening.DataFiles.TheVariants as data_files
use Rattle.lk_serve.specs.declared.opening.Why.{Why}
use Rattle.lk_serve.specs.declared.opening.Why.TheVariants as why
use Rattle.lk_serve.specs.declared.replies.Reply.{Reply}
use Rattle.lk_serve.specs.declared.stops.Stop.{Stop}
use Rattle.lk_serve.specs.declared.stops.Stop.TheVariants as stop

some_is : (told : Option ℤ) (now : ℤ) → told ≡ Some now → IfSome told (λ moment. now ≡ moment)
some_is None now is = tt
some_is (Some moment) now is = cc is

pub next_is : (moments : Option (List ℤ)) (now : ℤ) → IfSome moments (λ told. slice_get told 0 ≡ Some now) → IfSome (next_moment moments) (λ moment. now ≡ moment)
next_is None now first = tt
next_is (Some told) now first = some_is (slice_get told 0) now first

-- what opens at the moment that the clock gave, over an edition
pub queried_then : (begins : Kept → Type 0) (e : Standing) (user explore : List ℕ) (now : ℤ) (next : Option ℤ) (reply : Reply) → IfSome next (λ moment. now ≡ moment)
    → (files : Option (List File)) (input : Option (List ℕ)) → IfSome files (λ told. IsOpened told begins now (Ok e))
    → OverEdition e user explore input now reply → IfSome files (λ told. IsQueried told begins user explore input next reply)
queried_then begins e user explore now next reply is None input opened h = tt
queried_then begins e user explore now next reply is (Some told) input opened h =
    record { moment = now; is_now = is; opened = Ok e; is_opened = opened; told = h }

-- the line on a project that does not open
line_then : (begins : Kept → Type 0) (user explore : List ℕ) (next : Option ℤ) (input : Option (List ℕ)) (files : List File) (reply : Reply)
    → IsOpenedNext files begins next (Err reply) → IsQueried files begins user explore input next reply
line_then begins user explore next input files reply h =
    record { moment = h.moment; is_now = h.is_next; opened = Err reply; is_opened = h.is; told = refl }

pub unqueried_then : (begins : Kept → Type 0) (user explore : List ℕ) (next : Option ℤ) (input : Option (List ℕ)) (files : Option (List File)) (reply : Reply)
    → IfSome files (λ told. IsWhy (λ line. IsOpenedNext told begins next (Err line)) (why.Told reply))
    → IfSome files (λ told. IsQueried told begins user explore input next reply)
unqueried_then begins user explore next input None reply h = tt
unqueried_then begins user explore next input (Some told) reply h = line_then begins user explore next input told reply h

-- what opens at the moment that a clock gave opens at its next, as far as it tells
pub opened_next : (which : DataFiles) (begins : Kept → Type 0) (now : ℤ) (next : Option ℤ) (e : Standing) → IfSome next (λ moment. now ≡ moment)
    → (files : Option (List File)) → IfSome files (λ told. IsOpenedBy which told begins now (Ok e)) → IfSome files (λ told. IsOpenedNextBy which told begins next (Ok e))
opened_next which begins now next e is None h = tt
opened_next which begins now next e is (Some told) h = record { moment = now; is_next = is; is = h }

why_next : (which : DataFiles) (begins : Kept → Type 0) (now : ℤ) (next : Option ℤ) (reason : Why) (files : List File) → IfSome next (λ moment. now ≡ moment)
    → IsWhy (λ reply. IsOpenedBy which files begins now (Err reply)) reason → IsWhy (λ reply. IsOpenedNextBy which files begins next (Err reply)) reason
why_next which begins now next (why.Told reply) files is h = record { moment = now; is_next = is; is = h }
why_next which begins now next why.Store files is h = tt
why_next which begins now next why.Files files is h = tt
why_next which begins now next why.Memory files is h = tt

pub unopened_next : (which : DataFiles) (begins : Kept → Type 0) (now : ℤ) (next : Option ℤ) (reason : Why) → IfSome next (λ moment. now ≡ moment)
    → (files : Option (List File)) → IfSome files (λ told. IsWhy (λ reply. IsOpenedBy which told begins now (Err reply)) reason)
    → IfSome files (λ told. IsWhy (λ reply. IsOpenedNextBy which told begins next (Err reply)) reason)
unopened_next which begins now next reason is None h = tt
unopened_next which begins now next reason is (Some told) h = why_next which begins now next reason told is h

-- the project had opened where the input stops the run
pub input_opened : (begins : Kept → Type 0) (e : Standing) (now : ℤ) (next : Option ℤ) (files : Option (List File)) (r : Result Reply Stop) → Stands e [] → IfSome next (λ moment. now ≡ moment)
    → IfSome files (λ told. IsOpened told begins now (Ok e)) → IfErr r (λ reason. reason ≡ stop.Input → HasOpened files begins next)
input_opened begins e now next files (Ok reply) stands is opened = tt
input_opened begins e now next files (Err reason) stands is opened =
    λ _. record { e = e; stands = stands; is = opened_next data_files.Read begins now next e is files opened }
