-- A server serves connections, or tells why it does not.
use Rattle.std.proofs.Common.{◌≡◌, ℕ, Bool, true, List, [], Option, inl, inr, refl}
use Rattle.std.specs.Prelude.{IfSome, Ok, Err}
use Rattle.std.specs.Option.{option_map}
use Rattle.lk_io.specs.Moments.{later}
use Rattle.lk_io.specs.declared.files.File.{File}
use Rattle.lk_edition.specs.Histories.{Stands}
use Rattle.lk_edition.specs.Standings.{Standing}
use Rattle.lk_ledger.specs.declared.kept.Kept.{Kept}
use Rattle.lk_door.specs.declared.serving.Served.{Served}
use Rattle.lk_door.specs.declared.serving.Served.TheVariants as served
use Rattle.lk_serve.specs.Listening.{HasListened, HasShut, RoseForEach, served_code}
use Rattle.lk_serve.specs.Opened.{IsOpenedNextBy}
use Rattle.lk_serve.specs.Openings.{HasProjectBy, IsFaulty, IsWhy}
use Rattle.lk_serve.specs.Runs.{IsAskedOnce, next_moment}
use Rattle.lk_serve.specs.Scripts.{IsUntouched, Outside}
use Rattle.lk_serve.specs.Tellings.{IsTelling}
use Rattle.lk_serve.specs.declared.opening.DataFiles.TheVariants as data_files
use Rattle.lk_serve.specs.declared.opening.Why.{Why}
use Rattle.lk_serve.specs.declared.opening.Why.TheVariants as why
use Rattle.lk_serve.proofs.ScriptLaws.{unserved}

-- how the workers ended says what the status is
pub has_shut : (how : Served) (workers before now : ℕ) (ended : Bool) (status : ℕ) → status ≡ served_code how
    → (how ≡ served.Ended → ended ≡ true) → (how ≡ served.Broken → RoseForEach workers before now) → HasShut workers before now ended status
has_shut served.Ended workers before now ended status is shut broken = inl (is, shut refl)
has_shut served.Broken workers before now ended status is shut broken = inr (inl (is, broken refl))
has_shut served.NoMemory workers before now ended status is shut broken = inr (inr is)

pub listened : (files : Option (List File)) (begins : Kept → Type 0) (a b : Outside) (status : ℕ) (shut : Type 0) (e : Standing) → Stands e []
    → IfSome files (λ told. IsOpenedNextBy data_files.Unread told begins (next_moment a.moments) (Ok e)) → b.left ≡ a.left → b.out ≡ a.out → b.moments ≡ option_map later a.moments → shut
    → HasListened files begins a b status shut
listened files begins a b status shut e stands is left silent asked ended =
    inl (record { opened = record { e = e; stands = stands; is = is }; left = left; silent = silent; asked = asked; ended = ended })

pub not_listened : (files : Option (List File)) (begins : Kept → Type 0) (a b : Outside) (status : ℕ) (shut : Type 0) (reason : Why)
    → IfSome files (λ told. IsWhy (λ reply. IsOpenedNextBy data_files.Unread told begins (next_moment a.moments) (Err reply)) reason) → IfSome files (λ told. reason ≡ why.Store → HasProjectBy data_files.Unread told)
    → IsFaulty reason → IsUntouched a b → IsAskedOnce a.moments b.moments → IsTelling a.out b.out reason status → HasListened files begins a b status shut
not_listened files begins a b status shut reason is project faulty untouched asked out =
    inr (unserved data_files.Unread files begins a b status reason is project faulty untouched asked out)
