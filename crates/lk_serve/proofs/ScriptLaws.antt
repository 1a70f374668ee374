-- A script serves, or tells why it does not.
use Rattle.std.proofs.Common.{◌≡◌, ◌∙◌, ◌≤◌, ℕ, inl, inr, true, List, [], Option, Some, None, refl, sym}
use Rattle.std.proofs.lemmas.Bool.{false≢true}
use Rattle.std.proofs.lemmas.Option.{none-some}
use Rattle.std.specs.Prelude.{◌⊎◌, IfSome, Ok, Err}
use Rattle.std.specs.Option.{option_map}
use Rattle.lk_io.specs.Moments.{later}
use Rattle.lk_io.specs.declared.files.File.{File}
use Rattle.lk_edition.specs.Histories.{Stands}
use Rattle.lk_edition.specs.Standings.{Standing}
use Rattle.lk_ledger.specs.declared.kept.Kept.{Kept}
use Rattle.lk_turns.specs.declared.ended.Ended.{Ended}
use Rattle.lk_session.specs.Recorded.{IsRecorded}
use Rattle.lk_session.specs.Servers.{server}
use Rattle.lk_serve.specs.Opened.{IsOpenedNext, IsOpenedNextBy}
use Rattle.lk_serve.specs.Openings.{HasProject, HasProjectBy, IsFaulty, IsWhy}
use Rattle.lk_serve.specs.Runs.{IsAskedOnce, next_moment}
use Rattle.lk_serve.specs.Scripts.{DidNotOpenBy, HasEnded, HasServed, IsUntouched, Outside, StoppedBy, ended_code}
use Rattle.lk_serve.specs.Tellings.{IsTelling}
use Rattle.lk_serve.specs.declared.opening.DataFiles.{DataFiles}
use Rattle.lk_serve.specs.declared.opening.DataFiles.TheVariants as data_files
use Rattle.lk_serve.specs.declared.opening.Why.{Why}
use Rattle.lk_serve.specs.declared.opening.Why.TheVariants as why
use Rattle.lk_serve.specs.Words.{Asked, IsQuery, IsUnasked, check, is_one, is_script, query, script, serve, unknown, workers_in}
use Rattle.lk_serve.specs.declared.replies.Reply.{Reply}

pub served : (files : Option (List File)) (begins : Kept → Type 0) (a begun b : Outside) (status : ℕ) (e : Standing) → Stands e []
    → IfSome files (λ told. IsOpenedNext told begins (next_moment a.moments) (Ok e)) → IsUntouched a begun → begun.moments ≡ option_map later a.moments → a.faults ≤ begun.faults → begun.out ≡ a.out → HasEnded e begun b status → HasServed files begins a b status
served files begins a begun b status e stands is untouched asked counted silent ended =
    inl (record { opened = record { e = e; stands = stands; is = is }; begun = begun; untouched = untouched; asked = asked; later = counted; silent = silent; how = ended.how; served = ended.served; ended = ended.ended })

told_of : (files : Option (List File)) (reply : Reply) (Is : List File → Reply → Type 0)
    → IfSome files (λ told. IsWhy (Is told) (why.Told reply)) → IfSome files (λ told. Is told reply)
told_of None reply Is h = tt
told_of (Some told) reply Is h = h

project_of : (which : DataFiles) (files : Option (List File)) (status : ℕ) → IfSome files (λ told. why.Store ≡ why.Store → HasProjectBy which told) → IfSome files (λ told. status ≡ 5 → HasProjectBy which told)
project_of which None status h = tt
project_of which (Some told) status h = λ _. h refl

project_aside : (which : DataFiles) (files : Option (List File)) (status other : ℕ) → status ≡ other → (other ≡ 5 → ⊥) → IfSome files (λ told. status ≡ 5 → HasProjectBy which told)
project_aside which None status other is aside = tt
project_aside which (Some told) status other is aside = λ five. absurd (aside (sym is ∙ five))

pub unserved : (which : DataFiles) (files : Option (List File)) (begins : Kept → Type 0) (a b : Outside) (status : ℕ) (reason : Why)
    → IfSome files (λ told. IsWhy (λ reply. IsOpenedNextBy which told begins (next_moment a.moments) (Err reply)) reason) → IfSome files (λ told. reason ≡ why.Store → HasProjectBy which told)
    → IsFaulty reason → IsUntouched a b → IsAskedOnce a.moments b.moments → IsTelling a.out b.out reason status → DidNotOpenBy which files begins a b status ⊎ StoppedBy which files a b status
unserved which files begins a b status (why.Told reply) is project faulty untouched asked out =
    inl (record { reply = reply; tells = faulty.1; is = told_of files reply (λ told reply. IsOpenedNextBy which told begins (next_moment a.moments) (Err reply)) is; untouched = untouched; asked = asked; out = out })
unserved which files begins a b status why.Store is project faulty untouched asked out =
    inr (record { project = project_of which files status project; status_is = inl out.0; untouched = untouched; asked = asked; silent = out.1 })
unserved which files begins a b status why.Memory is project faulty untouched asked out =
    inr (record { project = project_aside which files status 6 out.0 (λ (e : 6 ≡ 5). cc); status_is = inr (inl out.0); untouched = untouched; asked = asked; silent = out.1 })
unserved which files begins a b status why.Files is project faulty untouched asked out =
    inr (record { project = project_aside which files status 7 out.0 (λ (e : 7 ≡ 5). cc); status_is = inr (inr out.0); untouched = untouched; asked = asked; silent = out.1 })

pub not_opened : (files : Option (List File)) (begins : Kept → Type 0) (a b : Outside) (status : ℕ) (reason : Why)
    → IfSome files (λ told. IsWhy (λ reply. IsOpenedNext told begins (next_moment a.moments) (Err reply)) reason) → IfSome files (λ told. reason ≡ why.Store → HasProject told) → IsFaulty reason → IsUntouched a b → IsAskedOnce a.moments b.moments → IsTelling a.out b.out reason status → HasServed files begins a b status
not_opened files begins a b status reason is project faulty untouched asked out =
    inr (unserved data_files.Read files begins a b status reason is project faulty untouched asked out)

-- words that ask to serve ask for the input
pub script_asks : (asked : Asked) → is_script asked ≡ true → IsUnasked asked → ⊥
script_asks unknown is h = false≢true is
script_asks check is h = false≢true is
script_asks (query user explore) is h = h
script_asks script is h = h
script_asks (serve workers) is h = h

pub script_queries : (asked : Asked) → is_script asked ≡ true → IsQuery asked → ⊥
script_queries unknown is h = h
script_queries check is h = h
script_queries (query user explore) is h = false≢true is
script_queries script is h = h
script_queries (serve workers) is h = h

-- words that ask for connections ask for the input, for no query, and for no one reply
pub server_asks : (asked : Asked) (workers : ℕ) → Some workers ≡ workers_in asked → IsUnasked asked → ⊥
server_asks unknown workers is h = none-some workers (sym is)
server_asks check workers is h = none-some workers (sym is)
server_asks (query user explore) workers is h = h
server_asks script workers is h = h
server_asks (serve count) workers is h = h

pub server_queries : (asked : Asked) (workers : ℕ) → Some workers ≡ workers_in asked → IsQuery asked → ⊥
server_queries unknown workers is h = h
server_queries check workers is h = h
server_queries (query user explore) workers is h = none-some workers (sym is)
server_queries script workers is h = h
server_queries (serve count) workers is h = h

pub server_one : (asked : Asked) (workers : ℕ) → Some workers ≡ workers_in asked → is_one asked ≡ true → ⊥
server_one unknown workers is h = none-some workers (sym is)
server_one check workers is h = none-some workers (sym is)
server_one (query user explore) workers is h = none-some workers (sym is)
server_one script workers is h = false≢true h
server_one (serve count) workers is h = false≢true h

-- ---- the end of a session

with_last : (left : Option (List ℕ)) (P : List ℕ → Standing → Type 0) (last : Standing) → IfSome left (λ bytes. P bytes last) → IfSome left (λ bytes. (e : Standing) × P bytes e)
with_last None P last h = tt
with_last (Some bytes) P last h = (last, h)

pub has_ended : (e last : Standing) (a b : Outside) (how : Ended) (status : ℕ)
    → IfSome a.left (λ bytes. IsRecorded (server e a.kept a.faults a.moments) [] bytes a.out b.out (server last b.kept b.faults b.moments) b.left how)
    → status ≡ ended_code how → HasEnded e a b status
has_ended e last a b how status run ended = record {
  how = how;
  served = with_last a.left (λ bytes after. IsRecorded (server e a.kept a.faults a.moments) [] bytes a.out b.out (server after b.kept b.faults b.moments) b.left how) last run;
  ended = ended;
}
