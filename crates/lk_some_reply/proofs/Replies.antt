-- Words over a folder's files, a store, an input and a clock have a reply, as far as these are told.
use Rattle.std.proofs.Common.{◌≡◌, ℕ, ℤ, true, false, List, [], Option, Some, None, IfSome, Result, Ok, Err, refl}
use Rattle.std.proofs.lemmas.Bool.{false≢true}
use Rattle.std.specs.Prelude.{pos}
use Rattle.lk_val.specs.Years.{IsMomentInYears}
use Rattle.lk_io.specs.declared.files.File.{File}
use Rattle.lk_types.specs.declared.answer.Reply as sent
use Rattle.lk_types.specs.declared.model.Model.{Model}
use Rattle.lk_schema.specs.declared.users.Users.{Users}
use Rattle.lk_ask.specs.declared.fault.AskFault.{AskFault}
use Rattle.lk_include.specs.declared.project.ProjectFault.{ProjectFault}
use Rattle.lk_include.specs.declared.project.ProjectFault.TheVariants as project
use Rattle.lk_edition.specs.Standings.{Standing}
use Rattle.lk_answer.specs.Replies.{IsReplied, replied}
use Rattle.lk_resolve.specs.declared.loading.Loaded.{Loaded}
use Rattle.lk_serve.specs.Checks.{IsChecked, IsToldBy}
use Rattle.lk_serve.specs.Opened.{IsOpened}
use Rattle.lk_serve.specs.Outcomes.{IsReply, IsReplyTo}
use Rattle.lk_serve.specs.Queries.{IsAnswered, IsQueried, OverBody, OverEdition, OverOpened, TellsAnswer, small_input}
use Rattle.lk_serve.specs.Replies.{ComesUnread, fault_reply, long_reply, ok_reply, printed_answer, refused_reply, usage_reply}
use Rattle.lk_serve.specs.Words.{Asked, asked_by, check, is_one, query, script, serve, unknown}
use Rattle.lk_serve.specs.declared.replies.Reply.{Reply}
use Rattle.lk_complete_laws.specs.Bodies.{IsBodyRead}
use Rattle.lk_complete_laws.specs.Holding.{HoldsOfSome}
use Rattle.lk_complete_laws.proofs.NotNot.{of_these, of_this}
use Rattle.lk_some_reply.specs.Loads.{IsLoadTold, IsTold}
use Rattle.lk_some_reply.proofs.Failing.{FailsBy}
use Rattle.lk_ledger.specs.declared.kept.Kept.{Kept}
use Rattle.lk_some_reply.proofs.Moments.{in_1970}
use Rattle.lk_some_reply.proofs.Refusals.{IsRefusal, replied_so}

-- ---- checks

told_by_load : (r : Result Loaded ProjectFault) → IsTold r → HoldsOfSome (IsToldBy r)
told_by_load (Ok loaded) h = of_this {Holds = IsToldBy (Ok loaded)} ok_reply refl
told_by_load (Err (project.Model line)) h = of_this {Holds = IsToldBy (Err (project.Model line))} (fault_reply line) refl
told_by_load (Err project.Failed) h = absurd h
told_by_load (Err project.NoMemory) h = absurd h

some_check : (files : List File) → HoldsOfSome (IsLoadTold files) → HoldsOfSome (IsChecked files)
some_check files some_load =
    of_these {Holds = IsLoadTold files} {Fits = IsChecked files} some_load (λ r h.
    of_these {Holds = IsToldBy r} {Fits = IsChecked files} (told_by_load r h.told) (λ reply told.
    of_this {Holds = IsChecked files} reply (record { loaded = r; is_load = h.is_load; told = told })))

-- ---- queries

-- a reply that comes after the input is read
record IsReadReply (Is : Reply → Type 0) (reply : Reply) : Type 0 where
  read : ComesUnread reply.status → ⊥
  is : Is reply

tells : (r : Result sent.Reply AskFault) → FailsBy IsRefusal r → HoldsOfSome (IsReadReply (TellsAnswer r))
tells (Ok a) h = of_this {Holds = IsReadReply (TellsAnswer (Ok a))} (printed_answer a) (record { read = λ unread. unread; is = refl })
tells (Err why) h = of_this {Holds = IsReadReply (TellsAnswer (Err why))} (refused_reply why) (record { read = λ unread. unread; is = (h, refl) })

module _ (body_read : (m : Model) (users : Users) (user explore body : List ℕ) (now : ℤ) → HoldsOfSome (IsBodyRead m users user explore body now)) where
  answered_so : (e : Standing) (user explore : List ℕ) (now : ℤ) (body : List ℕ) (r : Result sent.Reply AskFault) → IsReplied e [] user explore body now true r
      → FailsBy IsRefusal r → HoldsOfSome (IsReadReply (IsAnswered e user explore now body))
  answered_so e user explore now body r is h =
      of_these {Holds = IsReadReply (TellsAnswer r)} {Fits = IsReadReply (IsAnswered e user explore now body)} (tells r h) (λ reply t.
      of_this {Holds = IsReadReply (IsAnswered e user explore now body)} reply
      (record { read = t.read; is = record { told = r; is = is; tells = t.is } }))

  some_answer : (e : Standing) (user explore : List ℕ) (now : ℤ) (body : List ℕ) → HoldsOfSome (IsReadReply (IsAnswered e user explore now body))
  some_answer e user explore now body =
      of_these {Holds = IsBodyRead e.model e.users user explore body now} {Fits = IsReadReply (IsAnswered e user explore now body)}
      (body_read e.model e.users user explore body now) (λ bound b.
      answered_so e user explore now body (replied e [] now true bound) (record { bound = bound; is_bound = b.bound; is = refl }) (replied_so e [] now true bound b.told))

  over_body : (e : Standing) (user explore : List ℕ) (now : ℤ) → IsMomentInYears now → (body : Option (List ℕ))
      → HoldsOfSome (IsReadReply (OverBody e user explore now body))
  over_body e user explore now in_years None =
      of_this {Holds = IsReadReply (OverBody e user explore now None)} long_reply (record { read = λ unread. unread; is = refl })
  over_body e user explore now in_years (Some body) =
      of_these {Holds = IsReadReply (IsAnswered e user explore now body)} {Fits = IsReadReply (OverBody e user explore now (Some body))}
      (some_answer e user explore now body) (λ reply a.
      of_this {Holds = IsReadReply (OverBody e user explore now (Some body))} reply (record { read = a.read; is = (in_years, a.is) }))

  over_edition : (e : Standing) (user explore : List ℕ) (now : ℤ) → IsMomentInYears now → (input : Option (List ℕ))
      → HoldsOfSome (OverEdition e user explore input now)
  over_edition e user explore now in_years None =
      of_this {Holds = OverEdition e user explore None now} long_reply (record { read = λ unread. unread; is = tt })
  over_edition e user explore now in_years (Some input) =
      of_these {Holds = IsReadReply (OverBody e user explore now (small_input input))} {Fits = OverEdition e user explore (Some input) now}
      (over_body e user explore now in_years (small_input input)) (λ reply o.
      of_this {Holds = OverEdition e user explore (Some input) now} reply (record { read = o.read; is = o.is }))

  over_opened : (user explore : List ℕ) (input : Option (List ℕ)) (now : ℤ) → IsMomentInYears now → (r : Result Standing Reply)
      → HoldsOfSome (OverOpened user explore input now r)
  over_opened user explore input now in_years (Ok e) = over_edition e user explore now in_years input
  over_opened user explore input now in_years (Err line) = of_this {Holds = OverOpened user explore input now (Err line)} line refl

  module _ (begins : Kept → Type 0) (files : List File) (some_opened : (now : ℤ) → HoldsOfSome (IsOpened files begins now)) where
    queried_at : (user explore : List ℕ) (input : Option (List ℕ)) (now : Option ℤ) (moment : ℤ) → IfSome now (λ told. moment ≡ told) → IsMomentInYears moment
        → HoldsOfSome (IsQueried files begins user explore input now)
    queried_at user explore input now moment is_now in_years =
        of_these {Holds = IsOpened files begins moment} {Fits = IsQueried files begins user explore input now} (some_opened moment) (λ opened is_opened.
        of_these {Holds = OverOpened user explore input moment opened} {Fits = IsQueried files begins user explore input now}
        (over_opened user explore input moment in_years opened) (λ reply told.
        of_this {Holds = IsQueried files begins user explore input now} reply
        (record { moment = moment; is_now = is_now; opened = opened; is_opened = is_opened; told = told })))

    some_query : (user explore : List ℕ) (input : Option (List ℕ)) (now : Option ℤ) → IfSome now IsMomentInYears
        → HoldsOfSome (IsQueried files begins user explore input now)
    some_query user explore input None h = queried_at user explore input None (pos 0) tt in_1970
    some_query user explore input (Some now) h = queried_at user explore input (Some now) now refl h

-- ---- words

module _ (begins : Kept → Type 0) (some_load : (files : List File) → HoldsOfSome (IsLoadTold files))
    (some_opened : (files : List File) (now : ℤ) → HoldsOfSome (IsOpened files begins now))
    (body_read : (m : Model) (users : Users) (user explore body : List ℕ) (now : ℤ) → HoldsOfSome (IsBodyRead m users user explore body now)) where
  by_asked : (asked : Asked) (files : Option (List File)) (input : Option (List ℕ)) (now : Option ℤ) → is_one asked ≡ true → IfSome now IsMomentInYears
      → HoldsOfSome (IsReplyTo asked files begins input now)
  by_asked unknown files input now plain h = of_this {Holds = IsReplyTo unknown files begins input now} usage_reply refl
  by_asked check None input now plain h = of_this {Holds = IsReplyTo check None begins input now} ok_reply tt
  by_asked check (Some files) input now plain h = some_check files (some_load files)
  by_asked (query user explore) None input now plain h = of_this {Holds = IsReplyTo (query user explore) None begins input now} ok_reply tt
  by_asked (query user explore) (Some files) input now plain h = some_query body_read begins files (some_opened files) user explore input now h
  by_asked script files input now plain h = absurd (false≢true plain)
  by_asked (serve workers) files input now plain h = absurd (false≢true plain)

  pub some_reply : (words : List (List ℕ)) (files : Option (List File)) (input : Option (List ℕ)) (now : Option ℤ) → is_one (asked_by words) ≡ true → IfSome now IsMomentInYears
      → HoldsOfSome (IsReply words files begins input now)
  unfolding IsReply
  some_reply words files input now plain h = by_asked (asked_by words) files input now plain h
