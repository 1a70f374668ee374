-- From what a run of `script` promises to what its store holds.
use Rattle.std.proofs.Common.{◌≡◌, ◌∙◌, ◌+◌, ◌++◌, ◌∷◌, ℕ, List, [], Option, Some, refl, sym, ap, subst, inl, inr}
use Rattle.std.specs.Prelude.{◌⊎◌, ℤ, IfOk, IfSome, Ok}
use Rattle.std.specs.List.{All}
use Rattle.std.specs.Option.{option_map}
use Rattle.lk_io.specs.declared.files.File.{File}
use Rattle.lk_types.specs.declared.model.Model.{Model}
use Rattle.lk_types.specs.declared.schema.Schema.{Schema}
use Rattle.lk_schema.specs.Schemas.{schema_of}
use Rattle.lk_table.specs.BatchTexts.{HasNamedColumns}
use Rattle.lk_ledger.specs.Saving.{Save, after_save, after_saves, load, check}
use Rattle.lk_ledger.specs.declared.kept.Kept.{Kept}
use Rattle.lk_ledger.specs.declared.kept.KeptId.{KeptId}
use Rattle.lk_state.specs.Openings.{opened}
use Rattle.lk_edition.specs.Loads.{command_of, kept_id}
use Rattle.lk_edition.specs.Offices.{Begins}
use Rattle.lk_edition.specs.Plans.{Planned}
use Rattle.lk_edition.specs.Standings.{Standing}
use Rattle.lk_edition.specs.declared.call.LoadCall.{LoadCall}
use Rattle.lk_edition.proofs.PlanLaws.{IsBuilt, IsNew, is_built, is_new}
use Rattle.lk_kept.specs.Accepted.{AreAccepted, LeadsTo, Step, by_check, by_load}
use Rattle.lk_history.specs.Histories.{HasAccepted}
use Rattle.lk_turns.specs.Doings.{Sent}
use Rattle.lk_turns.specs.Runs.{GoesOut, IsRun}
use Rattle.lk_turns.specs.declared.ended.Ended.{Ended}
use Rattle.lk_session.specs.Recorded.{IsRecorded, Recorded, RecordedDoes, recorded}
use Rattle.lk_session.specs.Servers.{server}
use Rattle.lk_serve.specs.Opened.{IsOpenedNext, numbered}
use Rattle.lk_serve.specs.Runs.{next_moment}
use Rattle.lk_serve.specs.Scripts.{HasServed, Outside, Served, ended_code}
use Rattle.lk_served_laws.specs.Ledgers.{DoesSo, KeepsLedger}
use Rattle.lk_served_laws.specs.Served.{HasLedger, HasNoData, Just, WasServed}
use Rattle.lk_served_laws.proofs.OpeningLaws.{HasOpening, OneLoad, back, columns_of, just_told, ledger_at, opened_more, opening_of, state_of}

-- ---- the ledger after accepted steps

saved_load : (kept : Kept) (e : Standing) (call : LoadCall) (p : Planned) (save : Save) → HasLedger kept e → (is : IsNew e call p) → save ≡ p.save
    → HasLedger (after_save kept save) p.standing
saved_load kept e call p save before is told =
    let save_is : save ≡ load (command_of e.state call is.table) = told ∙ ap (λ (q : Planned). q.save) is.is in record {
      number = ap (λ (s : Save). (after_save kept s).number) save_is ∙ ap (λ (q : Planned). q.standing.state.number) (sym is.is);
      ids = ap (λ (s : Save). (after_save kept s).ids) save_is ∙ ap (λ (ids : List KeptId). ids ++ kept_id e.state call is.table ∷ []) before.ids
          ∙ ap (λ (q : Planned). q.standing.state.ids) (sym is.is);
    }

saved_check : (kept : Kept) (e : Standing) (now : ℤ) (p : Planned) (save : Save) → HasLedger kept e → (is : IsBuilt e now p) → save ≡ p.save
    → HasLedger (after_save kept save) p.standing
saved_check kept e now p save before is told =
    let save_is : save ≡ check (e.state.number + 1) = told ∙ ap (λ (q : Planned). q.save) is.is in record {
      number = ap (λ (s : Save). (after_save kept s).number) save_is ∙ ap (λ (q : Planned). q.standing.state.number) (sym is.is);
      ids = ap (λ (s : Save). (after_save kept s).ids) save_is ∙ before.ids ∙ ap (λ (q : Planned). q.standing.state.ids) (sym is.is);
    }

saved_step : (kept : Kept) (e : Standing) (step : Step) (p : Planned) (save : Save) → HasLedger kept e → LeadsTo e step p → save ≡ p.save
    → HasLedger (after_save kept save) p.standing
saved_step kept e (by_load call) p save before leads told = saved_load kept e call p save before (is_new e call p leads) told
saved_step kept e (by_check user now) p save before leads told = saved_check kept e now p save before (is_built e user now p leads) told

saved_all : (steps : List Step) (saves : List Save) (kept : Kept) (e last : Standing) → HasLedger kept e → AreAccepted e steps saves last
    → HasLedger (after_saves kept saves) last
saved_all [] [] kept e last before accepted = subst (HasLedger kept) (sym accepted) before
saved_all [] (save ∷ saves) kept e last before accepted = absurd accepted
saved_all (step ∷ steps) [] kept e last before accepted = absurd accepted
saved_all (step ∷ steps) (save ∷ saves) kept e last before accepted =
    saved_all steps saves (after_save kept save) accepted.0.standing last
    (saved_step kept e step accepted.0 save before accepted.1 accepted.2) accepted.3

-- ---- a run

-- that sessions accept steps and keep a ledger, what steps leave as it is, and that stores hold the last state
abbrev pub Accepts : Type 0
Accepts = (h last : Recorded) (bytes rest : List ℕ) (sents : List Sent) (how : Ended) → IsRun RecordedDoes h bytes sents last rest how → HasAccepted h.server last.server

abbrev pub KeepsOne : Type 0
KeepsOne = (h last : Recorded) (bytes rest : List ℕ) (sents : List Sent) (how : Ended) → IsRun RecordedDoes h bytes sents last rest how
    → IsRun (DoesSo KeepsLedger) h bytes sents last rest how

abbrev pub StaySame : Type 0
StaySame = (e : Standing) (steps : List Step) (saves : List Save) (last : Standing) → AreAccepted e steps saves last → (last.model ≡ e.model) × (last.users ≡ e.users)

abbrev pub HoldsLast : Type 0
HoldsLast = (kept : Kept) (e : Standing) (steps : List Step) (saves : List Save) (last : Standing)
    → All HasNamedColumns e.model.schema.tables → opened e.model.schema.tables kept [] ≡ Ok e.state → AreAccepted e steps saves last
    → opened e.model.schema.tables (after_saves kept saves) [] ≡ Ok last.state

abbrev pub NamesColumns : Type 0
NamesColumns = (text : List ℕ) (schema : Schema) → schema_of text ≡ Ok schema → All HasNamedColumns schema.tables

from_some : {A : Type 0} (Holds : A → Type 0) (o : Option A) (a : A) → o ≡ Some a → IfSome o Holds → Holds a
from_some Holds o a is h = subst (λ o. IfSome o Holds) is h

module _ (accepts : Accepts) (keeps : KeepsOne) (stay : StaySame) (holds : HoldsLast) (names : NamesColumns) (one : OneLoad) where
  -- without data files the state is what the store alone opens with
  no_seeds : (files : List File) (now : ℤ) (e : Standing) (kept : Kept) → (h : HasOpening files (Just kept) now e)
      → HasNoData e.model.schema.tables files → opened e.model.schema.tables kept [] ≡ Ok e.state
  no_seeds files now e kept h none =
      let state = state_of files (Just kept) now e h in
      let given = subst (λ (m : Model). HasNoData m.schema.tables files) state.model none in
      let unseeded : numbered 0 h.found ≡ [] = subst (λ r. IfOk r (λ found. numbered 0 found ≡ [])) h.is_found given in
      let handed : h.kept ≡ kept = h.handed in
      ap (λ (m : Model). opened m.schema.tables kept []) state.model
      ∙ ap (λ (k : Kept). opened h.loaded.model.schema.tables k []) (sym handed)
      ∙ ap (opened h.loaded.model.schema.tables h.kept) (sym unseeded)
      ∙ state.state

  opens_last : (files : List File) (now : ℤ) (e last : Standing) (kept : Kept) (steps : List Step) (saves : List Save)
      → (h : HasOpening files (Just kept) now e) → AreAccepted e steps saves last → HasNoData e.model.schema.tables files
      → opened h.loaded.model.schema.tables (after_saves kept saves) [] ≡ Ok last.state
  opens_last files now e last kept steps saves h accepted none =
      let state = state_of files (Just kept) now e h in
      let columns : All HasNamedColumns e.model.schema.tables =
      subst (λ (m : Model). All HasNamedColumns m.schema.tables) (sym state.model) (columns_of names files h.loaded h.is_load) in
      ap (λ (m : Model). opened m.schema.tables (after_saves kept saves) []) (sym state.model)
      ∙ holds kept e steps saves last columns (no_seeds files now e kept h none) accepted

  recorded_was : (files : List File) (kept : Kept) (bytes : List ℕ) (a begun b : Outside) (status : ℕ) (e last : Standing) (how : Ended)
      → a.kept ≡ Some kept → begun.kept ≡ a.kept → begun.out ≡ a.out → IsOpenedNext files (Just kept) (next_moment a.moments) (Ok e) → status ≡ ended_code how
      → IsRecorded (server e begun.kept begun.faults begun.moments) [] bytes begun.out b.out (server last b.kept b.faults b.moments) b.left how
      → WasServed files kept bytes a b status
  recorded_was files kept bytes a begun b status e last how told untouched silent is ended run =
      let from = recorded (server e begun.kept begun.faults begun.moments) [] in
      let to = recorded (server last b.kept b.faults b.moments) run.after in
      let session = run.session in
      let steps = accepts from to bytes session.rest session.sents how session.run in
      let h = opening_of files (Just kept) is.moment e is.is in
      let before = ledger_at files is.moment e kept h in
      let same = stay e steps.steps steps.saves last steps.accepted in
      record {
        e = e;
        last = last;
        opened = is;
        before = before;
        steps = steps.steps;
        saves = steps.saves;
        accepted = steps.accepted;
        held = steps.held ∙ ap (option_map (λ (k : Kept). after_saves k steps.saves)) (untouched ∙ told);
        after = saved_all steps.steps steps.saves kept e last before steps.accepted;
        session = record {
          from = from;
          to = to;
          begins = refl;
          ends = refl;
          held_before = untouched;
          held_after = refl;
          sents = session.sents;
          rest = session.rest;
          how = how;
          run = keeps from to bytes session.rest session.sents how session.run;
          out = subst (λ held. GoesOut how held b.out session.sents) silent session.out;
          ended = ended;
        };
        again = λ none moment result later.
            back one files (Just kept) is.moment moment e last (after_saves kept steps.saves) h
            (opens_last files is.moment e last kept steps.steps steps.saves h steps.accepted none) same.0 same.1 none result later;
      }

  module _ (held : Option Kept) (handed : Kept → Type 0) where
    served_was : (files : List File) (kept : Kept) (bytes : List ℕ) (a b : Outside) (status : ℕ) → held ≡ Some kept
        → a.kept ≡ Some kept → a.left ≡ Some bytes → Served (Some files) (Begins held handed) a b status → WasServed files kept bytes a b status
    served_was files kept bytes a b status tells told left s =
        let Ends : List ℕ → Type 0 =
        λ bytes. (last : Standing) × IsRecorded (server s.opened.e s.begun.kept s.begun.faults s.begun.moments) [] bytes s.begun.out b.out (server last b.kept b.faults b.moments) b.left s.how in
        let ends : Ends bytes = from_some Ends s.begun.left bytes (s.untouched.left ∙ left) s.served in
        let opened : IsOpenedNext files (Just kept) (next_moment a.moments) (Ok s.opened.e) = record {
          moment = s.opened.is.moment;
          is_next = s.opened.is.is_next;
          is = opened_more (Begins held handed) (Just kept) (λ other h. just_told held handed kept other tells h) s.opened.is.moment files (Ok s.opened.e) s.opened.is.is;
        } in
        recorded_was files kept bytes a s.begun b status s.opened.e ends.0 s.how told s.untouched.kept s.silent opened s.ended ends.1

    pub scripts_keep : (files : List File) (kept : Kept) (bytes : List ℕ) (a b : Outside) (status : ℕ) → held ≡ Some kept
        → a.kept ≡ Some kept → a.left ≡ Some bytes → HasServed (Some files) (Begins held handed) a b status → WasServed files kept bytes a b status ⊎ (b.kept ≡ Some kept)
    scripts_keep files kept bytes a b status tells told left (inl served) = inl (served_was files kept bytes a b status tells told left served)
    scripts_keep files kept bytes a b status tells told left (inr (inl closed)) = inr (closed.untouched.kept ∙ told)
    scripts_keep files kept bytes a b status tells told left (inr (inr stopped)) = inr (stopped.untouched.kept ∙ told)
