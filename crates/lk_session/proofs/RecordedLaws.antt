-- A session by what the edition has is one of the edition's history.
use Rattle.std.proofs.Common.{◌≡◌, ◌∙◌, ◌+◌, ◌++◌, ◌==◌, ℕ, ℤ, Bool, true, false, List, [], ◌∷◌, length, refl, sym, ap, subst, arith, inl, inr, Option, Some, None}
use Rattle.std.specs.Prelude.{◌⊎◌, IfSome, Ok, Err, Result, if◌then◌else◌, nat_eq}
use Rattle.lk_val.specs.Years.{IsMomentInYears}
use Rattle.lk_types.specs.declared.answer.Reply.{Reply}
use Rattle.lk_semantics.proofs.JoinLaws.{numbers_equal}
use Rattle.lk_ask.specs.declared.fault.AskFault.{AskFault}
use Rattle.lk_command_reply.specs.declared.fault.CheckFault.{CheckFault}
use Rattle.lk_command_reply.specs.declared.fault.LoadFault.{LoadFault}
use Rattle.lk_state.specs.States.{State}
use Rattle.lk_edition.specs.Checks.{check_planned}
use Rattle.lk_edition.specs.Histories.{Stands}
use Rattle.lk_edition.specs.Loads.{load_planned}
use Rattle.lk_edition.specs.Plans.{Planned}
use Rattle.lk_edition.specs.Standings.{Standing}
use Rattle.lk_edition.specs.declared.call.LoadCall.{LoadCall}
use Rattle.lk_edition.specs.declared.plan.CheckPlan.{CheckPlan}
use Rattle.lk_edition.specs.declared.plan.CheckPlan.TheVariants.{New as new_check, Nothing}
use Rattle.lk_edition.specs.declared.plan.LoadPlan.{LoadPlan}
use Rattle.lk_edition.specs.declared.plan.LoadPlan.TheVariants.{Kept as kept_plan, New}
use Rattle.lk_answer.specs.Answers.{IsAnswered}
use Rattle.lk_answer.specs.Replies.{IsReplied}
use Rattle.lk_http.specs.Items.{Item}
use Rattle.lk_http.specs.declared.request.Got.TheVariants.{End, Req}
use Rattle.lk_http.specs.declared.request.Request.{Request}
use Rattle.lk_http.specs.declared.request.Target.{Target}
use Rattle.lk_http.specs.declared.request.Target.TheVariants as target
use Rattle.lk_turns.specs.Doings.{Doing, Sent}
use Rattle.lk_turns.specs.Runs.{AreTurns, Closed, Closes, IsRun, IsSession, IsTurn, is_last}
use Rattle.lk_turns.specs.declared.ended.Ended.{Ended}
use Rattle.lk_session.specs.Recorded.{IsRecorded, Recorded, RecordedDoes, past_after, recorded}
use Rattle.lk_session.specs.Servers.{CheckDoes, IsCommitted, ItemDoes, LoadDoes, Server, Stays, Store, TargetDoes, by_edition, by_history, call_of}

-- what an item does, by what the edition has
abbrev pub does : Doing Server
does = ItemDoes by_edition

-- the edition of a history, and the one that takes its place, are of histories
abbrev StandsAfter : Standing → List State → Standing → Type 0
StandsAfter e past e' = Stands e' (past_after e e' past)

same_stands : (e : Standing) (past : List State) (e' : Standing) → e' ≡ e → Stands e past → StandsAfter e past e'
same_stands e past e' is stands =
    subst (StandsAfter e past) (sym is) (subst (Stands e) (sym (ap (λ b. if b then past else e.state ∷ past) (numbers_equal.itself e.state.number))) stands)

next_differs : (n k : ℕ) → k ≡ n + 1 → nat_eq k n ≡ false
next_differs n k h = grind (arith, h)

next_stands : (e : Standing) (past : List State) (e' : Standing) → Stands e' (e.state ∷ past) → StandsAfter e past e'
next_stands e past e' stands =
    subst (Stands e') (sym (ap (λ b. if b then past else e.state ∷ past) (next_differs e.state.number e'.state.number stands.numbers.0))) stands

module _ (loads : (e : Standing) (past : List State) (call : LoadCall) (p : Planned) → Stands e past → load_planned e call ≡ Ok (New p) → Stands p.standing (e.state ∷ past))
    (checks : (e : Standing) (past : List State) (user : List ℕ) (now : ℤ) (p : Planned) → Stands e past → check_planned e user now ≡ Ok (new_check p) → Stands p.standing (e.state ∷ past))
    (answers : (e : Standing) (past : List State) (user explore body : List ℕ) (now : ℤ) (csv : Bool) (r : Result Reply AskFault)
    → Stands e past → IsMomentInYears now → IsAnswered e user explore body now csv r → IsReplied e past user explore body now csv r) where
  -- ---- an item

  committed_stands : (e : Standing) (past : List State) (p : Planned) (reply : Reply) (e' : Standing) (store store' : Store) → Stands e past → Stands p.standing (e.state ∷ past)
      → IsCommitted e p reply e' store store' → StandsAfter e past e'
  committed_stands e past p reply e' store store' stands next (inl did) = subst (StandsAfter e past) (sym did.1) (next_stands e past p.standing next)
  committed_stands e past p reply e' store store' stands next (inr did) = same_stands e past e' did.1.standing stands

  load_stands : (e : Standing) (past : List State) (call : LoadCall) (plan : Result LoadPlan LoadFault) (reply : Reply) (e' : Standing) (store store' : Store) → Stands e past
      → load_planned e call ≡ plan → LoadDoes e plan reply e' store store' → StandsAfter e past e'
  load_stands e past call (Err fault) reply e' store store' stands is did = same_stands e past e' did.2.standing stands
  load_stands e past call (Ok (kept_plan kept)) reply e' store store' stands is did = same_stands e past e' did.1.standing stands
  load_stands e past call (Ok (New p)) reply e' store store' stands is did =
      committed_stands e past p reply e' store store' stands (loads e past call p stands is) did

  check_stands : (e : Standing) (past : List State) (user : List ℕ) (now : ℤ) (plan : Result CheckPlan CheckFault) (reply : Reply) (e' : Standing) (store store' : Store) → Stands e past
      → check_planned e user now ≡ plan → CheckDoes e plan reply e' store store' → StandsAfter e past e'
  check_stands e past user now (Err fault) reply e' store store' stands is did = same_stands e past e' did.2.standing stands
  check_stands e past user now (Ok (Nothing unbuilt)) reply e' store store' stands is did = same_stands e past e' did.1.standing stands
  check_stands e past user now (Ok (new_check p)) reply e' store store' stands is did =
      committed_stands e past p reply e' store store' stands (checks e past user now p stands is) did

  target_stands : (e : Standing) (past : List State) (now : ℤ) (request : Request) (t : Target) (reply : Reply) (e' : Standing) (store store' : Store) → Stands e past
      → TargetDoes by_edition e now request t reply e' store store' → StandsAfter e past e'
  target_stands e past now request (target.Query explore) reply e' store store' stands did = same_stands e past e' did.1.standing stands
  target_stands e past now request (target.Load table replace id) reply e' store store' stands did =
      load_stands e past (call_of request table replace id) (load_planned e (call_of request table replace id)) reply e' store store' stands refl did
  target_stands e past now request target.Check reply e' store store' stands did =
      check_stands e past request.user now (check_planned e request.user now) reply e' store store' stands refl did

  target_told : (e : Standing) (past : List State) (now : ℤ) (request : Request) (t : Target) (reply : Reply) (e' : Standing) (store store' : Store) → Stands e past → IsMomentInYears now
      → TargetDoes by_edition e now request t reply e' store store' → TargetDoes (by_history past) e now request t reply e' store store'
  target_told e past now request (target.Query explore) reply e' store store' stands years did =
      (record { told = did.0.told; is = answers e past request.user explore request.body now false did.0.told stands years did.0.is; tells = did.0.tells }, did.1)
  target_told e past now request (target.Load table replace id) reply e' store store' stands years did = did
  target_told e past now request target.Check reply e' store store' stands years did = did

  item_stands : (s : Server) (past : List State) (item : Item) (reply : Reply) (s' : Server) → Stands s.standing past → does s item reply s'
      → StandsAfter s.standing past s'.standing
  item_stands s past (Ok End) reply s' stands none = absurd none
  item_stands s past (Ok (Req request)) reply s' stands (inl did) =
      target_stands s.standing past did.now request request.target reply s'.standing s.store s'.store stands did.serves
  item_stands s past (Ok (Req request)) reply s' stands (inr forgotten) = same_stands s.standing past s'.standing forgotten.1.stays.standing stands
  item_stands s past (Err fault) reply s' stands did = same_stands s.standing past s'.standing (ap (λ (k : Server). k.standing) did.1) stands

  item_told : (s : Server) (past : List State) (item : Item) (reply : Reply) (s' : Server) → Stands s.standing past → does s item reply s'
      → ItemDoes (by_history past) s item reply s'
  item_told s past (Ok End) reply s' stands none = absurd none
  item_told s past (Ok (Req request)) reply s' stands (inl did) = inl (record {
    now = did.now;
    years = did.years;
    first = did.first;
    moments = did.moments;
    serves = target_told s.standing past did.now request request.target reply s'.standing s.store s'.store stands did.years did.serves;
  })
  item_told s past (Ok (Req request)) reply s' stands (inr forgotten) = inr forgotten
  item_told s past (Err fault) reply s' stands did = did

  -- ---- turns

  abbrev after : Server → List State → Server → List State
  after s past s' = past_after s.standing s'.standing past

  abbrev turn_recorded : (s : Server) (past : List State) (bytes : List ℕ) (last : Bool) (sent : Sent) (s' : Server) (rest : List ℕ) → Stands s.standing past
      → IsTurn does s bytes last sent s' rest → IsTurn RecordedDoes (recorded s past) bytes last sent (recorded s' (after s past s')) rest
  turn_recorded s past bytes last sent s' rest stands turn = record {
    item = turn.item;
    next = turn.next;
    does = (item_told s past turn.item sent.reply s' stands turn.does, refl);
    closes = turn.closes;
  }

  turns_recorded : (before : ℕ) (s : Server) (past : List State) (bytes : List ℕ) (sents : List Sent) (s' : Server) (rest : List ℕ) → Stands s.standing past
      → AreTurns does before s bytes sents s' rest
      → (past' : List State) × Stands s'.standing past' × AreTurns RecordedDoes before (recorded s past) bytes sents (recorded s' past') rest
  turns_recorded before s past bytes [] s' rest stands turns =
      (past, subst (λ (k : Server). Stands k.standing past) turns.0 stands, (ap (λ k. recorded k past) turns.0, turns.1))
  turns_recorded before s past bytes (sent ∷ more) s' rest stands (m, left, turn, stays, turns) =
      let behind = turns_recorded (before + 1) m (after s past m) left more s' rest (item_stands s past turn.item sent.reply m stands turn.does) turns in
      (behind.0, behind.1, (recorded m (after s past m), left, turn_recorded s past bytes (is_last before) sent m left stands turn, stays, behind.2))

  closes_recorded : (last : Bool) (s : Server) (past : List State) (bytes : List ℕ) (sent : Sent) (s' : Server) (rest : List ℕ) (how : Ended) → Stands s.standing past
      → Closes does last s bytes sent s' rest how → Closes RecordedDoes last (recorded s past) bytes sent (recorded s' (after s past s')) rest how
  closes_recorded last s past bytes sent s' rest how stands closes =
      record { turn = turn_recorded s past bytes last sent s' rest stands closes.turn; why = closes.why }

  -- ---- the whole

  run_recorded : (s : Server) (past : List State) (bytes : List ℕ) (sents : List Sent) (s' : Server) (rest : List ℕ) (how : Ended) → Stands s.standing past
      → IsRun does s bytes sents s' rest how
      → (past' : List State) × Stands s'.standing past' × IsRun RecordedDoes (recorded s past) bytes sents (recorded s' past') rest how
  run_recorded s past bytes sents s' rest how stands (inl none) = (
    past,
    subst (λ (k : Server). Stands k.standing past) (sym none.same) stands,
    inl (record { none = none.none; same = ap (λ k. recorded k past) none.same; untaken = none.untaken; why = none.why }),
  )
  run_recorded s past bytes sents s' rest how stands (inr (inl stopped)) =
      let all = turns_recorded 0 s past bytes sents s' stopped.left stands stopped.turns in
      (all.0, all.1, inr (inl (record { left = stopped.left; turns = all.2; stop = stopped.stop })))
  run_recorded s past bytes sents s' rest how stands (inr (inr closed)) =
      let front = turns_recorded 0 s past bytes closed.front closed.m closed.left stands closed.turns in
      let turn = closed.closes.turn in (
        after closed.m front.0 s',
        item_stands closed.m front.0 turn.item closed.sent.reply s' front.1 turn.does,
        inr (inr (record {
          front = closed.front;
          sent = closed.sent;
          m = recorded closed.m front.0;
          left = closed.left;
          all = closed.all;
          turns = front.2;
          closes = closes_recorded (is_last (length closed.front)) closed.m front.0 closed.left closed.sent s' rest how front.1 closed.closes;
        })),
      )

  session_recorded : (s : Server) (past : List State) (bytes : List ℕ) (held held' : Option (List ℕ)) (s' : Server) (left' : Option (List ℕ)) (how : Ended) → Stands s.standing past
      → IsSession does s bytes held held' s' left' how → IsRecorded s past bytes held held' s' left' how
  session_recorded s past bytes held held' s' left' how stands is =
      let run = run_recorded s past bytes is.sents s' is.rest how stands is.run in
      record {
        after = run.0;
        stands = run.1;
        session = record { sents = is.sents; rest = is.rest; left = is.left; run = run.2; out = is.out };
      }

  pub told_recorded : (s : Server) (past : List State) → Stands s.standing past → (left : Option (List ℕ)) (held held' : Option (List ℕ)) (s' : Server) (left' : Option (List ℕ)) (how : Ended)
      → IfSome left (λ bytes. IsSession does s bytes held held' s' left' how) → IfSome left (λ bytes. IsRecorded s past bytes held held' s' left' how)
  told_recorded s past stands None held held' s' left' how is = tt
  told_recorded s past stands (Some bytes) held held' s' left' how is = session_recorded s past bytes held held' s' left' how stands is
