-- What an item does on two servers that are the same but for the count of their stores' failed calls.
use Rattle.std.proofs.Common.{◌≡◌, ◌∙◌, ℕ, ℤ, Bool, true, false, List, [], ◌∷◌, not, refl, sym, ap, subst, arith, inl, inr, Option, Some, None, unwrap_or}
use Rattle.std.specs.Prelude.{◌⊎◌, ◌||◌, IfSome, Result, Ok, Err, slice_get}
use Rattle.std.specs.Bool.{beq}
use Rattle.std.specs.Option.{option_map}
use Rattle.std.proofs.lemmas.Bool.{false≢true}
use Rattle.lk_io.specs.Moments.{later}
use Rattle.lk_types.specs.declared.answer.Reply.{Reply}
use Rattle.lk_ledger.specs.Saving.{Save, after_saves}
use Rattle.lk_ledger.specs.declared.kept.Kept.{Kept}
use Rattle.lk_ask.specs.declared.fault.AskFault.{AskFault}
use Rattle.lk_command_reply.specs.Refusals.{check_refusal, load_refusal, unsaved_reply}
use Rattle.lk_command_reply.specs.declared.fault.CheckFault.{CheckFault}
use Rattle.lk_command_reply.specs.declared.fault.LoadFault.{LoadFault}
use Rattle.lk_state.specs.States.{State}
use Rattle.lk_edition.specs.Checks.{check_planned}
use Rattle.lk_edition.specs.Loads.{load_planned}
use Rattle.lk_edition.specs.Plans.{Planned}
use Rattle.lk_edition.specs.Standings.{Standing}
use Rattle.lk_edition.specs.declared.plan.CheckPlan.{CheckPlan}
use Rattle.lk_edition.specs.declared.plan.CheckPlan.TheVariants.{New as new_check, Nothing}
use Rattle.lk_edition.specs.declared.plan.LoadPlan.{LoadPlan}
use Rattle.lk_edition.specs.declared.plan.LoadPlan.TheVariants.{Kept as kept_plan, New}
use Rattle.lk_answer.specs.Replies.{IsReplied}
use Rattle.lk_http.specs.Items.{Item, ends}
use Rattle.lk_http.specs.Replies.{memory_reply}
use Rattle.lk_http.specs.declared.request.Got.TheVariants.{End, Req}
use Rattle.lk_http.specs.declared.request.Request.{Request}
use Rattle.lk_http.specs.declared.request.Target.{Target}
use Rattle.lk_http.specs.declared.request.Target.TheVariants as target
use Rattle.lk_turns.specs.Doings.{IsRefusal, Sent, http_reply}
use Rattle.lk_turns.specs.Runs.{IsTurn}
use Rattle.lk_session.specs.Recorded.{Recorded, RecordedDoes, past_after, recorded}
use Rattle.lk_session.specs.Servers.{CheckDoes, IsCommitted, IsQueried, LoadDoes, RequestDoes, Saves, Server, Stays, Store, TargetDoes, Telling, Tells, by_history, call_of, server, store_of}
use Rattle.lk_session.proofs.ServingLaws.{IsPlain, IsUnsaved, target_plain}
use Rattle.lk_one_session.specs.Outcomes.{is_forgotten, is_unsaved, may_differ, uncounted}

-- a body is replied one thing on a history
abbrev pub OneReplied : Type 0
OneReplied = (e : Standing) (past : List State) (user explore body : List ℕ) (now : ℤ) (csv : Bool) (r s : Result Reply AskFault)
    → IsReplied e past user explore body now csv r → IsReplied e past user explore body now csv s → r ≡ s

-- ---- replies that cannot differ

either_false : (p q : Bool) → (p || q) ≡ false → (p ≡ false) × (q ≡ false)
either_false true q h = absurd (false≢true (sym h))
either_false false q h = (refl, h)

same_truth : (p q : Bool) → not (beq p q) ≡ false → p ≡ q
same_truth true true h = refl
same_truth true false h = absurd (false≢true (sym h))
same_truth false true h = absurd (false≢true (sym h))
same_truth false false h = refl

-- memory was refused for neither, and the store failed for both or for neither
pub record IsFair (a b : Reply) : Type 0 where
  pub kept : is_forgotten a ≡ false
  pub other_kept : is_forgotten b ≡ false
  pub saved : is_unsaved a ≡ is_unsaved b

fair_of : (a b : Reply) → may_differ a b ≡ false → IsFair a b
fair_of a b h =
    let parts = either_false (is_forgotten a || is_forgotten b) (not (beq (is_unsaved a) (is_unsaved b))) h in
    let both = either_false (is_forgotten a) (is_forgotten b) parts.0 in
    record { kept = both.0; other_kept = both.1; saved = same_truth (is_unsaved a) (is_unsaved b) parts.1 }

not_forgotten : (reply : Reply) → reply ≡ memory_reply → is_forgotten reply ≡ false → ⊥
not_forgotten reply is kept = false≢true (sym kept ∙ ap is_forgotten is)

-- the store did not fail for one, and failed for the other
not_unsaved : (a b reply : Reply) → is_unsaved a ≡ is_unsaved b → is_unsaved reply ≡ false → a ≡ reply → b ≡ unsaved_reply → ⊥
not_unsaved a b reply same saved is so = false≢true (sym saved ∙ sym (ap is_unsaved is) ∙ same ∙ ap is_unsaved so)

one_refusal : (refusal : Option Reply) (a b : Reply) → IsFair a b → IsRefusal refusal a → IsRefusal refusal b → a ≡ b
one_refusal None a b fair h k = absurd h
one_refusal (Some refusal) a b fair (inl h) (inl k) = h ∙ sym k
one_refusal (Some refusal) a b fair (inl h) (inr k) = absurd (not_forgotten b k fair.other_kept)
one_refusal (Some refusal) a b fair (inr h) k = absurd (not_forgotten a h fair.kept)

-- ---- replies of plans

-- nothing is told
abbrev never : Telling
never e user explore body now told = ⊥

-- a store that holds nothing and has not failed
abbrev no_store : Store
no_store = store_of None 0

-- the reply to a load or a check with it
saved_plain : (reply : Reply) → IsPlain reply.status ⊎ IsUnsaved reply no_store no_store → is_unsaved reply ≡ false
saved_plain reply (inl plain) = plain.1
saved_plain reply (inr unsaved) = absurd (omega (arith, unsaved.1))

load_saved : (e : Standing) (now : ℤ) (request : Request) (table : List ℕ) (replace : Bool) (id : List ℕ) (p : Planned)
    → load_planned e (call_of request table replace id) ≡ Ok (New p) → is_unsaved p.reply ≡ false
load_saved e now request table replace id p is =
    let does : LoadDoes e (Ok (New p)) p.reply p.standing no_store no_store = inl (refl, refl, record { held = refl; later = omega arith }) in
    saved_plain p.reply (target_plain never (λ e user explore body now reply h. absurd h) e now request (target.Load table replace id) p.reply p.standing no_store no_store
    (subst (λ plan. LoadDoes e plan p.reply p.standing no_store no_store) (sym is) does))

check_saved : (e : Standing) (now : ℤ) (request : Request) (p : Planned) → check_planned e request.user now ≡ Ok (new_check p) → is_unsaved p.reply ≡ false
check_saved e now request p is =
    let does : CheckDoes e (Ok (new_check p)) p.reply p.standing no_store no_store = inl (refl, refl, record { held = refl; later = omega arith }) in
    saved_plain p.reply (target_plain never (λ e user explore body now reply h. absurd h) e now request target.Check p.reply p.standing no_store no_store
    (subst (λ plan. CheckDoes e plan p.reply p.standing no_store no_store) (sym is) does))

-- ---- servers

-- two servers of a history are the same but for the count, and their clocks tell these moments
pub record AreAlike (h k : Recorded) : Type 0 where
  pub standing : h.server.standing ≡ k.server.standing
  pub held : h.server.store.held ≡ k.server.store.held
  pub moments : h.server.moments ≡ k.server.moments
  pub past : h.past ≡ k.past
  pub told : List ℤ
  pub tells : h.server.moments ≡ Some told

pub alike : (h k : Recorded) (told : List ℤ) → uncounted h ≡ uncounted k → h.server.moments ≡ Some told → AreAlike h k
alike h k told is tells = record {
  standing = ap (λ (u : Recorded). u.server.standing) is;
  held = ap (λ (u : Recorded). u.server.store.held) is;
  moments = ap (λ (u : Recorded). u.server.moments) is;
  past = ap (λ (u : Recorded). u.past) is;
  told = told;
  tells = tells;
}

pub uncounted_alike : (h k : Recorded) → AreAlike h k → uncounted h ≡ uncounted k
uncounted_alike h k l = (λ i. recorded (server (l.standing i) (l.held i) 0 (l.moments i)) (l.past i))

-- ---- what a request does to the edition and the store

module _ (one_replied : OneReplied) where
  module _ (e : Standing) (store other : Store) (held : store.held ≡ other.held) (a b : Reply) (fair : IsFair a b) (e1 e2 : Standing)
      (store' other' : Store) where
    -- the replies are the same, and so are the editions and what the stores hold
    abbrev AreSame : Type 0
    AreSame = (a ≡ b) × (e1 ≡ e2) × (store'.held ≡ other'.held)

    saved_alike : (saves : List Save) → Saves saves store store' → Saves saves other other' → store'.held ≡ other'.held
    saved_alike saves h k = h.held ∙ ap (option_map (λ (kept : Kept). after_saves kept saves)) held ∙ sym k.held

    stayed_alike : (reply : Reply) → a ≡ reply → b ≡ reply → Stays e e1 store store' → Stays e e2 other other' → AreSame
    stayed_alike reply is so h k = (is ∙ sym so, h.standing ∙ sym k.standing, saved_alike [] h.saves k.saves)

    committed_alike : (p : Planned) → is_unsaved p.reply ≡ false → IsCommitted e p a e1 store store' → IsCommitted e p b e2 other other' → AreSame
    committed_alike p saved (inl h) (inl k) = (h.0 ∙ sym k.0, h.1 ∙ sym k.1, saved_alike (p.save ∷ []) h.2 k.2)
    committed_alike p saved (inl h) (inr k) = absurd (not_unsaved a b p.reply fair.saved saved h.0 k.0)
    committed_alike p saved (inr h) (inl k) = absurd (not_unsaved b a p.reply (sym fair.saved) saved k.0 h.0)
    committed_alike p saved (inr h) (inr k) = stayed_alike unsaved_reply h.0 k.0 h.1 k.1

    load_alike : (plan : Result LoadPlan LoadFault) → ((p : Planned) → plan ≡ Ok (New p) → is_unsaved p.reply ≡ false) → LoadDoes e plan a e1 store store' → LoadDoes e plan b e2 other other' → AreSame
    load_alike (Err fault) saved h k = stayed_alike (load_refusal fault) h.1 k.1 h.2 k.2
    load_alike (Ok (kept_plan kept)) saved h k = stayed_alike kept h.0 k.0 h.1 k.1
    load_alike (Ok (New p)) saved h k = committed_alike p (saved p refl) h k

    check_alike : (plan : Result CheckPlan CheckFault) → ((p : Planned) → plan ≡ Ok (new_check p) → is_unsaved p.reply ≡ false) → CheckDoes e plan a e1 store store' → CheckDoes e plan b e2 other other' → AreSame
    check_alike (Err fault) saved h k = stayed_alike (check_refusal fault) h.1 k.1 h.2 k.2
    check_alike (Ok (Nothing unbuilt)) saved h k = stayed_alike unbuilt h.0 k.0 h.1 k.1
    check_alike (Ok (new_check p)) saved h k = committed_alike p (saved p refl) h k

    told_alike : (told : Result Reply AskFault) → Tells told a → Tells told b → a ≡ b
    told_alike (Ok answer) h k = h ∙ sym k
    told_alike (Err fault) h k = h.1 ∙ sym k.1

    query_alike : (past : List State) (user explore body : List ℕ) (now : ℤ) → IsQueried (by_history past) e user explore body now a
        → IsQueried (by_history past) e user explore body now b → a ≡ b
    query_alike past user explore body now h k =
        let same : h.told ≡ k.told = one_replied e past user explore body now false h.told k.told h.is k.is in
        told_alike k.told (subst (λ t. Tells t a) same h.tells) k.tells

    target_alike : (past : List State) (now : ℤ) (request : Request) (to : Target) → TargetDoes (by_history past) e now request to a e1 store store'
        → TargetDoes (by_history past) e now request to b e2 other other' → AreSame
    target_alike past now request (target.Query explore) h k =
        (query_alike past request.user explore request.body now h.0 k.0, h.1.standing ∙ sym k.1.standing, saved_alike [] h.1.saves k.1.saves)
    target_alike past now request (target.Load table replace id) h k = load_alike (load_planned e (call_of request table replace id)) (load_saved e now request table replace id) h k
    target_alike past now request target.Check h k = check_alike (check_planned e request.user now) (check_saved e now request) h k

  -- ---- an item

  -- the moment that a clock tells next
  next_moment : (moments : Option (List ℤ)) (told : List ℤ) (now : ℤ) → moments ≡ Some told → IfSome moments (λ (t : List ℤ). slice_get t 0 ≡ Some now)
      → slice_get told 0 ≡ Some now
  next_moment moments told now is first = subst (λ o. IfSome o (λ (t : List ℤ). slice_get t 0 ≡ Some now)) is first

  one_moment : (next : Option ℤ) (m n : ℤ) → next ≡ Some m → next ≡ Some n → m ≡ n
  one_moment next m n h k = ap (λ (o : Option ℤ). unwrap_or o m) (sym h ∙ k)

  module _ (h k h' k' : Recorded) (like : AreAlike h k) where
    past_alike : h'.server.standing ≡ k'.server.standing → h'.past ≡ past_after h.server.standing h'.server.standing h.past
        → k'.past ≡ past_after k.server.standing k'.server.standing k.past → h'.past ≡ k'.past
    past_alike same is so =
        let both : past_after h.server.standing h'.server.standing h.past ≡ past_after k.server.standing k'.server.standing k.past =
        (λ i. past_after (like.standing i) (same i) (like.past i)) in
        is ∙ both ∙ sym so

    -- nothing was done
    still_alike : h'.server ≡ h.server → k'.server ≡ k.server → h'.past ≡ past_after h.server.standing h'.server.standing h.past
        → k'.past ≡ past_after k.server.standing k'.server.standing k.past → AreAlike h' k'
    still_alike p q is so =
        let standing : h'.server.standing ≡ k'.server.standing = ap (λ (s : Server). s.standing) p ∙ like.standing ∙ sym (ap (λ (s : Server). s.standing) q) in
        record {
          standing = standing;
          held = ap (λ (s : Server). s.store.held) p ∙ like.held ∙ sym (ap (λ (s : Server). s.store.held) q);
          moments = ap (λ (s : Server). s.moments) p ∙ like.moments ∙ sym (ap (λ (s : Server). s.moments) q);
          past = past_alike standing is so;
          told = like.told;
          tells = ap (λ (s : Server). s.moments) p ∙ like.tells;
        }

    module _ (a b : Reply) (fair : IsFair a b) where
      request_alike : (request : Request) → RequestDoes (by_history h.past) h.server request a h'.server → RequestDoes (by_history k.past) k.server request b k'.server
          → h'.past ≡ past_after h.server.standing h'.server.standing h.past → k'.past ≡ past_after k.server.standing k'.server.standing k.past
          → (a ≡ b) × AreAlike h' k'
      request_alike request d e is so =
          let now : d.now ≡ e.now =
          one_moment (slice_get like.told 0) d.now e.now (next_moment h.server.moments like.told d.now like.tells d.first)
          (next_moment k.server.moments like.told e.now (sym like.moments ∙ like.tells) e.first) in
          let on_edition = subst (λ (s : Standing). TargetDoes (by_history h.past) s d.now request request.target a h'.server.standing h.server.store h'.server.store) like.standing d.serves in
          let on_past = subst (λ (p : List State). TargetDoes (by_history p) k.server.standing d.now request request.target a h'.server.standing h.server.store h'.server.store) like.past on_edition in
          let served = subst (λ (n : ℤ). TargetDoes (by_history k.past) k.server.standing n request request.target a h'.server.standing h.server.store h'.server.store) now on_past in
          let same = target_alike k.server.standing h.server.store k.server.store like.held a b fair h'.server.standing k'.server.standing h'.server.store k'.server.store
          k.past e.now request request.target served e.serves in (
            same.0,
            record {
              standing = same.1;
              held = same.2;
              moments = d.moments ∙ ap (option_map later) like.moments ∙ sym e.moments;
              past = past_alike same.1 is so;
              told = later like.told;
              tells = d.moments ∙ ap (option_map later) like.tells;
            },
          )

      item_alike : (item : Item) → RecordedDoes h item a h' → RecordedDoes k item b k' → (a ≡ b) × AreAlike h' k'
      item_alike (Ok End) d e = absurd d.0
      item_alike (Ok (Req request)) (inl d, is) (inl e, so) = request_alike request d e is so
      item_alike (Ok (Req request)) (inl d, is) (inr e, so) = absurd (not_forgotten b e.0 fair.other_kept)
      item_alike (Ok (Req request)) (inr d, is) e = absurd (not_forgotten a d.0 fair.kept)
      item_alike (Err fault) d e = (one_refusal (http_reply fault) a b fair d.0.0 e.0.0, still_alike d.0.1 e.0.1 d.1 e.1)

  -- ---- a turn

  pub turn_alike : (last : Bool) (h k : Recorded) (bytes other : List ℕ) (s t : Sent) (h' k' : Recorded) (rest left : List ℕ) → AreAlike h k
      → may_differ s.reply t.reply ≡ false → (p : IsTurn RecordedDoes h bytes last s h' rest) (q : IsTurn RecordedDoes k other last t k' left) → p.item ≡ q.item → (s ≡ t) × AreAlike h' k'
  turn_alike last h k bytes other s t h' k' rest left like differ p q same =
      let both = item_alike h k h' k' like s.reply t.reply (fair_of s.reply t.reply differ) q.item (subst (λ (item : Item). RecordedDoes h item s.reply h') same p.does) q.does in
      let reply : s.reply ≡ t.reply = both.0 in
      let close : s.close ≡ t.close = p.closes ∙ ap (λ (item : Item). ends item || last) same ∙ sym q.closes in
      ((λ i. record { reply = reply i; close = close i }), both.1)
