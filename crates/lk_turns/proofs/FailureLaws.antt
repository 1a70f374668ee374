-- The replies that say that a call failed (503) are at most as many as calls did, where each of them comes only where the count rose.
use Rattle.std.proofs.Common.{◌≡◌, ◌∙◌, ◌++◌, ◌+◌, ◌≤◌, ◌==◌, ◌^◌, ◌-◌, min, ℕ, Bool, true, false, List, [], ◌∷◌, sym, ap, subst, arith, inl, inr}
use Rattle.std.specs.Prelude.{◌⊎◌, if◌then◌else◌, Ok, Err}
use Rattle.lk_io.specs.Causes.{Rose}
use Rattle.lk_types.specs.declared.answer.Reply.{Reply}
use Rattle.lk_http.specs.Items.{Item}
use Rattle.lk_http.specs.declared.faults.HttpFault.{HttpFault}
use Rattle.lk_http.specs.declared.faults.HttpFault.TheVariants as http
use Rattle.lk_http.specs.declared.request.Got.TheVariants.{End, Req}
use Rattle.lk_http.specs.declared.request.Request.{Request}
use Rattle.lk_turns.specs.Doings.{Doing, IsRefusal, ItemDoes, Sent, http_reply}
use Rattle.lk_turns.specs.Runs.{AreTurns, IsRun, failures}
use Rattle.lk_turns.specs.declared.ended.Ended.{Ended}

-- ---- a reply

abbrev pub failed : Reply → ℕ
failed reply = if reply.status == 503 then 1 else 0

-- a count has risen by as many as failed
abbrev pub Counts : ℕ → ℕ → ℕ → Type 0
Counts before many now = min (before + many) (2 ^ 64 - 1) ≤ now

-- a reply that does not say so counts for nothing
plain_counts : (before now : ℕ) (b : Bool) → b ≡ false → before ≤ now → Counts before (if b then 1 else 0) now
plain_counts before now b plain later = subst (λ k. Counts before (if k then 1 else 0) now) (sym plain) (omega (arith, later))

risen_counts : (before now : ℕ) (b : Bool) → Rose before now → Counts before (if b then 1 else 0) now
risen_counts before now true rose = rose
risen_counts before now false rose = omega (arith, rose)

reply_counts : (before now : ℕ) (reply : Reply) → before ≤ now → ((reply.status == 503) ≡ false) ⊎ Rose before now → Counts before (failed reply) now
reply_counts before now reply later (inl plain) = plain_counts before now (reply.status == 503) plain later
reply_counts before now reply later (inr rose) = risen_counts before now (reply.status == 503) rose

plain_refusal : (fault : HttpFault) (reply : Reply) → IsRefusal (http_reply fault) reply → (reply.status == 503) ≡ false
plain_refusal http.H1 reply (inl is) = ap (λ (r : Reply). r.status == 503) is
plain_refusal http.H1 reply (inr is) = ap (λ (r : Reply). r.status == 503) is
plain_refusal http.H2 reply (inl is) = ap (λ (r : Reply). r.status == 503) is
plain_refusal http.H2 reply (inr is) = ap (λ (r : Reply). r.status == 503) is
plain_refusal (http.H3 count) reply (inl is) = ap (λ (r : Reply). r.status == 503) is
plain_refusal (http.H3 count) reply (inr is) = ap (λ (r : Reply). r.status == 503) is
plain_refusal (http.H4 close) reply (inl is) = ap (λ (r : Reply). r.status == 503) is
plain_refusal (http.H4 close) reply (inr is) = ap (λ (r : Reply). r.status == 503) is
plain_refusal (http.H5 close) reply (inl is) = ap (λ (r : Reply). r.status == 503) is
plain_refusal (http.H5 close) reply (inr is) = ap (λ (r : Reply). r.status == 503) is
plain_refusal http.H6 reply (inl is) = ap (λ (r : Reply). r.status == 503) is
plain_refusal http.H6 reply (inr is) = ap (λ (r : Reply). r.status == 503) is
plain_refusal http.Truncated reply none = absurd none
plain_refusal http.ReadFault reply none = absurd none
plain_refusal http.NoMemory reply none = absurd none

-- ---- an item

module _ {S : Type 0} (Serves : S → Request → Reply → S → Type 0) (Forgets : S → Request → S → Type 0) (faults : S → ℕ)
    (later : (s : S) (request : Request) (reply : Reply) (s' : S) → Serves s request reply s' → faults s ≤ faults s')
    (rose : (s : S) (request : Request) (reply : Reply) (s' : S) → Serves s request reply s' → ((reply.status == 503) ≡ false) ⊎ Rose (faults s) (faults s'))
    (forgot : (s : S) (request : Request) (s' : S) → Forgets s request s' → faults s ≤ faults s') where
  pub item_counts : (s : S) (item : Item) (reply : Reply) (s' : S) → ItemDoes Serves Forgets s item reply s' → Counts (faults s) (failed reply) (faults s')
  item_counts s (Ok End) reply s' none = absurd none
  item_counts s (Ok (Req request)) reply s' (inl does) =
      reply_counts (faults s) (faults s') reply (later s request reply s' does) (rose s request reply s' does)
  item_counts s (Ok (Req request)) reply s' (inr forgotten) =
      reply_counts (faults s) (faults s') reply (forgot s request s' forgotten.1) (inl (ap (λ (r : Reply). r.status == 503) forgotten.0))
  item_counts s (Err fault) reply s' does =
      reply_counts (faults s) (faults s') reply (subst (λ k. faults s ≤ faults k) (sym does.1) (omega arith)) (inl (plain_refusal fault reply does.0))

-- ---- a run

both_count : (before m now a b : ℕ) → Counts before a m → Counts m b now → Counts before (a + b) now
both_count before m now a b p q = omega (arith, p, q)

failures_behind : (front : List Sent) (sent : Sent) → failures (front ++ sent ∷ []) ≡ failures front + failed sent.reply
failures_behind [] sent = omega arith
failures_behind (first ∷ more) sent = ap (λ n. failed first.reply + n) (failures_behind more sent) ∙ omega arith

module _ {S : Type 0} (Does : Doing S) (faults : S → ℕ)
    (counts : (s : S) (item : Item) (reply : Reply) (s' : S) → Does s item reply s' → Counts (faults s) (failed reply) (faults s')) where
  turns_count : (before : ℕ) (s : S) (bytes : List ℕ) (sents : List Sent) (s' : S) (rest : List ℕ)
      → AreTurns Does before s bytes sents s' rest → Counts (faults s) (failures sents) (faults s')
  turns_count before s bytes [] s' rest turns = subst (λ k. Counts (faults s) 0 (faults k)) turns.0 (omega arith)
  turns_count before s bytes (sent ∷ more) s' rest (m, left, turn, open_still, turns) =
      both_count (faults s) (faults m) (faults s') (failed sent.reply) (failures more)
      (counts s turn.item sent.reply m turn.does) (turns_count (before + 1) m left more s' rest turns)

  -- as many calls failed as replies say so
  pub run_counts : (s s' : S) (bytes rest : List ℕ) (sents : List Sent) (how : Ended)
      → IsRun Does s bytes sents s' rest how → Counts (faults s) (failures sents) (faults s')
  run_counts s s' bytes rest sents how (inl none) =
      subst (λ k. Counts (faults s) (failures sents) (faults k)) (sym none.same)
      (subst (λ l. Counts (faults s) (failures l) (faults s)) (sym none.none) (omega arith))
  run_counts s s' bytes rest sents how (inr (inl stopped)) = turns_count 0 s bytes sents s' stopped.left stopped.turns
  run_counts s s' bytes rest sents how (inr (inr closed)) =
      subst (λ n. Counts (faults s) n (faults s')) (sym (ap failures closed.all ∙ failures_behind closed.front closed.sent))
      (both_count (faults s) (faults closed.m) (faults s') (failures closed.front) (failed closed.sent.reply)
      (turns_count 0 s bytes closed.front closed.m closed.left closed.turns)
      (counts closed.m closed.closes.turn.item closed.sent.reply s' closed.closes.turn.does))
