-- From turn to turn of a session, and to its end.
use Rattle.std.proofs.Common.{◌≡◌, ◌∙◌, ◌++◌, ◌≢◌, ◌+◌, ◌<◌, ℕ, true, false, List, [], ◌∷◌, length, refl, sym, ap, subst, arith, inl, inr, Option, Some, None}
use Rattle.std.specs.Prelude.{◌⊎◌, ◌||◌, IfSome, IsSome, Ok, Err}
use Rattle.std.specs.Io.KnownBytes.{Appends}
use Rattle.std.proofs.KnownBytes.{Appends-nil, Appends-trans}
use Rattle.std.proofs.Math.Seq.{take-length}
use Rattle.std.proofs.lemmas.Bool.{false≢true}
use Rattle.std.proofs.lemmas.Grind.{flat_map-append}
use Rattle.std.proofs.lemmas.List.{append-nil, length-append}
use Rattle.lk_io.specs.Streams.{AppendsFront}
use Rattle.lk_http.specs.Items.{Item, ends}
use Rattle.lk_http.specs.Replies.{printed_reply}
use Rattle.lk_http.specs.declared.faults.HttpFault.TheVariants as http
use Rattle.lk_http.specs.declared.request.Got.TheVariants.{End, Req}
use Rattle.lk_turns.specs.Doings.{Doing, Sent}
use Rattle.lk_turns.specs.Runs.{AreTurns, Closed, Closes, EndsAt, GoesOut, IsOver, IsSession, IsTurn, IsUnread, ended_by, is_last, printed}
use Rattle.lk_turns.specs.Steps.{Answers, IsSent, IsStep, Reached, Stops, sent_of}
use Rattle.lk_turns.specs.declared.ended.Ended.{Ended}
use Rattle.lk_turns.specs.declared.ended.Ended.TheVariants as ended

-- ---- what goes out

printed_more : (sents : List Sent) (sent : Sent) → printed (sents ++ sent ∷ []) ≡ printed sents ++ printed_reply sent.reply sent.close
printed_more sents sent = flat_map-append (λ (s : Sent). printed_reply s.reply s.close) sents (sent ∷ []) ∙ ap (λ bs. printed sents ++ bs) (append-nil _)

out_more : (a b c : Option (List ℕ)) (sents : List Sent) (sent : Sent) → Appends a b (printed sents) → Appends b c (printed_reply sent.reply sent.close) → Appends a c (printed (sents ++ sent ∷ []))
out_more a b c sents sent p q = subst (Appends a c) (sym (printed_more sents sent)) (Appends-trans a b c _ _ p q)

all_front : (a b : Option (List ℕ)) (bytes : List ℕ) → Appends a b bytes → AppendsFront a b bytes
all_front a b bytes p = (length bytes, subst (Appends a b) (sym (take-length bytes)) p)

-- however a session ended, one reply more may have gone out whole
sent_out : (how : Ended) (a b c : Option (List ℕ)) (sents : List Sent) (sent : Sent) → Appends a b (printed sents) → Appends b c (printed_reply sent.reply sent.close)
    → GoesOut how a c (sents ++ sent ∷ [])
sent_out ended.Clean a b c sents sent p q = out_more a b c sents sent p q
sent_out ended.Truncated a b c sents sent p q = out_more a b c sents sent p q
sent_out ended.BadHead a b c sents sent p q = out_more a b c sents sent p q
sent_out ended.Spent a b c sents sent p q = out_more a b c sents sent p q
sent_out ended.ReadFault a b c sents sent p q = out_more a b c sents sent p q
sent_out ended.NoMemory a b c sents sent p q = out_more a b c sents sent p q
sent_out ended.WriteFault a b c sents sent p q =
    record { front = sents; sent = sent; all = refl; between = b; whole = p; cut = all_front b c _ q }

-- a session that ended without a last reply ended without a fault of writing
no_write : (item : Item) → EndsAt item ended.WriteFault → ⊥
no_write (Ok End) at = cc at
no_write (Ok (Req request)) at = at
no_write (Err http.H1) at = at
no_write (Err http.H2) at = at
no_write (Err (http.H3 count)) at = at
no_write (Err (http.H4 asked)) at = at
no_write (Err (http.H5 asked)) at = at
no_write (Err http.H6) at = at
no_write (Err http.Truncated) at = cc at
no_write (Err http.ReadFault) at = at
no_write (Err http.NoMemory) at = at

stopped_out : (left rest : List ℕ) (how : Ended) (a b : Option (List ℕ)) (sents : List Sent) → IsOver left rest how ⊎ IsUnread left rest how → Appends a b (printed sents)
    → GoesOut how a b sents
stopped_out left rest ended.Clean a b sents stop p = p
stopped_out left rest ended.Truncated a b sents stop p = p
stopped_out left rest ended.BadHead a b sents stop p = p
stopped_out left rest ended.Spent a b sents stop p = p
stopped_out left rest ended.ReadFault a b sents stop p = p
stopped_out left rest ended.NoMemory a b sents stop p = p
stopped_out left rest ended.WriteFault a b sents (inl over) p = absurd (no_write over.item over.at)
stopped_out left rest ended.WriteFault a b sents (inr unread) p = absurd (cc unread.fault)

not_last : (n : ℕ) → is_last n ≡ false → n ≢ 99999
not_last n h e = false≢true (sym h ∙ ap is_last e)

-- a turn that is not the last leaves one to come
pub below_next : (n : ℕ) (result : Option Ended) → n < 100000 → (is_last n ≡ true → IsSome result) → result ≡ None → n + 1 < 100000
below_next n result lt last none = elim (is_last n) as (λ b. is_last n ≡ b → n + 1 < 100000) [
  | true ↦ λ h. let gone : IsSome {T = Ended} None = subst IsSome none (last h) in cc
  | false ↦ λ h. omega (arith, lt, not_last n h)
] refl

module _ {S : Type 0} (does : Doing S) where
  -- ---- turns

  -- a turn more behind some turns
  turn_more : (before : ℕ) (s : S) (bytes : List ℕ) (sents : List Sent) (m : S) (left : List ℕ) (sent : Sent) (s' : S) (rest : List ℕ)
      → AreTurns does before s bytes sents m left → IsTurn does m left (is_last (before + length sents)) sent s' rest → sent.close ≡ false
      → AreTurns does before s bytes (sents ++ sent ∷ []) s' rest
  turn_more before s bytes [] m left sent s' rest turns turn stays =
      let here : IsTurn does m left (is_last before) sent s' rest = subst (λ n. IsTurn does m left (is_last n) sent s' rest) (omega arith) turn in
      let there : IsTurn does s left (is_last before) sent s' rest = subst (λ k. IsTurn does k left (is_last before) sent s' rest) (sym turns.0) here in
      (s', rest, subst (λ l. IsTurn does s l (is_last before) sent s' rest) (sym turns.1) there, stays, (refl, refl))
  turn_more before s bytes (first ∷ more) m left sent s' rest (k, l, turn_first, stays_first, turns) turn stays =
      (k, l, turn_first, stays_first, turn_more (before + 1) k l more m left sent s' rest turns (subst (λ n. IsTurn does m left (is_last n) sent s' rest) (omega arith) turn) stays)

  -- ---- a turn more

  module _ (s : S) (bytes : List ℕ) (a b c : Option (List ℕ)) (m : S) (left : Option (List ℕ)) (count : ℕ) (r : Reached does s bytes a b m left count)
      (s' : S) (left' : Option (List ℕ)) where
    -- the turn that an answer is
    turn_of : (result : Option Ended) (t : Answers does m r.rest (is_last count) b c s' left' result)
        → IsTurn does m r.rest (is_last (0 + length r.sents)) (sent_of t.item (is_last count) t.done.reply) s' t.rest
    turn_of result t =
        subst (λ n. IsTurn does m r.rest (is_last n) (sent_of t.item (is_last count) t.done.reply) s' t.rest) (omega (arith, r.many))
        (record { item = t.item; next = t.next; does = t.done.does; closes = refl })

    answered_more : (t : Answers does m r.rest (is_last count) b c s' left' None) → Reached does s bytes a c s' left' (count + 1)
    answered_more t =
        let sent = sent_of t.item (is_last count) t.done.reply in
        record {
          sents = r.sents ++ sent ∷ [];
          rest = t.rest;
          left = t.left;
          turns = turn_more 0 s bytes r.sents m r.rest sent s' t.rest r.turns (turn_of None t) t.done.out.0;
          many = length-append r.sents (sent ∷ []) ∙ ap (λ n. n + 1) r.many;
          out = out_more a b c r.sents sent r.out t.done.out.1;
        }

    here : (P : List ℕ → Type 0) → IfSome left P → P r.rest
    here P h = subst (λ l. IfSome l P) r.left h

    next : IsStep does m r.rest (is_last count) b c s' left' None → Reached does s bytes a c s' left' (count + 1)
    next (inl t) = answered_more t
    next (inr stops) = absurd (cc stops.is)

    reached_next : IfSome left (λ bytes. IsStep does m bytes (is_last count) b c s' left' None) → Reached does s bytes a c s' left' (count + 1)
    reached_next step = next (here _ step)

    -- ---- the end

    closing : (result how : Ended) (t : Answers does m r.rest (is_last count) b c s' left' (Some result))
        → ((sent_of t.item (is_last count) t.done.reply).close ≡ true) × (result ≡ ended_by (is_last count) t.item) ⊎ (result ≡ ended.WriteFault)
        → Closed does s bytes (r.sents ++ sent_of t.item (is_last count) t.done.reply ∷ []) s' t.rest result
    closing result how t why = record {
      front = r.sents;
      sent = sent_of t.item (is_last count) t.done.reply;
      m = m;
      left = r.rest;
      all = refl;
      turns = r.turns;
      closes = subst (λ n. Closes does (is_last n) m r.rest (sent_of t.item (is_last count) t.done.reply) s' t.rest result) (sym r.many)
          (record { turn = record { item = t.item; next = t.next; does = t.done.does; closes = refl }; why = why });
    }

    ended_answer : (result : Ended) (t : Answers does m r.rest (is_last count) b c s' left' (Some result))
        → IsSent b c t.done.reply (ends t.item || is_last count) (ended_by (is_last count) t.item) (Some result)
        → IsSession does s bytes a c s' left' result
    ended_answer result t (inl (close, is, out)) = record {
      sents = r.sents ++ sent_of t.item (is_last count) t.done.reply ∷ [];
      rest = t.rest;
      left = t.left;
      run = inr (inr (closing result result t (inl (close, is))));
      out = sent_out result a b c r.sents (sent_of t.item (is_last count) t.done.reply) r.out out;
    }
    ended_answer result t (inr (is, out)) = record {
      sents = r.sents ++ sent_of t.item (is_last count) t.done.reply ∷ [];
      rest = t.rest;
      left = t.left;
      run = inr (inr (closing result result t (inr is)));
      out = subst (λ how. GoesOut how a c (r.sents ++ sent_of t.item (is_last count) t.done.reply ∷ [])) (sym is)
          (record { front = r.sents; sent = sent_of t.item (is_last count) t.done.reply; all = refl; between = b; whole = r.out; cut = out });
    }

    stop_of : (result : Ended) (t : Stops m r.rest b c s' left' (Some result)) → IsOver r.rest t.rest result ⊎ IsUnread r.rest t.rest result
    stop_of result t = subst (λ how. IsOver r.rest t.rest how ⊎ IsUnread r.rest t.rest how) (cc t.is) t.stop

    ended_stop : (result : Ended) (t : Stops m r.rest b c s' left' (Some result)) → IsSession does s bytes a c s' left' result
    ended_stop result t = record {
      sents = r.sents;
      rest = t.rest;
      left = t.left;
      run = inr (inl (record {
        left = r.rest;
        turns = subst (λ k. AreTurns does 0 s bytes r.sents k r.rest) (sym t.same) r.turns;
        stop = stop_of result t;
      }));
      out = stopped_out r.rest t.rest result a c r.sents (stop_of result t) (subst (λ o. Appends a o (printed r.sents)) (sym t.silent) r.out);
    }

    ended_step : (result : Ended) → IsStep does m r.rest (is_last count) b c s' left' (Some result) → IsSession does s bytes a c s' left' result
    ended_step result (inl t) = ended_answer result t t.done.out
    ended_step result (inr t) = ended_stop result t

    session_ends : (result : Ended) → IfSome left (λ bytes. IsStep does m bytes (is_last count) b c s' left' (Some result)) → IsSession does s bytes a c s' left' result
    session_ends result step = ended_step result (here _ step)

  -- ---- where the link tells

  -- before the first turn
  pub reached_none : (s : S) (bytes : List ℕ) (a left : Option (List ℕ)) → left ≡ Some bytes → Reached does s bytes a a s left 0
  reached_none s bytes a left is = record { sents = []; rest = bytes; left = is; turns = (refl, refl); many = refl; out = Appends-nil a }

  pub told_none : (s : S) (a left : Option (List ℕ)) → IfSome left (λ bytes. Reached does s bytes a a s left 0)
  told_none s a None = tt
  told_none s a (Some bytes) = reached_none s bytes a (Some bytes) refl

  pub told_next : (first : Option (List ℕ)) (s m s' : S) (a b c left left' : Option (List ℕ)) (count : ℕ)
      → IfSome first (λ bytes. Reached does s bytes a b m left count) → IfSome left (λ bytes. IsStep does m bytes (is_last count) b c s' left' None)
      → IfSome first (λ bytes. Reached does s bytes a c s' left' (count + 1))
  told_next None s m s' a b c left left' count r step = tt
  told_next (Some bytes) s m s' a b c left left' count r step = reached_next s bytes a b c m left count r s' left' step

  pub told_end : (first : Option (List ℕ)) (s m s' : S) (a b c left left' : Option (List ℕ)) (count : ℕ) (result : Ended)
      → IfSome first (λ bytes. Reached does s bytes a b m left count) → IfSome left (λ bytes. IsStep does m bytes (is_last count) b c s' left' (Some result))
      → IfSome first (λ bytes. IsSession does s bytes a c s' left' result)
  told_end None s m s' a b c left left' count result r step = tt
  told_end (Some bytes) s m s' a b c left left' count result r step = session_ends s bytes a b c m left count r s' left' result step

  -- there was no memory to begin with
  pub told_not_begun : (s : S) (a left : Option (List ℕ)) → IfSome left (λ bytes. IsSession does s bytes a a s left ended.NoMemory)
  told_not_begun s a None = tt
  told_not_begun s a (Some bytes) = record {
    sents = [];
    rest = bytes;
    left = refl;
    run = inl (record { none = refl; same = refl; untaken = refl; why = refl });
    out = Appends-nil a;
  }
