-- What a turn comes to, from its parts.
use Rattle.std.proofs.Common.{◌≡◌, ◌∙◌, ℕ, Bool, List, refl, subst, inl, inr, Option, Some, None}
use Rattle.std.specs.Prelude.{◌||◌, IfOk, IfSome, IsSome, OnErr, Result, Ok, Err}
use Rattle.lk_types.specs.declared.answer.Reply.{Reply}
use Rattle.lk_http.specs.Answers.{IsAnswer, IsDropped}
use Rattle.lk_http.specs.Items.{IsNext, Item, ends}
use Rattle.lk_http.specs.Replies.{memory_reply}
use Rattle.lk_http.specs.declared.faults.HttpFault.{HttpFault}
use Rattle.lk_http.specs.declared.faults.HttpFault.TheVariants.{H1, H2, H3, H4, H5, H6, Truncated, ReadFault, NoMemory}
use Rattle.lk_http.specs.declared.request.Got.{Got}
use Rattle.lk_http.specs.declared.request.Got.TheVariants.{End, Req}
use Rattle.lk_http.specs.declared.request.Request.{Request}
use Rattle.lk_turns.specs.Doings.{IsRefusal, ItemDoes, http_reply}
use Rattle.lk_turns.specs.Runs.{ended_by, how_ended}
use Rattle.lk_turns.specs.Steps.{IsDone, IsRefused, IsSent, IsStep, reply_or_memory}
use Rattle.lk_turns.specs.declared.ended.Ended.{Ended}
use Rattle.lk_turns.specs.declared.ended.Ended.TheVariants as ended

-- ---- a refusal

refusal_of : {E : Type 0} (wanted : Option Reply) (r : Result Reply E) → IsSome wanted → IfOk r (λ reply. wanted ≡ Some reply) → IsRefusal wanted (reply_or_memory r)
refusal_of None r some ok = absurd (cc some)
refusal_of (Some reply) (Ok made) some ok = inl (cc ok)
refusal_of (Some reply) (Err fault) some ok = inr refl

pub refused : {E : Type 0} {fault : HttpFault} {last close : Bool} (how : Ended) {held held' : Option (List ℕ)} {result : Option Ended} (r : Result Reply E)
    → IsSome (http_reply fault) → IfOk r (λ reply. http_reply fault ≡ Some reply)
    → close ≡ ends (Err fault) → how_ended last how ≡ ended_by last (Err fault)
    → IsSent held held' (reply_or_memory r) (close || last) (how_ended last how) result
    → IsRefused fault last held held' result
refused {fault = fault} {last = last} why {held = held} {held' = held'} {result = result} r some ok close how out = record {
  reply = reply_or_memory r;
  is = refusal_of (http_reply fault) r some ok;
  out = subst (λ h. IsSent held held' (reply_or_memory r) (ends (Err fault) || last) h result) how
      (subst (λ c. IsSent held held' (reply_or_memory r) (c || last) (how_ended last why) result) close out);
}

module _ {S : Type 0} (Serves : S → Request → Reply → S → Type 0) (Forgets : S → Request → S → Type 0) where
  -- ---- a request

  pub served : {E : Type 0} {s s' : S} {request : Request} {last : Bool} {held held' : Option (List ℕ)} {result : Option Ended} (r : Result Reply E)
      → IfOk r (λ reply. Serves s request reply s') → OnErr r (Forgets s request s')
      → IsSent held held' (reply_or_memory r) (request.close || last) (how_ended last ended.Clean) result
      → IsDone (ItemDoes Serves Forgets) s (Ok (Req request)) last held held' s' result
  served (Ok reply) serves forgets out = record { reply = reply; does = inl serves; out = out }
  served (Err fault) serves forgets out = record { reply = memory_reply; does = inr (refl, forgets); out = out }

  -- ---- the next item

  module _ (s : S) (last : Bool) (before held held' : Option (List ℕ)) (close : Bool) (result : Option Ended) (left left' : Option (List ℕ)) where
    answered_at : (s' : S) (bytes : List ℕ) (request : Request) → held ≡ before → left' ≡ left → IsAnswer bytes left close (Ok (Req request))
        → IsDone (ItemDoes Serves Forgets) s (Ok (Req request)) last held held' s' result → IsStep (ItemDoes Serves Forgets) s bytes last before held' s' left' result
    answered_at s' bytes request same kept (rest, next, is, closes) done = inl (record {
      item = Ok (Req request);
      rest = rest;
      next = next;
      left = kept ∙ is;
      done = subst (λ h. IsDone (ItemDoes Serves Forgets) s (Ok (Req request)) last h held' s' result) same done;
    })

    -- a request was answered
    pub answered : (s' : S) (told : Option (List ℕ)) (got : Got) (request : Request) → got ≡ Req request → held ≡ before → left' ≡ left
        → IfSome told (λ bytes. IsAnswer bytes left close (Ok got))
        → IsDone (ItemDoes Serves Forgets) s (Ok (Req request)) last held held' s' result → IfSome told (λ bytes. IsStep (ItemDoes Serves Forgets) s bytes last before held' s' left' result)
    answered s' None got request is same kept next done = tt
    answered s' (Some bytes) got request is same kept next done =
        answered_at s' bytes request same kept (subst (λ g. IsAnswer bytes left close (Ok g)) is next) done

    forgotten : (item : Item) → ((request : Request) → Forgets s request s) → IsDropped item close → IsSent held held' memory_reply (close || last) (how_ended last ended.Clean) result → IsDone (ItemDoes Serves Forgets) s item last held held' s result
    forgotten (Ok End) stays dropped out = absurd dropped
    forgotten (Ok (Req request)) stays dropped out = record {
      reply = memory_reply;
      does = inr (refl, stays request);
      out = subst (λ c. IsSent held held' memory_reply (c || last) (how_ended last ended.Clean) result) dropped out;
    }
    forgotten (Err H1) stays dropped out = absurd dropped
    forgotten (Err H2) stays dropped out = absurd dropped
    forgotten (Err (H3 count)) stays dropped out = absurd dropped
    forgotten (Err (H4 asked)) stays dropped out = record {
      reply = memory_reply;
      does = (inr refl, refl);
      out = subst (λ c. IsSent held held' memory_reply (c || last) (how_ended last ended.Clean) result) dropped out;
    }
    forgotten (Err (H5 asked)) stays dropped out = record {
      reply = memory_reply;
      does = (inr refl, refl);
      out = subst (λ c. IsSent held held' memory_reply (c || last) (how_ended last ended.Clean) result) dropped out;
    }
    forgotten (Err H6) stays dropped out = absurd dropped
    forgotten (Err Truncated) stays dropped out = absurd dropped
    forgotten (Err ReadFault) stays dropped out = absurd dropped
    forgotten (Err NoMemory) stays dropped out = absurd dropped

    forgot_at : (bytes : List ℕ) → ((request : Request) → Forgets s request s) → held ≡ before → left' ≡ left → IsAnswer bytes left close (Err NoMemory)
        → IsSent held held' memory_reply (close || last) (how_ended last ended.Clean) result → IsStep (ItemDoes Serves Forgets) s bytes last before held' s left' result
    forgot_at bytes stays same kept (item, rest, next, is, dropped) out = inl (record {
      item = item;
      rest = rest;
      next = next;
      left = kept ∙ is;
      done = subst (λ h. IsDone (ItemDoes Serves Forgets) s item last h held' s result) same (forgotten item stays dropped out);
    })

    -- a request was dropped for want of memory
    pub forgot : (told : Option (List ℕ)) (fault : HttpFault) (asked : Bool) → ((request : Request) → Forgets s request s) → fault ≡ NoMemory → asked ≡ close → held ≡ before → left' ≡ left
        → IfSome told (λ bytes. IsAnswer bytes left close (Err fault))
        → IsSent held held' memory_reply (asked || last) (how_ended last ended.Clean) result → IfSome told (λ bytes. IsStep (ItemDoes Serves Forgets) s bytes last before held' s left' result)
    forgot None fault asked stays is closes same kept next out = tt
    forgot (Some bytes) fault asked stays is closes same kept next out =
        forgot_at bytes stays same kept (subst (λ f. IsAnswer bytes left close (Err f)) is next)
        (subst (λ c. IsSent held held' memory_reply (c || last) (how_ended last ended.Clean) result) closes out)

    next_fault : (bytes : List ℕ) (fault : HttpFault) → IsSome (http_reply fault) → IsAnswer bytes left close (Err fault)
        → (rest : List ℕ) × IsNext bytes (Err fault, rest) × (left ≡ Some rest)
    next_fault bytes H1 some (rest, next, is, closes) = (rest, next, is)
    next_fault bytes H2 some (rest, next, is, closes) = (rest, next, is)
    next_fault bytes (H3 count) some (rest, next, is, closes) = (rest, next, is)
    next_fault bytes (H4 asked) some (rest, next, is, closes) = (rest, next, is)
    next_fault bytes (H5 asked) some (rest, next, is, closes) = (rest, next, is)
    next_fault bytes H6 some (rest, next, is, closes) = (rest, next, is)
    next_fault bytes Truncated some answer = absurd (cc some)
    next_fault bytes ReadFault some answer = absurd (cc some)
    next_fault bytes NoMemory some answer = absurd (cc some)

    refused_at : (bytes : List ℕ) (fault : HttpFault) → held ≡ before → left' ≡ left → (rest : List ℕ) × IsNext bytes (Err fault, rest) × (left ≡ Some rest)
        → IsRefused fault last held held' result → IsStep (ItemDoes Serves Forgets) s bytes last before held' s left' result
    refused_at bytes fault same kept (rest, next, is) r = inl (record {
      item = Err fault;
      rest = rest;
      next = next;
      left = kept ∙ is;
      done = subst (λ h. IsDone (ItemDoes Serves Forgets) s (Err fault) last h held' s result) same (record { reply = r.reply; does = (r.is, refl); out = r.out });
    })

    -- a request was refused as it is
    pub refused_next : (told : Option (List ℕ)) (fault : HttpFault) → IsSome (http_reply fault) → held ≡ before → left' ≡ left
        → IfSome told (λ bytes. IsAnswer bytes left close (Err fault))
        → IsRefused fault last held held' result → IfSome told (λ bytes. IsStep (ItemDoes Serves Forgets) s bytes last before held' s left' result)
    refused_next None fault some same kept next r = tt
    refused_next (Some bytes) fault some same kept next r = refused_at bytes fault same kept (next_fault bytes fault some next) r
