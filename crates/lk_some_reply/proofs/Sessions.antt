-- A connection's bytes have a whole session on a server.
use Rattle.std.proofs.Common.{◌≡◌, ◌∙◌, ◌⊎◌, inl, inr, ℕ, ℤ, zero, suc, ◌+◌, ◌==◌, nat_eq, Bool, true, false, not, ◌||◌, List, [], ◌∷◌, ◌++◌, length, take, drop, codes, Option, Some, None, Result, Ok, Err, refl, sym, ap, subst, true≢false, if◌then◌else◌, arith}
use Rattle.std.specs.Option.{option_map}
use Rattle.std.specs.Prelude.{nat_lt}
use Rattle.std.proofs.lemmas.Bool.Decides.{nat_tests}
use Rattle.lk_io.specs.Moments.{later}
use Rattle.lk_types.specs.declared.answer.Reply.{Reply}
use Rattle.lk_state.specs.States.{State}
use Rattle.lk_http.specs.Fields.{user_of, body_length, body_limit, do_lengths_agree, is_coded, length_or_fault, stated_length}
use Rattle.lk_http.specs.Heads.{Decided, bad, over, whole}
use Rattle.lk_http.specs.Items.{IsNext, Item, Step, after, asks_close, at_end, ends, fields_of, is_post, request_of, routed, with_body}
use Rattle.lk_http.specs.Routes.{target_of}
use Rattle.lk_http.specs.declared.faults.HttpFault.{HttpFault}
use Rattle.lk_http.specs.declared.faults.HttpFault.TheVariants as http
use Rattle.lk_http.specs.declared.request.Got.TheVariants.{End, Req}
use Rattle.lk_http.specs.declared.request.Request.{Request}
use Rattle.lk_http.specs.declared.request.Target.{Target}
use Rattle.httparse.specs.Grammar.{RequestHead}
use Rattle.lk_turns.specs.Doings.{IsRefusal, Sent, coded, http_reply}
use Rattle.lk_turns.specs.Runs.{AreTurns, Closes, IsOver, IsRun, IsTurn, closed_by, ended_by, how_ended, is_last}
use Rattle.lk_turns.specs.declared.ended.Ended.{Ended}
use Rattle.lk_turns.specs.declared.ended.Ended.TheVariants as ended
use Rattle.lk_session.specs.Recorded.{Recorded, RecordedDoes, past_after}
use Rattle.lk_session.specs.Servers.{Server}
use Rattle.lk_complete_laws.specs.Holding.{HoldsOfSome}
use Rattle.lk_complete_laws.proofs.NotNot.{of_these, of_this}
use Rattle.lk_some_reply.specs.Requests.{HasMoment, IsServed}
use Rattle.lk_some_reply.specs.Sessions.{HasMoments, IsEnd, IsWholeRun, Run, ToldDoes}
use Rattle.lk_some_reply.proofs.Failing.{FailsBy, fails_if}

-- ---- what is told is what the history does

equal : (n : ℕ) → nat_eq n n ≡ true
equal n = grind (arith, nat_tests)

same_past : (h : Recorded) → h.past ≡ past_after h.server.standing h.server.standing h.past
same_past h = ap (λ b. if b then h.past else h.server.standing.state ∷ h.past) (sym (equal h.server.standing.state.number))

refused_so : (o : Option Reply) (reply : Reply) → o ≡ Some reply → IsRefusal o reply
refused_so None reply is = cc
refused_so (Some other) reply is = inl cc

pub told_is_recorded : (h : Recorded) (item : Item) (reply : Reply) (h' : Recorded) → ToldDoes h item reply h' → RecordedDoes h item reply h'
told_is_recorded h (Ok End) reply h' does = absurd does
told_is_recorded h (Ok (Req request)) reply h' does = (inl does.0, does.1)
told_is_recorded h (Err why) reply h' does =
    subst (λ (k : Recorded). RecordedDoes h (Err why) reply k) (sym does.1) ((refused_so (http_reply why) reply does.0, refl), same_past h)

-- ---- moments

first_moment : (moments : Option (List ℤ)) → HasMoments moments → HasMoment moments
first_moment None h = tt
first_moment (Some []) h = h
first_moment (Some (now ∷ more)) h = h.0

later_in : (moments : List ℤ) (b : Bool) → nat_lt 1 (length moments) ≡ b → HasMoments (Some moments) → HasMoments (Some (if b then drop 1 moments else moments))
later_in [] b is h = absurd h
later_in (now ∷ []) true is h = absurd (true≢false (sym is))
later_in (now ∷ []) false is h = h
later_in (now ∷ next ∷ more) true is h = h.1
later_in (now ∷ next ∷ more) false is h = h

later_moments : (moments : Option (List ℤ)) → HasMoments moments → HasMoments (option_map later moments)
later_moments None h = tt
later_moments (Some moments) h = later_in moments (nat_lt 1 (length moments)) refl h

-- ---- the items of bytes

-- neither a link that fails nor want of memory is an item of bytes
abbrev IsOfBytes : HttpFault → Type 0
IsOfBytes http.ReadFault = ⊥
IsOfBytes http.NoMemory = ⊥
IsOfBytes http.H1 = Unit {0}
IsOfBytes http.H2 = Unit {0}
IsOfBytes (http.H3 count) = Unit {0}
IsOfBytes (http.H4 close) = Unit {0}
IsOfBytes (http.H5 close) = Unit {0}
IsOfBytes http.H6 = Unit {0}
IsOfBytes http.Truncated = Unit {0}

stated_of_bytes : (posts : Bool) (o : Option ℕ) → FailsBy IsOfBytes (length_or_fault posts o)
stated_of_bytes posts None = fails_if IsOfBytes posts (Err http.H2) (Ok 0) tt tt
stated_of_bytes posts (Some n) = fails_if IsOfBytes (nat_lt body_limit n) (Err (http.H3 n)) (Ok n) tt tt

lengths_of_bytes : (differ coded : Bool) (stated : Result ℕ HttpFault) → FailsBy IsOfBytes stated
    → FailsBy IsOfBytes (if differ then Err http.H1 else if coded then Err http.H2 else stated)
lengths_of_bytes true coded stated h = tt
lengths_of_bytes false true stated h = tt
lengths_of_bytes false false stated h = h

length_of_bytes : (head : RequestHead) → FailsBy IsOfBytes (body_length (is_post head) (fields_of head))
length_of_bytes head =
    lengths_of_bytes (not (do_lengths_agree (fields_of head))) (is_coded (fields_of head)) (length_or_fault (is_post head) (stated_length (fields_of head)))
    (stated_of_bytes (is_post head) (stated_length (fields_of head)))

routed_of_bytes : (head : RequestHead) (body : List ℕ) (to : Option Target) → FailsBy IsOfBytes (routed head body to)
routed_of_bytes head body None = tt
routed_of_bytes head body (Some target) = by_method (is_post head)
  where
    by_method : (b : Bool) → FailsBy IsOfBytes (if b then Ok (Req (record { user = user_of (fields_of head); target = target; body = body; close = asks_close head })) else Err (http.H5 (asks_close head)))
    by_method true = tt
    by_method false = tt

cut_of_bytes : (b : Bool) (s : Step) → FailsBy IsOfBytes s.0 → FailsBy IsOfBytes (if b then (Err http.Truncated, []) else s).0
cut_of_bytes true s h = tt
cut_of_bytes false s h = h

body_of_bytes : (head : RequestHead) (rest : List ℕ) (count : Result ℕ HttpFault) → FailsBy IsOfBytes count → FailsBy IsOfBytes (with_body head rest count).0
body_of_bytes head rest (Err why) h = h
body_of_bytes head rest (Ok count) h =
    cut_of_bytes (nat_lt (length rest) count) (request_of head (take count rest), drop count rest) (routed_of_bytes head (take count rest) (target_of head.target))

after_of_bytes : (d : Decided) (rest : List ℕ) → FailsBy IsOfBytes (after d rest).0
after_of_bytes over rest = tt
after_of_bytes bad rest = tt
after_of_bytes (whole head) rest = body_of_bytes head rest (body_length (is_post head) (fields_of head)) (length_of_bytes head)

end_of_bytes : (bytes : List ℕ) → FailsBy IsOfBytes (at_end bytes).0
end_of_bytes [] = tt
end_of_bytes (b ∷ bytes) = tt

next_of_bytes : (bytes : List ℕ) (step : Step) → IsNext bytes step → FailsBy IsOfBytes step.0
next_of_bytes bytes step (inl h) = subst (λ (s : Step). FailsBy IsOfBytes s.0) (sym h.3) (after_of_bytes h.1 (drop h.0 bytes))
next_of_bytes bytes step (inr h) = subst (λ (s : Step). FailsBy IsOfBytes s.0) (sym h.1) (end_of_bytes bytes)

-- ---- the end

closed_ends : (item : Item) → IsEnd (closed_by item)
closed_ends (Ok got) = tt
closed_ends (Err http.H1) = tt
closed_ends (Err http.H2) = tt
closed_ends (Err (http.H3 count)) = tt
closed_ends (Err (http.H4 close)) = tt
closed_ends (Err (http.H5 close)) = tt
closed_ends (Err http.H6) = tt
closed_ends (Err http.Truncated) = tt
closed_ends (Err http.ReadFault) = tt
closed_ends (Err http.NoMemory) = tt

how_ends : (last : Bool) (how : Ended) → IsEnd how → IsEnd (how_ended last how)
how_ends true how h = tt
how_ends false how h = h

-- ---- from so many replies on

-- a session that ends without a last reply
record Stops (before : ℕ) (h : Recorded) (bytes : List ℕ) (r : Run) : Type 0 where
  left : List ℕ
  turns : AreTurns ToldDoes before h bytes r.sents r.last left
  stop : IsOver left r.rest r.how

-- or with one
record Closing (before : ℕ) (h : Recorded) (bytes : List ℕ) (r : Run) : Type 0 where
  front : List Sent
  sent : Sent
  m : Recorded
  left : List ℕ
  count : ℕ
  counted : count ≡ before + length front
  all : r.sents ≡ front ++ sent ∷ []
  turns : AreTurns ToldDoes before h bytes front m left
  closes : Closes ToldDoes (is_last count) m left sent r.last r.rest r.how

record GoesOn (before : ℕ) (h : Recorded) (bytes : List ℕ) (r : Run) : Type 0 where
  is : Stops before h bytes r ⊎ Closing before h bytes r
  ends : IsEnd r.how

over_at : (before : ℕ) (h : Recorded) (bytes rest : List ℕ) (item : Item) (how : Ended) → IsOver bytes rest how → IsEnd how → HoldsOfSome (GoesOn before h bytes)
over_at before h bytes rest item how at_end_of ending =
    of_this {Holds = GoesOn before h bytes} (record { sents = []; last = h; rest = rest; how = how })
    (record { is = inl (record { left = bytes; turns = (refl, refl); stop = at_end_of }); ends = ending })

module _ (before : ℕ) (h : Recorded) (bytes rest : List ℕ) (item : Item) (reply : Reply) (h' : Recorded) (next : IsNext bytes (item, rest)) (does : ToldDoes h item reply h') where
  abbrev sent_here : Sent
  sent_here = record { reply = reply; close = ends item || is_last before }

  abbrev turn : IsTurn ToldDoes h bytes (is_last before) sent_here h' rest
  turn = record { item = item; next = next; does = does; closes = refl }

  closing : (ends item || is_last before) ≡ true → HoldsOfSome (GoesOn before h bytes)
  closing closed =
      of_this {Holds = GoesOn before h bytes} (record { sents = sent_here ∷ []; last = h'; rest = rest; how = ended_by (is_last before) item }) (record {
        is = inr (record {
          front = [];
          sent = sent_here;
          m = h;
          left = bytes;
          count = before;
          counted = omega arith;
          all = refl;
          turns = (refl, refl);
          closes = record { turn = turn; why = inl (closed, refl) };
        });
        ends = how_ends (is_last before) (closed_by item) (closed_ends item);
      })

  with_turn : (ends item || is_last before) ≡ false → (r : Run) → GoesOn (before + 1) h' rest r → HoldsOfSome (GoesOn before h bytes)
  with_turn stays r more =
      of_this {Holds = GoesOn before h bytes} (record { sents = sent_here ∷ r.sents; last = r.last; rest = r.rest; how = r.how })
      (record { is = grown more.is; ends = more.ends })
    where
      grown : Stops (before + 1) h' rest r ⊎ Closing (before + 1) h' rest r
          → Stops before h bytes (record { sents = sent_here ∷ r.sents; last = r.last; rest = r.rest; how = r.how })
          ⊎ Closing before h bytes (record { sents = sent_here ∷ r.sents; last = r.last; rest = r.rest; how = r.how })
      grown (inl stops) = inl (record { left = stops.left; turns = (h', rest, turn, stays, stops.turns); stop = stops.stop })
      grown (inr c) = inr (record {
        front = sent_here ∷ c.front;
        sent = c.sent;
        m = c.m;
        left = c.left;
        count = c.count;
        counted = omega (arith, c.counted);
        all = ap (λ sents. sent_here ∷ sents) c.all;
        turns = (h', rest, turn, stays, c.turns);
        closes = c.closes;
      })

-- ---- to the end

either_false : (a b : Bool) → (a || b) ≡ false → b ≡ false
either_false true b is = absurd (true≢false is)
either_false false b is = is

is_limit : (n : ℕ) → n ≡ 99999 → (n == 99999) ≡ true
is_limit n is = grind (arith, nat_tests)

last_at : (before : ℕ) → before ≡ 99999 → is_last before ≡ true
last_at before is = is_limit before is

-- what comes after a reply that is not the last
abbrev Further : ℕ → Type 0
Further before = (h' : Recorded) (rest : List ℕ) → HasMoments h'.server.moments → is_last before ≡ false → HoldsOfSome (GoesOn (before + 1) h' rest)

module _ (before : ℕ) (h : Recorded) (bytes : List ℕ) (moments : HasMoments h.server.moments) (further : Further before) where
  by_close : (item : Item) (rest : List ℕ) (reply : Reply) (h' : Recorded) → IsNext bytes (item, rest) → ToldDoes h item reply h' → HasMoments h'.server.moments
      → (b : Bool) → (ends item || is_last before) ≡ b → HoldsOfSome (GoesOn before h bytes)
  by_close item rest reply h' next does later true is = closing before h bytes rest item reply h' next does is
  by_close item rest reply h' next does later false is =
      of_these {Holds = GoesOn (before + 1) h' rest} {Fits = GoesOn before h bytes} (further h' rest later (either_false (ends item) (is_last before) is)) (with_turn before h bytes rest item reply h' next does is)

  answered : (item : Item) (rest : List ℕ) (reply : Reply) (h' : Recorded) → IsNext bytes (item, rest) → ToldDoes h item reply h' → HasMoments h'.server.moments
      → HoldsOfSome (GoesOn before h bytes)
  answered item rest reply h' next does later = by_close item rest reply h' next does later (ends item || is_last before) refl

  refusal : (why : HttpFault) (rest : List ℕ) (reply : Reply) → IsNext bytes (Err why, rest) → http_reply why ≡ Some reply → HoldsOfSome (GoesOn before h bytes)
  refusal why rest reply next is = answered (Err why) rest reply h next (is, refl) moments

  module _ (served : (past : List State) (s : Server) (request : Request) → HasMoment s.moments → HoldsOfSome (IsServed past s request)) where
    requested : (request : Request) (rest : List ℕ) → IsNext bytes (Ok (Req request), rest) → HoldsOfSome (GoesOn before h bytes)
    requested request rest next =
        of_these {Holds = IsServed h.past h.server request} {Fits = GoesOn before h bytes} (served h.past h.server request (first_moment h.server.moments moments)) (λ d does.
        answered (Ok (Req request)) rest d.reply
        (record { server = d.server; past = past_after h.server.standing d.server.standing h.past })
        next (does, refl) (subst HasMoments (sym does.moments) (later_moments h.server.moments moments)))

    by_item : (item : Item) (rest : List ℕ) → IsNext bytes (item, rest) → FailsBy IsOfBytes item → HoldsOfSome (GoesOn before h bytes)
    by_item (Ok End) rest next of = over_at before h bytes rest (Ok End) ended.Clean (record { item = Ok End; next = next; at = refl }) tt
    by_item (Ok (Req request)) rest next of = requested request rest next
    by_item (Err http.H1) rest next of = refusal http.H1 rest (coded 400 (codes "H1")) next refl
    by_item (Err http.H2) rest next of = refusal http.H2 rest (coded 411 (codes "H2")) next refl
    by_item (Err (http.H3 count)) rest next of = refusal (http.H3 count) rest (coded 413 (codes "H3")) next refl
    by_item (Err (http.H4 close)) rest next of = refusal (http.H4 close) rest (coded 404 (codes "H4")) next refl
    by_item (Err (http.H5 close)) rest next of = refusal (http.H5 close) rest (coded 405 (codes "H5")) next refl
    by_item (Err http.H6) rest next of = refusal http.H6 rest (coded 431 (codes "H6")) next refl
    by_item (Err http.Truncated) rest next of =
        over_at before h bytes rest (Err http.Truncated) ended.Truncated (record { item = Err http.Truncated; next = next; at = refl }) tt
    by_item (Err http.ReadFault) rest next of = absurd of
    by_item (Err http.NoMemory) rest next of = absurd of

module _ (items : (bytes : List ℕ) → HoldsOfSome (IsNext bytes))
    (served : (past : List State) (s : Server) (request : Request) → HasMoment s.moments → HoldsOfSome (IsServed past s request)) where
  one_item : (before : ℕ) (h : Recorded) (bytes : List ℕ) → HasMoments h.server.moments → Further before → HoldsOfSome (GoesOn before h bytes)
  one_item before h bytes moments further =
      of_these {Holds = IsNext bytes} {Fits = GoesOn before h bytes} (items bytes) (λ step next. by_item before h bytes moments further served step.0 step.1 next (next_of_bytes bytes step next))

  -- so many replies may follow before the last one
  goes_on : (more before : ℕ) → more + before ≡ 99999 → (h : Recorded) (bytes : List ℕ) → HasMoments h.server.moments → HoldsOfSome (GoesOn before h bytes)
  goes_on zero before is h bytes moments =
      one_item before h bytes moments (λ h' rest later not_last. absurd (true≢false (sym (last_at before (omega (arith, is))) ∙ not_last)))
  goes_on (suc more) before is h bytes moments =
      one_item before h bytes moments (λ h' rest later not_last. goes_on more (before + 1) (omega (arith, is)) h' rest later)

  whole_of : (h : Recorded) (bytes : List ℕ) (r : Run) → Stops 0 h bytes r ⊎ Closing 0 h bytes r → IsRun ToldDoes h bytes r.sents r.last r.rest r.how
  whole_of h bytes r (inl stops) = inr (inl (record { left = stops.left; turns = stops.turns; stop = inl stops.stop }))
  whole_of h bytes r (inr c) =
      let counted : c.count ≡ length c.front = omega (arith, c.counted) in
      inr (inr (record {
        front = c.front;
        sent = c.sent;
        m = c.m;
        left = c.left;
        all = c.all;
        turns = c.turns;
        closes = subst (λ n. Closes ToldDoes (is_last n) c.m c.left c.sent r.last r.rest r.how) counted c.closes;
      }))

  pub some_run : (h : Recorded) (bytes : List ℕ) → HasMoments h.server.moments → HoldsOfSome (IsWholeRun h bytes)
  some_run h bytes moments =
      of_these {Holds = GoesOn 0 h bytes} {Fits = IsWholeRun h bytes} (goes_on 99999 0 (omega arith) h bytes moments) (λ r on.
      of_this {Holds = IsWholeRun h bytes} r (record { is = whole_of h bytes r on.is; ends = on.ends }))
