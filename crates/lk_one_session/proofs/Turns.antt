-- From turn to turn of two sessions, and to their ends.
use Rattle.std.proofs.Common.{◌≡◌, ◌∙◌, ◌++◌, ◌+◌, ℕ, zero, suc, Bool, true, false, List, [], ◌∷◌, length, take, not, refl, sym, ap, subst, arith, add-zero, inl, inr, Option, Some, None}
use Rattle.std.specs.Prelude.{ℤ, ◌⊎◌, ◌||◌, MatchBool, Ok, Err, ⊤}
use Rattle.std.specs.Bool.{beq}
use Rattle.std.proofs.lemmas.Bool.{false≢true}
use Rattle.lk_http.specs.Items.{IsNext, Item, Step}
use Rattle.lk_http.specs.declared.faults.HttpFault.TheVariants as http
use Rattle.lk_http.specs.declared.request.Got.TheVariants.{End}
use Rattle.lk_types.specs.declared.answer.Reply.{Reply}
use Rattle.lk_state.specs.States.{State}
use Rattle.lk_turns.specs.Doings.{Sent}
use Rattle.lk_turns.specs.Runs.{AreTurns, Closes, EndsAt, GoesOut, IsOver, IsRun, IsTurn, IsUnread, ended_by, is_last, printed}
use Rattle.lk_turns.specs.declared.ended.Ended.{Ended}
use Rattle.lk_turns.specs.declared.ended.Ended.TheVariants as ended
use Rattle.lk_session.specs.Recorded.{IsRecorded, Recorded, RecordedDoes, recorded}
use Rattle.lk_session.specs.Servers.{Server}
use Rattle.lk_one_session.specs.Outcomes.{AreUndisturbed, BeginWith, HaveSameReplies, IsFront, has_failure, is_broken_off, is_forgotten, is_unsaved, may_differ, some_may_differ, uncounted}
use Rattle.lk_one_session.proofs.NextItems.{one_next}
use Rattle.lk_one_session.proofs.Replies.{AreAlike, OneReplied, alike, turn_alike, uncounted_alike}

-- ---- a run from its front

-- the end of a session without a reply
abbrev Stops : List ℕ → List ℕ → Ended → Type 0
Stops bytes rest how = IsOver bytes rest how ⊎ IsUnread bytes rest how

-- after so many replies these follow, to the end
abbrev GoesOn : ℕ → Recorded → List ℕ → List Sent → Recorded → List ℕ → Ended → Type 0
GoesOn before h bytes [] last rest how = (h ≡ last) × Stops bytes rest how
GoesOn before h bytes (sent ∷ more) last rest how =
    ((m : Recorded) × (left : List ℕ) × IsTurn RecordedDoes h bytes (is_last before) sent m left × (sent.close ≡ false) × GoesOn (before + 1) m left more last rest how)
    ⊎ ((more ≡ []) × Closes RecordedDoes (is_last before) h bytes sent last rest how)

stopped_on : (before : ℕ) (h : Recorded) (bytes : List ℕ) (sents : List Sent) (last : Recorded) (left rest : List ℕ) (how : Ended)
    → AreTurns RecordedDoes before h bytes sents last left → Stops left rest how → GoesOn before h bytes sents last rest how
stopped_on before h bytes [] last left rest how turns stop = (turns.0, subst (λ b. Stops b rest how) (sym turns.1) stop)
stopped_on before h bytes (sent ∷ more) last left rest how (m, next, turn, stays, turns) stop =
    inl (m, next, turn, stays, stopped_on (before + 1) m next more last left rest how turns stop)

closed_on : (before : ℕ) (h : Recorded) (bytes : List ℕ) (front : List Sent) (m : Recorded) (left : List ℕ) (sent : Sent) (last : Recorded) (rest : List ℕ) (how : Ended)
    → AreTurns RecordedDoes before h bytes front m left → Closes RecordedDoes (is_last (before + length front)) m left sent last rest how
    → GoesOn before h bytes (front ++ sent ∷ []) last rest how
closed_on before h bytes [] m left sent last rest how turns closes =
    let here : Closes RecordedDoes (is_last before) m left sent last rest how = subst (λ n. Closes RecordedDoes (is_last n) m left sent last rest how) (add-zero before) closes in
    let of_bytes : Closes RecordedDoes (is_last before) m bytes sent last rest how = subst (λ b. Closes RecordedDoes (is_last before) m b sent last rest how) (sym turns.1) here in
    inr (refl, subst (λ (r : Recorded). Closes RecordedDoes (is_last before) r bytes sent last rest how) (sym turns.0) of_bytes)
closed_on before h bytes (first ∷ front) m left sent last rest how (next, behind, turn, stays, turns) closes =
    let count : before + length (first ∷ front) ≡ (before + 1) + length front = omega arith in
    inl (
      next,
      behind,
      turn,
      stays,
      closed_on (before + 1) next behind front m left sent last rest how turns (subst (λ n. Closes RecordedDoes (is_last n) m left sent last rest how) count closes),
    )

-- a session that began goes on from its first bytes
begun : (h : Recorded) (bytes : List ℕ) (sents : List Sent) (last : Recorded) (rest : List ℕ) (how : Ended) → IsRun RecordedDoes h bytes sents last rest how
    → ((sents ≡ []) × (how ≡ ended.NoMemory)) ⊎ GoesOn 0 h bytes sents last rest how
begun h bytes sents last rest how (inl none) = inl (none.none, none.why)
begun h bytes sents last rest how (inr (inl stopped)) = inr (stopped_on 0 h bytes sents last stopped.left rest how stopped.turns stopped.stop)
begun h bytes sents last rest how (inr (inr closed)) =
    let count : length closed.front ≡ 0 + length closed.front = omega arith in
    let closes = subst (λ n. Closes RecordedDoes (is_last n) closed.m closed.left closed.sent last rest how) count closed.closes in
    inr (subst (λ l. GoesOn 0 h bytes l last rest how) (sym closed.all) (closed_on 0 h bytes closed.front closed.m closed.left closed.sent last rest how closed.turns closes))

-- the first reply, and whether there are more
abbrev FirstTurn : ℕ → Recorded → List ℕ → Sent → List Sent → Recorded → List ℕ → Ended → Type 0
FirstTurn before h bytes sent more last rest how =
    (m : Recorded) × (left : List ℕ) × IsTurn RecordedDoes h bytes (is_last before) sent m left × ((more ≡ []) ⊎ GoesOn (before + 1) m left more last rest how)

first_turn : (before : ℕ) (h : Recorded) (bytes : List ℕ) (sent : Sent) (more : List Sent) (last : Recorded) (rest : List ℕ) (how : Ended)
    → GoesOn before h bytes (sent ∷ more) last rest how → FirstTurn before h bytes sent more last rest how
first_turn before h bytes sent more last rest how (inl (m, left, turn, stays, on)) = (m, left, turn, inr on)
first_turn before h bytes sent more last rest how (inr (none, closes)) = (last, rest, closes.turn, inl none)

-- ---- replies that agree

none_agrees : (sents : List Sent) → HaveSameReplies sents []
none_agrees [] = tt
none_agrees (sent ∷ sents) = tt

by_difference : (s t : Sent) (sents others : List Sent) (differ : Bool) → may_differ s.reply t.reply ≡ differ
    → (may_differ s.reply t.reply ≡ false → (s ≡ t) × HaveSameReplies sents others) → MatchBool differ ⊤ ((s ≡ t) × HaveSameReplies sents others)
by_difference s t sents others true is served = tt
by_difference s t sents others false is served = served is

-- no two replies can differ
either_false : (p q : Bool) → (p || q) ≡ false → (p ≡ false) × (q ≡ false)
either_false true q h = absurd (false≢true (sym h))
either_false false q h = (refl, h)

never_differ : (a b : Reply) → (is_forgotten a || is_unsaved a) ≡ false → (is_forgotten b || is_unsaved b) ≡ false → may_differ a b ≡ false
never_differ a b h k =
    let p = either_false (is_forgotten a) (is_unsaved a) h in
    let q = either_false (is_forgotten b) (is_unsaved b) k in
    (λ i. (p.0 i || q.0 i) || not (beq (p.1 i) (q.1 i)))

pub unfailing : (sents others : List Sent) → has_failure sents ≡ false → has_failure others ≡ false → some_may_differ sents others ≡ false
unfailing [] others h k = refl
unfailing (s ∷ sents) [] h k = refl
unfailing (s ∷ sents) (t ∷ others) h k =
    let p = either_false (is_forgotten s.reply || is_unsaved s.reply) (has_failure sents) h in
    let q = either_false (is_forgotten t.reply || is_unsaved t.reply) (has_failure others) k in
    let here = never_differ s.reply t.reply p.0 q.0 in
    let behind = unfailing sents others p.1 q.1 in
    (λ i. here i || behind i)

-- ---- what ends

no_turn : (item : Item) (how : Ended) (h : Recorded) (reply : Reply) (h' : Recorded) → EndsAt item how → RecordedDoes h item reply h' → ⊥
no_turn (Ok End) how h reply h' at does = does.0
no_turn (Err http.Truncated) how h reply h' at does = does.0.0
no_turn item how h reply h' at does = at

one_end : (item : Item) (how why : Ended) → EndsAt item how → EndsAt item why → how ≡ why
one_end (Ok End) how why at so = at ∙ sym so
one_end (Err http.Truncated) how why at so = at ∙ sym so
one_end item how why at so = absurd at

not_broken : (how : Ended) (fault : Ended) → is_broken_off how ≡ false → how ≡ fault → is_broken_off fault ≡ true → ⊥
not_broken how fault whole is broken = false≢true (sym whole ∙ ap is_broken_off is ∙ broken)

-- an undisturbed session that stops is over
over_of : (bytes rest : List ℕ) (how : Ended) → is_broken_off how ≡ false → Stops bytes rest how → IsOver bytes rest how
over_of bytes rest how whole (inl over) = over
over_of bytes rest how whole (inr unread) = absurd (not_broken how ended.ReadFault whole unread.fault refl)

-- two undisturbed sessions, a reply later
first_calm : (s t : Sent) (sents others : List Sent) (how why : Ended) → AreUndisturbed (s ∷ sents) (t ∷ others) how why → may_differ s.reply t.reply ≡ false
first_calm s t sents others how why calm = (either_false (may_differ s.reply t.reply) (some_may_differ sents others) calm.replies).0

rest_calm : (s t : Sent) (sents others : List Sent) (how why : Ended) → AreUndisturbed (s ∷ sents) (t ∷ others) how why → AreUndisturbed sents others how why
rest_calm s t sents others how why calm = record {
  replies = (either_false (may_differ s.reply t.reply) (some_may_differ sents others) calm.replies).1;
  first_end = calm.first_end;
  second_end = calm.second_end;
}

-- bytes have one next item, and one rest
same_next : (bytes : List ℕ) (x y : Item) (left rest : List ℕ) → IsNext bytes (x, left) → IsNext bytes (y, rest) → (x ≡ y) × (left ≡ rest)
same_next bytes x y left rest h k =
    let same : ◌≡◌ {A = Step} (x, left) (y, rest) = one_next bytes (x, left) (y, rest) h k in
    (ap (λ (step : Step). step.0) same, ap (λ (step : Step). step.1) same)

take_none : (n : ℕ) (sents : List Sent) → sents ≡ [] → take n sents ≡ []
take_none n sents is = ap (λ (l : List Sent). take n l) is ∙ by_count n where
  by_count : (n : ℕ) → ◌≡◌ {A = List Sent} (take n []) []
  by_count zero = refl
  by_count (suc n) = refl

module _ (one_replied : OneReplied) where
  -- ---- replies

  -- the first replies of two sessions to the same item, before those that follow
  module _ (before : ℕ) (h k : Recorded) (bytes other : List ℕ) (s t : Sent) (sents others : List Sent) (last end : Recorded) (rest left : List ℕ) (how why : Ended)
      (like : AreAlike h k) (p : FirstTurn before h bytes s sents last rest how) (q : FirstTurn before k other t others end left why) (same : p.2.item ≡ q.2.item) where
    module _ (a b : List Sent) (none : sents ≡ [] → a ≡ []) (never : others ≡ [] → b ≡ [])
        (again : AreAlike p.0 q.0 → GoesOn (before + 1) p.0 p.1 sents last rest how → GoesOn (before + 1) q.0 q.1 others end left why → HaveSameReplies a b) where
      by_more : AreAlike p.0 q.0 → (sents ≡ []) ⊎ GoesOn (before + 1) p.0 p.1 sents last rest how → (others ≡ []) ⊎ GoesOn (before + 1) q.0 q.1 others end left why
          → HaveSameReplies a b
      by_more l (inl is) off = subst (λ c. HaveSameReplies c b) (sym (none is)) tt
      by_more l (inr on) (inl is) = subst (λ c. HaveSameReplies a c) (sym (never is)) (none_agrees a)
      by_more l (inr on) (inr off) = again l on off

      fronts_alike : HaveSameReplies (s ∷ a) (t ∷ b)
      fronts_alike = by_difference s t a b (may_differ s.reply t.reply) refl (λ fair.
          let both = turn_alike one_replied (is_last before) h k bytes other s t p.0 q.0 p.1 q.1 like fair p.2 q.2 same in
          (both.0, by_more both.1 p.3 q.3))

  -- to the same items
  requests_alike : (before : ℕ) (h k : Recorded) (bytes other : List ℕ) (items : List Item) (sents others : List Sent) (last end : Recorded) (rest left : List ℕ) (how why : Ended)
      → AreAlike h k → BeginWith bytes items → BeginWith other items → GoesOn before h bytes sents last rest how → GoesOn before k other others end left why
      → HaveSameReplies (take (length items) sents) (take (length items) others)
  requests_alike before h k bytes other [] sents others last end rest left how why like begin start on off = tt
  requests_alike before h k bytes other (item ∷ items) [] others last end rest left how why like begin start on off = tt
  requests_alike before h k bytes other (item ∷ items) (s ∷ sents) [] last end rest left how why like begin start on off = tt
  requests_alike before h k bytes other (item ∷ items) (s ∷ sents) (t ∷ others) last end rest left how why like (more, is, begin) (further, so, start) on off =
      let p = first_turn before h bytes s sents last rest how on in
      let q = first_turn before k other t others end left why off in
      let here = same_next bytes p.2.item item p.1 more p.2.next is in
      let there = same_next other q.2.item item q.1 further q.2.next so in
      fronts_alike before h k bytes other s t sents others last end rest left how why like p q (here.0 ∙ sym there.0)
      (take (length items) sents) (take (length items) others) (take_none (length items) sents) (take_none (length items) others)
      (λ l goes runs. requests_alike (before + 1) p.0 q.0 p.1 q.1 items sents others last end rest left how why l
      (subst (λ b. BeginWith b items) (sym here.1) begin) (subst (λ b. BeginWith b items) (sym there.1) start) goes runs)

  -- to the same bytes
  replies_alike : (before : ℕ) (h k : Recorded) (bytes : List ℕ) (sents others : List Sent) (last end : Recorded) (rest left : List ℕ) (how why : Ended)
      → AreAlike h k → GoesOn before h bytes sents last rest how → GoesOn before k bytes others end left why → HaveSameReplies sents others
  replies_alike before h k bytes [] others last end rest left how why like on off = tt
  replies_alike before h k bytes (s ∷ sents) [] last end rest left how why like on off = tt
  replies_alike before h k bytes (s ∷ sents) (t ∷ others) last end rest left how why like on off =
      let p = first_turn before h bytes s sents last rest how on in
      let q = first_turn before k bytes t others end left why off in
      let same = same_next bytes p.2.item q.2.item p.1 q.1 p.2.next q.2.next in
      fronts_alike before h k bytes bytes s t sents others last end rest left how why like p q same.0 sents others (λ is. is) (λ is. is)
      (λ l goes runs. replies_alike (before + 1) p.0 q.0 p.1 sents others last end rest left how why l goes
      (subst (λ b. GoesOn (before + 1) q.0 b others end left why) (sym same.1) runs))

  -- ---- the whole

  abbrev IsSame : List Sent → List Sent → Recorded → Recorded → List ℕ → List ℕ → Ended → Ended → Type 0
  IsSame sents others last end rest left how why = (sents ≡ others) × (uncounted last ≡ uncounted end) × (rest ≡ left) × (how ≡ why)

  -- both stop here
  stops_alike : (h k : Recorded) (bytes : List ℕ) (last end : Recorded) (rest left : List ℕ) (how why : Ended) → AreAlike h k → is_broken_off how ≡ false → is_broken_off why ≡ false
      → (h ≡ last) × Stops bytes rest how → (k ≡ end) × Stops bytes left why → IsSame [] [] last end rest left how why
  stops_alike h k bytes last end rest left how why like whole full on off =
      let over = over_of bytes rest how whole on.1 in
      let past = over_of bytes left why full off.1 in
      let same = same_next bytes over.item past.item rest left over.next past.next in (
        refl,
        ap uncounted (sym on.0) ∙ uncounted_alike h k like ∙ ap uncounted off.0,
        same.1,
        one_end past.item how why (subst (λ x. EndsAt x how) same.0 over.at) past.at,
      )

  -- one stops where the other goes on
  stop_or_turn : (before : ℕ) (k : Recorded) (bytes rest : List ℕ) (how : Ended) (t : Sent) (others : List Sent) (end : Recorded) (left : List ℕ) (why : Ended)
      → is_broken_off how ≡ false → Stops bytes rest how → GoesOn before k bytes (t ∷ others) end left why → ⊥
  stop_or_turn before k bytes rest how t others end left why whole stop off =
      let over = over_of bytes rest how whole stop in
      let q = first_turn before k bytes t others end left why off in
      let same = same_next bytes over.item q.2.item rest q.1 over.next q.2.next in
      no_turn q.2.item how k t.reply q.0 (subst (λ x. EndsAt x how) same.0 over.at) q.2.does

  -- one goes on behind a reply that closes the other
  open_or_closed : (before : ℕ) (s t : Sent) (k : Recorded) (bytes : List ℕ) (end : Recorded) (left : List ℕ) (why : Ended) → is_broken_off why ≡ false
      → s ≡ t → s.close ≡ false → Closes RecordedDoes (is_last before) k bytes t end left why → ⊥
  open_or_closed before s t k bytes end left why full same stays closes = by_why closes.why where
    by_why : ((t.close ≡ true) × (why ≡ ended_by (is_last before) closes.turn.item)) ⊎ (why ≡ ended.WriteFault) → ⊥
    by_why (inl shut) = false≢true (sym stays ∙ ap (λ (sent : Sent). sent.close) same ∙ shut.0)
    by_why (inr broken) = not_broken why ended.WriteFault full broken refl

  -- how an undisturbed session ends behind its last reply
  ended_how : (last : Bool) (h : Recorded) (bytes : List ℕ) (sent : Sent) (h' : Recorded) (rest : List ℕ) (how : Ended) → is_broken_off how ≡ false
      → (closes : Closes RecordedDoes last h bytes sent h' rest how) → how ≡ ended_by last closes.turn.item
  ended_how last h bytes sent h' rest how whole closes = by_why closes.why where
    by_why : ((sent.close ≡ true) × (how ≡ ended_by last closes.turn.item)) ⊎ (how ≡ ended.WriteFault) → how ≡ ended_by last closes.turn.item
    by_why (inl shut) = shut.1
    by_why (inr broken) = absurd (not_broken how ended.WriteFault whole broken refl)

  -- a reply of both that cannot differ
  both_turn : (before : ℕ) (h k : Recorded) (bytes : List ℕ) (s t : Sent) → AreAlike h k → may_differ s.reply t.reply ≡ false → (m n : Recorded) (a b : List ℕ)
      → IsTurn RecordedDoes h bytes (is_last before) s m a → IsTurn RecordedDoes k bytes (is_last before) t n b → (s ≡ t) × AreAlike m n × (a ≡ b)
  both_turn before h k bytes s t like fair m n a b p q =
      let same = same_next bytes p.item q.item a b p.next q.next in
      let both = turn_alike one_replied (is_last before) h k bytes bytes s t m n a b like fair p q same.0 in
      (both.0, both.1, same.1)

  -- the other is not broken off: it goes on where this one does
  module _ (before : ℕ) (h k : Recorded) (bytes : List ℕ) (s t : Sent) (sents others : List Sent) (last end : Recorded) (rest left : List ℕ) (how why : Ended)
      (like : AreAlike h k) (fair : may_differ s.reply t.reply ≡ false) (full : is_broken_off why ≡ false)
      (again : (m n : Recorded) (behind : List ℕ) → AreAlike m n → GoesOn (before + 1) m behind sents last rest how → GoesOn (before + 1) n behind others end left why
      → IsFront sents others) where
    front_by_end : GoesOn before h bytes (s ∷ sents) last rest how → GoesOn before k bytes (t ∷ others) end left why → IsFront (s ∷ sents) (t ∷ others)
    front_by_end (inl (m, a, p, stays, goes)) (inl (n, b, q, remains, runs)) =
        let both = both_turn before h k bytes s t like fair m n a b p q in
        let more = again m n a both.1 goes (subst (λ l. GoesOn (before + 1) n l others end left why) (sym both.2) runs) in
        let first = both.0 in
        let behind = more.1 in
        (more.0, (λ i. sym first i ∷ behind i))
    front_by_end (inl (m, a, p, stays, goes)) (inr (nothing, shuts)) =
        absurd (open_or_closed before s t k bytes end left why full (both_turn before h k bytes s t like fair m end a left p shuts.turn).0 stays shuts)
    front_by_end (inr (none, closes)) off =
        let q = first_turn before k bytes t others end left why off in
        let first = (both_turn before h k bytes s t like fair last q.0 rest q.1 closes.turn q.2).0 in
        (others, (λ i. sym first i ∷ (sym none i ++ others)))

  fronts_of : (before : ℕ) (h k : Recorded) (bytes : List ℕ) (sents others : List Sent) (last end : Recorded) (rest left : List ℕ) (how why : Ended)
      → AreAlike h k → some_may_differ sents others ≡ false → is_broken_off why ≡ false
      → GoesOn before h bytes sents last rest how → GoesOn before k bytes others end left why → IsFront sents others
  fronts_of before h k bytes [] others last end rest left how why like alike full on off = (others, refl)
  fronts_of before h k bytes (s ∷ sents) [] last end rest left how why like alike full on off =
      absurd (stop_or_turn before h bytes left why s sents last rest how full off.1 on)
  fronts_of before h k bytes (s ∷ sents) (t ∷ others) last end rest left how why like alike full on off =
      let fair = either_false (may_differ s.reply t.reply) (some_may_differ sents others) alike in
      front_by_end before h k bytes s t sents others last end rest left how why like fair.0 full
      (λ m n behind l goes runs. fronts_of (before + 1) m n behind sents others last end rest left how why l fair.1 full goes runs)
      on off

  -- neither is: both go on, or have their last reply
  module _ (before : ℕ) (h k : Recorded) (bytes : List ℕ) (s t : Sent) (sents others : List Sent) (last end : Recorded) (rest left : List ℕ) (how why : Ended)
      (like : AreAlike h k) (calm : AreUndisturbed (s ∷ sents) (t ∷ others) how why)
      (again : (m n : Recorded) (behind : List ℕ) → AreAlike m n → GoesOn (before + 1) m behind sents last rest how → GoesOn (before + 1) n behind others end left why
      → IsSame sents others last end rest left how why) where
    calm_turn : (m n : Recorded) (a b : List ℕ) → IsTurn RecordedDoes h bytes (is_last before) s m a → IsTurn RecordedDoes k bytes (is_last before) t n b
        → (s ≡ t) × AreAlike m n × (a ≡ b)
    calm_turn = both_turn before h k bytes s t like (first_calm s t sents others how why calm)

    by_end : GoesOn before h bytes (s ∷ sents) last rest how → GoesOn before k bytes (t ∷ others) end left why → IsSame (s ∷ sents) (t ∷ others) last end rest left how why
    by_end (inl (m, a, p, stays, goes)) (inl (n, b, q, remains, runs)) =
        let both = calm_turn m n a b p q in
        let more = again m n a both.1 goes (subst (λ l. GoesOn (before + 1) n l others end left why) (sym both.2) runs) in
        let front = both.0 in
        let behind = more.0 in
        ((λ i. front i ∷ behind i), more.1, more.2, more.3)
    by_end (inl (m, a, p, stays, goes)) (inr (nothing, shuts)) =
        absurd (open_or_closed before s t k bytes end left why calm.second_end (calm_turn m end a left p shuts.turn).0 stays shuts)
    by_end (inr (none, closes)) (inl (n, b, q, remains, runs)) =
        absurd (open_or_closed before t s h bytes last rest how calm.first_end (sym (calm_turn last n rest b closes.turn q).0) remains closes)
    by_end (inr (none, closes)) (inr (nothing, shuts)) =
        let both = calm_turn last end rest left closes.turn shuts.turn in
        let same = same_next bytes closes.turn.item shuts.turn.item rest left closes.turn.next shuts.turn.next in
        let front = both.0 in
        let behind : sents ≡ others = none ∙ sym nothing in (
          (λ i. front i ∷ behind i),
          uncounted_alike last end both.1,
          both.2,
          ended_how (is_last before) h bytes s last rest how calm.first_end closes ∙ ap (ended_by (is_last before)) same.0
              ∙ sym (ended_how (is_last before) k bytes t end left why calm.second_end shuts),
        )

  outcome_alike : (before : ℕ) (h k : Recorded) (bytes : List ℕ) (sents others : List Sent) (last end : Recorded) (rest left : List ℕ) (how why : Ended)
      → AreAlike h k → AreUndisturbed sents others how why → GoesOn before h bytes sents last rest how → GoesOn before k bytes others end left why
      → IsSame sents others last end rest left how why
  outcome_alike before h k bytes [] [] last end rest left how why like calm on off = stops_alike h k bytes last end rest left how why like calm.first_end calm.second_end on off
  outcome_alike before h k bytes [] (t ∷ others) last end rest left how why like calm on off =
      absurd (stop_or_turn before k bytes rest how t others end left why calm.first_end on.1 off)
  outcome_alike before h k bytes (s ∷ sents) [] last end rest left how why like calm on off =
      absurd (stop_or_turn before h bytes left why s sents last rest how calm.second_end off.1 on)
  outcome_alike before h k bytes (s ∷ sents) (t ∷ others) last end rest left how why like calm on off =
      by_end before h k bytes s t sents others last end rest left how why like calm
      (λ m n behind l goes runs. outcome_alike (before + 1) m n behind sents others last end rest left how why l (rest_calm s t sents others how why calm) goes runs)
      on off

  -- ---- the laws

  module _ (h k last end : Recorded) (told : List ℤ) (same : uncounted h ≡ uncounted k) (tells : h.server.moments ≡ Some told) where
    pub requests : (bytes other rest left : List ℕ) (sents others : List Sent) (how why : Ended) (items : List Item)
        → IsRun RecordedDoes h bytes sents last rest how → IsRun RecordedDoes k other others end left why → BeginWith bytes items → BeginWith other items
        → HaveSameReplies (take (length items) sents) (take (length items) others)
    requests bytes other rest left sents others how why items p q begin start = by_begin (begun h bytes sents last rest how p) (begun k other others end left why q)
      where
        by_begin : ((sents ≡ []) × (how ≡ ended.NoMemory)) ⊎ GoesOn 0 h bytes sents last rest how → ((others ≡ []) × (why ≡ ended.NoMemory)) ⊎ GoesOn 0 k other others end left why
            → HaveSameReplies (take (length items) sents) (take (length items) others)
        by_begin (inl none) off =
            subst (λ l. HaveSameReplies l (take (length items) others)) (sym (take_none (length items) sents none.0)) tt
        by_begin (inr on) (inl none) =
            subst (λ l. HaveSameReplies (take (length items) sents) l) (sym (take_none (length items) others none.0)) (none_agrees (take (length items) sents))
        by_begin (inr on) (inr off) = requests_alike 0 h k bytes other items sents others last end rest left how why (alike h k told same tells) begin start on off

    pub replies : (bytes rest left : List ℕ) (sents others : List Sent) (how why : Ended)
        → IsRun RecordedDoes h bytes sents last rest how → IsRun RecordedDoes k bytes others end left why → HaveSameReplies sents others
    replies bytes rest left sents others how why p q = by_begin (begun h bytes sents last rest how p) (begun k bytes others end left why q)
      where
        by_begin : ((sents ≡ []) × (how ≡ ended.NoMemory)) ⊎ GoesOn 0 h bytes sents last rest how → ((others ≡ []) × (why ≡ ended.NoMemory)) ⊎ GoesOn 0 k bytes others end left why
            → HaveSameReplies sents others
        by_begin (inl none) off = subst (λ l. HaveSameReplies l others) (sym none.0) tt
        by_begin (inr on) (inl none) = subst (λ l. HaveSameReplies sents l) (sym none.0) (none_agrees sents)
        by_begin (inr on) (inr off) = replies_alike 0 h k bytes sents others last end rest left how why (alike h k told same tells) on off

    pub fronts : (bytes rest left : List ℕ) (sents others : List Sent) (how why : Ended)
        → IsRun RecordedDoes h bytes sents last rest how → IsRun RecordedDoes k bytes others end left why → some_may_differ sents others ≡ false → is_broken_off why ≡ false
        → IsFront sents others
    fronts bytes rest left sents others how why p q alike_all full = by_begin (begun h bytes sents last rest how p) (begun k bytes others end left why q)
      where
        by_begin : ((sents ≡ []) × (how ≡ ended.NoMemory)) ⊎ GoesOn 0 h bytes sents last rest how → ((others ≡ []) × (why ≡ ended.NoMemory)) ⊎ GoesOn 0 k bytes others end left why
            → IsFront sents others
        by_begin (inl none) off = subst (λ l. IsFront l others) (sym none.0) (others, refl)
        by_begin (inr on) (inl none) = absurd (not_broken why ended.NoMemory full none.1 refl)
        by_begin (inr on) (inr off) = fronts_of 0 h k bytes sents others last end rest left how why (alike h k told same tells) alike_all full on off

    pub outcome : (bytes rest left : List ℕ) (sents others : List Sent) (how why : Ended)
        → IsRun RecordedDoes h bytes sents last rest how → IsRun RecordedDoes k bytes others end left why → AreUndisturbed sents others how why
        → (sents ≡ others) × (uncounted last ≡ uncounted end) × (rest ≡ left) × (how ≡ why)
    outcome bytes rest left sents others how why p q calm = by_begin (begun h bytes sents last rest how p) (begun k bytes others end left why q)
      where
        by_begin : ((sents ≡ []) × (how ≡ ended.NoMemory)) ⊎ GoesOn 0 h bytes sents last rest how → ((others ≡ []) × (why ≡ ended.NoMemory)) ⊎ GoesOn 0 k bytes others end left why
            → (sents ≡ others) × (uncounted last ≡ uncounted end) × (rest ≡ left) × (how ≡ why)
        by_begin (inl none) off = absurd (not_broken how ended.NoMemory calm.first_end none.1 refl)
        by_begin (inr on) (inl none) = absurd (not_broken why ended.NoMemory calm.second_end none.1 refl)
        by_begin (inr on) (inr off) = outcome_alike 0 h k bytes sents others last end rest left how why (alike h k told same tells) calm on off

  -- ---- what goes out

  out_is : (how : Ended) (held : List ℕ) (held' : Option (List ℕ)) (sents : List Sent) → is_broken_off how ≡ false → GoesOut how (Some held) held' sents
      → held' ≡ Some (held ++ printed sents)
  out_is ended.WriteFault held held' sents whole out = absurd (false≢true (sym whole))
  out_is how held None sents whole out = absurd out
  out_is how held (Some now) sents whole out = ap (λ (l : List ℕ). Some l) out

  pub written : (s t s' t' : Server) (past : List State) (told : List ℤ) (bytes held : List ℕ) (a b rest left : Option (List ℕ)) (how why : Ended)
      → uncounted (recorded s past) ≡ uncounted (recorded t past) → s.moments ≡ Some told
      → (p : IsRecorded s past bytes (Some held) a s' rest how) (q : IsRecorded t past bytes (Some held) b t' left why)
      → AreUndisturbed p.session.sents q.session.sents how why
      → (a ≡ b) × (uncounted (recorded s' p.after) ≡ uncounted (recorded t' q.after)) × (rest ≡ left) × (how ≡ why)
  written s t s' t' past told bytes held a b rest left how why same tells p q calm =
      let r = outcome (recorded s past) (recorded t past) (recorded s' p.after) (recorded t' q.after) told same tells bytes p.session.rest q.session.rest
      p.session.sents q.session.sents how why p.session.run q.session.run calm in (
        out_is how held a p.session.sents calm.first_end p.session.out ∙ ap (λ (l : List Sent). Some (held ++ printed l)) r.0
            ∙ sym (out_is why held b q.session.sents calm.second_end q.session.out),
        r.1,
        p.session.left ∙ ap (λ (l : List ℕ). Some l) r.2 ∙ sym q.session.left,
        r.3,
      )
