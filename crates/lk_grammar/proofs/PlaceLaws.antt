-- The place of a text by any step machine that follows its texts, and the places of two grammars with the same texts.
use Rattle.std.proofs.Common.{◌≡◌, ℕ, zero, suc, ◌≤◌, Bool, true, false, List, [], ◌∷◌, ◌++◌, length, take, Option, Some, None, option_map, if◌then◌else◌, refl, ap, ◌∙◌, arith}
use Rattle.std.specs.Option.{unwrap_or}
use Rattle.lk_grammar.specs.Places.{IsViable, IsPlace, IsRefusedAt, Judges, place_after, place_from, last_after, last_from, judge_after, judge_from, Follows, FollowsAmong}

module _ {S : Type 0} {IsOne : S → Type 0} {step : S → ℕ → Option S} {Texts : S → List ℕ → Type 0} (follows : FollowsAmong IsOne step Texts) where
  -- no byte may come: the place is 0
  stopped : (state : S) (byte : ℕ) (text : List ℕ) → IsOne state → step state byte ≡ None → IsViable (Texts state) [] → IsPlace (Texts state) (byte ∷ text) zero
  stopped state byte text is stops viable = record {
    within = omega arith;
    begins = viable;
    longest = elim [
      | zero ↦ λ _ _. omega arith
      | suc m ↦ λ _ more. absurd (follows.dead state byte (take m text ++ more.0) is stops more.1)
    ];
  }

  -- the byte may come: the place is one more than that of the rest from the next state
  gone_on : (state next : S) (byte : ℕ) (text : List ℕ) (n : ℕ) → IsOne state → step state byte ≡ Some next → IsPlace (Texts next) text n → IsPlace (Texts state) (byte ∷ text) (suc n)
  gone_on state next byte text n is goes place = record {
    within = omega (arith, place.within);
    begins = (place.begins.0, follows.back state next byte (take n text ++ place.begins.0) is goes place.begins.1);
    longest = elim [
      | zero ↦ λ _ _. omega arith
      | suc m ↦ λ fits more.
          let shorter : m ≤ n = place.longest m (omega arith) (more.0, follows.onward state next byte (take m text ++ more.0) is goes more.1) in
          omega arith
    ];
  }

  -- a machine that follows its texts finds their places, from a state that has some text
  pub place_among : (text : List ℕ) (state : S) → IsOne state → IsViable (Texts state) [] → IsPlace (Texts state) text (place_from step state text)
  place_among [] state is viable = record { within = omega arith; begins = viable; longest = λ m fits more. fits }
  place_among (byte ∷ text) state is viable =
      elim (step state byte) as (λ o. step state byte ≡ o → IsPlace (Texts state) (byte ∷ text) (place_after o (λ next. place_from step next text))) [
        | None ↦ λ stops. stopped state byte text is stops viable
        | Some next ↦ λ goes. gone_on state next byte text (place_from step next text) is goes (place_among text next (follows.stays state next byte is goes) (follows.alive state next byte is goes))
      ] refl

  -- a byte that the machine goes on over begins a text of the state
  one_more : (state next : S) (byte : ℕ) → IsOne state → step state byte ≡ Some next → IsViable (Texts state) (byte ∷ [])
  one_more state next byte is goes =
      let viable = follows.alive state next byte is goes in
      (viable.0, follows.back state next byte viable.0 is goes viable.1)

  -- a byte that the machine goes on over in its last state may follow the front that it has gone over
  pub goes_further : (text : List ℕ) (state next : S) (byte : ℕ) → IsOne state → step (last_from step state text) byte ≡ Some next → IsViable (Texts state) (take (place_from step state text) text ++ byte ∷ [])
  goes_further [] state next byte is goes = one_more state next byte is goes
  goes_further (c ∷ text) state next byte is goes =
      elim (step state c) as (λ o. step state c ≡ o → step (last_after state o (λ n. last_from step n text)) byte ≡ Some next → IsViable (Texts state) (take (place_after o (λ n. place_from step n text)) (c ∷ text) ++ byte ∷ [])) [
        | None ↦ λ _ goes. one_more state next byte is goes
        | Some n ↦ λ on goes.
            let more = goes_further text n next byte (follows.stays state n c is on) goes in
            (more.0, follows.back state n c ((take (place_from step n text) text ++ byte ∷ []) ++ more.0) is on more.1)
      ] refl goes

  -- and no other
  pub goes_no_further : (text : List ℕ) (state : S) (byte : ℕ) → IsOne state → step (last_from step state text) byte ≡ None → IsViable (Texts state) (take (place_from step state text) text ++ byte ∷ []) → ⊥
  goes_no_further [] state byte is stops more = follows.dead state byte more.0 is stops more.1
  goes_no_further (c ∷ text) state byte is stops more =
      elim (step state c) as (λ o. step state c ≡ o → step (last_after state o (λ n. last_from step n text)) byte ≡ None → IsViable (Texts state) (take (place_after o (λ n. place_from step n text)) (c ∷ text) ++ byte ∷ []) → ⊥) [
        | None ↦ λ _ stops more. follows.dead state byte more.0 is stops more.1
        | Some n ↦ λ on stops more. goes_no_further text n byte (follows.stays state n c is on) stops
            (more.0, follows.onward state n c ((take (place_from step n text) text ++ byte ∷ []) ++ more.0) is on more.1)
      ] refl stops more

  judged_on : (state next : S) (byte : ℕ) (text : List ℕ) (o : Option ℕ) → IsOne state → step state byte ≡ Some next → Judges (Texts next) text o → Judges (Texts state) (byte ∷ text) (option_map suc o)
  judged_on state next byte text None is goes judged = follows.back state next byte text is goes judged
  judged_on state next byte text (Some n) is goes judged = record {
    refused = λ of. judged.refused (follows.onward state next byte text is goes of);
    at_place = gone_on state next byte text n is goes judged.at_place;
  }

  module _ {may_end : S → Bool} (ends : (state : S) → IsOne state → may_end state ≡ true → Texts state []) (ended : (state : S) → IsOne state → may_end state ≡ false → Texts state [] → ⊥) where
    -- and tells which texts are of the grammar, where it knows the states that may end
    pub judged_among : (text : List ℕ) (state : S) → IsOne state → IsViable (Texts state) [] → Judges (Texts state) text (judge_from step may_end state text)
    judged_among [] state is viable =
        elim (may_end state) as (λ b. may_end state ≡ b → Judges (Texts state) [] (if b then None else Some zero)) [
          | true ↦ λ h. ends state is h
          | false ↦ λ h. record { refused = ended state is h; at_place = place_among [] state is viable }
        ] refl
    judged_among (byte ∷ text) state is viable =
        elim (step state byte) as (λ o. step state byte ≡ o → Judges (Texts state) (byte ∷ text) (judge_after o (λ next. judge_from step may_end next text))) [
          | None ↦ λ stops. record { refused = follows.dead state byte text is stops; at_place = stopped state byte text is stops viable }
          | Some next ↦ λ goes. judged_on state next byte text (judge_from step may_end next text) is goes (judged_among text next (follows.stays state next byte is goes) (follows.alive state next byte is goes))
        ] refl

module _ {S : Type 0} {step : S → ℕ → Option S} {Texts : S → List ℕ → Type 0} (follows : Follows step Texts) where
  among : FollowsAmong (λ (_ : S). Unit {0}) step Texts
  among = record {
    stays = λ state next byte is goes. tt;
    onward = λ state next byte text is goes of. follows.onward state next byte text goes of;
    back = λ state next byte text is goes of. follows.back state next byte text goes of;
    dead = λ state byte text is stops of. follows.dead state byte text stops of;
    alive = λ state next byte is goes. follows.alive state next byte goes;
  }

  -- the same where the machine follows the texts of every state
  pub place : (text : List ℕ) (state : S) → IsViable (Texts state) [] → IsPlace (Texts state) text (place_from step state text)
  place text state viable = place_among among text state tt viable

  pub judged : {may_end : S → Bool} → ((state : S) → may_end state ≡ true → Texts state []) → ((state : S) → may_end state ≡ false → Texts state [] → ⊥) → (text : List ℕ) (state : S) → IsViable (Texts state) [] → Judges (Texts state) text (judge_from step may_end state text)
  judged ends ended text state viable = judged_among among (λ s is h. ends s h) (λ s is h. ended s h) text state tt viable

one_more_than : (o : Option ℕ) (count : ℕ) → unwrap_or (option_map suc o) (suc count) ≡ suc (unwrap_or o count)
one_more_than None count = refl
one_more_than (Some n) count = refl

-- what a machine goes over of a text is all of it, or up to the place
pub place_judged : {S : Type 0} (step : S → ℕ → Option S) (may_end : S → Bool) (text : List ℕ) (state : S) → unwrap_or (judge_from step may_end state text) (length text) ≡ place_from step state text
place_judged step may_end [] state =
    elim (may_end state) as (λ b. unwrap_or (if b then None else Some zero) zero ≡ zero) [ true ↦ refl | false ↦ refl ]
place_judged step may_end (byte ∷ text) state =
    elim (step state byte) as (λ o. unwrap_or (judge_after o (λ next. judge_from step may_end next text)) (suc (length text)) ≡ place_after o (λ next. place_from step next text)) [
      | None ↦ refl
      | Some next ↦ one_more_than (judge_from step may_end next text) (length text) ∙ ap suc (place_judged step may_end text next)
    ]

module _ {G H : List ℕ → Type 0} (there : (text : List ℕ) → G text → H text) (back : (text : List ℕ) → H text → G text) where
  -- two grammars with the same texts have the same places
  pub same_place : (text : List ℕ) (n : ℕ) → IsPlace G text n → IsPlace H text n
  same_place text n place = record {
    within = place.within;
    begins = (place.begins.0, there (take n text ++ place.begins.0) place.begins.1);
    longest = λ m fits more. place.longest m fits (more.0, back (take m text ++ more.0) more.1);
  }

  pub same_refusal : (text : List ℕ) (n : ℕ) → IsRefusedAt G text n → IsRefusedAt H text n
  same_refusal text n refused = record { refused = λ of. refused.refused (back text of); at_place = same_place text n refused.at_place }

  -- and the same judgements
  pub same_judgement : (text : List ℕ) (o : Option ℕ) → Judges G text o → Judges H text o
  same_judgement text None judged = there text judged
  same_judgement text (Some n) judged = same_refusal text n judged
