-- The machine of a form follows its texts, so what it says of a text is the judgement of the form.
use Rattle.std.proofs.Common.{◌≡◌, ◌⊎◌, inl, inr, ℕ, zero, suc, Bool, true, false, ◌&&◌, nat_le, List, [], ◌∷◌, ◌++◌, length, take, Option, Some, None, option_map, if◌then◌else◌, refl, sym, ap, subst, ◌∙◌}
use Rattle.std.specs.Option.{is_some, unwrap_or}
use Rattle.std.specs.List.{list_any, AllByRecursion}
use Rattle.std.proofs.lemmas.Bool.{false≢true}
use Rattle.std.proofs.lemmas.List.{append-nil}
use Rattle.lk_grammar.specs.Places.{IsViable, Judges, FollowsAmong, judge_from, place_from, last_from}
use Rattle.lk_grammar.specs.Forms.{Form, nothing, empty, byte, seq, either, many, nested, IsRuleText, IsTextAt, rule_at, may_end, is_live, are_sound}
use Rattle.lk_grammar.specs.Steps.{Stack, IsStackText, IsStateText, is_same_stack, with_stack, ways_in, open_rule, ways, stack_ways, state_ways, if_any, step, may_stack_end, may_state_end, start, judge_of}
use Rattle.lk_grammar.specs.Reaching.{Tells}
use Rattle.lk_grammar.proofs.FormLaws.{both, and_both, one_of, or_one, or_other, nil_parts, ends, ended, live, rule_lives, rule_owes}
use Rattle.lk_grammar.proofs.PlaceLaws.{judged_among, same_judgement, goes_further, goes_no_further, place_judged}
use Rattle.lk_grammar.proofs.StepLaws.{IsBegun, in_both, in_first, of_either, keeps, onward, back}

-- every form of the stack has some text
abbrev IsLiveStack : ℕ → Stack → Type 0
IsLiveStack count stack = AllByRecursion (λ part. is_live part.0 count part.1 ≡ true) stack

abbrev pub IsLiveState : ℕ → List Stack → Type 0
IsLiveState count stacks = AllByRecursion (IsLiveStack count) stacks

live_behind : (count : ℕ) (found : List Stack) (stack : Stack) → IsLiveState count found → IsLiveStack count stack → IsLiveState count (found ++ stack ∷ [])
live_behind count [] stack h s = (s, tt)
live_behind count (t ∷ ts) stack h s = (h.0, live_behind count ts stack h.1 s)

live_with : (count : ℕ) (stack : Stack) (found : List Stack) → IsLiveStack count stack → IsLiveState count found → IsLiveState count (with_stack stack found)
live_with count stack found s h =
    elim (list_any (is_same_stack stack) found) as (λ b. IsLiveState count (if b then found else found ++ stack ∷ [])) [
      | true ↦ h
      | false ↦ live_behind count found stack h s
    ]

live_in_both : (count : ℕ) (b : Bool) (one other : List Stack) → (b ≡ true → IsLiveState count one) → IsLiveState count other → IsLiveState count (if b then one else other)
live_in_both count true one other p q = p refl
live_in_both count false one other p q = q

module _ (b count depth : ℕ) (opened : ℕ → Stack → List Stack → List Stack)
    (opened_lives : (rule : ℕ) (rest : Stack) (found : List Stack) → IsLiveStack count rest → IsLiveState count found → IsLiveState count (opened rule rest found)) where
  lives : (form : Form) (rest : Stack) (found : List Stack) → IsLiveStack count rest → IsLiveState count found → IsLiveState count (ways_in opened count depth b form rest found)
  lives nothing rest found r h = h
  lives empty rest found r h = h
  lives (byte low high) rest found r h = live_in_both count (nat_le low b && nat_le b high) _ found (λ _. live_with count rest found r h) h
  lives (seq f g) rest found r h =
      let p = live_in_both count (is_live depth count g) _ found (λ l. lives f ((depth, g) ∷ rest) found (l, r) h) h in
      live_in_both count (may_end f) _ _ (λ _. lives g rest _ r p) p
  lives (either f g) rest found r h = lives g rest _ r (lives f rest found r h)
  lives (many f) rest found r h = lives f ((depth, many f) ∷ rest) found (refl, r) h
  lives (nested rule) rest found r h = opened_lives rule rest found r h

some_mapped : {A B : Type 0} (f : A → B) (o : Option A) → is_some (option_map f o) ≡ is_some o
some_mapped f None = refl
some_mapped f (Some x) = refl

started : (b : Bool) (first : List Stack) → b ≡ true → (if b then first else []) ≡ first
started true first h = refl
started false first h = absurd (false≢true h)

not_started : (b : Bool) (first : List Stack) → b ≡ false → (if b then first else []) ≡ []
not_started true first h = absurd (false≢true (sym h))
not_started false first h = refl

module _ (rules : List Form) (sound : are_sound rules ≡ true) where
  abbrev count : ℕ
  count = length rules

  module _ (b : ℕ) where
    opened_lives : (depth rule : ℕ) (rest : Stack) (found : List Stack) → IsLiveStack count rest → IsLiveState count found → IsLiveState count (open_rule rules b depth rule rest found)
    unfolding open_rule
    opened_lives zero rule rest found r h = h
    opened_lives (suc depth) rule rest found r h = lives b count depth _ (opened_lives depth) (rule_at rules rule) rest found r h

    -- opening a rule finds exactly what may follow the byte in it
    record Opens (depth : ℕ) : Type 0 where
      keeps : (rule : ℕ) (rest : Stack) (found : List Stack) (text : List ℕ) → IsStateText rules found text → IsStateText rules (open_rule rules b depth rule rest found) text
      onward : (rule : ℕ) (rest : Stack) (found : List Stack) (text : List ℕ) → IsBegun rules (IsRuleText rules depth rule) b rest text → IsStateText rules (open_rule rules b depth rule rest found) text
      back : (rule : ℕ) (rest : Stack) (found : List Stack) (text : List ℕ) → IsStateText rules (open_rule rules b depth rule rest found) text → IsStateText rules found text ⊎ IsBegun rules (IsRuleText rules depth rule) b rest text

    opens : (depth : ℕ) → Opens depth
    unfolding open_rule IsRuleText
    opens zero = record {
      keeps = λ rule rest found text h. h;
      onward = λ rule rest found text h. absurd h.first;
      back = λ rule rest found text h. inl h;
    }
    opens (suc depth) =
        let o = opens depth in
        record {
          keeps = λ rule rest found text h. keeps rules sound b depth _ o.keeps o.onward o.back (rule_at rules rule) rest found text h;
          onward = λ rule rest found text h. onward rules sound b depth _ o.keeps o.onward o.back (rule_at rules rule) rest found text h;
          back = λ rule rest found text h. back rules sound b depth _ o.keeps o.onward o.back (rule_at rules rule) rest found text h;
        }

    -- so does a form
    ways_keeps : (depth : ℕ) (form : Form) (rest : Stack) (found : List Stack) (text : List ℕ) → IsStateText rules found text → IsStateText rules (ways rules b depth form rest found) text
    ways_keeps depth = let o = opens depth in keeps rules sound b depth _ o.keeps o.onward o.back

    ways_onward : (depth : ℕ) (form : Form) (rest : Stack) (found : List Stack) (text : List ℕ) → IsBegun rules (IsTextAt rules depth form) b rest text → IsStateText rules (ways rules b depth form rest found) text
    ways_onward depth = let o = opens depth in onward rules sound b depth _ o.keeps o.onward o.back

    ways_back : (depth : ℕ) (form : Form) (rest : Stack) (found : List Stack) (text : List ℕ) → IsStateText rules (ways rules b depth form rest found) text → IsStateText rules found text ⊎ IsBegun rules (IsTextAt rules depth form) b rest text
    ways_back depth = let o = opens depth in back rules sound b depth _ o.keeps o.onward o.back

    -- so does a stack
    stack_keeps : (stack : Stack) (found : List Stack) (text : List ℕ) → IsStateText rules found text → IsStateText rules (stack_ways rules b stack found) text
    stack_keeps [] found text h = h
    stack_keeps (part ∷ rest) found text h =
        let p = ways_keeps part.0 part.1 rest found text h in
        in_both rules (may_end part.1) _ _ text (stack_keeps rest _ text p) p

    stack_onward_at : (part : ℕ × Form) (rest : Stack) (found : List Stack) (x y text : List ℕ) → b ∷ text ≡ x ++ y → IsTextAt rules part.0 part.1 x → IsStackText rules rest y
        → ((found : List Stack) → IsStackText rules rest (b ∷ text) → IsStateText rules (stack_ways rules b rest found) text)
        → IsStateText rules (stack_ways rules b (part ∷ rest) found) text
    stack_onward_at part rest found [] y text e h r in_rest =
        in_first rules (may_end part.1) _ _ text (ended _ (rule_owes rules sound part.0) part.1 h) (in_rest _ (subst (IsStackText rules rest) (sym e) r))
    stack_onward_at part rest found (c ∷ x) y text e h r in_rest =
        let same : c ≡ b = cc in
        let texts : text ≡ x ++ y = cc in
        let p = ways_onward part.0 part.1 rest found text (record { front = x; back = y; joined = texts; first = subst (λ z. IsTextAt rules part.0 part.1 (z ∷ x)) same h; second = r }) in
        in_both rules (may_end part.1) _ _ text (stack_keeps rest _ text p) p

    stack_onward : (stack : Stack) (found : List Stack) (text : List ℕ) → IsStackText rules stack (b ∷ text) → IsStateText rules (stack_ways rules b stack found) text
    stack_onward [] found text h = absurd (let e : b ∷ text ≡ [] = h in let f : ⊥ = cc in f)
    stack_onward (part ∷ rest) found text h = stack_onward_at part rest found h.front h.back text h.joined h.first h.second (λ f r. stack_onward rest f text r)

    stack_back : (stack : Stack) (found : List Stack) (text : List ℕ) → IsStateText rules (stack_ways rules b stack found) text → IsStateText rules found text ⊎ IsStackText rules stack (b ∷ text)
    stack_back [] found text h = inl h
    stack_back (part ∷ rest) found text h =
        let first = λ (p : IsStateText rules (ways rules b part.0 part.1 rest found) text).
        elim (ways_back part.0 part.1 rest found text p) as (λ _. IsStateText rules found text ⊎ IsStackText rules (part ∷ rest) (b ∷ text)) [
          | inl a ↦ inl a
          | inr w ↦ inr (record { front = b ∷ w.front; back = w.back; joined = ap (λ z. b ∷ z) w.joined; first = w.first; second = w.second })
        ] in
        elim (of_either rules (may_end part.1) _ _ text h) [
          | inl p ↦ elim (stack_back rest _ text p.1) [
            | inl a ↦ first a
            | inr r ↦ inr (record { front = []; back = b ∷ text; joined = refl; first = ends _ part.1 p.0; second = r })
          ]
          | inr p ↦ first p
        ]

    -- so do the stacks of a state
    state_keeps : (stacks found : List Stack) (text : List ℕ) → IsStateText rules found text → IsStateText rules (state_ways rules b stacks found) text
    state_keeps [] found text h = h
    state_keeps (s ∷ ss) found text h = state_keeps ss _ text (stack_keeps s found text h)

    state_onward : (stacks found : List Stack) (text : List ℕ) → IsStateText rules stacks (b ∷ text) → IsStateText rules (state_ways rules b stacks found) text
    state_onward [] found text h = absurd h
    state_onward (s ∷ ss) found text h =
        elim h [ inl p ↦ state_keeps ss _ text (stack_onward s found text p) | inr q ↦ state_onward ss _ text q ]

    state_back : (stacks found : List Stack) (text : List ℕ) → IsStateText rules (state_ways rules b stacks found) text → IsStateText rules found text ⊎ IsStateText rules stacks (b ∷ text)
    state_back [] found text h = inl h
    state_back (s ∷ ss) found text h =
        elim (state_back ss _ text h) [
          | inl p ↦ elim (stack_back s found text p) [ inl a ↦ inl a | inr r ↦ inr (inl r) ]
          | inr q ↦ inr (inr q)
        ]

    -- and what is found is live
    stack_lives : (stack : Stack) (found : List Stack) → IsLiveStack count stack → IsLiveState count found → IsLiveState count (stack_ways rules b stack found)
    stack_lives [] found l h = h
    stack_lives (part ∷ rest) found l h =
        let p = lives b count part.0 _ (opened_lives part.0) part.1 rest found l.1 h in
        live_in_both count (may_end part.1) _ _ (λ _. stack_lives rest _ l.1 p) p

    state_lives : (stacks found : List Stack) → IsLiveState count stacks → IsLiveState count found → IsLiveState count (state_ways rules b stacks found)
    state_lives [] found l h = h
    state_lives (s ∷ ss) found l h = state_lives ss _ l.1 (stack_lives s found l.0 h)

  -- live stacks have some text
  stack_viable : (stack : Stack) → IsLiveStack count stack → IsViable (IsStackText rules stack) []
  stack_viable [] l = ([], refl)
  stack_viable (part ∷ rest) l =
      let t = live _ part.0 count (rule_lives rules sound part.0) part.1 l.0 in
      let u = stack_viable rest l.1 in
      (t.0 ++ u.0, record { front = t.0; back = u.0; joined = refl; first = t.1; second = u.1 })

  -- the empty text is of the stacks that may end, and of no others
  stack_ends : (stack : Stack) → may_stack_end stack ≡ true → IsStackText rules stack []
  stack_ends [] h = refl
  stack_ends (part ∷ rest) h =
      let p = both (may_end part.1) (may_stack_end rest) h in
      record { front = []; back = []; joined = refl; first = ends _ part.1 p.0; second = stack_ends rest p.1 }

  stack_ended : (stack : Stack) → IsStackText rules stack [] → may_stack_end stack ≡ true
  stack_ended [] h = refl
  stack_ended (part ∷ rest) h =
      let p = nil_parts h.front h.back h.joined in
      and_both (may_end part.1) (may_stack_end rest) (ended _ (rule_owes rules sound part.0) part.1 (subst (IsTextAt rules part.0 part.1) p.0 h.first)) (stack_ended rest (subst (IsStackText rules rest) p.1 h.second))

  state_ends : (stacks : List Stack) → may_state_end stacks ≡ true → IsStateText rules stacks []
  state_ends [] h = absurd (false≢true h)
  state_ends (s ∷ ss) h =
      elim (one_of (may_stack_end s) (may_state_end ss) h) [ inl p ↦ inl (stack_ends s p) | inr q ↦ inr (state_ends ss q) ]

  state_ended : (stacks : List Stack) → IsStateText rules stacks [] → may_state_end stacks ≡ true
  state_ended [] h = absurd h
  state_ended (s ∷ ss) h =
      elim h [
        | inl p ↦ or_one (may_stack_end s) (may_state_end ss) (stack_ended s p)
        | inr q ↦ or_other (may_stack_end s) (may_state_end ss) (state_ended ss q)
      ]

  step_on : (found next : List Stack) → if_any found ≡ Some next → found ≡ next
  step_on [] next e = absurd (let f : ⊥ = cc in f)
  step_on (s ∷ ss) next e = cc

  step_any : (found next : List Stack) → if_any found ≡ Some next → IsLiveState count next → IsViable (IsStateText rules next) []
  step_any [] next e l = absurd (let f : ⊥ = cc in f)
  step_any (s ∷ ss) next e l =
      let same : s ∷ ss ≡ next = cc in
      let t = stack_viable s (subst (IsLiveState count) (sym same) l).0 in
      (t.0, subst (λ n. IsStateText rules n t.0) same (inl t.1))

  step_none : (found : List Stack) → if_any found ≡ None → found ≡ []
  step_none [] e = refl
  step_none (s ∷ ss) e = absurd (let f : ⊥ = cc in f)

  -- the machine follows the texts of its states
  machine_follows : FollowsAmong (IsLiveState count) (step rules) (IsStateText rules)
  machine_follows = record {
    stays = λ state next b l e. subst (IsLiveState count) (step_on _ next e) (state_lives b state [] l tt);
    onward = λ state next b text l e h. subst (λ n. IsStateText rules n text) (step_on _ next e) (state_onward b state [] text h);
    back = λ state next b text l e h. elim (state_back b state [] text (subst (λ n. IsStateText rules n text) (sym (step_on _ next e)) h)) [ inl a ↦ absurd a | inr r ↦ r ];
    dead = λ state b text l e h. subst (λ n. IsStateText rules n text) (step_none _ e) (state_onward b state [] text h);
    alive = λ state next b l e. step_any _ next e (subst (IsLiveState count) (step_on _ next e) (state_lives b state [] l tt));
  }

  alone : (depth : ℕ) (form : Form) (text : List ℕ) → IsStateText rules (((depth, form) ∷ []) ∷ []) text → IsTextAt rules depth form text
  alone depth form text h =
      elim h [
        | inl p ↦ subst (IsTextAt rules depth form) (sym (p.joined ∙ ap (λ z. p.front ++ z) p.second ∙ append-nil p.front)) p.first
        | inr q ↦ absurd q
      ]

  as_state : (depth : ℕ) (form : Form) (text : List ℕ) → IsTextAt rules depth form text → IsStateText rules (((depth, form) ∷ []) ∷ []) text
  as_state depth form text h = inl (record { front = text; back = []; joined = sym (append-nil text); first = h; second = refl })

  -- what the machine says of a text is the judgement of the form
  pub judged : (depth : ℕ) (form : Form) (text : List ℕ) → is_live depth count form ≡ true → Judges (IsTextAt rules depth form) text (judge_of rules depth form text)
  judged depth form text l =
      let first : List Stack = ((depth, form) ∷ []) ∷ [] in
      let t = live _ depth count (rule_lives rules sound depth) form l in
      let of_state = judged_among machine_follows (λ s _ e. state_ends s e) (λ s _ e h. false≢true (sym e ∙ state_ended s h)) text first ((l, tt), tt) (t.0, as_state depth form t.0 t.1) in
      let of_form = same_judgement (alone depth form) (as_state depth form) text _ of_state in
      subst (λ s. Judges (IsTextAt rules depth form) text (judge_from (step rules) may_state_end s text)) (sym (started (is_live depth count form) first l)) of_form

  -- the start of the machine of a form that has a text
  start_lives : (depth : ℕ) (form : Form) → is_live depth count form ≡ true → start rules depth form ≡ ((depth, form) ∷ []) ∷ []
  start_lives depth form l = started (is_live depth count form) (((depth, form) ∷ []) ∷ []) l

  module _ (depth : ℕ) (form : Form) (text : List ℕ) (b : ℕ) (l : is_live depth count form ≡ true) where
    abbrev first : List Stack
    first = ((depth, form) ∷ []) ∷ []

    -- a byte over which the machine goes on where the text stops or ends may follow there
    pub goes_on : (next : List Stack) → step rules (last_from (step rules) (start rules depth form) text) b ≡ Some next → IsViable (IsTextAt rules depth form) (take (unwrap_or (judge_of rules depth form text) (length text)) text ++ b ∷ [])
    goes_on next goes =
        let more = goes_further machine_follows text first next b ((l, tt), tt) (subst (λ s. step rules (last_from (step rules) s text) b ≡ Some next) (start_lives depth form l) goes) in
        let front = take (place_from (step rules) first text) text ++ b ∷ [] in
        let viable : IsViable (IsTextAt rules depth form) front = (more.0, alone depth form (front ++ more.0) more.1) in
        subst (λ n. IsViable (IsTextAt rules depth form) (take n text ++ b ∷ [])) (sym (place_judged (step rules) may_state_end text first) ∙ ap (λ s. unwrap_or (judge_from (step rules) may_state_end s text) (length text)) (sym (start_lives depth form l))) viable

    -- and no other may
    pub goes_nowhere : step rules (last_from (step rules) (start rules depth form) text) b ≡ None → IsViable (IsTextAt rules depth form) (take (unwrap_or (judge_of rules depth form text) (length text)) text ++ b ∷ []) → ⊥
    goes_nowhere stops viable =
        let n = ap (λ s. unwrap_or (judge_from (step rules) may_state_end s text) (length text)) (start_lives depth form l) ∙ place_judged (step rules) may_state_end text first in
        let more = subst (λ n. IsViable (IsTextAt rules depth form) (take n text ++ b ∷ [])) n viable in
        goes_no_further machine_follows text first b ((l, tt), tt) (subst (λ s. step rules (last_from (step rules) s text) b ≡ None) (start_lives depth form l) stops)
        (more.0, as_state depth form _ more.1)

    -- so what the machine goes on over tells what may follow
    tells_so : (next : Option (List Stack)) → next ≡ step rules (last_from (step rules) (start rules depth form) text) b → Tells (IsViable (IsTextAt rules depth form) (take (unwrap_or (judge_of rules depth form text) (length text)) text ++ b ∷ [])) (is_some next)
    tells_so None e = (λ h. absurd (false≢true h), λ viable. absurd (goes_nowhere (sym e) viable))
    tells_so (Some next) e = (λ _. goes_on next (sym e), λ _. refl)

    pub tells : {A : Type 0} (items : A → List Stack) (next : Option A) (answer : Bool) (place : Option ℕ) → answer ≡ is_some next → place ≡ judge_of rules depth form text → option_map items next ≡ step rules (last_from (step rules) (start rules depth form) text) b → Tells (IsViable (IsTextAt rules depth form) (take (unwrap_or place (length text)) text ++ b ∷ [])) answer
    tells items next answer place p q e =
        let so = tells_so (option_map items next) e in
        let same : is_some (option_map items next) ≡ answer = some_mapped items next ∙ sym p in
        let by_answer = subst (Tells (IsViable (IsTextAt rules depth form) (take (unwrap_or (judge_of rules depth form text) (length text)) text ++ b ∷ []))) same so in
        subst (λ o. Tells (IsViable (IsTextAt rules depth form) (take (unwrap_or o (length text)) text ++ b ∷ [])) answer) (sym q) by_answer

-- of a form that has no text the machine says 0
judged_none : (rules : List Form) (text : List ℕ) → judge_from (step rules) may_state_end [] text ≡ Some zero
judged_none rules [] = refl
judged_none rules (b ∷ text) = refl

pub judged_dead : (rules : List Form) (depth : ℕ) (form : Form) (text : List ℕ) → is_live depth (length rules) form ≡ false → judge_of rules depth form text ≡ Some zero
judged_dead rules depth form text d =
    subst (λ s. judge_from (step rules) may_state_end s text ≡ Some zero) (sym (not_started (is_live depth (length rules) form) (((depth, form) ∷ []) ∷ []) d)) (judged_none rules text)
