-- Forms: which have the empty text, which have a text at all, and which are written alike.
use Rattle.std.proofs.Common.{◌≡◌, ◌⊎◌, inl, inr, ℕ, zero, suc, ◌<◌, ◌≤◌, Bool, true, false, not, ◌&&◌, ◌||◌, nat_eq, nat_lt, List, [], ◌∷◌, ◌++◌, length, refl, sym, ap, subst, ◌∙◌, append-nil, arith}
use Rattle.std.proofs.lemmas.Bool.{false≢true, ltb-true, ltb-false, leb-true, le-leb}
use Rattle.std.proofs.lemmas.Bool.Decides.{Decides-ltb, Decides-eqb}
use Rattle.std.proofs.Math.ListN.{get_or-eq_default}
use Rattle.lk_grammar.specs.Places.{IsViable}
use Rattle.lk_grammar.specs.Forms.{Form, nothing, empty, byte, seq, either, many, nested, IsSpelled, IsJoined, IsRuleText, rule_at, may_end, is_live, are_sound, is_same_form}

pub both : (a b : Bool) → (a && b) ≡ true → (a ≡ true) × (b ≡ true)
both true true h = (refl, refl)
both true false h = absurd (false≢true h)
both false b h = absurd (false≢true h)

pub and_both : (a b : Bool) → a ≡ true → b ≡ true → (a && b) ≡ true
and_both a b p q = cc

pub one_of : (a b : Bool) → (a || b) ≡ true → (a ≡ true) ⊎ (b ≡ true)
one_of true b h = inl refl
one_of false b h = inr h

pub or_one : (a b : Bool) → a ≡ true → (a || b) ≡ true
or_one a b p = cc

pub or_other : (a b : Bool) → b ≡ true → (a || b) ≡ true
or_other true b q = refl
or_other false b q = q

pub nil_parts : (x y : List ℕ) → [] ≡ x ++ y → (x ≡ []) × (y ≡ [])
nil_parts [] y e = (refl, sym e)
nil_parts (b ∷ x) y e = cc

pub no_cons : {A : Type 0} {x : A} {xs : List A} → [] ≡ x ∷ xs → ⊥
no_cons e = cc

-- both parts of a joined text changed
pub parts_changed : {A B C D : List ℕ → Type 0} {text : List ℕ} → ((t : List ℕ) → A t → C t) → ((t : List ℕ) → B t → D t) → IsJoined A B text → IsJoined C D text
parts_changed f g h = record { front = h.front; back = h.back; joined = h.joined; first = f h.front h.first; second = g h.back h.second }

-- a text with nothing behind
pub nothing_behind : {A B : List ℕ → Type 0} (text : List ℕ) → A text → B [] → IsJoined A B text
nothing_behind text a b = record { front = text; back = []; joined = sym (append-nil text); first = a; second = b }

module _ (Rule : ℕ → List ℕ → Type 0) where
  -- the empty text is of a form that may end
  pub ends : (form : Form) → may_end form ≡ true → IsSpelled Rule form []
  ends nothing h = absurd (false≢true h)
  ends empty h = refl
  ends (byte low high) h = absurd (false≢true h)
  ends (seq first second) h =
      let p = both (may_end first) (may_end second) h in
      record { front = []; back = []; joined = refl; first = ends first p.0; second = ends second p.1 }
  ends (either one other) h =
      elim (one_of (may_end one) (may_end other) h) [ inl p ↦ inl (ends one p) | inr q ↦ inr (ends other q) ]
  ends (many form) h = record { parts = []; joined = refl; each = tt }
  ends (nested rule) h = absurd (false≢true h)

  -- and of no other, where it is of no rule
  pub ended : ((rule : ℕ) → Rule rule [] → ⊥) → (form : Form) → IsSpelled Rule form [] → may_end form ≡ true
  ended owes nothing h = absurd h
  ended owes empty h = refl
  ended owes (byte low high) h = let e : [] ≡ h.value ∷ [] = h.alone in cc
  ended owes (seq first second) h =
      let p = nil_parts h.front h.back h.joined in
      and_both (may_end first) (may_end second) (ended owes first (subst (IsSpelled Rule first) p.0 h.first)) (ended owes second (subst (IsSpelled Rule second) p.1 h.second))
  ended owes (either one other) h =
      elim h [
        | inl p ↦ or_one (may_end one) (may_end other) (ended owes one p)
        | inr q ↦ or_other (may_end one) (may_end other) (ended owes other q)
      ]
  ended owes (many form) h = refl
  ended owes (nested rule) h = absurd (owes rule h)

  module _ (depth count : ℕ) where
    -- a live form has some text
    pub live : ((rule : ℕ) → (nat_lt zero depth && nat_lt rule count) ≡ true → IsViable (Rule rule) []) → (form : Form) → is_live depth count form ≡ true → IsViable (IsSpelled Rule form) []
    live has nothing h = absurd (false≢true h)
    live has empty h = ([], refl)
    live has (byte low high) h = (low ∷ [], record { value = low; from = omega arith; upto = leb-true low high h; alone = refl })
    live has (seq first second) h =
        let p = both (is_live depth count first) (is_live depth count second) h in
        let t = live has first p.0 in
        let u = live has second p.1 in
        (t.0 ++ u.0, record { front = t.0; back = u.0; joined = refl; first = t.1; second = u.1 })
    live has (either one other) h =
        elim (one_of (is_live depth count one) (is_live depth count other) h) [
          | inl p ↦ let t = live has one p in (t.0, inl t.1)
          | inr q ↦ let t = live has other q in (t.0, inr t.1)
        ]
    live has (many form) h = ([], record { parts = []; joined = refl; each = tt })
    live has (nested rule) h = has rule h

    -- and no other has
    pub lived : ((rule : ℕ) (text : List ℕ) → Rule rule text → (nat_lt zero depth && nat_lt rule count) ≡ true) → (form : Form) (text : List ℕ) → IsSpelled Rule form text → is_live depth count form ≡ true
    lived only nothing text h = absurd h
    lived only empty text h = refl
    lived only (byte low high) text h =
        let from : low ≤ h.value = h.from in
        let upto : h.value ≤ high = h.upto in
        le-leb low high (omega arith)
    lived only (seq first second) text h =
        and_both (is_live depth count first) (is_live depth count second) (lived only first h.front h.first) (lived only second h.back h.second)
    lived only (either one other) text h =
        elim h [
          | inl p ↦ or_one (is_live depth count one) (is_live depth count other) (lived only one text p)
          | inr q ↦ or_other (is_live depth count one) (is_live depth count other) (lived only other text q)
        ]
    lived only (many form) text h = refl
    lived only (nested rule) text h = only rule text h

-- a rule may be opened where the depth is not 0 and there is one with its number
may_open : (depth rule count : ℕ) → 0 < depth → rule < count → (nat_lt zero depth && nat_lt rule count) ≡ true
may_open depth rule count deep fits = and_both _ _ ((Decides-ltb zero depth).1 deep) ((Decides-ltb rule count).1 fits)

-- each rule of sound ones has a text in which nothing nests
sound_lives : (rules : List Form) → are_sound rules ≡ true → (rule : ℕ) → rule < length rules → is_live zero zero (rule_at rules rule) ≡ true
sound_lives [] sound rule fits = absurd (omega arith)
sound_lives (r ∷ rs) sound zero fits = (both (is_live zero zero r) (not (may_end r)) (both (is_live zero zero r && not (may_end r)) (are_sound rs) sound).0).0
sound_lives (r ∷ rs) sound (suc rule) fits = sound_lives rs (both (is_live zero zero r && not (may_end r)) (are_sound rs) sound).1 rule (omega arith)

not_true : (a : Bool) → not a ≡ true → a ≡ false
not_true true h = absurd (false≢true h)
not_true false h = refl

-- none of them has the empty text
sound_owes : (rules : List Form) → are_sound rules ≡ true → (rule : ℕ) → may_end (rule_at rules rule) ≡ false
sound_owes [] sound rule = refl
sound_owes (r ∷ rs) sound zero = not_true (may_end r) (both (is_live zero zero r) (not (may_end r)) (both (is_live zero zero r && not (may_end r)) (are_sound rs) sound).0).1
sound_owes (r ∷ rs) sound (suc rule) = sound_owes rs (both (is_live zero zero r && not (may_end r)) (are_sound rs) sound).1 rule

module _ (rules : List Form) (sound : are_sound rules ≡ true) where
  -- a rule that may be opened has some text
  pub rule_lives : (depth rule : ℕ) → (nat_lt zero depth && nat_lt rule (length rules)) ≡ true → IsViable (IsRuleText rules depth rule) []
  unfolding IsRuleText
  rule_lives zero rule h = absurd (false≢true h)
  rule_lives (suc depth) rule h =
      let fits = (Decides-ltb rule (length rules)).0 (both (nat_lt zero (suc depth)) (nat_lt rule (length rules)) h).1 in
      live (IsRuleText rules depth) zero zero (λ r e. absurd (false≢true e)) (rule_at rules rule) (sound_lives rules sound rule fits)

  -- a rule has no text where it may not be opened
  pub rule_opened : (depth rule : ℕ) (text : List ℕ) → IsRuleText rules depth rule text → (nat_lt zero depth && nat_lt rule (length rules)) ≡ true
  unfolding IsRuleText
  rule_opened zero rule text h = absurd h
  rule_opened (suc depth) rule text h =
      elim (nat_lt rule (length rules)) as (λ b. nat_lt rule (length rules) ≡ b → (nat_lt zero (suc depth) && nat_lt rule (length rules)) ≡ true) [
        | true ↦ λ e. may_open (suc depth) rule (length rules) (omega arith) (ltb-true rule (length rules) e)
        | false ↦ λ e.
            let beyond = ltb-false rule (length rules) e in
            absurd (subst (λ f. IsSpelled (IsRuleText rules depth) f text) (get_or-eq_default rules nothing beyond) h)
      ] refl

  -- no rule has the empty text
  pub rule_owes : (depth rule : ℕ) → IsRuleText rules depth rule [] → ⊥
  unfolding IsRuleText
  rule_owes zero rule h = h
  rule_owes (suc depth) rule h = false≢true (sym (sound_owes rules sound rule) ∙ ended (IsRuleText rules depth) (rule_owes depth) (rule_at rules rule) h)

same_number : (a b : ℕ) → nat_eq a b ≡ true → a ≡ b
same_number a b h = (Decides-eqb a b).0 h

-- forms that are written alike are equal
pub same_forms : (f g : Form) → is_same_form f g ≡ true → f ≡ g
same_forms nothing nothing h = refl
same_forms empty empty h = refl
same_forms (byte a b) (byte c d) h =
    let p = both (nat_eq a c) (nat_eq b d) h in
    let e : a ≡ c = same_number a c p.0 in
    let e' : b ≡ d = same_number b d p.1 in
    cc
same_forms (seq f g) (seq f' g') h =
    let p = both (is_same_form f f') (is_same_form g g') h in
    let e : f ≡ f' = same_forms f f' p.0 in
    let e' : g ≡ g' = same_forms g g' p.1 in
    cc
same_forms (either f g) (either f' g') h =
    let p = both (is_same_form f f') (is_same_form g g') h in
    let e : f ≡ f' = same_forms f f' p.0 in
    let e' : g ≡ g' = same_forms g g' p.1 in
    cc
same_forms (many f) (many f') h = ap many (same_forms f f' h)
same_forms (nested a) (nested b) h = ap nested (same_number a b h)
same_forms _ _ h = absurd (false≢true h)
