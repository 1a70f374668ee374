-- Steps: the stacks that a step finds have exactly the texts that may follow the byte.
use Rattle.std.proofs.Common.{◌≡◌, ◌⊎◌, inl, inr, ℕ, Bool, true, false, ◌&&◌, ◌||◌, nat_eq, nat_le, List, [], ◌∷◌, ◌++◌, length, if◌then◌else◌, refl, sym, ap, subst, ◌∙◌, append_assoc}
use Rattle.std.specs.List.{concat, list_any, AllByRecursion}
use Rattle.std.proofs.lemmas.Bool.{false≢true, leb-true, le-leb}
use Rattle.std.proofs.lemmas.Bool.Decides.{Decides-eqb}
use Rattle.lk_grammar.specs.Forms.{Form, nothing, empty, byte, seq, either, many, nested, IsJoined, IsSpelled, IsRuleText, may_end, is_live, are_sound, is_same_form}
use Rattle.lk_grammar.specs.Steps.{Stack, IsStackText, IsStateText, is_same_stack, with_stack, ways_in}
use Rattle.lk_grammar.proofs.FormLaws.{both, and_both, ends, ended, lived, rule_opened, rule_owes, same_forms}

same_stacks : (s t : Stack) → is_same_stack s t ≡ true → s ≡ t
same_stacks [] [] h = refl
same_stacks [] (q ∷ qs) h = absurd (false≢true h)
same_stacks (p ∷ ps) [] h = absurd (false≢true h)
same_stacks (p ∷ ps) (q ∷ qs) h =
    let a = both (nat_eq p.0 q.0 && is_same_form p.1 q.1) (is_same_stack ps qs) h in
    let b = both (nat_eq p.0 q.0) (is_same_form p.1 q.1) a.0 in
    let e : p.0 ≡ q.0 = (Decides-eqb p.0 q.0).0 b.0 in
    let e' : p.1 ≡ q.1 = same_forms p.1 q.1 b.1 in
    let r : ps ≡ qs = same_stacks ps qs a.1 in
    λ i. (e i, e' i) ∷ r i

module _ (rules : List Form) where
  -- a text of one stack behind another is of the two together, and of no more
  before : (found more : List Stack) (text : List ℕ) → IsStateText rules found text → IsStateText rules (found ++ more) text
  before [] more text h = absurd h
  before (s ∷ ss) more text h = elim h [ inl p ↦ inl p | inr q ↦ inr (before ss more text q) ]

  behind : (found : List Stack) (stack : Stack) (text : List ℕ) → IsStackText rules stack text → IsStateText rules (found ++ stack ∷ []) text
  behind [] stack text h = inl h
  behind (s ∷ ss) stack text h = inr (behind ss stack text h)

  apart : (found : List Stack) (stack : Stack) (text : List ℕ) → IsStateText rules (found ++ stack ∷ []) text → IsStateText rules found text ⊎ IsStackText rules stack text
  apart [] stack text h = elim h [ inl p ↦ inr p | inr q ↦ absurd q ]
  apart (s ∷ ss) stack text h =
      elim h [
        | inl p ↦ inl (inl p)
        | inr q ↦ elim (apart ss stack text q) [ inl a ↦ inl (inr a) | inr b ↦ inr b ]
      ]

  -- a stack that is among others has no other texts
  among : (stack : Stack) (found : List Stack) (text : List ℕ) → list_any (is_same_stack stack) found ≡ true → IsStackText rules stack text → IsStateText rules found text
  among stack [] text h t = absurd (false≢true h)
  among stack (s ∷ ss) text h t =
      elim (is_same_stack stack s) as (λ b. is_same_stack stack s ≡ b → (b || list_any (is_same_stack stack) ss) ≡ true → IsStateText rules (s ∷ ss) text) [
        | true ↦ λ e _. inl (subst (λ u. IsStackText rules u text) (same_stacks stack s e) t)
        | false ↦ λ _ e. inr (among stack ss text e t)
      ] refl h

  kept : (stack : Stack) (found : List Stack) (text : List ℕ) → IsStateText rules found text → IsStateText rules (with_stack stack found) text
  kept stack found text h =
      elim (list_any (is_same_stack stack) found) as (λ b. IsStateText rules (if b then found else found ++ stack ∷ []) text) [
        | true ↦ h
        | false ↦ before found (stack ∷ []) text h
      ]

  gained : (stack : Stack) (found : List Stack) (text : List ℕ) → IsStackText rules stack text → IsStateText rules (with_stack stack found) text
  gained stack found text h =
      elim (list_any (is_same_stack stack) found) as (λ b. list_any (is_same_stack stack) found ≡ b → IsStateText rules (if b then found else found ++ stack ∷ []) text) [
        | true ↦ λ e. among stack found text e h
        | false ↦ λ _. behind found stack text h
      ] refl

  no_more : (stack : Stack) (found : List Stack) (text : List ℕ) → IsStateText rules (with_stack stack found) text → IsStateText rules found text ⊎ IsStackText rules stack text
  no_more stack found text =
      elim (list_any (is_same_stack stack) found) as (λ b. IsStateText rules (if b then found else found ++ stack ∷ []) text → IsStateText rules found text ⊎ IsStackText rules stack text) [
        | true ↦ λ h. inl h
        | false ↦ λ h. apart found stack text h
      ]

  -- of two lists of stacks the one that a test picks
  pub in_both : (b : Bool) (one other : List Stack) (text : List ℕ) → IsStateText rules one text → IsStateText rules other text → IsStateText rules (if b then one else other) text
  in_both true one other text p q = p
  in_both false one other text p q = q

  pub in_first : (b : Bool) (one other : List Stack) (text : List ℕ) → b ≡ true → IsStateText rules one text → IsStateText rules (if b then one else other) text
  in_first true one other text e p = p
  in_first false one other text e p = absurd (false≢true e)

  pub of_either : (b : Bool) (one other : List Stack) (text : List ℕ) → IsStateText rules (if b then one else other) text → ((b ≡ true) × IsStateText rules one text) ⊎ IsStateText rules other text
  of_either true one other text h = inl (refl, h)
  of_either false one other text h = inr h

  -- a text that follows the byte in a text of the grammar, and behind it a text of the rest
  abbrev pub IsBegun : (List ℕ → Type 0) → ℕ → Stack → List ℕ → Type 0
  IsBegun Grammar b rest text = IsJoined (λ t. Grammar (b ∷ t)) (IsStackText rules rest) text

  module _ (sound : are_sound rules ≡ true) (b depth : ℕ) (opened : ℕ → Stack → List Stack → List Stack)
      (opened_keeps : (rule : ℕ) (rest : Stack) (found : List Stack) (text : List ℕ) → IsStateText rules found text → IsStateText rules (opened rule rest found) text)
      (opened_onward : (rule : ℕ) (rest : Stack) (found : List Stack) (text : List ℕ) → IsBegun (IsRuleText rules depth rule) b rest text → IsStateText rules (opened rule rest found) text)
      (opened_back : (rule : ℕ) (rest : Stack) (found : List Stack) (text : List ℕ) → IsStateText rules (opened rule rest found) text → IsStateText rules found text ⊎ IsBegun (IsRuleText rules depth rule) b rest text) where
    abbrev pub found_in : Form → Stack → List Stack → List Stack
    found_in form rest found = ways_in opened (length rules) depth b form rest found

    abbrev pub Spelled : Form → List ℕ → Type 0
    Spelled = IsSpelled (IsRuleText rules depth)

    pub keeps : (form : Form) (rest : Stack) (found : List Stack) (text : List ℕ) → IsStateText rules found text → IsStateText rules (found_in form rest found) text
    keeps nothing rest found text h = h
    keeps empty rest found text h = h
    keeps (byte low high) rest found text h = in_both (nat_le low b && nat_le b high) _ found text (kept rest found text h) h
    keeps (seq f g) rest found text h =
        let p = in_both (is_live depth (length rules) g) _ found text (keeps f ((depth, g) ∷ rest) found text h) h in
        in_both (may_end f) _ _ text (keeps g rest _ text p) p
    keeps (either f g) rest found text h = keeps g rest _ text (keeps f rest found text h)
    keeps (many f) rest found text h = keeps f ((depth, many f) ∷ rest) found text h
    keeps (nested rule) rest found text h = opened_keeps rule rest found text h

    onward_seq : (f g : Form) (rest : Stack) (found : List Stack) (x y front back text : List ℕ)
        → ((rest : Stack) (found : List Stack) (text : List ℕ) → IsBegun (Spelled f) b rest text → IsStateText rules (found_in f rest found) text)
        → ((rest : Stack) (found : List Stack) (text : List ℕ) → IsBegun (Spelled g) b rest text → IsStateText rules (found_in g rest found) text)
        → b ∷ front ≡ x ++ y → Spelled f x → Spelled g y → IsStackText rules rest back → text ≡ front ++ back
        → IsStateText rules (found_in (seq f g) rest found) text
    onward_seq f g rest found [] y front back text in_f in_g e hf hg hr t =
        in_first (may_end f) _ _ text (ended _ (rule_owes rules sound depth) f hf)
        (in_g rest _ text (record { front = front; back = back; joined = t; first = subst (Spelled g) (sym e) hg; second = hr }))
    onward_seq f g rest found (c ∷ x) y front back text in_f in_g e hf hg hr t =
        let same : c ≡ b = cc in
        let fronts : front ≡ x ++ y = cc in
        let texts : text ≡ x ++ (y ++ back) = t ∙ ap (λ z. z ++ back) fronts ∙ append_assoc x y back in
        let begun = in_first (is_live depth (length rules) g) _ found text (lived _ depth (length rules) (rule_opened rules sound depth) g y hg)
        (in_f ((depth, g) ∷ rest) found text (record {
          front = x;
          back = y ++ back;
          joined = texts;
          first = subst (λ z. Spelled f (z ∷ x)) same hf;
          second = record { front = y; back = back; joined = refl; first = hg; second = hr };
        })) in
        in_both (may_end f) _ _ text (keeps g rest _ text begun) begun

    onward_many : (f : Form) (rest : Stack) (found : List Stack) (parts : List (List ℕ)) (front back text : List ℕ)
        → ((rest : Stack) (found : List Stack) (text : List ℕ) → IsBegun (Spelled f) b rest text → IsStateText rules (found_in f rest found) text)
        → b ∷ front ≡ concat parts → AllByRecursion (Spelled f) parts → IsStackText rules rest back → text ≡ front ++ back
        → IsStateText rules (found_in (many f) rest found) text
    onward_many f rest found [] front back text in_f e each hr t = absurd (let h : ⊥ = cc in h)
    onward_many f rest found ([] ∷ parts) front back text in_f e each hr t = onward_many f rest found parts front back text in_f e each.1 hr t
    onward_many f rest found ((c ∷ x) ∷ parts) front back text in_f e each hr t =
        let same : c ≡ b = cc in
        let fronts : front ≡ x ++ concat parts = cc in
        let texts : text ≡ x ++ (concat parts ++ back) = t ∙ ap (λ z. z ++ back) fronts ∙ append_assoc x (concat parts) back in
        in_f ((depth, many f) ∷ rest) found text (record {
          front = x;
          back = concat parts ++ back;
          joined = texts;
          first = subst (λ z. Spelled f (z ∷ x)) same each.0;
          second = record { front = concat parts; back = back; joined = refl; first = record { parts = parts; joined = refl; each = each.1 }; second = hr };
        })

    pub onward : (form : Form) (rest : Stack) (found : List Stack) (text : List ℕ) → IsBegun (Spelled form) b rest text → IsStateText rules (found_in form rest found) text
    onward nothing rest found text h = absurd h.first
    onward empty rest found text h = absurd (let e : b ∷ h.front ≡ [] = h.first in let f : ⊥ = cc in f)
    onward (byte low high) rest found text h =
        let e : b ∷ h.front ≡ h.first.value ∷ [] = h.first.alone in
        let same : h.first.value ≡ b = cc in
        let none : [] ≡ h.front = cc in
        let t : h.back ≡ text = ap (λ z. z ++ h.back) none ∙ sym h.joined in
        in_first (nat_le low b && nat_le b high) _ found text
        (and_both (nat_le low b) (nat_le b high) (subst (λ z. nat_le low z ≡ true) same (le-leb _ _ h.first.from)) (subst (λ z. nat_le z high ≡ true) same (le-leb _ _ h.first.upto)))
        (gained rest found text (subst (IsStackText rules rest) t h.second))
    onward (seq f g) rest found text h =
        onward_seq f g rest found h.first.front h.first.back h.front h.back text (λ r s t. onward f r s t) (λ r s t. onward g r s t) h.first.joined h.first.first h.first.second h.second h.joined
    onward (either f g) rest found text h =
        elim h.first [
          | inl p ↦ keeps g rest _ text (onward f rest found text (record { front = h.front; back = h.back; joined = h.joined; first = p; second = h.second }))
          | inr q ↦ onward g rest _ text (record { front = h.front; back = h.back; joined = h.joined; first = q; second = h.second })
        ]
    onward (many f) rest found text h =
        onward_many f rest found h.first.parts h.front h.back text (λ r s t. onward f r s t) h.first.joined h.first.each h.second h.joined
    onward (nested rule) rest found text h = opened_onward rule rest found text h

    back_seq : (f g : Form) (rest : Stack) (text : List ℕ) → IsBegun (Spelled f) b ((depth, g) ∷ rest) text → IsBegun (Spelled (seq f g)) b rest text
    back_seq f g rest text h = record {
      front = h.front ++ h.second.front;
      back = h.second.back;
      joined = h.joined ∙ ap (λ z. h.front ++ z) h.second.joined ∙ sym (append_assoc h.front h.second.front h.second.back);
      first = record { front = b ∷ h.front; back = h.second.front; joined = refl; first = h.first; second = h.second.first };
      second = h.second.second;
    }

    back_many : (f : Form) (rest : Stack) (text : List ℕ) → IsBegun (Spelled f) b ((depth, many f) ∷ rest) text → IsBegun (Spelled (many f)) b rest text
    back_many f rest text h = record {
      front = h.front ++ h.second.front;
      back = h.second.back;
      joined = h.joined ∙ ap (λ z. h.front ++ z) h.second.joined ∙ sym (append_assoc h.front h.second.front h.second.back);
      first = record {
        parts = (b ∷ h.front) ∷ h.second.first.parts;
        joined = ap (λ z. b ∷ (h.front ++ z)) h.second.first.joined;
        each = (h.first, h.second.first.each);
      };
      second = h.second.second;
    }

    pub back : (form : Form) (rest : Stack) (found : List Stack) (text : List ℕ) → IsStateText rules (found_in form rest found) text → IsStateText rules found text ⊎ IsBegun (Spelled form) b rest text
    back nothing rest found text h = inl h
    back empty rest found text h = inl h
    back (byte low high) rest found text h =
        elim (of_either (nat_le low b && nat_le b high) _ found text h) [
          | inl p ↦
              let r = both (nat_le low b) (nat_le b high) p.0 in
              elim (no_more rest found text p.1) [
                | inl a ↦ inl a
                | inr s ↦ inr (record { front = []; back = text; joined = refl; first = record { value = b; from = leb-true _ _ r.0; upto = leb-true _ _ r.1; alone = refl }; second = s })
              ]
          | inr q ↦ inl q
        ]
    back (seq f g) rest found text h =
        let first = λ (p : IsStateText rules (if is_live depth (length rules) g then found_in f ((depth, g) ∷ rest) found else found) text).
        elim (of_either (is_live depth (length rules) g) _ found text p) as (λ _. IsStateText rules found text ⊎ IsBegun (Spelled (seq f g)) b rest text) [
          | inl q ↦ elim (back f ((depth, g) ∷ rest) found text q.1) [ inl a ↦ inl a | inr w ↦ inr (back_seq f g rest text w) ]
          | inr q ↦ inl q
        ] in
        elim (of_either (may_end f) _ _ text h) [
          | inl p ↦ elim (back g rest _ text p.1) [
            | inl a ↦ first a
            | inr w ↦ inr (record { front = w.front; back = w.back; joined = w.joined; first = record { front = []; back = b ∷ w.front; joined = refl; first = ends _ f p.0; second = w.first }; second = w.second })
          ]
          | inr p ↦ first p
        ]
    back (either f g) rest found text h =
        elim (back g rest _ text h) [
          | inl p ↦ elim (back f rest found text p) [
            | inl a ↦ inl a
            | inr w ↦ inr (record { front = w.front; back = w.back; joined = w.joined; first = inl w.first; second = w.second })
          ]
          | inr w ↦ inr (record { front = w.front; back = w.back; joined = w.joined; first = inr w.first; second = w.second })
        ]
    back (many f) rest found text h =
        elim (back f ((depth, many f) ∷ rest) found text h) [ inl a ↦ inl a | inr w ↦ inr (back_many f rest text w) ]
    back (nested rule) rest found text h = opened_back rule rest found text h
