-- Tokens: what is read is spelled so, and what is spelled by tokens that stand clear of one another is read.
use Rattle.std.proofs.Common.{◌≡◌, inl, inr, ℕ, suc, ◌≤◌, ◌<◌, true, false, nat_eq, List, [], ◌∷◌, ◌++◌, length, Option, Some, None, option_map, IfSome, IfOk, Result, if◌then◌else◌, refl, sym, ap, subst, ◌∙◌, append_assoc, arith, length-append, drop, drop-cons, add-one, ◌+◌}
use Rattle.std.specs.List.{concat, list_any, AllByRecursion}
use Rattle.std.proofs.lemmas.Result.{IfOk-weaker}
use Rattle.std.proofs.lemmas.Bool.{false≢true}
use Rattle.std.proofs.lemmas.List.{append-nil}
use Rattle.std.proofs.lemmas.List.Folds.{concat-append}
use Rattle.std.proofs.lemmas.Bool.Decides.{Decides-eqb}
use Rattle.lk_grammar.specs.Forms.{Form, IsText, IsJoined}
use Rattle.lk_grammar.specs.Words.{any_of, spaces, is_white}
use Rattle.lk_grammar.proofs.FormLaws.{one_of, or_one, or_other}
use Rattle.lk_grammar.specs.Tokens.{tokens_form, skip_spaces, then_tokens, tokens_from, tokens_of, AreClear, IsBegun, IsLexer}

-- a byte of several is one of them, and is written alone
pub any_byte : (bytes : List ℕ) (b : ℕ) → list_any (nat_eq b) bytes ≡ true → IsText (any_of bytes) (b ∷ [])
any_byte [] b h = absurd (false≢true h)
any_byte (c ∷ bytes) b h =
    elim (one_of (nat_eq b c) (list_any (nat_eq b) bytes) h) [
      | inl p ↦
          let e : b ≡ c = (Decides-eqb b c).0 p in
          inl (record { value = b; from = omega arith; upto = omega arith; alone = refl })
      | inr q ↦ inr (any_byte bytes b q)
    ]

-- one byte that is one of several
pub record IsAnyText (bytes text : List ℕ) : Type 0 where
  pub value : ℕ
  pub alone : text ≡ value ∷ []
  pub is : list_any (nat_eq value) bytes ≡ true

pub any_text : (bytes text : List ℕ) → IsText (any_of bytes) text → IsAnyText bytes text
any_text [] text h = absurd h
any_text (c ∷ bytes) text h =
    elim h [
      | inl p ↦
          let low : c ≤ p.value = p.from in
          let high : p.value ≤ c = p.upto in
          record { value = p.value; alone = p.alone; is = or_one (nat_eq p.value c) _ ((Decides-eqb p.value c).1 (omega arith)) }
      | inr q ↦
          let a = any_text bytes text q in
          record { value = a.value; alone = a.alone; is = or_other (nat_eq a.value c) _ a.is }
    ]

module _ (white : List ℕ) where
  -- one more space is of the spaces
  one_more : (b : ℕ) (text : List ℕ) → is_white white b ≡ true → IsText (spaces white) text → IsText (spaces white) (b ∷ text)
  one_more b text w h = record {
    parts = (b ∷ []) ∷ h.parts;
    joined = ap (λ z. b ∷ z) h.joined;
    each = (any_byte white b w, h.each);
  }

  -- what is skipped is spaces
  skipped : (text : List ℕ) → IsJoined (IsText (spaces white)) (λ back. back ≡ skip_spaces white text) text
  skipped [] = record { front = []; back = []; joined = refl; first = record { parts = []; joined = refl; each = tt }; second = refl }
  skipped (b ∷ text) =
      elim (is_white white b) as (λ e. is_white white b ≡ e → IsJoined (IsText (spaces white)) (λ back. back ≡ (if e then skip_spaces white text else b ∷ text)) (b ∷ text)) [
        | true ↦ λ e.
            let s = skipped text in
            record {
              front = b ∷ s.front;
              back = s.back;
              joined = ap (λ z. b ∷ z) s.joined;
              first = one_more b s.front e s.first;
              second = s.second;
            }
        | false ↦ λ _. record { front = []; back = b ∷ text; joined = refl; first = record { parts = []; joined = refl; each = tt }; second = refl }
      ] refl

  -- spaces are skipped, and what begins with none is not
  skip_all : (parts : List (List ℕ)) (back : List ℕ) → AllByRecursion (IsText (any_of white)) parts → skip_spaces white back ≡ back → skip_spaces white (concat parts ++ back) ≡ back
  skip_all [] back each stays = stays
  skip_all (p ∷ parts) back each stays =
      let a = any_text white p each.0 in
      subst (λ z. skip_spaces white ((z ++ concat parts) ++ back) ≡ back) (sym a.alone)
      (subst (λ e. (if e then skip_spaces white (concat parts ++ back) else a.value ∷ (concat parts ++ back)) ≡ back) (sym a.is) (skip_all parts back each.1 stays))

  skip_spelled : (front back : List ℕ) → IsText (spaces white) front → skip_spaces white back ≡ back → skip_spaces white (front ++ back) ≡ back
  skip_spelled front back h stays = subst (λ z. skip_spaces white (z ++ back) ≡ back) (sym h.joined) (skip_all h.parts back h.each stays)

  stays : (front rest : List ℕ) → IsBegun white front → skip_spaces white (front ++ rest) ≡ front ++ rest
  stays front rest b =
      subst (λ z. skip_spaces white (z ++ rest) ≡ z ++ rest) (sym b.is)
      (subst (λ e. (if e then skip_spaces white (b.tail ++ rest) else b.head ∷ (b.tail ++ rest)) ≡ b.head ∷ (b.tail ++ rest)) (sym b.no_space) refl)

longer : (white x y z text : List ℕ) → IsBegun white y → x ++ (y ++ z) ≡ text → suc (length z) ≤ length text
longer white x y z text b e = omega (arith, length-append x (y ++ z), length-append y z, ap length e, ap length b.is)

all_joined : (P : List ℕ → Type 0) (xs ys : List (List ℕ)) → AllByRecursion P xs → AllByRecursion P ys → AllByRecursion P (xs ++ ys)
all_joined P [] ys p q = q
all_joined P (x ∷ xs) ys p q = (p.0, all_joined P xs ys p.1 q)

spaces_joined : (white x y : List ℕ) → IsText (spaces white) x → IsText (spaces white) y → IsText (spaces white) (x ++ y)
spaces_joined white x y p q = record {
  parts = p.parts ++ q.parts;
  joined = (λ i. p.joined i ++ q.joined i) ∙ sym (concat-append p.parts q.parts);
  each = all_joined (IsText (any_of white)) p.parts q.parts p.each q.each;
}

grown : {T : Type 0} (m : Option (List T)) (front : List T) (t : T) → option_map (λ more. (front ++ t ∷ []) ++ more) m ≡ option_map (λ more. front ++ more) (option_map (λ more. t ∷ more) m)
grown None front t = refl
grown (Some more) front t = ap Some (append_assoc front (t ∷ []) more)

module _ {T : Type 0} (white : List ℕ) (first_token : List ℕ → Option (T × List ℕ)) where
  at_end : (fuel : List ℕ) → tokens_from white first_token fuel [] ≡ Some []
  at_end [] = refl
  at_end (f ∷ fuel) = refl

  -- the three ways of a turn of the loop
  pub done : (front : List T) (fuel rest : List ℕ) (all : Option (List T)) → nat_eq (length rest) 0 ≡ true → option_map (λ more. front ++ more) (tokens_from white first_token fuel rest) ≡ all → Some front ≡ all
  done front fuel [] all e h = ap Some (sym (append-nil front)) ∙ ap (option_map (λ more. front ++ more)) (sym (at_end fuel)) ∙ h
  done front fuel (b ∷ rest) all e h = absurd (let z : suc (length rest) ≡ 0 = (Decides-eqb _ _).0 e in omega arith)

  pub stopped : (front : List T) (text rest : List ℕ) (i : ℕ) (all : Option (List T)) → i < length text → nat_eq (length rest) 0 ≡ false → first_token rest ≡ None → option_map (λ more. front ++ more) (tokens_from white first_token (drop i text) rest) ≡ all → None ≡ all
  stopped front text [] i all fits e n h = absurd (false≢true (sym e))
  stopped front text (b ∷ rest) i all fits e n h =
      let d = drop-cons text i 0 fits in
      rw (d, n) at h

  pub gone_on : (front : List T) (text rest behind : List ℕ) (t : T) (i : ℕ) (all : Option (List T)) → i < length text → nat_eq (length rest) 0 ≡ false → first_token rest ≡ Some (t, behind) → option_map (λ more. front ++ more) (tokens_from white first_token (drop i text) rest) ≡ all
      → option_map (λ more. (front ++ t ∷ []) ++ more) (tokens_from white first_token (drop (i + 1) text) (skip_spaces white behind)) ≡ all
  gone_on front text [] behind t i all fits e n h = absurd (false≢true (sym e))
  gone_on front text (b ∷ rest) behind t i all fits e n h =
      let d = drop-cons text i 0 fits in
      let h' = rw (d, n) at h in
      rw add-one (grown (tokens_from white first_token (drop (suc i) text) (skip_spaces white behind)) front t ∙ h')

module _ {T : Type 0} {white : List ℕ} {form_of : T → Form} {IsClear : T → List T → Type 0} {first_token : List ℕ → Option (T × List ℕ)} (lexer : IsLexer white form_of IsClear first_token) where
  abbrev IsTokens : List T → List ℕ → Type 0
  IsTokens tokens text = IsText (tokens_form white form_of tokens) text

  -- spaces before a spelled list are free
  behind_spaces : (tokens : List T) (front text : List ℕ) → IsText (spaces white) front → IsTokens tokens text → IsTokens tokens (front ++ text)
  behind_spaces [] front text s h = spaces_joined white front text s h
  behind_spaces (t ∷ ts) front text s h =
      let first = h.first in
      record {
        front = front ++ h.front;
        back = h.back;
        joined = ap (λ z. front ++ z) h.joined ∙ sym (append_assoc front h.front h.back);
        first = record {
          front = front ++ first.front;
          back = first.back;
          joined = ap (λ z. front ++ z) first.joined ∙ sym (append_assoc front first.front first.back);
          first = spaces_joined white front first.front s first.first;
          second = first.second;
        };
        second = h.second;
      }

  with_skipped : (tokens : List T) (text : List ℕ) → IsTokens tokens (skip_spaces white text) → IsTokens tokens text
  with_skipped tokens text h =
      let s = skipped white text in
      let whole : s.front ++ skip_spaces white text ≡ text = sym (s.joined ∙ ap (λ z. s.front ++ z) s.second) in
      subst (IsTokens tokens) whole (behind_spaces tokens s.front (skip_spaces white text) s.first h)

  one_more_token : (text rest : List ℕ) (t : T) (ts : List T) → first_token text ≡ Some (t, rest) → IsTokens ts rest → IsTokens (t ∷ ts) text
  one_more_token text rest t ts e h =
      let first = lexer.before text rest t e in
      record {
        front = first.front;
        back = first.back;
        joined = first.joined;
        first = record { front = []; back = first.front; joined = refl; first = record { parts = []; joined = refl; each = tt }; second = first.first };
        second = subst (IsTokens ts) (sym first.second) h;
      }

  none_left : (tokens : List T) → Some [] ≡ Some tokens → IsTokens tokens []
  none_left tokens h = let e : [] ≡ tokens = cc in subst (λ ts. IsTokens ts []) e (record { parts = []; joined = refl; each = tt })

  -- what is read is spelled so
  pub tokens_before : (fuel text : List ℕ) (tokens : List T) → tokens_from white first_token fuel text ≡ Some tokens → IsTokens tokens text
  tokens_before [] [] tokens h = none_left tokens h
  tokens_before [] (b ∷ text) tokens h = absurd (let f : ⊥ = cc in f)
  tokens_before (f ∷ fuel) [] tokens h = none_left tokens h
  tokens_before (f ∷ fuel) (b ∷ text) tokens h =
      elim (first_token (b ∷ text)) as (λ o. first_token (b ∷ text) ≡ o → then_tokens o (λ rest. tokens_from white first_token fuel (skip_spaces white rest)) ≡ Some tokens → IsTokens tokens (b ∷ text)) [
        | None ↦ λ e h. absurd (let f : ⊥ = cc in f)
        | Some p ↦ λ e.
            elim (tokens_from white first_token fuel (skip_spaces white p.1)) as (λ m. tokens_from white first_token fuel (skip_spaces white p.1) ≡ m → option_map (λ ts. p.0 ∷ ts) m ≡ Some tokens → IsTokens tokens (b ∷ text)) [
              | None ↦ λ _ h. absurd (let f : ⊥ = cc in f)
              | Some ts ↦ λ read h.
                  let same : p.0 ∷ ts ≡ tokens = cc in
                  let behind = with_skipped ts p.1 (tokens_before fuel (skip_spaces white p.1) ts read) in
                  subst (λ z. IsTokens z (b ∷ text)) same (one_more_token (b ∷ text) p.1 p.0 ts e behind)
            ] refl
      ] refl h

  taken : (fuel : List ℕ) (b f : ℕ) (text rest : List ℕ) (t : T) (ts : List T) → first_token (b ∷ text) ≡ Some (t, rest) → tokens_from white first_token fuel (skip_spaces white rest) ≡ Some ts → tokens_from white first_token (f ∷ fuel) (b ∷ text) ≡ Some (t ∷ ts)
  taken fuel b f text rest t ts first more = rw (first, more) refl

  -- what is spelled is read
  pub tokens_spelled : (tokens : List T) (fuel text : List ℕ) → AreClear IsClear tokens → IsTokens tokens text → length text ≤ length fuel → tokens_from white first_token fuel (skip_spaces white text) ≡ Some tokens
  tokens_spelled [] fuel text clear h enough =
      let e : skip_spaces white text ≡ [] = subst (λ z. skip_spaces white z ≡ []) (append-nil text) (skip_spelled white text [] h refl) in
      rw e (at_end white first_token fuel)
  tokens_spelled (t ∷ ts) [] text clear h enough =
      let first = h.first in
      let b = lexer.begun t ts first.back clear.0 first.second in
      let whole : first.front ++ (first.back ++ h.back) ≡ text = sym (h.joined ∙ ap (λ z. z ++ h.back) first.joined ∙ append_assoc first.front first.back h.back) in
      absurd (omega (arith, longer white first.front first.back h.back text b whole, enough))
  tokens_spelled (t ∷ ts) (f ∷ fuel) text clear h enough =
      let first = h.first in
      let b = lexer.begun t ts first.back clear.0 first.second in
      let whole : first.front ++ (first.back ++ h.back) ≡ text = sym (h.joined ∙ ap (λ z. z ++ h.back) first.joined ∙ append_assoc first.front first.back h.back) in
      let skips : skip_spaces white text ≡ first.back ++ h.back = subst (λ z. skip_spaces white z ≡ first.back ++ h.back) whole (skip_spelled white first.front (first.back ++ h.back) first.first (stays white first.back h.back b)) in
      let starts : first.back ++ h.back ≡ b.head ∷ (b.tail ++ h.back) = ap (λ z. z ++ h.back) b.is in
      let found = lexer.found t ts first.back h.back clear.0 first.second h.second in
      let fits : length h.back ≤ length fuel = omega (arith, longer white first.front first.back h.back text b whole, enough) in
      rw (skips, starts) (taken fuel b.head f (b.tail ++ h.back) h.back t ts (subst (λ z. first_token z ≡ Some (t, h.back)) starts found) (tokens_spelled ts fuel h.back clear.1 h.second fits))

module _ {T E : Type 0} {white : List ℕ} {form_of : T → Form} {IsClear : T → List T → Type 0} {first_token : List ℕ → Option (T × List ℕ)} (lexer : IsLexer white form_of IsClear first_token) (text : List ℕ) (r : Result (Option (List T)) E) (is : IfOk r (λ found. found ≡ tokens_of white first_token text)) where
  pub result_spelled : IfOk r (λ found. IfSome found (λ tokens. IsText (tokens_form white form_of tokens) text))
  result_spelled = IfOk-weaker r (λ found. found ≡ tokens_of white first_token text) (λ found. IfSome found (λ tokens. IsText (tokens_form white form_of tokens) text)) (elim [
    | None ↦ λ e. tt
    | Some tokens ↦ λ e. with_skipped lexer tokens text (tokens_before lexer text (skip_spaces white text) tokens (sym e))
  ]) is

  pub result_every : IfOk r (λ found. (tokens : List T) → AreClear IsClear tokens → IsText (tokens_form white form_of tokens) text → found ≡ Some tokens)
  result_every = IfOk-weaker r (λ found. found ≡ tokens_of white first_token text) (λ found. (tokens : List T) → AreClear IsClear tokens → IsText (tokens_form white form_of tokens) text → found ≡ Some tokens)
      (λ found e tokens clear h. e ∙ tokens_spelled lexer tokens text text clear h (omega arith)) is
