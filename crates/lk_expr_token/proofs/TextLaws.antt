-- The tokens of a text: what is read is spelled so, and what is spelled is read.
use Rattle.std.proofs.Common.{◌≡◌, inl, inr, ℕ, ◌≤◌, true, false, nat_eq, List, [], ◌∷◌, ◌++◌, length, Option, Some, None, option_map, IfSome, IfOk, Result, refl, sym, ap, subst, ◌∙◌, append_assoc, length-append, arith}
use Rattle.std.specs.List.{list_all}
use Rattle.std.proofs.lemmas.Bool.{false≢true}
use Rattle.std.proofs.lemmas.Option.{same_Some}
use Rattle.std.proofs.lemmas.Result.{IfOk-weaker}
use Rattle.lk_types.specs.declared.expr.Comparison.{Comparison}
use Rattle.lk_types.specs.declared.expr.Comparison.TheVariants as comparison
use Rattle.lk_grammar.specs.Tokens.{skip_spaces, then_tokens, tokens_from, tokens_of}
use Rattle.lk_grammar.proofs.NumberLaws.{unsigned_reader}
use Rattle.lk_expr_token.specs.declared.token.Sign.{Sign}
use Rattle.lk_expr_token.specs.declared.token.Sign.TheVariants as sign
use Rattle.lk_expr_token.specs.declared.token.Token.{Token}
use Rattle.lk_expr_token.specs.declared.token.Token.TheVariants as token
use Rattle.lk_expr_token.specs.Tokens.{white, is_space, sign_text, IsComparisonText, IsTokenAt, IsSpelled}
use Rattle.lk_expr_token.specs.Lexing.{first_token}
use Rattle.lk_expr_token.proofs.LexSteps.{same, both, together, no_some}
use Rattle.lk_expr_token.proofs.LexLaws.{IsTaken, token_found, token_sound, either_is}

-- of a text of so many bytes
module _ (whole : ℕ) where
  -- ---- spaces

  pub record IsSkipped (text : List ℕ) : Type 0 where
    pub gap : List ℕ
    pub joined : text ≡ gap ++ skip_spaces white text
    pub spaces : list_all is_space gap ≡ true

  skipped_more : (b : ℕ) (text : List ℕ) → is_space b ≡ true → IsSkipped text → IsSkipped (b ∷ text)
  skipped_more b text d s = record { gap = b ∷ s.gap; joined = rw d (ap (λ z. b ∷ z) s.joined); spaces = together (is_space b) (list_all is_space s.gap) d s.spaces }

  skipped : (text : List ℕ) → IsSkipped text
  skipped [] = record { gap = []; joined = refl; spaces = refl }
  skipped (b ∷ text) =
      elim (is_space b) as (λ d. is_space b ≡ d → IsSkipped (b ∷ text)) [
        | true ↦ λ d. skipped_more b text d (skipped text)
        | false ↦ λ d. record { gap = []; joined = rw d refl; spaces = refl }
      ] refl

  skip_gap : (gap rest : List ℕ) → list_all is_space gap ≡ true → skip_spaces white (gap ++ rest) ≡ skip_spaces white rest
  skip_gap [] rest h = refl
  skip_gap (b ∷ gap) rest h = let p = both (is_space b) (list_all is_space gap) h in rw p.0 (skip_gap gap rest p.1)

  skip_all : (gap : List ℕ) → list_all is_space gap ≡ true → skip_spaces white gap ≡ []
  skip_all [] h = refl
  skip_all (b ∷ gap) h = let p = both (is_space b) (list_all is_space gap) h in rw p.0 (skip_all gap p.1)

  spaces_joined : (x y : List ℕ) → list_all is_space x ≡ true → list_all is_space y ≡ true → list_all is_space (x ++ y) ≡ true
  spaces_joined [] y p q = q
  spaces_joined (b ∷ x) y p q = let h = both (is_space b) (list_all is_space x) p in together (is_space b) (list_all is_space (x ++ y)) h.0 (spaces_joined x y h.1 q)

  no_token : (text : List ℕ) → first_token whole (32 ∷ text) ≡ None
  unfolding first_token
  no_token [] = refl
  no_token (b ∷ text) = refl

  no_tab : (text : List ℕ) → first_token whole (9 ∷ text) ≡ None
  unfolding first_token
  no_tab [] = refl
  no_tab (b ∷ text) = refl

  no_feed : (text : List ℕ) → first_token whole (10 ∷ text) ≡ None
  unfolding first_token
  no_feed [] = refl
  no_feed (b ∷ text) = refl

  no_return : (text : List ℕ) → first_token whole (13 ∷ text) ≡ None
  unfolding first_token
  no_return [] = refl
  no_return (b ∷ text) = refl

  pub no_space : (b : ℕ) (text : List ℕ) → is_space b ≡ true → first_token whole (b ∷ text) ≡ None
  no_space b text h =
      elim (either_is whole (nat_eq b 32) _ h) [
        | inl p ↦ rw (same b 32 p) (no_token text)
        | inr h ↦
            elim (either_is whole (nat_eq b 9) _ h) [
              | inl p ↦ rw (same b 9 p) (no_tab text)
              | inr h ↦
                  elim (either_is whole (nat_eq b 10) _ h) [
                    | inl p ↦ rw (same b 10 p) (no_feed text)
                    | inr h ↦
                        elim (either_is whole (nat_eq b 13) false h) [
                          | inl p ↦ rw (same b 13 p) (no_return text)
                          | inr h ↦ absurd (false≢true h)
                        ]
                  ]
            ]
      ]

  -- where a token comes first, nothing is skipped
  stays : (text : List ℕ) (found : Token × List ℕ) → first_token whole text ≡ Some found → skip_spaces white text ≡ text
  stays [] found h = refl
  stays (b ∷ text) found h =
      elim (is_space b) as (λ d. is_space b ≡ d → skip_spaces white (b ∷ text) ≡ b ∷ text) [
        | true ↦ λ d. absurd (no_some found (sym (no_space b text d) ∙ h))
        | false ↦ λ d. rw d refl
      ] refl

  -- a token has bytes
  sign_some : (s : Sign) → sign_text s ≡ [] → ⊥
  sign_some sign.Plus e = cc
  sign_some sign.Minus e = cc
  sign_some sign.Concat e = cc
  sign_some sign.Times e = cc
  sign_some sign.Over e = cc
  sign_some sign.Open e = cc
  sign_some sign.Close e = cc
  sign_some sign.Comma e = cc

  comparison_some : (c : Comparison) → IsComparisonText c [] → ⊥
  comparison_some comparison.Equal e = cc
  comparison_some comparison.NotEqual e = elim e [ inl p ↦ let f : ⊥ = cc in f | inr p ↦ let f : ⊥ = cc in f ]
  comparison_some comparison.Less e = cc
  comparison_some comparison.AtMost e = cc
  comparison_some comparison.Greater e = cc
  comparison_some comparison.AtLeast e = cc

  pub token_some : (t : Token) (rest : List ℕ) → IsTokenAt whole t [] rest → ⊥
  token_some (token.Word k) rest h = false≢true h.0
  token_some (token.Name name place) rest h = false≢true (rw (← h.0) at h.1)
  token_some (token.Compare c) rest h = comparison_some c h.0
  token_some (token.Sign s) rest h = sign_some s (sym h)
  token_some (token.Number number) rest h = let b = (unsigned_reader [] refl).begun number h.1 in let e : [] ≡ b.head ∷ b.tail = h.0 ∙ b.is in cc
  token_some (token.Text characters) rest h = let e = h.0 in cc
  token_some (token.Column name) rest h =
      elim h.1 [
        | inl p ↦ let e = p.0 in let f : ⊥ = cc in f
        | inr q ↦ elim q [ inl r ↦ let f : ⊥ = cc in f | inr r ↦ let f : ⊥ = cc in f ]
      ]
  token_some (token.Field name) rest h = let e = h.0 in cc
  token_some (token.FieldOf view name) rest h = let e = h.0 in cc

  -- ---- what is read is spelled so

  behind_gap : (ts : List Token) (gap text : List ℕ) → list_all is_space gap ≡ true → IsSpelled whole ts text → IsSpelled whole ts (gap ++ text)
  behind_gap [] gap text s h = spaces_joined gap text s h
  behind_gap (t ∷ ts) gap text s h = record {
    gap = gap ++ h.gap;
    front = h.front;
    rest = h.rest;
    joined = ap (λ z. gap ++ z) h.joined ∙ sym (append_assoc gap h.gap (h.front ++ h.rest));
    spaces = spaces_joined gap h.gap s h.spaces;
    spelled = h.spelled;
    behind = h.behind;
  }

  with_skipped : (ts : List Token) (text : List ℕ) → IsSpelled whole ts (skip_spaces white text) → IsSpelled whole ts text
  with_skipped ts text h = let s = skipped text in subst (IsSpelled whole ts) (sym s.joined) (behind_gap ts s.gap (skip_spaces white text) s.spaces h)

  one_more : (t : Token) (ts : List Token) (rest text : List ℕ) → IsTaken whole t rest text → IsSpelled whole ts rest → IsSpelled whole (t ∷ ts) text
  one_more t ts rest text is h = record { gap = []; front = is.front; rest = rest; joined = is.joined; spaces = refl; spelled = is.spelled; behind = h }

  none_left : (ts : List Token) → Some [] ≡ Some ts → IsSpelled whole ts []
  none_left ts h = subst (λ z. IsSpelled whole z []) (same_Some [] ts h) refl

  tokens_sound : (fuel text : List ℕ) (ts : List Token) → tokens_from white (first_token whole) fuel text ≡ Some ts → IsSpelled whole ts text
  tokens_sound [] [] ts h = none_left ts h
  tokens_sound [] (b ∷ text) ts h = absurd (no_some ts h)
  tokens_sound (f ∷ fuel) [] ts h = none_left ts h
  tokens_sound (f ∷ fuel) (b ∷ text) ts h =
      elim (first_token whole (b ∷ text)) as (λ o. first_token whole (b ∷ text) ≡ o → then_tokens o (λ rest. tokens_from white (first_token whole) fuel (skip_spaces white rest)) ≡ Some ts → IsSpelled whole ts (b ∷ text)) [
        | None ↦ λ _ h. absurd (no_some ts h)
        | Some p ↦ λ e.
            elim (tokens_from white (first_token whole) fuel (skip_spaces white p.1)) as (λ m. tokens_from white (first_token whole) fuel (skip_spaces white p.1) ≡ m → option_map (λ more. p.0 ∷ more) m ≡ Some ts → IsSpelled whole ts (b ∷ text)) [
              | None ↦ λ _ h. absurd (no_some ts h)
              | Some more ↦ λ read h.
                  let behind = with_skipped more p.1 (tokens_sound fuel (skip_spaces white p.1) more read) in
                  subst (λ z. IsSpelled whole z (b ∷ text)) (same_Some (p.0 ∷ more) ts h) (one_more p.0 more p.1 (b ∷ text) (token_sound whole (b ∷ text) p.0 p.1 e) behind)
            ] refl
      ] refl h

  -- ---- what is spelled is read

  at_end : (fuel : List ℕ) → tokens_from white (first_token whole) fuel [] ≡ Some []
  at_end [] = refl
  at_end (f ∷ fuel) = refl

  one_read : (fuel : List ℕ) (f : ℕ) (front rest : List ℕ) (t : Token) (ts : List Token) → IsTokenAt whole t front rest → tokens_from white (first_token whole) fuel (skip_spaces white rest) ≡ Some ts → tokens_from white (first_token whole) (f ∷ fuel) (front ++ rest) ≡ Some (t ∷ ts)
  one_read fuel f [] rest t ts h more = absurd (token_some t rest h)
  one_read fuel f (b ∷ front) rest t ts h more = let found : first_token whole (b ∷ (front ++ rest)) ≡ Some (t, rest) = token_found whole t (b ∷ front) rest h in rw (found, more) refl

  -- with fuel for a token and what is behind it
  with_fuel : (fuel front rest : List ℕ) (t : Token) (ts : List Token) → length (front ++ rest) ≤ length fuel → IsTokenAt whole t front rest → ((less : List ℕ) → length rest ≤ length less → tokens_from white (first_token whole) less (skip_spaces white rest) ≡ Some ts) → tokens_from white (first_token whole) fuel (front ++ rest) ≡ Some (t ∷ ts)
  with_fuel fuel [] rest t ts enough is more = absurd (token_some t rest is)
  with_fuel [] (b ∷ front) rest t ts enough is more = absurd (omega arith)
  with_fuel (f ∷ fuel) (b ∷ front) rest t ts enough is more = one_read fuel f (b ∷ front) rest t ts is (more fuel (omega (arith, length-append front rest)))

  tokens_read : (ts : List Token) (fuel text : List ℕ) → IsSpelled whole ts text → length text ≤ length fuel → tokens_from white (first_token whole) fuel (skip_spaces white text) ≡ Some ts
  tokens_read [] fuel text h enough = rw (skip_all text h) (at_end fuel)
  tokens_read (t ∷ ts) fuel text h enough =
      let found = token_found whole t h.front h.rest h.spelled in
      let skips : skip_spaces white text ≡ h.front ++ h.rest = ap (skip_spaces white) h.joined ∙ skip_gap h.gap (h.front ++ h.rest) h.spaces ∙ stays (h.front ++ h.rest) (t, h.rest) found in
      rw skips
      (with_fuel fuel h.front h.rest t ts (omega (arith, enough, ap length h.joined, length-append h.gap (h.front ++ h.rest))) h.spelled
      (λ less fits. tokens_read ts less h.rest h.behind fits))

  -- ---- the two laws of a result

  module _ {E : Type 0} (text : List ℕ) (r : Result (Option (List Token)) E) (is : IfOk r (λ found. found ≡ tokens_of white (first_token whole) text)) where
    pub result_spelled : IfOk r (λ found. IfSome found (λ tokens. IsSpelled whole tokens text))
    result_spelled = IfOk-weaker r (λ found. found ≡ tokens_of white (first_token whole) text) (λ found. IfSome found (λ tokens. IsSpelled whole tokens text)) (elim [
      | None ↦ λ e. tt
      | Some tokens ↦ λ e. with_skipped tokens text (tokens_sound text (skip_spaces white text) tokens (sym e))
    ]) is

    pub result_every : IfOk r (λ found. (tokens : List Token) → IsSpelled whole tokens text → found ≡ Some tokens)
    result_every = IfOk-weaker r (λ found. found ≡ tokens_of white (first_token whole) text) (λ found. (tokens : List Token) → IsSpelled whole tokens text → found ≡ Some tokens)
        (λ found e tokens h. e ∙ tokens_read tokens text text h (omega arith)) is
