-- Literals beside words: each token that stands clear is taken off where it is spelled, and is spelled where it is taken off.
use Rattle.std.proofs.Common.{◌≡◌, inl, inr, ℕ, suc, Bool, true, false, nat_eq, List, [], ◌∷◌, ◌++◌, length, take, drop, Option, Some, None, Result, option_map, if◌then◌else◌, IfOk, IfSome, refl, sym, ap, subst, ◌∙◌, append_assoc, take-append-drop, arith}
use Rattle.std.specs.List.{AllByRecursion}
use Rattle.std.proofs.lemmas.Bool.{false≢true}
use Rattle.std.proofs.lemmas.Bool.Decides.{Decides-eqb}
use Rattle.std.proofs.lemmas.Option.{some_pair_parts}
use Rattle.std.proofs.lemmas.Result.{IfOk-weaker}
use Rattle.std.proofs.Math.Seq.{take-append_seam, drop-append_seam}
use Rattle.lk_grammar.specs.Forms.{Form, IsText, IsJoined}
use Rattle.lk_grammar.specs.Words.{exactly, each_alone, first_word, IsFirst}
use Rattle.lk_grammar.specs.Tokens.{tokens_form, tokens_from, tokens_of, then_tokens, skip_spaces, IsBegun, IsLexer}
use Rattle.lk_grammar.specs.Literals.{is_ended, IsLiteralReader, token_form, first_of, token_starts, next_starts, is_token, is_next_token, IsClearToken, IsLiteralOf}
use Rattle.lk_grammar.specs.declared.literals.Token.{Token}
use Rattle.lk_grammar.specs.declared.literals.Token.TheVariants.{Word, Literal}
use Rattle.lk_grammar.proofs.WordLaws.{spaces_head, white_head, front_of, back_of, letters_head, letters_begun, first_spelled, first_before, by_head, one_text, text_one}

no_some : {A : Type 0} {x : A} → None ≡ Some x → ⊥
no_some e = cc

some_is : {A : Type 0} (x y : A) → Some x ≡ Some y → x ≡ y
some_is x y e = cc

is_some : (n : ℕ) → nat_eq (suc n) 0 ≡ false
is_some n =
    elim (nat_eq (suc n) 0) as (λ b. nat_eq (suc n) 0 ≡ b → b ≡ false) [
      | true ↦ λ h. absurd (let e : suc n ≡ 0 = (Decides-eqb (suc n) 0).0 h in omega arith)
      | false ↦ λ _. refl
    ] refl

-- bytes as they are written are spelled by themselves alone
pub exact_text : (bytes : List ℕ) → IsText (exactly bytes) bytes
exact_text [] = refl
exact_text (b ∷ bytes) = record { front = b ∷ []; back = bytes; joined = refl; first = one_text b; second = exact_text bytes }

pub text_exact : (bytes text : List ℕ) → IsText (exactly bytes) text → text ≡ bytes
text_exact [] text h = h
text_exact (b ∷ bytes) text h =
    h.joined ∙ ap (λ z. z ++ h.back) (text_one b h.front h.first) ∙ ap (λ z. b ∷ z) (text_exact bytes h.back h.second)

module _ {W : Type 0} (white : List ℕ) (letters_of : W → List ℕ) where
  -- a spelled token begins with one of its starts
  token_head : (P : List ℕ → Type 0) (token : Token W) (front : List ℕ) → is_token white letters_of token ≡ true → AllByRecursion P (token_starts letters_of token) → IsText (token_form letters_of token) front → (b : ℕ) × ((tail : List ℕ) × ((front ≡ b ∷ tail) × P (b ∷ [])))
  token_head P (Word word) front is f h = letters_head P white (letters_of word) front is f h
  token_head P (Literal []) front is f h = absurd (false≢true is)
  token_head P (Literal (b ∷ text)) front is f h = (b, (text, (text_exact (b ∷ text) front h, f.0)))

  -- what holds of each start of the next tokens, and of a text by its first byte, holds of them
  next_head : (P : List ℕ → Type 0) → ((b : ℕ) (tail : List ℕ) → P (b ∷ []) → P (b ∷ tail)) → (tokens : List (Token W)) (rest : List ℕ) → is_next_token white letters_of tokens ≡ true → AllByRecursion P (next_starts white letters_of tokens) → IsText (tokens_form white (token_form letters_of) tokens) rest → P rest
  next_head P more [] rest next f h =
      elim (spaces_head white rest h) [
        | inl e ↦ subst P (sym e) f.0
        | inr q ↦ subst P (sym q.is) (more q.head q.tail (white_head P white q.head f.1 q.space))
      ]
  next_head P more (token ∷ tokens) rest next f h =
      let first = h.first in
      let whole : first.front ++ (first.back ++ h.back) ≡ rest = sym (h.joined ∙ ap (λ z. z ++ h.back) first.joined ∙ append_assoc first.front first.back h.back) in
      elim (spaces_head white first.front first.first) [
        | inl e ↦
            let l = token_head P token first.back next (front_of P (token_starts letters_of token) (each_alone white) f) first.second in
            let begins : l.0 ∷ (l.1.0 ++ h.back) ≡ rest = ap (λ z. z ++ h.back) (sym l.1.1.0) ∙ ap (λ z. z ++ (first.back ++ h.back)) (sym e) ∙ whole in
            subst P begins (more l.0 (l.1.0 ++ h.back) l.1.1.1)
        | inr q ↦
            let begins : q.head ∷ (q.tail ++ (first.back ++ h.back)) ≡ rest = ap (λ z. z ++ (first.back ++ h.back)) (sym q.is) ∙ whole in
            subst P begins (more q.head (q.tail ++ (first.back ++ h.back)) (white_head P white q.head (back_of P (token_starts letters_of token) (each_alone white) f) q.space))
      ]

  module _ {form : Form} {goes_on : ℕ → Bool} {is_clear : List ℕ → Bool} {length_of : List ℕ → ℕ} (reader : IsLiteralReader white form goes_on is_clear length_of) (table : List W) where
    before : (text rest : List ℕ) (token : Token W) → first_of letters_of length_of table text ≡ Some (token, rest) → IsJoined (IsText (token_form letters_of token)) (λ back. back ≡ rest) text
    before text rest token e =
        elim (nat_eq (length_of text) 0) as (λ b. (if b then option_map {U = Token W × List ℕ} (λ first. (Word first.0, first.1)) (first_word letters_of table text) else Some (Literal (take (length_of text) text), drop (length_of text) text)) ≡ Some (token, rest) → IsJoined (IsText (token_form letters_of token)) (λ back. back ≡ rest) text) [
          | true ↦ λ e.
              elim (first_word letters_of table text) as (λ o. first_word letters_of table text ≡ o → option_map {U = Token W × List ℕ} (λ first. (Word first.0, first.1)) o ≡ Some (token, rest) → IsJoined (IsText (token_form letters_of token)) (λ back. back ≡ rest) text) [
                | None ↦ λ _ e. absurd (no_some e)
                | Some first ↦ λ is e.
                    let parts = some_pair_parts (Word first.0) token first.1 rest e in
                    let h = first_before letters_of table text first.1 first.0 is in
                    subst (λ t. IsJoined (IsText (token_form letters_of t)) (λ back. back ≡ rest) text) parts.0
                    (record { front = h.front; back = h.back; joined = h.joined; first = h.first; second = h.second ∙ parts.1 })
              ] refl e
          | false ↦ λ e.
              let parts = some_pair_parts (Literal (take (length_of text) text)) token (drop (length_of text) text) rest e in
              subst (λ t. IsJoined (IsText (token_form letters_of t)) (λ back. back ≡ rest) text) parts.0
              (record { front = take (length_of text) text; back = drop (length_of text) text; joined = sym (take-append-drop (length_of text) text); first = exact_text (take (length_of text) text); second = parts.1 })
        ] e

    taken : (literal rest : List ℕ) → length_of (literal ++ rest) ≡ length literal → nat_eq (length literal) 0 ≡ false → first_of letters_of length_of table (literal ++ rest) ≡ Some (Literal literal, rest)
    taken literal rest e some = rw (e, some) (ap Some (λ i. (Literal (take-append_seam literal rest i), drop-append_seam literal rest i)))

    found : (token : Token W) (tokens : List (Token W)) (front rest : List ℕ) → IsClearToken white letters_of form goes_on is_clear table token tokens → IsText (token_form letters_of token) front → IsText (tokens_form white (token_form letters_of) tokens) rest → first_of letters_of length_of table (front ++ rest) ≡ Some (token, rest)
    found (Word word) tokens front rest clear h r =
        let none = reader.clear (letters_of word) front rest clear.no_literal h in
        let first = first_spelled letters_of table word front rest (next_head (IsFirst letters_of table word) (λ b tail f. by_head letters_of table word b tail f) tokens rest clear.is_next clear.first r) h in
        rw (none, first) refl
    found (Literal text) tokens front rest clear h r =
        let ended = next_head (λ start. is_ended goes_on start ≡ true) (λ b tail f. f) tokens rest clear.is_next clear.ended r in
        let same = text_exact text front h in
        let b = reader.begun text clear.is_one in
        let some : nat_eq (length text) 0 ≡ false = ap (λ z. nat_eq (length z) 0) b.is ∙ is_some (length b.tail) in
        subst (λ z. first_of letters_of length_of table (z ++ rest) ≡ Some (Literal text, rest)) (sym same) (taken text rest (reader.found text rest clear.is_one ended) some)

    begun : (token : Token W) (tokens : List (Token W)) (front : List ℕ) → IsClearToken white letters_of form goes_on is_clear table token tokens → IsText (token_form letters_of token) front → IsBegun white front
    begun (Word word) tokens front clear h = letters_begun white (letters_of word) front clear.is_one h
    begun (Literal text) tokens front clear h = subst (IsBegun white) (sym (text_exact text front h)) (reader.begun text clear.is_one)

    -- words and literals are a lexer's tokens
    pub tokens_lex : IsLexer white (token_form letters_of) (IsClearToken white letters_of form goes_on is_clear table) (first_of letters_of length_of table)
    tokens_lex = record { before = before; found = found; begun = begun }

    -- a literal that is taken off is one
    first_is_one : (text rest : List ℕ) (token : Token W) → first_of letters_of length_of table text ≡ Some (token, rest) → IsLiteralOf form token
    first_is_one text rest token e =
        elim (nat_eq (length_of text) 0) as (λ b. nat_eq (length_of text) 0 ≡ b → (if b then option_map {U = Token W × List ℕ} (λ first. (Word first.0, first.1)) (first_word letters_of table text) else Some (Literal (take (length_of text) text), drop (length_of text) text)) ≡ Some (token, rest) → IsLiteralOf form token) [
          | true ↦ λ _ e.
              elim (first_word letters_of table text) as (λ o. option_map {U = Token W × List ℕ} (λ first. (Word first.0, first.1)) o ≡ Some (token, rest) → IsLiteralOf form token) [
                | None ↦ λ e. absurd (no_some e)
                | Some first ↦ λ e. subst (IsLiteralOf form) (some_pair_parts (Word first.0) token first.1 rest e).0 tt
              ] e
          | false ↦ λ some e. subst (IsLiteralOf form) (some_pair_parts (Literal (take (length_of text) text)) token (drop (length_of text) text) rest e).0 (reader.before text some)
        ] refl e

    all_ones : (fuel text : List ℕ) (tokens : List (Token W)) → tokens_from white (first_of letters_of length_of table) fuel text ≡ Some tokens → AllByRecursion (IsLiteralOf form) tokens
    all_ones [] [] tokens e = subst (AllByRecursion (IsLiteralOf form)) (some_is _ _ e) tt
    all_ones [] (b ∷ text) tokens e = absurd (no_some e)
    all_ones (f ∷ fuel) [] tokens e = subst (AllByRecursion (IsLiteralOf form)) (some_is _ _ e) tt
    all_ones (f ∷ fuel) (b ∷ text) tokens e =
        elim (first_of letters_of length_of table (b ∷ text)) as (λ o. first_of letters_of length_of table (b ∷ text) ≡ o → then_tokens o (λ rest. tokens_from white (first_of letters_of length_of table) fuel (skip_spaces white rest)) ≡ Some tokens → AllByRecursion (IsLiteralOf form) tokens) [
          | None ↦ λ _ e. absurd (no_some e)
          | Some first ↦ λ is e.
              elim (tokens_from white (first_of letters_of length_of table) fuel (skip_spaces white first.1)) as (λ o. tokens_from white (first_of letters_of length_of table) fuel (skip_spaces white first.1) ≡ o → option_map (λ more. first.0 ∷ more) o ≡ Some tokens → AllByRecursion (IsLiteralOf form) tokens) [
                | None ↦ λ _ e. absurd (no_some e)
                | Some more ↦ λ rest e.
                    subst (AllByRecursion (IsLiteralOf form)) (some_is _ _ e)
                    (first_is_one (b ∷ text) first.1 first.0 is, all_ones fuel (skip_spaces white first.1) more rest)
              ] refl e
        ] refl e

module _ {W E : Type 0} {white : List ℕ} (letters_of : W → List ℕ) {form : Form} {goes_on : ℕ → Bool} {is_clear : List ℕ → Bool} {length_of : List ℕ → ℕ} (reader : IsLiteralReader white form goes_on is_clear length_of) (table : List W) (text : List ℕ) (r : Result (Option (List (Token W))) E) (is : IfOk r (λ found. found ≡ tokens_of white (first_of letters_of length_of table) text)) where
  pub result_literals : IfOk r (λ found. IfSome found (AllByRecursion (IsLiteralOf form)))
  result_literals = IfOk-weaker r (λ found. found ≡ tokens_of white (first_of letters_of length_of table) text) (λ found. IfSome found (AllByRecursion (IsLiteralOf form))) (elim [
    | None ↦ λ e. tt
    | Some tokens ↦ λ e. all_ones white letters_of reader table text (skip_spaces white text) tokens (sym e)
  ]) is
