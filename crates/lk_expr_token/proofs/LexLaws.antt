-- The token in front of a text is spelled there, and a token that a text spells is the one in front of it.
use Rattle.std.proofs.Common.{◌≡◌, inl, inr, ◌⊎◌, ℕ, ◌-◌, suc, Bool, true, false, not, ◌&&◌, ◌||◌, nat_eq, if◌then◌else◌, List, [], ◌∷◌, ◌++◌, length, take, drop, Option, Some, None, option_map, refl, sym, ap, subst, ◌∙◌, append_assoc, arith}
use Rattle.std.specs.Prelude.{◌==◌, codes}
use Rattle.std.specs.Char.{is_ascii_digit}
use Rattle.std.specs.Cmp.Lexicographic.{pointwise, bytes_decides}
use Rattle.std.specs.Str.{is_utf8}
use Rattle.std.specs.List.{list_all}
use Rattle.std.proofs.lemmas.Bool.{false≢true}
use Rattle.std.proofs.lemmas.Bool.Decides.{nat_tests}
use Rattle.std.proofs.lemmas.Option.{some_pair_parts, same_Some}
use Rattle.std.proofs.lemmas.List.{take-append-drop}
use Rattle.std.proofs.Math.Dec.{eqb-suc-zero}
use Rattle.std.proofs.Math.Seq.{take-append_seam, drop-append_seam}
use Rattle.lk_types.specs.declared.expr.Comparison.{Comparison}
use Rattle.lk_types.specs.declared.expr.Comparison.TheVariants as comparison
use Rattle.lk_grammar.specs.Forms.{IsText}
use Rattle.lk_grammar.specs.Numbers.{unsigned_number, unsigned_length, digit_count, is_digit, is_of_number}
use Rattle.lk_grammar.specs.Literals.{is_ended}
use Rattle.lk_grammar.proofs.NumberLaws.{unsigned_reader}
use Rattle.lk_expr_token.specs.declared.token.Sign.{Sign}
use Rattle.lk_expr_token.specs.declared.token.Sign.TheVariants as sign
use Rattle.lk_expr_token.specs.declared.token.Token.{Token}
use Rattle.lk_expr_token.specs.declared.token.Token.TheVariants as token
use Rattle.lk_expr_token.specs.Tokens.{is_name_byte, is_name, is_letter, is_bare, is_number, keyword_of, doubled, goes_on, sign_text, IsComparisonText, IsColumnText, IsTokenAt}
use Rattle.lk_expr_token.specs.Lexing.{Found, first_name, first_characters, word_or_name, first_word, first_number, text_token, bare_column, column_token, closed_column, field_token, closed_field, reference_token, first_reference, one_byte, two_bytes, or_one_byte, first_sign, first_token}
use Rattle.lk_expr_token.proofs.LexSteps.{same, differs, is_false, turned, both, together, ways, no_some, IsNamed, name_sound, name_found, bare_named, characters_found, characters_sound}

-- of a text of so many bytes
module _ (whole : ℕ) where
  -- ---- a token that is spelled is found

  letter_no_digit : (b : ℕ) → is_letter b ≡ true → is_ascii_digit b ≡ false
  letter_no_digit b h = grind (arith, nat_tests)

  by_letter : (b : ℕ) (text : List ℕ) → is_letter b ≡ true → first_token whole (b ∷ text) ≡ first_word whole (b ∷ text)
  unfolding first_token
  by_letter b text h = rw (letter_no_digit b h, h) refl

  pub by_digit : (b : ℕ) (text : List ℕ) → is_ascii_digit b ≡ true → first_token whole (b ∷ text) ≡ first_number (b ∷ text)
  unfolding first_token
  by_digit b text h = rw h refl

  abbrev word_of : ℕ → List ℕ × List ℕ → Token × List ℕ
  word_of place n = (word_or_name n.0 place (keyword_of n.0), n.1)

  word_found : (name rest : List ℕ) → is_bare name ≡ true → is_ended is_name_byte rest ≡ true → first_token whole (name ++ rest) ≡ Some (word_or_name name (whole - length (name ++ rest)) (keyword_of name), rest)
  word_found [] rest h e = absurd (false≢true h)
  word_found (b ∷ name) rest h e =
      let p = both (is_letter b) (list_all is_name_byte name) h in
      by_letter b (name ++ rest) p.0 ∙ ap (option_map (word_of (whole - length ((b ∷ name) ++ rest)))) (name_found (b ∷ name) rest (bare_named (b ∷ name) h) e)

  pub no_digits : (b : ℕ) (text : List ℕ) → is_ascii_digit b ≡ false → unsigned_length (b ∷ text) ≡ 0
  no_digits b text h = let none : is_digit b ≡ false = grind (arith, nat_tests) in rw none refl

  number_taken : (number rest : List ℕ) → unsigned_length (number ++ rest) ≡ length number → is_number number ≡ true → is_ended is_of_number rest ≡ true → first_number (number ++ rest) ≡ Some (token.Number number, rest)
  number_taken number rest l range e = rw (l, take-append_seam number rest, drop-append_seam number rest, range, e) refl

  number_found : (number rest : List ℕ) → IsText unsigned_number number → is_number number ≡ true → is_ended is_of_number rest ≡ true → first_token whole (number ++ rest) ≡ Some (token.Number number, rest)
  number_found [] rest is range e = let b = (unsigned_reader [] refl).begun [] is in absurd (let f : ⊥ = cc (b.is) in f)
  number_found (b ∷ number) rest is range e =
      let l = (unsigned_reader [] refl).found (b ∷ number) rest is e in
      elim (is_ascii_digit b) as (λ d. is_ascii_digit b ≡ d → first_token whole (b ∷ (number ++ rest)) ≡ Some (token.Number (b ∷ number), rest)) [
        | true ↦ λ d. by_digit b (number ++ rest) d ∙ number_taken (b ∷ number) rest l range e
        | false ↦ λ d. absurd (let z : suc (length number) ≡ 0 = sym l ∙ no_digits b (number ++ rest) d in omega arith)
      ] refl

  text_found : (characters rest : List ℕ) → is_utf8 characters ≡ true → is_ended (nat_eq 39) rest ≡ true → first_token whole ((39 ∷ (doubled characters ++ 39 ∷ [])) ++ rest) ≡ Some (token.Text characters, rest)
  unfolding first_token
  text_found characters rest is e =
      rw (append_assoc (doubled characters) (39 ∷ []) rest) (ap text_token (characters_found characters rest e) ∙ rw is refl)

  isnt_byte : (k b : ℕ) → not (nat_eq k b) ≡ true → (b == k) ≡ false
  isnt_byte k b h = is_false (b == k) (λ e. differs k b (turned (nat_eq k b) h) (sym (same b k e)))

  field_plain : (name rest : List ℕ) → is_ended (nat_eq 46) rest ≡ true → field_token name rest ≡ Some (token.Field name, rest)
  field_plain name [] e = refl
  field_plain name (b ∷ rest) e = rw (isnt_byte 46 b e) refl

  field_found : (name rest : List ℕ) → is_name name ≡ true → is_ended (nat_eq 46) rest ≡ true → first_token whole ((codes "${" ++ (name ++ codes "}")) ++ rest) ≡ Some (token.Field name, rest)
  unfolding first_token
  field_found name rest is e = rw (append_assoc name (125 ∷ []) rest) (ap reference_token (name_found name (125 ∷ rest) is refl) ∙ field_plain name rest e)

  field_of_found : (view name rest : List ℕ) → is_name view ≡ true → is_name name ≡ true → first_token whole ((codes "${" ++ (view ++ (codes "." ++ (name ++ codes "}")))) ++ rest) ≡ Some (token.FieldOf view name, rest)
  unfolding first_token
  field_of_found view name rest v n =
      rw (append_assoc view (46 ∷ (name ++ 125 ∷ [])) rest, append_assoc name (125 ∷ []) rest)
      (ap reference_token (name_found view (46 ∷ (name ++ 125 ∷ rest)) v refl) ∙ ap (closed_field view) (name_found name (125 ∷ rest) n refl))

  no_quote : (b : ℕ) → is_name_byte b ≡ true → ((b == 34) || (b == 96)) ≡ false
  no_quote b h = grind (arith, nat_tests)

  bare_found : (name rest : List ℕ) → is_name name ≡ true → is_ended is_name_byte rest ≡ true → column_token (name ++ rest) ≡ Some (token.Column name, rest)
  bare_found [] rest is e = absurd (false≢true is)
  bare_found (b ∷ name) rest is e =
      let p = both (is_name_byte b) (list_all is_name_byte name) is in
      quoteless b (name ++ rest) (no_quote b p.0) ∙ ap bare_column (name_found (b ∷ name) rest is e)
    where
      quoteless : (b : ℕ) (text : List ℕ) → ((b == 34) || (b == 96)) ≡ false → column_token (b ∷ text) ≡ bare_column (first_name (b ∷ text))
      quoteless b text h = rw h refl

  column_found : (name text rest : List ℕ) → is_name name ≡ true → IsColumnText name text rest → first_token whole (text ++ rest) ≡ Some (token.Column name, rest)
  unfolding first_token
  column_found name text rest is h =
      elim h [
        | inl p ↦ rw p.0 (bare_found name rest is p.1)
        | inr q ↦
            elim q [
              | inl r ↦ rw (r, append_assoc name (34 ∷ []) rest) (ap (closed_column 34) (name_found name (34 ∷ rest) is refl))
              | inr r ↦ rw (r, append_assoc name (96 ∷ []) rest) (ap (closed_column 96) (name_found name (96 ∷ rest) is refl))
            ]
      ]

  either_not : (a b : Bool) → not (a || b) ≡ true → (a ≡ false) × (b ≡ false)
  either_not true b h = absurd (false≢true h)
  either_not false b h = (refl, turned b h)

  less_found : (rest : List ℕ) → is_ended (goes_on comparison.Less) rest ≡ true → first_token whole (60 ∷ rest) ≡ Some (token.Compare comparison.Less, rest)
  unfolding first_token
  less_found [] e = refl
  less_found (b ∷ rest) e = let p = either_not (b == 61) (b == 62) e in rw (p.0, p.1) refl

  greater_found : (rest : List ℕ) → is_ended (goes_on comparison.Greater) rest ≡ true → first_token whole (62 ∷ rest) ≡ Some (token.Compare comparison.Greater, rest)
  unfolding first_token
  greater_found [] e = refl
  greater_found (b ∷ rest) e = rw (turned (b == 61) e) refl

  equal_found : (rest : List ℕ) → first_token whole (61 ∷ rest) ≡ Some (token.Compare comparison.Equal, rest)
  unfolding first_token
  equal_found [] = refl
  equal_found (b ∷ rest) = refl

  comparison_found : (c : Comparison) (text rest : List ℕ) → IsComparisonText c text → is_ended (goes_on c) rest ≡ true → first_token whole (text ++ rest) ≡ Some (token.Compare c, rest)
  unfolding first_token
  comparison_found comparison.Equal text rest h e = rw h (equal_found rest)
  comparison_found comparison.NotEqual text rest h e = elim h [ inl p ↦ rw p refl | inr q ↦ rw q refl ]
  comparison_found comparison.Less text rest h e = rw h (less_found rest e)
  comparison_found comparison.AtMost text rest h e = rw h refl
  comparison_found comparison.Greater text rest h e = rw h (greater_found rest e)
  comparison_found comparison.AtLeast text rest h e = rw h refl

  sign_found : (s : Sign) (rest : List ℕ) → first_token whole (sign_text s ++ rest) ≡ Some (token.Sign s, rest)
  unfolding first_token
  sign_found sign.Plus [] = refl
  sign_found sign.Plus (b ∷ rest) = refl
  sign_found sign.Minus [] = refl
  sign_found sign.Minus (b ∷ rest) = refl
  sign_found sign.Concat rest = refl
  sign_found sign.Times [] = refl
  sign_found sign.Times (b ∷ rest) = refl
  sign_found sign.Over [] = refl
  sign_found sign.Over (b ∷ rest) = refl
  sign_found sign.Open [] = refl
  sign_found sign.Open (b ∷ rest) = refl
  sign_found sign.Close [] = refl
  sign_found sign.Close (b ∷ rest) = refl
  sign_found sign.Comma [] = refl
  sign_found sign.Comma (b ∷ rest) = refl

  named_at : (name : List ℕ) (p q : ℕ) (rest : List ℕ) → p ≡ q → ◌≡◌ {A = Found} (Some (token.Name name p, rest)) (Some (token.Name name q, rest))
  named_at name p q rest e = λ i. Some (token.Name name (e i), rest)

  -- a token that a text spells is the one in front of it
  pub token_found : (t : Token) (text rest : List ℕ) → IsTokenAt whole t text rest → first_token whole (text ++ rest) ≡ Some (t, rest)
  token_found (token.Word k) text rest h = word_found text rest h.0 h.2 ∙ rw h.1 refl
  token_found (token.Name name place) text rest h = rw h.0 (word_found name rest h.1 h.3 ∙ rw h.2 (named_at name (whole - length (name ++ rest)) place rest (sym (h.4 ∙ ap (λ z. whole - length (z ++ rest)) h.0))))
  token_found (token.Compare c) text rest h = comparison_found c text rest h.0 h.1
  token_found (token.Sign s) text rest h = rw h (sign_found s rest)
  token_found (token.Number number) text rest h = rw h.0 (number_found number rest h.1 h.2 h.3)
  token_found (token.Text characters) text rest h = rw h.0 (text_found characters rest h.1 h.2)
  token_found (token.Column name) text rest h = column_found name text rest h.0 h.1
  token_found (token.Field name) text rest h = rw h.0 (field_found name rest h.1 h.2)
  token_found (token.FieldOf view name) text rest h = rw h.0 (field_of_found view name rest h.1 h.2)

  -- ---- a token that is found is spelled

  -- the text begins with the token, and what is behind it is the rest
  pub record IsTaken (t : Token) (rest text : List ℕ) : Type 0 where
    pub front : List ℕ
    pub joined : text ≡ front ++ rest
    pub spelled : IsTokenAt whole t front rest

  taken_as : (t u : Token) (r rest text : List ℕ) → ◌≡◌ {A = Option (Token × List ℕ)} (Some (t, r)) (Some (u, rest)) → IsTaken t r text → IsTaken u rest text
  taken_as t u r rest text h is =
      let parts = some_pair_parts t u r rest h in
      subst (λ z. IsTaken z rest text) parts.0 (subst (λ z. IsTaken t z text) parts.1 is)

  bare_of : (b : ℕ) (text name rest : List ℕ) → b ∷ text ≡ name ++ rest → is_name name ≡ true → is_letter b ≡ true → is_bare name ≡ true
  bare_of b text [] rest e is l = absurd (false≢true is)
  bare_of b text (c ∷ name) rest e is l =
      let first : b ≡ c = cc in
      together (is_letter c) (list_all is_name_byte name) (subst (λ z. is_letter z ≡ true) first l) (both (is_name_byte c) (list_all is_name_byte name) is).1

  word_is : (name rest text : List ℕ) (t : Token) (r : List ℕ) → IsNamed name rest text → is_bare name ≡ true → ◌≡◌ {A = Option (Token × List ℕ)} (Some (word_of (whole - length text) (name, rest))) (Some (t, r)) → IsTaken t r text
  word_is name rest text t r is bare h =
      elim (keyword_of name) as (λ k. keyword_of name ≡ k → ◌≡◌ {A = Option (Token × List ℕ)} (Some (word_or_name name (whole - length text) k, rest)) (Some (t, r)) → IsTaken t r text) [
        | None ↦ λ k h. taken_as (token.Name name (whole - length text)) t rest r text h (record { front = name; joined = is.joined; spelled = (refl, bare, k, is.ended, ap (λ z. whole - length z) is.joined) })
        | Some word ↦ λ k h. taken_as (token.Word word) t rest r text h (record { front = name; joined = is.joined; spelled = (bare, k, is.ended) })
      ] refl h

  word_sound : (b : ℕ) (text : List ℕ) (t : Token) (rest : List ℕ) → is_letter b ≡ true → first_word whole (b ∷ text) ≡ Some (t, rest) → IsTaken t rest (b ∷ text)
  word_sound b text t rest l h =
      elim (first_name (b ∷ text)) as (λ o. first_name (b ∷ text) ≡ o → option_map (word_of (whole - length (b ∷ text))) o ≡ Some (t, rest) → IsTaken t rest (b ∷ text)) [
        | None ↦ λ _ h. absurd (no_some (t, rest) h)
        | Some n ↦ λ e h.
            let is = name_sound (b ∷ text) n.0 n.1 e in
            word_is n.0 n.1 (b ∷ text) t rest is (bare_of b text n.0 n.1 is.joined is.is l) h
      ] refl h

  some_digits : (b : ℕ) (text : List ℕ) → is_ascii_digit b ≡ true → nat_eq (unsigned_length (b ∷ text)) 0 ≡ false
  some_digits b text h = let is : is_digit b ≡ true = grind (arith, nat_tests) in rw (is, eqb-suc-zero (digit_count text)) (is_false _ (λ e. let z = same _ 0 e in omega arith))

  number_sound : (b : ℕ) (text : List ℕ) (t : Token) (rest : List ℕ) → is_ascii_digit b ≡ true → first_number (b ∷ text) ≡ Some (t, rest) → IsTaken t rest (b ∷ text)
  number_sound b text t rest d h =
      let n = unsigned_length (b ∷ text) in
      let number = take n (b ∷ text) in
      let behind = drop n (b ∷ text) in
      elim (ways (is_number number && is_ended is_of_number behind) (Some (token.Number number, behind)) None (t, rest) h) [
        | inl p ↦
            let tests = both (is_number number) (is_ended is_of_number behind) p.0 in
            taken_as (token.Number number) t behind rest (b ∷ text) p.1
            (record { front = number; joined = sym (take-append-drop n (b ∷ text)); spelled = (refl, (unsigned_reader [] refl).before (b ∷ text) (some_digits b text d), tests.0, tests.1) })
        | inr p ↦ absurd (no_some (t, rest) p.1)
      ]

  text_sound : (text : List ℕ) (t : Token) (rest : List ℕ) → text_token (first_characters text) ≡ Some (t, rest) → IsTaken t rest (39 ∷ text)
  text_sound text t rest h =
      elim (first_characters text) as (λ o. first_characters text ≡ o → text_token o ≡ Some (t, rest) → IsTaken t rest (39 ∷ text)) [
        | None ↦ λ _ h. absurd (no_some (t, rest) h)
        | Some c ↦ λ e h.
            elim (ways (is_utf8 c.0) (Some (token.Text c.0, c.1)) None (t, rest) h) [
              | inl p ↦
                  let is = characters_sound text c.0 c.1 e in
                  taken_as (token.Text c.0) t c.1 rest (39 ∷ text) p.1
                  (record { front = 39 ∷ (doubled c.0 ++ 39 ∷ []); joined = ap (λ z. 39 ∷ z) (is.joined ∙ sym (append_assoc (doubled c.0) (39 ∷ []) c.1)); spelled = (refl, p.0, is.ended) })
              | inr p ↦ absurd (no_some (t, rest) p.1)
            ]
      ] refl h

  -- a name that a byte closes, and the token that it makes
  pub record IsClosed (make : List ℕ → Token) (closing : ℕ) (t : Token) (rest text : List ℕ) : Type 0 where
    pub name : List ℕ
    pub is : is_name name ≡ true
    pub token : t ≡ make name
    pub joined : text ≡ name ++ (closing ∷ rest)

  closed_by : (make : List ℕ → Token) (closing c : ℕ) (t : Token) (name r rest text : List ℕ) → IsNamed name (c ∷ r) text → if◌then◌else◌ {A = Found} (c == closing) (Some (make name, r)) None ≡ Some (t, rest) → IsClosed make closing t rest text
  closed_by make closing c t name r rest text is h =
      elim (ways (c == closing) (Some (make name, r)) None (t, rest) h) [
        | inl p ↦
            let parts = some_pair_parts (make name) t r rest p.1 in
            record { name = name; is = is.is; token = sym parts.0; joined = is.joined ∙ (λ i. name ++ (same c closing p.0 i ∷ parts.1 i)) }
        | inr p ↦ absurd (no_some (t, rest) p.1)
      ]

  column_closed : (closing : ℕ) (t : Token) (name behind rest text : List ℕ) → IsNamed name behind text → closed_column closing (Some (name, behind)) ≡ Some (t, rest) → IsClosed token.Column closing t rest text
  column_closed closing t name [] rest text is h = absurd (no_some (t, rest) h)
  column_closed closing t name (c ∷ r) rest text is h = closed_by token.Column closing c t name r rest text is h

  field_closed : (view : List ℕ) (t : Token) (name behind rest text : List ℕ) → IsNamed name behind text → closed_field view (Some (name, behind)) ≡ Some (t, rest) → IsClosed (token.FieldOf view) 125 t rest text
  field_closed view t name [] rest text is h = absurd (no_some (t, rest) h)
  field_closed view t name (c ∷ r) rest text is h = closed_by (token.FieldOf view) 125 c t name r rest text is h

  pub either_is : (a b : Bool) → (a || b) ≡ true → (a ≡ true) ⊎ (b ≡ true)
  either_is true b h = inl refl
  either_is false b h = inr h

  -- a column, behind what begins it
  closed_is : (t : Token) (b : ℕ) (rest text : List ℕ) → ((b == 34) || (b == 96)) ≡ true → IsClosed token.Column b t rest text → IsTaken t rest (codes "${TABLE}." ++ (b ∷ text))
  closed_is t b rest text q c =
      elim (either_is (b == 34) (b == 96) q) [
        | inl e ↦
            let joined = c.joined ∙ ap (λ z. c.name ++ (z ∷ rest)) (same b 34 e) ∙ sym (append_assoc c.name (34 ∷ []) rest) in
            subst (λ z. IsTaken z rest (codes "${TABLE}." ++ (b ∷ text))) (sym c.token)
            (record { front = codes "${TABLE}.\"" ++ (c.name ++ codes "\""); joined = (λ i. codes "${TABLE}." ++ (same b 34 e i ∷ joined i)); spelled = (c.is, inr (inl refl)) })
        | inr e ↦
            let joined = c.joined ∙ ap (λ z. c.name ++ (z ∷ rest)) (same b 96 e) ∙ sym (append_assoc c.name (96 ∷ []) rest) in
            subst (λ z. IsTaken z rest (codes "${TABLE}." ++ (b ∷ text))) (sym c.token)
            (record { front = codes "${TABLE}.`" ++ (c.name ++ codes "`"); joined = (λ i. codes "${TABLE}." ++ (same b 96 e i ∷ joined i)); spelled = (c.is, inr (inr refl)) })
      ]

  column_is : (t : Token) (rest text : List ℕ) → column_token text ≡ Some (t, rest) → IsTaken t rest (codes "${TABLE}." ++ text)
  column_is t rest [] h = absurd (no_some (t, rest) h)
  column_is t rest (b ∷ text) h =
      elim (ways ((b == 34) || (b == 96)) (closed_column b (first_name text)) (bare_column (first_name (b ∷ text))) (t, rest) h) [
        | inl p ↦
            elim (first_name text) as (λ o. first_name text ≡ o → closed_column b o ≡ Some (t, rest) → IsTaken t rest (codes "${TABLE}." ++ (b ∷ text))) [
              | None ↦ λ _ h. absurd (no_some (t, rest) h)
              | Some n ↦ λ e h. closed_is t b rest text p.0 (column_closed b t n.0 n.1 rest text (name_sound text n.0 n.1 e) h)
            ] refl p.1
        | inr p ↦
            elim (first_name (b ∷ text)) as (λ o. first_name (b ∷ text) ≡ o → bare_column o ≡ Some (t, rest) → IsTaken t rest (codes "${TABLE}." ++ (b ∷ text))) [
              | None ↦ λ _ h. absurd (no_some (t, rest) h)
              | Some n ↦ λ e h.
                  let is = name_sound (b ∷ text) n.0 n.1 e in
                  taken_as (token.Column n.0) t n.1 rest (codes "${TABLE}." ++ (b ∷ text)) h
                  (record { front = codes "${TABLE}." ++ n.0; joined = ap (λ z. codes "${TABLE}." ++ z) is.joined; spelled = (is.is, inl (refl, is.ended)) })
            ] refl p.1
      ]

  plain_is : (name rest text : List ℕ) (t : Token) (r : List ℕ) → is_name name ≡ true → text ≡ codes "${" ++ (name ++ (125 ∷ rest)) → is_ended (nat_eq 46) rest ≡ true → ◌≡◌ {A = Option (Token × List ℕ)} (Some (token.Field name, rest)) (Some (t, r)) → IsTaken t r text
  plain_is name rest text t r is e ends h =
      taken_as (token.Field name) t rest r text h
      (record { front = codes "${" ++ (name ++ codes "}"); joined = e ∙ ap (λ z. codes "${" ++ z) (sym (append_assoc name (125 ∷ []) rest)); spelled = (refl, is, ends) })

  field_sound : (name rest text : List ℕ) (t : Token) (r : List ℕ) → is_name name ≡ true → text ≡ codes "${" ++ (name ++ (125 ∷ rest)) → field_token name rest ≡ Some (t, r) → IsTaken t r text
  field_sound name [] text t r is e h = plain_is name [] text t r is e refl h
  field_sound name (b ∷ rest) text t r is e h =
      elim (ways (b == 46) (if pointwise nat_eq name (codes "TABLE") then column_token rest else None) (Some (token.Field name, b ∷ rest)) (t, r) h) [
        | inl p ↦
            elim (ways (pointwise nat_eq name (codes "TABLE")) (column_token rest) None (t, r) p.1) [
              | inl q ↦
                  let table : name ≡ codes "TABLE" = (bytes_decides name (codes "TABLE")).0 q.0 in
                  let whole : text ≡ codes "${TABLE}." ++ rest = e ∙ (λ i. codes "${" ++ (table i ++ (125 ∷ same b 46 p.0 i ∷ rest))) in
                  subst (IsTaken t r) (sym whole) (column_is t r rest q.1)
              | inr q ↦ absurd (no_some (t, r) q.1)
            ]
        | inr p ↦ plain_is name (b ∷ rest) text t r is e (rw (is_false (nat_eq 46 b) (λ z. differs b 46 p.0 (sym (same 46 b z)))) refl) p.1
      ]

  field_of_is : (view text : List ℕ) (t : Token) (rest whole : List ℕ) → is_name view ≡ true → whole ≡ codes "${" ++ (view ++ (46 ∷ text)) → IsClosed (token.FieldOf view) 125 t rest text → IsTaken t rest whole
  field_of_is view text t rest whole is e c =
      let inside : text ≡ (c.name ++ 125 ∷ []) ++ rest = c.joined ∙ sym (append_assoc c.name (125 ∷ []) rest) in
      subst (λ z. IsTaken z rest whole) (sym c.token)
      (record {
        front = codes "${" ++ (view ++ (codes "." ++ (c.name ++ codes "}")));
        joined = e ∙ ap (λ z. codes "${" ++ (view ++ (46 ∷ z))) inside ∙ ap (λ z. codes "${" ++ z) (sym (append_assoc view (46 ∷ (c.name ++ 125 ∷ [])) rest));
        spelled = (refl, is, c.is);
      })

  reference_is : (text name behind : List ℕ) (t : Token) (rest : List ℕ) → IsNamed name behind text → reference_token (Some (name, behind)) ≡ Some (t, rest) → IsTaken t rest (codes "${" ++ text)
  reference_is text name [] t rest is h = absurd (no_some (t, rest) h)
  reference_is text name (c ∷ r) t rest is h =
      elim (ways (c == 125) (field_token name r) (if c == 46 then closed_field name (first_name r) else None) (t, rest) h) [
        | inl p ↦ field_sound name r (codes "${" ++ text) t rest is.is (ap (λ z. codes "${" ++ z) (is.joined ∙ ap (λ z. name ++ (z ∷ r)) (same c 125 p.0))) p.1
        | inr p ↦
            elim (ways (c == 46) (closed_field name (first_name r)) None (t, rest) p.1) [
              | inl q ↦
                  elim (first_name r) as (λ o. first_name r ≡ o → closed_field name o ≡ Some (t, rest) → IsTaken t rest (codes "${" ++ text)) [
                    | None ↦ λ _ h. absurd (no_some (t, rest) h)
                    | Some n ↦ λ e h.
                        field_of_is name r t rest (codes "${" ++ text) is.is (ap (λ z. codes "${" ++ z) (is.joined ∙ ap (λ z. name ++ (z ∷ r)) (same c 46 q.0)))
                        (field_closed name t n.0 n.1 rest r (name_sound r n.0 n.1 e) h)
                  ] refl q.1
              | inr q ↦ absurd (no_some (t, rest) q.1)
            ]
      ]

  reference_sound : (text : List ℕ) (t : Token) (rest : List ℕ) → first_reference text ≡ Some (t, rest) → IsTaken t rest (36 ∷ text)
  reference_sound [] t rest h = absurd (no_some (t, rest) h)
  reference_sound (b ∷ text) t rest h =
      elim (ways (b == 123) (reference_token (first_name text)) None (t, rest) h) [
        | inl p ↦
            elim (first_name text) as (λ o. first_name text ≡ o → reference_token o ≡ Some (t, rest) → IsTaken t rest (36 ∷ b ∷ text)) [
              | None ↦ λ _ h. absurd (no_some (t, rest) h)
              | Some n ↦ λ e h. rw (same b 123 p.0) (reference_is text n.0 n.1 t rest (name_sound text n.0 n.1 e) h)
            ] refl p.1
        | inr p ↦ absurd (no_some (t, rest) p.1)
      ]

  -- ---- signs

  never_ends : (rest : List ℕ) → is_ended (λ b. false) rest ≡ true
  never_ends [] = refl
  never_ends (b ∷ rest) = refl

  -- a sign of one byte, which is the first of the tests that holds
  byte_chosen : (b : ℕ) (t : Token) (rest : List ℕ) (u : Token) (k : ℕ) (others : Option Token) → (b ≡ k → IsTokenAt whole u (k ∷ []) rest) → (others ≡ Some t → IsTokenAt whole t (b ∷ []) rest) → (if b == k then Some u else others) ≡ Some t → IsTokenAt whole t (b ∷ []) rest
  byte_chosen b t rest u k others is more h =
      elim (ways (b == k) (Some u) others t h) [
        | inl p ↦ subst (λ z. IsTokenAt whole z (b ∷ []) rest) (same_Some u t p.1) (subst (λ z. IsTokenAt whole u (z ∷ []) rest) (sym (same b k p.0)) (is (same b k p.0)))
        | inr p ↦ more p.1
      ]

  byte_is : (b : ℕ) (t : Token) (rest : List ℕ) → (b ≡ 60 → is_ended (goes_on comparison.Less) rest ≡ true) → (b ≡ 62 → is_ended (goes_on comparison.Greater) rest ≡ true) → one_byte b ≡ Some t → IsTokenAt whole t (b ∷ []) rest
  byte_is b t rest less greater =
      byte_chosen b t rest (token.Compare comparison.Equal) 61 _ (λ _. (refl, never_ends rest))
      (byte_chosen b t rest (token.Compare comparison.Less) 60 _ (λ e. (refl, less e))
      (byte_chosen b t rest (token.Compare comparison.Greater) 62 _ (λ e. (refl, greater e))
      (byte_chosen b t rest (token.Sign sign.Plus) 43 _ (λ _. refl)
      (byte_chosen b t rest (token.Sign sign.Minus) 45 _ (λ _. refl)
      (byte_chosen b t rest (token.Sign sign.Times) 42 _ (λ _. refl)
      (byte_chosen b t rest (token.Sign sign.Over) 47 _ (λ _. refl)
      (byte_chosen b t rest (token.Sign sign.Open) 40 _ (λ _. refl)
      (byte_chosen b t rest (token.Sign sign.Close) 41 _ (λ _. refl)
      (byte_chosen b t rest (token.Sign sign.Comma) 44 None (λ _. refl) (λ h. absurd (no_some t h)))))))))))

  bytes_chosen : (b c : ℕ) (t : Token) (rest : List ℕ) (u : Token) (j k : ℕ) (others : Option Token) → IsTokenAt whole u (j ∷ k ∷ []) rest → (others ≡ Some t → IsTokenAt whole t (b ∷ c ∷ []) rest) → (if (b == j) && (c == k) then Some u else others) ≡ Some t → IsTokenAt whole t (b ∷ c ∷ []) rest
  bytes_chosen b c t rest u j k others is more h =
      elim (ways ((b == j) && (c == k)) (Some u) others t h) [
        | inl p ↦
            let tests = both (b == j) (c == k) p.0 in
            subst (λ z. IsTokenAt whole z (b ∷ c ∷ []) rest) (same_Some u t p.1) (rw (same b j tests.0, same c k tests.1) is)
        | inr p ↦ more p.1
      ]

  bytes_are : (b c : ℕ) (t : Token) (rest : List ℕ) → two_bytes b c ≡ Some t → IsTokenAt whole t (b ∷ c ∷ []) rest
  bytes_are b c t rest =
      bytes_chosen b c t rest (token.Compare comparison.AtMost) 60 61 _ (refl, never_ends rest)
      (bytes_chosen b c t rest (token.Compare comparison.NotEqual) 60 62 _ (inl refl, never_ends rest)
      (bytes_chosen b c t rest (token.Compare comparison.NotEqual) 33 61 _ (inr refl, never_ends rest)
      (bytes_chosen b c t rest (token.Compare comparison.AtLeast) 62 61 _ (refl, never_ends rest)
      (bytes_chosen b c t rest (token.Sign sign.Concat) 124 124 None refl (λ h. absurd (no_some t h))))))

  less_ends : (c : ℕ) → two_bytes 60 c ≡ None → not ((c == 61) || (c == 62)) ≡ true
  less_ends c h = grind arith

  greater_ends : (c : ℕ) → two_bytes 62 c ≡ None → not (c == 61) ≡ true
  greater_ends c h = grind arith

  one_sign : (b : ℕ) (behind : List ℕ) (t : Token) (rest : List ℕ) → (b ≡ 60 → is_ended (goes_on comparison.Less) behind ≡ true) → (b ≡ 62 → is_ended (goes_on comparison.Greater) behind ≡ true) → option_map {U = Token × List ℕ} (λ t. (t, behind)) (one_byte b) ≡ Some (t, rest) → IsTaken t rest (b ∷ behind)
  one_sign b behind t rest less greater h =
      elim (one_byte b) as (λ o. one_byte b ≡ o → option_map {U = Token × List ℕ} (λ t. (t, behind)) o ≡ Some (t, rest) → IsTaken t rest (b ∷ behind)) [
        | None ↦ λ _ h. absurd (no_some (t, rest) h)
        | Some u ↦ λ e h. taken_as u t behind rest (b ∷ behind) h (record { front = b ∷ []; joined = refl; spelled = byte_is b u behind less greater e })
      ] refl h

  sign_sound : (text : List ℕ) (t : Token) (rest : List ℕ) → first_sign text ≡ Some (t, rest) → IsTaken t rest text
  sign_sound [] t rest h = absurd (no_some (t, rest) h)
  sign_sound (b ∷ []) t rest h = one_sign b [] t rest (λ _. refl) (λ _. refl) h
  sign_sound (b ∷ c ∷ text) t rest h =
      elim (two_bytes b c) as (λ o. two_bytes b c ≡ o → or_one_byte o b c text ≡ Some (t, rest) → IsTaken t rest (b ∷ c ∷ text)) [
        | Some u ↦ λ e h. taken_as u t text rest (b ∷ c ∷ text) h (record { front = b ∷ c ∷ []; joined = refl; spelled = bytes_are b c u text e })
        | None ↦ λ e h. one_sign b (c ∷ text) t rest (λ is. less_ends c (rw is at e)) (λ is. greater_ends c (rw is at e)) h
      ] refl h

  pub token_sound : (text : List ℕ) (t : Token) (rest : List ℕ) → first_token whole text ≡ Some (t, rest) → IsTaken t rest text
  unfolding first_token
  token_sound [] t rest h = absurd (no_some (t, rest) h)
  token_sound (b ∷ text) t rest h =
      elim (ways (is_ascii_digit b) (first_number (b ∷ text)) (if is_letter b then first_word whole (b ∷ text) else if b == 39 then text_token (first_characters text) else if b == 36 then first_reference text else first_sign (b ∷ text)) (t, rest) h) [
        | inl p ↦ number_sound b text t rest p.0 p.1
        | inr p ↦
            elim (ways (is_letter b) (first_word whole (b ∷ text)) (if b == 39 then text_token (first_characters text) else if b == 36 then first_reference text else first_sign (b ∷ text)) (t, rest) p.1) [
              | inl q ↦ word_sound b text t rest q.0 q.1
              | inr q ↦
                  elim (ways (b == 39) (text_token (first_characters text)) (if b == 36 then first_reference text else first_sign (b ∷ text)) (t, rest) q.1) [
                    | inl r ↦ rw (same b 39 r.0) (text_sound text t rest r.1)
                    | inr r ↦
                        elim (ways (b == 36) (first_reference text) (first_sign (b ∷ text)) (t, rest) r.1) [
                          | inl s ↦ rw (same b 36 s.0) (reference_sound text t rest s.1)
                          | inr s ↦ sign_sound (b ∷ text) t rest s.1
                        ]
                  ]
            ]
      ]
