-- Tokens of a terminal are texts of its form, and each text of the form begins a token of the terminal.
use Rattle.std.proofs.Common.{◌≡◌, inl, inr, Bool, true, false, not, ◌&&◌, nat_eq, if◌then◌else◌, ℕ, ◌-◌, List, [], ◌∷◌, ◌++◌, length, Option, Some, None, refl, sym, ap, subst, ◌∙◌, arith}
use Rattle.std.specs.Prelude.{codes, map}
use Rattle.std.specs.Cmp.Lexicographic.{pointwise, bytes_decides}
use Rattle.std.specs.List.{list_all, list_any}
use Rattle.std.proofs.lemmas.Bool.{false≢true}
use Rattle.std.proofs.lemmas.Bool.Decides.{nat_tests}
use Rattle.std.proofs.lemmas.Option.{same_Some}
use Rattle.std.proofs.lemmas.List.{map-append}
use Rattle.std.proofs.lemmas.List.Folds.{list_all-append}
use Rattle.lk_types.specs.Expressions.{ascii_lower}
use Rattle.lk_types.specs.declared.expr.Comparison.{Comparison}
use Rattle.lk_types.specs.declared.expr.Comparison.TheVariants as comparison
use Rattle.lk_grammar.specs.Forms.{Form, IsText, seq, either}
use Rattle.lk_grammar.specs.Words.{one, exactly, letters, is_small}
use Rattle.lk_grammar.specs.Numbers.{unsigned_number}
use Rattle.lk_grammar.specs.Places.{IsViable}
use Rattle.lk_grammar.proofs.FormLaws.{and_both, or_other}
use Rattle.lk_grammar.proofs.LiteralLaws.{exact_text, text_exact}
use Rattle.lk_grammar.proofs.WordLaws.{one_text, text_one}
use Rattle.lk_expr_token.specs.declared.token.Keyword.{Keyword}
use Rattle.lk_expr_token.specs.declared.token.Keyword.TheVariants as keyword
use Rattle.lk_expr_token.specs.declared.token.Token.{Token}
use Rattle.lk_expr_token.specs.declared.token.Token.TheVariants as token
use Rattle.lk_expr_token.specs.declared.terminal.Terminal.{Terminal}
use Rattle.lk_expr_token.specs.declared.terminal.Terminal.TheVariants as terminal
use Rattle.lk_expr_token.specs.declared.functions.Function.TheVariants as function
use Rattle.lk_expr_token.specs.Tokens.{is_letter, is_name_byte, is_name, is_bare, letters_of, keywords, keyword_among, keyword_of, sign_text, IsComparisonText, IsColumnText, IsTokenAt}
use Rattle.lk_expr_token.specs.Functions.{is_word, function_of, is_of_measures}
use Rattle.lk_expr_token.specs.Terminals.{name_terminal, terminal_of}
use Rattle.lk_expr_token.specs.TokenFronts.{IsOfTerminal}
use Rattle.lk_expr_token.specs.TerminalForms.{terminal_form, name, bare_name, measure_function, comparison, quoted, column, field, field_of}
use Rattle.lk_expr_token.proofs.LexSteps.{both, ways, no_some, is_false, turned}
use Rattle.lk_expr_token.proofs.TerminalLaws.{keyword_bare, keyword_is}
use Rattle.lk_expr_token.proofs.FormFronts.{whole_viable, name_into, name_from, bare_into, bare_from, closed_into, closed_from, quoted_into, quoted_from, letters_from, letters_into}

-- ---- keywords

-- letters in any case are bare where the small ones are
lower_letter : (b : ℕ) → is_letter (ascii_lower b) ≡ is_letter b
lower_letter b = grind (arith, nat_tests)

lower_byte : (b : ℕ) → is_name_byte (ascii_lower b) ≡ is_name_byte b
lower_byte b = grind (arith, nat_tests)

lower_named : (text : List ℕ) → list_all is_name_byte (map ascii_lower text) ≡ list_all is_name_byte text
lower_named [] = refl
lower_named (b ∷ text) = λ i. lower_byte b i && lower_named text i

lower_bare : (text : List ℕ) → is_bare (map ascii_lower text) ≡ is_bare text
lower_bare [] = refl
lower_bare (b ∷ text) = λ i. lower_letter b i && lower_named text i

pub keyword_small : (k : Keyword) → list_all is_small (letters_of k) ≡ true
keyword_small keyword.And = refl
keyword_small keyword.Or = refl
keyword_small keyword.Not = refl
keyword_small keyword.Is = refl
keyword_small keyword.Null = refl
keyword_small keyword.In = refl
keyword_small keyword.Between = refl
keyword_small keyword.Like = refl
keyword_small keyword.True = refl
keyword_small keyword.False = refl
keyword_small keyword.Case = refl
keyword_small keyword.When = refl
keyword_small keyword.Then = refl
keyword_small keyword.Else = refl
keyword_small keyword.End = refl

-- a keyword's letters are their own in small ones
small_stays : (small : List ℕ) → list_all is_small small ≡ true → map ascii_lower small ≡ small
small_stays [] h = refl
small_stays (b ∷ small) h =
    let p = both (is_small b) (list_all is_small small) h in
    λ i. stays b p.0 i ∷ small_stays small p.1 i
  where
    stays : (b : ℕ) → is_small b ≡ true → ascii_lower b ≡ b
    stays b h = grind (arith, nat_tests)

keyword_by : (text : List ℕ) (k : Keyword) → map ascii_lower text ≡ letters_of k → keyword_of text ≡ Some k
unfolding keyword_of
keyword_by text k e = ap (keyword_among keywords) (e ∙ sym (small_stays (letters_of k) (keyword_small k))) ∙ keyword_is k

keyword_letters : (ks : List Keyword) (small : List ℕ) (k : Keyword) → keyword_among ks small ≡ Some k → small ≡ letters_of k
keyword_letters [] small k h = absurd (no_some k h)
keyword_letters (w ∷ ks) small k h =
    elim (ways (pointwise nat_eq small (letters_of w)) (Some w) (keyword_among ks small) k h) [
      | inl p ↦ (bytes_decides small (letters_of w)).0 p.0 ∙ (let e : w ≡ k = cc (p.1) in ap letters_of e)
      | inr p ↦ keyword_letters ks small k p.1
    ]

keyword_lowered : (text : List ℕ) (k : Keyword) → keyword_of text ≡ Some k → map ascii_lower text ≡ letters_of k
unfolding keyword_of
keyword_lowered text k h = keyword_letters keywords (map ascii_lower text) k h

word_into : (k : Keyword) (text : List ℕ) → IsText (letters (letters_of k)) text → IsOfTerminal (terminal.Word k) text
word_into k text h =
    let e = letters_from (letters_of k) text (keyword_small k) h in
    (0, token.Word k, refl, (sym (lower_bare text) ∙ ap is_bare e ∙ keyword_bare k, keyword_by text k e, refl))

word_from : (k : Keyword) (text : List ℕ) → keyword_of text ≡ Some k → IsText (letters (letters_of k)) text
word_from k text h = letters_into (letters_of k) text (keyword_small k) (keyword_lowered text k h)

-- ---- names

-- a name in any case is of a function of measures exactly where it is one of the two words
measure_into : (text small : List ℕ) → is_bare small ≡ true → keyword_among keywords small ≡ None → ((name : List ℕ) → map ascii_lower name ≡ small → is_of_measures (function_of name) ≡ true) → map ascii_lower text ≡ small → IsOfTerminal terminal.MeasureFunction text
unfolding keyword_of
measure_into text small bare none of e = (
  0,
  token.Name text (0 - length (text ++ [])),
  ap name_terminal (of text e),
  (refl, sym (lower_bare text) ∙ ap is_bare e ∙ bare, ap (keyword_among keywords) e ∙ none, refl, refl),
)

coalesce_of : (name : List ℕ) → map ascii_lower name ≡ codes "coalesce" → is_of_measures (function_of name) ≡ true
unfolding function_of
coalesce_of name e = rw e refl

nullif_of : (name : List ℕ) → map ascii_lower name ≡ codes "nullif" → is_of_measures (function_of name) ≡ true
unfolding function_of
nullif_of name e = rw e refl

measures_into : (text : List ℕ) → IsText measure_function text → IsOfTerminal terminal.MeasureFunction text
measures_into text h =
    elim h [
      | inl p ↦ measure_into text (codes "coalesce") refl refl coalesce_of (letters_from (codes "coalesce") text refl p)
      | inr q ↦ measure_into text (codes "nullif") refl refl nullif_of (letters_from (codes "nullif") text refl q)
    ]

others_none : (a b : Bool) → is_of_measures (if a then Some function.Lower else if b then Some function.Upper else None) ≡ true → ⊥
others_none true b h = false≢true h
others_none false true h = false≢true h
others_none false false h = false≢true h

measures_from : (text : List ℕ) → is_of_measures (function_of text) ≡ true → IsText measure_function text
unfolding function_of
measures_from text h =
    elim (is_word text (codes "coalesce")) as (λ a. is_word text (codes "coalesce") ≡ a → is_of_measures (if a then Some function.Coalesce else if is_word text (codes "nullif") then Some function.NullIf else if is_word text (codes "lower") then Some function.Lower else if is_word text (codes "upper") then Some function.Upper else None) ≡ true → IsText measure_function text) [
      | true ↦ λ e _. inl (letters_into (codes "coalesce") text refl ((bytes_decides (map ascii_lower text) (codes "coalesce")).0 e))
      | false ↦ λ _ h.
          elim (is_word text (codes "nullif")) as (λ a. is_word text (codes "nullif") ≡ a → is_of_measures (if a then Some function.NullIf else if is_word text (codes "lower") then Some function.Lower else if is_word text (codes "upper") then Some function.Upper else None) ≡ true → IsText measure_function text) [
            | true ↦ λ e _. inr (letters_into (codes "nullif") text refl ((bytes_decides (map ascii_lower text) (codes "nullif")).0 e))
            | false ↦ λ _ h. absurd (others_none (is_word text (codes "lower")) (is_word text (codes "upper")) h)
          ] refl h
    ] refl h

-- an underscore behind it makes a name of any other word
has_underscore : (text : List ℕ) → list_any (nat_eq 95) (text ++ 95 ∷ []) ≡ true
has_underscore [] = refl
has_underscore (b ∷ text) = or_other (nat_eq 95 b) _ (has_underscore text)

no_word : (text small : List ℕ) → list_any (nat_eq 95) small ≡ false → pointwise nat_eq (text ++ 95 ∷ []) small ≡ false
no_word text small none = is_false (pointwise nat_eq (text ++ 95 ∷ []) small) (λ e. false≢true (sym none ∙ ap (list_any (nat_eq 95)) (sym ((bytes_decides (text ++ 95 ∷ []) small).0 e)) ∙ has_underscore text))

abbrev has_none : Keyword → Bool
has_none k = not (list_any (nat_eq 95) (letters_of k))

no_keyword : (ks : List Keyword) (text : List ℕ) → list_all has_none ks ≡ true → keyword_among ks (text ++ 95 ∷ []) ≡ None
no_keyword [] text h = refl
no_keyword (k ∷ ks) text h =
    let p = both (has_none k) (list_all has_none ks) h in
    rw (no_word text (letters_of k) (turned (list_any (nat_eq 95) (letters_of k)) p.0)) (no_keyword ks text p.1)

lower_longer : (text : List ℕ) → map ascii_lower (text ++ 95 ∷ []) ≡ map ascii_lower text ++ 95 ∷ []
lower_longer text = map-append ascii_lower text (95 ∷ [])

longer_none : (text : List ℕ) → keyword_of (text ++ 95 ∷ []) ≡ None
unfolding keyword_of
longer_none text = ap (keyword_among keywords) (lower_longer text) ∙ no_keyword keywords (map ascii_lower text) refl

longer_other : (text : List ℕ) → is_of_measures (function_of (text ++ 95 ∷ [])) ≡ false
unfolding function_of
longer_other text =
    let low = map ascii_lower text in
    rw (lower_longer text, no_word low (codes "coalesce") refl, no_word low (codes "nullif") refl, no_word low (codes "lower") refl, no_word low (codes "upper") refl) refl

longer_bare : (text : List ℕ) → is_bare text ≡ true → is_bare (text ++ 95 ∷ []) ≡ true
longer_bare [] h = absurd (false≢true h)
longer_bare (b ∷ text) h =
    let p = both (is_letter b) (list_all is_name_byte text) h in
    and_both (is_letter b) _ p.0 (list_all-append is_name_byte text (95 ∷ []) ∙ and_both (list_all is_name_byte text) true p.1 refl)

names_onward : (text : List ℕ) → IsText bare_name text → IsViable (IsOfTerminal terminal.Name) text
names_onward text h =
    let longer = text ++ 95 ∷ [] in
    (95 ∷ [], (0, token.Name longer (0 - length (longer ++ [])), ap name_terminal (longer_other text), (refl, longer_bare text (bare_from text h), longer_none text, refl, refl)))

abbrev OfForm : Option Form → List ℕ → Type 0
OfForm None text = Unit {0}
OfForm (Some form) text = IsText form text

name_text : (b : Bool) (text : List ℕ) → (b ≡ true → IsText measure_function text) → is_bare text ≡ true → OfForm (terminal_form (name_terminal b)) text
unfolding terminal_form
name_text true text h bare = h refl
name_text false text h bare = bare_into text bare

-- ---- signs and comparisons

exact_into : (bytes text : List ℕ) → text ≡ bytes → IsText (exactly bytes) text
exact_into bytes text e = subst (IsText (exactly bytes)) (sym e) (exact_text bytes)

comparison_text : (c : Comparison) (text : List ℕ) → IsComparisonText c text → IsText comparison text
comparison_text comparison.Equal text h = inl (exact_into (codes "=") text h)
comparison_text comparison.NotEqual text h = elim h [ inl p ↦ inr (inl (exact_into (codes "<>") text p)) | inr p ↦ inr (inr (inl (exact_into (codes "!=") text p))) ]
comparison_text comparison.Less text h = inr (inr (inr (inl (exact_into (codes "<") text h))))
comparison_text comparison.AtMost text h = inr (inr (inr (inr (inl (exact_into (codes "<=") text h)))))
comparison_text comparison.Greater text h = inr (inr (inr (inr (inr (inl (exact_into (codes ">") text h))))))
comparison_text comparison.AtLeast text h = inr (inr (inr (inr (inr (inr (inl (exact_into (codes ">=") text h)))))))

compared : (c : Comparison) (text : List ℕ) → IsComparisonText c text → IsOfTerminal terminal.Compare text
compared c text h = (0, token.Compare c, refl, (h, refl))

comparison_into : (text : List ℕ) → IsText comparison text → IsOfTerminal terminal.Compare text
comparison_into text (inl p) = compared comparison.Equal text (text_exact (codes "=") text p)
comparison_into text (inr (inl p)) = compared comparison.NotEqual text (inl (text_exact (codes "<>") text p))
comparison_into text (inr (inr (inl p))) = compared comparison.NotEqual text (inr (text_exact (codes "!=") text p))
comparison_into text (inr (inr (inr (inl p)))) = compared comparison.Less text (text_exact (codes "<") text p)
comparison_into text (inr (inr (inr (inr (inl p))))) = compared comparison.AtMost text (text_exact (codes "<=") text p)
comparison_into text (inr (inr (inr (inr (inr (inl p)))))) = compared comparison.Greater text (text_exact (codes ">") text p)
comparison_into text (inr (inr (inr (inr (inr (inr (inl p))))))) = compared comparison.AtLeast text (text_exact (codes ">=") text p)
comparison_into text (inr (inr (inr (inr (inr (inr (inr p))))))) = absurd p

-- ---- references

-- the bytes as they are written, and then a text of the form
led_text : (bytes more text : List ℕ) (form : Form) → text ≡ bytes ++ more → IsText form more → IsText (seq (exactly bytes) form) text
led_text bytes more text form e h = record { front = bytes; back = more; joined = e; first = exact_text bytes; second = h }

column_text : (n text : List ℕ) → is_name n ≡ true → IsColumnText n text [] → IsText column text
column_text n text is h =
    elim h [
      | inl p ↦ led_text (codes "${TABLE}.") n text (either name (either (quoted 34) (quoted 96))) p.0 (inl (name_into n is))
      | inr q ↦
          elim q [
            | inl r ↦ led_text (codes "${TABLE}.") (34 ∷ (n ++ 34 ∷ [])) text (either name (either (quoted 34) (quoted 96))) r (inr (inl (quoted_into 34 n is)))
            | inr r ↦ led_text (codes "${TABLE}.") (96 ∷ (n ++ 96 ∷ [])) text (either name (either (quoted 34) (quoted 96))) r (inr (inr (quoted_into 96 n is)))
          ]
    ]

column_into : (text : List ℕ) → IsText column text → IsOfTerminal terminal.Column text
column_into text h =
    let led : text ≡ codes "${TABLE}." ++ h.back = h.joined ∙ ap (λ z. z ++ h.back) (text_exact (codes "${TABLE}.") h.front h.first) in
    elim h.second [
      | inl p ↦ (0, token.Column h.back, refl, (name_from h.back p, inl (led, refl)))
      | inr q ↦
          elim q [
            | inl r ↦ let c = quoted_from 34 h.back r in (0, token.Column c.0, refl, (c.2, inr (inl (led ∙ ap (λ z. codes "${TABLE}." ++ z) c.1))))
            | inr r ↦ let c = quoted_from 96 h.back r in (0, token.Column c.0, refl, (c.2, inr (inr (led ∙ ap (λ z. codes "${TABLE}." ++ z) c.1))))
          ]
    ]

field_into : (text : List ℕ) → IsText field text → IsOfTerminal terminal.Field text
field_into text h =
    let led : text ≡ codes "${" ++ h.back = h.joined ∙ ap (λ z. z ++ h.back) (text_exact (codes "${") h.front h.first) in
    let c = closed_from 125 h.back h.second in
    (0, token.Field c.0, refl, (led ∙ ap (λ z. codes "${" ++ z) c.1, c.2, refl))

field_of_text : (view n : List ℕ) → is_name view ≡ true → is_name n ≡ true → IsText (seq name (seq (one 46) (seq name (one 125)))) (view ++ (46 ∷ (n ++ 125 ∷ [])))
field_of_text view n v is = record {
  front = view;
  back = 46 ∷ (n ++ 125 ∷ []);
  joined = refl;
  first = name_into view v;
  second = record { front = 46 ∷ []; back = n ++ 125 ∷ []; joined = refl; first = one_text 46; second = closed_into 125 n is };
}

field_of_into : (text : List ℕ) → IsText field_of text → IsOfTerminal terminal.FieldOf text
field_of_into text h =
    let led : text ≡ codes "${" ++ h.back = h.joined ∙ ap (λ z. z ++ h.back) (text_exact (codes "${") h.front h.first) in
    let view = h.second in
    let dot = view.second in
    let c = closed_from 125 dot.back dot.second in
    let rest : view.back ≡ 46 ∷ (c.0 ++ 125 ∷ []) = dot.joined ∙ ap (λ z. z ++ dot.back) (text_one 46 dot.front dot.first) ∙ ap (λ z. 46 ∷ z) c.1 in
    (0, token.FieldOf view.front c.0, refl, (led ∙ ap (λ z. codes "${" ++ z) (view.joined ∙ ap (λ z. view.front ++ z) rest), name_from view.front view.first, c.2))

-- ---- all terminals

token_text : (whole : ℕ) (t : Token) (text : List ℕ) → IsTokenAt whole t text [] → OfForm (terminal_form (terminal_of t)) text
unfolding terminal_form
token_text whole (token.Word k) text h = word_from k text h.1
token_text whole (token.Name n place) text h = subst (λ z. OfForm (terminal_form (name_terminal (is_of_measures (function_of n)))) z) (sym h.0) (name_text (is_of_measures (function_of n)) n (measures_from n) h.1)
token_text whole (token.Compare c) text h = comparison_text c text h.0
token_text whole (token.Sign s) text h = exact_into (sign_text s) text h
token_text whole (token.Number n) text h = subst (IsText unsigned_number) (sym h.0) h.1
token_text whole (token.Text n) text h = tt
token_text whole (token.Column n) text h = column_text n text h.0 h.1
token_text whole (token.Field n) text h = led_text (codes "${") (n ++ 125 ∷ []) text (seq name (one 125)) h.0 (closed_into 125 n h.1)
token_text whole (token.FieldOf view n) text h = led_text (codes "${") (view ++ (46 ∷ (n ++ 125 ∷ []))) text (seq name (seq (one 46) (seq name (one 125)))) h.0 (field_of_text view n h.1 h.2)

-- a token of a terminal is a text of its form
pub terminal_is_text : (terminal : Terminal) (form : Form) (text : List ℕ) → terminal_form terminal ≡ Some form → IsOfTerminal terminal text → IsText form text
terminal_is_text terminal form text e h = subst (λ o. OfForm o text) (ap terminal_form h.2 ∙ e) (token_text h.0 h.1 text h.3)

-- each text of a form begins a token of its terminal; of numbers it is not said
pub terminal_onward : (k : Terminal) (form : Form) (text : List ℕ) → (k ≡ terminal.Number → ⊥) → terminal_form k ≡ Some form → IsText form text → IsViable (IsOfTerminal k) text
unfolding terminal_form
terminal_onward (terminal.Word k) form text isnt e h = whole_viable (IsOfTerminal (terminal.Word k)) text (word_into k text (subst (λ f. IsText f text) (sym (same_Some _ form e)) h))
terminal_onward (terminal.Sign s) form text isnt e h = whole_viable (IsOfTerminal (terminal.Sign s)) text (0, token.Sign s, refl, text_exact (sign_text s) text (subst (λ f. IsText f text) (sym (same_Some _ form e)) h))
terminal_onward terminal.MeasureFunction form text isnt e h = whole_viable (IsOfTerminal terminal.MeasureFunction) text (measures_into text (subst (λ f. IsText f text) (sym (same_Some _ form e)) h))
terminal_onward terminal.Name form text isnt e h = names_onward text (subst (λ f. IsText f text) (sym (same_Some _ form e)) h)
terminal_onward terminal.Compare form text isnt e h = whole_viable (IsOfTerminal terminal.Compare) text (comparison_into text (subst (λ f. IsText f text) (sym (same_Some _ form e)) h))
terminal_onward terminal.Number form text isnt e h = absurd (isnt refl)
terminal_onward terminal.Text form text isnt e h = absurd (no_some form e)
terminal_onward terminal.Column form text isnt e h = whole_viable (IsOfTerminal terminal.Column) text (column_into text (subst (λ f. IsText f text) (sym (same_Some _ form e)) h))
terminal_onward terminal.Field form text isnt e h = whole_viable (IsOfTerminal terminal.Field) text (field_into text (subst (λ f. IsText f text) (sym (same_Some _ form e)) h))
terminal_onward terminal.FieldOf form text isnt e h = whole_viable (IsOfTerminal terminal.FieldOf) text (field_of_into text (subst (λ f. IsText f text) (sym (same_Some _ form e)) h))
