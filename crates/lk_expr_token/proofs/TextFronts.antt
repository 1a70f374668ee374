-- A machine finds where a text stops beginning a text between quotes.
use Rattle.std.proofs.Common.{◌≡◌, ◌⊎◌, inl, inr, ℕ, Bool, true, false, if◌then◌else◌, List, [], ◌∷◌, ◌++◌, Option, Some, None, option_map, refl, sym, ap, subst, ◌∙◌, arith}
use Rattle.std.specs.Prelude.{◌==◌}
use Rattle.std.proofs.lemmas.Option.{same_Some}
use Rattle.lk_utf8.specs.declared.utf8.Utf8.{Utf8}
use Rattle.lk_utf8.specs.declared.utf8.Utf8.TheVariants as utf8
use Rattle.lk_utf8.specs.Utf8.{completes, utf8_after, is_whole, ending}
use Rattle.lk_utf8.proofs.CompletionLaws.{whole_is, completes_more, completes_parts, small_none, whole_at, ending_completes}
use Rattle.lk_utf8.proofs.Utf8Laws.{whole_is_utf8}
use Rattle.lk_utf8.proofs.EveryLaws.{utf8_is_whole}
use Rattle.lk_grammar.specs.Places.{IsViable, IsPlace, place_from, Follows}
use Rattle.lk_grammar.proofs.PlaceLaws.{place, same_place}
use Rattle.lk_expr_token.specs.declared.token.Token.{Token}
use Rattle.lk_expr_token.specs.declared.token.Token.TheVariants as token
use Rattle.lk_expr_token.specs.declared.terminal.Terminal.{Terminal}
use Rattle.lk_expr_token.specs.declared.terminal.Terminal.TheVariants as terminal
use Rattle.lk_expr_token.specs.declared.quoting.Quoting.{Quoting}
use Rattle.lk_expr_token.specs.declared.quoting.Quoting.TheVariants.{Unopened, Inside, BehindQuote}
use Rattle.lk_expr_token.specs.Tokens.{doubled, IsTokenAt}
use Rattle.lk_expr_token.specs.Functions.{function_of, is_of_measures}
use Rattle.lk_expr_token.specs.Terminals.{name_terminal, terminal_of}
use Rattle.lk_expr_token.specs.TokenFronts.{IsOfTerminal}
use Rattle.lk_expr_token.specs.Quoting.{opened, closed, quoting_after}
use Rattle.lk_expr_token.proofs.LexSteps.{same, ways, no_some}

-- ---- what may follow

-- characters that complete what is owed, each quote twice, and the last quote
record IsInside (owed : Utf8) (text : List ℕ) : Type 0 where
  characters : List ℕ
  is : text ≡ doubled characters ++ 39 ∷ []
  completed : completes owed characters ≡ true

-- a quote, and what is between quotes
record IsQuoted (text : List ℕ) : Type 0 where
  inside : List ℕ
  is : text ≡ 39 ∷ inside
  within : IsInside utf8.Whole inside

abbrev IsRest : Quoting → List ℕ → Type 0
IsRest Unopened text = IsQuoted text
IsRest (Inside owed) text = IsInside owed text
IsRest BehindQuote text = (text ≡ []) ⊎ IsQuoted text

-- ---- the machine follows it

-- the byte may stand there, and the rest behind it
record IsStep (state : Quoting) (b : ℕ) (text : List ℕ) : Type 0 where
  next : Quoting
  goes : quoting_after state b ≡ Some next
  rest : IsRest next text

quoted_step : (state : Quoting) (b : ℕ) (text : List ℕ) → quoting_after state b ≡ opened b → IsQuoted (b ∷ text) → IsStep state b text
quoted_step state b text e h =
    let first : b ≡ 39 = cc (h.is) in
    let more : h.inside ≡ text = cc (h.is) in
    record { next = Inside utf8.Whole; goes = e ∙ ap opened first; rest = subst (IsInside utf8.Whole) more h.within }

quote_step : (owed : Utf8) (b : ℕ) (text : List ℕ) → b ≡ 39 → is_whole owed ≡ true → IsRest BehindQuote text → IsStep (Inside owed) b text
quote_step owed b text e whole h = record { next = BehindQuote; goes = rw (e, whole) refl; rest = h }

plain_step : (owed : Utf8) (b c : ℕ) (characters text : List ℕ) → (c == 39) ≡ false → b ∷ text ≡ c ∷ (doubled characters ++ 39 ∷ []) → completes owed (c ∷ characters) ≡ true → IsStep (Inside owed) b text
plain_step owed b c characters text isnt e h =
    let first : b ≡ c = cc in
    let more : text ≡ doubled characters ++ 39 ∷ [] = cc in
    let p = completes_parts owed c characters h in
    record { next = Inside p.0; goes = rw (first, isnt, p.1) refl; rest = record { characters = characters; is = more; completed = p.2 } }

inside_step : (owed : Utf8) (b : ℕ) (text characters : List ℕ) → b ∷ text ≡ doubled characters ++ 39 ∷ [] → completes owed characters ≡ true → IsStep (Inside owed) b text
inside_step owed b text [] e h =
    let first : b ≡ 39 = cc in
    let none : text ≡ [] = cc in
    quote_step owed b text first h (inl none)
inside_step owed b text (c ∷ characters) e h =
    elim (c == 39) as (λ d. (c == 39) ≡ d → b ∷ text ≡ (if d then 39 ∷ 39 ∷ doubled characters else c ∷ doubled characters) ++ 39 ∷ [] → IsStep (Inside owed) b text) [
      | true ↦ λ d e.
          let first : b ≡ 39 = cc in
          let more : text ≡ 39 ∷ (doubled characters ++ 39 ∷ []) = cc in
          let quote : completes owed (39 ∷ characters) ≡ true = subst (λ z. completes owed (z ∷ characters) ≡ true) (same c 39 d) h in
          let whole = whole_at owed 39 characters (small_none 39 (omega arith)) quote in
          let completed : completes utf8.Whole characters ≡ true = subst (λ u. completes u (39 ∷ characters) ≡ true) (whole_is owed whole) quote in
          quote_step owed b text first whole (inr (record { inside = doubled characters ++ 39 ∷ []; is = more; within = record { characters = characters; is = refl; completed = completed } }))
      | false ↦ λ d e. plain_step owed b c characters text d e h
    ] refl e

step : (state : Quoting) (b : ℕ) (text : List ℕ) → IsRest state (b ∷ text) → IsStep state b text
step Unopened b text h = quoted_step Unopened b text refl h
step (Inside owed) b text h = inside_step owed b text h.characters h.is h.completed
step BehindQuote b text (inl none) = absurd (let f : ⊥ = cc (none) in f)
step BehindQuote b text (inr h) = quoted_step BehindQuote b text refl h

opened_back : (b : ℕ) (next : Quoting) (text : List ℕ) → opened b ≡ Some next → IsRest next text → IsQuoted (b ∷ text)
opened_back b next text e h =
    elim (ways (b == 39) (Some (Inside utf8.Whole)) None next e) [
      | inl p ↦ record { inside = text; is = ap (λ z. z ∷ text) (same b 39 p.0); within = subst (λ q. IsRest q text) (sym (same_Some (Inside utf8.Whole) next p.1)) h }
      | inr p ↦ absurd (no_some next p.1)
    ]

-- behind a quote among whole characters the text ends, or another quote follows
quote_back : (owed : Utf8) (text : List ℕ) → is_whole owed ≡ true → IsRest BehindQuote text → IsInside owed (39 ∷ text)
quote_back owed text whole (inl none) = record { characters = []; is = ap (λ z. 39 ∷ z) none; completed = whole }
quote_back owed text whole (inr h) = record {
  characters = 39 ∷ h.within.characters;
  is = ap (λ z. 39 ∷ z) (h.is ∙ ap (λ z. 39 ∷ z) h.within.is);
  completed = subst (λ u. completes u (39 ∷ h.within.characters) ≡ true) (sym (whole_is owed whole)) h.within.completed;
}

inside_back : (owed : Utf8) (b : ℕ) (next : Quoting) (text : List ℕ) → (b == 39) ≡ false → (o : Option Utf8) → utf8_after owed b ≡ o → option_map Inside o ≡ Some next → IsRest next text → IsInside owed (b ∷ text)
inside_back owed b next text isnt None e g h = absurd (no_some next g)
inside_back owed b next text isnt (Some after) e g h =
    let r : IsInside after text = subst (λ q. IsRest q text) (sym (same_Some (Inside after) next g)) h in
    record { characters = b ∷ r.characters; is = rw isnt (ap (λ z. b ∷ z) r.is); completed = completes_more owed after b r.characters e r.completed }

back : (state next : Quoting) (b : ℕ) (text : List ℕ) → quoting_after state b ≡ Some next → IsRest next text → IsRest state (b ∷ text)
back Unopened next b text e h = opened_back b next text e h
back BehindQuote next b text e h = inr (opened_back b next text e h)
back (Inside owed) next b text e h =
    elim (ways (b == 39) (closed owed) (option_map Inside (utf8_after owed b)) next e) [
      | inl p ↦
          elim (ways (is_whole owed) (Some BehindQuote) None next p.1) [
            | inl q ↦ subst (λ z. IsInside owed (z ∷ text)) (sym (same b 39 p.0)) (quote_back owed text q.0 (subst (λ r. IsRest r text) (sym (same_Some BehindQuote next q.1)) h))
            | inr q ↦ absurd (no_some next q.1)
          ]
      | inr p ↦ inside_back owed b next text p.0 (utf8_after owed b) refl p.1 h
    ]

-- each state may be ended
ended : (state : Quoting) → IsViable (IsRest state) []
ended Unopened = (39 ∷ 39 ∷ [], record { inside = 39 ∷ []; is = refl; within = record { characters = []; is = refl; completed = refl } })
ended (Inside owed) = (doubled (ending owed) ++ 39 ∷ [], record { characters = ending owed; is = refl; completed = ending_completes owed })
ended BehindQuote = ([], inl refl)

follows : Follows quoting_after IsRest
follows = record {
  onward = λ state next b text e h. let s = step state b text h in subst (λ q. IsRest q text) (same_Some s.next next (sym s.goes ∙ e)) s.rest;
  back = back;
  dead = λ state b text e h. let s = step state b text h in no_some s.next (sym e ∙ s.goes);
  alive = λ state next b e. ended next;
}

-- ---- texts between quotes are the tokens of the terminal

quoted_into : (text : List ℕ) → IsQuoted text → IsOfTerminal terminal.Text text
quoted_into text h =
    let c = h.within in
    (0, token.Text c.characters, refl, (h.is ∙ ap (λ z. 39 ∷ z) c.is, whole_is_utf8 c.characters c.completed, refl))

abbrev OfText : Terminal → List ℕ → Type 0
OfText terminal.Text text = IsQuoted text
OfText other text = Unit {0}

of_name : (b : Bool) (text : List ℕ) → OfText (name_terminal b) text
of_name true text = tt
of_name false text = tt

token_quoted : (whole : ℕ) (t : Token) (text : List ℕ) → IsTokenAt whole t text [] → OfText (terminal_of t) text
token_quoted whole (token.Word k) text h = tt
token_quoted whole (token.Name n place) text h = of_name (is_of_measures (function_of n)) text
token_quoted whole (token.Compare c) text h = tt
token_quoted whole (token.Sign s) text h = tt
token_quoted whole (token.Number n) text h = tt
token_quoted whole (token.Text c) text h = record { inside = doubled c ++ 39 ∷ []; is = h.0; within = record { characters = c; is = refl; completed = utf8_is_whole c h.1 } }
token_quoted whole (token.Column n) text h = tt
token_quoted whole (token.Field n) text h = tt
token_quoted whole (token.FieldOf v n) text h = tt

quoted_from : (text : List ℕ) → IsOfTerminal terminal.Text text → IsQuoted text
quoted_from text h = subst (λ k. OfText k text) h.2 (token_quoted h.0 h.1 text h.3)

-- so far the machine goes on
pub texts_placed : (text : List ℕ) → IsPlace (IsOfTerminal terminal.Text) text (place_from quoting_after Unopened text)
texts_placed text = same_place quoted_into quoted_from text (place_from quoting_after Unopened text) (place follows text Unopened (ended Unopened))
