-- The terminals in front of a text are those of its tokens, up to where no token begins.
use Rattle.std.proofs.Common.{◌≡◌, ℕ, zero, suc, ◌+◌, ◌<◌, ◌≤◌, true, false, if◌then◌else◌, List, [], ◌∷◌, ◌++◌, length, map, Some, None, refl, sym, ap, subst, ◌∙◌, length-append, arith}
use Rattle.std.specs.List.{list_all}
use Rattle.lk_expr_token.specs.declared.token.Token.{Token}
use Rattle.lk_expr_token.specs.Tokens.{is_space, IsTokenAt, IsLed}
use Rattle.lk_expr_token.specs.Lexing.{first_token}
use Rattle.lk_expr_token.specs.Terminals.{token_byte}
use Rattle.lk_expr_token.specs.TokenFronts.{IsSpelledThen, IsUnspaced, IsStuck, behind_spaces, terminals_from, behind_tokens}
use Rattle.lk_expr_token.proofs.LexSteps.{both, together, no_some}
use Rattle.lk_expr_token.proofs.LexLaws.{token_found, token_sound}
use Rattle.lk_expr_token.proofs.TerminalLaws.{IsSolid, token_solid, solid_stays}

-- ---- spaces

abbrev pub Spaces : List ℕ → Type 0
Spaces gap = list_all is_space gap ≡ true

pub skip_gap : (gap rest : List ℕ) → Spaces gap → behind_spaces (gap ++ rest) ≡ behind_spaces rest
skip_gap [] rest h = refl
skip_gap (b ∷ gap) rest h = let p = both (is_space b) (list_all is_space gap) h in rw p.0 (skip_gap gap rest p.1)

-- what is behind the spaces, and the spaces
abbrev Skipped : List ℕ → Type 0
Skipped text = (gap : List ℕ) × (text ≡ gap ++ behind_spaces text) × Spaces gap

skipped : (text : List ℕ) → Skipped text
skipped [] = ([], refl, refl)
skipped (b ∷ text) =
    elim (is_space b) as (λ d. is_space b ≡ d → Skipped (b ∷ text)) [
      | true ↦ λ d. let s = skipped text in (b ∷ s.0, rw d (ap (λ z. b ∷ z) s.1), together (is_space b) (list_all is_space s.0) d s.2)
      | false ↦ λ d. ([], rw d refl, refl)
    ] refl

-- no space is behind the spaces
pub skips_all : (text : List ℕ) → IsUnspaced (behind_spaces text)
skips_all [] b more e = absurd (let f : ⊥ = cc in f)
skips_all (c ∷ text) b more e =
    elim (is_space c) as (λ d. is_space c ≡ d → (if d then behind_spaces text else c ∷ text) ≡ b ∷ more → is_space b ≡ false) [
      | true ↦ λ d e. skips_all text b more e
      | false ↦ λ d e. let same : c ≡ b = cc in subst (λ z. is_space z ≡ false) same d
    ] refl e

-- and where none comes, nothing is skipped
pub unspaced_stays : (text : List ℕ) → IsUnspaced text → behind_spaces text ≡ text
unspaced_stays [] h = refl
unspaced_stays (b ∷ text) h = rw (h b text refl) refl

pub solid_more : (text rest : List ℕ) → IsSolid text → IsSolid (text ++ rest)
solid_more text rest s = record { head = s.head; tail = s.tail ++ rest; is = ap (λ z. z ++ rest) s.is; no_space = s.no_space }

pub token_starts : (whole : ℕ) (t : Token) (own rest : List ℕ) → IsTokenAt whole t own rest → IsSolid (own ++ rest)
token_starts whole t own rest h = solid_more own rest (token_solid whole t own rest h)

-- of a text of so many bytes
module _ (whole : ℕ) where
  -- ---- where no token begins

  stuck : (text : List ℕ) → first_token whole (behind_spaces text) ≡ None → IsStuck whole (behind_spaces text)
  stuck text none = record {
    no_space = skips_all text;
    no_token = λ t front rest joined h. no_some (t, rest) (sym none ∙ ap (first_token whole) joined ∙ token_found whole t front rest h);
  }

  pub stuck_none : (text : List ℕ) → IsStuck whole text → first_token whole text ≡ None
  stuck_none text s =
      elim (first_token whole text) as (λ o. first_token whole text ≡ o → o ≡ None) [
        | None ↦ λ _. refl
        | Some found ↦ λ e. let taken = token_sound whole text found.0 found.1 e in absurd (s.no_token found.0 taken.front found.1 taken.joined taken.spelled)
      ] refl

  -- ---- a token behind spaces

  -- it is the first behind them
  pub led_first : {Behind : List ℕ → Type 0} {t : Token} {text : List ℕ} (h : IsLed whole Behind t text) → first_token whole (behind_spaces text) ≡ Some (t, h.rest)
  led_first {Behind} {t} {text} h =
      ap (λ z. first_token whole (behind_spaces z)) h.joined
      ∙ ap (first_token whole) (skip_gap h.gap (h.front ++ h.rest) h.spaces ∙ solid_stays (h.front ++ h.rest) (token_starts whole t h.front h.rest h.spelled))
      ∙ token_found whole t h.front h.rest h.spelled

  first_led : (Behind : List ℕ → Type 0) (text : List ℕ) (t : Token) (rest : List ℕ) → first_token whole (behind_spaces text) ≡ Some (t, rest) → Behind rest → IsLed whole Behind t text
  first_led Behind text t rest e is =
      let s = skipped text in
      let taken = token_sound whole (behind_spaces text) t rest e in
      record { gap = s.0; front = taken.front; rest = rest; joined = s.1 ∙ ap (λ z. s.0 ++ z) taken.joined; spaces = s.2; spelled = taken.spelled; behind = is }

  -- what is behind it is shorter
  led_shorter : {Behind : List ℕ → Type 0} {t : Token} {text : List ℕ} (h : IsLed whole Behind t text) → length h.rest < length text
  led_shorter {Behind} {t} {text} h =
      let solid = token_solid whole t h.front h.rest h.spelled in
      let sizes : length text ≡ length h.gap + (length h.front + length h.rest) = ap length h.joined ∙ length-append h.gap (h.front ++ h.rest) ∙ ap (λ z. length h.gap + z) (length-append h.front h.rest) in
      let some : length h.front ≡ suc (length solid.tail) = ap length solid.is in
      omega (arith, sizes, some)

  -- ---- the tokens in front of a text

  abbrev Stuck : List ℕ → Type 0
  Stuck text = (ts : List Token) × IsSpelledThen whole (IsStuck whole) ts text

  step : (text : List ℕ) → ((rest : List ℕ) → length rest < length text → Stuck rest) → Stuck text
  unfolding first_led
  step text again =
      elim (first_token whole (behind_spaces text)) as (λ o. first_token whole (behind_spaces text) ≡ o → Stuck text) [
        | None ↦ λ e. let s = skipped text in ([], record { gap = s.0; rest = behind_spaces text; joined = s.1; spaces = s.2; behind = stuck text e })
        | Some found ↦ λ e.
            let more = again found.1 (led_shorter (first_led (λ rest. rest ≡ found.1) text found.0 found.1 e refl)) in
            (found.0 ∷ more.0, first_led (IsSpelledThen whole (IsStuck whole) more.0) text found.0 found.1 e more.1)
      ] refl

  -- each text is some tokens, and then what no token begins
  pub some_tokens : (n : ℕ) (text : List ℕ) → length text ≤ n → Stuck text
  some_tokens zero text h = step text (λ rest short. absurd (omega (arith, short, h)))
  some_tokens (suc n) text h = step text (λ rest short. some_tokens n rest (omega (arith, short, h)))

  -- their terminals are those that are read
  pub terminals_spelled : (fuel text : List ℕ) (ts : List Token) → length text ≤ length fuel → IsSpelledThen whole (IsStuck whole) ts text → terminals_from whole fuel text ≡ map token_byte ts
  terminals_spelled [] text [] h s = refl
  terminals_spelled (f ∷ fuel) text [] h s =
      let none = ap (first_token whole) (ap behind_spaces s.joined ∙ skip_gap s.gap s.rest s.spaces ∙ unspaced_stays s.rest s.behind.no_space) ∙ stuck_none s.rest s.behind in
      rw none refl
  terminals_spelled [] text (t ∷ ts) h s = absurd (let short = led_shorter s in omega (arith, short, h))
  terminals_spelled (f ∷ fuel) text (t ∷ ts) h s =
      let short = led_shorter s in
      rw (led_first s) (ap (λ z. token_byte t ∷ z) (terminals_spelled fuel s.rest ts (omega (arith, short, h)) s.behind))

  -- and what is behind them is behind as many terminals
  pub behind_spelled : (text rest : List ℕ) (ts : List Token) (terminals : List ℕ) → length terminals ≡ length ts → IsUnspaced rest → IsSpelledThen whole (λ r. r ≡ rest) ts text → behind_tokens whole terminals text ≡ rest
  behind_spelled text rest [] [] h no_space s = ap behind_spaces s.joined ∙ skip_gap s.gap s.rest s.spaces ∙ ap behind_spaces s.behind ∙ unspaced_stays rest no_space
  behind_spelled text rest [] (k ∷ terminals) h no_space s = absurd (omega (arith, h))
  behind_spelled text rest (t ∷ ts) [] h no_space s = absurd (omega (arith, h))
  behind_spelled text rest (t ∷ ts) (k ∷ terminals) h no_space s = rw (led_first s) (behind_spelled s.rest rest ts terminals (omega (arith, h)) no_space s.behind)
