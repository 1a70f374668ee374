-- The tokens in front of a text: how far they are read, before which rests they stand, and what a text that goes on so spells.
use Rattle.std.proofs.Common.{◌≡◌, ℕ, Bool, true, false, not, ◌&&◌, nat_eq, List, [], ◌∷◌, ◌++◌, length, take, map, Some, None, refl, sym, ap, subst, ◌∙◌, append_assoc, arith}
use Rattle.std.specs.List.{list_all}
use Rattle.std.specs.Char.{is_ascii_digit}
use Rattle.std.proofs.lemmas.Bool.{false≢true}
use Rattle.std.proofs.lemmas.Bool.Decides.{nat_tests}
use Rattle.std.proofs.lemmas.Option.{some_pair_parts}
use Rattle.lk_grammar.specs.Numbers.{unsigned_length}
use Rattle.lk_expr_token.specs.declared.token.Token.{Token}
use Rattle.lk_expr_token.specs.Tokens.{is_space, is_number, IsTokenAt, IsLed, IsSpelled}
use Rattle.lk_expr_token.specs.Lexing.{first_token}
use Rattle.lk_expr_token.specs.Terminals.{terminal_of, token_byte, terminal_byte}
use Rattle.lk_expr_token.specs.TokenFronts.{is_unread, IsSpelledThen, IsStuck, behind_spaces, terminals_in}
use Rattle.lk_expr_token.proofs.LexSteps.{both, together, no_some}
use Rattle.lk_expr_token.proofs.LexLaws.{by_digit, no_digits, token_found}
use Rattle.lk_expr_token.proofs.TerminalLaws.{EndsSo, same_head, at_end, at_space, IsTerminalAt, token_before, terminal_at_end, IsSolid, solid_stays, terminal_text}
use Rattle.lk_expr_token.proofs.FrontTokens.{Spaces, skip_gap, unspaced_stays, token_starts, stuck_none, led_first, some_tokens, terminals_spelled}

-- ---- spaces

all_joined : (x y : List ℕ) → Spaces x → Spaces y → Spaces (x ++ y)
all_joined [] y p q = q
all_joined (b ∷ x) y p q = let h = both (is_space b) (list_all is_space x) p in together (is_space b) (list_all is_space (x ++ y)) h.0 (all_joined x y h.1 q)

all_back : (x y : List ℕ) → Spaces (x ++ y) → Spaces y
all_back [] y h = h
all_back (b ∷ x) y h = all_back x y (both (is_space b) (list_all is_space (x ++ y)) h).1

clash : (text : List ℕ) (b : ℕ) (more : List ℕ) → IsSolid text → is_space b ≡ true → text ≡ b ∷ more → ⊥
clash text b more s is e =
    let joined : s.head ∷ s.tail ≡ b ∷ more = sym s.is ∙ e in
    let same : s.head ≡ b = cc in
    false≢true (sym s.no_space ∙ ap is_space same ∙ is)

pub solid_not_spaces : (gap text : List ℕ) → IsSolid text → Spaces (gap ++ text) → ⊥
solid_not_spaces gap text s h =
    let all : Spaces (s.head ∷ s.tail) = subst Spaces s.is (all_back gap text h) in
    false≢true (sym s.no_space ∙ (both (is_space s.head) (list_all is_space s.tail) all).0)

pub gap_same : (g h y z : List ℕ) → Spaces g → Spaces h → IsSolid y → IsSolid z → g ++ y ≡ h ++ z → (g ≡ h) × (y ≡ z)
gap_same [] [] y z p q s t e = (refl, e)
gap_same [] (b ∷ h) y z p q s t e = absurd (clash y b (h ++ z) s (both (is_space b) (list_all is_space h) q).0 e)
gap_same (b ∷ g) [] y z p q s t e = absurd (clash z b (g ++ y) t (both (is_space b) (list_all is_space g) p).0 (sym e))
gap_same (b ∷ g) (c ∷ h) y z p q s t e =
    let first : b ≡ c = cc in
    let more : g ++ y ≡ h ++ z = cc in
    let r = gap_same g h y z (both (is_space b) (list_all is_space g) p).1 (both (is_space c) (list_all is_space h) q).1 s t more in
    ((λ i. first i ∷ r.0 i), r.1)

-- the spaces that are left of a gap behind other spaces
abbrev GapLeft : List ℕ → List ℕ → Type 0
GapLeft m y = (gap : List ℕ) × (m ≡ gap ++ y) × Spaces gap

gap_left : (p m g y : List ℕ) → Spaces p → Spaces g → IsSolid y → p ++ m ≡ g ++ y → GapLeft m y
gap_left [] m g y p q s e = (g, e, q)
gap_left (b ∷ p) m [] y h q s e = absurd (clash y b (p ++ m) s (both (is_space b) (list_all is_space p) h).0 (sym e))
gap_left (b ∷ p) m (c ∷ g) y h q s e =
    let more : p ++ m ≡ g ++ y = cc in
    gap_left p m g y (both (is_space b) (list_all is_space p) h).1 (both (is_space c) (list_all is_space g) q).1 s more

-- ---- tokens before a rest

-- spaces and the token are before more, where the rest is behind
pub record IsStep (whole : ℕ) (More : List ℕ → Type 0) (t : Token) (front rest : List ℕ) : Type 0 where
  pub gap : List ℕ
  pub own : List ℕ
  pub back : List ℕ
  pub joined : front ≡ gap ++ (own ++ back)
  pub spaces : Spaces gap
  pub spelled : IsTokenAt whole t own (back ++ rest)
  pub more : More back

-- the front is the tokens with free spaces before each and behind the last, where the rest is behind it
abbrev pub IsFront : ℕ → List Token → List ℕ → List ℕ → Type 0
IsFront whole [] front rest = Spaces front
IsFront whole (t ∷ ts) front rest = IsStep whole (λ back. IsFront whole ts back rest) t front rest

ends_behind : (back m n : List ℕ) → EndsSo m n → EndsSo (back ++ m) (back ++ n)
ends_behind [] m n so = so
ends_behind (b ∷ back) m n so = same_head b (back ++ m) (back ++ n)

-- the same front before another rest, with tokens of the same terminals
pub record IsMoved (whole : ℕ) (ts : List Token) (front rest : List ℕ) : Type 0 where
  pub tokens : List Token
  pub bytes : map token_byte tokens ≡ map token_byte ts
  pub is : IsFront whole tokens front rest

pub moved : (whole other : ℕ) (ts : List Token) (p m n : List ℕ) → EndsSo m n → IsFront whole ts p m → IsMoved other ts p n
moved whole other [] p m n so h = record { tokens = []; bytes = refl; is = h }
moved whole other (t ∷ ts) p m n so h =
    let k = token_before whole other t h.own (h.back ++ m) (h.back ++ n) (ends_behind h.back m n so) h.spelled in
    let more = moved whole other ts h.back m n so h.more in
    record {
      tokens = k.0 ∷ more.tokens;
      bytes = λ i. terminal_byte (k.1 i) ∷ more.bytes i;
      is = record { gap = h.gap; own = h.own; back = h.back; joined = h.joined; spaces = h.spaces; spelled = k.2; more = more.is };
    }

-- a step's text with the rest behind it
stepped : (gap own back rest : List ℕ) → (gap ++ (own ++ back)) ++ rest ≡ gap ++ (own ++ (back ++ rest))
stepped gap own back rest = append_assoc gap (own ++ back) rest ∙ ap (λ z. gap ++ z) (append_assoc own back rest)

pub step_text : {whole : ℕ} {More : List ℕ → Type 0} {t : Token} {front rest : List ℕ} (h : IsStep whole More t front rest) → front ++ rest ≡ h.gap ++ (h.own ++ (h.back ++ rest))
step_text {rest = rest} h = ap (λ z. z ++ rest) h.joined ∙ stepped h.gap h.own h.back rest

pub spaced : (whole : ℕ) (zs : List Token) (gap text : List ℕ) → Spaces gap → IsSpelled whole zs text → IsSpelled whole zs (gap ++ text)
spaced whole [] gap text g h = all_joined gap text g h
spaced whole (z ∷ zs) gap text g h = record {
  gap = gap ++ h.gap;
  front = h.front;
  rest = h.rest;
  joined = ap (λ z. gap ++ z) h.joined ∙ sym (append_assoc gap h.gap (h.front ++ h.rest));
  spaces = all_joined gap h.gap g h.spaces;
  spelled = h.spelled;
  behind = h.behind;
}

-- the tokens of a front, and those of the text behind it
pub glued : (whole : ℕ) (ts zs : List Token) (p m : List ℕ) → IsFront whole ts p m → IsSpelled whole zs m → IsSpelled whole (ts ++ zs) (p ++ m)
glued whole [] zs p m h s = spaced whole zs p m h s
glued whole (t ∷ ts) zs p m h s = record {
  gap = h.gap;
  front = h.own;
  rest = h.back ++ m;
  joined = step_text h;
  spaces = h.spaces;
  spelled = h.spelled;
  behind = glued whole ts zs h.back m h.more s;
}

-- the tokens of a front, and what is as given behind it
pub front_then : (whole : ℕ) (Behind : List ℕ → Type 0) (ts : List Token) (p m : List ℕ) → IsFront whole ts p m → Behind m → IsSpelledThen whole Behind ts (p ++ m)
front_then whole Behind [] p m h is = record { gap = p; rest = m; joined = refl; spaces = h; behind = is }
front_then whole Behind (t ∷ ts) p m h is = record {
  gap = h.gap;
  front = h.own;
  rest = h.back ++ m;
  joined = step_text h;
  spaces = h.spaces;
  spelled = h.spelled;
  behind = front_then whole Behind ts h.back m h.more is;
}

-- and back
pub record IsParted (whole : ℕ) (Behind : List ℕ → Type 0) (ts : List Token) (text : List ℕ) : Type 0 where
  pub front : List ℕ
  pub rest : List ℕ
  pub joined : text ≡ front ++ rest
  pub read : IsFront whole ts front rest
  pub behind : Behind rest

front_of : (whole : ℕ) (Behind : List ℕ → Type 0) (ts : List Token) (text : List ℕ) → IsSpelledThen whole Behind ts text → IsParted whole Behind ts text
front_of whole Behind [] text h = record { front = h.gap; rest = h.rest; joined = h.joined; read = h.spaces; behind = h.behind }
front_of whole Behind (t ∷ ts) text h =
    let f = front_of whole Behind ts h.rest h.behind in
    record {
      front = h.gap ++ (h.front ++ f.front);
      rest = f.rest;
      joined = h.joined ∙ ap (λ z. h.gap ++ (h.front ++ z)) f.joined ∙ sym (stepped h.gap h.front f.front f.rest);
      read = record { gap = h.gap; own = h.front; back = f.front; joined = refl; spaces = h.spaces; spelled = subst (IsTokenAt whole t h.front) f.joined h.spelled; more = f.read };
      behind = f.behind;
    }

-- ---- a text has one reading

-- two tokens in front of one text are one
pub one_token : (whole : ℕ) (t z : Token) (own rest front behind : List ℕ) → IsTokenAt whole t own rest → IsTokenAt whole z front behind → own ++ rest ≡ front ++ behind → (t ≡ z) × (rest ≡ behind)
one_token whole t z own rest front behind h s e =
    some_pair_parts t z rest behind (sym (token_found whole t own rest h) ∙ ap (first_token whole) e ∙ token_found whole z front behind s)

-- the tokens of a text are those of its front and of the rest
pub record IsFollowed (whole : ℕ) (ts zs : List Token) (rest : List ℕ) : Type 0 where
  pub more : List Token
  pub split : zs ≡ ts ++ more
  pub spelled : IsSpelled whole more rest

unspaced : (whole : ℕ) (zs : List Token) (p m : List ℕ) → Spaces p → IsSpelled whole zs (p ++ m) → IsSpelled whole zs m
unspaced whole [] p m g h = all_back p m h
unspaced whole (z ∷ zs) p m g h =
    let left = gap_left p m h.gap (h.front ++ h.rest) g h.spaces (token_starts whole z h.front h.rest h.spelled) h.joined in
    record { gap = left.0; front = h.front; rest = h.rest; joined = left.1; spaces = left.2; spelled = h.spelled; behind = h.behind }

pub followed : (whole : ℕ) (ts zs : List Token) (p m : List ℕ) → IsFront whole ts p m → IsSpelled whole zs (p ++ m) → IsFollowed whole ts zs m
followed whole [] zs p m h s = record { more = zs; split = refl; spelled = unspaced whole zs p m h s }
followed whole (t ∷ ts) [] p m h s =
    absurd (solid_not_spaces h.gap (h.own ++ (h.back ++ m)) (token_starts whole t h.own (h.back ++ m) h.spelled) (subst Spaces (step_text h) s))
followed whole (t ∷ ts) (z ∷ zs) p m h s =
    let r = gap_same h.gap s.gap (h.own ++ (h.back ++ m)) (s.front ++ s.rest) h.spaces s.spaces (token_starts whole t h.own (h.back ++ m) h.spelled) (token_starts whole z s.front s.rest s.spelled) (sym (step_text h) ∙ s.joined) in
    let parts = one_token whole t z h.own (h.back ++ m) s.front s.rest h.spelled s.spelled r.1 in
    let more = followed whole ts zs h.back m h.more (subst (IsSpelled whole zs) (sym parts.1) s.behind) in
    record { more = more.more; split = λ i. sym parts.0 i ∷ more.split i; spelled = more.spelled }

-- ---- how far tokens are read

-- the tokens in front of a text, behind which there is none
pub record IsRun (whole : ℕ) (text terminals : List ℕ) : Type 0 where
  pub tokens : List Token
  pub front : List ℕ
  pub rest : List ℕ
  pub joined : text ≡ front ++ rest
  pub read : IsFront whole tokens front rest
  pub stays : behind_spaces rest ≡ rest
  pub stopped : first_token whole rest ≡ None
  pub bytes : terminals ≡ map token_byte tokens

pub run : (text : List ℕ) → IsRun (length text) text (terminals_in text)
run text =
    let whole = length text in
    let some = some_tokens whole whole text (omega arith) in
    let f = front_of whole (IsStuck whole) some.0 text some.1 in
    record {
      tokens = some.0;
      front = f.front;
      rest = f.rest;
      joined = f.joined;
      read = f.read;
      stays = unspaced_stays f.rest f.behind.no_space;
      stopped = stuck_none whole f.rest f.behind;
      bytes = terminals_spelled whole text text some.0 (omega arith) some.1;
    }

-- the tokens of a front in two parts
pub record IsCut (whole : ℕ) (xs ys : List Token) (text rest : List ℕ) : Type 0 where
  pub front : List ℕ
  pub middle : List ℕ
  pub joined : text ≡ front ++ (middle ++ rest)
  pub read : IsFront whole xs front (middle ++ rest)
  pub left : IsFront whole ys middle rest
  pub stays : behind_spaces (middle ++ rest) ≡ middle ++ rest

pub cut : (whole : ℕ) (xs ys : List Token) (p m : List ℕ) → behind_spaces m ≡ m → IsFront whole (xs ++ ys) p m → IsCut whole xs ys (p ++ m) m
cut whole [] [] p m st h = record { front = p; middle = []; joined = refl; read = h; left = refl; stays = st }
cut whole [] (t ∷ ys) p m st h = record {
  front = h.gap;
  middle = h.own ++ h.back;
  joined = ap (λ z. z ++ m) h.joined ∙ append_assoc h.gap (h.own ++ h.back) m;
  read = h.spaces;
  left = record { gap = []; own = h.own; back = h.back; joined = refl; spaces = refl; spelled = h.spelled; more = h.more };
  stays = solid_stays ((h.own ++ h.back) ++ m) (subst IsSolid (sym (append_assoc h.own h.back m)) (token_starts whole t h.own (h.back ++ m) h.spelled));
}
cut whole (x ∷ xs) ys p m st h =
    let c = cut whole xs ys h.back m st h.more in
    record {
      front = h.gap ++ (h.own ++ c.front);
      middle = c.middle;
      joined = step_text h ∙ ap (λ z. h.gap ++ (h.own ++ z)) c.joined ∙ sym (stepped h.gap h.own c.front (c.middle ++ m));
      read = record { gap = h.gap; own = h.own; back = c.front; joined = refl; spaces = h.spaces; spelled = subst (IsTokenAt whole x h.own) c.joined h.spelled; more = c.read };
      left = c.left;
      stays = c.stays;
    }

-- a step's token is the first behind the spaces
pub step_first : {whole : ℕ} {More : List ℕ → Type 0} {t : Token} {front rest : List ℕ} (h : IsStep whole More t front rest) → first_token whole (behind_spaces (front ++ rest)) ≡ Some (t, h.back ++ rest)
step_first {whole} {More} {t} {front} {rest} h =
    let led : IsLed whole (λ r. r ≡ h.back ++ rest) t (front ++ rest) = record { gap = h.gap; front = h.own; rest = h.back ++ rest; joined = step_text h; spaces = h.spaces; spelled = h.spelled; behind = refl } in
    led_first whole led

-- ---- numbers that are not read

digit_first : (b : ℕ) (text : List ℕ) → is_unread (b ∷ text) ≡ true → is_ascii_digit b ≡ true
digit_first b text h =
    elim (is_ascii_digit b) as (λ d. is_ascii_digit b ≡ d → d ≡ true) [
      | true ↦ λ d. refl
      | false ↦ λ d. absurd (let n = no_digits 0 b text d in false≢true (sym (sym h ∙ ap (λ k. not (nat_eq k 0) && not (is_number (take k (b ∷ text)))) n)))
    ] refl

digit_no_space : (b : ℕ) → is_ascii_digit b ≡ true → is_space b ≡ false
digit_no_space b h = grind (arith, nat_tests)

pub unread_solid : (text : List ℕ) → is_unread text ≡ true → IsSolid text
unread_solid [] h = absurd (false≢true h)
unread_solid (b ∷ text) h = record { head = b; tail = text; is = refl; no_space = digit_no_space b (digit_first b text h) }

never : (a b : Bool) → (not a && not b) ≡ true → b ≡ false
never true b h = absurd (false≢true h)
never false true h = absurd (false≢true h)
never false false h = refl

pub unread_none : (whole : ℕ) (text : List ℕ) → is_unread text ≡ true → first_token whole text ≡ None
unread_none whole [] h = absurd (false≢true h)
unread_none whole (b ∷ text) h = by_digit whole b text (digit_first b text h) ∙ rw (never (nat_eq (unsigned_length (b ∷ text)) 0) (is_number (take (unsigned_length (b ∷ text)) (b ∷ text))) h) refl

-- a number that is not read behind tokens is the rest that no token begins
pub same_unread : (whole : ℕ) (Behind : List ℕ → Type 0) (ts us : List Token) (p m : List ℕ) → ((r : List ℕ) → Behind r → is_unread r ≡ true) → first_token whole m ≡ None → behind_spaces m ≡ m → IsFront whole ts p m → IsSpelledThen whole Behind us (p ++ m) → Behind m
same_unread whole Behind [] [] p m is none st h s =
    let solid = unread_solid s.rest (is s.rest s.behind) in
    let left = gap_left p m s.gap s.rest h s.spaces solid s.joined in
    subst Behind (sym (sym st ∙ ap behind_spaces left.1 ∙ skip_gap left.0 s.rest left.2 ∙ solid_stays s.rest solid)) s.behind
same_unread whole Behind [] (u ∷ us) p m is none st h s =
    let solid = token_starts whole u s.front s.rest s.spelled in
    let left = gap_left p m s.gap (s.front ++ s.rest) h s.spaces solid s.joined in
    let same : m ≡ s.front ++ s.rest = sym st ∙ ap behind_spaces left.1 ∙ skip_gap left.0 (s.front ++ s.rest) left.2 ∙ solid_stays (s.front ++ s.rest) solid in
    absurd (no_some (u, s.rest) (sym none ∙ ap (first_token whole) same ∙ token_found whole u s.front s.rest s.spelled))
same_unread whole Behind (t ∷ ts) [] p m is none st h s =
    let unread = is s.rest s.behind in
    let r = gap_same h.gap s.gap (h.own ++ (h.back ++ m)) s.rest h.spaces s.spaces (token_starts whole t h.own (h.back ++ m) h.spelled) (unread_solid s.rest unread) (sym (step_text h) ∙ s.joined) in
    absurd (no_some (t, h.back ++ m) (sym (unread_none whole s.rest unread) ∙ ap (first_token whole) (sym r.1) ∙ token_found whole t h.own (h.back ++ m) h.spelled))
same_unread whole Behind (t ∷ ts) (u ∷ us) p m is none st h s =
    let r = gap_same h.gap s.gap (h.own ++ (h.back ++ m)) (s.front ++ s.rest) h.spaces s.spaces (token_starts whole t h.own (h.back ++ m) h.spelled) (token_starts whole u s.front s.rest s.spelled) (sym (step_text h) ∙ s.joined) in
    let parts = one_token whole t u h.own (h.back ++ m) s.front s.rest h.spelled s.spelled r.1 in
    same_unread whole Behind ts us h.back m is none st h.more (subst (IsSpelledThen whole Behind us) (sym parts.1) s.behind)

-- ---- texts of given terminals

-- a text for each token, with a space before it
abbrev pub sampled : List Token → List ℕ
sampled [] = []
sampled (t ∷ ts) = 32 ∷ ((terminal_text (terminal_of t)).0 ++ sampled ts)

pub ends_sampled : (m : List ℕ) (ts : List Token) → EndsSo m (sampled ts)
ends_sampled m [] = at_end m
ends_sampled m (t ∷ ts) = at_space m 32 ((terminal_text (terminal_of t)).0 ++ sampled ts) refl

-- a token of the terminal before the texts of others
pub terminal_before : (whole : ℕ) (t : Token) (text : List ℕ) → IsTerminalAt (terminal_of t) whole text [] → (ts : List Token) → IsTerminalAt (terminal_of t) whole text (sampled ts)
terminal_before whole t text k ts =
    subst (λ z. IsTerminalAt z whole text (sampled ts)) k.1 (token_before whole whole k.0 text [] (sampled ts) (ends_sampled [] ts) k.2)

-- tokens of the terminals of the others, which the text spells
abbrev pub SpelledSo : ℕ → List Token → List ℕ → Type 0
SpelledSo whole ts text = (zs : List Token) × (map token_byte zs ≡ map token_byte ts) × IsSpelled whole zs text

pub spelled_samples : (whole : ℕ) (ts : List Token) → SpelledSo whole ts (sampled ts)
spelled_samples whole [] = ([], refl, refl)
spelled_samples whole (t ∷ ts) =
    let sample = terminal_text (terminal_of t) in
    let k = terminal_before whole t sample.0 (terminal_at_end (terminal_of t) sample.0 sample.1 whole) ts in
    let more = spelled_samples whole ts in
    (k.0 ∷ more.0, (λ i. terminal_byte (k.1 i) ∷ more.1 i), record { gap = 32 ∷ []; front = sample.0; rest = sampled ts; joined = refl; spaces = refl; spelled = k.2; behind = more.2 })
