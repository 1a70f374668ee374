-- The place of a text that is no text of a grammar over the terminals of its tokens.
use Rattle.std.proofs.Common.{◌≡◌, ◌⊎◌, inl, inr, ℕ, zero, suc, ◌+◌, ◌-◌, ◌<◌, ◌≤◌, true, false, List, [], ◌∷◌, ◌++◌, length, take, drop, map, Option, Some, None, refl, sym, ap, subst, ◌∙◌, append_assoc, length-append, append-nil, arith}
use Rattle.std.specs.Prelude.{slice_get}
use Rattle.std.specs.List.{AllByRecursion}
use Rattle.std.specs.Option.{unwrap_or, ForSome}
use Rattle.std.proofs.lemmas.Bool.{false≢true, cases_lt}
use Rattle.std.proofs.lemmas.Option.{some_pair_parts, same_Some, slice_get_within, get_or_from_slice_get}
use Rattle.std.proofs.lemmas.List.{take-append-drop, take-map, map-append, length-map}
use Rattle.std.proofs.lemmas.List.{take_all}
use Rattle.std.proofs.Math.Seq.{take-append_seam, take-append-add, take-suc, length-take-le}
use Rattle.lk_grammar.specs.Places.{IsViable, IsPlace, Judges}
use Rattle.lk_grammar.proofs.ReadingLaws.{place_of_judged}
use Rattle.lk_expr_token.specs.declared.token.Token.{Token}
use Rattle.lk_expr_token.specs.declared.terminal.Terminal.{Terminal}
use Rattle.lk_expr_token.specs.Tokens.{IsTokenAt, IsSpelled}
use Rattle.lk_expr_token.specs.Lexing.{first_token}
use Rattle.lk_expr_token.specs.Terminals.{terminal_of, token_byte, terminal_byte, every_terminal}
use Rattle.lk_expr_token.specs.TokenFronts.{is_unread, IsOfTerminal, IsUnreadAt, IsSpelledThen, IsUnspaced, behind_spaces, terminals_in, behind_tokens}
use Rattle.lk_expr_token.proofs.LexSteps.{no_some}
use Rattle.lk_expr_token.proofs.LexLaws.{token_found}
use Rattle.lk_expr_token.proofs.TerminalLaws.{EndsSo, same_head, token_before, terminal_at_end, of_terminal, IsSolid, token_solid, solid_stays}
use Rattle.lk_expr_place.specs.SyntaxPlaces.{IsSyntaxPlace, IsTerminalText, MayFollow, IsLongest, IsStart}
use Rattle.lk_expr_token.proofs.TerminalsKnown.{terminal_there}
use Rattle.lk_expr_token.proofs.FrontTokens.{skip_gap, skips_all, solid_more, behind_spelled}
use Rattle.lk_expr_place.proofs.ReadFronts.{solid_not_spaces, gap_same, IsFront, moved, step_text, step_first, glued, front_then, followed, IsRun, run, IsCut, cut, one_token, same_unread, sampled, ends_sampled, terminal_before, spelled_samples}

-- ---- lists

-- the items of an image behind a front
abbrev Behind : List Token → List ℕ → List ℕ → Type 0
Behind zs front more = (ys : List Token) × (map token_byte ys ≡ more)

image_behind : (zs : List Token) (front more : List ℕ) → map token_byte zs ≡ front ++ more → Behind zs front more
image_behind zs [] more e = (zs, e)
image_behind [] (b ∷ front) more e = absurd (let f : ⊥ = cc in f)
image_behind (z ∷ zs) (b ∷ front) more e = let rest : map token_byte zs ≡ front ++ more = cc in image_behind zs front more rest

-- one front of a text begins with the other
abbrev Longer : List ℕ → List ℕ → Type 0
Longer x front = (more : List ℕ) × (front ≡ x ++ more)

longer : (x y front rest : List ℕ) → x ++ y ≡ front ++ rest → length x ≤ length front → Longer x front
longer [] y front rest e h = (front, refl)
longer (b ∷ x) y [] rest e h = absurd (omega arith)
longer (b ∷ x) y (c ∷ front) rest e h =
    let first : b ≡ c = cc in
    let more : x ++ y ≡ front ++ rest = cc in
    let r = longer x y front rest more (omega (arith, h)) in
    (r.0, λ i. sym first i ∷ r.1 i)

rest_same : (x y z : List ℕ) → x ++ y ≡ x ++ z → y ≡ z
rest_same [] y z e = e
rest_same (b ∷ x) y z e = let more : x ++ y ≡ x ++ z = cc in rest_same x y z more

-- ---- every terminal

among : (P : Terminal → Type 0) (ks : List Terminal) (n : ℕ) (k : Terminal) → slice_get ks n ≡ Some k → AllByRecursion P ks → P k
among P [] n k e h = absurd (no_some k e)
among P (c ∷ ks) zero k e h = subst P (same_Some c k e) h.0
among P (c ∷ ks) (suc n) k e h = among P ks n k e h.1

each_terminal : (P : Terminal → Type 0) → AllByRecursion P every_terminal → (k : Terminal) → P k
each_terminal P h k = among P every_terminal (terminal_byte k - 1) k (terminal_there k) h

-- ---- over a grammar of terminals whose bytes are those of tokens

module _ (Terminals : List ℕ → Type 0) (tokens_of : (bytes : List ℕ) → Terminals bytes → (ts : List Token) × (map token_byte ts ≡ bytes)) where
  -- ---- what may stand

  -- a front of tokens that may stand begins a text
  pub front_viable : (whole : ℕ) (xs : List Token) (p rest : List ℕ) → IsFront whole xs p rest → IsViable Terminals (map token_byte xs) → IsViable (IsTerminalText Terminals) p
  front_viable whole xs p rest h v =
      let zs = tokens_of (map token_byte xs ++ v.0) v.1 in
      let ys = image_behind zs.0 (map token_byte xs) v.0 zs.1 in
      let y = sampled ys.0 in
      let other = length (p ++ y) in
      let mv = moved whole other xs p rest y (ends_sampled rest ys.0) h in
      let sp = spelled_samples other ys.0 in
      let same : map token_byte xs ++ v.0 ≡ map token_byte (mv.tokens ++ sp.0) = sym (map-append token_byte mv.tokens sp.0 ∙ (λ i. mv.bytes i ++ (sp.1 ∙ ys.1) i)) in
      (y, (mv.tokens ++ sp.0, glued other mv.tokens sp.0 p y mv.is sp.2, subst Terminals same v.1))

  headed : (b : ℕ) (rest more other : List ℕ) → rest ≡ b ∷ more → (tail : List ℕ) → other ≡ b ∷ tail → EndsSo rest other
  headed b rest more other e tail f = subst (λ z. EndsSo z other) (sym e) (subst (EndsSo (b ∷ more)) (sym f) (same_head b more tail))

  -- and so it does with what begins a token of a terminal that may follow
  pub start_viable : (whole : ℕ) (xs : List Token) (p rest : List ℕ) (b : ℕ) (more x tail : List ℕ) (k : Terminal) → IsFront whole xs p rest → rest ≡ b ∷ more → x ≡ b ∷ tail → MayFollow Terminals (map token_byte xs) k → IsViable (IsOfTerminal k) x → IsViable (IsTerminalText Terminals) (p ++ x)
  start_viable whole xs p rest b more x tail k h r e v of =
      let zs = tokens_of ((map token_byte xs ++ terminal_byte k ∷ []) ++ v.0) v.1 in
      let ys = image_behind zs.0 (map token_byte xs ++ terminal_byte k ∷ []) v.0 zs.1 in
      let y = sampled ys.0 in
      let joined : (p ++ x) ++ (of.0 ++ y) ≡ p ++ ((x ++ of.0) ++ y) = append_assoc p x (of.0 ++ y) ∙ ap (λ z. p ++ z) (sym (append_assoc x of.0 y)) in
      let other = length ((p ++ x) ++ (of.0 ++ y)) in
      let mv = moved whole other xs p rest ((x ++ of.0) ++ y) (headed b rest more ((x ++ of.0) ++ y) r ((tail ++ of.0) ++ y) (ap (λ z. (z ++ of.0) ++ y) e)) h in
      let at = terminal_at_end k (x ++ of.0) of.1 other in
      let t = terminal_before other at.0 (x ++ of.0) (at.0, refl, at.2) ys.0 in
      let sp = spelled_samples other ys.0 in
      let terminal : terminal_of t.0 ≡ k = t.1 ∙ at.1 in
      let spelled : IsSpelled other (t.0 ∷ sp.0) ((x ++ of.0) ++ y) = record { gap = []; front = x ++ of.0; rest = y; joined = refl; spaces = refl; spelled = t.2; behind = sp.2 } in
      let same : (map token_byte xs ++ terminal_byte k ∷ []) ++ v.0 ≡ map token_byte (mv.tokens ++ t.0 ∷ sp.0) =
      append_assoc (map token_byte xs) (terminal_byte k ∷ []) v.0 ∙ sym (map-append token_byte mv.tokens (t.0 ∷ sp.0) ∙ (λ i. mv.bytes i ++ (terminal_byte (terminal i) ∷ (sp.1 ∙ ys.1) i))) in
      (of.0 ++ y, (mv.tokens ++ t.0 ∷ sp.0, subst (IsSpelled other (mv.tokens ++ t.0 ∷ sp.0)) (sym joined) (glued other mv.tokens (t.0 ∷ sp.0) p ((x ++ of.0) ++ y) mv.is spelled), subst Terminals same v.1))

  -- ---- nothing longer may stand

  -- what the grammar says of a text that goes on behind a front, with the first token of the rest
  may_of : (xs moved_xs : List Token) (t : Token) (ts : List Token) → map token_byte moved_xs ≡ map token_byte xs → Terminals (map token_byte (moved_xs ++ t ∷ ts)) → MayFollow Terminals (map token_byte xs) (terminal_of t)
  may_of xs moved_xs t ts e k =
      (map token_byte ts, subst Terminals (map-append token_byte moved_xs (t ∷ ts) ∙ ap (λ z. z ++ (token_byte t ∷ map token_byte ts)) e ∙ sym (append_assoc (map token_byte xs) (token_byte t ∷ []) (map token_byte ts))) k)

  -- a token that the longer text has where the rest begins: it is longer than what was read, or the rest has it too
  longest_by : (whole other : ℕ) (rest x y own behind left : List ℕ) (n : ℕ) (t : Token) (terminals : List ℕ) → rest ≡ x ++ left → x ++ y ≡ own ++ behind → IsTokenAt other t own behind → MayFollow Terminals terminals (terminal_of t)
      → ((u : Token) (r : List ℕ) → first_token whole rest ≡ Some (u, r) → MayFollow Terminals terminals (terminal_of u) → ⊥)
      → (IsViable (IsOfTerminal (terminal_of t)) x → length x ≤ n) → length x ≤ n
  longest_by whole other rest x y own behind left n t terminals split e spelled may stop bound =
      elim (cases_lt (length own) (length x)) [
        | inr short ↦ let l = longer x y own behind e short in bound (l.0, subst (IsOfTerminal (terminal_of t)) l.1 (of_terminal other t own behind spelled))
        | inl long ↦
            let l = longer own behind x y (sym e) (omega (arith, long)) in
            absurd (inside l.0 l.1 long)
      ]
    where
      inside : (w : List ℕ) → x ≡ own ++ w → length own < length x → ⊥
      inside [] is long = omega (arith, ap length is ∙ ap length (append-nil own), long)
      inside (c ∷ w) is long =
          let tail : behind ≡ (c ∷ w) ++ y = rest_same own behind ((c ∷ w) ++ y) (sym e ∙ ap (λ z. z ++ y) is ∙ append_assoc own (c ∷ w) y) in
          let there : rest ≡ own ++ ((c ∷ w) ++ left) = split ∙ ap (λ z. z ++ left) is ∙ append_assoc own (c ∷ w) left in
          let u = token_before other whole t own behind ((c ∷ w) ++ left) (headed c behind (w ++ y) ((c ∷ w) ++ left) tail (w ++ left) refl) spelled in
          stop u.0 ((c ∷ w) ++ left) (ap (first_token whole) there ∙ token_found whole u.0 own ((c ∷ w) ++ left) u.2) (subst (MayFollow Terminals terminals) (sym u.1) may)

  -- no longer front begins a text
  pub longest_is : (whole : ℕ) (xs : List Token) (p rest : List ℕ) (b : ℕ) (more : List ℕ) (n : ℕ) → IsFront whole xs p rest → rest ≡ b ∷ more → IsSolid rest
      → ((u : Token) (r : List ℕ) → first_token whole rest ≡ Some (u, r) → MayFollow Terminals (map token_byte xs) (terminal_of u) → ⊥)
      → ((k : Terminal) → MayFollow Terminals (map token_byte xs) k → IsLongest rest n k)
      → (x left tail : List ℕ) → x ≡ b ∷ tail → rest ≡ x ++ left → IsViable (IsTerminalText Terminals) (p ++ x) → length x ≤ n
  longest_is whole xs p rest b more n h r solid stop bound x left tail e split v =
      let y = v.0 in
      let zs = v.1.0 in
      let other = length ((p ++ x) ++ y) in
      let mv = moved whole other xs p rest (x ++ y) (headed b rest more (x ++ y) r (tail ++ y) (ap (λ z. z ++ y) e)) h in
      let f = followed other mv.tokens zs p (x ++ y) mv.is (subst (IsSpelled other zs) (append_assoc p x y) v.1.1) in
      first other y f.more mv.tokens mv.bytes f.spelled (subst (λ z. Terminals (map token_byte z)) f.split v.1.2)
    where
      starts : (y : List ℕ) → IsSolid (x ++ y)
      starts y = solid_more x y (record { head = solid.head; tail = tail; is = e ∙ ap (λ z. z ∷ tail) (let same : b ∷ more ≡ solid.head ∷ solid.tail = sym r ∙ solid.is in let is : b ≡ solid.head = cc in is); no_space = solid.no_space })

      first : (other : ℕ) (y : List ℕ) (ts moved_xs : List Token) → map token_byte moved_xs ≡ map token_byte xs → IsSpelled other ts (x ++ y) → Terminals (map token_byte (moved_xs ++ ts)) → length x ≤ n
      first other y [] moved_xs bytes s k = absurd (solid_not_spaces [] (x ++ y) (starts y) s)
      first other y (t ∷ ts) moved_xs bytes s k =
          let g = gap_same [] s.gap (x ++ y) (s.front ++ s.rest) refl s.spaces (starts y) (solid_more s.front s.rest (token_solid other t s.front s.rest s.spelled)) s.joined in
          longest_by whole other rest x y s.front s.rest left n t (map token_byte xs) split g.1 s.spelled (may_of xs moved_xs t ts bytes k) stop
          (λ viable. bound (terminal_of t) (may_of xs moved_xs t ts bytes k) (length x) (fits) (subst (IsViable (IsOfTerminal (terminal_of t))) (sym (ap (take (length x)) split ∙ take-append_seam x left)) viable))
        where
          fits : length x ≤ length rest
          fits = let sizes : length rest ≡ length x + length left = ap length split ∙ length-append x left in omega (arith, sizes)

  -- ---- where reading stops

  -- no token that may follow is in front of what is left
  stops : (whole : ℕ) (xs ys : List Token) (middle m : List ℕ) → IsFront whole ys middle m → behind_spaces (middle ++ m) ≡ middle ++ m → behind_spaces m ≡ m → first_token whole m ≡ None → IsPlace Terminals (map token_byte (xs ++ ys)) (length xs)
      → (u : Token) (r : List ℕ) → first_token whole (middle ++ m) ≡ Some (u, r) → MayFollow Terminals (map token_byte xs) (terminal_of u) → ⊥
  stops whole xs [] middle m left stays st none pl u r e may =
      no_some (u, r) (sym none ∙ ap (first_token whole) (sym (sym stays ∙ skip_gap middle m left ∙ st)) ∙ e)
  stops whole xs (t ∷ ys) middle m left stays st none pl u r e may =
      let parts = some_pair_parts t u (left.back ++ m) r (sym (ap (first_token whole) (sym stays) ∙ step_first left) ∙ e) in
      let bytes = map token_byte xs in
      let sized = length-map xs token_byte in
      let next : suc (length xs) ≡ length bytes + 1 = omega (arith, sized) in
      let taken : take (suc (length xs)) (map token_byte (xs ++ t ∷ ys)) ≡ bytes ++ token_byte t ∷ [] =
      (λ i. take (next i) (map-append token_byte xs (t ∷ ys) i)) ∙ take-append-add bytes (token_byte t ∷ map token_byte ys) 1 in
      let viable : IsViable Terminals (take (suc (length xs)) (map token_byte (xs ++ t ∷ ys))) = subst (IsViable Terminals) (sym taken) (subst (λ z. MayFollow Terminals bytes (terminal_of z)) (sym parts.0) may) in
      let sizes = ap length (map-append token_byte xs (t ∷ ys)) ∙ length-append bytes (token_byte t ∷ map token_byte ys) in
      let more = pl.longest (suc (length xs)) (omega (arith, sizes, sized)) viable in
      omega (arith, more)

  -- the length of what begins a token of a terminal that may follow, or 0
  abbrev Begins : List ℕ → List ℕ → ℕ → Type 0
  Begins terminals rest n = (n ≡ 0) ⊎ ((k : Terminal) × MayFollow Terminals terminals k × IsViable (IsOfTerminal k) (take n rest))

  -- a token of the rest is no shorter than what begins a longer one
  no_longer : (whole : ℕ) (t : Token) (own behind rest : List ℕ) (n : ℕ) (k : Terminal) → rest ≡ own ++ behind → IsTokenAt whole t own behind → n ≤ length rest → IsViable (IsOfTerminal k) (take n rest) → length own < n → ⊥
  no_longer whole t own behind rest n k split spelled within of long =
      let x = take n rest in
      let sized = length-take-le n rest within in
      let l = longer own behind x (drop n rest) (sym (take-append-drop n rest ∙ split)) (omega (arith, sized, long)) in
      inside l.0 l.1
    where
      inside : (w : List ℕ) → take n rest ≡ own ++ w → ⊥
      inside [] is = let sized = length-take-le n rest within in omega (arith, ap length is ∙ ap length (append-nil own), sized, long)
      inside (c ∷ w) is =
          let tail : behind ≡ (c ∷ w) ++ drop n rest = rest_same own behind ((c ∷ w) ++ drop n rest) (sym split ∙ sym (take-append-drop n rest) ∙ ap (λ z. z ++ drop n rest) is ∙ append_assoc own (c ∷ w) (drop n rest)) in
          let other = of.1.0 in
          let u = token_before whole other t own behind ((c ∷ w) ++ of.0) (headed c behind (w ++ drop n rest) ((c ∷ w) ++ of.0) tail (w ++ of.0) refl) spelled in
          let same : own ++ ((c ∷ w) ++ of.0) ≡ (take n rest ++ of.0) ++ [] = sym (append-nil (take n rest ++ of.0) ∙ ap (λ z. z ++ of.0) is ∙ append_assoc own (c ∷ w) of.0) in
          let parts = one_token other u.0 of.1.1 own ((c ∷ w) ++ of.0) (take n rest ++ of.0) [] u.2 of.1.3 same in
          let f : ⊥ = cc (parts.1) in f

  -- no number that is not read is before the place
  none_before : (whole : ℕ) (ys : List Token) (middle m terminals : List ℕ) (n : ℕ) → IsFront whole ys middle m → behind_spaces (middle ++ m) ≡ middle ++ m → behind_spaces m ≡ m → is_unread (middle ++ m) ≡ false → is_unread m ≡ true → n ≤ length (middle ++ m) → Begins terminals (middle ++ m) n → length middle < n → ⊥
  none_before whole ys middle m terminals n left stays st read unread within (inl zero_is) long = omega (arith, zero_is, long)
  none_before whole [] middle m terminals n left stays st read unread within (inr q) long =
      false≢true (sym read ∙ ap is_unread (sym stays ∙ skip_gap middle m left ∙ st) ∙ unread)
  none_before whole (t ∷ ys) middle m terminals n left stays st read unread within (inr q) long =
      let solid = solid_more left.own (left.back ++ m) (token_solid whole t left.own (left.back ++ m) left.spelled) in
      let split : middle ++ m ≡ left.own ++ (left.back ++ m) = sym stays ∙ ap behind_spaces (step_text left) ∙ skip_gap left.gap (left.own ++ (left.back ++ m)) left.spaces ∙ solid_stays (left.own ++ (left.back ++ m)) solid in
      let sizes : length middle ≡ length left.gap + (length left.own + length left.back) = ap length left.joined ∙ length-append left.gap (left.own ++ left.back) ∙ ap (λ z. length left.gap + z) (length-append left.own left.back) in
      no_longer whole t left.own (left.back ++ m) (middle ++ m) n q.0 split left.spelled within q.2 (omega (arith, sizes, long))

  -- ---- the place

  begins_is : (whole : ℕ) (xs : List Token) (p rest : List ℕ) (n : ℕ) → IsFront whole xs p rest → IsViable Terminals (map token_byte xs) → n ≤ length rest → Begins (map token_byte xs) rest n → IsViable (IsTerminalText Terminals) (p ++ take n rest)
  begins_is whole xs p rest zero h v within b = subst (IsViable (IsTerminalText Terminals)) (sym (append-nil p)) (front_viable whole xs p rest h v)
  begins_is whole xs p [] (suc n) h v within b = absurd (omega arith)
  begins_is whole xs p (b ∷ rest) (suc n) h v within (inl e) = absurd (omega arith)
  begins_is whole xs p (b ∷ rest) (suc n) h v within (inr q) = start_viable whole xs p (b ∷ rest) b rest (b ∷ take n rest) (take n rest) q.0 h refl refl q.1 q.2

  bounded : (whole : ℕ) (xs : List Token) (p rest : List ℕ) (n j : ℕ) → IsFront whole xs p rest → behind_spaces rest ≡ rest
      → ((u : Token) (r : List ℕ) → first_token whole rest ≡ Some (u, r) → MayFollow Terminals (map token_byte xs) (terminal_of u) → ⊥)
      → ((k : Terminal) → MayFollow Terminals (map token_byte xs) k → IsLongest rest n k)
      → j ≤ length rest → IsViable (IsTerminalText Terminals) (p ++ take j rest) → j ≤ n
  bounded whole xs p rest n zero h stays stop bound within v = omega arith
  bounded whole xs p [] n (suc j) h stays stop bound within v = absurd (omega arith)
  bounded whole xs p (b ∷ rest) n (suc j) h stays stop bound within v =
      let sized = length-take-le (suc j) (b ∷ rest) within in
      let short = longest_is whole xs p (b ∷ rest) b rest n h refl (solid_rest b rest stays) stop bound (b ∷ take j rest) (drop j rest) (take j rest) refl (sym (take-append-drop (suc j) (b ∷ rest))) v in
      omega (arith, sized, short)
    where
      solid_rest : (b : ℕ) (rest : List ℕ) → behind_spaces (b ∷ rest) ≡ b ∷ rest → IsSolid (b ∷ rest)
      solid_rest b rest stays = record { head = b; tail = rest; is = refl; no_space = subst IsUnspaced stays (skips_all (b ∷ rest)) b rest refl }

  sized_text : (text p rest : List ℕ) → text ≡ p ++ rest → length text ≡ length p + length rest
  sized_text text p rest e = ap length e ∙ length-append p rest

  -- the place, from where reading stops and what begins a token there
  place_at : (text : List ℕ) (xs ys : List Token) (p middle m : List ℕ) (n : ℕ) → text ≡ p ++ (middle ++ m)
      → IsFront (length text) xs p (middle ++ m) → IsFront (length text) ys middle m → behind_spaces (middle ++ m) ≡ middle ++ m → behind_spaces m ≡ m → first_token (length text) m ≡ None
      → IsPlace Terminals (map token_byte (xs ++ ys)) (length xs) → IsViable Terminals (map token_byte xs)
      → ((k : ℕ) → IsUnreadAt text k → (is_unread m ≡ true) × (k + length m ≡ length text))
      → (is_unread (middle ++ m) ≡ true → n ≡ 0) → (is_unread (middle ++ m) ≡ false → IsStart Terminals (map token_byte xs) (middle ++ m) every_terminal n)
      → IsSyntaxPlace (IsTerminalText Terminals) text (length p + n)
  place_at text xs ys p middle m n e read left stays st none pl viable all at_once start =
      elim (is_unread (middle ++ m)) as (λ d. is_unread (middle ++ m) ≡ d → IsSyntaxPlace (IsTerminalText Terminals) text (length p + n)) [
        | true ↦ λ d. number d (at_once d)
        | false ↦ λ d. syntax d (start d)
      ] refl
    where
      sizes : length text ≡ length p + (length middle + length m)
      sizes = sized_text text p (middle ++ m) e ∙ ap (λ z. length p + z) (length-append middle m)

      begins : n ≤ length (middle ++ m) → Begins (map token_byte xs) (middle ++ m) n → IsViable (IsTerminalText Terminals) (take (length p + n) text)
      begins within b = subst (IsViable (IsTerminalText Terminals)) (sym (ap (take (length p + n)) e ∙ take-append-add p (middle ++ m) n)) (begins_is (length text) xs p (middle ++ m) n read viable within b)

      number : is_unread (middle ++ m) ≡ true → n ≡ 0 → IsSyntaxPlace (IsTerminalText Terminals) text (length p + n)
      number d z = record {
        within = omega (arith, sizes, z);
        begins = begins (omega (arith, z)) (inl z);
        none = λ k less u. let a = all k u in omega (arith, sizes, z, less, a.1);
        reached = inl (xs, subst (IsSpelledThen (length text) (λ r. (is_unread r ≡ true) × ((length p + n) + length r ≡ length text)) xs) (sym e) (front_then (length text) (λ r. (is_unread r ≡ true) × ((length p + n) + length r ≡ length text)) xs p (middle ++ m) read (d, omega (arith, sized_text text p (middle ++ m) e, z))));
      }

      syntax : is_unread (middle ++ m) ≡ false → IsStart Terminals (map token_byte xs) (middle ++ m) every_terminal n → IsSyntaxPlace (IsTerminalText Terminals) text (length p + n)
      syntax d s = record {
        within = let w = s.within in omega (arith, sized_text text p (middle ++ m) e, w);
        begins = begins s.within s.begins;
        none = λ k less u.
            let a = all k u in
            none_before (length text) ys middle m (map token_byte xs) n left stays st d a.0 s.within s.begins (omega (arith, sizes, less, a.1));
        reached = inr (λ k within v. elim (cases_lt (length p) k) [
          | inr short ↦ omega (arith, short)
          | inl long ↦
              let j = k - length p in
              let is : k ≡ length p + j = omega (arith, long) in
              let taken : take k text ≡ p ++ take j (middle ++ m) = (λ i. take (is i) (e i)) ∙ take-append-add p (middle ++ m) j in
              let short = bounded (length text) xs p (middle ++ m) n j read stays (stops (length text) xs ys middle m left stays st none pl) (each_terminal (λ k. MayFollow Terminals (map token_byte xs) k → IsLongest (middle ++ m) n k) s.longest) (omega (arith, sized_text text p (middle ++ m) e, within, is)) (subst (IsViable (IsTerminalText Terminals)) taken v) in
              omega (arith, is, short)
        ]);
      }

  -- the place of a text, from its judgement over terminals and the longest start of a token where it stops
  pub syntax_place : (text : List ℕ) (o : Option ℕ) (terminals rest : List ℕ) (n : ℕ) → Judges Terminals (terminals_in text) o
      → terminals ≡ take (unwrap_or o (length (terminals_in text))) (terminals_in text) → rest ≡ behind_tokens (length text) terminals text
      → (is_unread rest ≡ true → n ≡ 0) → (is_unread rest ≡ false → IsStart Terminals terminals rest every_terminal n)
      → IsSyntaxPlace (IsTerminalText Terminals) text ((length text - length rest) + n)
  syntax_place text o terminals rest n judged terminals_is rest_is at_once start =
      let there = r.joined ∙ c.joined in
      let left_is : rest ≡ c.middle ++ r.rest = rest_is ∙ ap (behind_tokens (length text) terminals) there
      ∙ behind_spelled (length text) (c.front ++ (c.middle ++ r.rest)) (c.middle ++ r.rest) xs terminals (ap length terminals_are ∙ length-map xs token_byte) (subst IsUnspaced c.stays (skips_all (c.middle ++ r.rest)))
      (front_then (length text) (λ z. z ≡ c.middle ++ r.rest) xs c.front (c.middle ++ r.rest) c.read refl) in
      let at = place_at text xs ys c.front c.middle r.rest n there c.read c.left c.stays r.stays r.stopped placed (subst (IsViable Terminals) terminals_xs place.begins) all
      (λ d. at_once (ap is_unread left_is ∙ d)) (λ d. subst (λ z. IsStart Terminals z (c.middle ++ r.rest) every_terminal n) terminals_are (subst (λ z. IsStart Terminals terminals z every_terminal n) left_is (start (ap is_unread left_is ∙ d)))) in
      let sizes = sized_text text c.front (c.middle ++ r.rest) there in
      let rests = ap length left_is in
      let same : length c.front + n ≡ (length text - length rest) + n = omega (arith, sizes, rests) in
      subst (IsSyntaxPlace (IsTerminalText Terminals) text) same at
    where
      i : ℕ
      i = unwrap_or o (length (terminals_in text))

      r : IsRun (length text) text (terminals_in text)
      r = run text

      place : IsPlace Terminals (terminals_in text) i
      place = place_of_judged Terminals (terminals_in text) o judged

      xs : List Token
      xs = take i r.tokens

      ys : List Token
      ys = drop i r.tokens

      joined : xs ++ ys ≡ r.tokens
      joined = take-append-drop i r.tokens

      inside : i ≤ length r.tokens
      inside = let w = place.within in omega (arith, w, ap length r.bytes, length-map r.tokens token_byte)

      terminals_xs : take i (terminals_in text) ≡ map token_byte xs
      terminals_xs = ap (take i) r.bytes ∙ take-map token_byte i r.tokens

      terminals_are : terminals ≡ map token_byte xs
      terminals_are = terminals_is ∙ terminals_xs

      placed : IsPlace Terminals (map token_byte (xs ++ ys)) (length xs)
      placed = subst (IsPlace Terminals (map token_byte (xs ++ ys))) (sym (length-take-le i r.tokens inside)) (subst (λ z. IsPlace Terminals z i) (r.bytes ∙ ap (map token_byte) (sym joined)) place)

      c : IsCut (length text) xs ys (r.front ++ r.rest) r.rest
      c = cut (length text) xs ys r.front r.rest r.stays (subst (λ z. IsFront (length text) z r.front r.rest) (sym joined) r.read)

      all : (k : ℕ) → IsUnreadAt text k → (is_unread r.rest ≡ true) × (k + length r.rest ≡ length text)
      all k u = same_unread (length text) (λ z. (is_unread z ≡ true) × (k + length z ≡ length text)) r.tokens u.0 r.front r.rest (λ z b. b.0) r.stopped r.stays r.read (subst (IsSpelledThen (length text) (λ z. (is_unread z ≡ true) × (k + length z ≡ length text)) u.0) r.joined u.1)

-- ---- the longest start of a token of some terminals

module _ (Terminals : List ℕ → Type 0) (terminals rest : List ℕ) where
  pub nothing_starts : IsStart Terminals terminals rest [] 0
  nothing_starts = record { within = omega arith; begins = inl refl; longest = tt }

  no_less : (m n : ℕ) → n ≤ m → (ks : List Terminal) → AllByRecursion (λ k. MayFollow Terminals terminals k → IsLongest rest n k) ks → AllByRecursion (λ k. MayFollow Terminals terminals k → IsLongest rest m k) ks
  no_less m n h [] all = tt
  no_less m n h (k ∷ ks) all = ((λ may j within v. let l = all.0 may j within v in omega (arith, l, h)), no_less m n h ks all.1)

  -- a terminal whose front is no longer, or which may not follow, moves nothing
  pub no_longer_starts : (k : Terminal) (ks : List Terminal) (best own : ℕ) → IsStart Terminals terminals rest ks best → IsPlace (IsOfTerminal k) rest own → own ≤ best → IsStart Terminals terminals rest (k ∷ ks) best
  no_longer_starts k ks best own h at short = record {
    within = h.within;
    begins = h.begins;
    longest = ((λ may m within v. let l = at.longest m within v in omega (arith, l, short)), h.longest);
  }

  pub none_starts : (k : Terminal) (ks : List Terminal) (best : ℕ) → IsStart Terminals terminals rest ks best → (MayFollow Terminals terminals k → ⊥) → IsStart Terminals terminals rest (k ∷ ks) best
  none_starts k ks best h not_may = record { within = h.within; begins = h.begins; longest = ((λ may. absurd (not_may may)), h.longest) }

  -- one with a longer front that may follow is the longest so far
  pub longer_starts : (k : Terminal) (ks : List Terminal) (best own : ℕ) → IsStart Terminals terminals rest ks best → IsPlace (IsOfTerminal k) rest own → MayFollow Terminals terminals k → best ≤ own → IsStart Terminals terminals rest (k ∷ ks) own
  longer_starts k ks best own h at may long = record {
    within = at.within;
    begins = inr (k, may, at.begins);
    longest = ((λ _. at.longest), no_less own best long ks h.longest);
  }

-- ---- fronts

-- no more than all of a list is taken
pub taken_whole : (n : ℕ) (xs : List ℕ) → length xs ≤ n → take n xs ≡ xs
taken_whole n xs most = take_all n xs most
