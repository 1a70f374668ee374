-- Tokens of a form: the lists of tokens whose terminals are a text of it.
use Rattle.std.proofs.Common.{◌≡◌, inl, inr, ℕ, zero, suc, ◌≤◌, Bool, true, ◌&&◌, nat_eq, List, [], ◌∷◌, ◌++◌, map, refl, sym, ap, subst, ◌∙◌, append_assoc, append-nil, arith}
use Rattle.std.specs.List.{concat, list_all, AllByRecursion}
use Rattle.std.proofs.lemmas.Bool.Decides.{Decides-eqb}
use Rattle.std.proofs.lemmas.List.{map-append}
use Rattle.std.proofs.lemmas.List.Folds.{concat-append}
use Rattle.lk_grammar.specs.Forms.{Form, nothing, empty, byte, seq, either, many, nested, IsSpelled, IsRuleText, rule_at}
use Rattle.lk_grammar.proofs.FormLaws.{both}
use Rattle.lk_expr_token.specs.declared.token.Keyword.{Keyword}
use Rattle.lk_expr_token.specs.declared.token.Sign.{Sign}
use Rattle.lk_expr_token.specs.declared.token.Sign.TheVariants as sign
use Rattle.lk_expr_token.specs.declared.token.Token.{Token}
use Rattle.lk_expr_token.specs.declared.token.Token.TheVariants as token
use Rattle.lk_expr_token.specs.declared.terminal.Terminal.{Terminal}
use Rattle.lk_expr_token.specs.declared.terminal.Terminal.TheVariants as terminal
use Rattle.lk_expr_token.specs.Terminals.{terminal_byte, token_byte, every_terminal}
use Rattle.lk_expr_place.specs.GrammarForms.{terminal_form, word, mark, one_of, bracketed}
use Rattle.lk_expr_place.proofs.TerminalBytes.{IsLike, like, is_terminal, token_of}

-- the terminals of the tokens are a text of the form, where those of each rule are given
abbrev pub IsTokens : (ℕ → List ℕ → Type 0) → Form → List Token → Type 0
IsTokens Rule form ts = IsSpelled Rule form (map token_byte ts)

-- ---- tokens that are split

-- tokens of the first terminal and behind them ones of the second
pub record IsSplit (First Second : List Token → Type 0) (ts : List Token) : Type 0 where
  pub front : List Token
  pub back : List Token
  pub joined : ts ≡ front ++ back
  pub first : First front
  pub second : Second back

abbrev HasBytes : List ℕ → List Token → Type 0
HasBytes bytes ts = map token_byte ts ≡ bytes

tail_of : (b c : ℕ) (xs ys : List ℕ) → b ∷ xs ≡ c ∷ ys → (b ≡ c) × (xs ≡ ys)
tail_of b c xs ys e = let p : b ≡ c = cc in let q : xs ≡ ys = cc in (p, q)

split : (ts : List Token) (front back : List ℕ) → map token_byte ts ≡ front ++ back → IsSplit (HasBytes front) (HasBytes back) ts
split ts [] back e = record { front = []; back = ts; joined = refl; first = refl; second = e }
split [] (b ∷ front) back e = absurd (let f : ⊥ = cc in f)
split (t ∷ ts) (b ∷ front) back e =
    let parts = tail_of (token_byte t) b (map token_byte ts) (front ++ back) e in
    let rest = split ts front back parts.1 in
    record {
      front = t ∷ rest.front;
      back = rest.back;
      joined = ap (λ z. t ∷ z) rest.joined;
      first = ap (λ z. z ∷ map token_byte rest.front) parts.0 ∙ ap (λ z. b ∷ z) rest.first;
      second = rest.second;
    }

-- the parts one behind the other
abbrev all_of : List (List Token) → List Token
all_of [] = []
all_of (part ∷ parts) = part ++ all_of parts

record IsParted (Part : List Token → Type 0) (ts : List Token) : Type 0 where
  parts : List (List Token)
  joined : ts ≡ all_of parts
  each : AllByRecursion Part parts

-- what holds of each one
fold_parts : {Whole Part : List Token → Type 0} → ((us vs : List Token) → Whole us → Part vs → Whole (us ++ vs)) → (us : List Token) (parts : List (List Token)) → Whole us → AllByRecursion Part parts → Whole (us ++ all_of parts)
fold_parts {Whole} add us [] whole each = subst Whole (sym (append-nil us)) whole
fold_parts {Whole} add us (part ∷ parts) whole each =
    subst Whole (append_assoc us part (all_of parts)) (fold_parts add (us ++ part) parts (add us part whole each.0) each.1)

-- a token of a terminal
pub record IsOneOf (k : Terminal) (ts : List Token) : Type 0 where
  pub first : Token
  pub alone : ts ≡ first ∷ []
  pub like : IsLike k first

-- the token, and behind it tokens of the terminal
pub record IsLed (first : Token) (Rest : List Token → Type 0) (ts : List Token) : Type 0 where
  pub rest : List Token
  pub joined : ts ≡ first ∷ rest
  pub behind : Rest rest

-- tokens of the terminal in brackets
pub record IsBracketed (Inside : List Token → Type 0) (ts : List Token) : Type 0 where
  pub inside : List Token
  pub joined : ts ≡ token.Sign sign.Open ∷ (inside ++ token.Sign sign.Close ∷ [])
  pub within : Inside inside

one_byte : (ts : List Token) (b : ℕ) → map token_byte ts ≡ b ∷ [] → (t : Token) × ((ts ≡ t ∷ []) × (token_byte t ≡ b))
one_byte [] b e = absurd (let f : ⊥ = cc in f)
one_byte (t ∷ []) b e = (t, (refl, (tail_of (token_byte t) b [] [] e).0))
one_byte (t ∷ u ∷ ts) b e = absurd (let f : ⊥ = cc in f)

pub no_tokens : (ts : List Token) → map token_byte ts ≡ [] → ts ≡ []
no_tokens [] e = refl
no_tokens (t ∷ ts) e = absurd (let f : ⊥ = cc in f)

module _ (Rule : ℕ → List ℕ → Type 0) where
  -- ---- what is of a form

  pub seq_split : (f g : Form) (ts : List Token) → IsTokens Rule (seq f g) ts → IsSplit (IsTokens Rule f) (IsTokens Rule g) ts
  seq_split f g ts h =
      let s = split ts h.front h.back h.joined in
      record { front = s.front; back = s.back; joined = s.joined; first = subst (IsSpelled Rule f) (sym s.first) h.first; second = subst (IsSpelled Rule g) (sym s.second) h.second }

  parted : (f : Form) (parts : List (List ℕ)) (ts : List Token) → map token_byte ts ≡ concat parts → AllByRecursion (IsSpelled Rule f) parts → IsParted (IsTokens Rule f) ts
  parted f [] [] e each = record { parts = []; joined = refl; each = tt }
  parted f [] (t ∷ ts) e each = absurd (let z : ⊥ = cc in z)
  parted f (part ∷ parts) ts e each =
      let s = split ts part (concat parts) e in
      let rest = parted f parts s.back s.second each.1 in
      record {
        parts = s.front ∷ rest.parts;
        joined = s.joined ∙ ap (λ z. s.front ++ z) rest.joined;
        each = (subst (IsSpelled Rule f) (sym s.first) each.0, rest.each);
      }

  -- a first part with any number of further ones is put together from the left
  pub folded : {Whole : List Token → Type 0} (f g : Form) → ((us : List Token) → IsTokens Rule f us → Whole us) → ((us vs : List Token) → Whole us → IsTokens Rule g vs → Whole (us ++ vs)) → (ts : List Token) → IsTokens Rule (seq f (many g)) ts → Whole ts
  folded {Whole} f g begin add ts h =
      let s = seq_split f (many g) ts h in
      let p = parted g s.second.parts s.back s.second.joined s.second.each in
      subst Whole (sym (s.joined ∙ ap (λ z. s.front ++ z) p.joined)) (fold_parts {Whole = Whole} {Part = IsTokens Rule g} add s.front p.parts (begin s.front s.first) p.each)

  pub terminal_is : (k : Terminal) (ts : List Token) → IsTokens Rule (terminal_form k) ts → IsOneOf k ts
  terminal_is k ts h =
      let low : terminal_byte k ≤ h.value = h.from in
      let high : h.value ≤ terminal_byte k = h.upto in
      let e : h.value ≡ terminal_byte k = omega arith in
      let t = one_byte ts h.value h.alone in
      record { first = t.0; alone = t.1.0; like = like k t.0 (t.1.1 ∙ e) }

  pub word_is : (k : Keyword) (ts : List Token) → IsTokens Rule (word k) ts → ts ≡ token.Word k ∷ []
  word_is k ts h = let is = terminal_is (terminal.Word k) ts h in is.alone ∙ ap (λ z. z ∷ []) is.like

  pub mark_is : (s : Sign) (ts : List Token) → IsTokens Rule (mark s) ts → ts ≡ token.Sign s ∷ []
  mark_is s ts h = let is = terminal_is (terminal.Sign s) ts h in is.alone ∙ ap (λ z. z ∷ []) is.like

  -- what holds of a token of each of the terminals
  pub one_is : (Whole : List Token → Type 0) (terminals : List Terminal) → AllByRecursion (λ k. (t : Token) → IsLike k t → Whole (t ∷ [])) terminals → (ts : List Token) → IsTokens Rule (one_of terminals) ts → Whole ts
  one_is Whole [] each ts h = absurd h
  one_is Whole (k ∷ terminals) each ts h =
      elim h [
        | inl p ↦ let is = terminal_is k ts p in subst Whole (sym is.alone) (each.0 is.first is.like)
        | inr q ↦ one_is Whole terminals each.1 ts q
      ]

  pub word_led : (k : Keyword) (f : Form) (ts : List Token) → IsTokens Rule (seq (word k) f) ts → IsLed (token.Word k) (IsTokens Rule f) ts
  word_led k f ts h =
      let s = seq_split (word k) f ts h in
      record { rest = s.back; joined = s.joined ∙ ap (λ z. z ++ s.back) (word_is k s.front s.first); behind = s.second }

  pub mark_led : (m : Sign) (f : Form) (ts : List Token) → IsTokens Rule (seq (mark m) f) ts → IsLed (token.Sign m) (IsTokens Rule f) ts
  mark_led m f ts h =
      let s = seq_split (mark m) f ts h in
      record { rest = s.back; joined = s.joined ∙ ap (λ z. z ++ s.back) (mark_is m s.front s.first); behind = s.second }

  pub in_brackets : (f : Form) (ts : List Token) → IsTokens Rule (bracketed f) ts → IsBracketed (IsTokens Rule f) ts
  in_brackets f ts h =
      let l = mark_led sign.Open (seq f (mark sign.Close)) ts h in
      let s = seq_split f (mark sign.Close) l.rest l.behind in
      record {
        inside = s.front;
        joined = l.joined ∙ ap (λ z. token.Sign sign.Open ∷ z) (s.joined ∙ ap (λ z. s.front ++ z) (mark_is sign.Close s.back s.second));
        within = s.first;
      }

  -- ---- what makes a form

  pub seq_joined : (f g : Form) (us vs : List Token) → IsTokens Rule f us → IsTokens Rule g vs → IsTokens Rule (seq f g) (us ++ vs)
  seq_joined f g us vs h k = record { front = map token_byte us; back = map token_byte vs; joined = map-append token_byte us vs; first = h; second = k }

  pub terminal_there : (k : Terminal) (t : Token) → token_byte t ≡ terminal_byte k → IsTokens Rule (terminal_form k) (t ∷ [])
  terminal_there k t e = record { value = terminal_byte k; from = omega arith; upto = omega arith; alone = ap (λ z. z ∷ []) e }

  pub word_there : (k : Keyword) → IsTokens Rule (word k) (token.Word k ∷ [])
  word_there k = terminal_there (terminal.Word k) (token.Word k) refl

  pub mark_there : (s : Sign) → IsTokens Rule (mark s) (token.Sign s ∷ [])
  mark_there s = terminal_there (terminal.Sign s) (token.Sign s) refl

  pub word_before : (k : Keyword) (f : Form) (us : List Token) → IsTokens Rule f us → IsTokens Rule (seq (word k) f) (token.Word k ∷ us)
  word_before k f us h = seq_joined (word k) f (token.Word k ∷ []) us (word_there k) h

  pub mark_before : (s : Sign) (f : Form) (us : List Token) → IsTokens Rule f us → IsTokens Rule (seq (mark s) f) (token.Sign s ∷ us)
  mark_before s f us h = seq_joined (mark s) f (token.Sign s ∷ []) us (mark_there s) h

  pub with_brackets : (f : Form) (us : List Token) → IsTokens Rule f us → IsTokens Rule (bracketed f) (token.Sign sign.Open ∷ (us ++ token.Sign sign.Close ∷ []))
  with_brackets f us h =
      mark_before sign.Open (seq f (mark sign.Close)) (us ++ token.Sign sign.Close ∷ []) (seq_joined f (mark sign.Close) us (token.Sign sign.Close ∷ []) h (mark_there sign.Close))

  -- a first part alone, and one more part behind others
  pub begun : (f g : Form) (us : List Token) → IsTokens Rule f us → IsTokens Rule (seq f (many g)) us
  begun f g us h = record { front = map token_byte us; back = []; joined = sym (append-nil (map token_byte us)); first = h; second = record { parts = []; joined = refl; each = tt } }

  each_joined : (G : List ℕ → Type 0) (parts : List (List ℕ)) (part : List ℕ) → AllByRecursion G parts → G part → AllByRecursion G (parts ++ part ∷ [])
  each_joined G [] part each h = (h, tt)
  each_joined G (p ∷ parts) part each h = (each.0, each_joined G parts part each.1 h)

  pub one_more : (f g : Form) (us vs : List Token) → IsTokens Rule (seq f (many g)) us → IsTokens Rule g vs → IsTokens Rule (seq f (many g)) (us ++ vs)
  one_more f g us vs h k =
      let bytes = map token_byte vs in
      let others = h.second in
      let further : concat (others.parts ++ bytes ∷ []) ≡ concat others.parts ++ bytes = concat-append others.parts (bytes ∷ []) ∙ ap (λ z. concat others.parts ++ z) (append-nil bytes) in
      record {
        front = h.front;
        back = concat others.parts ++ bytes;
        joined = map-append token_byte us vs ∙ ap (λ z. z ++ bytes) (h.joined ∙ ap (λ z. h.front ++ z) others.joined) ∙ append_assoc h.front (concat others.parts) bytes;
        first = h.first;
        second = record { parts = others.parts ++ bytes ∷ []; joined = sym further; each = each_joined (IsSpelled Rule g) others.parts bytes others.each k };
      }

-- ---- each text of such forms is that of some tokens

-- each byte of the form is that of a terminal
abbrev pub has_terminals : Form → Bool
has_terminals nothing = true
has_terminals empty = true
has_terminals (byte low high) = nat_eq low high && is_terminal every_terminal low
has_terminals (seq first second) = has_terminals first && has_terminals second
has_terminals (either one other) = has_terminals one && has_terminals other
has_terminals (many form) = has_terminals form
has_terminals (nested rule) = true

-- some tokens have these bytes
abbrev pub AreBytes : List ℕ → Type 0
AreBytes bytes = (ts : List Token) × (map token_byte ts ≡ bytes)

bytes_joined : (front back : List ℕ) → AreBytes front → AreBytes back → AreBytes (front ++ back)
bytes_joined front back h k = (h.0 ++ k.0, map-append token_byte h.0 k.0 ∙ ap (λ z. z ++ map token_byte k.0) h.1 ∙ ap (λ z. front ++ z) k.1)

parts_have : (G : List ℕ → Type 0) → ((bytes : List ℕ) → G bytes → AreBytes bytes) → (parts : List (List ℕ)) → AllByRecursion G parts → AreBytes (concat parts)
parts_have G has [] each = ([], refl)
parts_have G has (part ∷ parts) each = bytes_joined part (concat parts) (has part each.0) (parts_have G has parts each.1)

module _ (Rule : ℕ → List ℕ → Type 0) (ruled : (rule : ℕ) (bytes : List ℕ) → Rule rule bytes → AreBytes bytes) where
  pub text_has : (f : Form) → has_terminals f ≡ true → (bytes : List ℕ) → IsSpelled Rule f bytes → AreBytes bytes
  text_has nothing k bytes h = absurd h
  text_has empty k bytes h = ([], sym h)
  text_has (byte low high) k bytes h =
      let p = both (nat_eq low high) (is_terminal every_terminal low) k in
      let same : low ≡ high = (Decides-eqb low high).0 p.0 in
      let from : low ≤ h.value = h.from in
      let upto : h.value ≤ high = h.upto in
      let e : low ≡ h.value = omega arith in
      let t = token_of every_terminal low p.1 in
      (t.0 ∷ [], ap (λ z. z ∷ []) (t.1 ∙ e) ∙ sym h.alone)
  text_has (seq first second) k bytes h =
      let p = both (has_terminals first) (has_terminals second) k in
      subst AreBytes (sym h.joined) (bytes_joined h.front h.back (text_has first p.0 h.front h.first) (text_has second p.1 h.back h.second))
  text_has (either one other) k bytes h =
      let p = both (has_terminals one) (has_terminals other) k in
      elim h [ inl a ↦ text_has one p.0 bytes a | inr b ↦ text_has other p.1 bytes b ]
  text_has (many form) k bytes h = subst AreBytes (sym h.joined) (parts_have (IsSpelled Rule form) (text_has form k) h.parts h.each)
  text_has (nested rule) k bytes h = ruled rule bytes h

-- each byte of the rule with a number is that of a terminal
ruled_terminals : (rules : List Form) → list_all has_terminals rules ≡ true → (rule : ℕ) → has_terminals (rule_at rules rule) ≡ true
ruled_terminals [] all rule = refl
ruled_terminals (f ∷ rules) all zero = (both (has_terminals f) (list_all has_terminals rules) all).0
ruled_terminals (f ∷ rules) all (suc rule) = ruled_terminals rules (both (has_terminals f) (list_all has_terminals rules) all).1 rule

pub rule_has : (rules : List Form) → list_all has_terminals rules ≡ true → (depth rule : ℕ) (bytes : List ℕ) → IsRuleText rules depth rule bytes → AreBytes bytes
unfolding IsRuleText
rule_has rules all zero rule bytes h = absurd h
rule_has rules all (suc depth) rule bytes h = text_has (IsRuleText rules depth) (rule_has rules all depth) (rule_at rules rule) (ruled_terminals rules all rule) bytes h
