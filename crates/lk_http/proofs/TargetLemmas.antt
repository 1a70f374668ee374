-- A prefix that ends within its target, as the test finds it.
use Rattle.std.proofs.Common.{◌≡◌, ℕ, ◌<◌, Bool, true, false, List, [], ◌∷◌, ◌++◌, length, refl, sym, ap, ◌∙◌, arith, eqb-true, cond, append_assoc, ⊎_elim}
use Rattle.std.specs.Prelude.{◌==◌, ◌&&◌}
use Rattle.std.specs.List.{list_all}
use Rattle.std.proofs.lemmas.Bool.{and_parts}
use Rattle.std.proofs.lemmas.List.Elements.{All-head, All-tail, All-cons, All-nil}
use Rattle.std.proofs.lemmas.List.Sums.{AllPass-from_list_all, list_all-from_AllPass}
use Rattle.httparse.specs.Ascii.{line_feed, carriage_return, space}
use Rattle.httparse.specs.Grammar.{is_token_byte, is_uri_byte, AllPass, IsToken, LineEnd, crlf, lf, print_blank, EndsInTarget, NeverHasRequest, MayBecomeRequest}
use Rattle.lk_http.specs.Targets.{skip_empty, is_before_target_end, ends_in_target}

-- a byte of a method is none that the class lacks
not_other : (x other : ℕ) → is_token_byte x ≡ true → is_token_byte other ≡ false → (x == other) ≡ false
not_other x other is lacks = pick (x == other) refl where
  pick : (same : Bool) → (x == other) ≡ same → (x == other) ≡ false
  pick false e = e
  pick true e = cc (is, ap is_token_byte (eqb-true x other e), lacks)

no_space : is_token_byte space ≡ false
unfolding is_token_byte
no_space = refl

no_feed : is_token_byte line_feed ≡ false
unfolding is_token_byte
no_feed = refl

no_return : is_token_byte carriage_return ≡ false
unfolding is_token_byte
no_return = refl

-- ---- a prefix that ends so passes the test

skip_feed : (rest : List ℕ) → skip_empty (line_feed ∷ rest) ≡ skip_empty rest
skip_feed [] = refl
skip_feed (b ∷ rest) = refl

skip_blank : (ends : List LineEnd) (rest : List ℕ) → skip_empty (print_blank ends ++ rest) ≡ skip_empty rest
skip_blank [] rest = refl
skip_blank (lf ∷ ends) rest = skip_feed (print_blank ends ++ rest) ∙ skip_blank ends rest
skip_blank (crlf ∷ ends) rest = skip_blank ends rest

stays : (x : ℕ) (rest : List ℕ) → is_token_byte x ≡ true → 0 < length rest → skip_empty (x ∷ rest) ≡ x ∷ rest
stays x [] is some = absurd (omega arith)
stays x (b ∷ rest) is some =
    λ i. cond (not_other x line_feed is no_feed i) (skip_empty (b ∷ rest)) (cond (not_other x carriage_return is no_return i && b == line_feed) (skip_empty rest) (x ∷ b ∷ rest))

passed : (x : ℕ) (begun : Bool) (rest : List ℕ) → is_token_byte x ≡ true → is_before_target_end begun (x ∷ rest) ≡ is_before_target_end true rest
passed x begun rest is = λ i. cond (not_other x space is no_space i) (begun && list_all is_uri_byte rest) (is i && is_before_target_end true rest)

begun_ends : (method target : List ℕ) → AllPass is_token_byte method → list_all is_uri_byte target ≡ true → is_before_target_end true (method ++ space ∷ target) ≡ true
begun_ends [] target all uri = uri
begun_ends (x ∷ method) target all uri =
    passed x true (method ++ space ∷ target) (All-head (λ b. is_token_byte b ≡ true) x method all) ∙ begun_ends method target (All-tail (λ b. is_token_byte b ≡ true) x method all) uri

line_ends : (method target : List ℕ) → IsToken method → AllPass is_uri_byte target → ends_in_target (method ++ space ∷ target) ≡ true
line_ends [] target token uri = absurd (omega (arith, token.0))
line_ends (x ∷ method) target token uri =
    let is : is_token_byte x ≡ true = All-head (λ b. is_token_byte b ≡ true) x method token.1 in
    ap (is_before_target_end false) (stays x (method ++ space ∷ target) is (some_more method target))
    ∙ passed x false (method ++ space ∷ target) is
    ∙ begun_ends method target (All-tail (λ b. is_token_byte b ≡ true) x method token.1) (list_all-from_AllPass is_uri_byte target uri)
  where
    some_more : (method target : List ℕ) → 0 < length (method ++ space ∷ target)
    some_more [] target = omega arith
    some_more (x ∷ method) target = omega arith

pub target_is_found : (bytes : List ℕ) → EndsInTarget bytes → ends_in_target bytes ≡ true
target_is_found bytes (blank, method, target, token, uri, e) =
    ap ends_in_target (e ∙ append_assoc (print_blank blank) method (space ∷ target))
    ∙ ap (is_before_target_end false) (skip_blank blank (method ++ space ∷ target)) ∙ line_ends method target token uri

-- ---- what passes the test ends so

abbrev Blank : List ℕ → List ℕ → Type 0
Blank bytes rest = (ends : List LineEnd) × (bytes ≡ print_blank ends ++ rest)

one_byte : (x : ℕ) (feed : Bool) → (x == line_feed) ≡ feed → Blank (x ∷ []) (cond feed [] (x ∷ []))
one_byte x true e = (lf ∷ [], ap (λ b. b ∷ []) (eqb-true x line_feed e))
one_byte x false e = ([], refl)

two_bytes : (x y : ℕ) (bytes : List ℕ) (feed pair : Bool) → (x == line_feed) ≡ feed → (x == carriage_return && y == line_feed) ≡ pair
    → Blank (y ∷ bytes) (skip_empty (y ∷ bytes)) → Blank bytes (skip_empty bytes)
    → Blank (x ∷ y ∷ bytes) (cond feed (skip_empty (y ∷ bytes)) (cond pair (skip_empty bytes) (x ∷ y ∷ bytes)))
two_bytes x y bytes true pair e p one two = (lf ∷ one.0, (λ i. eqb-true x line_feed e i ∷ one.1 i))
two_bytes x y bytes false true e p one two =
    let both = and_parts (x == carriage_return) (y == line_feed) p in
    (crlf ∷ two.0, (λ i. eqb-true x carriage_return both.0 i ∷ eqb-true y line_feed both.1 i ∷ two.1 i))
two_bytes x y bytes false false e p one two = ([], refl)

blank_before : (bytes : List ℕ) → Blank bytes (skip_empty bytes)
blank_before [] = ([], refl)
blank_before (x ∷ []) = one_byte x (x == line_feed) refl
blank_before (x ∷ y ∷ bytes) =
    two_bytes x y bytes (x == line_feed) (x == carriage_return && y == line_feed) refl refl (blank_before (y ∷ bytes)) (blank_before bytes)

-- a method, if one has begun, and a target
pub record Ends (begun : Bool) (line : List ℕ) : Type 0 where
  pub method : List ℕ
  pub target : List ℕ
  pub token : AllPass is_token_byte method
  pub some : begun ≡ false → 0 < length method
  pub uri : AllPass is_uri_byte target
  pub parted : line ≡ method ++ space ∷ target

found_at : (begun : Bool) (x : ℕ) (line : List ℕ) (same : Bool) → (x == space) ≡ same → (is_before_target_end true line ≡ true → Ends true line)
    → cond same (begun && list_all is_uri_byte line) (is_token_byte x && is_before_target_end true line) ≡ true → Ends begun (x ∷ line)
found_at begun x line true e later h =
    let both = and_parts begun (list_all is_uri_byte line) h in
    record {
      method = [];
      target = line;
      token = All-nil (λ b. is_token_byte b ≡ true);
      some = λ n. cc (n, both.0);
      uri = AllPass-from_list_all is_uri_byte line both.1;
      parted = ap (λ b. b ∷ line) (eqb-true x space e);
    }
found_at begun x line false e later h =
    let both = and_parts (is_token_byte x) (is_before_target_end true line) h in
    let more = later both.1 in
    record {
      method = x ∷ more.method;
      target = more.target;
      token = All-cons (λ b. is_token_byte b ≡ true) x more.method both.0 more.token;
      some = λ n. omega arith;
      uri = more.uri;
      parted = ap (λ l. x ∷ l) more.parted;
    }

found : (begun : Bool) (line : List ℕ) → is_before_target_end begun line ≡ true → Ends begun line
found begun [] h = cc
found begun (x ∷ line) h = found_at begun x line (x == space) refl (found true line) h

pub found_is_target : (bytes : List ℕ) → ends_in_target bytes ≡ true → EndsInTarget bytes
found_is_target bytes h =
    let blank = blank_before bytes in
    let line = found false (skip_empty bytes) h in (
      blank.0,
      line.method,
      line.target,
      (line.some refl, line.token),
      line.uri,
      blank.1 ∙ ap (λ l. print_blank blank.0 ++ l) line.parted ∙ sym (append_assoc (print_blank blank.0) line.method (space ∷ line.target)),
    )

-- bytes that no more bytes make a head, and that do not end in a target, may become none
pub never_may : (bytes : List ℕ) → NeverHasRequest bytes → ends_in_target bytes ≡ false → MayBecomeRequest bytes → ⊥
never_may bytes never elsewhere may =
    ⊎_elim (λ some. never some.0 some.1 [] some.2) (λ target. cc (target_is_found bytes target, elsewhere)) may
