-- The parts of tokens: names, characters between quotes, and signs.
use Rattle.std.proofs.Common.{◌≡◌, inl, inr, ◌⊎◌, ℕ, zero, suc, Bool, true, false, not, ◌&&◌, nat_eq, if◌then◌else◌, List, [], ◌∷◌, ◌++◌, length, take, drop, Option, Some, None, refl, sym, ap, subst, ◌∙◌, arith}
use Rattle.std.specs.Prelude.{◌==◌}
use Rattle.std.specs.List.{list_all}
use Rattle.std.proofs.lemmas.Bool.{false≢true}
use Rattle.std.proofs.lemmas.Bool.Decides.{Decides-eqb}
use Rattle.std.proofs.lemmas.Option.{some_pair_parts}
use Rattle.std.proofs.lemmas.List.{take-append-drop}
use Rattle.std.proofs.Math.Dec.{eqb-suc-zero}
use Rattle.std.proofs.Math.Seq.{take-append_seam, drop-append_seam}
use Rattle.lk_grammar.specs.Literals.{is_ended}
use Rattle.lk_expr_token.specs.Tokens.{is_name_byte, is_name, is_letter, is_bare, doubled}
use Rattle.lk_expr_token.specs.Lexing.{name_length, first_name, first_characters, with_bytes}

pub same : (a b : ℕ) → (a == b) ≡ true → a ≡ b
same a b h = (Decides-eqb a b).0 h

pub differs : (a b : ℕ) → (a == b) ≡ false → (a ≡ b → ⊥)
differs a b h e = false≢true (sym h ∙ (Decides-eqb a b).1 e)

pub is_false : (b : Bool) → (b ≡ true → ⊥) → b ≡ false
is_false true f = absurd (f refl)
is_false false f = refl

pub turned : (b : Bool) → not b ≡ true → b ≡ false
turned true h = absurd (false≢true h)
turned false h = refl

pub both : (a b : Bool) → (a && b) ≡ true → (a ≡ true) × (b ≡ true)
both true b h = (refl, h)
both false b h = absurd (false≢true h)

pub together : (a b : Bool) → a ≡ true → b ≡ true → (a && b) ≡ true
together a b p q = rw (p, q) refl

-- the two ways to a value
pub ways : {X : Type 0} (b : Bool) (x y : Option X) (z : X) → (if b then x else y) ≡ Some z → ((b ≡ true) × (x ≡ Some z)) ⊎ ((b ≡ false) × (y ≡ Some z))
ways true x y z h = inl (refl, h)
ways false x y z h = inr (refl, h)

pub no_some : {X : Type 0} (x : X) → None ≡ Some x → ⊥
no_some x h = cc

-- ---- names

named : (text : List ℕ) → list_all is_name_byte (take (name_length text) text) ≡ true
named [] = refl
named (b ∷ text) =
    elim (is_name_byte b) as (λ d. is_name_byte b ≡ d → list_all is_name_byte (take (if d then suc (name_length text) else zero) (b ∷ text)) ≡ true) [
      | true ↦ λ d. together (is_name_byte b) _ d (named text)
      | false ↦ λ _. refl
    ] refl

ended : (text : List ℕ) → is_ended is_name_byte (drop (name_length text) text) ≡ true
ended [] = refl
ended (b ∷ text) =
    elim (is_name_byte b) as (λ d. is_name_byte b ≡ d → is_ended is_name_byte (drop (if d then suc (name_length text) else zero) (b ∷ text)) ≡ true) [
      | true ↦ λ _. ended text
      | false ↦ λ d. rw d refl
    ] refl

is_name-from : (n : ℕ) (text : List ℕ) → nat_eq n 0 ≡ false → (text ≡ [] → n ≡ 0) → list_all is_name_byte (take n text) ≡ true → is_name (take n text) ≡ true
is_name-from zero text n e h = absurd (false≢true (sym n))
is_name-from (suc k) [] n e h = absurd (let z : suc k ≡ 0 = e refl in omega arith)
is_name-from (suc k) (b ∷ text) n e h = h

no_length : (text : List ℕ) → text ≡ [] → name_length text ≡ 0
no_length text e = ap name_length e

-- what a name that comes first is
pub record IsNamed (name rest text : List ℕ) : Type 0 where
  pub joined : text ≡ name ++ rest
  pub is : is_name name ≡ true
  pub ended : is_ended is_name_byte rest ≡ true

pub name_sound : (text name rest : List ℕ) → first_name text ≡ Some (name, rest) → IsNamed name rest text
name_sound text name rest h =
    elim (ways (nat_eq (name_length text) 0) None (Some (take (name_length text) text, drop (name_length text) text)) (name, rest) h) [
      | inl p ↦ absurd (no_some (name, rest) p.1)
      | inr p ↦
          let parts = some_pair_parts (take (name_length text) text) name (drop (name_length text) text) rest p.1 in
          record {
            joined = sym (take-append-drop (name_length text) text) ∙ (λ i. parts.0 i ++ parts.1 i);
            is = subst (λ z. is_name z ≡ true) parts.0 (is_name-from (name_length text) text p.0 (no_length text) (named text));
            ended = subst (λ z. is_ended is_name_byte z ≡ true) parts.1 (ended text);
          }
    ]

length_of_name : (name rest : List ℕ) → list_all is_name_byte name ≡ true → is_ended is_name_byte rest ≡ true → name_length (name ++ rest) ≡ length name
length_of_name [] [] h e = refl
length_of_name [] (b ∷ rest) h e = rw (turned (is_name_byte b) e) refl
length_of_name (b ∷ name) rest h e = let p = both (is_name_byte b) (list_all is_name_byte name) h in rw (p.0, length_of_name name rest p.1 e) refl

pub all_named : (name : List ℕ) → is_name name ≡ true → list_all is_name_byte name ≡ true
all_named [] h = absurd (false≢true h)
all_named (b ∷ name) h = h

some_length : (name : List ℕ) → is_name name ≡ true → nat_eq (length name) 0 ≡ false
some_length [] h = absurd (false≢true h)
some_length (b ∷ name) h = eqb-suc-zero (length name)

pub name_found : (name rest : List ℕ) → is_name name ≡ true → is_ended is_name_byte rest ≡ true → first_name (name ++ rest) ≡ Some (name, rest)
name_found name rest h e =
    rw (length_of_name name rest (all_named name h) e, some_length name h, take-append_seam name rest, drop-append_seam name rest) refl

letter_named : (b : ℕ) → is_letter b ≡ true → is_name_byte b ≡ true
letter_named b h = rw h refl

pub bare_named : (name : List ℕ) → is_bare name ≡ true → is_name name ≡ true
bare_named [] h = h
bare_named (b ∷ name) h = let p = both (is_letter b) (list_all is_name_byte name) h in together (is_name_byte b) (list_all is_name_byte name) (letter_named b p.0) p.1

-- ---- characters between quotes

plain_step : (b : ℕ) (text : List ℕ) → (b == 39) ≡ false → first_characters (b ∷ text) ≡ with_bytes (b ∷ []) (first_characters text)
plain_step b [] h = rw h refl
plain_step b (c ∷ text) h = rw h refl

pub characters_found : (characters rest : List ℕ) → is_ended (nat_eq 39) rest ≡ true → first_characters (doubled characters ++ 39 ∷ rest) ≡ Some (characters, rest)
characters_found [] [] e = refl
characters_found [] (b ∷ rest) e =
    let isnt : (b == 39) ≡ false = is_false (b == 39) (λ h. differs 39 b (turned (nat_eq 39 b) e) (sym (same b 39 h))) in
    rw isnt refl
characters_found (b ∷ characters) rest e =
    elim (b == 39) as (λ d. (b == 39) ≡ d → first_characters ((if d then 39 ∷ 39 ∷ doubled characters else b ∷ doubled characters) ++ 39 ∷ rest) ≡ Some (b ∷ characters, rest)) [
      | true ↦ λ d. ap (with_bytes (39 ∷ [])) (characters_found characters rest e) ∙ ap (λ z. Some (z ∷ characters, rest)) (sym (same b 39 d))
      | false ↦ λ d. plain_step b (doubled characters ++ 39 ∷ rest) d ∙ ap (with_bytes (b ∷ [])) (characters_found characters rest e)
    ] refl

pub record IsQuoted (characters rest text : List ℕ) : Type 0 where
  pub joined : text ≡ doubled characters ++ 39 ∷ rest
  pub ended : is_ended (nat_eq 39) rest ≡ true

quoted_as : (c characters r rest text : List ℕ) → ◌≡◌ {A = Option (List ℕ × List ℕ)} (Some (c, r)) (Some (characters, rest)) → IsQuoted c r text → IsQuoted characters rest text
quoted_as c characters r rest text h is =
    let parts = some_pair_parts c characters r rest h in
    subst (λ z. IsQuoted z rest text) parts.0 (subst (λ z. IsQuoted c z text) parts.1 is)

quote_more : (text characters rest : List ℕ) (found : Option (List ℕ × List ℕ)) → ((c r : List ℕ) → found ≡ Some (c, r) → IsQuoted c r text) → with_bytes (39 ∷ []) found ≡ Some (characters, rest) → IsQuoted characters rest (39 ∷ 39 ∷ text)
quote_more text characters rest None f h = absurd (no_some (characters, rest) h)
quote_more text characters rest (Some (c, r)) f h =
    let is = f c r refl in
    quoted_as (39 ∷ c) characters r rest (39 ∷ 39 ∷ text) h (record { joined = ap (λ z. 39 ∷ 39 ∷ z) is.joined; ended = is.ended })

plain_more : (b : ℕ) (text characters rest : List ℕ) (found : Option (List ℕ × List ℕ)) → (b == 39) ≡ false → ((c r : List ℕ) → found ≡ Some (c, r) → IsQuoted c r text) → with_bytes (b ∷ []) found ≡ Some (characters, rest) → IsQuoted characters rest (b ∷ text)
plain_more b text characters rest None isnt f h = absurd (no_some (characters, rest) h)
plain_more b text characters rest (Some (c, r)) isnt f h =
    let is = f c r refl in
    quoted_as (b ∷ c) characters r rest (b ∷ text) h (record { joined = rw isnt (ap (λ z. b ∷ z) is.joined); ended = is.ended })

pub characters_sound : (text characters rest : List ℕ) → first_characters text ≡ Some (characters, rest) → IsQuoted characters rest text
characters_sound [] characters rest h = absurd (no_some (characters, rest) h)
characters_sound (b ∷ []) characters rest h =
    elim (ways (b == 39) (Some ([], [])) None (characters, rest) h) [
      | inl p ↦ quoted_as [] characters [] rest (b ∷ []) p.1 (record { joined = ap (λ z. z ∷ []) (same b 39 p.0); ended = refl })
      | inr p ↦ absurd (no_some (characters, rest) p.1)
    ]
characters_sound (b ∷ c ∷ text) characters rest h =
    elim (ways (b == 39) (if c == 39 then with_bytes (39 ∷ []) (first_characters text) else Some ([], c ∷ text)) (with_bytes (b ∷ []) (first_characters (c ∷ text))) (characters, rest) h) [
      | inl p ↦
          elim (ways (c == 39) (with_bytes (39 ∷ []) (first_characters text)) (Some ([], c ∷ text)) (characters, rest) p.1) [
            | inl q ↦ rw (same b 39 p.0, same c 39 q.0) (quote_more text characters rest (first_characters text) (λ x y e. characters_sound text x y e) q.1)
            | inr q ↦ quoted_as [] characters (c ∷ text) rest (b ∷ c ∷ text) q.1 (record { joined = ap (λ z. z ∷ c ∷ text) (same b 39 p.0); ended = rw (is_false (nat_eq 39 c) (λ e. differs c 39 q.0 (sym (same 39 c e)))) refl })
          ]
      | inr p ↦ plain_more b (c ∷ text) characters rest (first_characters (c ∷ text)) p.0 (λ x y e. characters_sound (c ∷ text) x y e) p.1
    ]
