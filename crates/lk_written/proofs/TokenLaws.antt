-- What the tokens of a text have: names of letters, digits and `_`, which are texts, and numbers.
use Rattle.std.proofs.Common.{◌≡◌, ℕ, ◌<◌, Bool, true, false, List, [], ◌∷◌, refl, arith}
use Rattle.std.specs.Prelude.{◌&&◌}
use Rattle.std.specs.List.{list_all}
use Rattle.std.specs.Str.{is_utf8}
use Rattle.std.proofs.lemmas.Bool.{false≢true}
use Rattle.std.proofs.lemmas.Bool.Decides.{nat_tests}
use Rattle.lk_utf8.specs.declared.utf8.Utf8.TheVariants as utf
use Rattle.lk_utf8.specs.Utf8.{completes}
use Rattle.lk_utf8.proofs.CompletionLaws.{completes_more, small_begins}
use Rattle.lk_utf8.proofs.Utf8Laws.{whole_is_utf8}
use Rattle.lk_expr_token.specs.declared.token.Token.{Token}
use Rattle.lk_expr_token.specs.declared.token.Token.TheVariants as token
use Rattle.lk_expr_token.specs.Tokens.{is_letter, is_name_byte, is_name, is_bare, is_number, IsTokenAt, IsSpelled}

pub both_true : (a b : Bool) → (a && b) ≡ true → (a ≡ true) × (b ≡ true)
both_true true true h = (refl, refl)
both_true true false h = absurd (false≢true h)
both_true false b h = absurd (false≢true h)

pub true_both : (a b : Bool) → a ≡ true → b ≡ true → (a && b) ≡ true
true_both a b h i = λ j. h j && i j

small : (b : ℕ) → is_name_byte b ≡ true → b < 128
small b h = grind (arith, nat_tests)

letter : (b : ℕ) → is_letter b ≡ true → is_name_byte b ≡ true
letter b h = rw h refl

completed : (name : List ℕ) → list_all is_name_byte name ≡ true → completes utf.Whole name ≡ true
completed [] h = refl
completed (b ∷ name) h =
    let parts = both_true (is_name_byte b) (list_all is_name_byte name) h in
    completes_more utf.Whole utf.Whole b name (small_begins b (small b parts.0)) (completed name parts.1)

name_text : (name : List ℕ) → is_name name ≡ true → is_utf8 name ≡ true
name_text [] h = absurd (false≢true h)
name_text (b ∷ name) h = whole_is_utf8 (b ∷ name) (completed (b ∷ name) h)

bare_text : (name : List ℕ) → is_bare name ≡ true → is_utf8 name ≡ true
bare_text [] h = absurd (false≢true h)
bare_text (b ∷ name) h =
    let parts = both_true (is_letter b) (list_all is_name_byte name) h in
    name_text (b ∷ name) (true_both (is_name_byte b) (list_all is_name_byte name) (letter b parts.0) parts.1)

-- the token is one that a text has: a number in range, or a name that is a text
abbrev pub is_real : Token → Bool
is_real (token.Number number) = is_number number
is_real (token.Name name place) = is_utf8 name
is_real (token.Column name) = is_utf8 name
is_real (token.Field name) = is_utf8 name
is_real (token.FieldOf view name) = is_utf8 view && is_utf8 name
is_real t = true

token_real : (whole : ℕ) (t : Token) (text rest : List ℕ) → IsTokenAt whole t text rest → is_real t ≡ true
token_real whole (token.Number number) text rest h = h.2
token_real whole (token.Name name place) text rest h = bare_text name h.1
token_real whole (token.Column name) text rest h = name_text name h.0
token_real whole (token.Field name) text rest h = name_text name h.1
token_real whole (token.FieldOf view name) text rest h = true_both (is_utf8 view) (is_utf8 name) (name_text view h.1) (name_text name h.2)
token_real whole (token.Word k) text rest h = refl
token_real whole (token.Compare c) text rest h = refl
token_real whole (token.Sign s) text rest h = refl
token_real whole (token.Text characters) text rest h = refl

pub spelled_real : (whole : ℕ) (ts : List Token) (text : List ℕ) → IsSpelled whole ts text → list_all is_real ts ≡ true
spelled_real whole [] text h = refl
spelled_real whole (t ∷ ts) text h =
    true_both (is_real t) (list_all is_real ts) (token_real whole t h.front h.rest h.spelled) (spelled_real whole ts h.rest h.behind)
