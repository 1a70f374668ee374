-- Texts between quotes, and patterns, are read from what they are printed as.
use Rattle.std.proofs.Common.{◌≡◌, ℕ, Bool, true, false, if◌then◌else◌, List, [], ◌∷◌, ◌++◌, Some, None, refl, sym, ap, ◌∙◌, append_assoc, arith}
use Rattle.std.specs.Prelude.{◌==◌}
use Rattle.std.specs.Str.{is_utf8}
use Rattle.std.proofs.lemmas.Bool.{eqb-true, false≢true}
use Rattle.lk_types.specs.declared.expr.Piece.{Piece}
use Rattle.lk_types.specs.declared.expr.Piece.TheVariants as piece
use Rattle.lk_sql_tree.specs.Texts.{doubled, quoted, pattern_text, piece_text}
use Rattle.lk_sql_read.specs.Quoting.{with_bytes, first_characters, first_quoted, first_text, if_utf8, pieces_from}

-- no quote comes first
abbrev pub is_unquoted : ℕ → List ℕ → Bool
is_unquoted quote [] = true
is_unquoted quote (b ∷ rest) = if b == quote then false else true

test_same : (b : ℕ) → (b == b) ≡ true
test_same b = grind arith

plain_step : (quote b : ℕ) (text : List ℕ) → (b == quote) ≡ false → first_characters quote (b ∷ text) ≡ with_bytes (b ∷ []) (first_characters quote text)
plain_step quote b [] h = rw h refl
plain_step quote b (c ∷ text) h = rw h refl

not_quote : (b : Bool) → (if b then false else true) ≡ true → b ≡ false
not_quote true h = absurd (false≢true h)
not_quote false h = refl

ends : (quote : ℕ) (rest : List ℕ) → is_unquoted quote rest ≡ true → first_characters quote (quote ∷ rest) ≡ Some ([], rest)
ends quote [] e = rw (test_same quote) refl
ends quote (b ∷ rest) e = rw (test_same quote, not_quote (b == quote) e) refl

twice : (quote : ℕ) (text : List ℕ) → first_characters quote (quote ∷ quote ∷ text) ≡ with_bytes (quote ∷ []) (first_characters quote text)
twice quote text = rw (test_same quote) refl

pub characters : (quote : ℕ) (text rest : List ℕ) → is_unquoted quote rest ≡ true → first_characters quote (doubled quote text ++ quote ∷ rest) ≡ Some (text, rest)
characters quote [] rest e = ends quote rest e
characters quote (b ∷ text) rest e =
    elim (b == quote) as (λ d. (b == quote) ≡ d → first_characters quote (((if d then quote ∷ quote ∷ [] else b ∷ []) ++ doubled quote text) ++ quote ∷ rest) ≡ Some (b ∷ text, rest)) [
      | true ↦ λ d. twice quote (doubled quote text ++ quote ∷ rest) ∙ ap (with_bytes (quote ∷ [])) (characters quote text rest e) ∙ ap (λ z. Some (z ∷ text, rest)) (sym (eqb-true b quote d))
      | false ↦ λ d. plain_step quote b (doubled quote text ++ quote ∷ rest) d ∙ ap (with_bytes (b ∷ [])) (characters quote text rest e)
    ] refl

pub quoted_reads : (quote : ℕ) (text rest : List ℕ) → is_unquoted quote rest ≡ true → first_quoted quote (quoted quote text ++ rest) ≡ Some (text, rest)
quoted_reads quote text rest e =
    ap (λ b. if b then first_characters quote ((doubled quote text ++ quote ∷ []) ++ rest) else None) (test_same quote)
    ∙ ap (first_characters quote) (append_assoc (doubled quote text) (quote ∷ []) rest)
    ∙ characters quote text rest e

pub text_reads : (quote : ℕ) (text rest : List ℕ) → is_utf8 text ≡ true → is_unquoted quote rest ≡ true → first_text quote (quoted quote text ++ rest) ≡ Some (text, rest)
text_reads quote text rest u e = ap if_utf8 (quoted_reads quote text rest e) ∙ ap (λ b. if b then Some (text, rest) else None) u

-- ---- patterns

piece_reads : (p : Piece) (rest : List ℕ) → pieces_from false (piece_text p ++ rest) ≡ p ∷ pieces_from false rest
piece_reads piece.Any rest = refl
piece_reads piece.One rest = refl
piece_reads (piece.Byte b) rest =
    elim (b == 37) as (λ d. (b == 37) ≡ d → pieces_from false ((if d then 94 ∷ b ∷ [] else if b == 95 then 94 ∷ b ∷ [] else if b == 94 then 94 ∷ b ∷ [] else b ∷ []) ++ rest) ≡ piece.Byte b ∷ pieces_from false rest) [
      | true ↦ λ _. refl
      | false ↦ λ any. elim (b == 95) as (λ d. (b == 95) ≡ d → pieces_from false ((if d then 94 ∷ b ∷ [] else if b == 94 then 94 ∷ b ∷ [] else b ∷ []) ++ rest) ≡ piece.Byte b ∷ pieces_from false rest) [
        | true ↦ λ _. refl
        | false ↦ λ one. elim (b == 94) as (λ d. (b == 94) ≡ d → pieces_from false ((if d then 94 ∷ b ∷ [] else b ∷ []) ++ rest) ≡ piece.Byte b ∷ pieces_from false rest) [
          | true ↦ λ _. refl
          | false ↦ λ caret. rw (caret, any, one) refl
        ] refl
      ] refl
    ] refl

pub pattern_reads : (pieces : List Piece) → pieces_from false (pattern_text pieces) ≡ pieces
pattern_reads [] = refl
pattern_reads (p ∷ pieces) = piece_reads p (pattern_text pieces) ∙ ap (λ ps. p ∷ ps) (pattern_reads pieces)
