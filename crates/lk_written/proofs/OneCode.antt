-- A text is read as one expression, or has one fault.
use Rattle.std.proofs.Common.{◌≡◌, inl, inr, ℕ, ◌<◌, ◌≤◌, Bool, true, false, List, [], length, Option, Some, None, Ok, refl, sym, ap, ◌∙◌, arith}
use Rattle.std.specs.Prelude.{nat_le}
use Rattle.std.proofs.lemmas.Bool.{cases_lt}
use Rattle.std.proofs.lemmas.Bool.Decides.{nat_tests}
use Rattle.std.proofs.lemmas.List.{append-nil}
use Rattle.std.proofs.lemmas.Option.{same_Some}
use Rattle.lk_grammar.specs.Tokens.{tokens_of}
use Rattle.lk_expr_token.specs.declared.token.Token.{Token}
use Rattle.lk_expr_token.specs.Tokens.{IsSpelled, white}
use Rattle.lk_expr_token.specs.Lexing.{first_token}
use Rattle.lk_expr_token.proofs.LexSteps.{together}
use Rattle.lk_expr_token.proofs.TextLaws.{result_every}
use Rattle.lk_expr_tree.specs.Grammar.{Tree, IsExprText, is_built, level_of, print}
use Rattle.lk_expr_text.specs.Parsing.{all_of, tree_in}
use Rattle.lk_expr_text.proofs.ParseFound.{tree_found}
use Rattle.lk_expr_place.specs.declared.judging.Grammar.{Grammar}
use Rattle.lk_expr_place.specs.declared.judging.Grammar.TheVariants.{Expressions, Measures}
use Rattle.lk_expr_place.specs.ExprTexts.{IsOfGrammar, IsTreeText}
use Rattle.lk_expr_place.specs.SyntaxPlaces.{IsSyntaxPlace}
use Rattle.lk_params.specs.Known.{holds_liquid}
use Rattle.lk_objects.specs.declared.code.Code.{Code}
use Rattle.lk_objects.specs.declared.code.Code.TheVariants as code
use Rattle.lk_written.specs.Skeletons.{written_of}
use Rattle.lk_written.specs.Calculations.{written_number_of}
use Rattle.lk_written.specs.Codes.{IsCode, IsLiquidOr, IsReading, IsSyntaxFault, grammar_of}

-- ---- trees

one_tokens : (text : List ℕ) (ts us : List Token) → IsSpelled (length text) ts text → IsSpelled (length text) us text → ts ≡ us
one_tokens text ts us h i =
    let read = result_every (length text) {E = ℕ} text (Ok (tokens_of white (first_token (length text)) text)) refl in
    same_Some ts us (sym (read ts h) ∙ read us i)

zero_le : (n : ℕ) → nat_le 0 n ≡ true
zero_le n = grind (arith, nat_tests)

every_is : (e : Tree) (text : List ℕ) → IsExprText e text → tree_in (print e) ≡ Some e
every_is e text is = ap (λ z. tree_in z) (sym (append-nil (print e))) ∙ ap all_of (tree_found 100 e [] (together (nat_le 0 (level_of e)) (is_built e) (zero_le (level_of e)) is.built) (omega (arith, is.shallow)) tt)

one_expr : (text : List ℕ) (d e : Tree) → IsExprText d text → IsExprText e text → d ≡ e
one_expr text d e h i =
    same_Some d e (sym (every_is d text h) ∙ ap tree_in (one_tokens text (print d) (print e) h.spelled i.spelled) ∙ every_is e text i)

one_tree : (g : Grammar) (text : List ℕ) (d e : Tree) → IsTreeText g d text → IsTreeText g e text → d ≡ e
one_tree Expressions text d e h i = one_expr text d e h i
one_tree Measures text d e h i = one_expr text d e h.expr i.expr

-- ---- faults

none_before : (G : List ℕ → Type 0) (text : List ℕ) (m n : ℕ) → IsSyntaxPlace G text m → IsSyntaxPlace G text n → m < n → ⊥
none_before G text m n a b below =
    elim a.reached [
      | inl unread ↦ b.none m below unread
      | inr longest ↦ let high : n ≤ m = longest n b.within b.begins in absurd (omega (arith, high, below))
    ]

one_place : (G : List ℕ → Type 0) (text : List ℕ) (m n : ℕ) → IsSyntaxPlace G text m → IsSyntaxPlace G text n → m ≡ n
one_place G text m n a b =
    elim (cases_lt m n) [
      | inl below ↦ absurd (none_before G text m n a b below)
      | inr up ↦
          elim (cases_lt n m) [
            | inl above ↦ absurd (none_before G text n m b a above)
            | inr down ↦ omega (arith, up, down)
          ]
    ]

module _ (g : Grammar) (text : List ℕ) where
  one_syntax : (p q : ℕ) → IsSyntaxFault g text p → IsSyntaxFault g text q → code.Syntax p ≡ code.Syntax q
  one_syntax p q h i = ap code.Syntax (one_place (IsOfGrammar g) text p q h.1 i.1)

  -- a tree has no fault of syntax
  no_syntax : (e : Tree) (p : ℕ) → IsTreeText g e text → IsSyntaxFault g text p → ⊥
  no_syntax e p h i = i.0 (e, h)

-- ---- codes

one_reading : (g : Grammar) (text : List ℕ) (c d : Code) → IsReading g text c → IsReading g text d → c ≡ d
one_reading Expressions text (code.Expr a) (code.Expr b) h i =
    ap code.Expr (h.2 ∙ ap written_of (one_tree Expressions text h.0 i.0 h.1 i.1) ∙ sym i.2)
one_reading Expressions text (code.Expr a) (code.Syntax q) h i = absurd (no_syntax Expressions text h.0 q h.1 i)
one_reading Expressions text (code.Syntax p) (code.Expr b) h i = absurd (no_syntax Expressions text i.0 p i.1 h)
one_reading Measures text (code.Number a) (code.Number b) h i =
    ap code.Number (h.2 ∙ ap written_number_of (one_tree Measures text h.0 i.0 h.1 i.1) ∙ sym i.2)
one_reading Measures text (code.Number a) (code.Syntax q) h i = absurd (no_syntax Measures text h.0 q h.1 i)
one_reading Measures text (code.Syntax p) (code.Number b) h i = absurd (no_syntax Measures text i.0 p i.1 h)
one_reading g text (code.Syntax p) (code.Syntax q) h i = one_syntax g text p q h i
one_reading g text code.Absent d h i = absurd h
one_reading g text code.Liquid d h i = absurd h
one_reading Expressions text (code.Number a) d h i = absurd h
one_reading Measures text (code.Expr a) d h i = absurd h
one_reading g text c d h i = absurd i

one_or_liquid : (liquid : Bool) (g : Grammar) (text : List ℕ) (c d : Code) → IsLiquidOr liquid g text c → IsLiquidOr liquid g text d → c ≡ d
one_or_liquid true g text c d h i = h ∙ sym i
one_or_liquid false g text c d h i = one_reading g text c d h i

pub one_code : (over_measures : Bool) (text : Option (List ℕ)) (c d : Code) → IsCode over_measures text c → IsCode over_measures text d → c ≡ d
one_code over_measures None c d h i = h ∙ sym i
one_code over_measures (Some text) c d h i = one_or_liquid (holds_liquid text) (grammar_of over_measures) text c d h i
