-- The expression of a text: what is read is spelled so, and what is spelled is read.
use Rattle.std.proofs.Common.{◌≡◌, length, ℕ, true, List, [], ◌∷◌, Option, Some, None, option_map, IfSome, IfOk, Result, refl, sym, ap, subst, ◌∙◌, arith}
use Rattle.std.specs.Prelude.{nat_le}
use Rattle.std.proofs.lemmas.Bool.Decides.{nat_tests}
use Rattle.std.proofs.lemmas.Option.{same_Some}
use Rattle.std.proofs.lemmas.Result.{IfOk-weaker}
use Rattle.std.proofs.lemmas.List.{append-nil}
use Rattle.lk_expr_token.specs.declared.token.Token.{Token}
use Rattle.lk_expr_tree.specs.declared.expr.RawExpr.{RawExpr}
use Rattle.lk_expr_token.specs.Tokens.{IsSpelled}
use Rattle.lk_expr_tree.specs.Grammar.{Tree, print, level_of, is_built, IsExprText}
use Rattle.lk_expr_tree.specs.RawCode.{tree_of}
use Rattle.lk_expr_tree.specs.Growing.{Parsed}
use Rattle.lk_expr_text.specs.Parsing.{all_of, tree_in, whole_in, below}
use Rattle.lk_expr_token.proofs.LexSteps.{both, together, no_some}
use Rattle.lk_expr_text.proofs.ParseSound.{IsRead, tree_read}
use Rattle.lk_expr_text.proofs.ParseFound.{tree_found}

-- ---- trees of tokens

-- the tokens of a tree of the grammar
pub record IsTreeOf (e : Tree) (ts : List Token) : Type 0 where
  pub printed : ts ≡ print e
  pub read : IsRead 0 0 100 e [] ts

all_read : (found : Parsed) (ts : List Token) (e : Tree) → ((a : Tree) (rest : List Token) → found ≡ Some (a, rest) → IsRead 0 0 100 a rest ts) → all_of found ≡ Some e → IsTreeOf e ts
all_read None ts e is h = absurd (no_some e h)
all_read (Some (a, [])) ts e is h =
    let read = is a [] refl in
    subst (λ z. IsTreeOf z ts) (same_Some a e h) (record { printed = read.printed ∙ append-nil (print a); read = read })
all_read (Some (a, t ∷ rest)) ts e is h = absurd (no_some e h)

tree_in-read : (ts : List Token) (e : Tree) → tree_in ts ≡ Some e → IsTreeOf e ts
tree_in-read ts e h = all_read (whole_in (below 100) ts) ts e (λ a rest found. tree_read 100 ts a rest found) h

zero_le : (n : ℕ) → nat_le 0 n ≡ true
zero_le n = grind (arith, nat_tests)

found_is : (e : Tree) (text : List ℕ) (ts : List Token) → IsSpelled (length text) ts text → tree_in ts ≡ Some e → IsExprText e text
found_is e text ts spelled h =
    let is = tree_in-read ts e h in
    record {
      built = (both (nat_le 0 (level_of e)) (is_built e) is.read.stood).1;
      shallow = (let s = is.read.shallow in omega arith);
      spelled = subst (λ z. IsSpelled (length text) z text) is.printed spelled;
    }

every_is : (e : Tree) (text : List ℕ) → IsExprText e text → tree_in (print e) ≡ Some e
every_is e text is = ap (λ z. tree_in z) (sym (append-nil (print e))) ∙ ap all_of (tree_found 100 e [] (together (nat_le 0 (level_of e)) (is_built e) (zero_le (level_of e)) is.built) (omega (arith, is.shallow)) tt)

-- ---- the two laws of a result

module _ {E : Type 0} (text : List ℕ) (ts : List Token) (r : Result (Option RawExpr) E) (is : IfOk r (λ found. option_map tree_of found ≡ tree_in ts)) where
  pub result_found : IsSpelled (length text) ts text → IfOk r (λ found. IfSome found (λ e. IsExprText (tree_of e) text))
  result_found spelled = IfOk-weaker r (λ found. option_map tree_of found ≡ tree_in ts) (λ found. IfSome found (λ e. IsExprText (tree_of e) text)) (elim [
    | None ↦ λ h. tt
    | Some e ↦ λ h. found_is (tree_of e) text ts spelled (sym h)
  ]) is

  pub result_every : ((tokens : List Token) → IsSpelled (length text) tokens text → Some ts ≡ Some tokens) → IfOk r (λ found. (e : Tree) → IsExprText e text → option_map tree_of found ≡ Some e)
  result_every every = IfOk-weaker r (λ found. option_map tree_of found ≡ tree_in ts) (λ found. (e : Tree) → IsExprText e text → option_map tree_of found ≡ Some e)
      (λ found h e of. h ∙ ap tree_in (same_Some ts (print e) (every (print e) of.spelled)) ∙ every_is e text of) is
