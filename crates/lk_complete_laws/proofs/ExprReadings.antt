-- Each text is an expression or is refused at a place.
use Rattle.std.proofs.Common.{◌≡◌, ◌∙◌, ◌⊎◌, inl, inr, ℕ, ◌≤◌, true, List, [], ◌∷◌, ◌++◌, length, take, drop, codes, Option, Some, None, Ok, Err, refl, sym, ap, subst, append_assoc, arith}
use Rattle.std.specs.Prelude.{nat_le}
use Rattle.std.proofs.lemmas.Bool.Decides.{nat_tests}
use Rattle.std.proofs.lemmas.List.{append-nil, take-take, take-append-drop}
use Rattle.std.proofs.lemmas.Option.{same_Some}
use Rattle.lk_grammar.specs.Places.{IsViable}
use Rattle.lk_grammar.specs.Tokens.{tokens_of}
use Rattle.lk_expr_token.specs.declared.token.Token.{Token}
use Rattle.lk_expr_token.specs.Lexing.{first_token}
use Rattle.lk_expr_token.specs.TokenFronts.{IsUnreadAt}
use Rattle.lk_expr_token.specs.Tokens.{IsSpelled, white}
use Rattle.lk_expr_token.proofs.LexSteps.{together}
use Rattle.lk_expr_token.proofs.TextLaws.{result_every}
use Rattle.lk_expr_tree.specs.Calls.{unknown_call}
use Rattle.lk_expr_tree.specs.Grammar.{Tree, Field, IsExprText, is_built, level_of, print}
use Rattle.lk_expr_text.specs.Parsing.{all_of, tree_in}
use Rattle.lk_expr_text.proofs.ParseFound.{tree_found}
use Rattle.lk_expr_place.specs.declared.judging.Grammar.{Grammar}
use Rattle.lk_expr_place.specs.declared.judging.Grammar.TheVariants.{Expressions, Measures}
use Rattle.lk_expr_place.specs.declared.reading.ExprFault.TheVariants.{E1, E2}
use Rattle.lk_expr_place.specs.ExprTexts.{IsOfGrammar, IsTreeText}
use Rattle.lk_expr_place.specs.SyntaxPlaces.{IsSyntaxPlace}
use Rattle.lk_complete_laws.specs.Holding.{HoldsOfSome}
use Rattle.lk_complete_laws.specs.Readings.{IsExprRead}
use Rattle.lk_complete_laws.proofs.NotNot.{NotNot, Found, there_is, so_is, and_then, excluded, of_found}
use Rattle.lk_complete_laws.proofs.Bounded.{HasPlace, HasFirst, place, first}
use Rattle.lk_complete_laws.proofs.RawTrees.{nodes_for}

-- ---- a text spells one tree

one_tokens : (text : List ℕ) (ts us : List Token) → IsSpelled (length text) ts text → IsSpelled (length text) us text → ts ≡ us
one_tokens text ts us h i =
    let read = result_every (length text) {E = ℕ} text (Ok (tokens_of white (first_token (length text)) text)) refl in
    same_Some ts us (sym (read ts h) ∙ read us i)

zero_le : (n : ℕ) → nat_le 0 n ≡ true
zero_le n = grind (arith, nat_tests)

found_in : (e : Tree) (text : List ℕ) → IsExprText e text → tree_in (print e) ≡ Some e
found_in e text is =
    ap tree_in (sym (append-nil (print e)))
    ∙ ap all_of (tree_found 100 e [] (together (nat_le 0 (level_of e)) (is_built e) (zero_le (level_of e)) is.built) (omega (arith, is.shallow)) tt)

one_expr : (text : List ℕ) (d e : Tree) → IsExprText d text → IsExprText e text → d ≡ e
one_expr text d e h i =
    same_Some d e (sym (found_in d text h) ∙ ap tree_in (one_tokens text (print d) (print e) h.spelled i.spelled) ∙ found_in e text i)

one_tree : (g : Grammar) (text : List ℕ) (d e : Tree) → IsTreeText g d text → IsTreeText g e text → d ≡ e
one_tree Expressions text d e h i = one_expr text d e h i
one_tree Measures text d e h i = one_expr text d e h.expr i.expr

-- ---- a text of both grammars: a reference to a field

shallow : 0 ≤ 100
shallow = omega arith

is_expr : IsExprText (Field (97 ∷ [])) (codes "${a}")
is_expr = record {
  built = refl;
  shallow = shallow;
  spelled = record {
    gap = [];
    front = codes "${a}";
    rest = [];
    joined = refl;
    spaces = refl;
    spelled = (refl, refl, refl);
    behind = refl;
  };
}

some_text : (g : Grammar) → IsOfGrammar g (codes "${a}")
some_text Expressions = (Field (97 ∷ []), is_expr)
some_text Measures = (Field (97 ∷ []), record { expr = is_expr; measure = refl })

begun : (g : Grammar) → IsViable (IsOfGrammar g) []
begun g = (codes "${a}", some_text g)

-- ---- places

-- what begins a text of a grammar begins with what begins one
shorter : (G : List ℕ → Type 0) (text : List ℕ) (n p : ℕ) → n ≤ p → IsViable G (take p text) → IsViable G (take n text)
shorter G text n p low viable =
    let front : take n (take p text) ≡ take n text = take-take n p text low in
    let whole : take n text ++ drop n (take p text) ≡ take p text = ap (λ xs. xs ++ drop n (take p text)) (sym front) ∙ take-append-drop n (take p text) in (
      drop n (take p text) ++ viable.0,
      subst G (ap (λ xs. xs ++ viable.0) (sym whole) ∙ append_assoc (take n text) (drop n (take p text)) viable.0) viable.1,
    )

module _ (G : List ℕ → Type 0) (text : List ℕ) (p : HasPlace G text) (f : HasFirst (IsUnreadAt text) p.number) where
  reached : (f.number ≡ p.number) ⊎ IsUnreadAt text f.number
      → IsUnreadAt text f.number ⊎ ((m : ℕ) → m ≤ length text → IsViable G (take m text) → m ≤ f.number)
  reached (inl same) = inr (λ m fits viable.
      let low : m ≤ p.number = p.is.longest m fits viable in
      omega (arith, low, same))
  reached (inr unread) = inl unread

  syntax_at : Found (IsSyntaxPlace G text)
  syntax_at = record {
    thing = f.number;
    holds = record {
      within = omega (arith, f.is.within, p.is.within);
      begins = shorter G text f.number p.number f.is.within p.is.begins;
      none = f.is.none;
      reached = reached f.is.reached;
    };
  }

-- each text has the place of its fault, be it of the grammar or not
pub syntax_place : (g : Grammar) (text : List ℕ) → NotNot (Found (IsSyntaxPlace (IsOfGrammar g) text))
syntax_place g text =
    and_then (place (IsOfGrammar g) (begun g) text)
    (λ p. so_is (first (IsUnreadAt text) p.number) (λ f. syntax_at (IsOfGrammar g) text p f))

-- ---- readings

module _ (g : Grammar) (text : List ℕ) where
  with_calls : (e : Tree) → IsTreeText g e text → (o : Option ℕ) → unknown_call e ≡ o → Found (IsExprRead g text)
  with_calls e is (Some at) call = record { thing = Err (E2 at); holds = (e, is, call) }
  with_calls e is None call =
      let raw = nodes_for e in
      record {
        thing = Ok raw.expr;
        holds = (
          record {
            spelled = subst (λ t. IsTreeText g t text) (sym raw.is) is;
            only = λ other spelled. one_tree g text other e spelled is ∙ sym raw.is;
          },
          ap unknown_call raw.is ∙ call,
        );
      }

  read : Found (λ (e : Tree). IsTreeText g e text) → Found (IsExprRead g text)
  read f = with_calls f.thing f.holds (unknown_call f.thing) refl

  refused : (Found (λ (e : Tree). IsTreeText g e text) → ⊥) → Found (IsSyntaxPlace (IsOfGrammar g) text) → Found (IsExprRead g text)
  refused none p = record {
    thing = Err (E1 p.thing);
    holds = ((λ of. none (record { thing = of.0; holds = of.1 })), p.holds);
  }

  -- an expression, or a refusal
  pub expr_read : HoldsOfSome (IsExprRead g text)
  expr_read =
      of_found (and_then (excluded (Found (λ (e : Tree). IsTreeText g e text))) (λ c.
      elim c [
        | inl f ↦ there_is (read f)
        | inr none ↦ so_is (syntax_place g text) (refused none)
      ]))
