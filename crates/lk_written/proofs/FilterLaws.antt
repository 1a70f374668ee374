-- One more filter behind others.
use Rattle.std.proofs.Common.{◌≡◌, ℕ, ◌+◌, ◌<◌, List, [], ◌∷◌, ◌++◌, length, take, get_or, sym, ap, ◌∙◌, subst}
use Rattle.std.proofs.lemmas.List.{take_more}
use Rattle.lk_objects.specs.declared.filter_text.FilterText.{FilterText}
use Rattle.lk_written.specs.ReadFilters.{AreFilters, IsFilterText}

one_more : (ps : List (List ℕ × List ℕ)) (fs : List FilterText) (p : List ℕ × List ℕ) (f : FilterText) → AreFilters ps fs → IsFilterText p f → AreFilters (ps ++ p ∷ []) (fs ++ f ∷ [])
one_more [] [] p f are is = (is, tt)
one_more (q ∷ ps) (g ∷ fs) p f are is = (are.0, one_more ps fs p f are.1 is)
one_more [] (g ∷ fs) p f are is = absurd are
one_more (q ∷ ps) [] p f are is = absurd are

-- the same at a place of a list
pub one_more_at : (ps : List (List ℕ × List ℕ)) (i : ℕ) (fs after : List FilterText) (p : List ℕ × List ℕ) (f : FilterText) → i < length ps → p ≡ get_or ps i p → after ≡ fs ++ f ∷ [] → IsFilterText p f → AreFilters (take i ps) fs → AreFilters (take (i + 1) ps) after
one_more_at ps i fs after p f lt at pushed is are =
    subst (λ qs. AreFilters qs after) (sym (take_more ps i p lt ∙ ap (λ q. take i ps ++ q ∷ []) (sym at)))
    (subst (λ gs. AreFilters (take i ps ++ p ∷ []) gs) (sym pushed) (one_more (take i ps) fs p f are is))
