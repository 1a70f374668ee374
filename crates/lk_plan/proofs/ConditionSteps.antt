-- A filter more in the loop over filters.
use Rattle.std.proofs.Common.{◌≡◌, ℕ, ◌+◌, ◌<◌, List, ◌∷◌, length, get_or, drop, Option, fold, sym, ap, ◌∙◌, arith, drop-cons}
use Rattle.std.specs.Prelude.{suc}
use Rattle.std.proofs.lemmas.List.Sums.{fold-append}
use Rattle.lk_types.specs.Formula.{Formula, And}
use Rattle.lk_types.specs.declared.explore.Explore.{Explore}
use Rattle.lk_types.specs.declared.filter.Filter.{Filter}
use Rattle.lk_plan.specs.Joining.{listed, with_next}
use Rattle.lk_plan.specs.Conditions.{condition_on, filter_conditions}

pub next_filter : (x : Explore) (fs : List (ℕ × Filter)) (i : ℕ) (item : ℕ × Filter) (all next after wanted : Option Formula) → i < length fs → item ≡ get_or fs i item →
    next ≡ condition_on x item → after ≡ fold (with_next And) all (listed next) →
    fold (with_next And) all (filter_conditions x (drop i fs)) ≡ wanted → fold (with_next And) after (filter_conditions x (drop (i + 1) fs)) ≡ wanted
next_filter x fs i item all next after wanted less is made behind inv =
    let on : i + 1 ≡ suc i = omega arith in
    let here : drop i fs ≡ item ∷ drop (i + 1) fs = drop-cons fs i item less ∙ (λ j. sym is j ∷ drop (sym on j) fs) in
    ap (λ a. fold (with_next And) a (filter_conditions x (drop (i + 1) fs))) (behind ∙ ap (λ n. fold (with_next And) all (listed n)) made)
    ∙ sym (fold-append (with_next And) all (listed (condition_on x item)) (filter_conditions x (drop (i + 1) fs)))
    ∙ ap (λ gs. fold (with_next And) all (filter_conditions x gs)) (sym here)
    ∙ inv
