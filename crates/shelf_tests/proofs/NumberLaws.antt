-- Lists of numbers that count what stands before them, and how they go on.
use Rattle.std.proofs.Common.{◌≡◌, ◌⊎◌, ◌+◌, ◌-◌, List, [], ◌∷◌, ◌++◌, length, inl, inr, ap, subst, arith, length-append, Option, Some, None, Result, Ok, Err, IfSome, IfOk}
use Rattle.lk_front.specs.Chains.{EndsIn}
use Rattle.lk_shelf.proofs.Endings.{ends_in_next}
use Rattle.shelf_tests.specs.Numbers.{CountsItself}
use Rattle.shelf_tests.specs.declared.numbers.Counted.{Counted}

-- how many stand before it is the number of a value that is put behind
one_more_counts : (values : List Counted) (next : Counted) → next.number ≡ length values → CountsItself (values ++ next ∷ [])
unfolding CountsItself
one_more_counts values next is last ends =
    let same : last.number ≡ next.number = ap (λ counted. counted.number) (ends_in_next values next last ends) in
    omega (arith, same, is, length-append values (next ∷ []))

-- so does a list that was opened with 0
pub opened_counts : {E : Type 0} (result : Result (List Counted × Option Counted) E) (first : Counted) → first.number ≡ 0 → IfOk result (λ seen. seen ≡ (first ∷ [], None)) → IfOk result (λ seen. CountsItself seen.0)
opened_counts (Ok seen) first is opened = rw opened (one_more_counts [] first is)
opened_counts (Err fault) first is opened = tt

-- what may be published: a value that may stand behind the last one is on offer
abbrev pub MayPublish : List Counted × Option Counted → Type 0
MayPublish seen = (next : Counted) × (seen.1 ≡ Some next) × ((last : Counted) → EndsIn seen.0 last → (next.number ≡ last.number) ⊎ (next.number ≡ last.number + 1))

-- as the next number
pub offers_next : (values : List Counted) (next : Counted) (seen : List Counted × Option Counted) → seen ≡ (values, Some next) → CountsItself values → next.number ≡ length values → MayPublish seen
unfolding CountsItself
offers_next values next seen is counts number = (
  next,
  ap (λ pair. pair.1) is,
  (λ last ends.
      let one : last.number + 1 ≡ length values = counts last (subst (λ list. EndsIn list last) (ap (λ pair. pair.0) is) ends) in
      inr (omega (arith, one, number))),
)

-- as the same number again
pub offers_again : (values : List Counted) (next : Counted) (seen : List Counted × Option Counted) → seen ≡ (values, Some next) → CountsItself values → next.number ≡ length values - 1 → MayPublish seen
unfolding CountsItself
offers_again values next seen is counts number = (
  next,
  ap (λ pair. pair.1) is,
  (λ last ends.
      let one : last.number + 1 ≡ length values = counts last (subst (λ list. EndsIn list last) (ap (λ pair. pair.0) is) ends) in
      inl (omega (arith, one, number))),
)

-- the list with the next number behind counts itself
pub published_counts : (values : List Counted) (next : Counted) (seen after : List Counted × Option Counted) → seen ≡ (values, Some next) → IfSome seen.1 (λ value. after ≡ (seen.0 ++ value ∷ [], None))
    → next.number ≡ length values → CountsItself after.0
published_counts values next seen after is list number =
    let whole : after ≡ (values ++ next ∷ [], None) = subst (λ pair. IfSome pair.1 (λ value. after ≡ (pair.0 ++ value ∷ [], None))) is list in
    rw whole (one_more_counts values next number)
