-- Filter texts read one after the other.
use Rattle.std.proofs.Common.{◌≡◌, ◌∙◌, ℕ, ◌+◌, ◌<◌, List, [], ◌∷◌, ◌++◌, length, drop, get_or, sym, ap, subst}
use Rattle.std.specs.Prelude.{Result, Ok, Err}
use Rattle.lk_types.specs.declared.filter.Filter.{Filter}
use Rattle.lk_filter.specs.FilterTexts.{IsFilterText}
use Rattle.lk_body.specs.declared.fault.QueryFault.{QueryFault}
use Rattle.lk_query.specs.Refusals.{in_front}
use Rattle.lk_query.specs.Readings.{AreRead, IsRead, PickFilter, read, refused, later}
use Rattle.lk_query.specs.declared.texts.FilterText.{FilterText}
use Rattle.lk_query.proofs.FoundLaws.{item_here, more_in_front}

abbrev pub Rest : Type 0
Rest = Result (List PickFilter) QueryFault

one_read : (t : FilterText) (ts : List FilterText) (f : Filter) (rest : Rest) → IsFilterText t.kind f t.text → AreRead ts rest → AreRead (t ∷ ts) (in_front ((t.on, f) ∷ []) rest)
one_read t ts f (Ok fs) is are = read is are
one_read t ts f (Err fault) is are = later f is are

-- a text that is read goes in front of what is read of those behind it
pub next_read : (texts : List FilterText) (i : ℕ) (front after : List PickFilter) (t : FilterText) (f : Filter) → i < length texts → t ≡ get_or texts i t → after ≡ front ++ (t.on, f) ∷ [] → IsFilterText t.kind f t.text
    → ((rest : Rest) → AreRead (drop i texts) rest → AreRead texts (in_front front rest)) → (rest : Rest) → AreRead (drop (i + 1) texts) rest → AreRead texts (in_front after rest)
next_read texts i front after t f within at pushed is so_far rest are =
    let here = item_here texts i t within at in
    subst (AreRead texts) (sym (ap (λ fs. in_front fs rest) pushed ∙ more_in_front front (t.on, f) rest))
    (so_far (in_front ((t.on, f) ∷ []) rest) (subst (λ ts. AreRead ts (in_front ((t.on, f) ∷ []) rest)) (sym here) (one_read t (drop (i + 1) texts) f rest is are)))

-- a text that spells no filter is refused, whatever stands behind it
pub next_refused : (texts : List FilterText) (i : ℕ) (front : List PickFilter) (t : FilterText) (fault : QueryFault) → i < length texts → t ≡ get_or texts i t → IsRead t (Err fault)
    → ((rest : Rest) → AreRead (drop i texts) rest → AreRead texts (in_front front rest)) → AreRead texts (Err fault)
next_refused texts i front t fault within at is so_far =
    let here = item_here texts i t within at in
    so_far (Err fault) (subst (λ ts. AreRead ts (Err fault)) (sym here) (subst (λ e. AreRead (t ∷ drop (i + 1) texts) (Err e)) (sym is.2) (refused is.1)))
