-- Filter texts as the filters that they spell, or the first that spells none.
use Rattle.std.specs.Prelude.{◌≡◌, ℕ, List, [], ◌∷◌, Result, Ok, Err}
use Rattle.lk_types.specs.declared.filter.Filter.{Filter}
use Rattle.lk_types.specs.declared.model.Pick.{Pick}
use Rattle.lk_filter.specs.FilterTexts.{IsFilterText, IsFaultPlace}
use Rattle.lk_body.specs.declared.fault.QueryFault.{QueryFault}
use Rattle.lk_body.specs.declared.fault.QueryFault.TheVariants.{Q6}
use Rattle.lk_query.specs.declared.texts.FilterText.{FilterText}

-- a filter on what is picked
abbrev pub PickFilter : Type 0
PickFilter = Pick × Filter

-- the text spells no filter of its kind, and this is the place where it is refused
pub record IsNoFilter (t : FilterText) (place : ℕ) : Type 0 where
  pub none : (f : Filter) → IsFilterText t.kind f t.text → ⊥
  pub at : IsFaultPlace t.kind t.text place

-- the filter that a text spells, or Q6 where it spells none
abbrev pub IsRead : FilterText → Result Filter QueryFault → Type 0
IsRead t (Ok f) = IsFilterText t.kind f t.text
IsRead t (Err fault) = (place : ℕ) × IsNoFilter t place × (fault ≡ Q6 t.name place)

-- the texts spell these filters, in their order; or the first that spells none is refused (Q6)
pub data AreRead : List FilterText → Result (List PickFilter) QueryFault → Type 0 where
  nothing : AreRead [] (Ok [])
  read : {t : FilterText} {ts : List FilterText} {f : Filter} {fs : List PickFilter}
      → IsFilterText t.kind f t.text → AreRead ts (Ok fs) → AreRead (t ∷ ts) (Ok ((t.on, f) ∷ fs))
  refused : {t : FilterText} {ts : List FilterText} {place : ℕ}
      → IsNoFilter t place → AreRead (t ∷ ts) (Err (Q6 t.name place))
  later : {t : FilterText} {ts : List FilterText} {fault : QueryFault} (f : Filter)
      → IsFilterText t.kind f t.text → AreRead ts (Err fault) → AreRead (t ∷ ts) (Err fault)
