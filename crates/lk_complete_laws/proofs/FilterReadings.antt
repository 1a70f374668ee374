-- Each text is a filter of a kind or is refused at a place, and a list of texts is read, or the first that is no filter is refused.
use Rattle.std.proofs.Common.{◌≡◌, inl, inr, ℕ, false, List, [], length, None, Ok, Err, refl, arith}
use Rattle.std.proofs.lemmas.Bool.{cases_lt}
use Rattle.lk_grammar.specs.Places.{IsViable}
use Rattle.lk_types.specs.declared.filter.Filter.{Filter}
use Rattle.lk_filter_date.specs.Dates.{IsDates}
use Rattle.lk_filter_number.specs.Numbers.{IsNumbers, IsNumbersPlace, IsUnreadAt}
use Rattle.lk_filter_number.specs.Truths.{IsTruth}
use Rattle.lk_filter_text.specs.Texts.{IsTexts, blank}
use Rattle.lk_filter.specs.FilterTexts.{IsFaultPlace, IsFilterText, IsPlaceOf}
use Rattle.lk_filter.specs.declared.reading.FilterKind.{FilterKind}
use Rattle.lk_filter.specs.declared.reading.FilterKind.TheVariants as kind
use Rattle.lk_filter.specs.declared.reading.FilterFault.TheVariants.{Syntax}
use Rattle.lk_complete_laws.specs.Holding.{HoldsOfSome}
use Rattle.lk_complete_laws.specs.Readings.{IsFilterRead}
use Rattle.lk_complete_laws.proofs.NotNot.{NotNot, Found, there_is, so_is, and_then, excluded, of_found}
use Rattle.lk_complete_laws.proofs.Bounded.{HasPlace, place, first}

-- ---- the empty text is a filter of each kind

pub empty_texts : IsTexts []
empty_texts = (
  record { include = []; exclude = []; relative = false },
  (blank 0, record { spelled = record { parts = []; joined = refl; each = tt }; characters = tt; are_items = tt }, refl),
)

pub empty_numbers : IsNumbers []
empty_numbers = (None, record { spelled = record { parts = []; joined = refl; each = tt }; numbers = tt })

pub empty_dates : IsDates []
empty_dates = (
  record { include = []; exclude = []; relative = false },
  ([], record { spelled = record { parts = []; joined = refl; each = tt }; literals = tt }, refl),
)

pub empty_truth : IsTruth []
empty_truth = (
  record { include = []; exclude = []; relative = false },
  ([], record { parts = []; joined = refl; each = tt }, refl),
)

begun : (Grammar : List ℕ → Type 0) → Grammar [] → IsViable Grammar []
begun Grammar is = ([], is)

-- ---- places

numbers_place : (text : List ℕ) → HasPlace IsNumbers text → NotNot (Found (IsNumbersPlace text))
numbers_place text p =
    so_is (first (IsUnreadAt text) p.number) (λ f. record {
      thing = f.number;
      holds = record { place = p.number; at_place = p.is; within = f.is.within; none = f.is.none; reached = f.is.reached };
    })

place_of : (k : FilterKind) (text : List ℕ) → NotNot (Found (IsPlaceOf k text))
place_of kind.Text text = so_is (place IsTexts (begun IsTexts empty_texts) text) (λ p. record { thing = p.number; holds = p.is })
place_of kind.Number text = and_then (place IsNumbers (begun IsNumbers empty_numbers) text) (numbers_place text)
place_of kind.Date text = so_is (place IsDates (begun IsDates empty_dates) text) (λ p. record { thing = p.number; holds = p.is })
place_of kind.Truth text = so_is (place IsTruth (begun IsTruth empty_truth) text) (λ p. record { thing = p.number; holds = p.is })

-- each text has the place of its fault, be it a filter or none
pub fault_place : (k : FilterKind) (text : List ℕ) → NotNot (Found (IsFaultPlace k text))
fault_place k text =
    elim (cases_lt 4096 (length text)) [
      | inl long ↦ there_is (record {
        thing = 4096;
        holds = record { long = λ _. refl; short = λ short. absurd (omega (arith, long, short)) };
      })
      | inr short ↦ so_is (place_of k text) (λ p. record {
        thing = p.thing;
        holds = record { long = λ long. absurd (omega (arith, long, short)); short = λ _. p.holds };
      })
    ]

-- ---- readings

module _ (one : (k : FilterKind) (text : List ℕ) (f g : Filter) → IsFilterText k f text → IsFilterText k g text → f ≡ g) where
  read : (k : FilterKind) (text : List ℕ) → Found (λ (f : Filter). IsFilterText k f text) → Found (IsFilterRead k text)
  read k text f = record { thing = Ok f.thing; holds = (f.holds, λ g is. one k text g f.thing is f.holds) }

  refused : (k : FilterKind) (text : List ℕ) → (Found (λ (f : Filter). IsFilterText k f text) → ⊥) → Found (IsFaultPlace k text) → Found (IsFilterRead k text)
  refused k text none p = record {
    thing = Err (Syntax p.thing);
    holds = ((λ f is. none (record { thing = f; holds = is })), p.holds);
  }

  -- a filter, or a refusal
  pub filter_read : (k : FilterKind) (text : List ℕ) → HoldsOfSome (IsFilterRead k text)
  filter_read k text =
      of_found (and_then (excluded (Found (λ (f : Filter). IsFilterText k f text))) (λ c.
      elim c [
        | inl f ↦ there_is (read k text f)
        | inr none ↦ so_is (fault_place k text) (refused k text none)
      ]))
