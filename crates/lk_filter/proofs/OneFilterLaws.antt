-- A text spells one filter of a kind, and it has one place of fault.
use Rattle.std.proofs.Common.{◌≡◌, inl, inr, ℕ, ◌≤◌, ◌<◌, List, length, sym, ◌∙◌, arith}
use Rattle.std.proofs.lemmas.Bool.{cases_lt}
use Rattle.lk_grammar.specs.Places.{IsPlace}
use Rattle.lk_types.specs.declared.filter.Filter.{Filter}
use Rattle.lk_filter_number.specs.Numbers.{IsNumbers, IsNumbersPlace}
use Rattle.lk_filter_number.specs.Truths.{IsTruth}
use Rattle.lk_filter_number.proofs.NumberTokenLaws.{one_number_filter}
use Rattle.lk_filter_number.proofs.TruthLaws.{one_truth_filter}
use Rattle.lk_filter_text.specs.Texts.{IsTexts}
use Rattle.lk_filter_text.proofs.TextTokenLaws.{one_text_filter}
use Rattle.lk_filter_date.specs.Dates.{IsDates}
use Rattle.lk_filter_date.proofs.DateTokenLaws.{one_date_filter}
use Rattle.lk_filter.specs.declared.reading.FilterKind.{FilterKind}
use Rattle.lk_filter.specs.declared.reading.FilterKind.TheVariants as kind
use Rattle.lk_filter.specs.FilterTexts.{IsFilterOf, IsFilterText, IsPlaceOf, IsFaultPlace}

one_filter_of : (k : FilterKind) (text : List ℕ) (f g : Filter) → IsFilterOf k f text → IsFilterOf k g text → f ≡ g
one_filter_of kind.Text text f g h e = one_text_filter text f g h e
one_filter_of kind.Number text f g h e = one_number_filter text f g h e
one_filter_of kind.Date text f g h e = one_date_filter text f g h e
one_filter_of kind.Truth text f g h e = one_truth_filter text f g h e

pub one_filter : (k : FilterKind) (text : List ℕ) (f g : Filter) → IsFilterText k f text → IsFilterText k g text → f ≡ g
one_filter k text f g h e = one_filter_of k text f g h.1 e.1

-- ---- places

one_place : (G : List ℕ → Type 0) (text : List ℕ) (m n : ℕ) → IsPlace G text m → IsPlace G text n → m ≡ n
one_place G text m n a b =
    let low : m ≤ n = b.longest m a.within a.begins in
    let high : n ≤ m = a.longest n b.within b.begins in
    omega (arith, low, high)

-- no number that is not read begins before the place
none_before : (text : List ℕ) (m n : ℕ) → IsNumbersPlace text m → IsNumbersPlace text n → m < n → ⊥
none_before text m n a b below =
    elim a.reached [
      | inl e ↦
          let same : a.place ≡ b.place = one_place IsNumbers text a.place b.place a.at_place b.at_place in
          absurd (omega (arith, e, same, b.within, below))
      | inr unread ↦ b.none m below unread
    ]

one_numbers_place : (text : List ℕ) (m n : ℕ) → IsNumbersPlace text m → IsNumbersPlace text n → m ≡ n
one_numbers_place text m n a b =
    elim (cases_lt m n) [
      | inl below ↦ absurd (none_before text m n a b below)
      | inr up ↦
          elim (cases_lt n m) [
            | inl above ↦ absurd (none_before text n m b a above)
            | inr down ↦ omega (arith, up, down)
          ]
    ]

one_place_of : (k : FilterKind) (text : List ℕ) (m n : ℕ) → IsPlaceOf k text m → IsPlaceOf k text n → m ≡ n
one_place_of kind.Text text m n a b = one_place IsTexts text m n a b
one_place_of kind.Number text m n a b = one_numbers_place text m n a b
one_place_of kind.Date text m n a b = one_place IsDates text m n a b
one_place_of kind.Truth text m n a b = one_place IsTruth text m n a b

pub one_fault_place : (k : FilterKind) (text : List ℕ) (m n : ℕ) → IsFaultPlace k text m → IsFaultPlace k text n → m ≡ n
one_fault_place k text m n a b =
    elim (cases_lt 4096 (length text)) [
      | inl long ↦ a.long long ∙ sym (b.long long)
      | inr short ↦ one_place_of k text m n (a.short short) (b.short short)
    ]
