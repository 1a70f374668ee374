-- The texts of filters are read as one list of filters.
use Rattle.std.proofs.Common.{◌≡◌, ℕ, List, [], ◌∷◌, refl, sym, ap, ◌∙◌}
use Rattle.lk_filter.specs.declared.reading.FilterKind.{FilterKind}
use Rattle.lk_filter.specs.declared.reading.FilterKind.TheVariants as kind
use Rattle.lk_filter.proofs.OneFilterLaws.{one_filter, one_fault_place}
use Rattle.lk_objects.specs.declared.filter_text.FilterText.{FilterText}
use Rattle.lk_objects.specs.declared.filter_text.ReadFilter.{ReadFilter}
use Rattle.lk_objects.specs.declared.filter_text.ReadFilter.TheVariants as read
use Rattle.lk_written.specs.ReadFilters.{AreFilters, IsFilterText, IsReadAs}

one_read : (k : FilterKind) (text : List ℕ) (a b : ReadFilter) → IsReadAs k text a → IsReadAs k text b → a ≡ b
one_read k text (read.Read f) (read.Read g) h i = ap read.Read (one_filter k text f g h i)
one_read k text (read.Read f) (read.Syntax q) h i = absurd (i.0 f h)
one_read k text (read.Syntax p) (read.Read g) h i = absurd (h.0 g i)
one_read k text (read.Syntax p) (read.Syntax q) h i = ap read.Syntax (one_fault_place k text p q h.1 i.1)

one_text : (pair : List ℕ × List ℕ) (f g : FilterText) → IsFilterText pair f → IsFilterText pair g → f ≡ g
one_text pair f g h i = λ j. record {
  name = (h.name_is ∙ sym i.name_is) j;
  text = (h.text_is ∙ sym i.text_is) j;
  as_text = one_read kind.Text pair.1 f.as_text g.as_text h.text_read i.text_read j;
  as_number = one_read kind.Number pair.1 f.as_number g.as_number h.number_read i.number_read j;
  as_date = one_read kind.Date pair.1 f.as_date g.as_date h.date_read i.date_read j;
  as_truth = one_read kind.Truth pair.1 f.as_truth g.as_truth h.truth_read i.truth_read j;
}

pub one_list : (pairs : List (List ℕ × List ℕ)) (fs gs : List FilterText) → AreFilters pairs fs → AreFilters pairs gs → fs ≡ gs
one_list [] [] [] h i = refl
one_list [] (f ∷ fs) gs h i = absurd h
one_list [] [] (g ∷ gs) h i = absurd i
one_list (p ∷ ps) [] gs h i = absurd h
one_list (p ∷ ps) (f ∷ fs) [] h i = absurd i
one_list (p ∷ ps) (f ∷ fs) (g ∷ gs) h i = λ j. one_text p f g h.0 i.0 j ∷ one_list ps fs gs h.1 i.1 j
