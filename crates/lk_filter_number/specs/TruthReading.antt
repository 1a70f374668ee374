-- How filters of truth values are read: the values from the words, and the grammar as a form.
use Rattle.std.specs.Prelude.{Bool, true, false, List, [], ◌∷◌, Option, Some, None, option_map, codes}
use Rattle.lk_grammar.specs.Forms.{Form, seq, either}
use Rattle.lk_grammar.specs.Words.{word}
use Rattle.lk_grammar.specs.Listed.{listed}
use Rattle.lk_filter_number.specs.declared.truth.TruthWord.{TruthWord}
use Rattle.lk_filter_number.specs.declared.truth.TruthWord.TheVariants.{Yes, No, Comma}

abbrev pub truth_of : TruthWord → Option Bool
truth_of Yes = Some true
truth_of No = Some false
truth_of Comma = None

-- the value, and those behind it
abbrev pub with_truth : Option Bool → Option (List Bool) → Option (List Bool)
with_truth None more = None
with_truth (Some b) more = option_map (λ values. b ∷ values) more

abbrev mutual
  pub truths_from : List TruthWord → Option (List Bool)
  truths_from [] = None
  truths_from (word ∷ words) = with_truth (truth_of word) (truths_behind words)

  pub truths_behind : List TruthWord → Option (List Bool)
  truths_behind [] = Some []
  truths_behind (Comma ∷ words) = truths_from words
  truths_behind (Yes ∷ words) = None
  truths_behind (No ∷ words) = None

abbrev pub truths_of : List TruthWord → Option (List Bool)
truths_of [] = Some []
truths_of (word ∷ words) = truths_from (word ∷ words)

-- ---- the grammar as a form

abbrev pub value_form : Form
value_form = either (word (32 ∷ []) (codes "yes")) (word (32 ∷ []) (codes "no"))

abbrev pub further_form : Form
further_form = seq (word (32 ∷ []) (codes ",")) value_form

unfoldable pub truth_form : Form
truth_form = listed (32 ∷ []) value_form further_form
