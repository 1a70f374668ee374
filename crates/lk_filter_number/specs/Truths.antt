-- Filters of truth values: `Yes` or `No`, or several with commas between.
use Rattle.std.specs.Prelude.{◌≡◌, ℕ, Bool, true, false, List, [], ◌∷◌, map, Some, codes}
use Rattle.lk_grammar.specs.Forms.{IsText}
use Rattle.lk_grammar.specs.Words.{word_form}
use Rattle.lk_grammar.specs.Tokens.{tokens_form}
use Rattle.lk_types.specs.declared.filter.Filter.{Filter}
use Rattle.lk_types.specs.declared.filter.Test.TheVariants.{Truth}
use Rattle.lk_filter_number.specs.declared.truth.TruthWord.{TruthWord}
use Rattle.lk_filter_number.specs.declared.truth.TruthWord.TheVariants.{Yes, No, Comma}

abbrev pub letters_of : TruthWord → List ℕ
letters_of Yes = codes "yes"
letters_of No = codes "no"
letters_of Comma = codes ","

abbrev pub word_of : Bool → TruthWord
word_of true = Yes
word_of false = No

-- further values, with a comma before each
abbrev pub more_words : List Bool → List TruthWord
more_words [] = []
more_words (b ∷ values) = Comma ∷ word_of b ∷ more_words values

-- the words of the values, with commas between
abbrev pub truth_words : List Bool → List TruthWord
truth_words [] = []
truth_words (b ∷ values) = word_of b ∷ more_words values

-- a value passes where it is one of them; where there is none, each passes
abbrev pub truth_filter : List Bool → Filter
truth_filter values = record { include = map Truth values; exclude = []; relative = false }

-- the text spells the values
abbrev pub IsTruthText : List Bool → List ℕ → Type 0
IsTruthText values text = IsText (tokens_form (32 ∷ []) (word_form letters_of) (truth_words values)) text

-- the text spells the filter
abbrev pub IsTruthFilter : Filter → List ℕ → Type 0
IsTruthFilter f text = (values : List Bool) × IsTruthText values text × (Some (truth_filter values) ≡ Some f)

-- the text is a filter of truth values
abbrev pub IsTruth : List ℕ → Type 0
IsTruth text = (f : Filter) × IsTruthFilter f text
