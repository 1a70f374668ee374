-- The words that the program was given, and what they ask.
use Rattle.std.specs.Prelude.{ℕ, ◌==◌, Bool, false, if◌then◌else◌, List, [], ◌∷◌}
use Rattle.std.specs.List.{list_any}
use Rattle.lookd_why.specs.declared.words.Asked.{Asked}
use Rattle.lookd_why.specs.declared.words.Asked.TheVariants as asked

-- what words ask: nothing that is known, or about a caller's query on an explore
pub data Question : Type 0 where
  unknown : Question
  query : List ℕ → List ℕ → Question

abbrev pub has_dash : List ℕ → Bool
has_dash [] = false
has_dash (c ∷ cs) = c == 45

-- `DIR USER EXPLORE`
abbrev pub plain_words : List (List ℕ) → Question
plain_words (folder ∷ user ∷ explore ∷ []) = query user explore
plain_words words = unknown

-- words of which one begins with `-` ask nothing that is known
abbrev pub asked_by : List (List ℕ) → Question
asked_by words = if list_any has_dash words then unknown else plain_words words

-- what words that were read ask
abbrev pub meaning : Asked → Question
meaning asked.Unknown = unknown
meaning (asked.Query user explore) = query user.now explore.now
