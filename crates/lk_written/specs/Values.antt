-- What the parameters of a block say, each by itself. (Looker, LookML reference; lookd)
use Rattle.std.specs.Prelude.{ℕ, Bool, true, false, not, ◌||◌, if◌then◌else◌, List, [], ◌∷◌, Option, Some, None, codes, is_some}
use Rattle.std.specs.List.{flat_map}
use Rattle.std.specs.Option.{option_and_then}
use Rattle.lk_val.specs.Texts.{is_same_text}
use Rattle.lk_read.specs.Entry as entry
use Rattle.lk_read.specs.Entry.{Entry}
use Rattle.lk_read.specs.declared.tree.Item.{Item}
use Rattle.lk_read.specs.declared.tree.Node.{Node}
use Rattle.lk_read.specs.declared.tree.Node.TheVariants as node
use Rattle.lk_params.specs.Parameters.{items_of, last_named}
use Rattle.lk_params.specs.Values.{code, scalar}

-- the text of a parameter that counts, if it is a word or a string
abbrev pub text_at : List ℕ → List Item → Option (List ℕ)
text_at name items = option_and_then (λ item. scalar item.value) (last_named name items)

-- the code of a parameter that counts; a word or string there is no code
abbrev pub code_at : List ℕ → List Item → Option (List ℕ)
code_at name items = option_and_then (λ item. code item.value) (last_named name items)

-- the parameter is not there
abbrev pub is_missing : List ℕ → List Item → Bool
is_missing name items = not (is_some (last_named name items))

-- a value is `yes`
abbrev pub is_yes : Option (List ℕ) → Bool
is_yes None = false
is_yes (Some text) = is_same_text text (codes "yes")

-- a value is neither `yes` nor `no`
abbrev pub is_no_truth : Option (List ℕ) → Bool
is_no_truth None = true
is_no_truth (Some text) = not (is_same_text text (codes "yes") || is_same_text text (codes "no"))

-- a value is this text
abbrev pub is_text : List ℕ → Option (List ℕ) → Bool
is_text wanted None = false
is_text wanted (Some text) = is_same_text text wanted

-- the parameter is given with a value that a test refuses
abbrev pub is_wrong_at : (Node → Bool) → List ℕ → List Item → Bool
is_wrong_at refuses name items = is_refused (last_named name items) where
  is_refused : Option Item → Bool
  is_refused None = false
  is_refused (Some item) = refuses item.value

-- ---- filters: pairs of a field's name and a text, in a list or in the older blocks

abbrev pub pair_of : Entry → List (List ℕ × List ℕ)
pair_of (entry.pair name text) = (name, text) ∷ []
pair_of e = []

abbrev pub is_pair : Entry → Bool
is_pair (entry.pair name text) = true
is_pair e = false

abbrev pub pair_with : Option (List ℕ) → Option (List ℕ) → List (List ℕ × List ℕ)
pair_with (Some name) (Some text) = (name, text) ∷ []
pair_with name text = []

-- the filters of one value of `filters`
abbrev pub filters_in : Node → List (List ℕ × List ℕ)
filters_in (node.List entries) = flat_map pair_of entries
filters_in (node.Block None inner) =
    pair_with (text_at (codes "field") (items_of inner)) (text_at (codes "value") (items_of inner))
filters_in value = []

-- all filters of a block, in order
abbrev pub filters_at : List Item → List (List ℕ × List ℕ)
filters_at items = flat_map (λ item. if is_same_text item.name (codes "filters") then filters_in item.value else []) items
