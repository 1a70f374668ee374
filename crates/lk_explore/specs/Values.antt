-- What the parameters of an explore, of its joins and of its aggregate tables say, each by itself. (Looker, LookML reference; lookd)
use Rattle.std.specs.Prelude.{ℕ, Bool, not, List, [], ◌++◌, Option, Some, None, is_some, codes}
use Rattle.lk_read.specs.declared.tree.Item.{Item}
use Rattle.lk_read.specs.declared.tree.Node.{Node}
use Rattle.lk_read.specs.declared.tree.Node.TheVariants as node
use Rattle.lk_params.specs.declared.finding.Finding.{Finding}
use Rattle.lk_params.specs.declared.number.Order.TheVariants as order
use Rattle.lk_params.specs.declared.owner.Owner.{Owner}
use Rattle.lk_params.specs.Known.{along, item_findings}
use Rattle.lk_params.specs.Parameters.{items_of, last_named}
use Rattle.lk_params.specs.Values.{scalar, words}
use Rattle.lk_written.specs.ValueFindings.{wrong}

-- ---- values

abbrev pub or_no_words : Option (List (List ℕ)) → List (List ℕ)
or_no_words None = []
or_no_words (Some texts) = texts

-- the words of a list; none of another value
abbrev pub words_in : Node → List (List ℕ)
words_in value = or_no_words (words value)

-- the words of the list of this name that counts
abbrev pub words_at : List ℕ → List Item → List (List ℕ)
words_at name items = listed (last_named name items) where
  listed : Option Item → List (List ℕ)
  listed None = []
  listed (Some item) = words_in item.value

-- the view that `from` names, and without it this one; none where its value is no word or string
abbrev pub view_or : List ℕ → List Item → Option (List ℕ)
view_or own items = given (last_named (codes "from") items) where
  given : Option Item → Option (List ℕ)
  given None = Some own
  given (Some item) = scalar item.value

-- the parameters of a block without a name
abbrev pub plain_items : Node → List Item
plain_items (node.Block None inner) = items_of inner
plain_items value = []

-- the parameters of the block of this name that counts
abbrev pub block_at : List ℕ → List Item → List Item
block_at name items = inner (last_named name items) where
  inner : Option Item → List Item
  inner None = []
  inner (Some item) = plain_items item.value

-- ---- values outside the profile

abbrev pub is_no_text : Node → Bool
is_no_text value = not (is_some (scalar value))

abbrev pub are_no_words : Node → Bool
are_no_words value = not (is_some (words value))

-- a value outside the profile at a parameter of the object
abbrev pub wrong_at : List ℕ → List ℕ → Bool → List Finding
wrong_at object parameter so = wrong order.Object object parameter parameter so

-- a block within a parameter of the object, from some of its parameters on: at each parameter of the block what it shows by
-- itself, and then what its value shows, from left to right
abbrev pub within_from : Owner → List ℕ → List ℕ → (Item → List Finding) → List Item → List Item → List Finding
within_from o object at inside before items =
    along (λ before item. item_findings order.Object o object (Some at) before item ++ inside item) before items

abbrev pub within_block : Owner → List ℕ → List ℕ → (Item → List Finding) → List Item → List Finding
within_block o object at inside items = within_from o object at inside [] items
