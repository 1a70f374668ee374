-- The named blocks of a view. (Looker, LookML reference; lookd)
use Rattle.std.specs.Prelude.{ℕ, Bool, false, not, ◌&&◌, nat_eq, List, [], ◌∷◌, Option, Some, None}
use Rattle.lk_val.specs.Texts.{is_same_text}
use Rattle.lk_read.specs.declared.tree.Item.{Item}
use Rattle.lk_read.specs.declared.tree.Node.{Node}
use Rattle.lk_read.specs.declared.tree.Node.TheVariants as node
use Rattle.lk_params.specs.Known.{is_titled}
use Rattle.lk_params.specs.Parameters.{items_of}
use Rattle.lk_params.specs.Values.{title_of}

-- ---- one block

abbrev pub begins_with_plus : List ℕ → Bool
begins_with_plus [] = false
begins_with_plus (c ∷ cs) = nat_eq c 43

-- a block with a name; a name with a plus refines an object of a file, and names nothing within one
abbrev pub is_named_block : Node → Bool
is_named_block (node.Block (Some title) inner) = not (begins_with_plus title)
is_named_block value = false

abbrev pub or_empty : Option (List ℕ) → List ℕ
or_empty None = []
or_empty (Some text) = text

-- the name of a parameter's block
abbrev pub block_name : Item → List ℕ
block_name item = or_empty (title_of item.value)

-- the parameters in a parameter's block
abbrev pub block_items : Item → List Item
block_items item = inner item.value where
  inner : Node → List Item
  inner (node.Block title outline) = items_of outline
  inner value = []

-- a block of this kind that has a name
abbrev pub is_block_of : List ℕ → Item → Bool
is_block_of kind item = is_same_text item.name kind && is_titled item.value
