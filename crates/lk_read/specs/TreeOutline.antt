-- The outline of a tree, from its items, and the lines of an item.
use Rattle.std.specs.Prelude.{ℕ, List, [], ◌∷◌, ◌++◌}
use Rattle.std.specs.List.{flat_map}
use Rattle.lk_read.specs.declared.tree.Item.{Item}
use Rattle.lk_read.specs.declared.tree.Node.{Node}
use Rattle.lk_read.specs.declared.tree.Node.TheVariants as node
use Rattle.lk_read.specs.Outline.{word, quoted, list, code, Outline, no_more, leaf, branch}
use Rattle.lk_read.specs.Lines.{Line, lines, plain, block, closing}

-- a parameter before others
abbrev pub item_before : List ℕ → ℕ → Node → Outline → Outline
item_before name place (node.Word text) rest = leaf name place (word text) rest
item_before name place (node.Quoted text) rest = leaf name place (quoted text) rest
item_before name place (node.List entries) rest = leaf name place (list entries) rest
item_before name place (node.Block title inner) rest = branch name place title inner rest
item_before name place (node.Code text) rest = leaf name place (code text) rest

-- the parameters, in order
abbrev pub outline_of : List Item → Outline
outline_of [] = no_more
outline_of (item ∷ items) = item_before item.name item.place item.value (outline_of items)

-- the lines of a parameter
abbrev pub item_lines : List ℕ → ℕ → Node → List Line
item_lines name place (node.Word text) = plain name place (word text) ∷ []
item_lines name place (node.Quoted text) = plain name place (quoted text) ∷ []
item_lines name place (node.List entries) = plain name place (list entries) ∷ []
item_lines name place (node.Block title inner) = block name place title ∷ (lines inner ++ closing ∷ [])
item_lines name place (node.Code text) = plain name place (code text) ∷ []

-- the lines of the parameters, one after another
abbrev pub lines_of : List Item → List Line
lines_of items = flat_map (λ item. item_lines item.name item.place item.value) items
