-- What clauses see of the entries of a list, from the entries.
use Rattle.std.specs.Prelude.{ℕ, List, [], ◌∷◌, ◌++◌, map}
use Rattle.lk_read.specs.declared.tree.Node.{Node}
use Rattle.lk_read.specs.declared.tree.Node.TheVariants as node
use Rattle.lk_read.specs.declared.tree.Entry as tree
use Rattle.lk_read.specs.declared.tree.Entry.TheVariants as tree_entry
use Rattle.lk_read.specs.Entry as entry
use Rattle.lk_read.specs.Entry.{Entry}
use Rattle.lk_read.specs.Outline.{word, quoted, list, code}
use Rattle.lk_read.specs.Canonical.{plain_text, title_text, block_text, text_at}

-- the canonical text of a value; of a block, as it stands behind a parameter's name with no margin
abbrev pub value_text : Node → List ℕ
value_text (node.Word text) = plain_text (word text)
value_text (node.Quoted text) = plain_text (quoted text)
value_text (node.List entries) = plain_text (list entries)
value_text (node.Block title inner) = title_text title ++ block_text [] inner (text_at (32 ∷ 32 ∷ []) inner)
value_text (node.Code text) = plain_text (code text)

-- a value as an entry
abbrev pub one_of : Node → Entry
one_of (node.Word text) = entry.word text
one_of (node.Quoted text) = entry.quoted text
one_of value = entry.other (value_text value)

abbrev pub entry_of : tree.Entry → Entry
entry_of (tree_entry.One value) = one_of value
entry_of (tree_entry.Pair key text) = entry.pair key text

abbrev pub entries_of : List tree.Entry → List Entry
entries_of entries = map entry_of entries
