-- Each tree within a tree is smaller.
use Rattle.std.proofs.Common.{◌≡◌, ℕ, suc, Bool, true, false, cond, ◌≤◌, List, [], ◌∷◌, ◌++◌, Option, length, length-append, codes, refl, arith}
use denote.Param.Weighed.{most}
use Rattle.lk_read.specs.declared.tree.Entries.TheDeep.{deep-Item, deep-Node, deep-Entry}
use Rattle.lk_read.specs.declared.tree.Entry as tree
use Rattle.lk_read.specs.declared.tree.Entry.TheVariants as tree_entry
use Rattle.lk_read.specs.declared.tree.Item.{Item}
use Rattle.lk_read.specs.declared.tree.Node.{Node}
use Rattle.lk_read.specs.declared.tree.Node.TheVariants as node
use Rattle.lk_read.specs.Entry as entry
use Rattle.lk_read.specs.Entry.{Entry, entry_size, entries_size}
use Rattle.lk_read.specs.EntryOutline.{value_text, one_of, entry_of, entries_of}
use Rattle.lk_read.specs.Outline.{Plain, word, quoted, list, code, Outline, no_more, leaf, branch, is_no_more}
use Rattle.lk_read.specs.OutlineCode.{plain_size, size_of}
use Rattle.lk_read.specs.Canonical.{entry_text, further_entries, entries_text, plain_text, title_text, start_text, block_text, text_at}
use Rattle.lk_read.specs.TreeOutline.{item_before, outline_of}

-- ---- nothing is larger than its canonical text

entry_fits : (e : Entry) → entry_size e ≤ suc (length (entry_text e))
entry_fits (entry.word w) = omega arith
entry_fits (entry.quoted q) = omega arith
entry_fits (entry.pair key v) = omega arith
entry_fits (entry.other text) = omega arith

further_fit : (es : List Entry) → entries_size es ≤ length (further_entries es)
further_fit [] = omega arith
further_fit (e ∷ es) =
    omega (arith, entry_fits e, further_fit es, length-append (codes ", " ++ entry_text e) (further_entries es), length-append (codes ", ") (entry_text e))

entries_fit : (es : List Entry) → entries_size es ≤ suc (length (entries_text es))
entries_fit [] = omega arith
entries_fit (e ∷ es) = omega (arith, entry_fits e, further_fit es, length-append (entry_text e) (further_entries es))

pub list_fits : (es : List Entry) → suc (entries_size es) ≤ length (plain_text (list es))
list_fits es = omega (arith, entries_fit es, length-append (entries_text es) (93 ∷ []))

plain_fits : (value : Plain) → plain_size value ≤ length (plain_text value)
plain_fits (word w) = omega arith
plain_fits (quoted q) = omega arith
plain_fits (list es) = omega (arith, list_fits es)
plain_fits (code c) = omega arith

start_fits : (margin name : List ℕ) → 2 ≤ length (start_text margin name)
start_fits margin name = omega (arith, length-append (margin ++ name) (codes ": "))

-- the text of a block is longer than its parameters are many, where their text is as long
block_fits : (margin : List ℕ) (inner : Outline) (inner_text : List ℕ) → size_of inner ≤ length inner_text → suc (size_of inner) ≤ length (block_text margin inner inner_text)
block_fits margin inner inner_text h = by_empty (is_no_more inner) refl
  where
    none : (tree : Outline) → is_no_more tree ≡ true → size_of tree ≡ 0
    none no_more e = refl
    none (leaf name place value rest) e = cc
    none (branch name place title below rest) e = cc

    by_empty : (c : Bool) → is_no_more inner ≡ c → suc (size_of inner) ≤ length (cond c (codes "{ }" ++ 10 ∷ []) (123 ∷ 10 ∷ (inner_text ++ margin ++ 125 ∷ 10 ∷ [])))
    by_empty true e = omega (arith, none inner e)
    by_empty false e = omega (arith, h, length-append (inner_text ++ margin) (125 ∷ 10 ∷ []), length-append inner_text margin)

tree_fits : (margin : List ℕ) (tree : Outline) → size_of tree ≤ length (text_at margin tree)
tree_fits margin no_more = omega arith
tree_fits margin (leaf name place value rest) =
    omega (arith, start_fits margin name, plain_fits value, tree_fits margin rest, length-append (start_text margin name ++ plain_text value) (10 ∷ text_at margin rest), length-append (start_text margin name) (plain_text value))
tree_fits margin (branch name place title inner rest) =
    let inner_text = text_at (margin ++ 32 ∷ 32 ∷ []) inner in
    omega (arith, start_fits margin name, block_fits margin inner inner_text (tree_fits (margin ++ 32 ∷ 32 ∷ []) inner), tree_fits margin rest, length-append (start_text margin name ++ title_text title ++ block_text margin inner inner_text) (text_at margin rest), length-append (start_text margin name ++ title_text title) (block_text margin inner inner_text), length-append (start_text margin name) (title_text title))

pub inner_fits : (title : Option (List ℕ)) (inner : Outline) → suc (size_of inner) ≤ length (value_text (node.Block title inner))
inner_fits title inner =
    let inner_text = text_at (32 ∷ 32 ∷ []) inner in
    omega (arith, block_fits [] inner inner_text (tree_fits (32 ∷ 32 ∷ []) inner), length-append (title_text title) (block_text [] inner inner_text))

-- ---- and so each tree within a tree is smaller

node_below : (name : List ℕ) (place : ℕ) (value : Node) (rest : Outline) → (deep-Node value ≤ size_of (item_before name place value rest)) × (size_of rest ≤ size_of (item_before name place value rest))
node_below name place (node.Word text) rest = (omega arith, omega arith)
node_below name place (node.Quoted text) rest = (omega arith, omega arith)
node_below name place (node.List entries) rest = (omega arith, omega arith)
node_below name place (node.Block title inner) rest = (omega arith, omega arith)
node_below name place (node.Code text) rest = (omega arith, omega arith)

-- no tree within is as large as the whole
pub most_below : (items : List Item) → most deep-Item items ≤ size_of (outline_of items)
most_below [] = omega arith
most_below (item ∷ items) =
    let below = node_below item.name item.place item.value (outline_of items) in
    omega (arith, most_below items, below.0, below.1)

one_below : (value : Node) → deep-Node value ≤ entry_size (one_of value)
one_below (node.Word text) = omega arith
one_below (node.Quoted text) = omega arith
one_below (node.List entries) = omega (arith, list_fits entries)
one_below (node.Block title inner) = omega (arith, inner_fits title inner)
one_below (node.Code text) = omega arith

entry_below : (e : tree.Entry) → deep-Entry e ≤ entry_size (entry_of e)
entry_below (tree_entry.One value) = omega (arith, one_below value)
entry_below (tree_entry.Pair key text) = omega arith

-- and no tree or list within a list's entries
pub most_in_entries : (entries : List tree.Entry) → most deep-Entry entries ≤ entries_size (entries_of entries)
most_in_entries [] = omega arith
most_in_entries (e ∷ entries) = omega (arith, most_in_entries entries, entry_below e)
