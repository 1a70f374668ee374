-- Outlines of items: their size, and their canonical text.
use Rattle.std.proofs.Common.{◌≡◌, ℕ, zero, suc, ◌+◌, ◌<◌, ◌≤◌, false, nat_eq, List, [], ◌∷◌, ◌++◌, length, get_or, refl, sym, ap, subst, ◌∙◌, append_assoc, arith}
use Rattle.std.proofs.lemmas.Bool.{ne_eqb}
use Rattle.std.proofs.lemmas.List.{append-nil}
use Rattle.lk_read.specs.declared.tree.Item.{Item}
use Rattle.lk_read.specs.declared.tree.Entry as tree
use Rattle.lk_read.specs.declared.tree.Node.{Node}
use Rattle.lk_read.specs.declared.tree.Node.TheVariants as node
use Rattle.lk_read.specs.TreeOutline.{item_before, outline_of}
use Rattle.lk_read.specs.Outline.{Plain, word, quoted, list, code, Outline, no_more, is_no_more}
use Rattle.lk_read.specs.OutlineCode.{size_of}
use Rattle.lk_read.specs.Entry.{entry_size, entries_size}
use Rattle.lk_read.specs.EntryOutline.{value_text, one_of, entry_of, entries_of}
use Rattle.lk_read.specs.TreeFalls.{list_fits, inner_fits}
use Rattle.lk_read.specs.Canonical.{entry_text, text_at, plain_text, start_text, title_text, block_text}

before_some : (name : List ℕ) (place : ℕ) (value : Node) (rest : Outline) → is_no_more (item_before name place value rest) ≡ false
before_some name place (node.Word text) rest = refl
before_some name place (node.Quoted text) rest = refl
before_some name place (node.List entries) rest = refl
before_some name place (node.Block title inner) rest = refl
before_some name place (node.Code text) rest = refl

pub outline_is_empty : (items : List Item) → is_no_more (outline_of items) ≡ nat_eq (length items) 0
outline_is_empty [] = refl
outline_is_empty (item ∷ items) =
    before_some item.name item.place item.value (outline_of items)
    ∙ sym (ne_eqb (suc (length items)) 0 (λ (e : suc (length items) ≡ 0). omega arith))

leaf_before : (margin name : List ℕ) (value : Plain) (rest : List ℕ) → start_text margin name ++ plain_text value ++ 10 ∷ rest ≡ (start_text margin name ++ plain_text value ++ 10 ∷ []) ++ rest
leaf_before margin name value rest = sym (append_assoc (start_text margin name ++ plain_text value) (10 ∷ []) rest)

-- the text of a parameter before others
pub item_text : (margin name : List ℕ) (place : ℕ) (value : Node) (rest : Outline) → text_at margin (item_before name place value rest) ≡ text_at margin (item_before name place value no_more) ++ text_at margin rest
item_text margin name place (node.Word text) rest = leaf_before margin name (word text) (text_at margin rest)
item_text margin name place (node.Quoted text) rest = leaf_before margin name (quoted text) (text_at margin rest)
item_text margin name place (node.List entries) rest = leaf_before margin name (list entries) (text_at margin rest)
item_text margin name place (node.Block title inner) rest =
    ap (λ x. x ++ text_at margin rest) (sym (append-nil (start_text margin name ++ title_text title ++ block_text margin inner (text_at (margin ++ 32 ∷ 32 ∷ []) inner))))
item_text margin name place (node.Code text) rest = leaf_before margin name (code text) (text_at margin rest)

-- a value's text is that of the entry that it makes
pub one_text : (value : Node) → entry_text (one_of value) ≡ value_text value
one_text (node.Word text) = refl
one_text (node.Quoted text) = refl
one_text (node.List entries) = refl
one_text (node.Block title inner) = refl
one_text (node.Code text) = refl

-- ---- sizes

-- how much is in a value
abbrev pub value_size : Node → ℕ
value_size (node.Word text) = 0
value_size (node.Quoted text) = 0
value_size (node.List entries) = entries_size entries
value_size (node.Block title inner) = suc (size_of inner)
value_size (node.Code text) = 0

before_size : (name : List ℕ) (place : ℕ) (value : Node) (rest : Outline) → size_of (item_before name place value rest) ≡ suc (value_size value + size_of rest)
before_size name place (node.Word text) rest = refl
before_size name place (node.Quoted text) rest = refl
before_size name place (node.List entries) rest = refl
before_size name place (node.Block title inner) rest = omega arith
before_size name place (node.Code text) rest = refl

-- a parameter is no larger than all of them
item_size : (items : List Item) (i : ℕ) (d : Item) → i < length items → suc (value_size (get_or items i d).value) ≤ size_of (outline_of items)
item_size [] i d h = absurd (omega arith)
item_size (item ∷ items) zero d h = omega (arith, before_size item.name item.place item.value (outline_of items))
item_size (item ∷ items) (suc i) d h =
    omega (arith, before_size item.name item.place item.value (outline_of items), item_size items i d (omega arith))

pub item_fits : (items : List Item) (i : ℕ) (item : Item) (tree : Outline) → i < length items → item ≡ get_or items i item → outline_of items ≡ tree → suc (value_size item.value) ≤ size_of tree
item_fits items i item tree h is all =
    let at : suc (value_size item.value) ≤ size_of (outline_of items) =
    subst (λ (x : Item). suc (value_size x.value) ≤ size_of (outline_of items)) (sym is) (item_size items i item h) in
    subst (λ x. suc (value_size item.value) ≤ size_of x) all at

-- so is an entry of a list
entry_size_at : (entries : List tree.Entry) (i : ℕ) (d : tree.Entry) → i < length entries → entry_size (entry_of (get_or entries i d)) ≤ entries_size (entries_of entries)
entry_size_at [] i d h = absurd (omega arith)
entry_size_at (e ∷ entries) zero d h = omega arith
entry_size_at (e ∷ entries) (suc i) d h = omega (arith, entry_size_at entries i d (omega arith))

pub entry_fits : (entries : List tree.Entry) (i : ℕ) (e : tree.Entry) → i < length entries → e ≡ get_or entries i e → entry_size (entry_of e) ≤ entries_size (entries_of entries)
entry_fits entries i e h is =
    subst (λ (x : tree.Entry). entry_size (entry_of x) ≤ entries_size (entries_of entries)) (sym is) (entry_size_at entries i e h)

-- what is in a value is less than the value as an entry
pub one_size : (value : Node) → suc (value_size value) ≤ entry_size (one_of value)
one_size (node.Word text) = omega arith
one_size (node.Quoted text) = omega arith
one_size (node.List entries) = omega (arith, list_fits entries)
one_size (node.Block title inner) = omega (arith, inner_fits title inner)
one_size (node.Code text) = omega arith
