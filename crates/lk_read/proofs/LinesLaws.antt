-- A tree is the only one with its lines.
use Rattle.std.proofs.Common.{◌≡◌, ℕ, List, [], ◌∷◌, ◌++◌, ◌⊎◌, inl, inr, Option, refl, sym, ap, ◌∙◌, append_assoc}
use Rattle.std.proofs.lemmas.List.{append-nil}
use Rattle.lk_read.specs.declared.tree.Item.{Item}
use Rattle.lk_read.specs.declared.tree.Node.{Node}
use Rattle.lk_read.specs.declared.tree.Node.TheVariants as node
use Rattle.lk_read.specs.TreeOutline.{item_before, outline_of, item_lines, lines_of}
use Rattle.lk_read.specs.Outline.{Plain, Outline, no_more, leaf, branch}
use Rattle.lk_read.specs.Lines.{Line, lines, plain, block, closing}

-- the lines end here, or the block does
abbrev Ends : List Line → Type 0
Ends x = (x ≡ []) ⊎ ((y : List Line) × (x ≡ closing ∷ y))

not_plain : (x : List Line) (name : List ℕ) (place : ℕ) (value : Plain) (more : List Line) → Ends x → x ≡ plain name place value ∷ more → ⊥
not_plain x name place value more (inl e) h = cc
not_plain x name place value more (inr (y, e)) h = cc

not_block : (x : List Line) (name : List ℕ) (place : ℕ) (title : Option (List ℕ)) (more : List Line) → Ends x → x ≡ block name place title ∷ more → ⊥
not_block x name place title more (inl e) h = cc
not_block x name place title more (inr (y, e)) h = cc

nested : (c r : Outline) (x : List Line) → (lines c ++ closing ∷ lines r) ++ x ≡ lines c ++ closing ∷ (lines r ++ x)
nested c r x = append_assoc (lines c) (closing ∷ lines r) x

pub unique : (a b : Outline) (x y : List Line) → Ends x → Ends y → lines a ++ x ≡ lines b ++ y → (a ≡ b) × (x ≡ y)
unique no_more no_more x y p q h = (refl, h)
unique no_more (leaf m b w s) x y p q h = absurd (not_plain x m b w (lines s ++ y) p h)
unique no_more (branch m b w d s) x y p q h = absurd (not_block x m b w ((lines d ++ closing ∷ lines s) ++ y) p h)
unique (leaf n a v r) no_more x y p q h = absurd (not_plain y n a v (lines r ++ x) q (sym h))
unique (branch n a v c r) no_more x y p q h = absurd (not_block y n a v ((lines c ++ closing ∷ lines r) ++ x) q (sym h))
unique (leaf n a v r) (leaf m b w s) x y p q h =
    let rest : lines r ++ x ≡ lines s ++ y = cc in
    let same = unique r s x y p q rest in
    let same_rest = same.0 in
    let name : n ≡ m = cc in
    let place : a ≡ b = cc in
    let value : v ≡ w = cc in
    (λ i. leaf (name i) (place i) (value i) (same_rest i), same.1)
unique (leaf n a v r) (branch m b w d s) x y p q h = cc
unique (branch n a v c r) (leaf m b w s) x y p q h = cc
unique (branch n a v c r) (branch m b w d s) x y p q h =
    let rest : (lines c ++ closing ∷ lines r) ++ x ≡ (lines d ++ closing ∷ lines s) ++ y = cc in
    let inside = unique c d (closing ∷ (lines r ++ x)) (closing ∷ (lines s ++ y)) (inr (lines r ++ x, refl)) (inr (lines s ++ y, refl)) (sym (nested c r x) ∙ rest ∙ nested d s y) in
    let closed = inside.1 in
    let behind : lines r ++ x ≡ lines s ++ y = cc in
    let same = unique r s x y p q behind in
    let inner = inside.0 in
    let outer = same.0 in
    let name : n ≡ m = cc in
    let place : a ≡ b = cc in
    let title : v ≡ w = cc in
    (λ i. branch (name i) (place i) (title i) (inner i) (outer i), same.1)

pub same_tree : (a b : Outline) → lines a ≡ lines b → a ≡ b
same_tree a b h = (unique a b [] [] (inl refl) (inl refl) (append-nil (lines a) ∙ h ∙ sym (append-nil (lines b)))).0

before_lines : (name : List ℕ) (place : ℕ) (value : Node) (rest : Outline) → lines (item_before name place value rest) ≡ item_lines name place value ++ lines rest
before_lines name place (node.Word text) rest = refl
before_lines name place (node.Quoted text) rest = refl
before_lines name place (node.List entries) rest = refl
before_lines name place (node.Block title inner) rest = ap (λ x. block name place title ∷ x) (sym (append_assoc (lines inner) (closing ∷ []) (lines rest)))
before_lines name place (node.Code text) rest = refl

-- the lines of a tree are those of its items
pub outline_lines : (items : List Item) → lines (outline_of items) ≡ lines_of items
outline_lines [] = refl
outline_lines (item ∷ items) =
    before_lines item.name item.place item.value (outline_of items)
    ∙ ap (λ x. item_lines item.name item.place item.value ++ x) (outline_lines items)
