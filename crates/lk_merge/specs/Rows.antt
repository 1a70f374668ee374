-- How the program keeps what each object hands on as one block. It is no part of what an object hands on.
use Rattle.std.specs.Prelude.{◌≡◌, ℕ, List, Option, Some, None, length}
use Rattle.std.specs.Ordering.{nat_cmp}
use Rattle.std.specs.Cmp.Lexicographic.{slice_cmp}
use Rattle.std.specs.BTreeMap.{BTreeMap, get}
use Rattle.lk_read.specs.declared.tree.Item.{Item}
use Rattle.lk_overlay.specs.declared.kind.Kind.{Kind}
use Rattle.lk_merge.specs.declared.declaration.Declaration.{Declaration}
use Rattle.lk_merge.specs.Objects.{handed_within}
use Rattle.lk_overlay.specs.Overlay.{merged}

-- what an object hands on as one block
abbrev pub row_of : List Declaration → Kind → List ℕ → List Item
row_of all k name = merged k (handed_within all k (length all) name)

-- a block is this one, where there is one
abbrev pub IsRow : List Item → Option (List Item) → Type 0
IsRow row None = Unit {0}
IsRow row (Some other) = other ≡ row

abbrev pub row_at : BTreeMap (List ℕ) (List Item) → List ℕ → Option (List Item)
row_at rows name = get (slice_cmp nat_cmp) rows name

-- at each name a map has what a function gives, or nothing
abbrev pub HasRows : (List ℕ → List Item) → BTreeMap (List ℕ) (List Item) → Type 0
HasRows row rows = (name : List ℕ) → IsRow (row name) (row_at rows name)
