-- The parameters of a block as a list, and the one of a name that counts.
use Rattle.std.specs.Prelude.{ℕ, Bool, if◌then◌else◌, List, [], ◌∷◌, Option, Some, None}
use Rattle.std.specs.List.{filter}
use Rattle.std.specs.Option.{option_or}
use Rattle.lk_val.specs.Texts.{is_same_text}
use Rattle.lk_read.specs.Outline.{Plain, Outline, word, quoted, list, code, no_more, leaf, branch}
use Rattle.lk_read.specs.declared.tree.Item.{Item}
use Rattle.lk_read.specs.declared.tree.Node.{Node}
use Rattle.lk_read.specs.declared.tree.Node.TheVariants as node

-- a value that is no block
abbrev pub plain_value : Plain → Node
plain_value (word text) = node.Word text
plain_value (quoted text) = node.Quoted text
plain_value (list entries) = node.List entries
plain_value (code text) = node.Code text

-- the parameters of a block, in order
abbrev pub items_of : Outline → List Item
items_of no_more = []
items_of (leaf name place value rest) =
    record { name = name; value = plain_value value; place = place } ∷ items_of rest
items_of (branch name place title inner rest) =
    record { name = name; value = node.Block title inner; place = place } ∷ items_of rest

-- the parameter has this name
abbrev pub is_named : List ℕ → Item → Bool
is_named name item = is_same_text item.name name

-- the parameters of a name, in order
abbrev pub named : List ℕ → List Item → List Item
named name items = filter (is_named name) items

-- the last that passes a test
abbrev pub last_by : {A : Type 0} → (A → Bool) → List A → Option A
last_by test [] = None
last_by test (x ∷ xs) = option_or (last_by test xs) (if test x then Some x else None)

-- the parameter of a name that counts: the last of its block (Looker, LookML reference)
abbrev pub last_named : List ℕ → List Item → Option Item
last_named name items = last_by (is_named name) items
