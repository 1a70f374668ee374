-- The parameters of an object, given those of its contributors: each is that of the last contributor which has it, children
-- of one name are laid over each other, and those that accumulate all stay. (Looker, LookML reference: extends; lookd)
use Rattle.std.specs.Prelude.{ℕ, Bool, false, ◌&&◌, ◌||◌, if◌then◌else◌, List, [], ◌∷◌, map, Some, codes}
use Rattle.std.specs.List.{filter, flat_map}
use Rattle.lk_val.specs.Texts.{is_same_text}
use Rattle.lk_read.specs.TreeOutline.{outline_of}
use Rattle.lk_read.specs.declared.tree.Item.{Item}
use Rattle.lk_read.specs.declared.tree.Node.{Node}
use Rattle.lk_read.specs.declared.tree.Node.TheVariants as node
use Rattle.lk_params.specs.Parameters.{items_of}
use Rattle.lk_params.specs.Overlay.{overlaid}
use Rattle.lk_overlay.specs.declared.kind.Kind.{Kind}
use Rattle.lk_overlay.specs.declared.kind.Kind.TheVariants as kind
use Rattle.lk_overlay.specs.declared.slot.Slot.{Slot}
use Rattle.lk_overlay.specs.declared.slot.Slot.TheVariants.{Parameter, Child, Alone}
use Rattle.lk_params.specs.Picking.{firsts, last_given}

abbrev pub is_same_slot : Slot → Slot → Bool
is_same_slot (Parameter a) (Parameter b) = is_same_text a b
is_same_slot (Child a b) (Child c d) = is_same_text a c && is_same_text b d
is_same_slot a b = false

-- the named children that merge by name
abbrev pub merges : Kind → List ℕ → Bool
merges kind.View name =
    is_same_text name (codes "dimension") || is_same_text name (codes "dimension_group")
    || is_same_text name (codes "measure")
merges kind.Explore name = is_same_text name (codes "join")
merges kind.Datagroup name = false

-- the parameters of which every one stays
abbrev pub accumulates : Kind → List ℕ → Bool
accumulates kind.Explore name =
    is_same_text name (codes "access_filter") || is_same_text name (codes "aggregate_table")
accumulates k name = false

-- the slot of a parameter that is no child
abbrev pub slot_alone : Kind → Item → Slot
slot_alone k item = if accumulates k item.name then Alone item else Parameter item.name

abbrev pub slot_at : Kind → Item → Node → Slot
slot_at k item (node.Block (Some title) inner) = if merges k item.name then Child item.name title else slot_alone k item
slot_at k item value = slot_alone k item

abbrev pub slot_of : Kind → Item → Slot
slot_of k item = slot_at k item item.value

-- the parameters of a block that go to a slot
abbrev pub in_slot : Kind → Slot → List Item → List Item
in_slot k slot items = filter (λ item. is_same_slot slot (slot_of k item)) items

-- the parameters of a block's value
abbrev pub inner_of : Node → List Item
inner_of (node.Block title inner) = items_of inner
inner_of value = []

abbrev pub with_inner : Node → List Item → Node
with_inner (node.Block title inner) items = node.Block title (outline_of items)
with_inner value items = value

-- children of one name as one, at the place of the first
abbrev pub merged_child : List Item → List Item
merged_child [] = []
merged_child (item ∷ items) = record {
  name = item.name;
  value = with_inner item.value (overlaid (map (λ i. inner_of i.value) (item ∷ items)));
  place = item.place;
} ∷ []

-- what stands in a slot, given the contributors' parameters
abbrev pub filled : Kind → List (List Item) → Slot → List Item
filled k blocks (Parameter name) = last_given (map (in_slot k (Parameter name)) blocks)
filled k blocks (Child name title) = merged_child (flat_map (in_slot k (Child name title)) blocks)
filled k blocks (Alone item) = item ∷ []

-- the slots, each once, in the order of first standing
abbrev pub slots_in : Kind → List (List Item) → List Slot
slots_in k blocks = firsts is_same_slot (flat_map (map (slot_of k)) blocks)

-- the parameters of an object, given those of its contributors
abbrev pub merged : Kind → List (List Item) → List Item
merged k blocks = flat_map (filled k blocks) (slots_in k blocks)
