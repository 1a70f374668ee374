-- How the program finds the parameters that go to a slot: a map from each slot's key to them, with the number of each one's
-- block. It is no part of what merging is.
use Rattle.std.specs.Prelude.{◌≡◌, ℕ, ◌+◌, Bool, false, nat_eq, List, [], ◌∷◌, ◌++◌, map, Option, Some, None}
use Rattle.std.specs.List.{filter, list_any}
use Rattle.std.specs.Option.{option_or, option_cmp}
use Rattle.std.specs.Ordering.{nat_cmp, ordering_then}
use Rattle.std.specs.Cmp.Lexicographic.{slice_cmp}
use Rattle.std.specs.declared.cmp.Ordering.{Ordering}
use Rattle.std.specs.Borrow.{Bor}
use Rattle.std.specs.BTreeMap.{BTreeMap, get}
use Rattle.std.specs.BTreeSet.{BTreeSet, contains}
use Rattle.lk_read.specs.declared.tree.Item.{Item}
use Rattle.lk_overlay.specs.declared.kind.Kind.{Kind}
use Rattle.lk_overlay.specs.declared.slot.Slot.{Slot}
use Rattle.lk_overlay.specs.declared.slot.Slot.TheVariants.{Parameter, Child, Alone}
use Rattle.lk_overlay.specs.Overlay.{is_same_slot, in_slot}

abbrev pub SlotKey : Type 0
SlotKey = List ℕ × Option (List ℕ)

abbrev pub key_cmp : SlotKey → SlotKey → Ordering
key_cmp x y = ordering_then (slice_cmp nat_cmp x.0 y.0) (option_cmp (slice_cmp nat_cmp) x.1 y.1)

-- the key of a slot, where it has one: a parameter's name, or a child's with its title
abbrev pub key_of : Slot → Option SlotKey
key_of (Parameter name) = Some (name, None)
key_of (Child name title) = Some (name, Some title)
key_of (Alone item) = None

-- ---- the slots that are known

abbrev pub has_key : BTreeSet SlotKey → Option SlotKey → Bool
has_key seen None = false
has_key seen (Some key) = contains key_cmp seen key

-- a set has the keys of the slots
abbrev pub HasKeys : List Slot → BTreeSet SlotKey → Type 0
HasKeys slots seen = (slot : Slot) → has_key seen (key_of slot) ≡ list_any (is_same_slot slot) slots

-- ---- the parameters by slot

-- a parameter with the number of its block
abbrev pub Numbered : Type 0
Numbered = ℕ × Item

abbrev pub read : ℕ × Bor Item → Numbered
read entry = (entry.0, entry.1.now)

abbrev pub those : Option (List (ℕ × Bor Item)) → List Numbered
those None = []
those (Some entries) = map read entries

abbrev pub those_at : BTreeMap SlotKey (List (ℕ × Bor Item)) → Option SlotKey → List Numbered
those_at them None = []
those_at them (Some key) = those (get key_cmp them key)

-- the parameters of blocks that go to a slot, where the blocks are numbered from n
abbrev pub numbered : Kind → Slot → ℕ → List (List Item) → List Numbered
numbered k slot n [] = []
numbered k slot n (block ∷ blocks) = map (λ item. (n, item)) (in_slot k slot block) ++ numbered k slot (n + 1) blocks

-- at each slot's key a map has the parameters that go to the slot
abbrev pub HasGroups : Kind → List (List Item) → BTreeMap SlotKey (List (ℕ × Bor Item)) → Type 0
HasGroups k blocks groups = (slot : Slot) → those_at groups (key_of slot) ≡ numbered k slot 0 blocks

-- the parameters alone
abbrev pub all_of : List Numbered → List Item
all_of entries = map (λ entry. entry.1) entries

abbrev pub of_number : ℕ → List Numbered → List Item
of_number n entries = map (λ entry. entry.1) (filter (λ entry. nat_eq entry.0 n) entries)

-- the number of the last block that has one
abbrev pub last_number : List Numbered → Option ℕ
last_number [] = None
last_number (entry ∷ entries) = option_or (last_number entries) (Some entry.0)

abbrev pub of_number_in : Option ℕ → List Numbered → List Item
of_number_in None entries = []
of_number_in (Some n) entries = of_number n entries

-- those of the last block that has some
abbrev pub of_last : List Numbered → List Item
of_last entries = of_number_in (last_number entries) entries
