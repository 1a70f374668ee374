-- What is merged of parameters that texts spell is as texts spell them.
use Rattle.std.proofs.Common.{◌≡◌, Bool, true, false, ◌&&◌, List, [], ◌∷◌, map, refl, Some, None}
use Rattle.std.specs.Prelude.{filter, flat_map, if◌then◌else◌, not}
use Rattle.std.specs.List.{AllByRecursion}
use Rattle.lk_val.specs.Texts.{is_same_text}
use Rattle.lk_read.specs.Bytes.{is_code_name}
use Rattle.lk_read.specs.Outline.{Outline}
use Rattle.lk_read.specs.TreeOutline.{item_before, outline_of}
use Rattle.lk_read.specs.declared.tree.Item.{Item}
use Rattle.lk_read.specs.declared.tree.Node.{Node}
use Rattle.lk_read.specs.declared.tree.Node.TheVariants as node
use Rattle.lk_params.specs.Overlay.{names_in, overlaid}
use Rattle.lk_params.specs.Parameters.{named}
use Rattle.lk_params.specs.Picking.{firsts, last_given, or_list}
use Rattle.lk_overlay.specs.Overlay.{accumulates, filled, in_slot, inner_of, is_same_slot, merged, merged_child, merges, slot_alone, slot_at, slot_of, slots_in, with_inner}
use Rattle.lk_overlay.specs.declared.kind.Kind.{Kind}
use Rattle.lk_overlay.specs.declared.slot.Slot.{Slot}
use Rattle.lk_overlay.specs.declared.slot.Slot.TheVariants.{Alone, Child, Parameter}
use Rattle.lk_semantics.proofs.EveryLaws.{both, first, second}
use Rattle.lk_model_laws.specs.Spelled.{is_none_or_title, is_spelled, is_value_of}
use Rattle.lk_model_laws.proofs.ListLaws.{all_filter, all_flat, all_map, all_true}
use Rattle.lk_model_laws.proofs.SpelledLaws.{IsSpelled, items_spelled}

-- ---- trees

before_spelled : (item : Item) (rest : Outline) → IsSpelled item → is_spelled rest ≡ true → is_spelled (item_before item.name item.place item.value rest) ≡ true
before_spelled item rest h k = of_value item.value h
  where
    of_value : (value : Node) → is_value_of item.name value ≡ true → is_spelled (item_before item.name item.place value rest) ≡ true
    of_value (node.Word text) is = both (not (is_code_name item.name)) (is_spelled rest) is k
    of_value (node.Quoted text) is = both (not (is_code_name item.name)) (is_spelled rest) is k
    of_value (node.List entries) is = both (not (is_code_name item.name)) (is_spelled rest) is k
    of_value (node.Code text) is = both (is_code_name item.name) (is_spelled rest) is k
    of_value (node.Block title inner) is = both (not (is_code_name item.name) && is_none_or_title title && is_spelled inner) (is_spelled rest) is k

pub outline_spelled : (items : List Item) → AllByRecursion IsSpelled items → is_spelled (outline_of items) ≡ true
outline_spelled [] h = refl
outline_spelled (item ∷ items) h = before_spelled item (outline_of items) h.0 (outline_spelled items h.1)

-- ---- lists

abbrev pub AreSpelled : List (List Item) → Type 0
AreSpelled blocks = AllByRecursion (λ items. AllByRecursion IsSpelled items) blocks

pub last_spelled : (blocks : List (List Item)) → AreSpelled blocks → AllByRecursion IsSpelled (last_given blocks)
last_spelled [] h = tt
last_spelled (items ∷ blocks) h = of_rest (last_given blocks) (last_spelled blocks h.1)
  where
    of_rest : (rest : List Item) → AllByRecursion IsSpelled rest → AllByRecursion IsSpelled (or_list rest items)
    of_rest [] k = h.0
    of_rest (item ∷ rest) k = k

picked : (keep : Item → Bool) (blocks : List (List Item)) → AreSpelled blocks → AreSpelled (map (filter keep) blocks)
picked keep blocks h = all_map (λ items. AllByRecursion IsSpelled items) (λ items. AllByRecursion IsSpelled items) (filter keep) (λ items is. all_filter IsSpelled keep items is) blocks h

overlaid_spelled : (blocks : List (List Item)) → AreSpelled blocks → AllByRecursion IsSpelled (overlaid blocks)
overlaid_spelled blocks h =
    all_flat IsSpelled (λ name. Unit {0}) (λ name. last_given (map (named name) blocks))
    (λ name is. last_spelled (map (named name) blocks) (picked (λ item. is_same_text item.name name) blocks h)) (names_in blocks)
    (all_true (λ name. Unit {0}) (λ name. tt) (names_in blocks))

-- ---- slots

-- a parameter that stands in a slot of its own
abbrev SlotSpelled : Slot → Type 0
SlotSpelled (Parameter name) = Unit {0}
SlotSpelled (Child name title) = Unit {0}
SlotSpelled (Alone item) = IsSpelled item

module _ (k : Kind) where
  alone_spelled : (item : Item) → IsSpelled item → SlotSpelled (slot_alone k item)
  alone_spelled item h = elim (accumulates k item.name) as (λ b. SlotSpelled (if b then Alone item else Parameter item.name)) [ true ↦ h | false ↦ tt ]

  slot_spelled : (item : Item) → IsSpelled item → SlotSpelled (slot_of k item)
  slot_spelled item h = of_value item.value
    where
      of_value : (value : Node) → SlotSpelled (slot_at k item value)
      of_value (node.Block (Some title) inner) = elim (merges k item.name) as (λ b. SlotSpelled (if b then Child item.name title else slot_alone k item)) [ true ↦ tt | false ↦ alone_spelled item h ]
      of_value (node.Block None inner) = alone_spelled item h
      of_value (node.Word text) = alone_spelled item h
      of_value (node.Quoted text) = alone_spelled item h
      of_value (node.List entries) = alone_spelled item h
      of_value (node.Code text) = alone_spelled item h

  pub all_firsts : {A : Type 0} (P : A → Type 0) (same : A → A → Bool) (xs : List A) → AllByRecursion P xs → AllByRecursion P (firsts same xs)
  all_firsts P same [] h = tt
  all_firsts P same (x ∷ xs) h = (h.0, all_filter P (λ y. not (same y x)) (firsts same xs) (all_firsts P same xs h.1))

  slots_spelled : (blocks : List (List Item)) → AreSpelled blocks → AllByRecursion SlotSpelled (slots_in k blocks)
  slots_spelled blocks h =
      all_firsts SlotSpelled is_same_slot (flat_map (map (slot_of k)) blocks)
      (all_flat SlotSpelled (λ items. AllByRecursion IsSpelled items) (map (slot_of k)) (λ items is. all_map SlotSpelled IsSpelled (slot_of k) slot_spelled items is) blocks h)

  inner_spelled : (item : Item) → IsSpelled item → AllByRecursion IsSpelled (inner_of item.value)
  inner_spelled item h = of_value item.value h
    where
      of_value : (value : Node) → is_value_of item.name value ≡ true → AllByRecursion IsSpelled (inner_of value)
      of_value (node.Block title inner) is = items_spelled inner (second (not (is_code_name item.name) && is_none_or_title title) (is_spelled inner) is)
      of_value (node.Word text) is = tt
      of_value (node.Quoted text) is = tt
      of_value (node.List entries) is = tt
      of_value (node.Code text) is = tt

  child_spelled : (items : List Item) → AllByRecursion IsSpelled items → AllByRecursion IsSpelled (merged_child items)
  child_spelled [] h = tt
  child_spelled (item ∷ items) h =
      (of_value item.value h.0, tt)
    where
      inner : List Item
      inner = overlaid (map (λ (i : Item). inner_of i.value) (item ∷ items))

      inner_is : is_spelled (outline_of inner) ≡ true
      inner_is =
          outline_spelled inner (overlaid_spelled (map (λ (i : Item). inner_of i.value) (item ∷ items))
          (all_map (λ (inside : List Item). AllByRecursion IsSpelled inside) IsSpelled (λ i. inner_of i.value) inner_spelled (item ∷ items) h))

      of_value : (value : Node) → is_value_of item.name value ≡ true → is_value_of item.name (with_inner value inner) ≡ true
      of_value (node.Block title old) is =
          both (not (is_code_name item.name) && is_none_or_title title) (is_spelled (outline_of inner)) (first (not (is_code_name item.name) && is_none_or_title title) (is_spelled old) is) inner_is
      of_value (node.Word text) is = is
      of_value (node.Quoted text) is = is
      of_value (node.List entries) is = is
      of_value (node.Code text) is = is

  filled_spelled : (blocks : List (List Item)) → AreSpelled blocks → (slot : Slot) → SlotSpelled slot → AllByRecursion IsSpelled (filled k blocks slot)
  filled_spelled blocks h (Parameter name) is = last_spelled (map (in_slot k (Parameter name)) blocks) (picked (λ item. is_same_slot (Parameter name) (slot_of k item)) blocks h)
  filled_spelled blocks h (Child name title) is =
      child_spelled (flat_map (in_slot k (Child name title)) blocks)
      (all_flat IsSpelled (λ items. AllByRecursion IsSpelled items) (in_slot k (Child name title)) (λ items is. all_filter IsSpelled (λ item. is_same_slot (Child name title) (slot_of k item)) items is) blocks h)
  filled_spelled blocks h (Alone item) is = (is, tt)

  pub merged_spelled : (blocks : List (List Item)) → AreSpelled blocks → AllByRecursion IsSpelled (merged k blocks)
  merged_spelled blocks h = all_flat IsSpelled SlotSpelled (filled k blocks) (filled_spelled blocks h) (slots_in k blocks) (slots_spelled blocks h)
