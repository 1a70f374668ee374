-- The joins of what is merged of an explore's parameters have names of their own.
use Rattle.std.proofs.Common.{◌≡◌, ◌∙◌, ℕ, Bool, true, false, ◌||◌, List, [], ◌∷◌, ◌++◌, map, refl, ap, sym, subst, inl, inr, ⊎_elim, Some, None}
use Rattle.std.specs.Prelude.{◌⊎◌, codes, filter, flat_map, if◌then◌else◌, not}
use Rattle.std.specs.List.{AllByRecursion, list_any}
use Rattle.std.proofs.lemmas.Bool.{false≢true}
use Rattle.lk_val.specs.Texts.{is_same_text}
use Rattle.lk_read.specs.declared.tree.Item.{Item}
use Rattle.lk_read.specs.declared.tree.Node.{Node}
use Rattle.lk_read.specs.declared.tree.Node.TheVariants as node
use Rattle.lk_params.specs.Known.{is_titled}
use Rattle.lk_params.specs.Overlay.{overlaid}
use Rattle.lk_params.specs.Picking.{firsts, last_given, or_list}
use Rattle.lk_overlay.specs.Overlay.{accumulates, filled, in_slot, inner_of, is_same_slot, merged, merged_child, merges, slot_alone, slot_at, slot_of, slots_in, with_inner}
use Rattle.lk_overlay.specs.declared.kind.Kind.TheVariants.{Explore}
use Rattle.lk_overlay.specs.declared.slot.Slot.{Slot}
use Rattle.lk_overlay.specs.declared.slot.Slot.TheVariants.{Alone, Child, Parameter}
use Rattle.lk_written.specs.Blocks.{block_name, is_block_of}
use Rattle.lk_semantics.proofs.EveryLaws.{both, first, second}
use Rattle.lk_explore.specs.Explores.{joins_in}
use Rattle.lk_model_laws.specs.Named.{are_distinct}
use Rattle.lk_model_laws.proofs.ListLaws.{all_filter, all_flat, all_kept, all_map, all_more}
use Rattle.lk_loaded_laws.proofs.MergedItemLaws.{all_firsts}
use Rattle.lk_model_laws.proofs.TextLaws as text

-- ---- the names of joins

abbrev pub join_names : List Item → List (List ℕ)
join_names items = map block_name (joins_in items)

abbrev pub is_join : Item → Bool
is_join item = is_block_of (codes "join") item

abbrev IsNoJoin : Item → Type 0
IsNoJoin item = is_join item ≡ false

pub names_append : (xs ys : List Item) → join_names (xs ++ ys) ≡ join_names xs ++ join_names ys
names_append [] ys = refl
names_append (item ∷ xs) ys =
    elim (is_join item) as (λ b. map block_name (if b then item ∷ joins_in (xs ++ ys) else joins_in (xs ++ ys)) ≡ map block_name (if b then item ∷ joins_in xs else joins_in xs) ++ join_names ys) [
      | true ↦ ap (λ names. block_name item ∷ names) (names_append xs ys)
      | false ↦ names_append xs ys
    ]

names_flat : {A : Type 0} (f : A → List Item) (xs : List A) → join_names (flat_map f xs) ≡ flat_map (λ x. join_names (f x)) xs
names_flat f [] = refl
names_flat f (x ∷ xs) = names_append (f x) (flat_map f xs) ∙ ap (λ names. join_names (f x) ++ names) (names_flat f xs)

pub no_names : (items : List Item) → AllByRecursion IsNoJoin items → join_names items ≡ []
no_names [] h = refl
no_names (item ∷ items) h = ap (λ b. map block_name (if b then item ∷ joins_in items else joins_in items)) h.0 ∙ no_names items h.1

-- ---- slots

-- the slot of a join is that of its name
join_slot : (item : Item) → is_join item ≡ true → (slot_of Explore item ≡ Child (codes "join") (block_name item)) × (item.name ≡ codes "join")
join_slot item h = of_value item.value refl (second (is_same_text item.name (codes "join")) (is_titled item.value) h)
  where
    named : item.name ≡ codes "join"
    named = text.same_exact item.name (codes "join") (first (is_same_text item.name (codes "join")) (is_titled item.value) h)

    of_value : (value : Node) → item.value ≡ value → is_titled value ≡ true → (slot_of Explore item ≡ Child (codes "join") (block_name item)) × (item.name ≡ codes "join")
    of_value (node.Block (Some title) inner) is t = (
      (λ i. slot_at Explore (record { name = named i; value = is i; place = item.place }) (is i))
          ∙ ap (λ value. Child (codes "join") (block_name (record { name = item.name; value = value; place = item.place }))) (sym is),
      named,
    )
    of_value (node.Block None inner) is t = absurd (false≢true t)
    of_value (node.Word text) is t = absurd (false≢true t)
    of_value (node.Quoted text) is t = absurd (false≢true t)
    of_value (node.List entries) is t = absurd (false≢true t)
    of_value (node.Code text) is t = absurd (false≢true t)

-- what stands alone is no join
abbrev SlotFine : Slot → Type 0
SlotFine (Parameter name) = Unit {0}
SlotFine (Child name title) = Unit {0}
SlotFine (Alone item) = IsNoJoin item

slot_fine : (item : Item) → SlotFine (slot_of Explore item)
slot_fine item = of_join (is_join item) refl
  where
    alone : IsNoJoin item → SlotFine (slot_alone Explore item)
    alone is = elim (accumulates Explore item.name) as (λ b. SlotFine (if b then Alone item else Parameter item.name)) [ true ↦ is | false ↦ tt ]

    of_value : IsNoJoin item → (value : Node) → SlotFine (slot_at Explore item value)
    of_value is (node.Block (Some title) inner) = elim (merges Explore item.name) as (λ b. SlotFine (if b then Child item.name title else slot_alone Explore item)) [ true ↦ tt | false ↦ alone is ]
    of_value is (node.Block None inner) = alone is
    of_value is (node.Word text) = alone is
    of_value is (node.Quoted text) = alone is
    of_value is (node.List entries) = alone is
    of_value is (node.Code text) = alone is

    of_join : (b : Bool) → is_join item ≡ b → SlotFine (slot_of Explore item)
    of_join true is = subst SlotFine (sym (join_slot item is).0) tt
    of_join false is = of_value is item.value

-- ---- what fills a slot

parameter_no_join : (name : List ℕ) (item : Item) → is_same_slot (Parameter name) (slot_of Explore item) ≡ true → IsNoJoin item
parameter_no_join name item h = of_join (is_join item) refl
  where
    of_join : (b : Bool) → is_join item ≡ b → IsNoJoin item
    of_join true is = absurd (false≢true (sym (ap (is_same_slot (Parameter name)) (join_slot item is).0) ∙ h))
    of_join false is = is

last_no_join : (lists : List (List Item)) → AllByRecursion (λ items. AllByRecursion IsNoJoin items) lists → AllByRecursion IsNoJoin (last_given lists)
last_no_join [] h = tt
last_no_join (items ∷ lists) h = of_rest (last_given lists) (last_no_join lists h.1)
  where
    of_rest : (rest : List Item) → AllByRecursion IsNoJoin rest → AllByRecursion IsNoJoin (or_list rest items)
    of_rest [] k = h.0
    of_rest (item ∷ rest) k = k

true_all : {A : Type 0} (xs : List A) → AllByRecursion (λ x. Unit {0}) xs
true_all [] = tt
true_all (x ∷ xs) = (tt, true_all xs)

-- a slot has no join, or one of its title
abbrev HasName : List (List Item) → Slot → Type 0
HasName blocks slot = (join_names (filled Explore blocks slot) ≡ []) ⊎ ((title : List ℕ) × (slot ≡ Child (codes "join") title) × (join_names (filled Explore blocks slot) ≡ title ∷ []))

titled_still : (value : Node) (items : List Item) → is_titled (with_inner value items) ≡ true → is_titled value ≡ true
titled_still (node.Block (Some title) inner) items h = refl
titled_still (node.Block None inner) items h = h
titled_still (node.Word text) items h = h
titled_still (node.Quoted text) items h = h
titled_still (node.List entries) items h = h
titled_still (node.Code text) items h = h

same_title : (name : List ℕ) (value : Node) (place : ℕ) (items : List Item) → block_name (record { name = name; value = with_inner value items; place = place }) ≡ block_name (record { name = name; value = value; place = place })
same_title name (node.Block title inner) place items = refl
same_title name (node.Word text) place items = refl
same_title name (node.Quoted text) place items = refl
same_title name (node.List entries) place items = refl
same_title name (node.Code text) place items = refl

module _ (name title : List ℕ) where
  abbrev IsOf : Item → Type 0
  IsOf item = is_same_slot (Child name title) (slot_of Explore item) ≡ true

  abbrev inside : Item → List Item → List Item
  inside item items = overlaid (map (λ (i : Item). inner_of i.value) (item ∷ items))

  abbrev laid : Item → List Item → Item
  laid item items = record { name = item.name; value = with_inner item.value (inside item items); place = item.place }

  child_name : (items : List Item) → AllByRecursion IsOf items → (join_names (merged_child items) ≡ []) ⊎ ((Child name title ≡ Child (codes "join") title) × (join_names (merged_child items) ≡ title ∷ []))
  child_name [] h = inl refl
  child_name (item ∷ items) h = of_join (is_join (laid item items)) refl
    where
      of_join : (b : Bool) → is_join (laid item items) ≡ b → (join_names (laid item items ∷ []) ≡ []) ⊎ ((Child name title ≡ Child (codes "join") title) × (join_names (laid item items ∷ []) ≡ title ∷ []))
      of_join false is = inl (ap (λ b. map block_name (if b then laid item items ∷ [] else [])) is)
      of_join true is =
          let own = is_same_text item.name (codes "join") in
          let was : is_join item ≡ true = both own (is_titled item.value) (first own (is_titled (laid item items).value) is) (titled_still item.value (inside item items) (second own (is_titled (laid item items).value) is)) in
          let slot = join_slot item was in
          let same : is_same_slot (Child name title) (Child (codes "join") (block_name item)) ≡ true = ap (is_same_slot (Child name title)) (sym slot.0) ∙ h.0 in
          let names : name ≡ codes "join" = text.same_exact name (codes "join") (first (is_same_text name (codes "join")) (is_same_text title (block_name item)) same) in
          let titles : title ≡ block_name item = text.same_exact title (block_name item) (second (is_same_text name (codes "join")) (is_same_text title (block_name item)) same) in
          inr (ap (λ n. Child n title) names, ap (λ b. map block_name (if b then laid item items ∷ [] else [])) is ∙ ap (λ t. t ∷ []) (same_title item.name item.value item.place (inside item items) ∙ sym titles))

module _ (blocks : List (List Item)) where
  in_slot_of : (slot : Slot) → AllByRecursion (λ items. AllByRecursion (λ item. is_same_slot slot (slot_of Explore item) ≡ true) items) (map (in_slot Explore slot) blocks)
  in_slot_of slot =
      all_map (λ items. AllByRecursion (λ item. is_same_slot slot (slot_of Explore item) ≡ true) items) (λ items. Unit {0}) (in_slot Explore slot)
      (λ items is.
      all_more (λ item. Unit {0} × (is_same_slot slot (slot_of Explore item) ≡ true)) (λ item. is_same_slot slot (slot_of Explore item) ≡ true) (λ item h. h.1) (in_slot Explore slot items)
      (all_kept (λ item. Unit {0}) (λ item. is_same_slot slot (slot_of Explore item)) items (true_all items))) blocks (true_all blocks)

  flat_in_slot : (slot : Slot) → AllByRecursion (λ item. is_same_slot slot (slot_of Explore item) ≡ true) (flat_map (in_slot Explore slot) blocks)
  flat_in_slot slot =
      all_flat (λ item. is_same_slot slot (slot_of Explore item) ≡ true) (λ items. Unit {0}) (in_slot Explore slot)
      (λ items is.
      all_more (λ item. Unit {0} × (is_same_slot slot (slot_of Explore item) ≡ true)) (λ item. is_same_slot slot (slot_of Explore item) ≡ true) (λ item h. h.1) (in_slot Explore slot items)
      (all_kept (λ item. Unit {0}) (λ item. is_same_slot slot (slot_of Explore item)) items (true_all items))) blocks (true_all blocks)

  has_name : (slot : Slot) → SlotFine slot → HasName blocks slot
  has_name (Parameter name) is =
      inl (no_names (last_given (map (in_slot Explore (Parameter name)) blocks))
      (last_no_join (map (in_slot Explore (Parameter name)) blocks)
      (all_more (λ items. AllByRecursion (λ item. is_same_slot (Parameter name) (slot_of Explore item) ≡ true) items) (λ items. AllByRecursion IsNoJoin items)
      (λ items h. all_more (λ item. is_same_slot (Parameter name) (slot_of Explore item) ≡ true) IsNoJoin (parameter_no_join name) items h) (map (in_slot Explore (Parameter name)) blocks) (in_slot_of (Parameter name)))))
  has_name (Child name title) is =
      ⊎_elim (λ none. inl none) (λ one. inr (title, one.0, one.1)) (child_name name title (flat_map (in_slot Explore (Child name title)) blocks) (flat_in_slot (Child name title)))
  has_name (Alone item) is = inl (no_names (item ∷ []) (is, tt))

  -- ---- each slot stands once

  abbrev AreOnce : List Slot → Type 0
  AreOnce [] = Unit {0}
  AreOnce (x ∷ xs) = AllByRecursion (λ y. is_same_slot y x ≡ false) xs × AreOnce xs

  kept_once : (keep : Slot → Bool) (xs : List Slot) → AreOnce xs → AreOnce (filter keep xs)
  kept_once keep [] h = tt
  kept_once keep (x ∷ xs) h =
      elim (keep x) as (λ b. AreOnce (if b then x ∷ filter keep xs else filter keep xs)) [
        | true ↦ (all_filter (λ y. is_same_slot y x ≡ false) keep xs h.0, kept_once keep xs h.1)
        | false ↦ kept_once keep xs h.1
      ]

  none_so : (b : Bool) → not b ≡ true → b ≡ false
  none_so true h = sym h
  none_so false h = refl

  firsts_once : (xs : List Slot) → AreOnce (firsts is_same_slot xs)
  firsts_once [] = tt
  firsts_once (x ∷ xs) = (
    all_more (λ y. Unit {0} × (not (is_same_slot y x) ≡ true)) (λ y. is_same_slot y x ≡ false) (λ y h. none_so (is_same_slot y x) h.1) (filter (λ y. not (is_same_slot y x)) (firsts is_same_slot xs))
        (all_kept (λ y. Unit {0}) (λ y. not (is_same_slot y x)) (firsts is_same_slot xs) (true_all (firsts is_same_slot xs))),
    kept_once (λ y. not (is_same_slot y x)) (firsts is_same_slot xs) (firsts_once xs),
  )

  abbrev names_of : Slot → List (List ℕ)
  names_of slot = join_names (filled Explore blocks slot)

  other_name : (x : Slot) (t : List ℕ) → x ≡ Child (codes "join") t → (xs : List Slot) → AllByRecursion (λ y. is_same_slot y x ≡ false) xs → AllByRecursion (HasName blocks) xs
      → list_any (is_same_text t) (flat_map names_of xs) ≡ false
  other_name x t is [] apart h = refl
  other_name x t is (y ∷ xs) apart h =
      ⊎_elim (λ none. ap (λ names. list_any (is_same_text t) (names ++ flat_map names_of xs)) none ∙ other_name x t is xs apart.1 h.1)
      (λ one. ap (λ names. list_any (is_same_text t) (names ++ flat_map names_of xs)) one.2
      ∙ (λ i. differ one.0 one.1 (is_same_text t one.0) refl i || other_name x t is xs apart.1 h.1 i)) h.0
    where
      differ : (u : List ℕ) → y ≡ Child (codes "join") u → (b : Bool) → is_same_text t u ≡ b → is_same_text t u ≡ false
      differ u slot true same =
          absurd (false≢true (sym apart.0 ∙ ((λ i. is_same_slot (slot i) (is i)) ∙ ap (λ v. is_same_slot (Child (codes "join") u) (Child (codes "join") v)) (text.same_exact t u same) ∙ both (is_same_text (codes "join") (codes "join")) (is_same_text u u) refl (text.same_itself u))))
      differ u slot false same = same

  all_distinct : (xs : List Slot) → AreOnce xs → AllByRecursion (HasName blocks) xs → are_distinct (flat_map names_of xs) ≡ true
  all_distinct [] once h = refl
  all_distinct (x ∷ xs) once h =
      ⊎_elim (λ none. ap (λ names. are_distinct (names ++ flat_map names_of xs)) none ∙ all_distinct xs once.1 h.1)
      (λ one. ap (λ names. are_distinct (names ++ flat_map names_of xs)) one.2
      ∙ both (not (list_any (is_same_text one.0) (flat_map names_of xs))) (are_distinct (flat_map names_of xs)) (ap not (other_name x one.0 one.1 xs once.0 h.1)) (all_distinct xs once.1 h.1)) h.0

  slots_fine : AllByRecursion SlotFine (slots_in Explore blocks)
  slots_fine =
      all_firsts Explore SlotFine is_same_slot (flat_map (map (slot_of Explore)) blocks)
      (all_flat SlotFine (λ items. Unit {0}) (map (slot_of Explore)) (λ items is. all_map SlotFine (λ item. Unit {0}) (slot_of Explore) (λ item is. slot_fine item) items (true_all items)) blocks (true_all blocks))

  -- the joins of an explore
  pub merged_joins : are_distinct (join_names (merged Explore blocks)) ≡ true
  merged_joins =
      ap are_distinct (names_flat (filled Explore blocks) (slots_in Explore blocks))
      ∙ all_distinct (slots_in Explore blocks) (firsts_once (flat_map (map (slot_of Explore)) blocks)) (all_more SlotFine (HasName blocks) has_name (slots_in Explore blocks) slots_fine)
