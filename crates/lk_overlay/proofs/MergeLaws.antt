-- Merging in steps: what some contributors come to may stand in their place.
use Rattle.std.proofs.Common.{◌≡◌, ◌∙◌, ℕ, true, false, ◌&&◌, List, [], ◌∷◌, ◌++◌, map, refl, sym, ap, subst, append_assoc}
use Rattle.std.specs.Prelude.{Some, None, if◌then◌else◌}
use Rattle.std.specs.List.{AllByRecursion, flat_map, list_any}
use Rattle.std.proofs.lemmas.Bool.{false≢true}
use Rattle.std.proofs.lemmas.List.Concat.{flat_map-append}
use Rattle.lk_read.specs.declared.tree.Item.{Item}
use Rattle.lk_read.specs.declared.tree.Node.{Node}
use Rattle.lk_read.specs.declared.tree.Node.TheVariants as node
use Rattle.lk_overlay.specs.declared.kind.Kind.{Kind}
use Rattle.lk_overlay.specs.declared.slot.Slot.{Slot}
use Rattle.lk_overlay.specs.declared.slot.Slot.TheVariants.{Parameter, Child, Alone}
use Rattle.lk_overlay.specs.Overlay.{is_same_slot, merges, accumulates, slot_alone, slot_at, slot_of, in_slot, inner_of, with_inner, merged_child, filled, merged}
use Rattle.lk_overlay.proofs.TextLaws.{same_itself}
use Rattle.lk_overlay.proofs.SlotLaws.{slot_exact}
use Rattle.lk_overlay.proofs.ChildLaws.{IsBlock, as_one, child_within}
use Rattle.lk_overlay.proofs.LayLaws.{Fills, slots, laid_within, last_fills, last_absent, last_middle, fills_all, all_of_absent, all_of_all, all_of_none, all_there, all_mapped, all_zipped, all_from}

module _ (k : Kind) where
  never_child : (item : Item) (n t : List ℕ) → slot_alone k item ≡ Child n t → ⊥
  never_child item n t e =
      elim (accumulates k item.name) as (λ b. (if b then Alone item else Parameter item.name) ≡ Child n t → ⊥) [
        | true ↦ λ h. cc h
        | false ↦ λ h. cc h
      ] e

  never_same_child : (item : Item) (n t : List ℕ) → is_same_slot (slot_alone k item) (Child n t) ≡ true → ⊥
  never_same_child item n t e =
      elim (accumulates k item.name) as (λ b. is_same_slot (if b then Alone item else Parameter item.name) (Child n t) ≡ true → ⊥) [
        | true ↦ λ h. false≢true h
        | false ↦ λ h. false≢true h
      ] e

  -- a child's value is a block
  block_at : (item : Item) (value : Node) (n t : List ℕ) → is_same_slot (slot_at k item value) (Child n t) ≡ true → IsBlock value
  block_at item (node.Block title inner) n t e = (title, inner, refl)
  block_at item (node.Word text) n t e = absurd (never_same_child item n t e)
  block_at item (node.Quoted text) n t e = absurd (never_same_child item n t e)
  block_at item (node.List entries) n t e = absurd (never_same_child item n t e)
  block_at item (node.Code text) n t e = absurd (never_same_child item n t e)

  -- what children come to goes to their slot
  child_at : (item : Item) (value : Node) (blocks : List Item) (place : ℕ) (n t : List ℕ) → slot_at k item value ≡ Child n t
      → slot_at k (record { name = item.name; value = with_inner value blocks; place = place }) (with_inner value blocks) ≡ Child n t
  child_at item (node.Block (Some title) inner) blocks place n t e =
      elim (merges k item.name) as (λ b. (if b then Child item.name title else slot_alone k item) ≡ Child n t
      → (if b then Child item.name title else slot_alone k (record { name = item.name; value = with_inner (node.Block (Some title) inner) blocks; place = place })) ≡ Child n t) [
        | true ↦ λ h. h
        | false ↦ λ h. absurd (never_child item n t h)
      ] e
  child_at item (node.Block None inner) blocks place n t e = absurd (never_child item n t e)
  child_at item (node.Word text) blocks place n t e = absurd (never_child item n t e)
  child_at item (node.Quoted text) blocks place n t e = absurd (never_child item n t e)
  child_at item (node.List entries) blocks place n t e = absurd (never_child item n t e)
  child_at item (node.Code text) blocks place n t e = absurd (never_child item n t e)

  -- an item that stays alone has a slot of its own
  alone_in : (one item : Item) → slot_alone k one ≡ Alone item → one ≡ item
  alone_in one item e =
      elim (accumulates k one.name) as (λ b. (if b then Alone one else Parameter one.name) ≡ Alone item → one ≡ item) [
        | true ↦ λ h. cc h
        | false ↦ λ h. absurd (never h)
      ] e
    where
      never : Parameter one.name ≡ Alone item → ⊥
      never h = cc h

  alone_at : (one item : Item) (value : Node) → slot_at k one value ≡ Alone item → one ≡ item
  alone_at one item (node.Block (Some title) inner) e =
      elim (merges k one.name) as (λ b. (if b then Child one.name title else slot_alone k one) ≡ Alone item → one ≡ item) [
        | true ↦ λ h. absurd (never h)
        | false ↦ λ h. alone_in one item h
      ] e
    where
      never : Child one.name title ≡ Alone item → ⊥
      never h = cc h
  alone_at one item (node.Block None inner) e = alone_in one item e
  alone_at one item (node.Word text) e = alone_in one item e
  alone_at one item (node.Quoted text) e = alone_in one item e
  alone_at one item (node.List entries) e = alone_in one item e
  alone_at one item (node.Code text) e = alone_in one item e

  abbrev of_blocks : List (List Item) → List Slot
  of_blocks = slots (slot_of k) is_same_slot slot_exact

  same_child : (n t : List ℕ) → is_same_slot (Child n t) (Child n t) ≡ true
  same_child n t = λ i. same_itself n i && same_itself t i

  fills_child : (n t : List ℕ) (items : List Item) → Fills (slot_of k) is_same_slot slot_exact (Child n t) items
      → Fills (slot_of k) is_same_slot slot_exact (Child n t) (merged_child items)
  fills_child n t items f =
      let one = as_one f.0 (map (λ (i : Item). inner_of i.value) (f.0 ∷ f.1)) in
      (one, [], ap merged_child f.2, child_at f.0 f.0.value _ f.0.place n t f.3, tt)

  fills_slot : (blocks : List (List Item)) (d : Slot) → ((i : Item) × (slot_of k i ≡ d))
      → (is_same_slot d d ≡ true → list_any (is_same_slot d) (of_blocks blocks) ≡ true)
      → Fills (slot_of k) is_same_slot slot_exact d (filled k blocks d)
  fills_slot blocks (Parameter n) from there =
      last_fills (slot_of k) is_same_slot slot_exact (Parameter n) blocks (there (same_itself n))
  fills_slot blocks (Child n t) from there =
      fills_child n t (flat_map (in_slot k (Child n t)) blocks)
      (fills_all (slot_of k) is_same_slot slot_exact (Child n t) (flat_map (in_slot k (Child n t)) blocks)
      (all_of_all (slot_of k) is_same_slot slot_exact (Child n t) blocks)
      (λ none. false≢true (sym (all_of_none (slot_of k) is_same_slot slot_exact (Child n t) blocks none) ∙ there (same_child n t))))
  fills_slot blocks (Alone item) from there =
      (item, [], refl, subst (λ (one : Item). slot_of k one ≡ Alone item) (alone_at from.0 item from.0.value from.1) from.1, tt)

  absent_slot : (blocks : List (List Item)) (s : Slot) → is_same_slot s s ≡ true → list_any (is_same_slot s) (of_blocks blocks) ≡ false → filled k blocks s ≡ []
  absent_slot blocks (Parameter n) itself e = last_absent (slot_of k) is_same_slot slot_exact (Parameter n) blocks e
  absent_slot blocks (Child n t) itself e = ap merged_child (all_of_absent (slot_of k) is_same_slot slot_exact (Child n t) blocks e)
  absent_slot blocks (Alone item) itself e = absurd (false≢true itself)

  all_blocks : (n t : List ℕ) (items : List Item) → AllByRecursion (λ j. is_same_slot (slot_of k j) (Child n t) ≡ true) items → AllByRecursion (λ (item : Item). IsBlock item.value) items
  all_blocks n t = all_mapped (λ (item : Item) e. block_at item item.value n t e)

  middle_slot : (front blocks behind : List (List Item)) (s : Slot) → (is_same_slot s s ≡ true → in_slot k s (merged k blocks) ≡ filled k blocks s)
      → filled k (front ++ merged k blocks ∷ behind) s ≡ filled k (front ++ blocks ++ behind) s
  middle_slot front blocks behind (Parameter n) h =
      last_middle (slot_of k) is_same_slot slot_exact (Parameter n) front blocks behind (merged k blocks) (h (same_itself n))
  middle_slot front blocks behind (Child n t) h =
      ap merged_child (flat_map-append (in_slot k (Child n t)) front (merged k blocks ∷ behind)
      ∙ ap (λ x. flat_map (in_slot k (Child n t)) front ++ (x ++ flat_map (in_slot k (Child n t)) behind)) (h (same_child n t))
      ∙ sym (append_assoc (flat_map (in_slot k (Child n t)) front) (filled k blocks (Child n t)) (flat_map (in_slot k (Child n t)) behind)))
      ∙ child_within (flat_map (in_slot k (Child n t)) front) (flat_map (in_slot k (Child n t)) blocks) (flat_map (in_slot k (Child n t)) behind)
      (all_blocks n t (flat_map (in_slot k (Child n t)) blocks) (all_of_all (slot_of k) is_same_slot slot_exact (Child n t) blocks))
      ∙ ap merged_child (sym (flat_map-append (in_slot k (Child n t)) (front ++ blocks) behind
      ∙ ap (λ x. x ++ flat_map (in_slot k (Child n t)) behind) (flat_map-append (in_slot k (Child n t)) front blocks)))
  middle_slot front blocks behind (Alone item) h = refl

  pub merged_within : (front blocks behind : List (List Item)) → merged k (front ++ merged k blocks ∷ behind) ≡ merged k (front ++ blocks ++ behind)
  merged_within =
      laid_within (slot_of k) is_same_slot slot_exact (filled k)
      (λ blocks. all_mapped (λ d both. fills_slot blocks d both.0 both.1) (of_blocks blocks)
      (all_zipped (λ d. (i : Item) × (slot_of k i ≡ d)) (λ d. is_same_slot d d ≡ true → list_any (is_same_slot d) (of_blocks blocks) ≡ true)
      (of_blocks blocks) (all_from (slot_of k) is_same_slot slot_exact blocks) (all_there is_same_slot (of_blocks blocks))))
      absent_slot middle_slot

  -- what each of some objects gives may stand for its contributors
  pub merged_by_each : (f : List ℕ → List (List Item)) (front : List (List Item)) (names : List (List ℕ)) (behind : List (List Item))
      → merged k (front ++ map (λ name. merged k (f name)) names ++ behind) ≡ merged k (front ++ flat_map f names ++ behind)
  merged_by_each f front [] behind = refl
  merged_by_each f front (name ∷ names) behind =
      ap (merged k) (append_assoc front (merged k (f name) ∷ map (λ name. merged k (f name)) names) behind)
      ∙ merged_within front (f name) (map (λ name. merged k (f name)) names ++ behind)
      ∙ ap (merged k) (sym (append_assoc (front ++ f name) (map (λ name. merged k (f name)) names) behind))
      ∙ merged_by_each f (front ++ f name) names behind
      ∙ ap (λ x. merged k (x ++ behind)) (append_assoc front (f name) (flat_map f names))
