-- Children of one name in steps: what some of them come to may stand in their place.
use Rattle.std.proofs.Common.{◌≡◌, ◌∙◌, ℕ, List, [], ◌∷◌, ◌++◌, map, refl, sym, ap}
use Rattle.std.specs.Prelude.{Option}
use Rattle.std.specs.List.{AllByRecursion, filter, flat_map}
use Rattle.std.specs.Cmp.Lexicographic.{nat_list_eq_equiv}
use Rattle.std.proofs.lemmas.List.{map-append}
use Rattle.lk_val.specs.Texts.{is_same_text}
use Rattle.lk_read.specs.Outline.{Outline}
use Rattle.lk_read.specs.declared.tree.Item.{Item}
use Rattle.lk_read.specs.declared.tree.Node.{Node}
use Rattle.lk_read.specs.declared.tree.Node.TheVariants as node
use Rattle.lk_params.specs.Parameters.{named}
use Rattle.lk_params.specs.Picking.{last_given}
use Rattle.lk_params.specs.Overlay.{names_in, overlaid}
use Rattle.lk_params.proofs.ItemLaws.{items_of_outline}
use Rattle.lk_params.proofs.Steps.{text_exact}
use Rattle.lk_overlay.specs.Overlay.{inner_of, with_inner, merged_child}
use Rattle.lk_overlay.proofs.TextLaws.{same_itself}
use Rattle.lk_overlay.proofs.LayLaws.{in_slot, slots, laid, last, laid_within, last_fills, last_absent, last_middle, all_there, all_mapped}

abbrev name_of : Item → List ℕ
name_of item = item.name

named_is : (name : List ℕ) (items : List Item) → named name items ≡ in_slot name_of is_same_text text_exact name items
named_is name items = ap (λ test. filter test items) (λ i item. nat_list_eq_equiv.symm item.name name i)

abbrev by_last : List (List Item) → List Item
by_last = laid name_of is_same_text text_exact (last name_of is_same_text text_exact)

overlaid_is : (blocks : List (List Item)) → overlaid blocks ≡ by_last blocks
overlaid_is blocks = λ i. flat_map (λ name. last_given (map (λ items. named_is name items i) blocks)) (names_in blocks)

laid_middle : (front blocks behind : List (List Item)) → by_last (front ++ by_last blocks ∷ behind) ≡ by_last (front ++ blocks ++ behind)
laid_middle =
    laid_within name_of is_same_text text_exact (last name_of is_same_text text_exact)
    (λ blocks. all_mapped (λ d there. last_fills name_of is_same_text text_exact d blocks (there (same_itself d)))
    (slots name_of is_same_text text_exact blocks) (all_there is_same_text (slots name_of is_same_text text_exact blocks)))
    (λ blocks s itself e. last_absent name_of is_same_text text_exact s blocks e)
    (λ front blocks behind s h. last_middle name_of is_same_text text_exact s front blocks behind (by_last blocks) (h (same_itself s)))

overlaid_within : (front blocks behind : List (List Item)) → overlaid (front ++ overlaid blocks ∷ behind) ≡ overlaid (front ++ blocks ++ behind)
overlaid_within front blocks behind =
    overlaid_is (front ++ overlaid blocks ∷ behind)
    ∙ ap (λ t. by_last (front ++ t ∷ behind)) (overlaid_is blocks)
    ∙ laid_middle front blocks behind
    ∙ sym (overlaid_is (front ++ blocks ++ behind))

-- ---- children

abbrev pub IsBlock : Node → Type 0
IsBlock value = (title : Option (List ℕ)) × (inner : Outline) × (value ≡ node.Block title inner)

inner_again : (value : Node) (items : List Item) → IsBlock value → inner_of (with_inner value items) ≡ items
inner_again value items b = ap (λ v. inner_of (with_inner v items)) b.2 ∙ items_of_outline items

with_again : (value : Node) (items more : List Item) → with_inner (with_inner value items) more ≡ with_inner value more
with_again (node.Word text) items more = refl
with_again (node.Quoted text) items more = refl
with_again (node.List entries) items more = refl
with_again (node.Block title inner) items more = refl
with_again (node.Code text) items more = refl

abbrev inner : Item → List Item
inner item = inner_of item.value

-- the first child with what all come to
abbrev pub as_one : Item → List (List Item) → Item
as_one item blocks = record { name = item.name; value = with_inner item.value (overlaid blocks); place = item.place }

pub child_within : (front some behind : List Item) → AllByRecursion (λ item. IsBlock item.value) some
    → merged_child (front ++ merged_child some ++ behind) ≡ merged_child (front ++ some ++ behind)
child_within front [] behind all = refl
child_within [] (q ∷ qs) behind all =
    (λ i. record {
      name = q.name;
      value = (with_again q.value (overlaid (map inner (q ∷ qs))) (overlaid (inner (as_one q (map inner (q ∷ qs))) ∷ map inner behind))
          ∙ ap (with_inner q.value) (ap (λ t. overlaid (t ∷ map inner behind)) (inner_again q.value (overlaid (map inner (q ∷ qs))) all.0)
          ∙ overlaid_within [] (map inner (q ∷ qs)) (map inner behind)
          ∙ ap overlaid (sym (map-append inner (q ∷ qs) behind)))) i;
      place = q.place;
    } ∷ [])
child_within (p ∷ front) (q ∷ qs) behind all =
    (λ i. record {
      name = p.name;
      value = with_inner p.value ((ap overlaid (map-append inner (p ∷ front ++ as_one q (map inner (q ∷ qs)) ∷ []) behind
          ∙ ap (λ t. t ++ map inner behind) (map-append inner (p ∷ front) (as_one q (map inner (q ∷ qs)) ∷ [])))
          ∙ ap (λ t. overlaid (map inner (p ∷ front) ++ t ∷ [] ++ map inner behind)) (inner_again q.value (overlaid (map inner (q ∷ qs))) all.0)
          ∙ whole (map inner (p ∷ front)) (map inner (q ∷ qs)) (map inner behind)
          ∙ ap overlaid (sym (map-append inner (p ∷ front ++ q ∷ qs) behind ∙ ap (λ t. t ++ map inner behind) (map-append inner (p ∷ front) (q ∷ qs))))) i);
      place = p.place;
    } ∷ [])
  where
    whole : (a b c : List (List Item)) → overlaid (a ++ overlaid b ∷ [] ++ c) ≡ overlaid (a ++ b ++ c)
    whole a b c = ap overlaid (append_one a (overlaid b) c) ∙ overlaid_within a b c where
      append_one : (xs : List (List Item)) (y : List Item) (zs : List (List Item)) → xs ++ y ∷ [] ++ zs ≡ xs ++ y ∷ zs
      append_one [] y zs = refl
      append_one (x ∷ xs) y zs = ap (λ t. x ∷ t) (append_one xs y zs)
