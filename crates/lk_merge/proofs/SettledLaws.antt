-- Where each name's number is above those of its bases, what an object hands on is settled once chains are longer than it.
use Rattle.std.proofs.Common.{◌≡◌, ◌∙◌, ◌<◌, ℕ, zero, suc, true, false, ◌||◌, List, [], ◌∷◌, ◌++◌, length, Option, Some, None, refl, sym, ap, subst, arith}
use Rattle.std.specs.Prelude.{map, nat_lt, if◌then◌else◌}
use Rattle.std.specs.List.{flat_map, list_all}
use Rattle.std.proofs.lemmas.Bool.{false≢true}
use Rattle.std.proofs.lemmas.Bool.Decides.{nat_tests}
use Rattle.lk_val.specs.Least.{is_in}
use Rattle.lk_val.specs.Texts.{is_same_text}
use Rattle.lk_params.proofs.Steps.{text_exact}
use Rattle.lk_read.specs.declared.tree.Item.{Item}
use Rattle.lk_overlay.specs.declared.kind.Kind.{Kind}
use Rattle.lk_merge.specs.declared.declaration.Declaration.{Declaration}
use Rattle.lk_merge.specs.Objects.{bases_of, contributors, own, handed_on, handed_within, kept}
use Rattle.lk_overlay.specs.Overlay.{merged}
use Rattle.lk_merge.specs.Ranks.{rank_in, is_below, descends, do_descend}
use Rattle.lk_merge.specs.Rows.{row_of}
use Rattle.lk_merge.proofs.RankLaws.{split_and, or_later, all_of}
use Rattle.lk_overlay.proofs.TextLaws.{same_itself}
use Rattle.lk_overlay.proofs.MergeLaws.{merged_by_each}

-- a name that has a number is there
ranked_there : (names : List (List ℕ)) (ranks : List ℕ) (name : List ℕ) (r : ℕ) → rank_in names ranks name ≡ Some r → is_in is_same_text name names ≡ true
ranked_there [] ranks name r e = absurd (never e) where
  never : None ≡ Some r → ⊥
  never t = cc t
ranked_there (first ∷ names) [] name r e = absurd (never e) where
  never : None ≡ Some r → ⊥
  never t = cc t
ranked_there (first ∷ names) (rank ∷ ranks) name r e =
    elim (is_same_text first name) as (λ b. is_same_text first name ≡ b → (if b then Some rank else rank_in names ranks name) ≡ Some r → is_in is_same_text name (first ∷ names) ≡ true) [
      | true ↦ λ s t. ap (λ b. b || is_in is_same_text name names) (subst (λ z. is_same_text name z ≡ true) (sym (text_exact first name s)) (same_itself name))
      | false ↦ λ s t. or_later (is_same_text name first) (is_in is_same_text name names) (ranked_there names ranks name r t)
    ] refl e

below_some : (a : Option ℕ) (r : ℕ) → is_below a (Some r) ≡ true → (b : ℕ) × (a ≡ Some b) × (b < r)
below_some None r h = absurd (false≢true h)
below_some (Some b) r h = (b, refl, lower b r h) where
  lower : (b r : ℕ) → nat_lt b r ≡ true → b < r
  lower b r h = grind (arith, nat_tests)

module _ (all : List Declaration) (k : Kind) (names : List (List ℕ)) (ranks : List ℕ) (h : do_descend all k names ranks names ≡ true) where
  abbrev rank : List ℕ → Option ℕ
  rank = rank_in names ranks

  falls : (name : List ℕ) (r : ℕ) → rank name ≡ Some r → list_all (λ base. is_below (rank base) (Some r)) (bases_of all k name) ≡ true
  falls name r e =
      subst (λ o. list_all (λ base. is_below (rank base) o) (bases_of all k name) ≡ true) e
      (all_of (λ name. descends names ranks name (bases_of all k name)) names h name (ranked_there names ranks name r e))

  -- what holds at each lower number holds for all bases
  each_settled : (n m r : ℕ) → ((base : List ℕ) (b : ℕ) → rank base ≡ Some b → b < r → handed_within all k n base ≡ handed_within all k m base)
      → (bases : List (List ℕ)) → list_all (λ base. is_below (rank base) (Some r)) bases ≡ true
      → flat_map (handed_within all k n) bases ≡ flat_map (handed_within all k m) bases
  each_settled n m r settles [] t = refl
  each_settled n m r settles (base ∷ bases) t =
      let parts = split_and (is_below (rank base) (Some r)) (list_all (λ base. is_below (rank base) (Some r)) bases) t in
      let below = below_some (rank base) r parts.0 in
      let first = settles base below.0 below.1 below.2 in
      let rest = each_settled n m r settles bases parts.1 in
      λ i. first i ++ rest i

  settled : (n : ℕ) (name : List ℕ) (r : ℕ) → rank name ≡ Some r → r < n → handed_within all k n name ≡ handed_within all k (suc n) name
  settled zero name r e lt = absurd (omega (arith, lt))
  settled (suc n) name r e lt =
      ap (λ t. t ++ map handed_on (own all k name))
      (each_settled n (suc n) r (λ base b is below. settled n base b is (omega (arith, lt, below))) (bases_of all k name) (falls name r e))

  -- what a name hands on from what its bases hand on
  pub handed_settled : (n : ℕ) (name : List ℕ) (r : ℕ) → rank name ≡ Some r → r < n
      → handed_within all k n name ≡ flat_map (handed_within all k n) (bases_of all k name) ++ map handed_on (own all k name)
  handed_settled zero name r e lt = absurd (omega (arith, lt))
  handed_settled (suc n) name r e lt =
      ap (λ t. t ++ map handed_on (own all k name))
      (each_settled n (suc n) r (λ base b is below. settled n base b is (omega (arith, lt, below))) (bases_of all k name) (falls name r e))

  pub row_settled : (name : List ℕ) (r : ℕ) → rank name ≡ Some r → r < length all
      → merged k (map (row_of all k) (bases_of all k name) ++ map handed_on (own all k name)) ≡ row_of all k name
  row_settled name r e lt =
      merged_by_each k (handed_within all k (length all)) [] (bases_of all k name) (map handed_on (own all k name))
      ∙ ap (merged k) (sym (handed_settled (length all) name r e lt))

  -- a row that is made of its bases' rows
  pub row_made : (name : List ℕ) (r : ℕ) → rank name ≡ Some r → r < length all
      → (w : List Item) (blocks inherited more : List (List Item)) (given : List (List ℕ))
      → w ≡ merged k blocks → blocks ≡ inherited ++ more → inherited ≡ map (row_of all k) given → given ≡ bases_of all k name
      → more ≡ map handed_on (own all k name) → w ≡ row_of all k name
  row_made name r e lt w blocks inherited more given this both rows bases mine =
      this
      ∙ ap (merged k) (both ∙ (λ i. (rows ∙ ap (map (row_of all k)) bases) i ++ mine i))
      ∙ row_settled name r e lt

-- the parameters of an object, made of its bases' rows
pub items_made : (all : List Declaration) (k : Kind) (name : List ℕ) (blocks inherited more : List (List Item)) (given : List (List ℕ))
    → blocks ≡ inherited ++ more → inherited ≡ map (row_of all k) given → given ≡ bases_of all k name
    → more ≡ map kept (own all k name) → merged k blocks ≡ merged k (contributors all k name)
items_made all k name blocks inherited more given both rows bases mine =
    ap (merged k) (both ∙ (λ i. (rows ∙ ap (map (row_of all k)) bases) i ++ mine i))
    ∙ merged_by_each k (handed_within all k (length all)) [] (bases_of all k name) (map kept (own all k name))
