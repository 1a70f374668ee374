-- Merging in steps: what some of the blocks come to may stand in their place. An item goes to a slot, and a slot is filled
-- by the items of all blocks that go to it.
use Rattle.std.proofs.Common.{◌≡◌, ◌∙◌, Bool, true, false, cond, ◌||◌, List, [], ◌∷◌, ◌++◌, map, refl, sym, ap, subst, append-nil}
use Rattle.std.specs.Prelude.{not, if◌then◌else◌}
use Rattle.std.specs.List.{AllByRecursion, filter, flat_map, fold, list_any}
use Rattle.std.proofs.lemmas.Bool.{false≢true}
use Rattle.std.proofs.lemmas.List.{map-append}
use Rattle.std.proofs.lemmas.List.Concat.{flat_map-append}
use Rattle.std.proofs.lemmas.List.Elements.{filter-append}
use Rattle.std.proofs.lemmas.List.Folds.{list_any-append}
use Rattle.std.proofs.lemmas.Grind.{fold-append}
use Rattle.lk_params.specs.Picking.{firsts, with_new, or_list, last_given}
use Rattle.lk_params.proofs.FirstLaws.{folded_once}

-- what holds of all
pub all_mapped : {A : Type 0} {P Q : A → Type 0} → ((x : A) → P x → Q x) → (xs : List A) → AllByRecursion P xs → AllByRecursion Q xs
all_mapped f [] all = tt
all_mapped f (x ∷ xs) all = (f x all.0, all_mapped f xs all.1)

pub all_zipped : {A : Type 0} (P Q : A → Type 0) (xs : List A) → AllByRecursion P xs → AllByRecursion Q xs → AllByRecursion (λ x. P x × Q x) xs
all_zipped P Q [] p q = tt
all_zipped P Q (x ∷ xs) p q = ((p.0, q.0), all_zipped P Q xs p.1 q.1)

all_filtered : {A : Type 0} (P : A → Type 0) (test : A → Bool) (xs : List A) → AllByRecursion P xs → AllByRecursion P (filter test xs)
all_filtered P test [] all = tt
all_filtered P test (x ∷ xs) all =
    elim (test x) as (λ b. AllByRecursion P (cond b (x ∷ filter test xs) (filter test xs))) [
      | true ↦ (all.0, all_filtered P test xs all.1)
      | false ↦ all_filtered P test xs all.1
    ]

all_firsts : {A : Type 0} (P : A → Type 0) (same : A → A → Bool) (xs : List A) → AllByRecursion P xs → AllByRecursion P (firsts same xs)
all_firsts P same [] all = tt
all_firsts P same (x ∷ xs) all = (all.0, all_filtered P (λ y. not (same y x)) (firsts same xs) (all_firsts P same xs all.1))

map-flat_map : {A B C : Type 0} (f : B → C) (g : A → List B) (xs : List A) → map f (flat_map g xs) ≡ flat_map (λ x. map f (g x)) xs
map-flat_map f g [] = refl
map-flat_map f g (x ∷ xs) = map-append f (g x) (flat_map g xs) ∙ ap (λ t. map f (g x) ++ t) (map-flat_map f g xs)

filter-flat_map : {A B : Type 0} (test : B → Bool) (g : A → List B) (xs : List A) → filter test (flat_map g xs) ≡ flat_map (λ x. filter test (g x)) xs
filter-flat_map test g [] = refl
filter-flat_map test g (x ∷ xs) = filter-append test (g x) (flat_map g xs) ∙ ap (λ t. filter test (g x) ++ t) (filter-flat_map test g xs)

or_true : (a : Bool) → (a || true) ≡ true
or_true true = refl
or_true false = refl

-- each of a list is there
pub all_there : {A : Type 0} (same : A → A → Bool) (xs : List A) → AllByRecursion (λ d. same d d ≡ true → list_any (same d) xs ≡ true) xs
all_there same [] = tt
all_there same (x ∷ xs) = (
  λ s. ap (λ b. b || list_any (same x) xs) s,
  all_mapped (λ d there s. ap (λ b. same d x || b) (there s) ∙ or_true (same d x)) xs (all_there same xs),
)

module _ {S : Type 0} (same : S → S → Bool) (exact : (a b : S) → same a b ≡ true → a ≡ b) where
  abbrev add : List S → S → List S
  add = with_new same

  abbrev among : S → List S → Bool
  among x known = list_any (same x) known

  known_more : (known : List S) (y z : S) → among y known ≡ true → among y (add known z) ≡ true
  known_more known y z h =
      elim (among z known) as (λ b. among y (if b then known else known ++ z ∷ []) ≡ true) [
        | true ↦ h
        | false ↦ list_any-append (same y) known (z ∷ []) ∙ ap (λ b. b || (same y z || false)) h
      ]

  itself_known : (known : List S) (x : S) → same x x ≡ true → among x (add known x) ≡ true
  itself_known known x s =
      elim (among x known) as (λ b. among x known ≡ b → among x (if b then known else known ++ x ∷ []) ≡ true) [
        | true ↦ λ h. h
        | false ↦ λ h. list_any-append (same x) known (x ∷ []) ∙ (λ i. h i || (s i || false))
      ] refl

  skipped : (known : List S) (x : S) → among x known ≡ true → add known x ≡ known
  skipped known x h = ap (λ b. if b then known else known ++ x ∷ []) h

  -- a slot, once or again and again
  abbrev Repeats : S → List S → Type 0
  Repeats x ys = (gs : List S) × (ys ≡ x ∷ gs) × AllByRecursion (λ y. same y x ≡ true) gs

  itself : (y x : S) → same y x ≡ true → same x x ≡ true
  itself y x s = subst (λ z. same z x ≡ true) (exact y x s) s

  known_again : (known gs : List S) (x : S) → among x known ≡ true → AllByRecursion (λ y. same y x ≡ true) gs → fold add known gs ≡ known
  known_again known [] x h all = refl
  known_again known (y ∷ gs) x h all =
      ap (λ t. fold add t gs) (skipped known y (subst (λ z. among z known ≡ true) (sym (exact y x all.0)) h))
      ∙ known_again known gs x h all.1

  repeated : (known : List S) (x : S) (ys : List S) → Repeats x ys → fold add known ys ≡ add known x
  repeated known x ys r = ap (fold add known) r.1 ∙ again r.0 r.2 where
    again : (gs : List S) → AllByRecursion (λ y. same y x ≡ true) gs → fold add (add known x) gs ≡ add known x
    again [] all = refl
    again (y ∷ gs) all = known_again (add known x) (y ∷ gs) x (itself_known known x (itself y x all.0)) all

  all_repeated : (g : S → List S) (known xs : List S) → AllByRecursion (λ x. Repeats x (g x)) xs → fold add known (flat_map g xs) ≡ fold add known xs
  all_repeated g known [] all = refl
  all_repeated g known (x ∷ xs) all =
      fold-append add known (g x) (flat_map g xs)
      ∙ ap (λ t. fold add t (flat_map g xs)) (repeated known x (g x) all.0)
      ∙ all_repeated g (add known x) xs all.1

  filter_known : (known : List S) (x : S) (ys : List S) → (same x x ≡ true → among x known ≡ true) → fold add known (filter (λ y. not (same y x)) ys) ≡ fold add known ys
  filter_known known x [] h = refl
  filter_known known x (y ∷ ys) h =
      elim (same y x) as (λ b. same y x ≡ b → fold add known (cond (not b) (y ∷ filter (λ y. not (same y x)) ys) (filter (λ y. not (same y x)) ys)) ≡ fold add (add known y) ys) [
        | true ↦ λ s. filter_known known x ys h
            ∙ ap (λ t. fold add t ys) (sym (skipped known y (subst (λ z. among z known ≡ true) (sym (exact y x s)) (h (itself y x s)))))
        | false ↦ λ s. filter_known (add known y) x ys (λ i. known_more known x y (h i))
      ] refl

  folded_firsts : (known xs : List S) → fold add known (firsts same xs) ≡ fold add known xs
  folded_firsts known [] = refl
  folded_firsts known (x ∷ xs) =
      filter_known (add known x) x (firsts same xs) (itself_known known x) ∙ folded_firsts (add known x) xs

  firsts_replaced : (front some others behind : List S) → ((known : List S) → fold add known some ≡ fold add known others)
      → firsts same (front ++ (some ++ behind)) ≡ firsts same (front ++ others ++ behind)
  firsts_replaced front some others behind e =
      sym (folded_once same exact (front ++ (some ++ behind)))
      ∙ fold-append add [] front (some ++ behind)
      ∙ fold-append add (fold add [] front) some behind
      ∙ ap (λ t. fold add t behind) (e (fold add [] front) ∙ sym (fold-append add [] front others))
      ∙ sym (fold-append add [] (front ++ others) behind)
      ∙ folded_once same exact (front ++ others ++ behind)

  -- what one of different slots gives
  module _ {I : Type 0} (s : S) (V : List I) where
    abbrev given : S → List I
    given d = if same s d then V else []

    none_left : (x : S) → same s x ≡ true → (ys : List S) → flat_map given (filter (λ y. not (same y x)) ys) ≡ []
    none_left x h [] = refl
    none_left x h (y ∷ ys) =
        elim (same y x) as (λ b. same y x ≡ b → flat_map given (cond (not b) (y ∷ filter (λ y. not (same y x)) ys) (filter (λ y. not (same y x)) ys)) ≡ []) [
          | true ↦ λ e. none_left x h ys
          | false ↦ λ e. (λ i. (if other e i then V else []) ++ none_left x h ys i)
        ] refl
      where
        other : same y x ≡ false → same s y ≡ false
        other e = elim (same s y) as (λ b. same s y ≡ b → b ≡ false) [
          | true ↦ λ t. absurd (false≢true (sym e ∙ subst (λ z. same z x ≡ true) (exact s y t) h))
          | false ↦ λ t. refl
        ] refl

    unfiltered : (x : S) → same s x ≡ false → (ys : List S) → flat_map given (filter (λ y. not (same y x)) ys) ≡ flat_map given ys
    unfiltered x h [] = refl
    unfiltered x h (y ∷ ys) =
        elim (same y x) as (λ b. same y x ≡ b → flat_map given (cond (not b) (y ∷ filter (λ y. not (same y x)) ys) (filter (λ y. not (same y x)) ys)) ≡ given y ++ flat_map given ys) [
          | true ↦ λ e. unfiltered x h ys ∙ ap (λ b. (if b then V else []) ++ flat_map given ys) (sym (subst (λ z. same s z ≡ false) (sym (exact y x e)) h))
          | false ↦ λ e. ap (λ t. given y ++ t) (unfiltered x h ys)
        ] refl

    pub given_once : (xs : List S) → flat_map given (firsts same xs) ≡ (if among s xs then V else [])
    given_once [] = refl
    given_once (x ∷ xs) =
        elim (same s x) as (λ b. same s x ≡ b → (if b then V else []) ++ flat_map given (filter (λ y. not (same y x)) (firsts same xs)) ≡ (if b || among s xs then V else [])) [
          | true ↦ λ h. ap (λ t. V ++ t) (none_left x h (firsts same xs)) ∙ append-nil V
          | false ↦ λ h. unfiltered x h (firsts same xs) ∙ given_once xs
        ] refl

module _ {I S : Type 0} (slot : I → S) (same : S → S → Bool) (exact : (a b : S) → same a b ≡ true → a ≡ b) where
  abbrev pub in_slot : S → List I → List I
  in_slot s items = filter (λ i. same s (slot i)) items

  abbrev pub slots : List (List I) → List S
  slots blocks = flat_map (map slot) blocks

  -- some items, all of a slot
  abbrev pub Fills : S → List I → Type 0
  Fills d items = (i : I) × (is : List I) × (items ≡ i ∷ is) × (slot i ≡ d) × AllByRecursion (λ j. same (slot j) d ≡ true) is

  fills_repeats : (d : S) (items : List I) → Fills d items → Repeats same exact d (map slot items)
  fills_repeats d items f =
      (map slot f.1, ap (map slot) f.2 ∙ ap (λ t. t ∷ map slot f.1) f.3, mapped f.1 f.4)
    where
      mapped : (is : List I) → AllByRecursion (λ j. same (slot j) d ≡ true) is → AllByRecursion (λ y. same y d ≡ true) (map slot is)
      mapped [] all = tt
      mapped (j ∷ is) all = (all.0, mapped is all.1)

  one_passes : (b : Bool) (j : I) (rest is : List I) → rest ≡ (if b then is else []) → cond b (j ∷ rest) rest ≡ (if b then j ∷ is else [])
  one_passes true j rest is e = ap (λ t. j ∷ t) e
  one_passes false j rest is e = e

  nothing : (b : Bool) → ◌≡◌ {A = List I} [] (if b then [] else [])
  nothing true = refl
  nothing false = refl

  all_pass : (s d : S) (is : List I) → AllByRecursion (λ j. same (slot j) d ≡ true) is → in_slot s is ≡ (if same s d then is else [])
  all_pass s d [] all = nothing (same s d)
  all_pass s d (j ∷ is) all =
      ap (λ b. cond b (j ∷ in_slot s is) (in_slot s is)) (ap (same s) (exact (slot j) d all.0))
      ∙ one_passes (same s d) j (in_slot s is) is (all_pass s d is all.1)

  fills_pass : (s d : S) (items : List I) → Fills d items → in_slot s items ≡ (if same s d then items else [])
  fills_pass s d items f =
      ap (in_slot s) f.2
      ∙ ap (λ b. cond b (f.0 ∷ in_slot s f.1) (in_slot s f.1)) (ap (same s) f.3)
      ∙ one_passes (same s d) f.0 (in_slot s f.1) f.1 (all_pass s d f.1 f.4)
      ∙ ap (λ t. if same s d then t else []) (sym f.2)

  module _ (fill : List (List I) → S → List I) where
    -- what blocks come to
    abbrev pub laid : List (List I) → List I
    laid blocks = flat_map (fill blocks) (firsts same (slots blocks))

    module _
        (fills : (blocks : List (List I)) → AllByRecursion (λ d. Fills d (fill blocks d)) (slots blocks))
        (absent : (blocks : List (List I)) (s : S) → same s s ≡ true → list_any (same s) (slots blocks) ≡ false → fill blocks s ≡ []) where
      firsts_fill : (blocks : List (List I)) → AllByRecursion (λ d. Fills d (fill blocks d)) (firsts same (slots blocks))
      firsts_fill blocks = all_firsts (λ d. Fills d (fill blocks d)) same (slots blocks) (fills blocks)

      -- the slots of what blocks come to are those of the blocks
      laid_slots : (blocks : List (List I)) (known : List S) → fold (with_new same) known (map slot (laid blocks)) ≡ fold (with_new same) known (slots blocks)
      laid_slots blocks known =
          ap (fold (with_new same) known) (map-flat_map slot (fill blocks) (firsts same (slots blocks)))
          ∙ all_repeated same exact (λ d. map slot (fill blocks d)) known (firsts same (slots blocks))
          (all_mapped (λ d f. fills_repeats d (fill blocks d) f) (firsts same (slots blocks)) (firsts_fill blocks))
          ∙ folded_firsts same exact known (slots blocks)

      passed : (blocks : List (List I)) (s : S) (ds : List S) → AllByRecursion (λ d. Fills d (fill blocks d)) ds
          → flat_map (λ d. in_slot s (fill blocks d)) ds ≡ flat_map (given same exact s (fill blocks s)) ds
      passed blocks s [] all = refl
      passed blocks s (d ∷ ds) all =
          λ i. (fills_pass s d (fill blocks d) all.0 ∙ this) i ++ passed blocks s ds all.1 i
        where
          this : (if same s d then fill blocks d else []) ≡ (if same s d then fill blocks s else [])
          this = elim (same s d) as (λ b. same s d ≡ b → (if b then fill blocks d else []) ≡ (if b then fill blocks s else [])) [
            | true ↦ λ e. ap (fill blocks) (sym (exact s d e))
            | false ↦ λ e. refl
          ] refl

      -- of a slot it has what fills the slot
      laid_in_slot : (blocks : List (List I)) (s : S) → same s s ≡ true → in_slot s (laid blocks) ≡ fill blocks s
      laid_in_slot blocks s itself =
          filter-flat_map (λ i. same s (slot i)) (fill blocks) (firsts same (slots blocks))
          ∙ passed blocks s (firsts same (slots blocks)) (firsts_fill blocks)
          ∙ given_once same exact s (fill blocks s) (slots blocks)
          ∙ elim (list_any (same s) (slots blocks)) as (λ b. list_any (same s) (slots blocks) ≡ b → (if b then fill blocks s else []) ≡ fill blocks s) [
            | true ↦ λ e. refl
            | false ↦ λ e. sym (absent blocks s itself e)
          ] refl

      -- what some of the blocks come to may stand in their place
      pub laid_within :
          ((front blocks behind : List (List I)) (s : S) → (same s s ≡ true → in_slot s (laid blocks) ≡ fill blocks s)
          → fill (front ++ laid blocks ∷ behind) s ≡ fill (front ++ blocks ++ behind) s)
          → (front blocks behind : List (List I)) → laid (front ++ laid blocks ∷ behind) ≡ laid (front ++ blocks ++ behind)
      laid_within middle front blocks behind =
          ap (λ f. flat_map f (firsts same (slots (front ++ laid blocks ∷ behind)))) (λ i s. middle front blocks behind s (laid_in_slot blocks s) i)
          ∙ ap (flat_map (fill (front ++ blocks ++ behind)))
          (ap (firsts same) (flat_map-append (map slot) front (laid blocks ∷ behind))
          ∙ firsts_replaced same exact (slots front) (map slot (laid blocks)) (slots blocks) (slots behind) (laid_slots blocks)
          ∙ ap (firsts same) (sym (flat_map-append (map slot) (front ++ blocks) behind ∙ ap (λ t. t ++ slots behind) (flat_map-append (map slot) front blocks))))

  -- ---- slots that the last block decides which has them

  or_list_assoc : (a b c : List I) → or_list (or_list a b) c ≡ or_list a (or_list b c)
  or_list_assoc [] b c = refl
  or_list_assoc (x ∷ xs) b c = refl

  or_list_none : (a : List I) → a ≡ or_list a []
  or_list_none [] = refl
  or_list_none (x ∷ xs) = refl

  abbrev pub last : List (List I) → S → List I
  last blocks s = last_given (map (in_slot s) blocks)

  last_append : (s : S) (front behind : List (List I)) → last (front ++ behind) s ≡ or_list (last behind s) (last front s)
  last_append s [] behind = or_list_none (last behind s)
  last_append s (block ∷ front) behind =
      ap (λ t. or_list t (in_slot s block)) (last_append s front behind)
      ∙ or_list_assoc (last behind s) (last front s) (in_slot s block)

  pub last_middle : (s : S) (front blocks behind : List (List I)) (one : List I) → in_slot s one ≡ last blocks s
      → last (front ++ one ∷ behind) s ≡ last (front ++ blocks ++ behind) s
  last_middle s front blocks behind one e =
      last_append s front (one ∷ behind)
      ∙ ap (λ t. or_list (or_list (last behind s) t) (last front s)) e
      ∙ or_list_assoc (last behind s) (last blocks s) (last front s)
      ∙ sym (last_append s (front ++ blocks) behind ∙ ap (or_list (last behind s)) (last_append s front blocks))

  none_there : (s : S) (items : List I) → list_any (same s) (map slot items) ≡ false → in_slot s items ≡ []
  none_there s [] e = refl
  none_there s (item ∷ items) e =
      elim (same s (slot item)) as (λ b. (b || list_any (same s) (map slot items)) ≡ false → cond b (item ∷ in_slot s items) (in_slot s items) ≡ []) [
        | true ↦ λ t. absurd (false≢true (sym t))
        | false ↦ λ t. none_there s items t
      ] e

  none_either : (a b : Bool) → (a || b) ≡ false → (a ≡ false) × (b ≡ false)
  none_either true b e = absurd (false≢true (sym e))
  none_either false b e = (refl, e)

  apart : (s : S) (block : List I) (blocks : List (List I)) → list_any (same s) (slots (block ∷ blocks)) ≡ false
      → (list_any (same s) (map slot block) ≡ false) × (list_any (same s) (slots blocks) ≡ false)
  apart s block blocks e =
      none_either (list_any (same s) (map slot block)) (list_any (same s) (slots blocks))
      (sym (list_any-append (same s) (map slot block) (slots blocks)) ∙ e)

  pub last_absent : (s : S) (blocks : List (List I)) → list_any (same s) (slots blocks) ≡ false → last blocks s ≡ []
  last_absent s [] e = refl
  last_absent s (block ∷ blocks) e =
      let parts = apart s block blocks e in
      λ i. or_list (last_absent s blocks parts.1 i) (none_there s block parts.0 i)

  -- all of the items go to the slot
  abbrev AllOf : S → List I → Type 0
  AllOf s items = AllByRecursion (λ j. same (slot j) s ≡ true) items

  turned : (s : S) (j : I) → same s (slot j) ≡ true → same (slot j) s ≡ true
  turned s j e = let is = exact s (slot j) e in subst (λ z. same (slot j) z ≡ true) (sym is) (subst (λ z. same z (slot j) ≡ true) is e)

  pub in_slot_all : (s : S) (items : List I) → AllOf s (in_slot s items)
  in_slot_all s [] = tt
  in_slot_all s (item ∷ items) =
      elim (same s (slot item)) as (λ b. same s (slot item) ≡ b → AllOf s (cond b (item ∷ in_slot s items) (in_slot s items))) [
        | true ↦ λ e. (turned s item e, in_slot_all s items)
        | false ↦ λ e. in_slot_all s items
      ] refl

  or_all : (s : S) (a b : List I) → AllOf s a → AllOf s b → AllOf s (or_list a b)
  or_all s [] b p q = q
  or_all s (x ∷ xs) b p q = p

  last_all : (s : S) (blocks : List (List I)) → AllOf s (last blocks s)
  last_all s [] = tt
  last_all s (block ∷ blocks) = or_all s (last blocks s) (in_slot s block) (last_all s blocks) (in_slot_all s block)

  -- where nothing is found there is none
  pub none_in : (s : S) (items : List I) → in_slot s items ≡ [] → list_any (same s) (map slot items) ≡ false
  none_in s [] e = refl
  none_in s (item ∷ items) e =
      elim (same s (slot item)) as (λ b. cond b (item ∷ in_slot s items) (in_slot s items) ≡ [] → (b || list_any (same s) (map slot items)) ≡ false) [
        | true ↦ λ t. absurd (no item (in_slot s items) t)
        | false ↦ λ t. none_in s items t
      ] e
    where
      no : (x : I) (xs : List I) → x ∷ xs ≡ [] → ⊥
      no x xs t = cc t

  or_none : (a b : List I) → or_list a b ≡ [] → (a ≡ []) × (b ≡ [])
  or_none [] b e = (refl, e)
  or_none (x ∷ xs) b e = absurd (no e) where
    no : x ∷ xs ≡ [] → ⊥
    no t = cc t

  last_none : (s : S) (blocks : List (List I)) → last blocks s ≡ [] → list_any (same s) (slots blocks) ≡ false
  last_none s [] e = refl
  last_none s (block ∷ blocks) e =
      let parts = or_none (last blocks s) (in_slot s block) e in
      list_any-append (same s) (map slot block) (slots blocks)
      ∙ (λ i. none_in s block parts.1 i || last_none s blocks parts.0 i)

  -- some items, all of a slot
  pub fills_all : (s : S) (items : List I) → AllOf s items → (items ≡ [] → ⊥) → Fills s items
  fills_all s [] all some = absurd (some refl)
  fills_all s (item ∷ items) all some = (item, items, refl, exact (slot item) s all.0, all.1)

  pub last_fills : (s : S) (blocks : List (List I)) → list_any (same s) (slots blocks) ≡ true → Fills s (last blocks s)
  last_fills s blocks there =
      fills_all s (last blocks s) (last_all s blocks) (λ none. false≢true (sym (last_none s blocks none) ∙ there))

  -- ---- slots that all blocks fill

  pub all_of_absent : (s : S) (blocks : List (List I)) → list_any (same s) (slots blocks) ≡ false → flat_map (in_slot s) blocks ≡ []
  all_of_absent s [] e = refl
  all_of_absent s (block ∷ blocks) e =
      let parts = apart s block blocks e in
      λ i. none_there s block parts.0 i ++ all_of_absent s blocks parts.1 i

  both_all : (s : S) (a b : List I) → AllOf s a → AllOf s b → AllOf s (a ++ b)
  both_all s [] b p q = q
  both_all s (x ∷ xs) b p q = (p.0, both_all s xs b p.1 q)

  pub all_of_all : (s : S) (blocks : List (List I)) → AllOf s (flat_map (in_slot s) blocks)
  all_of_all s [] = tt
  all_of_all s (block ∷ blocks) = both_all s (in_slot s block) (flat_map (in_slot s) blocks) (in_slot_all s block) (all_of_all s blocks)

  no_both : (a b : List I) → a ++ b ≡ [] → (a ≡ []) × (b ≡ [])
  no_both [] b e = (refl, e)
  no_both (x ∷ xs) b e = absurd (no e) where
    no : x ∷ (xs ++ b) ≡ [] → ⊥
    no t = cc t

  pub all_of_none : (s : S) (blocks : List (List I)) → flat_map (in_slot s) blocks ≡ [] → list_any (same s) (slots blocks) ≡ false
  all_of_none s [] e = refl
  all_of_none s (block ∷ blocks) e =
      let parts = no_both (in_slot s block) (flat_map (in_slot s) blocks) e in
      list_any-append (same s) (map slot block) (slots blocks)
      ∙ (λ i. none_in s block parts.0 i || all_of_none s blocks parts.1 i)

  -- each slot is that of an item
  abbrev OfItem : S → Type 0
  OfItem d = (i : I) × (slot i ≡ d)

  pub all_from : (blocks : List (List I)) → AllByRecursion (λ d. (i : I) × (slot i ≡ d)) (slots blocks)
  all_from [] = tt
  all_from (block ∷ blocks) = behind block (slots blocks) (all_from blocks) where
    behind : (items : List I) (rest : List S) → AllByRecursion OfItem rest → AllByRecursion OfItem (map slot items ++ rest)
    behind [] rest all = all
    behind (item ∷ items) rest all = ((item, refl), behind items rest all)
