-- The parameters of each slot by its key.
use Rattle.std.proofs.Common.{◌≡◌, ◌∙◌, ◌≤◌, ◌<◌, ◌+◌, ℕ, Bool, true, false, ◌&&◌, ◌||◌, cond, List, [], ◌∷◌, ◌++◌, map, length, drop, get_or, refl, sym, ap, append_assoc, append-nil, arith}
use Rattle.std.specs.Prelude.{Option, Some, None, nat_eq, not, if◌then◌else◌}
use Rattle.std.specs.List.{filter, flat_map, list_any}
use Rattle.std.specs.Option.{option_or}
use Rattle.std.specs.Ordering.{is_eq, nat_cmp, ordering_then}
use Rattle.std.specs.Cmp.Lexicographic.{slice_cmp, nat_list_eq_equiv}
use Rattle.std.specs.declared.cmp.Ordering.{Ordering}
use Rattle.std.specs.declared.cmp.Ordering.TheVariants.{Less, Equal, Greater}
use Rattle.std.proofs.lemmas.Bool.{false≢true}
use Rattle.std.proofs.lemmas.Bool.Decides.{nat_tests}
use Rattle.std.proofs.lemmas.List.{drop_more, map-append}
use Rattle.std.proofs.lemmas.List.Elements.{filter-append}
use Rattle.std.proofs.lemmas.List.Folds.{list_any-append}
use Rattle.lk_val.specs.Texts.{is_same_text}
use Rattle.lk_read.specs.declared.tree.Item.{Item}
use Rattle.lk_params.specs.Picking.{or_list, last_given, with_new}
use Rattle.lk_overlay.specs.declared.kind.Kind.{Kind}
use Rattle.lk_overlay.specs.declared.slot.Slot.{Slot}
use Rattle.lk_overlay.specs.declared.slot.Slot.TheVariants.{Parameter, Child, Alone}
use Rattle.lk_overlay.specs.Overlay.{is_same_slot, in_slot, slot_of}
use Rattle.lk_overlay.specs.Grouped.{SlotKey, Numbered, key_cmp, key_of, numbered, all_of, of_number, last_number, of_number_in, of_last}
use Rattle.lk_overlay.proofs.SlotLaws.{slot_exact}
use Rattle.lk_overlay.proofs.TextLaws.{text_tied, tied_exact}

-- ---- keys

is_eq_then : (a b : Ordering) → is_eq (ordering_then a b) ≡ (is_eq a && is_eq b)
is_eq_then Less b = refl
is_eq_then Equal b = refl
is_eq_then Greater b = refl

both : (a b : Bool) → (a && b) ≡ true → (a ≡ true) × (b ≡ true)
both true b h = (refl, h)
both false b h = absurd (false≢true h)

pub key_exact : (x y : SlotKey) → is_eq (key_cmp x y) ≡ true → x ≡ y
key_exact (m, None) (n, None) h =
    let parts = both (is_eq (slice_cmp nat_cmp m n)) true (sym (is_eq_then (slice_cmp nat_cmp m n) Equal) ∙ h) in
    let same = tied_exact m n parts.0 in
    λ i. (same i, None)
key_exact (m, None) (n, Some u) h =
    absurd (false≢true (both (is_eq (slice_cmp nat_cmp m n)) false (sym (is_eq_then (slice_cmp nat_cmp m n) Less) ∙ h)).1)
key_exact (m, Some t) (n, None) h =
    absurd (false≢true (both (is_eq (slice_cmp nat_cmp m n)) false (sym (is_eq_then (slice_cmp nat_cmp m n) Greater) ∙ h)).1)
key_exact (m, Some t) (n, Some u) h =
    let parts = both (is_eq (slice_cmp nat_cmp m n)) (is_eq (slice_cmp nat_cmp t u)) (sym (is_eq_then (slice_cmp nat_cmp m n) (slice_cmp nat_cmp t u)) ∙ h) in
    let names = tied_exact m n parts.0 in
    let titles = tied_exact t u parts.1 in
    λ i. (names i, Some (titles i))

-- two keys are one
abbrev pub match_keys : Option SlotKey → Option SlotKey → Bool
match_keys (Some a) (Some b) = is_eq (key_cmp a b)
match_keys a b = false

turned : (x y : List ℕ) → is_eq (slice_cmp nat_cmp x y) ≡ is_same_text y x
turned x y = text_tied x y ∙ nat_list_eq_equiv.symm x y

and_true : (a : Bool) → (a && true) ≡ a
and_true true = refl
and_true false = refl

and_false : (a : Bool) → (a && false) ≡ false
and_false true = refl
and_false false = refl

pub keys_match : (s slot : Slot) → match_keys (key_of s) (key_of slot) ≡ is_same_slot slot s
keys_match (Parameter a) (Parameter b) = is_eq_then (slice_cmp nat_cmp a b) Equal ∙ and_true (is_eq (slice_cmp nat_cmp a b)) ∙ turned a b
keys_match (Parameter a) (Child b t) = is_eq_then (slice_cmp nat_cmp a b) Less ∙ and_false (is_eq (slice_cmp nat_cmp a b))
keys_match (Parameter a) (Alone item) = refl
keys_match (Child a t) (Parameter b) = is_eq_then (slice_cmp nat_cmp a b) Greater ∙ and_false (is_eq (slice_cmp nat_cmp a b))
keys_match (Child a t) (Child b u) = is_eq_then (slice_cmp nat_cmp a b) (slice_cmp nat_cmp t u) ∙ (λ i. turned a b i && turned t u i)
keys_match (Child a t) (Alone item) = refl
keys_match (Alone one) (Parameter b) = refl
keys_match (Alone one) (Child b u) = refl
keys_match (Alone one) (Alone other) = refl

-- a key's test is that of the slots
pub key_tied : (s slot : Slot) (key q : SlotKey) → key_of s ≡ Some key → key_of slot ≡ Some q → is_eq (key_cmp key q) ≡ is_same_slot slot s
key_tied s slot key q e f = sym (λ i. match_keys (e i) (f i)) ∙ keys_match s slot

-- a slot with no key is no other's
pub keyless : (s slot : Slot) → key_of s ≡ None → is_same_slot slot s ≡ false
keyless s slot e = sym (keys_match s slot) ∙ ap (λ k. match_keys k (key_of slot)) e

-- what a map has at each slot's key, an item further
pub item_step : (new old : Option SlotKey → List Numbered) (s slot : Slot) (key : SlotKey) (e : Numbered) → key_of s ≡ Some key
    → new None ≡ [] → old None ≡ []
    → ((q : SlotKey) → new (Some q) ≡ old (Some q) ++ (if is_eq (key_cmp key q) then e ∷ [] else []))
    → new (key_of slot) ≡ old (key_of slot) ++ (if is_same_slot slot s then e ∷ [] else [])
item_step new old s (Parameter n) key e is none gone h =
    h (n, None) ∙ ap (λ b. old (Some (n, None)) ++ (if b then e ∷ [] else [])) (key_tied s (Parameter n) key (n, None) is refl)
item_step new old s (Child n t) key e is none gone h =
    h (n, Some t) ∙ ap (λ b. old (Some (n, Some t)) ++ (if b then e ∷ [] else [])) (key_tied s (Child n t) key (n, Some t) is refl)
item_step new old s (Alone item) key e is none gone h = none ∙ ap (λ t. t ++ []) (sym gone)

-- an item without a key changes nothing
pub alone_step : (xs : List Numbered) (s slot : Slot) (e : Numbered) → key_of s ≡ None → xs ≡ xs ++ (if is_same_slot slot s then e ∷ [] else [])
alone_step xs s slot e is = sym (ap (λ b. xs ++ (if b then e ∷ [] else [])) (keyless s slot is) ∙ append-nil xs)

-- ---- the known slots

-- no slot is the same as one that has no key
none_same : (s : Slot) (slots : List Slot) → key_of s ≡ None → list_any (is_same_slot s) slots ≡ false
none_same (Parameter n) slots e = absurd (some_none e) where
  some_none : {key : SlotKey} → Some key ≡ None → ⊥
  some_none e = cc e
none_same (Child n t) slots e = absurd (some_none e) where
  some_none : {key : SlotKey} → Some key ≡ None → ⊥
  some_none e = cc e
none_same (Alone item) [] e = refl
none_same (Alone item) (slot ∷ slots) e = none_same (Alone item) slots e

-- a slot without a key is always a further one
pub more_alone : (slots : List Slot) (s : Slot) → key_of s ≡ None → slots ++ s ∷ [] ≡ with_new is_same_slot slots s
more_alone slots s e = sym (ap (λ b. if b then slots else slots ++ s ∷ []) (none_same s slots e))

or_false : (a : Bool) → (a || false) ≡ a
or_false true = refl
or_false false = refl

-- the keys of slots stay those with one that has no key
pub keys_alone : (slots : List Slot) (s q : Slot) (has : Bool) → key_of s ≡ None → has ≡ list_any (is_same_slot q) slots → has ≡ list_any (is_same_slot q) (slots ++ s ∷ [])
keys_alone slots s q has e h =
    h ∙ sym (list_any-append (is_same_slot q) slots (s ∷ [])
    ∙ ap (λ b. list_any (is_same_slot q) slots || (b || false)) (keyless s q e)
    ∙ or_false (list_any (is_same_slot q) slots))

-- a slot that is new by its key
pub more_new : (slots : List Slot) (s : Slot) → list_any (is_same_slot s) slots ≡ false → slots ++ s ∷ [] ≡ with_new is_same_slot slots s
more_new slots s e = sym (ap (λ b. if b then slots else slots ++ s ∷ []) e)

pub no_more_new : (slots : List Slot) (s : Slot) → list_any (is_same_slot s) slots ≡ true → slots ≡ with_new is_same_slot slots s
no_more_new slots s e = sym (ap (λ b. if b then slots else slots ++ s ∷ []) e)

-- the same, where all keys are known and the slot's is a further one
pub new_by_key : (slots : List Slot) (s : Slot) (further there : Bool) → further ≡ not there → there ≡ list_any (is_same_slot s) slots
    → further ≡ true → slots ++ s ∷ [] ≡ with_new is_same_slot slots s
new_by_key slots s further true e known so = absurd (false≢true (sym e ∙ so))
new_by_key slots s further false e known so = more_new slots s (sym known)

pub known_by_key : (slots : List Slot) (s : Slot) (further there : Bool) → further ≡ not there → there ≡ list_any (is_same_slot s) slots
    → further ≡ false → slots ≡ with_new is_same_slot slots s
known_by_key slots s further true e known so = no_more_new slots s (sym known)
known_by_key slots s further false e known so = absurd (false≢true (sym so ∙ e))

cond_or : (b a : Bool) → cond b true a ≡ (a || (b || false))
cond_or true true = refl
cond_or true false = refl
cond_or false true = refl
cond_or false false = refl

-- the keys of slots and one more
pub keys_more : (slots : List Slot) (s : Slot) (key : SlotKey) (has had : Option SlotKey → Bool) → key_of s ≡ Some key
    → has None ≡ false → had None ≡ false
    → ((q : SlotKey) → has (Some q) ≡ cond (is_eq (key_cmp key q)) true (had (Some q)))
    → ((q : Slot) → had (key_of q) ≡ list_any (is_same_slot q) slots)
    → (q : Slot) → has (key_of q) ≡ list_any (is_same_slot q) (slots ++ s ∷ [])
keys_more slots s key has had is none never h known q =
    at q ∙ sym (list_any-append (is_same_slot q) slots (s ∷ []))
  where
    keyed : (q : Slot) (k : SlotKey) → key_of q ≡ Some k → has (Some k) ≡ (list_any (is_same_slot q) slots || (is_same_slot q s || false))
    keyed q k e =
        h k ∙ ap (λ b. cond b true (had (Some k))) (key_tied s q key k is e)
        ∙ cond_or (is_same_slot q s) (had (Some k))
        ∙ ap (λ b. b || (is_same_slot q s || false)) (ap had (sym e) ∙ known q)

    at : (q : Slot) → has (key_of q) ≡ (list_any (is_same_slot q) slots || (is_same_slot q s || false))
    at (Parameter n) = keyed (Parameter n) (n, None) refl
    at (Child n t) = keyed (Child n t) (n, Some t) refl
    at (Alone item) = none ∙ sym never ∙ known (Alone item) ∙ sym (or_false (list_any (is_same_slot (Alone item)) slots))

or_true : (a : Bool) → (a || true) ≡ true
or_true true = refl
or_true false = refl

-- the keys of slots and one more are those of the slots with it, also where they have it
pub keys_known : (slots : List Slot) (s : Slot) (has : Option SlotKey → Bool)
    → ((q : Slot) → has (key_of q) ≡ list_any (is_same_slot q) (slots ++ s ∷ []))
    → (q : Slot) → has (key_of q) ≡ list_any (is_same_slot q) (with_new is_same_slot slots s)
keys_known slots s has known q =
    known q ∙ elim (list_any (is_same_slot s) slots) as (λ b. list_any (is_same_slot s) slots ≡ b
    → list_any (is_same_slot q) (slots ++ s ∷ []) ≡ list_any (is_same_slot q) (if b then slots else slots ++ s ∷ [])) [
      | true ↦ λ there. list_any-append (is_same_slot q) slots (s ∷ []) ∙ stands there (is_same_slot q s) refl
      | false ↦ λ new. refl
    ] refl
  where
    stands : list_any (is_same_slot s) slots ≡ true → (b : Bool) → is_same_slot q s ≡ b
        → (list_any (is_same_slot q) slots || (b || false)) ≡ list_any (is_same_slot q) slots
    stands there true e =
        or_true (list_any (is_same_slot q) slots)
        ∙ sym (ap (λ t. list_any (is_same_slot t) slots) (slot_exact q s e) ∙ there)
    stands there false e = or_false (list_any (is_same_slot q) slots)

-- ---- those of a slot

module _ (k : Kind) (slot : Slot) where
  abbrev at_block : ℕ → List Item → List Numbered
  at_block n items = map (λ item. (n, item)) items

  all_of_block : (n : ℕ) (items : List Item) → all_of (at_block n items) ≡ items
  all_of_block n [] = refl
  all_of_block n (item ∷ items) = ap (λ t. item ∷ t) (all_of_block n items)

  pub all_numbered : (n : ℕ) (blocks : List (List Item)) → all_of (numbered k slot n blocks) ≡ flat_map (in_slot k slot) blocks
  all_numbered n [] = refl
  all_numbered n (block ∷ blocks) =
      map-append (λ (entry : Numbered). entry.1) (at_block n (in_slot k slot block)) (numbered k slot (n + 1) blocks)
      ∙ (λ i. all_of_block n (in_slot k slot block) i ++ all_numbered (n + 1) blocks i)

  or_assoc : {A : Type 0} (a b c : Option A) → option_or (option_or a b) c ≡ option_or a (option_or b c)
  or_assoc None b c = refl
  or_assoc (Some x) b c = refl

  or_none_behind : {A : Type 0} (a : Option A) → a ≡ option_or a None
  or_none_behind None = refl
  or_none_behind (Some x) = refl

  last_append : (xs ys : List Numbered) → last_number (xs ++ ys) ≡ option_or (last_number ys) (last_number xs)
  last_append [] ys = or_none_behind (last_number ys)
  last_append (x ∷ xs) ys = ap (λ t. option_or t (Some x.0)) (last_append xs ys) ∙ or_assoc (last_number ys) (last_number xs) (Some x.0)

  number_append : (n : ℕ) (xs ys : List Numbered) → of_number n (xs ++ ys) ≡ of_number n xs ++ of_number n ys
  number_append n xs ys =
      ap (map (λ (entry : Numbered). entry.1)) (filter-append (λ (entry : Numbered). nat_eq entry.0 n) xs ys)
      ∙ map-append (λ (entry : Numbered). entry.1) (filter (λ (entry : Numbered). nat_eq entry.0 n) xs) (filter (λ (entry : Numbered). nat_eq entry.0 n) ys)

  of_other : (n m : ℕ) (items : List Item) → nat_eq m n ≡ false → of_number n (at_block m items) ≡ []
  of_other n m [] e = refl
  of_other n m (item ∷ items) e = rw e (of_other n m items e)

  of_same : (n : ℕ) (items : List Item) → of_number n (at_block n items) ≡ items
  of_same n [] = refl
  of_same n (item ∷ items) = rw (itself n) (ap (λ t. item ∷ t) (of_same n items)) where
    itself : (m : ℕ) → nat_eq m m ≡ true
    itself m = grind (arith, nat_tests)

  -- the last of a block's own, with none behind
  last_of_block : (n : ℕ) (items : List Item) → of_number_in (last_number (at_block n items)) (at_block n items) ≡ items
  last_of_block n [] = refl
  last_of_block n (item ∷ items) =
      ap (λ t. of_number_in t (at_block n (item ∷ items))) (one n item items) ∙ of_same n (item ∷ items)
    where
      one : (n : ℕ) (item : Item) (items : List Item) → last_number (at_block n (item ∷ items)) ≡ Some n
      one n item [] = refl
      one n item (next ∷ items) = ap (λ t. option_or t (Some n)) (one n next items)

  none_numbered : (entries : List Numbered) → last_number entries ≡ None → entries ≡ []
  none_numbered [] e = refl
  none_numbered (entry ∷ entries) e = absurd (never (last_number entries) entry.0 e) where
    never : (a : Option ℕ) (n : ℕ) → option_or a (Some n) ≡ None → ⊥
    never None n e = cc e
    never (Some m) n e = cc e

  -- of the last number there is some
  some_numbered : (n : ℕ) (entries : List Numbered) → last_number entries ≡ Some n → (x : Item) × (xs : List Item) × (of_number n entries ≡ x ∷ xs)
  some_numbered n [] e = absurd (no e) where
    no : None ≡ Some n → ⊥
    no e = cc e
  some_numbered n (entry ∷ entries) e =
      elim (nat_eq entry.0 n) as (λ b. nat_eq entry.0 n ≡ b → (x : Item) × (xs : List Item) × (of_number n (entry ∷ entries) ≡ x ∷ xs)) [
        | true ↦ λ s. (entry.1, of_number n entries, ap (λ b. map (λ (entry : Numbered). entry.1) (cond b (entry ∷ filter (λ (entry : Numbered). nat_eq entry.0 n) entries) (filter (λ (entry : Numbered). nat_eq entry.0 n) entries))) s)
        | false ↦ λ s.
            let later : last_number entries ≡ Some n = further (last_number entries) entry.0 e s in
            let rest = some_numbered n entries later in
            (rest.0, rest.1, ap (λ b. map (λ (entry : Numbered). entry.1) (cond b (entry ∷ filter (λ (entry : Numbered). nat_eq entry.0 n) entries) (filter (λ (entry : Numbered). nat_eq entry.0 n) entries))) s ∙ rest.2)
      ] refl
    where
      further : (a : Option ℕ) (m : ℕ) → option_or a (Some m) ≡ Some n → nat_eq m n ≡ false → a ≡ Some n
      further None m e s = absurd (false≢true (sym s ∙ same m e)) where
        same : (m : ℕ) → Some m ≡ Some n → nat_eq m n ≡ true
        same m e = let is : m ≡ n = cc e in rw is (grind (arith, nat_tests))
      further (Some x) m e s = e

  -- the numbers of blocks from n on are at least n
  at_least : (n m : ℕ) (blocks : List (List Item)) → last_number (numbered k slot n blocks) ≡ Some m → n ≤ m
  at_least n m [] e = absurd (no e) where
    no : None ≡ Some m → ⊥
    no e = cc e
  at_least n m (block ∷ blocks) e =
      choose (last_number (numbered k slot (n + 1) blocks)) (last_number (at_block n (in_slot k slot block)))
      (λ h. let below = at_least (n + 1) m blocks h in omega (arith, below))
      (own (in_slot k slot block))
      (sym (last_append (at_block n (in_slot k slot block)) (numbered k slot (n + 1) blocks)) ∙ e)
    where
      choose : (a b : Option ℕ) → (a ≡ Some m → n ≤ m) → (b ≡ Some m → n ≤ m) → option_or a b ≡ Some m → n ≤ m
      choose None b f g e = g e
      choose (Some x) b f g e = f e

      own : (items : List Item) → last_number (at_block n items) ≡ Some m → n ≤ m
      own [] e = absurd (no e) where
        no : None ≡ Some m → ⊥
        no e = cc e
      own (item ∷ items) e =
          choose (last_number (at_block n items)) (Some n) (own items) (λ h. let is : n ≡ m = cc h in omega (arith, is)) e

  filled : (xs : List Item) (x : Item) (ys zs : List Item) → xs ≡ x ∷ ys → xs ≡ or_list xs zs
  filled xs x ys zs e = e ∙ ap (λ t. or_list t zs) (sym e)

  differ : (n m : ℕ) → n + 1 ≤ m → nat_eq n m ≡ false
  differ n m h = grind (arith, nat_tests)

  by_last : (n : ℕ) (block : List Item) (blocks : List (List Item))
      → of_last (numbered k slot (n + 1) blocks) ≡ last_given (map (in_slot k slot) blocks)
      → (last : Option ℕ) → last_number (numbered k slot (n + 1) blocks) ≡ last
      → of_number_in (option_or last (last_number (at_block n (in_slot k slot block)))) (at_block n (in_slot k slot block) ++ numbered k slot (n + 1) blocks)
      ≡ or_list (last_given (map (in_slot k slot) blocks)) (in_slot k slot block)
  by_last n block blocks rest None e =
      let here = at_block n (in_slot k slot block) in
      let behind = numbered k slot (n + 1) blocks in
      let none : behind ≡ [] = none_numbered behind e in
      ap (λ t. of_number_in (last_number here) (here ++ t)) none
      ∙ ap (λ t. of_number_in (last_number here) t) (append-nil here)
      ∙ last_of_block n (in_slot k slot block)
      ∙ ap (λ t. or_list t (in_slot k slot block)) (sym (ap (λ t. of_number_in t behind) e) ∙ rest)
  by_last n block blocks rest (Some m) e =
      let here = at_block n (in_slot k slot block) in
      let behind = numbered k slot (n + 1) blocks in
      let some = some_numbered m behind e in
      number_append m here behind
      ∙ ap (λ t. t ++ of_number m behind) (of_other m n (in_slot k slot block) (differ n m (at_least (n + 1) m blocks e)))
      ∙ filled (of_number m behind) some.0 some.1 (in_slot k slot block) some.2
      ∙ ap (λ t. or_list t (in_slot k slot block)) (sym (ap (λ t. of_number_in t behind) e) ∙ rest)

  -- those of the last block that has some
  pub last_numbered : (n : ℕ) (blocks : List (List Item)) → of_last (numbered k slot n blocks) ≡ last_given (map (in_slot k slot) blocks)
  last_numbered n [] = refl
  last_numbered n (block ∷ blocks) =
      ap (λ t. of_number_in t (at_block n (in_slot k slot block) ++ numbered k slot (n + 1) blocks))
      (last_append (at_block n (in_slot k slot block)) (numbered k slot (n + 1) blocks))
      ∙ by_last n block blocks (last_numbered (n + 1) blocks) (last_number (numbered k slot (n + 1) blocks)) refl

  -- a block further
  pub number_step : (xs after : List Numbered) (blocks : List (List Item)) (i : ℕ) (block items : List Item) → i < length blocks → block ≡ get_or blocks i block
      → items ≡ block → after ≡ xs ++ map (λ item. (i, item)) (in_slot k slot items)
      → after ++ numbered k slot (i + 1) (drop (i + 1) blocks) ≡ xs ++ numbered k slot i (drop i blocks)
  number_step xs after blocks i block items lt is same e =
      ap (λ t. t ++ numbered k slot (i + 1) (drop (i + 1) blocks)) e
      ∙ append_assoc xs (at_block i (in_slot k slot items)) (numbered k slot (i + 1) (drop (i + 1) blocks))
      ∙ ap (λ b. xs ++ (at_block i (in_slot k slot b) ++ numbered k slot (i + 1) (drop (i + 1) blocks))) (same ∙ is)
      ∙ ap (λ t. xs ++ numbered k slot i t) (sym (drop_more blocks i block lt))

  -- an item of a block, if it goes to the slot
  abbrev pub if_there : Bool → ℕ → Item → List Numbered
  if_there true n item = (n, item) ∷ []
  if_there false n item = []

  if_slot : (b : Bool) (n : ℕ) (item : Item) (rest : List Item) → if_there b n item ++ at_block n rest ≡ at_block n (cond b (item ∷ rest) rest)
  if_slot true n item rest = refl
  if_slot false n item rest = refl

  is_if : (b : Bool) (n : ℕ) (item : Item) → (if◌then◌else◌ {A = List Numbered} b ((n, item) ∷ []) []) ≡ if_there b n item
  is_if true n item = refl
  is_if false n item = refl

  -- an item further
  pub block_step : (n : ℕ) (xs after : List Numbered) (block : List Item) (i : ℕ) (item : Item) → i < length block → item ≡ get_or block i item
      → after ≡ xs ++ (if is_same_slot slot (slot_of k item) then (n, item) ∷ [] else [])
      → after ++ at_block n (in_slot k slot (drop (i + 1) block)) ≡ xs ++ at_block n (in_slot k slot (drop i block))
  block_step n xs after block i item lt is e =
      ap (λ t. t ++ at_block n (in_slot k slot (drop (i + 1) block))) (e ∙ ap (λ t. xs ++ t) (is_if (is_same_slot slot (slot_of k item)) n item))
      ∙ append_assoc xs (if_there (is_same_slot slot (slot_of k item)) n item) (at_block n (in_slot k slot (drop (i + 1) block)))
      ∙ ap (λ t. xs ++ t) (if_slot (is_same_slot slot (slot_of k item)) n item (in_slot k slot (drop (i + 1) block)))
      ∙ ap (λ t. xs ++ at_block n (in_slot k slot (t ∷ drop (i + 1) block))) is
      ∙ ap (λ t. xs ++ at_block n (in_slot k slot t)) (sym (drop_more block i item lt))
