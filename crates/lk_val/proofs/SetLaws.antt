-- Laws of sets: the set of a list ascends and has the list's items, and two sets with the same items are equal.
use Rattle.std.proofs.Common.{◌≡◌, Bool, true, false, ◌&&◌, ◌||◌, List, [], ◌∷◌, ◌++◌, map, refl, sym, ap, ◌∙◌, subst}
use Rattle.std.specs.Ordering.{is_eq, is_gt, on, match_ordering, eq_by_cmp, ordering_reverse}
use Rattle.std.specs.declared.cmp.Ordering.{Ordering}
use Rattle.std.specs.declared.cmp.Ordering.TheVariants.{Less, Equal, Greater}
use Rattle.std.specs.Cmp.{tied_itself, Equal-is}
use Rattle.std.specs.Prelude.{IsPermutation, flat_map, if◌then◌else◌}
use Rattle.std.proofs.lemmas.List.Folds.{list_any-append}
use Rattle.std.proofs.lemmas.List.Sorted.{list_any-IsPermutation}
use Rattle.std.proofs.lemmas.Bool.{false≢true}
use Rattle.std.specs.List.{AllByRecursion}
use Rattle.std.specs.List.Sorted.{IsStrictlySortedBy}
use Rattle.lk_val.specs.Sets.{IsExactOrder, with_item, set_of, has, first_of}

-- x is before each item
abbrev pub IsBefore : {A : Type 0} → (A → A → Ordering) → A → List A → Type 0
IsBefore cmp x xs = AllByRecursion (λ y. cmp x y ≡ Less) xs

or_again : (a h : Bool) → (a || h) ≡ (a || (a || h))
or_again true h = refl
or_again false h = refl

or_swap : (a b c : Bool) → (a || (b || c)) ≡ (b || (a || c))
or_swap true true c = refl
or_swap true false c = refl
or_swap false b c = refl

not_both : {P : Type 0} (a : Bool) → a ≡ true → a ≡ false → P
not_both a t f = absurd (false≢true (sym f ∙ t))

module _ {A : Type 0} {cmp : A → A → Ordering} (o : IsExactOrder cmp) where
  pub ties : (q x : A) → is_eq (cmp q x) ≡ true → q ≡ x
  ties q x t = o.exact q x ((Equal-is (cmp q x)).0 t)

  turned : (x y : A) → cmp x y ≡ Greater → cmp y x ≡ Less
  turned x y g = o.total.antisymm y x ∙ ap ordering_reverse g

  has-with_item : (q x : A) (s : List A) → has cmp q (with_item cmp x s) ≡ (eq_by_cmp cmp q x || has cmp q s)
  has-with_item q x [] = refl
  has-with_item q x (y ∷ ys) =
      elim (cmp x y) as (λ r. cmp x y ≡ r → has cmp q (match_ordering r (x ∷ y ∷ ys) (y ∷ ys) (y ∷ with_item cmp x ys)) ≡ (eq_by_cmp cmp q x || (eq_by_cmp cmp q y || has cmp q ys))) [
        | Less ↦ λ e. refl
        | Equal ↦ λ e. or_again (eq_by_cmp cmp q y) (has cmp q ys) ∙ ap (λ z. eq_by_cmp cmp q z || (eq_by_cmp cmp q y || has cmp q ys)) (sym (o.exact x y e))
        | Greater ↦ λ e. ap (λ b. eq_by_cmp cmp q y || b) (has-with_item q x ys) ∙ or_swap (eq_by_cmp cmp q y) (eq_by_cmp cmp q x) (has cmp q ys)
      ] refl

  -- a set has the items of its list
  pub has-set_of : (q : A) (xs : List A) → has cmp q (set_of cmp xs) ≡ has cmp q xs
  has-set_of q [] = refl
  has-set_of q (x ∷ xs) = has-with_item q x (set_of cmp xs) ∙ ap (λ b. eq_by_cmp cmp q x || b) (has-set_of q xs)

  before_all : (x y : A) (ys : List A) → cmp x y ≡ Less → IsBefore cmp y ys → IsBefore cmp x ys
  before_all x y [] l b = tt
  before_all x y (z ∷ zs) l b = (o.total.trans x y z l b.0, before_all x y zs l b.1)

  before-with_item : (y x : A) (ys : List A) → cmp y x ≡ Less → IsBefore cmp y ys → IsBefore cmp y (with_item cmp x ys)
  before-with_item y x [] l b = (l, tt)
  before-with_item y x (z ∷ zs) l b =
      elim (cmp x z) as (λ r. IsBefore cmp y (match_ordering r (x ∷ z ∷ zs) (z ∷ zs) (z ∷ with_item cmp x zs))) [
        | Less ↦ (l, b)
        | Equal ↦ b
        | Greater ↦ (b.0, before-with_item y x zs l b.1)
      ]

  IsStrictlySortedBy-with_item : (x : A) (s : List A) → IsStrictlySortedBy cmp s → IsStrictlySortedBy cmp (with_item cmp x s)
  unfolding IsStrictlySortedBy
  IsStrictlySortedBy-with_item x [] s = (tt, tt)
  IsStrictlySortedBy-with_item x (y ∷ ys) s =
      elim (cmp x y) as (λ r. cmp x y ≡ r → IsStrictlySortedBy cmp (match_ordering r (x ∷ y ∷ ys) (y ∷ ys) (y ∷ with_item cmp x ys))) [
        | Less ↦ λ e. ((e, before_all x y ys e s.0), s)
        | Equal ↦ λ e. s
        | Greater ↦ λ e. (before-with_item y x ys (turned x y e) s.0, IsStrictlySortedBy-with_item x ys s.1)
      ] refl

  -- a set ascends
  pub IsStrictlySortedBy-set_of : (xs : List A) → IsStrictlySortedBy cmp (set_of cmp xs)
  unfolding IsStrictlySortedBy
  IsStrictlySortedBy-set_of [] = tt
  IsStrictlySortedBy-set_of (x ∷ xs) = IsStrictlySortedBy-with_item x (set_of cmp xs) (IsStrictlySortedBy-set_of xs)

  -- what is before each item is none of them
  pub has_not : (x : A) (s : List A) → IsBefore cmp x s → has cmp x s ≡ false
  has_not x [] b = refl
  has_not x (y ∷ ys) b = ap (λ r. is_eq r || has cmp x ys) b.0 ∙ has_not x ys b.1

  has_itself : (x : A) (xs : List A) → has cmp x (x ∷ xs) ≡ true
  has_itself x xs = ap (λ r. is_eq r || has cmp x xs) (tied_itself o.total x)

  -- without their first item, sets with the same items have the same items
  same_rest : (x : A) (xs ys : List A) → IsBefore cmp x xs → IsBefore cmp x ys → ((q : A) → has cmp q (x ∷ xs) ≡ has cmp q (x ∷ ys)) → (q : A) → has cmp q xs ≡ has cmp q ys
  same_rest x xs ys bx by same q =
      elim (eq_by_cmp cmp q x) as (λ b. eq_by_cmp cmp q x ≡ b → (b || has cmp q xs) ≡ (b || has cmp q ys) → has cmp q xs ≡ has cmp q ys) [
        | true ↦ λ t e. subst (λ z. has cmp z xs ≡ has cmp z ys) (sym (ties q x t)) (has_not x xs bx ∙ sym (has_not x ys by))
        | false ↦ λ f e. e
      ] refl (same q)

  -- ascending lists with the same items are equal
  pub same_sets : (s t : List A) → IsStrictlySortedBy cmp s → IsStrictlySortedBy cmp t → ((q : A) → has cmp q s ≡ has cmp q t) → s ≡ t
  unfolding IsStrictlySortedBy
  same_sets [] [] is it same = refl
  same_sets [] (y ∷ ys) is it same = not_both (has cmp y []) (same y ∙ has_itself y ys) refl
  same_sets (x ∷ xs) [] is it same = not_both (has cmp x []) (sym (same x) ∙ has_itself x xs) refl
  same_sets (x ∷ xs) (y ∷ ys) is it same =
      elim (cmp x y) as (λ r. cmp x y ≡ r → x ∷ xs ≡ y ∷ ys) [
        | Less ↦ λ e. not_both (has cmp x (y ∷ ys)) (sym (same x) ∙ has_itself x xs) (has_not x (y ∷ ys) (e, before_all x y ys e it.0))
        | Equal ↦ λ e.
            let one : x ≡ y = o.exact x y e in
            let both : (q : A) → has cmp q (x ∷ xs) ≡ has cmp q (x ∷ ys) = λ q. same q ∙ ap (λ z. has cmp q (z ∷ ys)) (sym one) in
            let rest : xs ≡ ys = same_sets xs ys is.1 it.1 (same_rest x xs ys is.0 (subst (λ z. IsBefore cmp z ys) (sym one) it.0) both) in
            λ i. one i ∷ rest i
        | Greater ↦ λ e. not_both (has cmp y (x ∷ xs)) (same y ∙ has_itself y ys) (has_not y (x ∷ xs) (turned x y e, before_all y x xs (turned x y e) is.0))
      ] refl

  -- lists with the same items have one set
  pub set_of_same : (xs ys : List A) → ((q : A) → has cmp q xs ≡ has cmp q ys) → set_of cmp xs ≡ set_of cmp ys
  set_of_same xs ys same = same_sets _ _ (IsStrictlySortedBy-set_of xs) (IsStrictlySortedBy-set_of ys) (λ q. has-set_of q xs ∙ same q ∙ sym (has-set_of q ys))

  -- the order of a list does not matter to its set
  pub set_of-IsPermutation : (xs ys : List A) → IsPermutation xs ys → set_of cmp xs ≡ set_of cmp ys
  set_of-IsPermutation xs ys p = set_of_same xs ys (λ q. list_any-IsPermutation (eq_by_cmp cmp q) xs ys p)

  -- an ascending list is its own set
  pub set_of-ascending : (xs : List A) → IsStrictlySortedBy cmp xs → set_of cmp xs ≡ xs
  set_of-ascending xs ascends = same_sets _ _ (IsStrictlySortedBy-set_of xs) ascends (λ q. has-set_of q xs)

  or_swapped : (a b : Bool) → (a || (b || false)) ≡ (b || a)
  or_swapped true true = refl
  or_swapped true false = refl
  or_swapped false true = refl
  or_swapped false false = refl

  -- one more item at the end of the list is one more item of the set
  pub set_of-push : (xs : List A) (x : A) → set_of cmp (xs ++ x ∷ []) ≡ with_item cmp x (set_of cmp xs)
  set_of-push xs x = set_of_same (xs ++ x ∷ []) (x ∷ xs) (λ q. list_any-append (eq_by_cmp cmp q) xs (x ∷ []) ∙ or_swapped (has cmp q xs) (eq_by_cmp cmp q x))

-- what a total is taken by: an operation that is associative and commutative, with a unit
pub record IsCommutative {M : Type 0} (op : M → M → M) (unit : M) : Type 0 where
  pub assoc : (a b c : M) → op (op a b) c ≡ op a (op b c)
  pub comm : (a b : M) → op a b ≡ op b a
  pub left_unit : (a : M) → op unit a ≡ a

-- F is the total of g over a list
pub record IsTotal {A M : Type 0} (op : M → M → M) (unit : M) (g : A → M) (F : List A → M) : Type 0 where
  pub none : F [] ≡ unit
  pub one_more : (x : A) (xs : List A) → F (x ∷ xs) ≡ op (g x) (F xs)

second_false : (a b : Bool) → (a && b) ≡ false → a ≡ true → b ≡ false
second_false true b e t = e
second_false false b e t = absurd (false≢true t)

or_true : (a b : Bool) → a ≡ true → (a || b) ≡ true
or_true true b e = refl
or_true false b e = absurd (false≢true e)

and_rest : (a b c : Bool) → ((a || b) && c) ≡ false → (b && c) ≡ false
and_rest true b false e = elim b as (λ b. (b && false) ≡ false) [ true ↦ refl | false ↦ refl ]
and_rest true b true e = absurd (false≢true (sym e))
and_rest false b c e = e

module _ {A : Type 0} {cmp : A → A → Ordering} (o : IsExactOrder cmp) where
  -- an item that a set has changes nothing
  pub item_again : (x : A) (s : List A) → IsStrictlySortedBy cmp s → has cmp x s ≡ true → with_item cmp x s ≡ s
  unfolding IsStrictlySortedBy
  item_again x [] is h = absurd (false≢true h)
  item_again x (y ∷ ys) is h =
      elim (cmp x y) as (λ r. cmp x y ≡ r → (is_eq r || has cmp x ys) ≡ true → match_ordering r (x ∷ y ∷ ys) (y ∷ ys) (y ∷ with_item cmp x ys) ≡ y ∷ ys) [
        | Less ↦ λ e h. not_both (has cmp x ys) h (has_not o x ys (before_all o x y ys e is.0))
        | Equal ↦ λ e h. refl
        | Greater ↦ λ e h. ap (λ t. y ∷ t) (item_again x ys is.1 h)
      ] refl h

  module _ {M : Type 0} {op : M → M → M} {unit : M} (c : IsCommutative op unit) {g : A → M} {F : List A → M} (t : IsTotal op unit g F) where
    op_swap : (a b d : M) → op a (op b d) ≡ op b (op a d)
    op_swap a b d = sym (c.assoc a b d) ∙ ap (λ m. op m d) (c.comm a b) ∙ c.assoc b a d

    -- a new item adds its share
    pub item_new : (x : A) (s : List A) → has cmp x s ≡ false → F (with_item cmp x s) ≡ op (g x) (F s)
    item_new x [] h = t.one_more x []
    item_new x (y ∷ ys) h =
        elim (cmp x y) as (λ r. (is_eq r || has cmp x ys) ≡ false → F (match_ordering r (x ∷ y ∷ ys) (y ∷ ys) (y ∷ with_item cmp x ys)) ≡ op (g x) (F (y ∷ ys))) [
          | Less ↦ λ h. t.one_more x (y ∷ ys)
          | Equal ↦ λ h. absurd (false≢true (sym h))
          | Greater ↦ λ h. t.one_more y (with_item cmp x ys) ∙ ap (op (g y)) (item_new x ys h) ∙ op_swap (g y) (g x) (F ys) ∙ ap (op (g x)) (sym (t.one_more y ys))
        ] h

    -- the total over the set of two lists without a common item
    pub total-set_of-append : (us vs : List A) → ((q : A) → (has cmp q us && has cmp q vs) ≡ false) → F (set_of cmp (us ++ vs)) ≡ op (F (set_of cmp us)) (F (set_of cmp vs))
    total-set_of-append [] vs apart = sym (ap (λ m. op m (F (set_of cmp vs))) t.none ∙ c.left_unit (F (set_of cmp vs)))
    total-set_of-append (u ∷ us) vs apart =
        let all : has cmp u (set_of cmp (us ++ vs)) ≡ (has cmp u us || has cmp u vs) = has-set_of o u (us ++ vs) ∙ list_any-append (eq_by_cmp cmp u) us vs in
        let not_later : has cmp u vs ≡ false = second_false (has cmp u (u ∷ us)) (has cmp u vs) (apart u) (has_itself o u us) in
        let rest : F (set_of cmp (us ++ vs)) ≡ op (F (set_of cmp us)) (F (set_of cmp vs)) = total-set_of-append us vs (λ q. and_rest (eq_by_cmp cmp q u) (has cmp q us) (has cmp q vs) (apart q)) in
        elim (has cmp u us) as (λ b. has cmp u us ≡ b → F (with_item cmp u (set_of cmp (us ++ vs))) ≡ op (F (with_item cmp u (set_of cmp us))) (F (set_of cmp vs))) [
          | true ↦ λ e.
              ap F (item_again u (set_of cmp (us ++ vs)) (IsStrictlySortedBy-set_of o (us ++ vs)) (all ∙ or_true (has cmp u us) (has cmp u vs) e))
              ∙ rest ∙ ap (λ s. op (F s) (F (set_of cmp vs))) (sym (item_again u (set_of cmp us) (IsStrictlySortedBy-set_of o us) (has-set_of o u us ∙ e)))
          | false ↦ λ e.
              item_new u (set_of cmp (us ++ vs)) (all ∙ ap (λ b. b || has cmp u vs) e ∙ not_later)
              ∙ ap (op (g u)) rest ∙ sym (c.assoc (g u) (F (set_of cmp us)) (F (set_of cmp vs)))
              ∙ ap (λ m. op m (F (set_of cmp vs))) (sym (item_new u (set_of cmp us) (has-set_of o u us ∙ e)))
        ] refl

    -- no item of one list is in two of the lists that h gives
    abbrev pub AreApart : {G : Type 0} → (G → List A) → List G → Type 0
    AreApart h [] = Unit {0}
    AreApart h (x ∷ xs) = ((q : A) → (has cmp q (h x) && has cmp q (flat_map h xs)) ≡ false) × AreApart h xs

    -- the totals of all the lists together
    abbrev pub total_of_each : {G : Type 0} → (G → List A) → List G → M
    total_of_each h [] = unit
    total_of_each h (x ∷ xs) = op (F (set_of cmp (h x))) (total_of_each h xs)

    -- the total over the set of several lists without a common item is the total of their totals
    pub total-set_of-flat_map : {G : Type 0} (h : G → List A) (xs : List G) → AreApart h xs → F (set_of cmp (flat_map h xs)) ≡ total_of_each h xs
    total-set_of-flat_map h [] apart = t.none
    total-set_of-flat_map h (x ∷ xs) apart = total-set_of-append (h x) (flat_map h xs) apart.0 ∙ ap (op (F (set_of cmp (h x)))) (total-set_of-flat_map h xs apart.1)

-- ---- operations to which an item that comes twice is as one

module _ {A : Type 0} {cmp : A → A → Ordering} (o : IsExactOrder cmp) {M : Type 0} {op : M → M → M} {unit : M} (c : IsCommutative op unit) {g : A → M} {F : List A → M} (t : IsTotal op unit g F) (twice : (a : M) → op a a ≡ a) where
  swap_front : (a b d : M) → op a (op b d) ≡ op b (op a d)
  swap_front a b d = sym (c.assoc a b d) ∙ ap (λ m. op m d) (c.comm a b) ∙ c.assoc b a d

  absorbed : (x : A) (s : List A) → has cmp x s ≡ true → op (g x) (F s) ≡ F s
  absorbed x [] h = absurd (false≢true h)
  absorbed x (y ∷ ys) h =
      elim (eq_by_cmp cmp x y) as (λ b. eq_by_cmp cmp x y ≡ b → (b || has cmp x ys) ≡ true → op (g x) (F (y ∷ ys)) ≡ F (y ∷ ys)) [
        | true ↦ λ e h. ap (op (g x)) (t.one_more y ys) ∙ sym (c.assoc (g x) (g y) (F ys))
            ∙ ap (λ m. op m (F ys)) (ap (λ z. op (g z) (g y)) (ties o x y e) ∙ twice (g y)) ∙ sym (t.one_more y ys)
        | false ↦ λ e h. ap (op (g x)) (t.one_more y ys) ∙ swap_front (g x) (g y) (F ys) ∙ ap (op (g y)) (absorbed x ys h) ∙ sym (t.one_more y ys)
      ] refl h

  -- a least or greatest value over a list is that over its set
  pub total-set_of : (xs : List A) → F (set_of cmp xs) ≡ F xs
  total-set_of [] = refl
  total-set_of (x ∷ xs) =
      elim (has cmp x (set_of cmp xs)) as (λ b. has cmp x (set_of cmp xs) ≡ b → F (with_item cmp x (set_of cmp xs)) ≡ F (x ∷ xs)) [
        | true ↦ λ e. ap F (item_again o x (set_of cmp xs) (IsStrictlySortedBy-set_of o xs) e) ∙ sym (absorbed x (set_of cmp xs) e) ∙ ap (op (g x)) (total-set_of xs) ∙ sym (t.one_more x xs)
        | false ↦ λ e. item_new o c t x (set_of cmp xs) e ∙ ap (op (g x)) (total-set_of xs) ∙ sym (t.one_more x xs)
      ] refl

-- the set of images is the images of the set, under the order of the images
pub set_of-map : {G A : Type 0} (cmp : A → A → Ordering) (f : G → A) (gs : List G) → set_of cmp (map f gs) ≡ map f (set_of (on f cmp) gs)
set_of-map cmp f [] = refl
set_of-map {G} {A} cmp f (g ∷ gs) = ap (with_item cmp (f g)) (set_of-map cmp f gs) ∙ one_more (set_of (on f cmp) gs)
  where
    one_more : (s : List G) → with_item cmp (f g) (map f s) ≡ map f (with_item (on f cmp) g s)
    one_more [] = refl
    one_more (h ∷ hs) =
        elim (cmp (f g) (f h)) as (λ r. match_ordering r (f g ∷ f h ∷ map f hs) (f h ∷ map f hs) (f h ∷ with_item cmp (f g) (map f hs)) ≡ map f (match_ordering r (g ∷ h ∷ hs) (h ∷ hs) (h ∷ with_item (on f cmp) g hs))) [
          | Less ↦ refl
          | Equal ↦ refl
          | Greater ↦ ap (λ t. f h ∷ t) (one_more hs)
        ]

-- ---- the first of two items

module _ {A : Type 0} {cmp : A → A → Ordering} (o : IsExactOrder cmp) where
  pub first_of-twice : (a : A) → first_of cmp a a ≡ a
  first_of-twice a = elim (is_gt (cmp a a)) as (λ b. (if b then a else a) ≡ a) [ true ↦ refl | false ↦ refl ]

  pub first_of-comm : (a b : A) → first_of cmp a b ≡ first_of cmp b a
  first_of-comm a b =
      elim (cmp a b) as (λ r. cmp a b ≡ r → (if is_gt r then b else a) ≡ first_of cmp b a) [
        | Less ↦ λ e. ap (λ r. if is_gt r then a else b) (sym (o.total.antisymm b a ∙ ap ordering_reverse e))
        | Equal ↦ λ e. o.exact a b e ∙ sym (ap (λ r. if is_gt r then a else b) (o.total.antisymm b a ∙ ap ordering_reverse e))
        | Greater ↦ λ e. ap (λ r. if is_gt r then a else b) (sym (o.total.antisymm b a ∙ ap ordering_reverse e))
      ] refl

  first_at : (a b : A) (r : Ordering) → cmp a b ≡ r → first_of cmp a b ≡ (if is_gt r then b else a)
  first_at a b r e = ap (λ r. if is_gt r then b else a) e

  turned_back : (x y : A) → cmp x y ≡ Greater → cmp y x ≡ Less
  turned_back x y g = o.total.antisymm y x ∙ ap ordering_reverse g

  turned_over : (x y : A) → cmp x y ≡ Less → cmp y x ≡ Greater
  turned_over x y l = o.total.antisymm y x ∙ ap ordering_reverse l

  pub first_of-assoc : (a b c : A) → first_of cmp (first_of cmp a b) c ≡ first_of cmp a (first_of cmp b c)
  first_of-assoc a b c =
      elim (cmp a b) as (λ r. cmp a b ≡ r → first_of cmp (if is_gt r then b else a) c ≡ first_of cmp a (first_of cmp b c)) [
        | Less ↦ λ ab. elim (cmp b c) as (λ s. cmp b c ≡ s → first_of cmp a c ≡ first_of cmp a (if is_gt s then c else b)) [
          | Less ↦ λ bc. first_at a c Less (o.total.trans a b c ab bc) ∙ sym (first_at a b Less ab)
          | Equal ↦ λ bc. ap (first_of cmp a) (sym (o.exact b c bc))
          | Greater ↦ λ bc. refl
        ] refl
        | Equal ↦ λ ab. let one : a ≡ b = o.exact a b ab in
            elim (cmp b c) as (λ s. cmp b c ≡ s → first_of cmp a c ≡ first_of cmp a (if is_gt s then c else b)) [
              | Less ↦ λ bc. first_at a c Less (ap (λ z. cmp z c) one ∙ bc) ∙ sym (first_at a b Equal ab)
              | Equal ↦ λ bc. ap (first_of cmp a) (sym (o.exact b c bc))
              | Greater ↦ λ bc. refl
            ] refl
        | Greater ↦ λ ab. elim (cmp b c) as (λ s. cmp b c ≡ s → first_of cmp b c ≡ first_of cmp a (if is_gt s then c else b)) [
          | Less ↦ λ bc. first_at b c Less bc ∙ sym (first_at a b Greater ab)
          | Equal ↦ λ bc. first_at b c Equal bc ∙ sym (first_at a b Greater ab)
          | Greater ↦ λ bc. first_at b c Greater bc ∙ sym (first_at a c Greater (turned_over c a (o.total.trans c b a (turned_back b c bc) (turned_back a b ab))))
        ] refl
      ] refl
