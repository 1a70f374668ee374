-- A bound query of a resolved model is in the model.
use Rattle.std.proofs.Common.{◌≡◌, ◌∙◌, ◌≤◌, ℕ, zero, suc, Bool, true, false, cond, not, ◌&&◌, List, [], ◌∷◌, ◌++◌, length, Option, Some, None, option_map, IfOk, refl, sym, ap, subst, arith}
use Rattle.std.specs.Prelude.{ℤ, pos, negsuc, nat_lt, nat_le, ⊤, Result, Ok, Err, is_ok, if◌then◌else◌, position, filter, slice_index_or}
use Rattle.std.specs.Result.{result_unwrap_or}
use Rattle.std.specs.List.{AllByRecursion, list_all, position_or_len}
use Rattle.std.proofs.lemmas.Bool.{and_from, and_parts, false≢true, leb-true, lt-ltb, ltb-true}
use Rattle.std.proofs.lemmas.List.Folds.{list_all-append, list_all-map}
use Rattle.lk_val.specs.Texts.{is_same_text}
use Rattle.lk_val.specs.Years.{IsMomentInYears}
use Rattle.lk_types.specs.Expressions.{has_number}
use Rattle.lk_types.specs.Filters.{is_filter_of, is_placed, placed}
use Rattle.lk_types.specs.declared.bound.Bound.{Bound}
use Rattle.lk_types.specs.declared.bound.Query.{Query}
use Rattle.lk_types.specs.declared.bound.Sort.{Sort}
use Rattle.lk_types.specs.declared.explore.Explore.{Explore}
use Rattle.lk_types.specs.declared.filter.Filter.{Filter}
use Rattle.lk_types.specs.declared.model.Model.{Model}
use Rattle.lk_types.specs.declared.model.Pick.{Pick}
use Rattle.lk_types.specs.declared.model.Pick.TheVariants.{Dim, Mea}
use Rattle.lk_types.specs.declared.schema.Kind.{Kind}
use Rattle.lk_semantics.specs.Answers.{filtered, measure_at, query_components}
use Rattle.lk_semantics.specs.Derived.{by_name, explore_at, no_explore, put_by_name, with_always}
use Rattle.lk_semantics.specs.Rows.{field_at}
use Rattle.lk_semantics.specs.Resolved.{IsInModel, IsResolved, IsResolvedExplore, are_filters_of, are_measure_filters, is_numbered_explore, is_pick}
use Rattle.lk_filter.specs.FilterTexts.{IsFilterText}
use Rattle.lk_filter.specs.PlacedModel.{placed_field_filter}
use Rattle.lk_filter.proofs.PlacingLaws.{placed-placed}
use Rattle.lk_schema.specs.Users.{attribute_of}
use Rattle.lk_schema.specs.declared.users.Users.{Users}
use Rattle.lk_body.specs.Bodies.{query_of}
use Rattle.lk_body.specs.declared.fault.QueryFault.{QueryFault}
use Rattle.lk_body.specs.declared.fault.QueryFault.TheVariants.{Q1, Q4, Q7, Q8}
use Rattle.lk_query.specs.Bindings.{IsBodyBound, IsBodyBoundOver, IsBound, IsBoundBehind, IsBoundFrom, IsBoundOver, bound_of, bound_unless, bound_with, each_placed, filters_at, first_repeated, on_dims, on_measures, request_from, request_of}
use Rattle.lk_query.specs.Callers.{access_text, access_texts, explore_named, lacks, user_known}
use Rattle.lk_query.specs.Names.{filter_kind_of, filter_on, filters_of, limit_of, named_filter, named_sort, or_measure, pick_kind, pick_named, picks_of, sorts_of, unknown_filter}
use Rattle.lk_query.specs.Names as names
use Rattle.lk_query.specs.Readings.{AreRead, PickFilter, nothing, read, refused, later}
use Rattle.lk_query.specs.Refusals.{each_found, found_or, found_then}
use Rattle.lk_query.specs.Rows.{is_first_field}
use Rattle.lk_query.proofs.KindLaws.{kind_read}
use Rattle.lk_query.proofs.KindSteps.{not_some, some_same}
use Rattle.lk_query.proofs.PlacedKindLaws.{kind_placed}
use Rattle.lk_query.specs.declared.request.Request.{Request}
use Rattle.lk_query.specs.declared.texts.FilterText.{FilterText}

-- ---- lists

module _ {A : Type 0} (p : A → Bool) where
  joined : (xs ys : List A) → list_all p xs ≡ true → list_all p ys ≡ true → list_all p (xs ++ ys) ≡ true
  joined xs ys h k = list_all-append p xs ys ∙ and_from (list_all p xs) (list_all p ys) h k

  kept : (q : A → Bool) (xs : List A) → list_all p xs ≡ true → list_all p (filter q xs) ≡ true
  kept q [] h = refl
  kept q (x ∷ xs) h =
      let parts = and_parts (p x) (list_all p xs) h in
      elim (q x) as (λ b. list_all p (cond b (x ∷ filter q xs) (filter q xs)) ≡ true) [
        | true ↦ and_from (p x) (list_all p (filter q xs)) parts.0 (kept q xs parts.1)
        | false ↦ kept q xs parts.1
      ]

-- ---- what is found

module _ {A B : Type 0} (refusal : A → QueryFault) (found : A → Option B) (q : A → Bool) (p : B → Bool) (good : (a : A) (b : B) → q a ≡ true → found a ≡ Some b → p b ≡ true) where
  abbrev AreGood : List A → Result (List B) QueryFault → Type 0
  AreGood items r = IfOk r (λ bs. (list_all p bs ≡ true) × (length bs ≡ length items))

  next_good : (a : A) (items : List A) (o : Option B) → q a ≡ true → found a ≡ o → (rest : Result (List B) QueryFault) → AreGood items rest → AreGood (a ∷ items) (found_then refusal found a o rest)
  next_good a items None which is rest h = tt
  next_good a items (Some b) which is (Err fault) h = tt
  next_good a items (Some b) which is (Ok bs) h = (and_from (p b) (list_all p bs) (good a b which is) h.0, ap suc h.1)

  all_good : (items : List A) → list_all q items ≡ true → AreGood items (each_found refusal found items)
  all_good [] h = (refl, refl)
  all_good (a ∷ items) h =
      let parts = and_parts (q a) (list_all q items) h in
      next_good a items (found a) parts.0 refl (each_found refusal found items) (all_good items parts.1)

-- what is found for each has the property
module _ {A B : Type 0} (refusal : A → QueryFault) (found : A → Option B) (P : B → Type 0) (fits : (a : A) (b : B) → found a ≡ Some b → P b) where
  next_fits : (a : A) (o : Option B) → found a ≡ o → (rest : Result (List B) QueryFault) → IfOk rest (AllByRecursion P) → IfOk (found_then refusal found a o rest) (AllByRecursion P)
  next_fits a None is rest h = tt
  next_fits a (Some b) is (Err fault) h = tt
  next_fits a (Some b) is (Ok bs) h = (fits a b is, h)

  all_fit : (items : List A) → IfOk (each_found refusal found items) (AllByRecursion P)
  all_fit [] = tt
  all_fit (a ∷ items) = next_fits a (found a) refl (each_found refusal found items) (all_fit items)

abbrev any : {A : Type 0} → A → Bool
any a = true

all_any : {A : Type 0} (items : List A) → list_all any items ≡ true
all_any [] = refl
all_any (a ∷ items) = all_any items

place_within : (b : Bool) (k i n : ℕ) → nat_lt k n ≡ b → cond b (Some k) None ≡ Some i → nat_lt i n ≡ true
place_within true k i n is e = subst (λ j. nat_lt j n ≡ true) (some_same k i e) is
place_within false k i n is e = not_some i e

within : {A : Type 0} (p : A → Bool) (xs : List A) (i : ℕ) → position p xs ≡ Some i → nat_lt i (length xs) ≡ true
within p xs i e = place_within (nat_lt (position_or_len p xs) (length xs)) (position_or_len p xs) i (length xs) refl e

module _ (x : Explore) where
  abbrev is_on : FilterText → Bool
  is_on t = is_pick x t.on

  abbrev is_read_on : PickFilter → Bool
  is_read_on f = is_pick x f.0

  pick_from : (f m : Option ℕ) (pick : Pick) → ((i : ℕ) → f ≡ Some i → nat_lt i (length x.fields) ≡ true) → ((i : ℕ) → m ≡ Some i → nat_lt i (length x.measures) ≡ true) → or_measure f m ≡ Some pick → is_pick x pick ≡ true
  pick_from (Some f) m pick fields measures e = subst (λ p. is_pick x p ≡ true) (some_same (Dim f) pick e) (fields f refl)
  pick_from None (Some m) pick fields measures e = subst (λ p. is_pick x p ≡ true) (some_same (Mea m) pick e) (measures m refl)
  pick_from None None pick fields measures e = not_some pick e

  pick_good : (name : List ℕ) (pick : Pick) → pick_named x name ≡ Some pick → is_pick x pick ≡ true
  pick_good name pick e =
      pick_from (position (λ f. is_same_text name f.name) x.fields) (position (λ m. is_same_text name m.name) x.measures) pick
      (within (λ f. is_same_text name f.name) x.fields) (within (λ m. is_same_text name m.name) x.measures) e

  named_from : (f : List ℕ × List ℕ) (o : Option Pick) (t : FilterText) → pick_named x f.0 ≡ o → option_map (λ on. filter_on x on f.0 f.1) o ≡ Some t → is_on t ≡ true
  named_from f None t is e = not_some t e
  named_from f (Some on) t is e = subst (λ u. is_on u ≡ true) (some_same (filter_on x on f.0 f.1) t e) (pick_good f.0 on is)

  access_from : (access : ℕ × List ℕ) (o : Option (List ℕ)) (t : FilterText) → nat_lt access.0 (length x.fields) ≡ true → option_map (filter_on x (Dim access.0) (field_at x access.0).name) o ≡ Some t → is_on t ≡ true
  access_from access None t inside e = not_some t e
  access_from access (Some text) t inside e = subst (λ u. is_on u ≡ true) (some_same (filter_on x (Dim access.0) (field_at x access.0).name text) t e) inside

  -- a text is to be a filter for the kind of what it is on
  abbrev IsOfKind : FilterText → Type 0
  IsOfKind t = t.kind ≡ filter_kind_of (pick_kind x t.on)

  named_kind : (name text : List ℕ) (o : Option Pick) (t : FilterText) → option_map (λ on. filter_on x on name text) o ≡ Some t → IsOfKind t
  named_kind name text None t e = not_some t e
  named_kind name text (Some on) t e = subst IsOfKind (some_same (filter_on x on name text) t e) refl

  access_kind : (on : Pick) (name : List ℕ) (o : Option (List ℕ)) (t : FilterText) → option_map (filter_on x on name) o ≡ Some t → IsOfKind t
  access_kind on name None t e = not_some t e
  access_kind on name (Some text) t e = subst IsOfKind (some_same (filter_on x on name text) t e) refl

  sort_from : (fields : List (List ℕ)) (sort : List ℕ × Bool) (o : Option ℕ) (s : Sort) → ((i : ℕ) → o ≡ Some i → nat_lt i (length fields) ≡ true) → option_map (λ place. record { place = place; down = sort.1 }) o ≡ Some s → nat_lt s.place (length fields) ≡ true
  sort_from fields sort None s inside e = not_some s e
  sort_from fields sort (Some place) s inside e = subst (λ (z : Sort). nat_lt z.place (length fields) ≡ true) (some_same (record { place = place; down = sort.1 }) s e) (inside place refl)

limit_from : (b : Bool) (n : ℕ) (fault : QueryFault) → (nat_le 1 n && nat_le n 5000) ≡ b → IfOk (if b then Ok n else Err fault) (λ k. (nat_le 1 k && nat_le k 5000) ≡ true)
limit_from true n fault is = is
limit_from false n fault is = tt

limit_good : (limit : ℤ) → IfOk (limit_of limit) (λ k. (nat_le 1 k && nat_le k 5000) ≡ true)
limit_good (pos n) = limit_from (nat_le 1 n && nat_le n 5000) n (Q8 (pos n)) refl
limit_good (negsuc n) = tt

-- ---- the request

record IsRequest (x : Explore) (r : Request) : Type 0 where
  limit : (nat_le 1 r.limit && nat_le r.limit 5000) ≡ true
  picks : list_all (is_pick x) r.picks ≡ true
  filters : list_all (is_on x) r.filters ≡ true
  sorts : list_all (λ s. nat_lt s.place (length r.picks)) r.sorts ≡ true
  access : list_all (is_on x) r.access ≡ true
  filter_kinds : AllByRecursion (IsOfKind x) r.filters
  access_kinds : AllByRecursion (IsOfKind x) r.access

module _ (x : Explore) (n : ℕ) where
  request_from_good : (limit : Result ℕ QueryFault) (picks : Result (List Pick) QueryFault) (filters : Result (List FilterText) QueryFault) (sorts : Result (List Sort) QueryFault) (access : Result (List FilterText) QueryFault)
      → IfOk limit (λ k. (nat_le 1 k && nat_le k 5000) ≡ true) → IfOk picks (λ ps. (list_all (is_pick x) ps ≡ true) × (length ps ≡ n)) → IfOk filters (λ ts. list_all (is_on x) ts ≡ true)
      → IfOk sorts (λ ss. list_all (λ s. nat_lt s.place n) ss ≡ true) → IfOk access (λ ts. list_all (is_on x) ts ≡ true)
      → IfOk filters (AllByRecursion (IsOfKind x)) → IfOk access (AllByRecursion (IsOfKind x)) → IfOk (request_from limit picks filters sorts access) (IsRequest x)
  request_from_good (Err fault) picks filters sorts access a b c d e f g = tt
  request_from_good (Ok limit) (Err fault) filters sorts access a b c d e f g = tt
  request_from_good (Ok limit) (Ok picks) (Err fault) sorts access a b c d e f g = tt
  request_from_good (Ok limit) (Ok picks) (Ok filters) (Err fault) access a b c d e f g = tt
  request_from_good (Ok limit) (Ok picks) (Ok filters) (Ok sorts) (Err fault) a b c d e f g = tt
  request_from_good (Ok limit) (Ok picks) (Ok filters) (Ok sorts) (Ok access) a b c d e f g =
      record { limit = a; picks = b.0; filters = c; sorts = subst (λ k. list_all (λ s. nat_lt s.place k) sorts ≡ true) (sym b.1) d; access = e; filter_kinds = f; access_kinds = g }

first : {A : Type 0} (r : Result A QueryFault) (P Q : A → Type 0) → IfOk r (λ a. P a × Q a) → IfOk r P
first (Ok a) P Q h = h.0
first (Err fault) P Q h = tt

request_good : (x : Explore) (users : Users) (user : List ℕ) (q : Query) → list_all (λ a. nat_lt a.0 (length x.fields)) x.access ≡ true → IfOk (request_of x users user q) (IsRequest x)
request_good x users user q inside =
    request_from_good x (length q.fields) (limit_of q.limit) (picks_of x q.fields) (filters_of x q.filters) (sorts_of q.fields q.sorts) (access_texts x users user)
    (limit_good q.limit)
    (all_good Q4 (pick_named x) any (is_pick x) (λ name pick _ e. pick_good x name pick e) q.fields (all_any q.fields))
    (first (filters_of x q.filters) (λ ts. list_all (is_on x) ts ≡ true) (λ ts. length ts ≡ length (names.by_name q.filters))
    (all_good unknown_filter (named_filter x) any (is_on x) (λ f t _ e. named_from x f (pick_named x f.0) t refl e) (names.by_name q.filters) (all_any (names.by_name q.filters))))
    (first (sorts_of q.fields q.sorts) (λ ss. list_all (λ s. nat_lt s.place (length q.fields)) ss ≡ true) (λ ss. length ss ≡ length q.sorts)
    (all_good (λ s. Q4 s.0) (named_sort q.fields) any (λ s. nat_lt s.place (length q.fields)) (λ s z _ e. sort_from x q.fields s (position (is_same_text s.0) q.fields) z (within (is_same_text s.0) q.fields) e) q.sorts (all_any q.sorts)))
    (first (access_texts x users user) (λ ts. list_all (is_on x) ts ≡ true) (λ ts. length ts ≡ length x.access)
    (all_good (lacks x) (access_text x users user) (λ a. nat_lt a.0 (length x.fields)) (is_on x) (λ a t which e. access_from x a (attribute_of users user a.1) t which e) x.access inside))
    (all_fit unknown_filter (named_filter x) (IsOfKind x) (λ f t e. named_kind x f.0 f.1 (pick_named x f.0) t e) (names.by_name q.filters))
    (all_fit (lacks x) (access_text x users user) (IsOfKind x) (λ a t e. access_kind x (Dim a.0) (field_at x a.0).name (attribute_of users user a.1) t e) x.access)

-- ---- the filters

module _ (x : Explore) where
  read_on : {ts : List FilterText} {r : Result (List PickFilter) QueryFault} → AreRead ts r → list_all (is_on x) ts ≡ true → IfOk r (λ fs. list_all (is_read_on x) fs ≡ true)
  read_on nothing h = refl
  read_on (read {t = t} {ts = ts} {f = f} {fs = fs} is are) h =
      let parts = and_parts (is_on x t) (list_all (is_on x) ts) h in
      and_from (is_on x t) (list_all (is_read_on x) fs) parts.0 (read_on are parts.1)
  read_on (refused is) h = tt
  read_on (later f is are) h = tt

  -- a filter is one of the kind of what it is on
  abbrev has_kind : PickFilter → Bool
  has_kind f = is_filter_of (pick_kind x f.0) f.1

  read_kinds : {ts : List FilterText} {r : Result (List PickFilter) QueryFault} → AreRead ts r → AllByRecursion (IsOfKind x) ts → IfOk r (λ fs. list_all has_kind fs ≡ true)
  read_kinds nothing h = refl
  read_kinds (read {t = t} {ts = ts} {f = f} {fs = fs} is are) h =
      and_from (is_filter_of (pick_kind x t.on) f) (list_all has_kind fs) (kind_read (pick_kind x t.on) f t.text (subst (λ k. IsFilterText k f t.text) h.0 is)) (read_kinds are h.1)
  read_kinds (refused is) h = tt
  read_kinds (later f is are) h = tt

  abbrev is_field : ℕ × Filter → Bool
  is_field f = nat_lt f.0 (length x.fields)

  abbrev is_measure : ℕ × Filter → Bool
  is_measure f = nat_lt f.0 (length x.measures)

  abbrev has_field_kind : ℕ × Filter → Bool
  has_field_kind f = is_filter_of (field_at x f.0).kind f.1

  abbrev has_measure_kind : ℕ × Filter → Bool
  has_measure_kind f = is_filter_of (measure_at x f.0).kind f.1

  -- what holds of the filters that were read, holds of those on dimensions and of those on measures
  module _ (p : PickFilter → Bool) where
    dims_in : (fs : List PickFilter) → list_all p fs ≡ true → list_all (λ f. p (Dim f.0, f.1)) (on_dims fs) ≡ true
    dims_in [] h = refl
    dims_in ((Dim f, filter) ∷ fs) h =
        let parts = and_parts (p (Dim f, filter)) (list_all p fs) h in
        and_from (p (Dim f, filter)) (list_all (λ f. p (Dim f.0, f.1)) (on_dims fs)) parts.0 (dims_in fs parts.1)
    dims_in ((Mea m, filter) ∷ fs) h = dims_in fs (and_parts (p (Mea m, filter)) (list_all p fs) h).1

    measures_in : (fs : List PickFilter) → list_all p fs ≡ true → list_all (λ f. p (Mea f.0, f.1)) (on_measures fs) ≡ true
    measures_in [] h = refl
    measures_in ((Dim f, filter) ∷ fs) h = measures_in fs (and_parts (p (Dim f, filter)) (list_all p fs) h).1
    measures_in ((Mea m, filter) ∷ fs) h =
        let parts = and_parts (p (Mea m, filter)) (list_all p fs) h in
        and_from (p (Mea m, filter)) (list_all (λ f. p (Mea f.0, f.1)) (on_measures fs)) parts.0 (measures_in fs parts.1)

  -- what holds of filters and of the defaults, holds of the filters with the defaults
  module _ (p : ℕ × Filter → Bool) where
    put_in_them : (f : ℕ × Filter) (gs : List (ℕ × Filter)) → p f ≡ true → list_all p gs ≡ true → list_all p (put_by_name x f gs) ≡ true
    put_in_them f [] h k = and_from (p f) true h refl
    put_in_them f (g ∷ gs) h k =
        let parts = and_parts (p g) (list_all p gs) k in
        elim (is_first_field x f.0 g.0) as (λ b. list_all p (cond b (f ∷ g ∷ gs) (g ∷ put_by_name x f gs)) ≡ true) [
          | true ↦ and_from (p f) (list_all p (g ∷ gs)) h k
          | false ↦ and_from (p g) (list_all p (put_by_name x f gs)) parts.0 (put_in_them f gs h parts.1)
        ]

    by_name_in : (fs : List (ℕ × Filter)) → list_all p fs ≡ true → list_all p (by_name x fs) ≡ true
    by_name_in [] h = refl
    by_name_in (f ∷ fs) h = let parts = and_parts (p f) (list_all p fs) h in put_in_them f (by_name x fs) parts.0 (by_name_in fs parts.1)

    always_in : (fs : List (ℕ × Filter)) → list_all p fs ≡ true → list_all p x.always ≡ true → list_all p (with_always x fs) ≡ true
    always_in fs h k =
        let left : ℕ × Filter → Bool = λ f. not (has_number f.0 (filtered fs)) in
        by_name_in (fs ++ filter left x.always) (joined p fs (filter left x.always) h (kept p left x.always k))

-- at a moment of the years 1 to 9999 filters stay of their kinds
kinds_placed : (now : ℤ) → IsMomentInYears now → (kind_of : ℕ → Kind) (fs : List (ℕ × Filter)) → list_all (λ f. is_filter_of (kind_of f.0) f.1) fs ≡ true → list_all (λ f. is_filter_of (kind_of f.0) f.1) (each_placed now fs) ≡ true
kinds_placed now years kind_of [] h = refl
kinds_placed now years kind_of (f ∷ fs) h =
    let parts = and_parts (is_filter_of (kind_of f.0) f.1) (list_all (λ f. is_filter_of (kind_of f.0) f.1) fs) h in
    and_from (is_filter_of (kind_of f.0) (placed now f.1)) (list_all (λ f. is_filter_of (kind_of f.0) f.1) (each_placed now fs))
    (kind_placed (kind_of f.0) f.1 now years parts.0) (kinds_placed now years kind_of fs parts.1)

placed_all : (now : ℤ) (fs : List (ℕ × Filter)) → list_all (λ f. is_placed f.1) (each_placed now fs) ≡ true
placed_all now [] = refl
placed_all now (f ∷ fs) = and_from (is_placed (placed now f.1)) (list_all (λ f. is_placed f.1) (each_placed now fs)) (placed-placed now f.1) (placed_all now fs)

-- ---- the bound query

-- the filters that were read are on fields and measures of the explore, and of their kinds
record AreReadOn (x : Explore) (fs : List PickFilter) : Type 0 where
  on : list_all (is_read_on x) fs ≡ true
  kinds : list_all (has_kind x) fs ≡ true

read_so : (x : Explore) {ts : List FilterText} (r : Result (List PickFilter) QueryFault) → AreRead ts r → list_all (is_on x) ts ≡ true → AllByRecursion (IsOfKind x) ts → IfOk r (AreReadOn x)
read_so x (Err fault) are on kinds = tt
read_so x (Ok fs) are on kinds = record { on = read_on x are on; kinds = read_kinds x are kinds }

-- the defaults of the explore are on its fields and of their kinds
record HasDefaults (x : Explore) : Type 0 where
  on : list_all (is_field x) x.always ≡ true
  kinds : are_filters_of x x.always ≡ true

module _ (m : Model) (n : ℕ) (q : Query) (now : ℤ) (inside : nat_lt n (length m.explores) ≡ true) (defaults : HasDefaults (explore_at m n)) (years : IsMomentInYears now) where
  made_in : (r : Request) (access fs : List PickFilter) → IsRequest (explore_at m n) r → AreReadOn (explore_at m n) access → AreReadOn (explore_at m n) fs → IsInModel m (bound_with (explore_at m n) n q r (filters_at now (explore_at m n) access fs))
  made_in r access fs is mine_read also =
      let x = explore_at m n in
      let rows = each_placed now (with_always x (on_dims fs)) in
      let mine = each_placed now (on_dims access) in
      let having = each_placed now (on_measures fs) in
      let as_mine : list_all (is_field x) mine ≡ true = list_all-map (is_field x) (placed_field_filter now) (on_dims access) ∙ dims_in x (is_read_on x) access mine_read.on in
      let as_rows : list_all (is_field x) rows ≡ true = list_all-map (is_field x) (placed_field_filter now) (with_always x (on_dims fs)) ∙ always_in x (is_field x) (on_dims fs) (dims_in x (is_read_on x) fs also.on) defaults.on in
      let as_having : list_all (is_measure x) having ≡ true = list_all-map (is_measure x) (placed_field_filter now) (on_measures fs) ∙ measures_in x (is_read_on x) fs also.on in
      let of_field : ℕ → Kind = λ f. (field_at x f).kind in
      let of_measure : ℕ → Kind = λ k. (measure_at x k).kind in
      let mine_kinds : are_filters_of x mine ≡ true = kinds_placed now years of_field (on_dims access) (dims_in x (has_kind x) access mine_read.kinds) in
      let row_kinds : are_filters_of x rows ≡ true = kinds_placed now years of_field (with_always x (on_dims fs)) (always_in x (has_field_kind x) (on_dims fs) (dims_in x (has_kind x) fs also.kinds) defaults.kinds) in
      let having_kinds : are_measure_filters x having ≡ true = kinds_placed now years of_measure (on_measures fs) (measures_in x (has_kind x) fs also.kinds) in
      record {
        explore = inside;
        picks = is.picks;
        joins = refl;
        fields = list_all-map (λ f. nat_lt f (length x.fields)) (λ (f : ℕ × Filter). f.0) (mine ++ rows) ∙ joined (is_field x) mine rows as_mine as_rows;
        measures = list_all-map (λ f. nat_lt f (length x.measures)) (λ (f : ℕ × Filter). f.0) having ∙ as_having;
        kinds = and_from (are_filters_of x (mine ++ rows)) (are_measure_filters x having) (joined (has_field_kind x) mine rows mine_kinds row_kinds) having_kinds;
        placed = joined (λ (f : ℕ × Filter). is_placed f.1) (mine ++ rows) having (joined (λ (f : ℕ × Filter). is_placed f.1) mine rows (placed_all now (on_dims access)) (placed_all now (with_always x (on_dims fs)))) (placed_all now (on_measures fs));
        sorts = is.sorts;
        limit = is.limit;
      }

  ok_same : (b c : Bound) → ◌≡◌ {A = Result Bound QueryFault} (Ok b) (Ok c) → c ≡ b
  ok_same b c e = sym (ap (λ r. result_unwrap_or r b) e)

  not_ok : {P : Type 0} (b : Bound) (fault : QueryFault) → Ok b ≡ Err fault → P
  not_ok b fault e = absurd (false≢true (sym (ap is_ok e)))

  checked_same : (o : Option (List ℕ)) (b c : Bound) → Ok b ≡ bound_unless o c → c ≡ b
  checked_same (Some name) b c e = not_ok b (Q7 name) e
  checked_same None b c e = ok_same b c e

  filters_in : (r : Request) (access : List PickFilter) (fs : Result (List PickFilter) QueryFault) (b : Bound) → IsRequest (explore_at m n) r → AreReadOn (explore_at m n) access → IfOk fs (AreReadOn (explore_at m n))
      → Ok b ≡ bound_of (explore_at m n) n q now r access fs → IsInModel m b
  filters_in r access (Err fault) b is on also e = not_ok b fault e
  filters_in r access (Ok fs) b is on also e =
      let x = explore_at m n in
      let c = bound_with x n q r (filters_at now x access fs) in
      subst (IsInModel m) (checked_same (first_repeated x c.joins (query_components x c)) b c e) (made_in r access fs is on also)

  behind_in : (r : Request) (access : Result (List PickFilter) QueryFault) (b : Bound) → IsRequest (explore_at m n) r → IfOk access (AreReadOn (explore_at m n)) → IsBoundBehind (explore_at m n) n q now r access (Ok b) → IsInModel m b
  behind_in r (Err fault) b is on e = not_ok b fault e
  behind_in r (Ok access) b is on e = filters_in r access e.0 b is on (read_so (explore_at m n) e.0 e.1 is.filters is.filter_kinds) e.2

  from_in : (r : Result Request QueryFault) (b : Bound) → IfOk r (IsRequest (explore_at m n)) → IsBoundFrom (explore_at m n) n q now r (Ok b) → IsInModel m b
  from_in (Err fault) b is e = not_ok b fault e
  from_in (Ok r) b is e = behind_in r e.0 b is (read_so (explore_at m n) e.0 e.1 is.access is.access_kinds) e.2

numbered_at : (m : Model) (xs : List Explore) (n : ℕ) → list_all (is_numbered_explore m) xs ≡ true → nat_lt n (length xs) ≡ true → is_numbered_explore m (slice_index_or xs n no_explore) ≡ true
numbered_at m [] n h e = absurd (omega (arith, ltb-true n 0 e))
numbered_at m (x ∷ xs) zero h e = (and_parts (is_numbered_explore m x) (list_all (is_numbered_explore m) xs) h).0
numbered_at m (x ∷ xs) (suc n) h e = numbered_at m xs n (and_parts (is_numbered_explore m x) (list_all (is_numbered_explore m) xs) h).1 (lt-ltb n (length xs) (omega (arith, ltb-true (suc n) (suc (length xs)) e)))

resolved_at : (m : Model) (xs : List Explore) (n : ℕ) → AllByRecursion (IsResolvedExplore m) xs → nat_lt n (length xs) ≡ true → IsResolvedExplore m (slice_index_or xs n no_explore)
resolved_at m [] n h e = absurd (omega (arith, ltb-true n 0 e))
resolved_at m (x ∷ xs) zero h e = h.0
resolved_at m (x ∷ xs) (suc n) h e = resolved_at m xs n h.1 (lt-ltb n (length xs) (omega (arith, ltb-true (suc n) (suc (length xs)) e)))

-- a query over the explore of a number that is one
explore_in : (m : Model) (users : Users) (user : List ℕ) (q : Query) (now : ℤ) (n : ℕ) (b : Bound) → IsResolved m → IsMomentInYears now → nat_lt n (length m.explores) ≡ true
    → IsBoundFrom (explore_at m n) n q now (request_of (explore_at m n) users user q) (Ok b) → IsInModel m b
explore_in m users user q now n b is years inside e =
    let x = explore_at m n in
    let all = (and_parts _ _ (and_parts _ _ (and_parts _ _ is.numbered).0).0).1 in
    let numbered : is_numbered_explore m x ≡ true = numbered_at m m.explores n all inside in
    let six = (and_parts _ _ numbered).0 in
    let access : list_all (λ a. nat_lt a.0 (length x.fields)) x.access ≡ true = sym (list_all-map (λ f. nat_lt f (length x.fields)) (λ (a : ℕ × List ℕ). a.0) x.access) ∙ (and_parts _ _ six).1 in
    let always : list_all (is_field x) x.always ≡ true = sym (list_all-map (λ f. nat_lt f (length x.fields)) (λ (f : ℕ × Filter). f.0) x.always) ∙ (and_parts _ _ (and_parts _ _ six).0).1 in
    let typed : are_filters_of x x.always ≡ true = (and_parts _ _ (and_parts _ _ (resolved_at m m.explores n is.explores inside).filters).0).0 in
    from_in m n q now inside (record { on = always; kinds = typed }) years (request_of x users user q) b (request_good x users user q access) e

over_in : (m : Model) (users : Users) (user : List ℕ) (q : Query) (now : ℤ) (known : Result ⊤ QueryFault) (n : Result ℕ QueryFault) (b : Bound) → IsResolved m → IsMomentInYears now → IfOk n (λ k. nat_lt k (length m.explores) ≡ true)
    → IsBoundOver m users user q now known n (Ok b) → IsInModel m b
over_in m users user q now (Err fault) n b is years inside e = absurd (false≢true (sym (ap is_ok e)))
over_in m users user q now (Ok known) (Err fault) b is years inside e = absurd (false≢true (sym (ap is_ok e)))
over_in m users user q now (Ok known) (Ok n) b is years inside e = explore_in m users user q now n b is years inside e

body_in : (m : Model) (users : Users) (user : List ℕ) (now : ℤ) (known : Result ⊤ QueryFault) (n : Result ℕ QueryFault) (q : Result Query QueryFault) (b : Bound) → IsResolved m → IsMomentInYears now → IfOk n (λ k. nat_lt k (length m.explores) ≡ true)
    → IsBodyBoundOver m users user now known n q (Ok b) → IsInModel m b
body_in m users user now (Err fault) n q b is years inside e = absurd (false≢true (sym (ap is_ok e)))
body_in m users user now (Ok known) (Err fault) q b is years inside e = absurd (false≢true (sym (ap is_ok e)))
body_in m users user now (Ok known) (Ok n) (Err fault) b is years inside e = absurd (false≢true (sym (ap is_ok e)))
body_in m users user now (Ok known) (Ok n) (Ok q) b is years inside e = explore_in m users user q now n b is years inside e

named_in : (m : Model) (name : List ℕ) (o : Option ℕ) → ((i : ℕ) → o ≡ Some i → nat_lt i (length m.explores) ≡ true) → IfOk (found_or (Q1 name) o) (λ k. nat_lt k (length m.explores) ≡ true)
named_in m name None inside = tt
named_in m name (Some n) inside = inside n refl

explore_within : (m : Model) (explore : List ℕ) → IfOk (explore_named m explore) (λ k. nat_lt k (length m.explores) ≡ true)
explore_within m explore = named_in m explore (position (λ x. is_same_text explore x.name) m.explores) (within (λ (x : Explore). is_same_text explore x.name) m.explores)

pub bound_in : (m : Model) (users : Users) (user explore : List ℕ) (q : Query) (now : ℤ) (b : Bound) → IsResolved m → IsMomentInYears now → IsBound m users user explore q now (Ok b) → IsInModel m b
bound_in m users user explore q now b is years e = over_in m users user q now (user_known users user) (explore_named m explore) b is years (explore_within m explore) e

pub bound_body_in : (m : Model) (users : Users) (user explore body : List ℕ) (now : ℤ) (b : Bound) → IsResolved m → IsMomentInYears now → IsBodyBound m users user explore body now (Ok b) → IsInModel m b
bound_body_in m users user explore body now b is years e = body_in m users user now (user_known users user) (explore_named m explore) (query_of body) b is years (explore_within m explore) e

-- ---- joins

pub all_few : (m : Model) (xs : List Explore) → AllByRecursion (IsResolvedExplore m) xs → AllByRecursion (λ x. length x.joins ≤ 31) xs
all_few m [] h = tt
all_few m (x ∷ xs) h = (leb-true (length x.joins) 31 h.0.few_joins, all_few m xs h.1)
