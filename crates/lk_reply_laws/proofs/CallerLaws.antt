-- One body of two callers binds to queries that differ in the tests of their access filters alone.
use Rattle.std.proofs.Common.{◌≡◌, ◌∙◌, ℕ, ℤ, List, [], ◌∷◌, ◌++◌, map, refl, sym, ap, subst}
use Rattle.std.specs.Prelude.{⊤, Option, None, Some, Result, Ok, Err, option_map}
use Rattle.lk_types.specs.declared.bound.Bound.{Bound}
use Rattle.lk_types.specs.declared.bound.Query.{Query}
use Rattle.lk_types.specs.declared.bound.Sort.{Sort}
use Rattle.lk_types.specs.declared.explore.Explore.{Explore}
use Rattle.lk_types.specs.declared.model.Model.{Model}
use Rattle.lk_types.specs.declared.model.Pick.{Pick}
use Rattle.lk_types.specs.declared.model.Pick.TheVariants.{Dim, Mea}
use Rattle.lk_semantics.specs.Answers.{dims_of, filtered, picked_measures, query_components}
use Rattle.lk_semantics.specs.Derived.{explore_at, joins_for, with_always}
use Rattle.lk_semantics.specs.Rows.{field_at}
use Rattle.lk_placed_laws.proofs.FixedLaws.{same_fields}
use Rattle.lk_schema.specs.Users.{attribute_of}
use Rattle.lk_schema.specs.declared.users.Users.{Users}
use Rattle.lk_body.specs.Bodies.{query_of}
use Rattle.lk_body.specs.declared.fault.QueryFault.{QueryFault}
use Rattle.lk_query.specs.Bindings.{IsBodyBound, IsBodyBoundOver, IsBoundBehind, IsBoundFrom, bound_of, bound_unless, bound_with, each_placed, filters_at, first_repeated, on_dims, on_measures, request_from, request_of}
use Rattle.lk_query.specs.Callers.{access_text, access_texts, explore_named, lacks, user_known}
use Rattle.lk_query.specs.Names.{filter_on, filters_of, limit_of, picks_of, sorts_of}
use Rattle.lk_query.specs.Readings.{AreRead, PickFilter, nothing, read, refused, later}
use Rattle.lk_query.specs.Refusals.{each_found, found_then}
use Rattle.lk_query.proofs.BindingLaws.{one_reading}
use Rattle.lk_query.specs.declared.request.Request.{Request}
use Rattle.lk_query.specs.declared.texts.FilterText.{FilterText}

-- the second query is the first but for its access filters, which are on the same fields
abbrev pub DiffersInAccess : Bound → Bound → Type 0
DiffersInAccess b c = (c ≡ record b { access = c.access }) × (filtered c.access ≡ filtered b.access)

-- ---- what is known before any filter is read

-- the request that these parts make, whatever the caller brings
record IsFrom (limit : Result ℕ QueryFault) (picks : Result (List Pick) QueryFault) (filters : Result (List FilterText) QueryFault) (sorts : Result (List Sort) QueryFault)
    (access : Result (List FilterText) QueryFault) (r : Request) : Type 0 where
  limit_is : limit ≡ Ok r.limit
  picks_are : picks ≡ Ok r.picks
  filters_are : filters ≡ Ok r.filters
  sorts_are : sorts ≡ Ok r.sorts
  access_is : access ≡ Ok r.access

is_from : (limit : Result ℕ QueryFault) (picks : Result (List Pick) QueryFault) (filters : Result (List FilterText) QueryFault) (sorts : Result (List Sort) QueryFault)
    (access : Result (List FilterText) QueryFault) (r : Request) → request_from limit picks filters sorts access ≡ Ok r → IsFrom limit picks filters sorts access r
is_from (Err fault) picks filters sorts access r is = absurd (cc is)
is_from (Ok limit) (Err fault) filters sorts access r is = absurd (cc is)
is_from (Ok limit) (Ok picks) (Err fault) sorts access r is = absurd (cc is)
is_from (Ok limit) (Ok picks) (Ok filters) (Err fault) access r is = absurd (cc is)
is_from (Ok limit) (Ok picks) (Ok filters) (Ok sorts) (Err fault) r is = absurd (cc is)
is_from (Ok limit) (Ok picks) (Ok filters) (Ok sorts) (Ok access) r is =
    let made : Request = record { limit = limit; picks = picks; filters = filters; sorts = sorts; access = access } in
    let same : made ≡ r = cc is in
    record {
      limit_is = ap (λ (k : Request). Ok k.limit) same;
      picks_are = ap (λ (k : Request). Ok k.picks) same;
      filters_are = ap (λ (k : Request). Ok k.filters) same;
      sorts_are = ap (λ (k : Request). Ok k.sorts) same;
      access_is = ap (λ (k : Request). Ok k.access) same;
    }

-- ---- the fields of access filters are the explore's

abbrev on_of : FilterText → Pick
on_of t = t.on

abbrev pick_of : PickFilter → Pick
pick_of f = f.0

on_fields : (fs : List PickFilter) → filtered (on_dims fs) ≡ dims_of (map pick_of fs)
on_fields [] = refl
on_fields ((Dim f, filter) ∷ fs) = ap (λ ns. f ∷ ns) (on_fields fs)
on_fields ((Mea m, filter) ∷ fs) = on_fields fs

-- what texts are read as is on what the texts are on
abbrev OnThese : List FilterText → Result (List PickFilter) QueryFault → Type 0
OnThese ts (Ok fs) = map pick_of fs ≡ map on_of ts
OnThese ts (Err fault) = Unit {0}

read_on : {ts : List FilterText} {r : Result (List PickFilter) QueryFault} → AreRead ts r → OnThese ts r
read_on nothing = refl
read_on (read {t = t} is are) = ap (λ ps. t.on ∷ ps) (read_on are)
read_on (refused is) = tt
read_on (later f is are) = tt

module _ (x : Explore) (users : Users) (user : List ℕ) where
  then_on : (a : ℕ × List ℕ) (others : List (ℕ × List ℕ)) (text : Option (List ℕ)) (rest : Result (List FilterText) QueryFault) (ts : List FilterText)
      → ((us : List FilterText) → rest ≡ Ok us → map on_of us ≡ map (λ (c : ℕ × List ℕ). Dim c.0) others)
      → found_then (lacks x) (access_text x users user) a (option_map (filter_on x (Dim a.0) (field_at x a.0).name) text) rest ≡ Ok ts
      → map on_of ts ≡ map (λ (c : ℕ × List ℕ). Dim c.0) (a ∷ others)
  then_on a others None rest ts deep is = absurd (cc is)
  then_on a others (Some text) (Err fault) ts deep is = absurd (cc is)
  then_on a others (Some text) (Ok us) ts deep is =
      let made : FilterText = filter_on x (Dim a.0) (field_at x a.0).name text in
      let same : made ∷ us ≡ ts = cc is in
      ap (map on_of) (sym same) ∙ ap (λ ps. Dim a.0 ∷ ps) (deep us refl)

  texts_on : (others : List (ℕ × List ℕ)) (ts : List FilterText) → each_found (lacks x) (access_text x users user) others ≡ Ok ts
      → map on_of ts ≡ map (λ (c : ℕ × List ℕ). Dim c.0) others
  texts_on [] ts is =
      let same : [] ≡ ts = cc is in
      ap (map on_of) (sym same)
  texts_on (a ∷ others) ts is =
      then_on a others (attribute_of users user a.1) (each_found (lacks x) (access_text x users user) others) ts (λ us rest. texts_on others us rest) is

-- the fields that access filters are on, at a moment
access_fields : (now : ℤ) (x : Explore) (users : Users) (user : List ℕ) (ts : List FilterText) (fs : List PickFilter) → access_texts x users user ≡ Ok ts → AreRead ts (Ok fs)
    → filtered (each_placed now (on_dims fs)) ≡ dims_of (map (λ (c : ℕ × List ℕ). Dim c.0) x.access)
access_fields now x users user ts fs texts are =
    same_fields now (on_dims fs) ∙ on_fields fs ∙ ap dims_of (read_on are ∙ texts_on x users user x.access ts texts)

-- ---- two bound queries of one body

of_checked : (o : Option (List ℕ)) (b made : Bound) → Ok b ≡ bound_unless o made → b ≡ made
of_checked (Some name) b made is = absurd (cc is)
of_checked None b made is = cc is

module _ (x : Explore) (n : ℕ) (q : Query) (now : ℤ) where
  -- what is bound to the filters that were read, of a request
  record IsMade (r : Request) (access : List PickFilter) (b : Bound) : Type 0 where
    filters : List PickFilter
    are_filters : AreRead r.filters (Ok filters)
    is : b ≡ bound_with x n q r (filters_at now x access filters)

  of_filters : (r : Request) (access : List PickFilter) (filters : Result (List PickFilter) QueryFault) (b : Bound) → AreRead r.filters filters
      → Ok b ≡ bound_of x n q now r access filters → IsMade r access b
  of_filters r access (Err fault) b are is = absurd (cc is)
  of_filters r access (Ok filters) b are is =
      let made = bound_with x n q r (filters_at now x access filters) in
      record { filters = filters; are_filters = are; is = of_checked (first_repeated x made.joins (query_components x made)) b made is }

  -- the same with the access filters that were read
  record IsMadeOf (r : Request) (b : Bound) : Type 0 where
    access : List PickFilter
    are_access : AreRead r.access (Ok access)
    made : IsMade r access b

  of_behind : (r : Request) (access : Result (List PickFilter) QueryFault) (b : Bound) → AreRead r.access access → IsBoundBehind x n q now r access (Ok b) → IsMadeOf r b
  of_behind r (Err fault) b are is = absurd (cc is)
  of_behind r (Ok access) b are is = record { access = access; are_access = are; made = of_filters r access is.0 b is.1 is.2 }

  record IsBoundBy (rq : Result Request QueryFault) (b : Bound) : Type 0 where
    r : Request
    is : rq ≡ Ok r
    made : IsMadeOf r b

  of_from : (rq : Result Request QueryFault) (b : Bound) → IsBoundFrom x n q now rq (Ok b) → IsBoundBy rq b
  of_from (Err fault) b is = absurd (cc is)
  of_from (Ok r) b is = record { r = r; is = refl; made = of_behind r is.0 b is.1 is.2 }

  module _ (users others : Users) (user other : List ℕ) where
    differ : (b c : Bound) → IsBoundBy (request_of x users user q) b → IsBoundBy (request_of x others other q) c → DiffersInAccess b c
    differ b c h k =
        let one = is_from (limit_of q.limit) (picks_of x q.fields) (filters_of x q.filters) (sorts_of q.fields q.sorts) (access_texts x users user) h.r h.is in
        let two = is_from (limit_of q.limit) (picks_of x q.fields) (filters_of x q.filters) (sorts_of q.fields q.sorts) (access_texts x others other) k.r k.is in
        let limits : k.r.limit ≡ h.r.limit = cc (sym two.limit_is ∙ one.limit_is) in
        let picks : k.r.picks ≡ h.r.picks = cc (sym two.picks_are ∙ one.picks_are) in
        let texts : k.r.filters ≡ h.r.filters = cc (sym two.filters_are ∙ one.filters_are) in
        let sorts : k.r.sorts ≡ h.r.sorts = cc (sym two.sorts_are ∙ one.sorts_are) in
        let read_so = one_reading (subst (λ ts. AreRead ts (Ok k.made.made.filters)) texts k.made.made.are_filters) h.made.made.are_filters in
        let filters : k.made.made.filters ≡ h.made.made.filters = cc read_so in
        let f = filters_at now x h.made.access h.made.made.filters in
        let g = filters_at now x k.made.access k.made.made.filters in
        let fields : filtered g.access ≡ filtered f.access =
        access_fields now x others other k.r.access k.made.access two.access_is k.made.are_access ∙ sym (access_fields now x users user h.r.access h.made.access one.access_is h.made.are_access) in
        let rows : g.rows ≡ f.rows = ap (λ fs. each_placed now (with_always x (on_dims fs))) filters in
        let having : g.having ≡ f.having = ap (λ fs. each_placed now (on_measures fs)) filters in
        let made : Bound = bound_with x n q h.r f in
        let same : bound_with x n q k.r g ≡ record made { access = g.access } = λ i. record {
          explore = n;
          picks = picks i;
          joins = joins_for x (dims_of (picks i) ++ filtered (rows i) ++ fields i) (picked_measures (picks i) ++ filtered (having i));
          access = g.access;
          rows = rows i;
          having = having i;
          sorts = sorts i;
          limit = limits i;
          fresh = q.fresh;
          csv = q.csv;
        } in
        let of_b = h.made.made.is in
        let of_c = k.made.made.is in (
          of_c ∙ same ∙ (λ i. record (sym of_b i) { access = (sym of_c i).access }),
          ap (λ (d : Bound). filtered d.access) of_c ∙ fields ∙ sym (ap (λ (d : Bound). filtered d.access) of_b),
        )

module _ (m : Model) (users others : Users) (user other : List ℕ) (now : ℤ) (b c : Bound) where
  over_differ : (known also : Result ⊤ QueryFault) (n : Result ℕ QueryFault) (q : Result Query QueryFault)
      → IsBodyBoundOver m users user now known n q (Ok b) → IsBodyBoundOver m others other now also n q (Ok c) → DiffersInAccess b c
  over_differ (Err fault) also n q h k = absurd (cc h)
  over_differ (Ok known) (Err fault) n q h k = absurd (cc k)
  over_differ (Ok known) (Ok also) (Err fault) q h k = absurd (cc h)
  over_differ (Ok known) (Ok also) (Ok n) (Err fault) h k = absurd (cc h)
  over_differ (Ok known) (Ok also) (Ok n) (Ok q) h k =
      let x = explore_at m n in
      differ x n q now users others user other b c (of_from x n q now (request_of x users user q) b h) (of_from x n q now (request_of x others other q) c k)

  pub bodies_differ : (explore body : List ℕ) → IsBodyBound m users user explore body now (Ok b) → IsBodyBound m others other explore body now (Ok c) → DiffersInAccess b c
  bodies_differ explore body h k = over_differ (user_known users user) (user_known others other) (explore_named m explore) (query_of body) h k
