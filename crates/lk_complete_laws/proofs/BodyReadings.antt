-- Each body of a query binds to something or is refused.
use Rattle.std.proofs.Common.{◌≡◌, ℕ, ℤ, Bool, true, false, List, [], ◌∷◌, Option, Some, None, Result, Ok, Err, refl, if◌then◌else◌}
use Rattle.std.specs.Prelude.{⊤, pos, int_le, unsigned_abs, ◌&&◌, position}
use Rattle.lk_val.specs.Texts.{is_same_text}
use Rattle.lk_types.specs.declared.bound.Bound.{Bound}
use Rattle.lk_types.specs.declared.bound.Query.{Query}
use Rattle.lk_types.specs.declared.bound.Sort.{Sort}
use Rattle.lk_types.specs.declared.explore.Explore.{Explore}
use Rattle.lk_types.specs.declared.model.Model.{Model}
use Rattle.lk_types.specs.declared.model.Pick.{Pick}
use Rattle.lk_semantics.specs.Answers.{query_components}
use Rattle.lk_semantics.specs.Derived.{explore_at}
use Rattle.lk_filter.specs.declared.reading.FilterFault.TheVariants.{Syntax, NoMemory}
use Rattle.lk_filter.specs.declared.reading.FilterFault.{FilterFault}
use Rattle.lk_filter.specs.declared.reading.FilterKind.{FilterKind}
use Rattle.lk_types.specs.declared.filter.Filter.{Filter}
use Rattle.lk_schema.specs.Users.{has_user}
use Rattle.lk_schema.specs.declared.users.Users.{Users}
use Rattle.lk_body.specs.Bodies.{query_of, query_or_fault}
use Rattle.lk_body.specs.Faults.{is_no_memory}
use Rattle.lk_body.specs.declared.fault.QueryFault.{QueryFault}
use Rattle.lk_body.specs.declared.fault.QueryFault.TheVariants.{Q1, Q2, Q4, Q6, Q8}
use Rattle.lk_query.specs.Bindings.{IsBodyBoundOver, IsBoundFrom, bound_of, bound_unless, bound_with, filters_at, first_repeated, request_from, request_of}
use Rattle.lk_query.specs.Callers.{access_text, access_texts, explore_named, lacks, user_known}
use Rattle.lk_query.specs.Names.{by_name, filters_of, limit_of, named_filter, named_sort, pick_named, picks_of, sorts_of, unknown_filter}
use Rattle.lk_query.specs.Readings.{AreRead, PickFilter, later, nothing, read, refused}
use Rattle.lk_query.specs.Refusals.{each_found, found_or, found_then, in_front}
use Rattle.lk_query.specs.declared.request.Request.{Request}
use Rattle.lk_query.specs.declared.texts.FilterText.{FilterText}
use Rattle.lk_complete_laws.specs.Bodies.{IsBodyRead, IsTold}
use Rattle.lk_complete_laws.specs.Holding.{HoldsOfSome}
use Rattle.lk_complete_laws.specs.Readings.{IsFilterRead}
use Rattle.lk_complete_laws.proofs.NotNot.{of_these, of_this}

-- ---- no refusal is for want of memory

told_if : {A : Type 0} (b : Bool) (r s : Result A QueryFault) → IsTold r → IsTold s → IsTold (if b then r else s)
told_if true r s h k = h
told_if false r s h k = k

found_told : {A : Type 0} (fault : QueryFault) (o : Option A) → is_no_memory fault ≡ false → IsTold (found_or fault o)
found_told fault None h = h
found_told fault (Some a) h = tt

front_told : {B : Type 0} (front : List B) (rest : Result (List B) QueryFault) → IsTold rest → IsTold (in_front front rest)
front_told front (Ok rest) h = tt
front_told front (Err fault) h = h

module _ {A B : Type 0} (refusal : A → QueryFault) (found : A → Option B) (told : (a : A) → is_no_memory (refusal a) ≡ false) where
  then_told : (a : A) (o : Option B) (rest : Result (List B) QueryFault) → IsTold rest → IsTold (found_then refusal found a o rest)
  then_told a None rest h = told a
  then_told a (Some b) rest h = front_told (b ∷ []) rest h

  each_told : (xs : List A) → IsTold (each_found refusal found xs)
  each_told [] = tt
  each_told (x ∷ xs) = then_told x (found x) (each_found refusal found xs) (each_told xs)

request_told : (limit : Result ℕ QueryFault) (picks : Result (List Pick) QueryFault) (filters : Result (List FilterText) QueryFault)
    (sorts : Result (List Sort) QueryFault) (access : Result (List FilterText) QueryFault)
    → IsTold limit → IsTold picks → IsTold filters → IsTold sorts → IsTold access → IsTold (request_from limit picks filters sorts access)
request_told (Err fault) picks filters sorts access h i j k l = h
request_told (Ok limit) (Err fault) filters sorts access h i j k l = i
request_told (Ok limit) (Ok picks) (Err fault) sorts access h i j k l = j
request_told (Ok limit) (Ok picks) (Ok filters) (Err fault) access h i j k l = k
request_told (Ok limit) (Ok picks) (Ok filters) (Ok sorts) (Err fault) h i j k l = l
request_told (Ok limit) (Ok picks) (Ok filters) (Ok sorts) (Ok access) h i j k l = tt

request_of_told : (x : Explore) (users : Users) (user : List ℕ) (q : Query) → IsTold (request_of x users user q)
request_of_told x users user q =
    request_told (limit_of q.limit) (picks_of x q.fields) (filters_of x q.filters) (sorts_of q.fields q.sorts) (access_texts x users user)
    (told_if (int_le (pos 1) q.limit && int_le q.limit (pos 5000)) (Ok (unsigned_abs q.limit)) (Err (Q8 q.limit)) tt refl)
    (each_told Q4 (pick_named x) (λ name. refl) q.fields)
    (each_told unknown_filter (named_filter x) (λ f. refl) (by_name q.filters))
    (each_told (λ s. Q4 s.0) (named_sort q.fields) (λ s. refl) q.sorts)
    (each_told (lacks x) (access_text x users user) (λ access. refl) x.access)

user_told : (users : Users) (user : List ℕ) → IsTold (user_known users user)
user_told users user = told_if (has_user users user) (Ok tt) (Err (Q2 user)) tt refl

explore_told : (m : Model) (name : List ℕ) → IsTold (explore_named m name)
explore_told m name = found_told (Q1 name) (position (λ x. is_same_text name x.name) m.explores) refl

or_fault_told : (o : Option Query) → IsTold (query_or_fault o)
or_fault_told None = refl
or_fault_told (Some q) = tt

query_told : (body : List ℕ) → IsTold (query_of body)
unfolding query_of
query_told body = or_fault_told _

unless_told : (o : Option (List ℕ)) (b : Bound) → IsTold (bound_unless o b)
unless_told (Some name) b = refl
unless_told None b = tt

bound_told : (x : Explore) (n : ℕ) (q : Query) (now : ℤ) (r : Request) (access : List PickFilter) (filters : Result (List PickFilter) QueryFault)
    → IsTold filters → IsTold (bound_of x n q now r access filters)
bound_told x n q now r access (Err fault) h = h
bound_told x n q now r access (Ok filters) h =
    let b = bound_with x n q r (filters_at now x access filters) in
    unless_told (first_repeated x b.joins (query_components x b)) b

-- ---- filter texts

-- the texts are read so, or the first that is no filter is refused
record AreTold (ts : List FilterText) (result : Result (List PickFilter) QueryFault) : Type 0 where
  are : AreRead ts result
  told : IsTold result

-- a request binds so, or is refused
record IsBoundTold (x : Explore) (n : ℕ) (q : Query) (now : ℤ) (r : Result Request QueryFault) (result : Result Bound QueryFault) : Type 0 where
  is : IsBoundFrom x n q now r result
  told : IsTold result

-- the same of what a caller, an explore's name and a body are
record IsOverTold (m : Model) (users : Users) (user : List ℕ) (now : ℤ) (known : Result ⊤ QueryFault) (explore : Result ℕ QueryFault)
    (query : Result Query QueryFault) (result : Result Bound QueryFault) : Type 0 where
  is : IsBodyBoundOver m users user now known explore query result
  told : IsTold result

module _ (filter_read : (k : FilterKind) (text : List ℕ) → HoldsOfSome (IsFilterRead k text)) where
  with_rest : (t : FilterText) (ts : List FilterText) (f : Filter) (rest : Result (List PickFilter) QueryFault)
      → IsFilterRead t.kind t.text (Ok f) → AreTold ts rest → HoldsOfSome (AreTold (t ∷ ts))
  with_rest t ts f (Ok fs) is rest = of_this (Ok ((t.on, f) ∷ fs)) (record { are = read is.0 rest.are; told = tt })
  with_rest t ts f (Err fault) is rest = of_this (Err fault) (record { are = later f is.0 rest.are; told = rest.told })

  next : (t : FilterText) (ts : List FilterText) → HoldsOfSome (AreTold ts) → (r : Result Filter FilterFault) → IsFilterRead t.kind t.text r → HoldsOfSome (AreTold (t ∷ ts))
  next t ts rest (Ok f) is = of_these rest (λ fs are. with_rest t ts f fs is are)
  next t ts rest (Err (Syntax place)) is = of_this (Err (Q6 t.name place)) (record { are = refused (record { none = is.0; at = is.1 }); told = refl })
  next t ts rest (Err NoMemory) is = absurd is

  texts_read : (ts : List FilterText) → HoldsOfSome (AreTold ts)
  texts_read [] = of_this (Ok []) (record { are = nothing; told = tt })
  texts_read (t ∷ ts) = of_these (filter_read t.kind t.text) (next t ts (texts_read ts))

  -- ---- bodies

  module _ (x : Explore) (n : ℕ) (q : Query) (now : ℤ) where
    behind : (r : Request) (access : Result (List PickFilter) QueryFault) → AreTold r.access access → HoldsOfSome (IsBoundTold x n q now (Ok r))
    behind r (Err fault) h = of_this (Err fault) (record { is = (Err fault, h.are, refl); told = h.told })
    behind r (Ok access) h =
        of_these (texts_read r.filters) (λ filters k.
        of_this (bound_of x n q now r access filters) (record {
          is = (Ok access, h.are, (filters, k.are, refl));
          told = bound_told x n q now r access filters k.told;
        }))

    request_bound : (r : Result Request QueryFault) → IsTold r → HoldsOfSome (IsBoundTold x n q now r)
    request_bound (Err fault) h = of_this (Err fault) (record { is = refl; told = h })
    request_bound (Ok r) h = of_these (texts_read r.access) (λ access k. behind r access k)

  module _ (m : Model) (users : Users) (user : List ℕ) (now : ℤ) where
    over : (known : Result ⊤ QueryFault) (explore : Result ℕ QueryFault) (query : Result Query QueryFault)
        → IsTold known → IsTold explore → IsTold query → HoldsOfSome (IsOverTold m users user now known explore query)
    over (Err fault) explore query h i j = of_this (Err fault) (record { is = refl; told = h })
    over (Ok known) (Err fault) query h i j = of_this (Err fault) (record { is = refl; told = i })
    over (Ok known) (Ok n) (Err fault) h i j = of_this (Err fault) (record { is = refl; told = j })
    over (Ok known) (Ok n) (Ok q) h i j =
        of_these (request_bound (explore_at m n) n q now (request_of (explore_at m n) users user q) (request_of_told (explore_at m n) users user q))
        (λ result b. of_this result (record { is = b.is; told = b.told }))

  -- a body binds to something, or is refused
  pub body_read : (m : Model) (users : Users) (user explore body : List ℕ) (now : ℤ) → HoldsOfSome (IsBodyRead m users user explore body now)
  body_read m users user explore body now =
      of_these (over m users user now (user_known users user) (explore_named m explore) (query_of body) (user_told users user) (explore_told m explore) (query_told body))
      (λ result h. of_this result (record { bound = h.is; told = h.told }))
