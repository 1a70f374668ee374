-- What a request binds to, step by step.
use Rattle.std.proofs.Common.{◌≡◌, ℕ, List, ◌∙◌, ap, refl, subst}
use Rattle.std.specs.Prelude.{ℤ, ⊤, Result, Ok, Err}
use Rattle.lk_types.specs.declared.bound.Bound.{Bound}
use Rattle.lk_types.specs.declared.bound.Query.{Query}
use Rattle.lk_types.specs.declared.explore.Explore.{Explore}
use Rattle.lk_types.specs.declared.model.Model.{Model}
use Rattle.lk_schema.specs.declared.users.Users.{Users}
use Rattle.lk_semantics.specs.Derived.{explore_at}
use Rattle.lk_val.specs.Memory.{Unless, UnlessMemory}
use Rattle.lk_body.specs.Faults.{is_no_memory}
use Rattle.lk_body.specs.declared.fault.QueryFault.{QueryFault}
use Rattle.lk_query.specs.Bindings.{IsBodyBoundOver, IsBoundFrom, IsBoundOver, bound_with, checked, filters_at, request_of}
use Rattle.lk_query.specs.RequestFilters.{AreFiltersOf}
use Rattle.lk_query.specs.declared.filters.Filters.{Filters}
use Rattle.lk_query.specs.declared.request.Request.{Request}
use Rattle.lk_query.proofs.MemoryLaws.{memory_weaker, unless_weaker}

-- a request whose filters are read binds to what it is found to
pub request_bound : (x : Explore) (n : ℕ) (q : Query) (now passed : ℤ) (r : Request) (made : Filters) (b : Bound) (result : Result Bound QueryFault) → passed ≡ now
    → AreFiltersOf x passed r (Ok made) → b ≡ bound_with x n q r made → result ≡ checked x b → IsBoundFrom x n q now (Ok r) result
request_bound x n q now passed r made b result same (Err fault, are, refused) bound ends = cc
request_bound x n q now passed r made b result same (Ok access, are, (Err fault, are_read, refused)) bound ends = cc
request_bound x n q now passed r made b result same (Ok access, are, (Ok filters, are_read, placed)) bound ends =
    let made_is : made ≡ filters_at passed x access filters = cc in
    subst (λ t. IsBoundFrom x n q t (Ok r) result) same
    (Ok access, are, (Ok filters, are_read, ends ∙ ap (checked x) (bound ∙ ap (bound_with x n q r) made_is)))

-- and one whose filters are refused is refused
pub request_refused : (x : Explore) (n : ℕ) (q : Query) (now passed : ℤ) (r : Request) (fault : QueryFault) → passed ≡ now
    → AreFiltersOf x passed r (Err fault) → IsBoundFrom x n q now (Ok r) (Err fault)
request_refused x n q now passed r fault same (Err f, are, refused) =
    let fault_is : fault ≡ f = cc in
    (Err f, are, ap (λ e. Err e) fault_is)
request_refused x n q now passed r fault same (Ok access, are, (Err f, are_read, refused)) =
    let fault_is : fault ≡ f = cc in
    (Ok access, are, (Err f, are_read, ap (λ e. Err e) fault_is))
request_refused x n q now passed r fault same (Ok access, are, (Ok filters, are_read, placed)) = cc

-- given: a caller's query at a moment, and what is known of the user and the explore
module _ (m : Model) (users : Users) (user : List ℕ) (q : Query) (now : ℤ) (known : Result ⊤ QueryFault) (explore : Result ℕ QueryFault) where
  -- the user's refusal comes first
  pub no_user : (fault : QueryFault) → Unless (is_no_memory fault) (Err fault ≡ known) → Unless (is_no_memory fault) (IsBoundOver m users user q now known explore (Err fault))
  no_user fault h = unless_weaker (is_no_memory fault) (λ is. subst (λ k. IsBoundOver m users user q now k explore (Err fault)) is refl) h

  -- then that of the explore
  pub no_number : (fault : QueryFault) → Ok tt ≡ known → Unless (is_no_memory fault) (Err fault ≡ explore) → Unless (is_no_memory fault) (IsBoundOver m users user q now known explore (Err fault))
  no_number fault first h =
      unless_weaker (is_no_memory fault)
      (λ is. subst (λ k. IsBoundOver m users user q now k explore (Err fault)) first (subst (λ e. IsBoundOver m users user q now (Ok tt) e (Err fault)) is refl)) h

  -- and then the query is bound over the explore
  pub bound_over : (n : ℕ) (passed : ℤ) (result : Result Bound QueryFault) → passed ≡ now → Ok tt ≡ known → Ok n ≡ explore
      → UnlessMemory is_no_memory result (IsBoundFrom (explore_at m n) n q passed (request_of (explore_at m n) users user q))
      → UnlessMemory is_no_memory result (IsBoundOver m users user q now known explore)
  bound_over n passed result same first second h =
      let x = explore_at m n in
      memory_weaker is_no_memory result (IsBoundFrom x n q passed (request_of x users user q)) (IsBoundOver m users user q now known explore)
      (λ r bound. subst (λ k. IsBoundOver m users user q now k explore r) first (subst (λ e. IsBoundOver m users user q now (Ok tt) e r) second
      (subst (λ t. IsBoundFrom x n q t (request_of x users user q) r) same bound))) h

-- given: a caller's body at a moment, what is known of the user and the explore, and what the body is read as
module _ (m : Model) (users : Users) (user : List ℕ) (now : ℤ) (known : Result ⊤ QueryFault) (explore : Result ℕ QueryFault) (query : Result Query QueryFault) where
  -- where the user and the explore are known, what holds over a body holds over what these are
  over_known : (n : ℕ) (body : Result Query QueryFault) (r : Result Bound QueryFault) → Ok tt ≡ known → Ok n ≡ explore → body ≡ query
      → IsBodyBoundOver m users user now (Ok tt) (Ok n) body r → IsBodyBoundOver m users user now known explore query r
  over_known n body r first second third bound =
      subst (λ k. IsBodyBoundOver m users user now k explore query r) first
      (subst (λ e. IsBodyBoundOver m users user now (Ok tt) e query r) second
      (subst (λ b. IsBodyBoundOver m users user now (Ok tt) (Ok n) b r) third bound))

  pub no_body_user : (fault : QueryFault) → Unless (is_no_memory fault) (Err fault ≡ known) → Unless (is_no_memory fault) (IsBodyBoundOver m users user now known explore query (Err fault))
  no_body_user fault h = unless_weaker (is_no_memory fault) (λ is. subst (λ k. IsBodyBoundOver m users user now k explore query (Err fault)) is refl) h

  pub no_body_number : (fault : QueryFault) → Ok tt ≡ known → Unless (is_no_memory fault) (Err fault ≡ explore)
      → Unless (is_no_memory fault) (IsBodyBoundOver m users user now known explore query (Err fault))
  no_body_number fault first h =
      unless_weaker (is_no_memory fault)
      (λ is. subst (λ k. IsBodyBoundOver m users user now k explore query (Err fault)) first (subst (λ e. IsBodyBoundOver m users user now (Ok tt) e query (Err fault)) is refl)) h

  -- a body that is refused is refused behind them
  pub no_query : (n : ℕ) (fault : QueryFault) → Ok tt ≡ known → Ok n ≡ explore → Unless (is_no_memory fault) (Err fault ≡ query)
      → Unless (is_no_memory fault) (IsBodyBoundOver m users user now known explore query (Err fault))
  no_query n fault first second h = unless_weaker (is_no_memory fault) (λ is. over_known n (Err fault) (Err fault) first second is refl) h

  pub body_bound_over : (n : ℕ) (q : Query) (passed : ℤ) (result : Result Bound QueryFault) → passed ≡ now → Ok tt ≡ known → Ok n ≡ explore → Ok q ≡ query
      → UnlessMemory is_no_memory result (IsBoundFrom (explore_at m n) n q passed (request_of (explore_at m n) users user q))
      → UnlessMemory is_no_memory result (IsBodyBoundOver m users user now known explore query)
  body_bound_over n q passed result same first second third h =
      let x = explore_at m n in
      memory_weaker is_no_memory result (IsBoundFrom x n q passed (request_of x users user q)) (IsBodyBoundOver m users user now known explore query)
      (λ r bound. over_known n (Ok q) r first second third (subst (λ t. IsBoundFrom x n q t (request_of x users user q) r) same bound)) h
