-- A query binds to one thing.
use Rattle.std.proofs.Common.{◌≡◌, ◌∙◌, ℕ, List, ◌∷◌, refl, sym, ap, subst}
use Rattle.std.specs.Prelude.{ℤ, ⊤, Result, Ok, Err}
use Rattle.lk_filter.proofs.OneFilterLaws.{one_filter, one_fault_place}
use Rattle.lk_types.specs.declared.bound.Bound.{Bound}
use Rattle.lk_types.specs.declared.bound.Query.{Query}
use Rattle.lk_types.specs.declared.explore.Explore.{Explore}
use Rattle.lk_types.specs.declared.model.Model.{Model}
use Rattle.lk_semantics.specs.Derived.{explore_at}
use Rattle.lk_schema.specs.declared.users.Users.{Users}
use Rattle.lk_body.specs.Bodies.{query_of}
use Rattle.lk_body.specs.declared.fault.QueryFault.{QueryFault}
use Rattle.lk_body.specs.declared.fault.QueryFault.TheVariants.{Q6}
use Rattle.lk_query.specs.Bindings.{IsBodyBound, IsBodyBoundOver, IsBound, IsBoundBehind, IsBoundFrom, IsBoundOver, bound_of, request_of}
use Rattle.lk_query.specs.Callers.{explore_named, user_known}
use Rattle.lk_query.specs.Readings.{AreRead, PickFilter, nothing, read, refused, later}
use Rattle.lk_query.specs.declared.request.Request.{Request}
use Rattle.lk_query.specs.declared.texts.FilterText.{FilterText}

-- texts are read as one list of filters, or have one first refusal
pub one_reading : {ts : List FilterText} {a b : Result (List PickFilter) QueryFault} → AreRead ts a → AreRead ts b → a ≡ b
one_reading nothing nothing = refl
one_reading (read {t = t} {f = f} {fs = fs} r rs) (read {f = g} {fs = gs} s ss) =
    let first : f ≡ g = one_filter t.kind t.text f g r s in
    let rest : fs ≡ gs = cc (one_reading rs ss) in
    λ i. Ok ((t.on, first i) ∷ rest i)
one_reading (read {f = f} r rs) (refused s) = absurd (s.none f r)
one_reading (read r rs) (later g s ss) = absurd (cc (one_reading rs ss))
one_reading (refused r) (read {f = g} s ss) = absurd (r.none g s)
one_reading (refused {t = t} {place = p} r) (refused {place = q} s) = ap (λ n. Err (Q6 t.name n)) (one_fault_place t.kind t.text p q r.at s.at)
one_reading (refused r) (later g s ss) = absurd (r.none g s)
one_reading (later f r rs) (read s ss) = absurd (cc (one_reading rs ss))
one_reading (later f r rs) (refused s) = absurd (s.none f r)
one_reading (later f r rs) (later g s ss) = one_reading rs ss

module _ (x : Explore) (n : ℕ) (q : Query) (now : ℤ) where
  behind_once : (r : Request) (access : Result (List PickFilter) QueryFault) (a b : Result Bound QueryFault) → IsBoundBehind x n q now r access a → IsBoundBehind x n q now r access b → a ≡ b
  behind_once r (Err fault) a b h k = h ∙ sym k
  behind_once r (Ok access) a b h k = h.2 ∙ ap (bound_of x n q now r access) (one_reading h.1 k.1) ∙ sym k.2

  from_once : (r : Result Request QueryFault) (a b : Result Bound QueryFault) → IsBoundFrom x n q now r a → IsBoundFrom x n q now r b → a ≡ b
  from_once (Err fault) a b h k = h ∙ sym k
  from_once (Ok r) a b h k = behind_once r k.0 a b (subst (λ access. IsBoundBehind x n q now r access a) (one_reading h.1 k.1) h.2) k.2

over_once : (m : Model) (users : Users) (user : List ℕ) (q : Query) (now : ℤ) (known : Result ⊤ QueryFault) (n : Result ℕ QueryFault) (a b : Result Bound QueryFault)
    → IsBoundOver m users user q now known n a → IsBoundOver m users user q now known n b → a ≡ b
over_once m users user q now (Err fault) n a b h k = h ∙ sym k
over_once m users user q now (Ok known) (Err fault) a b h k = h ∙ sym k
over_once m users user q now (Ok known) (Ok n) a b h k = from_once (explore_at m n) n q now (request_of (explore_at m n) users user q) a b h k

pub bound_once : (m : Model) (users : Users) (user explore : List ℕ) (q : Query) (now : ℤ) (a b : Result Bound QueryFault) → IsBound m users user explore q now a → IsBound m users user explore q now b → a ≡ b
bound_once m users user explore q now a b h k = over_once m users user q now (user_known users user) (explore_named m explore) a b h k

body_once : (m : Model) (users : Users) (user : List ℕ) (now : ℤ) (known : Result ⊤ QueryFault) (n : Result ℕ QueryFault) (q : Result Query QueryFault) (a b : Result Bound QueryFault)
    → IsBodyBoundOver m users user now known n q a → IsBodyBoundOver m users user now known n q b → a ≡ b
body_once m users user now (Err fault) n q a b h k = h ∙ sym k
body_once m users user now (Ok known) (Err fault) q a b h k = h ∙ sym k
body_once m users user now (Ok known) (Ok n) (Err fault) a b h k = h ∙ sym k
body_once m users user now (Ok known) (Ok n) (Ok q) a b h k = from_once (explore_at m n) n q now (request_of (explore_at m n) users user q) a b h k

pub bound_body_once : (m : Model) (users : Users) (user explore body : List ℕ) (now : ℤ) (a b : Result Bound QueryFault) → IsBodyBound m users user explore body now a → IsBodyBound m users user explore body now b → a ≡ b
bound_body_once m users user explore body now a b h k = body_once m users user now (user_known users user) (explore_named m explore) (query_of body) a b h k
