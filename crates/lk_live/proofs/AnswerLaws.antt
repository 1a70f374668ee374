-- What a worker answers.
use Rattle.std.proofs.Common.{◌≡◌, ◌≤◌, ◌++◌, ℕ, ℤ, Bool, List, [], ◌∷◌, length, true, refl, sym, subst, inl, inr}
use Rattle.std.specs.Prelude.{◌⊎◌, IfOk, IfSome, OnErr, Option, Some, Result, Ok, Err, slice_get}
use Rattle.std.specs.Option.{option_map}
use mathlib.Core.List.{IsPrefix}
use Rattle.lk_val.specs.Years.{IsMomentInYears}
use Rattle.lk_io.specs.Causes.{Rose}
use Rattle.lk_io.specs.Moments.{later}
use Rattle.lk_types.specs.declared.answer.Reply.{Reply}
use Rattle.lk_command_reply.specs.Refusals.{unsaved_reply}
use Rattle.lk_front.specs.Chains.{EndsIn}
use Rattle.lk_shelf.specs.declared.desk.View.{View}
use Rattle.lk_edition.specs.Standings.{Standing}
use Rattle.lk_http.specs.Replies.{is_status}
use Rattle.lk_http.specs.declared.request.Request.{Request}
use Rattle.lk_http.specs.declared.request.Target.{Target}
use Rattle.lk_http.specs.declared.request.Target.TheVariants as target
use Rattle.lk_session.specs.Servers.{IsQueried, by_edition}
use Rattle.lk_bureau.specs.Outcomes.{IsCommand}
use Rattle.lk_bureau.specs.Told.{IsTold}
use Rattle.lk_live.proofs.StatusLaws.{queried_status}
use Rattle.lk_live.specs.Lives.{Acts, Forgets, IsUnsaved, MayLook, Serves, TargetDoes, live}

-- what a load or a check that is carried out does
acts : (s s' : View Standing) (failed failed' : ℕ) (moments moments' : Option (List ℤ)) (now : ℤ) (request : Request) (t : Target) (reply : Reply) → t ≡ request.target
    → IsCommand t → Acts (live s failed moments) now request reply (live s' failed' moments') ⊎ IsUnsaved (live s failed moments) reply (live s' failed' moments')
    → TargetDoes (live s failed moments) now request t reply (live s' failed' moments')
acts s s' failed failed' moments moments' now request (target.Query explore) reply is command did = absurd command
acts s s' failed failed' moments moments' now request (target.Load table replace id) reply is command did = did
acts s s' failed failed' moments moments' now request target.Check reply is command did = did

pub command_of : (t : Target) → ((table : List ℕ) × (replace : Bool) × (id : List ℕ) × (t ≡ target.Load table replace id)) ⊎ (t ≡ target.Check) → IsCommand t
command_of t (inl (table, replace, id, is)) = subst IsCommand (sym is) tt
command_of t (inr is) = subst IsCommand (sym is) tt

looks_so : (t : Target) (explore looks : List ℕ) (seen : ℕ) (looks' : List ℕ) → t ≡ target.Query explore → (looks' ≡ looks) ⊎ (looks' ≡ looks ++ seen ∷ []) → MayLook t looks seen looks'
looks_so t explore looks seen looks' is look = subst (λ k. MayLook k looks seen looks') (sym is) look

module _ (s s' : View Standing) (failed failed' : ℕ) (moments moments' : Option (List ℤ)) (request : Request) (now told : ℤ) (same : now ≡ told) (years : IsMomentInYears told)
    (first : IfSome moments (λ ms. slice_get ms 0 ≡ Some told)) (next : moments' ≡ option_map later moments) (grows : IsPrefix s.seen s'.seen) where
  -- ---- a query

  pub looked : {E : Type 0} (explore : List ℕ) (e : Standing) (r : Result Reply E) → request.target ≡ target.Query explore → EndsIn s'.seen e
      → s'.looks ≡ s.looks ++ length s'.seen ∷ [] → failed' ≡ failed → IfOk r (IsQueried by_edition e request.user explore request.body now)
      → IfOk r (λ reply. Serves (live s failed moments) request reply (live s' failed' moments'))
  looked explore e (Err fault) is ends look kept queried = tt
  looked explore e (Ok reply) is ends look kept queried = record {
    now = told;
    years = years;
    first = first;
    moments = next;
    does = subst (λ t. TargetDoes (live s failed moments) told request t reply (live s' failed' moments')) (sym is) (record {
      grows = grows;
      e = e;
      ends = ends;
      queried = subst (λ n. IsQueried by_edition e request.user explore request.body n reply) same queried;
      look = look;
      failed = kept;
    });
  }

  pub lost : {T E : Type 0} (explore : List ℕ) (r : Result T E) → request.target ≡ target.Query explore → (s'.looks ≡ s.looks) ⊎ (s'.looks ≡ s.looks ++ length s'.seen ∷ [])
      → failed ≤ failed' → OnErr r (Forgets (live s failed moments) request (live s' failed' moments'))
  lost explore (Ok value) is look more = tt
  lost explore (Err fault) is look more =
      record { grows = grows; looks = looks_so request.target explore s.looks (length s'.seen) s'.looks is look; failed = more; moments = inr next }

  -- ---- a load or a check

  pub done : (reply : Reply) → IsTold (length s.seen) request.user request.target request.body now reply s'.seen → IsCommand request.target → s'.looks ≡ s.looks → failed ≤ failed'
      → Serves (live s failed moments) request reply (live s' failed' moments')
  done reply is command looks more = record {
    now = told;
    years = years;
    first = first;
    moments = next;
    does = acts s s' failed failed' moments moments' told request request.target reply refl command (inl (record {
      grows = grows;
      told = subst (λ n. IsTold (length s.seen) request.user request.target request.body n reply s'.seen) same is;
      looks = looks;
      failed = more;
    }));
  }

  pub unsaved : {E : Type 0} (r : Result Reply E) → IfOk r (λ reply. reply ≡ unsaved_reply) → IsCommand request.target → s'.looks ≡ s.looks → Rose failed failed'
      → IfOk r (λ reply. Serves (live s failed moments) request reply (live s' failed' moments'))
  unsaved (Err fault) is command looks rose = tt
  unsaved (Ok reply) is command looks rose = record {
    now = told;
    years = years;
    first = first;
    moments = next;
    does = acts s s' failed failed' moments moments' told request request.target reply refl command
        (inr (record { is = is; grows = grows; looks = looks; rose = rose }));
  }

  -- ---- statuses

  pub looked_status : {E : Type 0} (explore : List ℕ) (e : Standing) (r : Result Reply E) → request.target ≡ target.Query explore → IfOk r (IsQueried by_edition e request.user explore request.body now)
      → IfOk r (λ reply. is_status reply.status ≡ true)
  looked_status explore e (Err fault) is queried = tt
  looked_status explore e (Ok reply) is queried = queried_status e now request explore reply is queried
