-- What an office answers at the clock's next moment.
use Rattle.std.proofs.Common.{◌≡◌, List, inr, subst, true, Option, Some}
use Rattle.std.specs.Prelude.{ℤ, IfOk, IfSome, OnErr, Result, Ok, Err, slice_get}
use Rattle.std.specs.Option.{option_map}
use Rattle.lk_io.specs.Moments.{later}
use Rattle.lk_val.specs.Years.{IsMomentInYears}
use Rattle.lk_types.specs.declared.answer.Reply.{Reply}
use Rattle.lk_edition.specs.Standings.{Standing}
use Rattle.lk_http.specs.Replies.{is_status}
use Rattle.lk_http.specs.declared.request.Request.{Request}
use Rattle.lk_session.specs.Servers.{IsForgotten, RequestDoes, Serves, Server, Stays, Store, by_edition}
use Rattle.lk_session.proofs.ServingLaws.{served_status}

-- an edition, its store and the moments to come
abbrev pub at : Standing → Store → Option (List ℤ) → Server
at e store moments = record { standing = e; store = store; moments = moments }

pub answered : {E : Type 0} (e e' : Standing) (store store' : Store) (moments moments' : Option (List ℤ)) (request : Request) (now told : ℤ) (r : Result Reply E)
    → now ≡ told → IsMomentInYears told → IfSome moments (λ ms. slice_get ms 0 ≡ Some told) → moments' ≡ option_map later moments
    → IfOk r (λ reply. Serves by_edition e now request reply e' store store')
    → IfOk r (λ reply. RequestDoes by_edition (at e store moments) request reply (at e' store' moments'))
answered e e' store store' moments moments' request now told (Ok reply) same years first next serves = record {
  now = told;
  years = years;
  first = first;
  moments = next;
  serves = subst (λ n. Serves by_edition e n request reply e' store store') same serves;
}
answered e e' store store' moments moments' request now told (Err fault) same years first next serves = tt

pub forgot : {E : Type 0} (e e' : Standing) (store store' : Store) (moments moments' : Option (List ℤ)) (request : Request) (r : Result Reply E) → moments' ≡ option_map later moments
    → OnErr r (Stays e e' store store') → OnErr r (IsForgotten (at e store moments) request (at e' store' moments'))
forgot e e' store store' moments moments' request (Ok reply) next stays = tt
forgot e e' store store' moments moments' request (Err fault) next stays = record { stays = stays; moments = inr next }

pub written : {E : Type 0} (e e' : Standing) (store store' : Store) (request : Request) (now : ℤ) (r : Result Reply E)
    → IfOk r (λ reply. Serves by_edition e now request reply e' store store') → IfOk r (λ reply. is_status reply.status ≡ true)
written e e' store store' request now (Ok reply) serves = served_status e now request reply e' store store' serves
written e e' store store' request now (Err fault) serves = tt
