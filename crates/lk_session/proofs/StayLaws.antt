-- Where nothing is done nothing is changed.
use Rattle.std.proofs.Common.{◌≡◌, [], refl, arith, inl, Option, Some, None}
use Rattle.std.specs.Option.{option_map}
use Rattle.lk_ledger.specs.Saving.{after_saves}
use Rattle.lk_ledger.specs.declared.kept.Kept.{Kept}
use Rattle.lk_edition.specs.Standings.{Standing}
use Rattle.lk_http.specs.declared.request.Request.{Request}
use Rattle.lk_session.specs.Servers.{IsForgotten, Server, Stays, Store}

kept_same : (held : Option Kept) → held ≡ option_map (λ (kept : Kept). after_saves kept []) held
kept_same None = refl
kept_same (Some kept) = refl

pub stays : (e : Standing) (store : Store) → Stays e e store store
stays e store = record { standing = refl; saves = record { held = kept_same store.held; later = omega arith } }

-- a request that was dropped has taken no moment
pub untaken : (s : Server) (request : Request) → IsForgotten s request s
untaken s request = record { stays = stays s.standing s.store; moments = inl refl }
