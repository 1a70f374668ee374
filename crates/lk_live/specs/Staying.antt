-- A request that was dropped before it was answered changes nothing: the proof that an answerer owes of live readers. (lookd)
use Rattle.std.specs.Prelude.{ℕ, List, [], length}
use Rattle.std.proofs.Common.{inl, refl}
use Rattle.std.proofs.Math.Nat.{le_refl}
use Rattle.std.proofs.lemmas.List.{append-nil}
use Rattle.lk_http.specs.declared.request.Request.{Request}
use Rattle.lk_http.specs.declared.request.Target.{Target}
use Rattle.lk_http.specs.declared.request.Target.TheVariants as target
use Rattle.lk_live.specs.Lives.{Forgets, MayLook}
use Rattle.lk_live.specs.declared.live.Live.{Live}

no_look : (t : Target) (looks : List ℕ) (seen : ℕ) → MayLook t looks seen looks
no_look (target.Query explore) looks seen = inl refl
no_look (target.Load table replace id) looks seen = refl
no_look target.Check looks seen = refl

-- what is known stays as it is, and no moment is taken
pub unmoved : (s : Live) (request : Request) → Forgets s request s
unmoved s request = record {
  grows = ([], append-nil s.desk.seen);
  looks = no_look request.target s.desk.looks (length s.desk.seen);
  failed = le_refl s.failed;
  moments = inl refl;
}
