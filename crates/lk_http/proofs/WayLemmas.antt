-- A way with a step more, and one way behind another.
use Rattle.std.proofs.Common.{ℕ, zero, suc, refl, sym, subst}
use Rattle.lk_http.specs.Ways.{After, Comes}

-- no step
pub way_none : {S : Type 0} (R : S → S → Type 0) (a : S) → Comes R a a
way_none R a = (zero, refl)

-- a step more
pub way_more : {S : Type 0} (R : S → S → Type 0) (a b c : S) → Comes R a b → R b c → Comes R a c
way_more R a b c (count, way) step = (suc count, (b, way, step))

way_on : {S : Type 0} (R : S → S → Type 0) (count : ℕ) (a b c : S) → Comes R a b → After R count b c → Comes R a c
way_on R zero a b c way same = subst (Comes R a) (sym same) way
way_on R (suc count) a b c way (before, steps, last) = way_more R a before c (way_on R count a b before way steps) last

-- one way behind another
pub way_behind : {S : Type 0} (R : S → S → Type 0) (a b c : S) → Comes R a b → Comes R b c → Comes R a c
way_behind R a b c way (count, steps) = way_on R count a b c way steps
