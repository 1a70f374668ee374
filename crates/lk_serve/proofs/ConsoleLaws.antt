-- Pulls and puts keep the references of a console.
use Rattle.std.proofs.Common.{◌≡◌, ◌∙◌, ℕ, zero, suc, ap, ⊎_elim}
use Rattle.std.specs.Prelude.{◌⊎◌}
use Rattle.lk_http.specs.Ways.{After, Comes}
use Rattle.lk_serve.specs.Consoles.{KeepsAtPull, KeepsAtPut}
use Rattle.lk_serve.specs.declared.console.Console.{Console}

kept_after : {S V : Type 0} (R : S → S → Type 0) (f : S → V) → ((a b : S) → R a b → f b ≡ f a) → (count : ℕ) (a b : S) → After R count a b → f b ≡ f a
kept_after R f step zero a b same = ap f same
kept_after R f step (suc count) a b (m, before, last) = step m b last ∙ kept_after R f step count a m before

-- what no step changes is as it was at the first
kept_along : {S V : Type 0} (R : S → S → Type 0) (f : S → V) → ((a b : S) → R a b → f b ≡ f a) → (a b : S) → Comes R a b → f b ≡ f a
kept_along R f step a b (count, way) = kept_after R f step count a b way

abbrev pub Step : {I O : Type 0} → Console I O → Console I O → Type 0
Step a b = KeepsAtPull a b ⊎ KeepsAtPut a b

pub same_input : {I O : Type 0} (a b : Console I O) → Comes Step a b → b.input.ghost_name ≡ a.input.ghost_name
same_input a b = kept_along Step (λ console. console.input.ghost_name) (λ x y. ⊎_elim (λ p. p.same_input) (λ q. q.same_input)) a b

pub same_out : {I O : Type 0} (a b : Console I O) → Comes Step a b → b.out.ghost_name ≡ a.out.ghost_name
same_out a b = kept_along Step (λ console. console.out.ghost_name) (λ x y. ⊎_elim (λ p. p.same_out) (λ q. q.same_out)) a b
