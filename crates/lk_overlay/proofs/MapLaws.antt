-- Maps that keep a list at each key, a list further.
use Rattle.std.proofs.Common.{◌≡◌, ◌∙◌, true, false, cond, List, [], ◌++◌, refl, sym, ap, append-nil}
use Rattle.std.specs.Prelude.{Option, Some, None, if◌then◌else◌}
use Rattle.std.specs.Option.{is_some, option_or}
use Rattle.std.specs.Ordering.{is_eq}
use Rattle.std.specs.declared.cmp.Ordering.{Ordering}
use Rattle.std.proofs.lemmas.Bool.{false≢true}

or_none_there : {A : Type 0} (a : Option A) → a ≡ option_or a None
or_none_there None = refl
or_none_there (Some x) = refl

module _ {K V D : Type 0} (cmp : K → K → Ordering) (exact : (x y : K) → is_eq (cmp x y) ≡ true → x ≡ y) where
  -- what is put behind what a key had
  pub put_behind : (view : Option V → List D) (m : K → Option V) (got : Option V) (key q : K) (old : Option V) (w : V) (news : List D)
      → got ≡ cond (is_eq (cmp key q)) (Some w) (m q) → m key ≡ old → view (Some w) ≡ view old ++ news
      → view got ≡ view (m q) ++ (if is_eq (cmp key q) then news else [])
  put_behind view m got key q old w news e at f =
      elim (is_eq (cmp key q)) as (λ b. is_eq (cmp key q) ≡ b → got ≡ cond b (Some w) (m q) → view got ≡ view (m q) ++ (if b then news else [])) [
        | true ↦ λ s g. ap view g ∙ f ∙ ap (λ t. view t ++ news) (sym at ∙ ap m (exact key q s))
        | false ↦ λ s g. ap view g ∙ sym (append-nil (view (m q)))
      ] refl e

  -- what is put at a key that had nothing
  pub put_new : (view : Option V → Option D) (m : K → Option V) (got : Option V) (key q : K) (w : V)
      → got ≡ cond (is_eq (cmp key q)) (Some w) (m q) → view (m key) ≡ None
      → view got ≡ option_or (view (m q)) (if is_eq (cmp key q) then view (Some w) else None)
  put_new view m got key q w e none =
      elim (is_eq (cmp key q)) as (λ b. is_eq (cmp key q) ≡ b → got ≡ cond b (Some w) (m q) → view got ≡ option_or (view (m q)) (if b then view (Some w) else None)) [
        | true ↦ λ s g. ap view g ∙ ap (λ t. option_or t (view (Some w))) (sym none ∙ ap (λ x. view (m x)) (exact key q s))
        | false ↦ λ s g. ap view g ∙ or_none_there (view (m q))
      ] refl e

  -- where the key has something already, nothing changes
  pub put_none : (view : Option V → Option D) (m : K → Option V) (key q : K) (there : D) (w : Option D)
      → view (m key) ≡ Some there
      → view (m q) ≡ option_or (view (m q)) (if is_eq (cmp key q) then w else None)
  put_none view m key q there w has =
      elim (is_eq (cmp key q)) as (λ b. is_eq (cmp key q) ≡ b → view (m q) ≡ option_or (view (m q)) (if b then w else None)) [
        | true ↦ λ s. let here : view (m q) ≡ Some there = ap (λ x. view (m x)) (sym (exact key q s)) ∙ has in here ∙ ap (λ t. option_or t w) (sym here)
        | false ↦ λ s. or_none_there (view (m q))
      ] refl

pub not_there : {A : Type 0} (a : Option A) → is_some a ≡ false → a ≡ None
not_there None e = refl
not_there (Some x) e = absurd (false≢true (sym e))
