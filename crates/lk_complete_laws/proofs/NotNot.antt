-- What cannot be lacking. From what cannot be lacking each step leads on to what cannot be lacking, and a case by case proof may
-- begin with any claim or its opposite.
use Rattle.std.proofs.Common.{◌⊎◌, inl, inr}
use Rattle.lk_complete_laws.specs.Holding.{HoldsOfSome}

-- there is no proof that there is none
abbrev pub NotNot : Type 0 → Type 0
NotNot A = (A → ⊥) → ⊥

pub there_is : {A : Type 0} → A → NotNot A
there_is a none = none a

pub and_then : {A B : Type 0} → NotNot A → (A → NotNot B) → NotNot B
and_then some next none = some (λ a. next a none)

pub so_is : {A B : Type 0} → NotNot A → (A → B) → NotNot B
so_is some f none = some (λ a. none (f a))

-- a claim holds, or it doesn't
pub excluded : (A : Type 0) → NotNot (A ⊎ (A → ⊥))
excluded A none = none (inr (λ a. none (inl a)))

-- ---- relations that hold of something

-- a thing of which a relation holds
pub record Found {A : Type 0} (Holds : A → Type 0) : Type 0 where
  pub thing : A
  pub holds : Holds thing

pub of_found : {A : Type 0} {Holds : A → Type 0} → NotNot (Found Holds) → HoldsOfSome Holds
of_found some none = some (λ f. none f.thing f.holds)

pub of_this : {A : Type 0} {Holds : A → Type 0} (a : A) → Holds a → HoldsOfSome Holds
of_this a h none = none a h

-- where a relation holds of something, and of what goes with that another, the other holds of something
pub of_these : {A B : Type 0} {Holds : A → Type 0} {Fits : B → Type 0} → HoldsOfSome Holds → ((a : A) → Holds a → HoldsOfSome Fits) → HoldsOfSome Fits
of_these some next none = some (λ a h. next a h none)

-- and where two relations hold of something each, what is made of the two goes with both
pub of_both : {A B C : Type 0} {One : A → Type 0} {Other : B → Type 0} {Both : C → Type 0} → HoldsOfSome One → HoldsOfSome Other
    → (make : A → B → C) → ((a : A) (b : B) → One a → Other b → Both (make a b)) → HoldsOfSome Both
of_both some more make goes none = some (λ a h. more (λ b k. none (make a b) (goes a b h k)))
