-- Small steps to the kinds of filters: what may be there, and filters without relative dates.
use Rattle.std.proofs.Common.{◌≡◌, Bool, true, false, not, ◌&&◌, ◌||◌, List, [], ◌∷◌, Option, Some, None, option_map, refl, sym, ap}
use Rattle.std.specs.Prelude.{if◌then◌else◌, is_some, unwrap_or, IfSome}
use Rattle.std.specs.Option.{option_and_then}
use Rattle.std.specs.List.{list_all, list_any}
use Rattle.std.proofs.lemmas.Bool.{and_from, and_parts, false≢true}
use Rattle.lk_types.specs.Filters.{is_exclude_of, is_filter_of, is_include_of, is_relative}
use Rattle.lk_types.specs.declared.filter.Test.{Test}
use Rattle.lk_types.specs.declared.schema.Kind.{Kind}

-- ---- what is there

pub some_same : {A : Type 0} (a b : A) → Some a ≡ Some b → a ≡ b
some_same a b e = ap (λ o. unwrap_or o a) e

pub not_some : {A : Type 0} {P : Type 0} (b : A) → None ≡ Some b → P
not_some b e = absurd (false≢true (ap is_some e))

-- what holds of what is made, holds where it is made of something
pub of_made : {A B : Type 0} (f : A → B) (P : B → Type 0) → ((a : A) → P (f a)) → (o : Option A) → IfSome (option_map f o) P
of_made f P all None = tt
of_made f P all (Some a) = all a

pub of_next : {A B : Type 0} (f : A → Option B) (Q : A → Type 0) (P : B → Type 0) → ((a : A) → Q a → IfSome (f a) P) → (o : Option A) → IfSome o Q → IfSome (option_and_then f o) P
of_next f Q P all None h = tt
of_next f Q P all (Some a) h = all a h

pub any_some : {A : Type 0} (o : Option A) → IfSome o (λ a. Unit {0})
any_some None = tt
any_some (Some a) = tt

-- ---- marks

-- where no test is a relative date, the mark says so
pub plain_tests : (p : Test → Bool) → ((t : Test) → p t ≡ true → is_relative t ≡ false) → (ts : List Test) → list_all p ts ≡ true → list_any is_relative ts ≡ false
plain_tests p plain [] h = refl
plain_tests p plain (t ∷ ts) h =
    let parts = and_parts (p t) (list_all p ts) h in
    neither (is_relative t) (list_any is_relative ts) (plain t parts.0) (plain_tests p plain ts parts.1)
  where
    neither : (a b : Bool) → a ≡ false → b ≡ false → (a || b) ≡ false
    neither true b h k = h
    neither false b h k = k

unmarked : (a b : Bool) → a ≡ false → b ≡ false → (if a || b then false else not false) ≡ true
unmarked true b h k = absurd (false≢true (sym h))
unmarked false true h k = absurd (false≢true (sym k))
unmarked false false h k = refl

-- a filter of tests of a kind that are no relative dates
pub plain_filter : (k : Kind) → ((t : Test) → is_include_of k t ≡ true → is_relative t ≡ false) → ((t : Test) → is_exclude_of k t ≡ true → is_relative t ≡ false) → (include exclude : List Test)
    → list_all (is_include_of k) include ≡ true → list_all (is_exclude_of k) exclude ≡ true → is_filter_of k (record { include = include; exclude = exclude; relative = false }) ≡ true
plain_filter k ins outs include exclude h e =
    and_from (list_all (is_include_of k) include && list_all (is_exclude_of k) exclude) _ (and_from (list_all (is_include_of k) include) (list_all (is_exclude_of k) exclude) h e)
    (unmarked (list_any is_relative include) (list_any is_relative exclude) (plain_tests (is_include_of k) ins include h) (plain_tests (is_exclude_of k) outs exclude e))
