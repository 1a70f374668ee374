-- A placed filter has no relative dates, and one without relative dates is placed as it is.
use Rattle.std.proofs.Common.{◌≡◌, ℕ, Bool, true, false, ◌||◌, List, [], ◌∷◌, ℤ, map, refl, sym, ap, ◌∙◌}
use Rattle.std.specs.Prelude.{not}
use Rattle.std.specs.List.{list_any}
use Rattle.std.specs.Cmp.Derive.{both_true}
use Rattle.std.proofs.lemmas.Bool.{false≢true}
use Rattle.lk_types.specs.Filters.{placed, placed_test, today_at, is_relative, is_placed}
use Rattle.lk_types.specs.declared.filter.Filter.{Filter}
use Rattle.lk_types.specs.declared.filter.Test.{Test}
use Rattle.lk_types.specs.declared.filter.Test.TheVariants as test
use Rattle.lk_filter.proofs.Steps.{both}

test-placed : (n : ℕ) (t : Test) → is_relative (placed_test n t) ≡ false
test-placed n test.Null = refl
test-placed n test.Empty = refl
test-placed n (test.Like p) = refl
test-placed n (test.Is m) = refl
test-placed n (test.Compare cs) = refl
test-placed n (test.To a b) = refl
test-placed n (test.Range a b) = refl
test-placed n (test.In a) = refl
test-placed n (test.Before a) = refl
test-placed n (test.After a) = refl
test-placed n (test.FromTo a b) = refl
test-placed n test.Today = refl
test-placed n test.Yesterday = refl
test-placed n (test.This p) = refl
test-placed n (test.Last p) = refl
test-placed n (test.Recent k p) = refl
test-placed n (test.Ago k p) = refl
test-placed n (test.Truth b) = refl

none-relative : (n : ℕ) (ts : List Test) → not (list_any is_relative (map (placed_test n) ts)) ≡ true
none-relative n [] = refl
none-relative n (t ∷ ts) = ap (λ b. not (b || list_any is_relative (map (placed_test n) ts))) (test-placed n t) ∙ none-relative n ts

pub placed-placed : (now : ℤ) (f : Filter) → is_placed (placed now f) ≡ true
placed-placed now f = both_true (none-relative (today_at now) f.include) (none-relative (today_at now) f.exclude)

test-kept : (n : ℕ) (t : Test) → is_relative t ≡ false → placed_test n t ≡ t
test-kept n test.Today e = cc
test-kept n test.Yesterday e = cc
test-kept n (test.This p) e = cc
test-kept n (test.Last p) e = cc
test-kept n (test.Recent k p) e = cc
test-kept n (test.Ago k p) e = cc
test-kept n t e = refl

tests-kept : (n : ℕ) (ts : List Test) → not (list_any is_relative ts) ≡ true → map (placed_test n) ts ≡ ts
tests-kept n [] e = refl
tests-kept n (t ∷ ts) e = by (is_relative t) refl (tests-kept n ts)
  where
    by : (b : Bool) → is_relative t ≡ b → (not (list_any is_relative ts) ≡ true → map (placed_test n) ts ≡ ts) → map (placed_test n) (t ∷ ts) ≡ t ∷ ts
    by true r further = absurd (false≢true (ap (λ b. not (b || list_any is_relative ts)) (sym r) ∙ e))
    by false r further = λ i. test-kept n t r i ∷ further (ap (λ b. not (b || list_any is_relative ts)) (sym r) ∙ e) i

pub placed-kept : (now : ℤ) (f : Filter) → is_placed f ≡ true → placed now f ≡ record f { relative = false }
placed-kept now f e =
    let parts = both (not (list_any is_relative f.include)) (not (list_any is_relative f.exclude)) e in
    λ i. record {
      include = tests-kept (today_at now) f.include parts.0 i;
      exclude = tests-kept (today_at now) f.exclude parts.1 i;
      relative = false;
    }
