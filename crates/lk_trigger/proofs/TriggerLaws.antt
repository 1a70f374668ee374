-- When datagroups trigger.
use Rattle.std.proofs.Common.{◌≡◌, ◌↔◌, ℕ, Bool, true, false, not, ℤ, List, refl, ap, subst, arith}
use Rattle.std.specs.Prelude.{Option, Some, None}
use Rattle.std.proofs.lemmas.Int.{ints}
use Rattle.std.specs.Ordering.{is_eq}
use Rattle.std.specs.Cmp.{tied_itself}
use Rattle.lk_val.specs.ValueOrder.{values_ordered}
use Rattle.lk_val.specs.Values.{is_same}
use Rattle.lk_val.proofs.SetLaws.{ties}
use Rattle.lk_val.specs.declared.value.Value.{Value}
use Rattle.lk_types.specs.Tables.{Rows}
use Rattle.lk_types.specs.declared.model.Datagroup.{Datagroup}
use Rattle.lk_types.specs.declared.model.Trigger.{Trigger}
use Rattle.lk_semantics.specs.Resolved.{is_interval}
use Rattle.lk_trigger.specs.Builds.{built_at, does_trigger, has_changed, has_passed, trigger_value}

not_not : (b : Bool) → not b ≡ false → b ≡ true
not_not true e = refl
not_not false e = cc

same_itself : (v : Value) → is_same v v ≡ true
same_itself v = ap is_eq (tied_itself values_ordered.total v)

-- two values are the same just where they are equal
pub same_exactly : (a b : Value) → (not (is_same a b) ≡ false) ↔ (a ≡ b)
same_exactly a b = (
  (λ e. ties values_ordered a b (not_not (is_same a b) e)),
  (λ e. subst (λ w. not (is_same a w) ≡ false) e (ap not (same_itself a))),
)

unchanged : (trigger : Option Trigger) (v : Value) → has_changed v trigger v ≡ false
unchanged None v = refl
unchanged (Some t) v = ap not (same_itself v)

not_passed : (seconds now : ℤ) → is_interval (Some seconds) ≡ true → has_passed seconds now now ≡ false
not_passed seconds now within = grind (arith, ints)

rests_by : (tables : List Rows) (number : ℕ) (now : ℤ) (g : Datagroup) (interval : Option ℤ) → is_interval interval ≡ true
    → does_trigger tables now (built_at tables number now g) (record g { interval = interval }) ≡ false
rests_by tables number now g None within = unchanged g.trigger (trigger_value tables now g.trigger)
rests_by tables number now g (Some seconds) within = not_passed seconds now within

-- a datagroup that was just built does not trigger
pub rests : (tables : List Rows) (number : ℕ) (now : ℤ) (g : Datagroup) → is_interval g.interval ≡ true
    → does_trigger tables now (built_at tables number now g) g ≡ false
rests tables number now g within = rests_by tables number now g g.interval within
