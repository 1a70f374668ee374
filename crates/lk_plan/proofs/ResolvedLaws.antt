-- What is known of an explore of a resolved model.
use Rattle.std.proofs.Common.{◌≡◌, ℕ, ◌+◌, ◌<◌, ◌≤◌, zero, suc, Bool, true, ◌&&◌, List, [], ◌∷◌, length, get_or, refl, sym, subst, arith}
use Rattle.std.specs.Prelude.{nat_eq, nat_le, nat_lt}
use Rattle.std.specs.List.{list_all, AllByRecursion}
use Rattle.lk_types.specs.declared.explore.Explore.{Explore}
use Rattle.lk_types.specs.declared.explore.Field.{Field}
use Rattle.lk_types.specs.declared.kind_set.Leaves.{Leaves}
use Rattle.lk_types.specs.declared.model.Model.{Model}
use Rattle.lk_types.specs.declared.schema.Kind.TheVariants as kind
use Rattle.lk_semantics.specs.Derived.{explore_at, no_explore}
use Rattle.lk_semantics.specs.Reading.{leaves_of}
use Rattle.lk_semantics.specs.Resolved.{IsResolved, IsResolvedExplore, has_tiers, has_shape_kind, has_typed_key, is_none_or_typed, is_typed_field, is_typed_join, is_typed_measure, names_numbers}
use Rattle.lk_plan.specs.Conditions.{have_tiers}
use Rattle.lk_plan.proofs.JoiningLaws.{left, right, both}

-- each item of a list has what all have
pub at : {A : Type 0} (P : A → Type 0) (xs : List A) (i : ℕ) (d : A) → AllByRecursion P xs → i < length xs → P (get_or xs i d)
at P [] i d all h = absurd (omega arith)
at P (x ∷ xs) zero d all h = all.0
at P (x ∷ xs) (suc i) d all h = at P xs i d all.1 (omega arith)

less_of : (m n : ℕ) → nat_lt m n ≡ true → m < n
less_of m n h = grind arith

at_most_of : (m n : ℕ) → nat_le m n ≡ true → m ≤ n
at_most_of m n h = grind arith

equal_of : (m n : ℕ) → nat_eq m n ≡ true → m ≡ n
equal_of m n h = grind arith

each_tiers : (leaves : Leaves) (fs : List Field) → list_all (is_typed_field leaves) fs ≡ true → list_all (λ f. has_tiers f.shape) fs ≡ true
each_tiers leaves [] h = refl
each_tiers leaves (f ∷ fs) h =
    both (has_tiers f.shape) (list_all (λ g. has_tiers g.shape) fs)
    (left (has_tiers f.shape) (has_shape_kind leaves f.shape f.kind f.expr) (left (is_typed_field leaves f) (list_all (is_typed_field leaves) fs) h))
    (each_tiers leaves fs (right (is_typed_field leaves f) (list_all (is_typed_field leaves) fs) h))

module _ (m : Model) (x : Explore) (resolved : IsResolvedExplore m x) where
  pub few : length x.joins ≤ 31
  few = at_most_of (length x.joins) 31 resolved.few_joins

  pub parts : length x.parts ≡ length x.joins + 1
  parts = equal_of (length x.parts) (length x.joins + 1) resolved.parts

  abbrev keys_and_joins : Bool
  keys_and_joins = list_all (has_typed_key (leaves_of m x)) x.parts && list_all (is_typed_join (leaves_of m x)) x.joins

  abbrev to_fields : Bool
  to_fields = keys_and_joins && list_all (is_typed_field (leaves_of m x)) x.fields

  abbrev to_measures : Bool
  to_measures = to_fields && list_all (is_typed_measure (leaves_of m x)) x.measures

  abbrev to_names : Bool
  to_names = to_measures && list_all (names_numbers x) x.measures

  pub fields : list_all (is_typed_field (leaves_of m x)) x.fields ≡ true
  fields =
      right keys_and_joins (list_all (is_typed_field (leaves_of m x)) x.fields)
      (left to_fields (list_all (is_typed_measure (leaves_of m x)) x.measures)
      (left to_measures (list_all (names_numbers x) x.measures)
      (left to_names (is_none_or_typed (leaves_of m x) kind.Truth x.always_where) resolved.typed)))

  pub hidden : is_none_or_typed (leaves_of m x) kind.Truth x.always_where ≡ true
  hidden = right to_names (is_none_or_typed (leaves_of m x) kind.Truth x.always_where) resolved.typed

  pub tiers : have_tiers x ≡ true
  tiers = each_tiers (leaves_of m x) x.fields fields

-- the explore that stands at a place
pub explore_of : (m : Model) → IsResolved m → (xs : List Explore) → xs ≡ m.explores → (i : ℕ) → nat_lt i (length m.explores) ≡ true → (x : Explore) → x ≡ get_or xs i x → IsResolvedExplore m x
explore_of m resolved xs same i h x is =
    subst (IsResolvedExplore m) (sym is)
    (subst (λ ys. IsResolvedExplore m (get_or ys i x)) (sym same) (at (IsResolvedExplore m) m.explores i x resolved.explores (less_of i (length m.explores) h)))

pub resolved_at : (m : Model) → IsResolved m → (i : ℕ) → nat_lt i (length m.explores) ≡ true → IsResolvedExplore m (explore_at m i)
resolved_at m resolved i h = at (IsResolvedExplore m) m.explores i no_explore resolved.explores (less_of i (length m.explores) h)
