-- What is found by places is what the definitions find by going along.
use Rattle.std.proofs.Common.{◌≡◌, ◌+◌, ℕ, zero, suc, Bool, true, false, List, [], ◌∷◌, map, drop, refl, sym, ap, ◌∙◌, arith}
use Rattle.std.specs.Prelude.{◌==◌, ◌&&◌, ◌||◌, if◌then◌else◌, slice_index_or, Option, Some, None}
use Rattle.lk_val.specs.declared.value.Value.{Value}
use Rattle.lk_val.specs.declared.value.Value.TheVariants as value
use Rattle.lk_types.specs.Filters.{passes}
use Rattle.lk_types.specs.Timeframes.{is_same_frame, timeframe_of}
use Rattle.lk_types.specs.declared.answer.Partial.{Partial}
use Rattle.lk_types.specs.declared.explore.Explore.{Explore}
use Rattle.lk_types.specs.declared.explore.Shape.{Shape}
use Rattle.lk_types.specs.declared.explore.Shape.TheVariants as shape
use Rattle.lk_types.specs.declared.filter.Filter.{Filter}
use Rattle.lk_types.specs.declared.schema.Frame.{Frame}
use Rattle.lk_semantics.specs.Rollups.{is_coarser, is_had_of, no_partial}
use Rattle.lk_semantics.specs.Rows.{field_at}
use Rattle.lk_regroup_laws.specs.Regroup.{brought_to, group_passes, had_of, partial_at, value_in_group}
use Rattle.lk_regroup.specs.ComponentParts.{part_from, place_from}
use Rattle.lk_regroup.specs.FieldSources.{brought, frame_between, frame_for, gives, is_had, passes_each, source_from, source_of, sourced, timeframe_at, timeframe_in, value_from}

-- ---- places

module _ {A : Type 0} (d : A) where
  -- a place past the end has nothing
  past_end : (xs : List A) (i : ℕ) → drop i xs ≡ [] → slice_index_or xs i d ≡ d
  past_end [] i e = refl
  past_end (x ∷ xs) zero e = absurd (cc e)
  past_end (x ∷ xs) (suc i) e = past_end xs i e

  abbrev nothing : List A
  nothing = []

  behind_nothing : (n : ℕ) → drop n nothing ≡ []
  behind_nothing zero = refl
  behind_nothing (suc n) = refl

  -- nor has the next
  past_next : (xs : List A) (i : ℕ) → drop i xs ≡ [] → drop (i + 1) xs ≡ []
  past_next [] i e = behind_nothing (i + 1)
  past_next (x ∷ xs) zero e = absurd (cc e)
  past_next (x ∷ xs) (suc i) e =
      let next : suc i + 1 ≡ suc (i + 1) = omega arith in
      ap (λ n. drop n (x ∷ xs)) next ∙ past_next xs i e

  -- the item at a place, and those behind it
  here_at : (xs : List A) (i : ℕ) (y : A) (ys : List A) → drop i xs ≡ y ∷ ys → slice_index_or xs i d ≡ y
  here_at [] zero y ys e = absurd (cc e)
  here_at [] (suc i) y ys e = absurd (cc e)
  here_at (x ∷ xs) zero y ys e = cc e
  here_at (x ∷ xs) (suc i) y ys e = here_at xs i y ys e

  behind : (xs : List A) (i : ℕ) (y : A) (ys : List A) → drop i xs ≡ y ∷ ys → drop (i + 1) xs ≡ ys
  behind [] zero y ys e = absurd (cc e)
  behind [] (suc i) y ys e = absurd (cc e)
  behind (x ∷ xs) zero y ys e = cc e
  behind (x ∷ xs) (suc i) y ys e =
      let next : suc i + 1 ≡ suc (i + 1) = omega arith in
      ap (λ n. drop n (x ∷ xs)) next ∙ behind xs i y ys e

-- ---- timeframes

and_false : (b : Bool) → (b && false) ≡ false
and_false true = refl
and_false false = refl

had_by : (p q : ℕ) (s t : Shape) → is_had (timeframe_in p s) (timeframe_in q t) ≡ ((p == q) && is_coarser s t)
had_by p q (shape.Frame g coarse) (shape.Frame h fine) = refl
had_by p q (shape.Frame g coarse) shape.Plain = sym (and_false (p == q))
had_by p q (shape.Frame g coarse) (shape.Tier bounds) = sym (and_false (p == q))
had_by p q shape.Plain t = sym (and_false (p == q))
had_by p q (shape.Tier bounds) t = sym (and_false (p == q))

brought_by : (p q : ℕ) (s t : Shape) (v : Value) → brought (frame_between (timeframe_in p s) (timeframe_in q t)) v ≡ brought_to s t v
brought_by p q (shape.Frame g coarse) (shape.Frame h fine) v =
    elim (is_same_frame coarse fine) as (λ b. brought (if b then None else Some coarse) v ≡ (if b then v else timeframe_of coarse v)) [
      | true ↦ refl
      | false ↦ refl
    ]
brought_by p q (shape.Frame g coarse) shape.Plain v = refl
brought_by p q (shape.Frame g coarse) (shape.Tier bounds) v = refl
brought_by p q shape.Plain t v = refl
brought_by p q (shape.Tier bounds) t v = refl

brought_null : (f : Option Frame) → brought f value.Null ≡ value.Null
brought_null None = refl
brought_null (Some f) = refl

module _ (x : Explore) where
  gives_is : (f d : ℕ) → gives x f d ≡ ((d == f) || is_had_of (field_at x f) (field_at x d))
  gives_is f d = ap (λ b. (d == f) || b) (had_by (field_at x f).part (field_at x d).part (field_at x f).shape (field_at x d).shape)

  had_is : (f d : ℕ) (v : Value) → brought (frame_for x f d) v ≡ had_of x f d v
  had_is f d v =
      elim (d == f) as (λ b. brought (if b then None else frame_between (timeframe_at x f) (timeframe_at x d)) v ≡ (if b then v else brought_to (field_at x f).shape (field_at x d).shape v)) [
        | true ↦ refl
        | false ↦ brought_by (field_at x f).part (field_at x d).part (field_at x f).shape (field_at x d).shape v
      ]

  -- ---- values of fields

  no_value : (f : ℕ) (dims : List ℕ) → value_in_group x dims [] f ≡ value.Null
  no_value f [] = refl
  no_value f (d ∷ dims) = refl

  found : (f : ℕ) (dims : List ℕ) (i : ℕ) (group rest : List Value) → drop i group ≡ rest → value_from group (source_from x f i dims) ≡ value_in_group x dims rest f
  found f [] i group rest e = refl
  found f (d ∷ dims) i group [] e =
      elim (gives x f d) as (λ b. value_from group (if b then Some (record { place = i; frame = frame_for x f d }) else source_from x f (i + 1) dims) ≡ value.Null) [
        | true ↦ ap (brought (frame_for x f d)) (past_end value.Null group i e) ∙ brought_null (frame_for x f d)
        | false ↦ found f dims (i + 1) group [] (past_next value.Null group i e) ∙ no_value f dims
      ]
  found f (d ∷ dims) i group (v ∷ rest) e =
      elim (gives x f d) as (λ b. value_from group (if b then Some (record { place = i; frame = frame_for x f d }) else source_from x f (i + 1) dims) ≡ (if b then had_of x f d v else value_in_group x dims rest f)) [
        | true ↦ ap (brought (frame_for x f d)) (here_at value.Null group i v rest e) ∙ had_is f d v
        | false ↦ found f dims (i + 1) group rest (behind value.Null group i v rest e)
      ]
      ∙ ap (λ b. if b then had_of x f d v else value_in_group x dims rest f) (gives_is f d)

  pub value_is : (dims : List ℕ) (group : List Value) (f : ℕ) → value_from group (source_of x dims f) ≡ value_in_group x dims group f
  value_is dims group f = found f dims 0 group group refl

  pub group_is : (dims fields : List ℕ) (group : List Value) → map (value_from group) (map (source_of x dims) fields) ≡ map (value_in_group x dims group) fields
  group_is dims [] group = refl
  group_is dims (f ∷ fields) group = λ i. value_is dims group f i ∷ group_is dims fields group i

  pub passes_is : (dims : List ℕ) (filters : List (ℕ × Filter)) (group : List Value) → passes_each (map (sourced x dims) filters) group ≡ group_passes x dims filters group
  passes_is dims [] group = refl
  passes_is dims (f ∷ filters) group = λ i. passes f.1 (value_is dims group f.0 i) && passes_is dims filters group i

-- ---- parts of measures

no_part : (m : ℕ) (measures : List ℕ) → partial_at measures [] m ≡ no_partial
no_part m [] = refl
no_part m (n ∷ measures) = refl

part_found : (m : ℕ) (measures : List ℕ) (i : ℕ) (partials rest : List Partial) → drop i partials ≡ rest → part_from partials (place_from m i measures) ≡ partial_at measures rest m
part_found m [] i partials rest e = refl
part_found m (n ∷ measures) i partials [] e =
    elim (n == m) as (λ b. part_from partials (if b then Some i else place_from m (i + 1) measures) ≡ no_partial) [
      | true ↦ past_end no_partial partials i e
      | false ↦ part_found m measures (i + 1) partials [] (past_next no_partial partials i e) ∙ no_part m measures
    ]
part_found m (n ∷ measures) i partials (p ∷ rest) e =
    elim (n == m) as (λ b. part_from partials (if b then Some i else place_from m (i + 1) measures) ≡ (if b then p else partial_at measures rest m)) [
      | true ↦ here_at no_partial partials i p rest e
      | false ↦ part_found m measures (i + 1) partials rest (behind no_partial partials i p rest e)
    ]

pub part_is : (measures : List ℕ) (partials : List Partial) (m : ℕ) → part_from partials (place_from m 0 measures) ≡ partial_at measures partials m
part_is measures partials m = part_found m measures 0 partials partials refl
