-- Rounds over the derived tables find the datagroup to which reading each comes first.
use Rattle.std.proofs.Common.{◌≡◌, ℕ, suc, true, List, [], ◌∷◌, ◌++◌, map, length, refl, sym, ap, ◌∙◌}
use Rattle.std.specs.Prelude.{flat_map, nat_lt, slice_index_or, Option, None, Some}
use Rattle.std.specs.List.{list_all}
use Rattle.std.proofs.lemmas.List.{get_or-map}
use Rattle.lk_types.specs.declared.explore.Origin.{Origin}
use Rattle.lk_types.specs.declared.explore.Origin.TheVariants as origin
use Rattle.lk_types.specs.declared.model.Derived.{Derived}
use Rattle.lk_types.specs.declared.model.Model.{Model}
use Rattle.lk_semantics.specs.Derived.{derived_query, explore_at}
use Rattle.lk_semantics.specs.Reading.{derived_in}
use Rattle.lk_semantics.specs.Resolved.{IsResolved}
use Rattle.lk_semantics.specs.Rollups.{datagroups_from, derived_at, no_derived, or_within, origins_of, reached_by, reached_datagroups}
use Rattle.lk_semantics.proofs.EveryLaws.{Every, first, second}
use Rattle.lk_fill.specs.Orders.{reads_of_each}
use Rattle.lk_fill.specs.Reached.{first_of, first_reached, group_next, group_within, groups_next, groups_reached, or_else}
use Rattle.lk_fill.specs.Reads.{tables_read}
use Rattle.lk_fill.proofs.NumberLaws.{of_test}
use Rattle.lk_fill.proofs.NumberedLaws.{map_unnumbered}
use Rattle.lk_fill.proofs.OrderLaws.{is_there, origins_there, read_from}

-- ---- the first of lists

first_append : (xs ys : List ℕ) → first_of (xs ++ ys) ≡ or_else (first_of xs) (first_of ys)
first_append [] ys = refl
first_append (x ∷ xs) ys = refl

first_within : (deeper : Derived → List ℕ) (d : Derived) (own : Option ℕ) → first_of (or_within deeper d own) ≡ or_else own (first_of (deeper d))
first_within deeper d None = refl
first_within deeper d (Some g) = refl

none_behind : (own : Option ℕ) → or_else own None ≡ own
none_behind None = refl
none_behind (Some g) = refl

pub one_reached : (groups : List (Option ℕ)) (d : ℕ) → first_reached groups (d ∷ []) ≡ slice_index_or groups d None
one_reached groups d = none_behind (slice_index_or groups d None)

pub more_reached : (groups : List (Option ℕ)) (xs ys : List ℕ) → first_reached groups (xs ++ ys) ≡ or_else (first_reached groups xs) (first_reached groups ys)
more_reached groups [] ys = refl
more_reached groups (d ∷ xs) ys =
    ap (or_else (slice_index_or groups d None)) (more_reached groups xs ys)
    ∙ elim (slice_index_or groups d None) as (λ own. or_else own (or_else (first_reached groups xs) (first_reached groups ys)) ≡ or_else (or_else own (first_reached groups xs)) (first_reached groups ys)) [
      | None ↦ refl
      | Some g ↦ refl
    ]

-- ---- lists

all_alike : {A B : Type 0} (f g : A → B) → ((x : A) → f x ≡ g x) → (xs : List A) → map f xs ≡ map g xs
all_alike f g alike [] = refl
all_alike f g alike (x ∷ xs) = (λ k. alike x k ∷ all_alike f g alike xs k)

-- ---- of a model

module _ (m : Model) (resolved : IsResolved m) where
  -- where reading a table comes to what it does through others, so does reading some views
  first_is : (deeper : Derived → List ℕ) (groups : List (Option ℕ))
      → ((d : ℕ) → nat_lt d (length m.derived) ≡ true → slice_index_or groups d None ≡ first_of (or_within deeper (derived_at m d) (derived_at m d).datagroup))
      → (os : List Origin) → Every (is_there m resolved) os → first_of (flat_map (datagroups_from m deeper) os) ≡ first_reached groups (flat_map derived_in os)
  first_is deeper groups at [] h = refl
  first_is deeper groups at (origin.Stored t ∷ os) h = first_is deeper groups at os (second true (list_all (is_there m resolved) os) h)
  first_is deeper groups at (origin.Derived d ∷ os) h =
      first_append (or_within deeper (derived_at m d) (derived_at m d).datagroup) (flat_map (datagroups_from m deeper) os)
      ∙ (λ k. or_else (sym (at d (first (nat_lt d (length m.derived)) (list_all (is_there m resolved) os) h)) k) (first_is deeper groups at os (second (nat_lt d (length m.derived)) (list_all (is_there m resolved) os) h) k))

  -- where reading each derived table comes to this through at most k others
  within_at : (k : ℕ) (groups : List (Option ℕ)) → groups ≡ map (group_within m k) m.derived → (d : ℕ) → nat_lt d (length m.derived) ≡ true
      → slice_index_or groups d None ≡ group_within m k (derived_at m d)
  within_at k groups are d less =
      ap (λ all. slice_index_or all d None) are ∙ get_or-map (group_within m k) m.derived d no_derived None (of_test d (length m.derived) less)

  -- through one more
  table_next : (k : ℕ) (groups : List (Option ℕ)) → groups ≡ map (group_within m k) m.derived
      → (d : Derived) → or_else d.datagroup (first_reached groups (read_from m d)) ≡ group_within m (suc k) d
  table_next k groups are d =
      let joins = (derived_query (explore_at m d.explore) d).joins in
      ap (or_else d.datagroup) (sym (first_is (reached_by m k) groups (within_at k groups are) (origins_of (explore_at m d.explore) joins) (origins_there m resolved d.explore joins)))
      ∙ sym (first_within (reached_by m (suc k)) d d.datagroup)

  pub round_next : (k n : ℕ) (groups : List (Option ℕ)) (reads : List (List ℕ)) → n ≡ suc k → groups ≡ map (group_within m k) m.derived → reads ≡ reads_of_each m
      → groups_next groups reads m.derived ≡ map (group_within m n) m.derived
  round_next k n groups reads next are found =
      map_unnumbered (group_next groups reads) (group_within m (suc k)) m.derived no_derived
      (λ i less.
      let read = ap (λ all. slice_index_or all i []) found ∙ get_or-map (read_from m) m.derived i no_derived [] less in
      ap (λ tables. or_else (derived_at m i).datagroup (first_reached groups tables)) read ∙ table_next k groups are (derived_at m i))
      ∙ ap (λ j. map (group_within m j) m.derived) (sym next)

  pub reached_is : (e : ℕ) (joins : List ℕ) → first_of (reached_datagroups m (explore_at m e) joins) ≡ first_reached (groups_reached m) (tables_read (explore_at m e) joins)
  reached_is e joins =
      first_is (reached_by m (length m.derived)) (groups_reached m) (within_at (length m.derived) (groups_reached m) refl)
      (origins_of (explore_at m e) joins) (origins_there m resolved e joins)

-- through none
pub own_within : (m : Model) (groups : List (Option ℕ)) → groups ≡ map (λ (d : Derived). d.datagroup) m.derived → groups ≡ map (group_within m 0) m.derived
own_within m groups are =
    are ∙ all_alike (λ (d : Derived). d.datagroup) (group_within m 0)
    (λ d. sym (first_within (reached_by m 0) d d.datagroup ∙ none_behind d.datagroup)) m.derived
