-- The measures of which a measure of the model is made are among those of which it is made as it is declared.
use Rattle.std.proofs.Common.{◌≡◌, ◌∙◌, ◌≤◌, ℕ, zero, suc, ◌+◌, Bool, true, false, ◌||◌, List, [], ◌∷◌, ◌++◌, map, length, refl, ap, sym, subst, ⊎_elim, Option, Some, None, arith}
use Rattle.std.specs.Prelude.{flat_map, if◌then◌else◌, not, ◌==◌, slice_get}
use Rattle.std.specs.List.{AllByRecursion, fold, list_any}
use Rattle.std.proofs.lemmas.Bool.{false≢true}
use Rattle.lk_val.specs.Least.{grown_times, is_in}
use Rattle.lk_types.specs.declared.explore.Explore.{Explore}
use Rattle.lk_types.specs.declared.explore.Measure.{Measure}
use Rattle.lk_types.specs.declared.schema.Schema.{Schema}
use Rattle.lk_objects.specs.declared.code.Code.{Code}
use Rattle.lk_objects.specs.declared.code.Code.TheVariants as code
use Rattle.lk_objects.specs.declared.code.Reference.{Reference}
use Rattle.lk_objects.specs.declared.code.WrittenNumber.{WrittenNumber}
use Rattle.lk_objects.specs.declared.explore.DeclaredExplore.{DeclaredExplore}
use Rattle.lk_objects.specs.declared.field.DeclaredField.{DeclaredField}
use Rattle.lk_objects.specs.declared.view.DeclaredView.{DeclaredView}
use Rattle.lk_fields.specs.declared.scope.Found.{Found}
use Rattle.lk_fields.specs.declared.scope.Place.{Place}
use Rattle.lk_fields.specs.declared.scope.Scope.{Scope}
use Rattle.lk_fields.specs.declared.scope.Sort.TheVariants as sort
use Rattle.lk_fields.specs.declared.scope.Writer.TheVariants as writer
use Rattle.lk_fields.specs.Existing as existing
use Rattle.lk_fields.specs.Existing.{all_places, ends_after, exists, field_at, is_same_place, meant, places_of, targets}
use Rattle.lk_fields.proofs.LostLaws.{passing, same_exact, same_itself}
use Rattle.lk_formulas.specs.declared.columns.ColumnKinds.{ColumnKinds}
use Rattle.lk_formulas.specs.Formulas.{ends, field_named}
use Rattle.lk_formulas.proofs.RoundLaws.{all_in}
use Rattle.lk_scope.specs.Components.{components, components_within, is_field_over, is_over_at, is_over_measures, measure_meant, over, over_code, over_field, place_found, put_behind, replaced}
use Rattle.lk_semantics.specs.Answers as answers
use Rattle.lk_semantics.specs.Answers.{components_of, first_each, measures_in, no_measure, or_parts, parts_of_measure}
use Rattle.lk_semantics.proofs.EveryLaws.{first}
use Rattle.lk_resolved.specs.Explores.{explore_of}
use Rattle.lk_resolved.specs.Fields.{measure_with, number_named, number_with}
use Rattle.lk_resolved.specs.Names.{measures, or_zero}
use Rattle.lk_model_laws.proofs.ExistingLaws.{IsKnownName, sql_known}
use Rattle.lk_model_laws.proofs.GroundedLaws.{IsReferred, IsReferredCode, aligned, known_reference, meant_measure, number_is, place_referred, renumbered_measures, target_of_sql}
use Rattle.lk_model_laws.proofs.ListLaws.{all_append, all_filter, all_flat, got_or, position_at, position_found}
use Rattle.lk_model_laws.proofs.NamedTypes.{NamedMeasure}
use Rattle.lk_model_laws.proofs.NumberLaws.{measures_of_fields}
use Rattle.lk_model_laws.proofs.PieceLaws.{some_none}
use Rattle.lk_model_laws.proofs.PlaceLaws.{any_flat, any_left, any_right, one_of, or_left, or_right}

-- ---- places put behind others

kept_behind : (t place : Place) (places : List Place) → is_in is_same_place t places ≡ true → is_in is_same_place t (put_behind places place) ≡ true
kept_behind t place places h =
    elim (is_in is_same_place place places) as (λ b. is_in is_same_place t (if b then places else places ++ place ∷ []) ≡ true) [
      | true ↦ h
      | false ↦ any_left (is_same_place t) places (place ∷ []) h
    ]

put_there : (t place : Place) (places : List Place) → is_same_place t place ≡ true → is_in is_same_place t (put_behind places place) ≡ true
put_there t place places h =
    elim (is_in is_same_place place places) as (λ b. is_in is_same_place place places ≡ b → is_in is_same_place t (if b then places else places ++ place ∷ []) ≡ true) [
      | true ↦ λ is. subst (λ p. is_in is_same_place p places ≡ true) (sym (same_exact t place h)) is
      | false ↦ λ _. any_right (is_same_place t) places (place ∷ []) (or_left (is_same_place t place) false h)
    ] refl

folded_there : (t : Place) (before places : List Place) → (is_in is_same_place t before || is_in is_same_place t places) ≡ true → is_in is_same_place t (fold put_behind before places) ≡ true
folded_there t before [] h = ⊎_elim (λ is. is) (λ none. absurd (false≢true none)) (one_of (is_in is_same_place t before) false h)
folded_there t before (place ∷ places) h =
    folded_there t (put_behind before place) places
    (⊎_elim (λ is. or_left (is_in is_same_place t (put_behind before place)) (is_in is_same_place t places) (kept_behind t place before is))
    (λ more. ⊎_elim (λ here. or_left (is_in is_same_place t (put_behind before place)) (is_in is_same_place t places) (put_there t place before here))
    (λ later. or_right (is_in is_same_place t (put_behind before place)) (is_in is_same_place t places) later) (one_of (is_same_place t place) (is_in is_same_place t places) more))
    (one_of (is_in is_same_place t before) (is_same_place t place || is_in is_same_place t places) h))

any_over : (test : Place → Bool) (p : Place) (places : List Place) → is_in is_same_place p places ≡ true → test p ≡ true → list_any test places ≡ true
any_over test p [] inside h = absurd (false≢true inside)
any_over test p (q ∷ places) inside h =
    ⊎_elim (λ here. or_left (test q) (list_any test places) (ap test (sym (same_exact p q here)) ∙ h)) (λ later. or_right (test q) (list_any test places) (any_over test p places later h))
    (one_of (is_same_place p q) (is_in is_same_place p places) inside)

-- ---- measures that stand for themselves

module _ (views : List DeclaredView) (scope : Scope) where
  -- what a measure is over comes in its place
  over_there : (t p : Place) (places : List Place) → is_in is_same_place p places ≡ true → is_in is_same_place t (over views scope p) ≡ true → is_in is_same_place t (replaced views scope places) ≡ true
  over_there t p places inside h =
      folded_there t [] (flat_map (over views scope) places)
      (any_flat (is_same_place t) (over views scope) (is_same_place p) (λ q same. subst (λ r. is_in is_same_place t (over views scope r) ≡ true) (same_exact p q same) h) places inside)

  itself_over : (p : Place) → is_over_at views scope p ≡ false → is_in is_same_place p (over views scope p) ≡ true
  itself_over p h = of_field (field_at views scope p) h
    where
      of_code : (c : Code) → is_over_measures c ≡ false → is_in is_same_place p (over_code views scope p c) ≡ true
      of_code (code.Number written) h = absurd (false≢true (sym h))
      of_code (code.Expr written) h = or_left (is_same_place p p) false (same_itself p)
      of_code code.Absent h = or_left (is_same_place p p) false (same_itself p)
      of_code code.Liquid h = or_left (is_same_place p p) false (same_itself p)
      of_code (code.Syntax place) h = or_left (is_same_place p p) false (same_itself p)

      of_field : (o : Option DeclaredField) → is_field_over views scope o ≡ false → is_in is_same_place p (over_field views scope p o) ≡ true
      of_field None h = or_left (is_same_place p p) false (same_itself p)
      of_field (Some field) h = of_code field.sql h

  persists : (n : ℕ) (places : List Place) (p : Place) → is_over_at views scope p ≡ false → is_in is_same_place p places ≡ true → is_in is_same_place p (components_within views scope n places) ≡ true
  persists zero places p own inside = inside
  persists (suc n) places p own inside =
      elim (list_any (is_over_at views scope) places) as (λ b. is_in is_same_place p (if b then components_within views scope n (replaced views scope places) else places) ≡ true) [
        | true ↦ persists n (replaced views scope places) p own (over_there p p places inside (itself_over p own))
        | false ↦ inside
      ]

  place_over : (part : ℕ) (rs : List Reference) (i : ℕ) (r : Reference) (found : Found) → slice_get rs i ≡ Some r → field_named views scope (writer.Field part) sort.Measure r ≡ Some found
      → is_in is_same_place found.place (flat_map (measure_meant views scope part) rs) ≡ true
  place_over part [] i r found at h = absurd (some_none (sym at))
  place_over part (q ∷ rs) zero r found at h =
      let same : q ≡ r = cc in
      any_left (is_same_place found.place) (measure_meant views scope part q) (flat_map (measure_meant views scope part) rs)
      (subst (λ z. is_in is_same_place found.place (measure_meant views scope part z) ≡ true) (sym same)
      (ap (λ o. is_in is_same_place found.place (place_found o)) h ∙ or_left (is_same_place found.place found.place) false (same_itself found.place)))
  place_over part (q ∷ rs) (suc i) r found at h =
      any_right (is_same_place found.place) (measure_meant views scope part q) (flat_map (measure_meant views scope part) rs) (place_over part rs i r found at h)

  -- ---- the parts of a measure of the model

  module _ (schema : Schema) (columns : ColumnKinds) (datagroup : Option (List ℕ) → ℕ) (x : DeclaredExplore)
      (right : (place : Place) (field : DeclaredField) → field_at views scope place ≡ Some field → IsReferredCode field.sql) (P : ℕ → Type 0) where
    abbrev y : Explore
    y = explore_of schema views scope columns datagroup x

    abbrev round : ℕ → List Place
    round n = grown_times is_same_place (all_places views scope) (ends_after views scope) n

    -- what is asked of the measures at some places
    abbrev HoldsAt : List Place → Type 0
    HoldsAt places = (q : Place) → is_in is_same_place q places ≡ true → (j : ℕ) (m : NamedMeasure) → slice_get (measures views scope) j ≡ Some m → m.place ≡ q → P j

    -- what is claimed of the measure at a place
    abbrev HoldsOf : ℕ → Place → Type 0
    HoldsOf d p = (k : ℕ) (m : NamedMeasure) → slice_get (measures views scope) k ≡ Some m → m.place ≡ p → AllByRecursion P (parts_of_measure y d k)

    -- the parts of what a calculation names
    calculation_parts : (d part : ℕ) (written : WrittenNumber) → AllByRecursion (IsKnownName views scope) (flat_map (meant views scope part sort.Measure) written.references)
        → ((t : Place) → is_in is_same_place t (places_of (flat_map (meant views scope part sort.Measure) written.references)) ≡ true
        → is_in is_same_place t (flat_map (measure_meant views scope part) written.references) ≡ true → HoldsOf d t)
        → (is : List ℕ) → AllByRecursion (IsReferred written.references) is → AllByRecursion P (flat_map (parts_of_measure y d) (map (λ i. number_named views scope part (slice_get written.references i)) is))
    calculation_parts d part written names h [] referred = tt
    calculation_parts d part written names h (i ∷ is) referred =
        let s : ℕ → ℕ = λ j. number_named views scope part (slice_get written.references j) in
        all_append P (parts_of_measure y d (s i)) (flat_map (parts_of_measure y d) (map s is)) (one referred.0) (calculation_parts d part written names h is referred.1)
      where
        one : IsReferred written.references i → AllByRecursion P (parts_of_measure y d (number_named views scope part (slice_get written.references i)))
        one of =
            let name = known_reference views scope part sort.Measure written.references i of.0 of.1 of.2 names in
            let there = position_found (λ (m : NamedMeasure). is_same_place m.place name.0.place) (measures views scope) (meant_measure views scope part of.0 name.0 name.1 name.2) in
            let at = position_at (λ (m : NamedMeasure). is_same_place m.place name.0.place) (measures views scope) there.0 there.1 in
            let number = ap (number_named views scope part) of.1 ∙ number_is views scope part of.0 name.0 name.1 ∙ ap or_zero there.1 in
            subst (λ n. AllByRecursion P (parts_of_measure y d n)) (sym number)
            (h name.0.place (place_referred views scope part sort.Measure written.references i of.0 name.0 of.1 name.1) (place_over part written.references i of.0 name.0 of.1 name.1) there.0 at.0 at.1
            (same_exact at.0.place name.0.place at.2))

    code_parts : (d k : ℕ) (p : Place) (c : Code) → IsReferredCode c → AllByRecursion (IsKnownName views scope) (existing.meant_in views scope p.part c)
        → (is_over_measures c ≡ false → P k)
        → (is_over_measures c ≡ true → (t : Place) → is_in is_same_place t (places_of (existing.meant_in views scope p.part c)) ≡ true → is_in is_same_place t (over_code views scope p c) ≡ true → HoldsOf d t)
        → AllByRecursion P (or_parts k (parts_of_measure y d) (number_with views scope p.part c))
    code_parts d k p (code.Number written) right_code names own h =
        subst (λ ns. AllByRecursion P (flat_map (parts_of_measure y d) ns)) (sym (renumbered_measures (λ i. number_named views scope p.part (slice_get written.references i)) written.expr))
        (calculation_parts d p.part written names (h refl) (measures_in written.expr) right_code)
    code_parts d k p (code.Expr written) right_code names own h = (own refl, tt)
    code_parts d k p code.Absent right_code names own h = (own refl, tt)
    code_parts d k p code.Liquid right_code names own h = (own refl, tt)
    code_parts d k p (code.Syntax place) right_code names own h = (own refl, tt)

    -- given what holds of the measures of a round
    abbrev Again : ℕ → ℕ → Type 0
    Again r d = (n : ℕ) (places : List Place) (t : Place) → r ≤ n + 1 → is_in is_same_place t (round r) ≡ true → is_in is_same_place t places ≡ true
        → HoldsAt (components_within views scope n places) → HoldsOf d t

    deeper : (r d : ℕ) → Again r d → (n : ℕ) (places : List Place) (p : Place) → suc r ≤ n + 1 → is_in is_same_place p places ≡ true → HoldsAt (components_within views scope n places)
        → (t : Place) → is_in is_same_place t (round r) ≡ true → is_over_at views scope p ≡ true → is_in is_same_place t (over views scope p) ≡ true → HoldsOf d t
    deeper r d again zero places p few there base t in_round is_over over_p =
        let none : r ≡ zero = omega arith in
        absurd (false≢true (subst (λ z. is_in is_same_place t (round z) ≡ true) none in_round))
    deeper r d again (suc n) places p few there base t in_round is_over over_p =
        again n (replaced views scope places) t (omega arith) in_round (over_there t p places there over_p)
        (λ q inside. base q (ap (λ b. is_in is_same_place q (if b then components_within views scope n (replaced views scope places) else places)) (any_over (is_over_at views scope) p places there is_over) ∙ inside))

    of_measure : (r d : ℕ) → Again r d → (n : ℕ) (places : List Place) (p : Place) → suc r ≤ n + 1 → is_in is_same_place p places ≡ true → HoldsAt (components_within views scope n places)
        → ends_after views scope (round r) p ≡ true → HoldsOf (suc d) p
    of_measure r d again n places p few there base added k m at same =
        let of = aligned views scope schema columns (measures views scope) (measures_of_fields views scope) k m at in
        let made = measure_with schema views scope columns m of.0.field in
        let made_at : answers.measure_at y k ≡ made = got_or y.measures k no_measure made of.1 in
        let field_is : field_at views scope p ≡ Some of.0.field = ap (field_at views scope) (sym same) ∙ of.0.at in
        subst (λ (made_measure : Measure). AllByRecursion P (or_parts k (parts_of_measure y d) made_measure.number)) (sym made_at)
        (subst (λ (q : Place). AllByRecursion P (or_parts k (parts_of_measure y d) (number_with views scope q.part of.0.field.sql))) (sym same)
        (code_parts d k p of.0.field.sql (right p of.0.field field_is)
        (subst (λ (q : Place). AllByRecursion (IsKnownName views scope) (existing.meant_in views scope q.part of.0.field.sql)) same (sql_known views scope m.place of.0.field of.0.at of.0.there))
        (λ own. base p (persists n places p (ap (is_field_over views scope) field_is ∙ own) there) k m at same)
        (λ is_over t named over_p. deeper r d again n places p few there base t (all_in (round r) (targets views scope p) added t (target_of_sql views scope p of.0.field field_is t named))
        (ap (is_field_over views scope) field_is ∙ is_over) (ap (is_in is_same_place t) (ap (over_field views scope p) field_is) ∙ over_p))))

    parts_hold : (r d : ℕ) → Again r d
    parts_hold zero d n places p few inside there base = absurd (false≢true inside)
    parts_hold (suc r) zero n places p few inside there base = λ k m at same. tt
    parts_hold (suc r) (suc d) n places p few inside there base =
        let grown = first (is_in is_same_place p (round r) || ends_after views scope (round r) p) (is_in is_same_place p (all_places views scope))
        (sym (passing (λ q. is_in is_same_place q (round r) || ends_after views scope (round r) q) p (all_places views scope)) ∙ inside) in
        ⊎_elim (λ before. parts_hold r (suc d) n places p (omega arith) before there base)
        (λ added. of_measure r d (parts_hold r d) n places p few there base added) (one_of (is_in is_same_place p (round r)) (ends_after views scope (round r) p) grown)

    -- of a measure as it is named
    pub measure_parts_hold : ((place : Place) → exists views scope place ≡ true → ends views scope place ≡ true) → (d : ℕ) (p : Place) → exists views scope p ≡ true
        → HoldsAt (components views scope p) → HoldsOf d p
    measure_parts_hold end d p there base =
        parts_hold (length (all_places views scope)) d (length (all_places views scope)) (p ∷ []) p (omega arith) (end p there) (or_left (is_same_place p p) false (same_itself p)) base

    first_hold : (ns : List ℕ) → AllByRecursion P ns → AllByRecursion P (first_each ns)
    first_hold [] h = tt
    first_hold (n ∷ ns) h = (h.0, all_filter P (λ m. not (m == n)) (first_each ns) (first_hold ns h.1))

    -- the components of some measures
    pub components_hold : (Q : ℕ → Type 0) → ((k : ℕ) → Q k → AllByRecursion P (parts_of_measure y (length y.measures) k)) → (ns : List ℕ) → AllByRecursion Q ns → AllByRecursion P (components_of y ns)
    components_hold Q f ns h = first_hold (flat_map (parts_of_measure y (length y.measures)) ns) (all_flat P Q (parts_of_measure y (length y.measures)) f ns h)
