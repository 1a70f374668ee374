-- No `number` of an explore stands on itself, where the references of each field end.
use Rattle.std.proofs.Common.{◌≡◌, ◌∙◌, ◌<◌, ◌≤◌, ℕ, zero, suc, true, false, ◌||◌, List, [], ◌∷◌, ◌++◌, map, length, refl, ap, sym, subst, ⊎_elim, Option, Some, None, arith}
use Rattle.std.specs.Prelude.{flat_map, nat_eq, slice_get}
use Rattle.std.specs.List.{AllByRecursion, list_all, list_any}
use Rattle.std.proofs.lemmas.Bool.{eq-eqb, eqb-true, false≢true}
use Rattle.lk_val.specs.Least.{grown_times, is_in, least_set}
use Rattle.lk_val.proofs.LeastLaws.{IsEquality, least_set-kept}
use Rattle.lk_types.specs.Calculation as calculation
use Rattle.lk_types.specs.Calculation.{Calculation, Calculations}
use Rattle.lk_types.specs.Expressions.{has_number}
use Rattle.lk_types.specs.declared.explore.Explore.{Explore}
use Rattle.lk_types.specs.declared.explore.Measure.{Measure}
use Rattle.lk_types.specs.declared.schema.Schema.{Schema}
use Rattle.lk_objects.specs.declared.code.Code.{Code}
use Rattle.lk_objects.specs.declared.code.Code.TheVariants as code
use Rattle.lk_objects.specs.declared.code.Reference.{Reference}
use Rattle.lk_objects.specs.declared.code.Reference.TheVariants as reference
use Rattle.lk_objects.specs.declared.code.WrittenNumber.{WrittenNumber}
use Rattle.lk_objects.specs.declared.explore.DeclaredExplore.{DeclaredExplore}
use Rattle.lk_objects.specs.declared.field.DeclaredField.{DeclaredField}
use Rattle.lk_objects.specs.declared.view.DeclaredView.{DeclaredView}
use Rattle.lk_fields.specs.declared.scope.Found.{Found}
use Rattle.lk_fields.specs.declared.scope.Place.{Place}
use Rattle.lk_fields.specs.declared.scope.Scope.{Scope}
use Rattle.lk_fields.specs.declared.scope.Sort.{Sort}
use Rattle.lk_fields.specs.declared.scope.Sort.TheVariants as sort
use Rattle.lk_fields.specs.declared.scope.Writer.TheVariants as writer
use Rattle.lk_fields.specs.Existing as existing
use Rattle.lk_fields.specs.Existing.{all_places, ends_after, exists, field_at, is_same_place, meant, places_of, referred, targets, targets_with}
use Rattle.lk_fields.proofs.LostLaws.{passing, same_exact, same_itself}
use Rattle.lk_formulas.specs.declared.columns.ColumnKinds.{ColumnKinds}
use Rattle.lk_formulas.specs.Formulas.{ends, field_named}
use Rattle.lk_formulas.proofs.RoundLaws.{all_in}
use Rattle.lk_semantics.specs.Answers as answers
use Rattle.lk_semantics.specs.Answers.{measures_in, measures_in_all, no_measure}
use Rattle.lk_semantics.specs.Joins.{numbers_below}
use Rattle.lk_semantics.specs.Resolved.{has_grounded_measures, is_grounded_in, named_measures}
use Rattle.lk_semantics.proofs.EveryLaws.{both, first, second}
use Rattle.lk_resolved.specs.Explores.{explore_of}
use Rattle.lk_resolved.specs.Fields.{measure_at, measure_if, measure_with, number_named, number_with, renumbered, renumbered_all}
use Rattle.lk_resolved.specs.Names.{measure_number, measures, or_zero}
use Rattle.lk_model_laws.proofs.ExistingLaws.{IsKnownName, sql_known}
use Rattle.lk_model_laws.proofs.ListLaws.{all_at, all_behind, all_every, all_front, got_or, got_within, position_at, position_found}
use Rattle.lk_model_laws.proofs.NameLaws.{meant_in, some_measure}
use Rattle.lk_model_laws.proofs.NamedTypes.{NamedMeasure}
use Rattle.lk_model_laws.proofs.NumberLaws.{IsOfField, measures_of_fields, same_measures}
use Rattle.lk_model_laws.proofs.PieceLaws.{some_none}
use Rattle.lk_model_laws.proofs.PlaceLaws.{any_left, any_right, one_of, or_left}

-- ---- what calculations refer to

-- a reference to a field, and none to a column
abbrev pub IsToField : Reference → Type 0
IsToField (reference.Own name) = Unit {0}
IsToField (reference.Of view name) = Unit {0}
IsToField (reference.Column name) = ⊥

-- a number of a reference that is there, to a field
abbrev pub IsReferred : List Reference → ℕ → Type 0
IsReferred references i = (r : Reference) × (slice_get references i ≡ Some r) × IsToField r

-- all measures of a calculation are named
abbrev pub IsReferredCode : Code → Type 0
IsReferredCode (code.Number written) = AllByRecursion (IsReferred written.references) (measures_in written.expr)
IsReferredCode c = Unit {0}

map_append : (s : ℕ → ℕ) (xs ys : List ℕ) → map s (xs ++ ys) ≡ map s xs ++ map s ys
map_append s [] ys = refl
map_append s (x ∷ xs) ys = ap (λ zs. s x ∷ zs) (map_append s xs ys)

mutual
  pub renumbered_measures : (s : ℕ → ℕ) (e : Calculation) → measures_in (renumbered s e) ≡ map s (measures_in e)
  renumbered_measures s (calculation.OfMeasure i) = refl
  renumbered_measures s (calculation.Number n) = refl
  renumbered_measures s (calculation.Apply o a b) = (λ i. renumbered_measures s a i ++ renumbered_measures s b i) ∙ sym (map_append s (measures_in a) (measures_in b))
  renumbered_measures s (calculation.Negate a) = renumbered_measures s a
  renumbered_measures s (calculation.Coalesce xs) = all_renumbered s xs
  renumbered_measures s (calculation.NullIf a b) = (λ i. renumbered_measures s a i ++ renumbered_measures s b i) ∙ sym (map_append s (measures_in a) (measures_in b))

  all_renumbered : (s : ℕ → ℕ) (xs : Calculations) → measures_in_all (renumbered_all s xs) ≡ map s (measures_in_all xs)
  all_renumbered s calculation.no_more = refl
  all_renumbered s (calculation.more a xs) = (λ i. renumbered_measures s a i ++ all_renumbered s xs i) ∙ sym (map_append s (measures_in a) (measures_in_all xs))

-- ---- numbers

pub numbers_equal : IsEquality nat_eq
numbers_equal = record { itself = λ n. eq-eqb n n refl; exact = λ n k h. eqb-true n k h }

pub below_there : (n k : ℕ) → k < n → has_number k (numbers_below n) ≡ true
below_there zero k less = absurd (omega arith)
below_there (suc n) k less =
    elim (nat_eq k n) as (λ b. nat_eq k n ≡ b → has_number k (numbers_below n ++ n ∷ []) ≡ true) [
      | true ↦ λ is. any_right (nat_eq k) (numbers_below n) (n ∷ []) (or_left (nat_eq k n) false is)
      | false ↦ λ other. any_left (nat_eq k) (numbers_below n) (n ∷ []) (below_there n k (less_than k n other less))
    ] refl
  where
    less_than : (k n : ℕ) → nat_eq k n ≡ false → k < suc n → k < n
    less_than k n other less = grind arith

all_below : (n : ℕ) → AllByRecursion (λ k. k < n) (numbers_below n)
all_below n = within n n (omega arith)
  where
    behind : (m : ℕ) (xs ys : List ℕ) → AllByRecursion (λ k. k < m) xs → AllByRecursion (λ k. k < m) ys → AllByRecursion (λ k. k < m) (xs ++ ys)
    behind m [] ys h k = k
    behind m (x ∷ xs) ys h k = (h.0, behind m xs ys h.1 k)

    within : (m j : ℕ) → j ≤ m → AllByRecursion (λ k. k < m) (numbers_below j)
    within m zero le = tt
    within m (suc j) le = behind m (numbers_below j) (j ∷ []) (within m j (omega arith)) (omega arith, tt)

-- ---- what a field refers to

pub places_append : (xs ys : List (Option Found)) → places_of (xs ++ ys) ≡ places_of xs ++ places_of ys
places_append [] ys = refl
places_append (None ∷ xs) ys = places_append xs ys
places_append (Some f ∷ xs) ys = ap (λ ps. f.place ∷ ps) (places_append xs ys)

module _ (views : List DeclaredView) (scope : Scope) where
  -- the field of a reference is known, where all are
  pub known_reference : (part : ℕ) (s : Sort) (rs : List Reference) (i : ℕ) (r : Reference) → slice_get rs i ≡ Some r → IsToField r
      → AllByRecursion (IsKnownName views scope) (flat_map (meant views scope part s) rs) → IsKnownName views scope (field_named views scope (writer.Field part) s r)
  known_reference part s [] i r at to known = absurd (some_none (sym at))
  known_reference part s (q ∷ rs) zero r at to known =
      let same : q ≡ r = cc in
      of_one r to (subst (λ z. AllByRecursion (IsKnownName views scope) (meant views scope part s z)) same (all_front (IsKnownName views scope) (meant views scope part s q) (flat_map (meant views scope part s) rs) known))
    where
      of_one : (z : Reference) → IsToField z → AllByRecursion (IsKnownName views scope) (meant views scope part s z) → IsKnownName views scope (field_named views scope (writer.Field part) s z)
      of_one (reference.Own name) to h = h.0
      of_one (reference.Of view name) to h = h.0
      of_one (reference.Column name) to h = absurd to
  known_reference part s (q ∷ rs) (suc i) r at to known =
      known_reference part s rs i r at to (all_behind (IsKnownName views scope) (meant views scope part s q) (flat_map (meant views scope part s) rs) known)

  -- and its place is among what is referred to
  pub place_referred : (part : ℕ) (s : Sort) (rs : List Reference) (i : ℕ) (r : Reference) (found : Found) → slice_get rs i ≡ Some r → field_named views scope (writer.Field part) s r ≡ Some found
      → is_in is_same_place found.place (places_of (flat_map (meant views scope part s) rs)) ≡ true
  place_referred part s [] i r found at h = absurd (some_none (sym at))
  place_referred part s (q ∷ rs) zero r found at h =
      let same : q ≡ r = cc in
      ap (is_in is_same_place found.place) (places_append (meant views scope part s q) (flat_map (meant views scope part s) rs))
      ∙ any_left (is_same_place found.place) (places_of (meant views scope part s q)) (places_of (flat_map (meant views scope part s) rs))
      (subst (λ z. is_in is_same_place found.place (places_of (meant views scope part s z)) ≡ true) (sym same) (of_one r h))
    where
      here : (o : Option Found) → o ≡ Some found → is_in is_same_place found.place (places_of (o ∷ [])) ≡ true
      here None e = absurd (some_none (sym e))
      here (Some f) e = let is : f ≡ found = cc in or_left (is_same_place found.place f.place) false (subst (λ g. is_same_place found.place g.place ≡ true) (sym is) (same_itself found.place))

      of_one : (z : Reference) → field_named views scope (writer.Field part) s z ≡ Some found → is_in is_same_place found.place (places_of (meant views scope part s z)) ≡ true
      of_one (reference.Own name) e = here (field_named views scope (writer.Field part) s (reference.Own name)) e
      of_one (reference.Of view name) e = here (field_named views scope (writer.Field part) s (reference.Of view name)) e
      of_one (reference.Column name) e = absurd (some_none (sym e))
  place_referred part s (q ∷ rs) (suc i) r found at h =
      ap (is_in is_same_place found.place) (places_append (meant views scope part s q) (flat_map (meant views scope part s) rs))
      ∙ any_right (is_same_place found.place) (places_of (meant views scope part s q)) (places_of (flat_map (meant views scope part s) rs)) (place_referred part s rs i r found at h)

  pub meant_measure : (part : ℕ) (r : Reference) (found : Found) → field_named views scope (writer.Field part) sort.Measure r ≡ Some found → exists views scope found.place ≡ true
      → list_any (λ m. is_same_place m.place found.place) (measures views scope) ≡ true
  meant_measure part (reference.Own name) found h there = some_measure views scope name found (meant_in views scope (writer.Field part) None name sort.Measure found h) there
  meant_measure part (reference.Of view name) found h there = some_measure views scope name found (meant_in views scope (writer.Field part) (Some view) name sort.Measure found h) there
  meant_measure part (reference.Column name) found h there = absurd (some_none (sym h))

  -- the number of a measure that a reference names
  pub number_is : (part : ℕ) (r : Reference) (found : Found) → field_named views scope (writer.Field part) sort.Measure r ≡ Some found
      → number_named views scope part (Some r) ≡ measure_number (measures views scope) found.place
  number_is part r found is = rw is refl

  -- what the expression of a field means is among what the field refers to
  pub target_of_sql : (p : Place) (field : DeclaredField) → field_at views scope p ≡ Some field → (t : Place) → is_in is_same_place t (places_of (existing.meant_in views scope p.part field.sql)) ≡ true
      → is_in is_same_place t (targets views scope p) ≡ true
  target_of_sql p field at t inside =
      ap (is_in is_same_place t) (ap (targets_with views scope p.part) at)
      ∙ ap (is_in is_same_place t) (places_append (existing.meant_in views scope p.part field.sql) (existing.meant_in views scope p.part field.key))
      ∙ any_left (is_same_place t) (places_of (existing.meant_in views scope p.part field.sql)) (places_of (existing.meant_in views scope p.part field.key)) inside

  module _ (schema : Schema) (columns : ColumnKinds) where
    -- the measures of the model stand as they are named
    pub aligned : (named : List NamedMeasure) → AllByRecursion (IsOfField views scope) named → (k : ℕ) (m : NamedMeasure) → slice_get named k ≡ Some m
        → (of : IsOfField views scope m) × (slice_get (flat_map (measure_at schema views scope columns) named) k ≡ Some (measure_with schema views scope columns m of.field))
    aligned [] h k m at = absurd (some_none (sym at))
    aligned (n ∷ named) h zero m at =
        let same : n ≡ m = cc in
        subst (λ z. (of : IsOfField views scope z) × (slice_get (flat_map (measure_at schema views scope columns) (n ∷ named)) zero ≡ Some (measure_with schema views scope columns z of.field))) same
        (h.0, ap (λ o. slice_get (measure_if schema views scope columns n o ++ flat_map (measure_at schema views scope columns) named) zero) h.0.at)
    aligned (n ∷ named) h (suc k) m at =
        let rest = aligned named h.1 k m at in
        (rest.0, ap (λ o. slice_get (measure_if schema views scope columns n o ++ flat_map (measure_at schema views scope columns) named) (suc k)) h.0.at ∙ rest.1)

    module _ (datagroup : Option (List ℕ) → ℕ) (x : DeclaredExplore) (right : (place : Place) (field : DeclaredField) → field_at views scope place ≡ Some field → IsReferredCode field.sql) where
      abbrev y : Explore
      y = explore_of schema views scope columns datagroup x

      abbrev known : List ℕ
      known = least_set nat_eq (numbers_below (length y.measures)) (is_grounded_in y)

      grows : (s t : List ℕ) → ((n : ℕ) → is_in nat_eq n s ≡ true → is_in nat_eq n t ≡ true) → (m : ℕ) → is_grounded_in y s m ≡ true → is_grounded_in y t m ≡ true
      grows s t more m h = each (named_measures (answers.measure_at y m)) h
        where
          each : (ns : List ℕ) → list_all (λ n. has_number n s) ns ≡ true → list_all (λ n. has_number n t) ns ≡ true
          each [] h = refl
          each (n ∷ ns) h =
              both (has_number n t) (list_all (λ k. has_number k t) ns) (more n (first (has_number n s) (list_all (λ k. has_number k s) ns) h)) (each ns (second (has_number n s) (list_all (λ k. has_number k s) ns) h))

      -- the measure of a place is known
      abbrev IsKnownAt : Place → Type 0
      IsKnownAt place = (k : ℕ) (m : NamedMeasure) → slice_get (measures views scope) k ≡ Some m → m.place ≡ place → has_number k known ≡ true

      -- those of a calculation, where all that it refers to is known
      calculation_known : (part : ℕ) (written : WrittenNumber) → AllByRecursion (IsKnownName views scope) (flat_map (meant views scope part sort.Measure) written.references)
          → ((t : Place) → is_in is_same_place t (places_of (flat_map (meant views scope part sort.Measure) written.references)) ≡ true → IsKnownAt t)
          → (is : List ℕ) → AllByRecursion (IsReferred written.references) is → list_all (λ n. has_number n known) (map (λ i. number_named views scope part (slice_get written.references i)) is) ≡ true
      calculation_known part written names h [] referred_to = refl
      calculation_known part written names h (i ∷ is) referred_to =
          let s : ℕ → ℕ = λ j. number_named views scope part (slice_get written.references j) in
          both (has_number (s i) known) (list_all (λ n. has_number n known) (map s is)) (one referred_to.0) (calculation_known part written names h is referred_to.1)
        where
          one : IsReferred written.references i → has_number (number_named views scope part (slice_get written.references i)) known ≡ true
          one of =
              let name = known_reference part sort.Measure written.references i of.0 of.1 of.2 names in
              let there = position_found (λ (m : NamedMeasure). is_same_place m.place name.0.place) (measures views scope) (meant_measure part of.0 name.0 name.1 name.2) in
              let at = position_at (λ (m : NamedMeasure). is_same_place m.place name.0.place) (measures views scope) there.0 there.1 in
              ap (λ o. has_number (number_named views scope part o) known) of.1
              ∙ ap (λ n. has_number n known) (number_is part of.0 name.0 name.1 ∙ ap or_zero there.1)
              ∙ h name.0.place (place_referred part sort.Measure written.references i of.0 name.0 of.1 name.1) there.0 at.0 at.1 (same_exact at.0.place name.0.place at.2)

      -- a measure over known ones is known
      code_known : (m : NamedMeasure) (c : Code) (made : Measure) → IsReferredCode c → AllByRecursion (IsKnownName views scope) (existing.meant_in views scope m.place.part c)
          → ((t : Place) → is_in is_same_place t (places_of (existing.meant_in views scope m.place.part c)) ≡ true → IsKnownAt t)
          → list_all (λ n. has_number n known) (named_measures (record made { number = number_with views scope m.place.part c })) ≡ true
      code_known m (code.Number written) made right_code names h =
          ap (list_all (λ n. has_number n known)) (renumbered_measures (λ i. number_named views scope m.place.part (slice_get written.references i)) written.expr)
          ∙ calculation_known m.place.part written names h (measures_in written.expr) right_code
      code_known m (code.Expr written) made right_code names h = refl
      code_known m code.Absent made right_code names h = refl
      code_known m code.Liquid made right_code names h = refl
      code_known m (code.Syntax place) made right_code names h = refl

      abbrev round : ℕ → List Place
      round n = grown_times is_same_place (all_places views scope) (ends_after views scope) n

      measure_known : (place : Place) → ((t : Place) → is_in is_same_place t (targets views scope place) ≡ true → IsKnownAt t) → IsKnownAt place
      measure_known place h k m at same =
          let of = aligned (measures views scope) (measures_of_fields views scope) k m at in
          let made = measure_with schema views scope columns m of.0.field in
          let made_at : answers.measure_at y k ≡ made = got_or y.measures k no_measure made of.1 in
          let within : k < length y.measures =
          subst (λ n. k < n) (sym (same_measures schema views scope columns (measures views scope) (measures_of_fields views scope))) (got_within (measures views scope) k m at) in
          least_set-kept numbers_equal (numbers_below (length y.measures)) (is_grounded_in y) grows k (below_there (length y.measures) k within)
          (ap (λ made_measure. list_all (λ n. has_number n known) (named_measures made_measure)) made_at
          ∙ code_known m of.0.field.sql made (right m.place of.0.field of.0.at) (sql_known views scope m.place of.0.field of.0.at of.0.there)
          (λ t inside. h t (subst (λ p. is_in is_same_place t (targets views scope p) ≡ true) same (target_of_sql m.place of.0.field of.0.at t inside))))

      round_known : (n : ℕ) (place : Place) → is_in is_same_place place (round n) ≡ true → IsKnownAt place
      round_known zero place inside = absurd (false≢true inside)
      round_known (suc n) place inside =
          let parts = first (is_in is_same_place place (round n) || ends_after views scope (round n) place) (is_in is_same_place place (all_places views scope))
          (sym (passing (λ p. is_in is_same_place p (round n) || ends_after views scope (round n) p) place (all_places views scope)) ∙ inside) in
          ⊎_elim (λ before. round_known n place before)
          (λ added. measure_known place (λ t named. round_known n t (all_in (round n) (targets views scope place) added t named)))
          (one_of (is_in is_same_place place (round n)) (ends_after views scope (round n) place) parts)

      -- all of them
      pub grounded : ((place : Place) → exists views scope place ≡ true → ends views scope place ≡ true) → has_grounded_measures y ≡ true
      grounded end =
          all_every (λ k. k < length y.measures) (λ k. has_number k known) (λ k less. of_number k (subst (λ n. k < n) (same_measures schema views scope columns (measures views scope) (measures_of_fields views scope)) less))
          (numbers_below (length y.measures)) (all_below (length y.measures))
        where
          got : {A : Type 0} (xs : List A) (k : ℕ) → k < length xs → (z : A) × (slice_get xs k ≡ Some z)
          got [] k less = absurd (omega arith)
          got (z ∷ xs) zero less = (z, refl)
          got (z ∷ xs) (suc k) less = got xs k (omega arith)

          of_number : (k : ℕ) → k < length (measures views scope) → has_number k known ≡ true
          of_number k less =
              let m = got (measures views scope) k less in
              let of = all_at (IsOfField views scope) (measures views scope) (measures_of_fields views scope) k m.0 m.1 in
              round_known (length (all_places views scope)) m.0.place (end m.0.place of.there) k m.0 m.1 refl
