-- The query of a derived table reads all parts that the fields and measures mention which its columns take.
use Rattle.std.proofs.Common.{◌≡◌, ◌∙◌, ℕ, zero, suc, ◌+◌, true, false, ◌||◌, List, [], ◌∷◌, ◌++◌, map, length, refl, ap, sym, subst, ⊎_elim, arith, eq-eqb, eqb-true}
use Rattle.std.specs.Prelude.{◌==◌, filter, flat_map, if◌then◌else◌, nat_eq, not}
use Rattle.std.specs.List.{AllByRecursion, list_all, list_any}
use Rattle.std.proofs.lemmas.Bool.{false≢true}
use Rattle.lk_val.proofs.LeastLaws.{IsMonotone, any_within, least_set-kept}
use Rattle.lk_types.specs.Expressions.{has_number}
use Rattle.lk_types.specs.declared.explore.Explore.{Explore}
use Rattle.lk_types.specs.declared.explore.Origin.{Origin}
use Rattle.lk_types.specs.declared.model.Derived.{Derived}
use Rattle.lk_types.specs.declared.model.Pick.{Pick}
use Rattle.lk_types.specs.declared.model.Pick.TheVariants.{Dim, Mea}
use Rattle.lk_semantics.specs.Answers.{components_of, dims_of, filtered, first_each, measure_at, parts_of_measure, picked_measures, value_taken}
use Rattle.lk_semantics.specs.Derived.{asked_parts, derived_query, field_parts, key_parts, measure_parts, with_always}
use Rattle.lk_semantics.specs.Joins.{brings_one_of, condition_of, is_asked, join_at, mentions_of, needed_joins, numbers_below, part_at}
use Rattle.lk_semantics.specs.Reading.{derived_in}
use Rattle.lk_semantics.specs.Rollups.{origins_of}
use Rattle.lk_semantics.proofs.EveryLaws.{Every, both}
use Rattle.lk_model_laws.proofs.GroundedLaws.{numbers_equal}
use Rattle.lk_model_laws.proofs.ListLaws.{all_behind, all_front}
use Rattle.lk_model_laws.proofs.MentionedLaws.{behind, in_front}
use Rattle.lk_model_laws.proofs.PlaceLaws.{any_left, any_right, one_of, or_left, or_right}

-- ---- numbers of lists

-- all of one list are in another
abbrev pub AreWithin : List ℕ → List ℕ → Type 0
AreWithin whole xs = Every (λ p. has_number p whole) xs

within : (whole xs : List ℕ) → ((p : ℕ) → has_number p xs ≡ true → has_number p whole ≡ true) → AreWithin whole xs
within whole [] h = refl
within whole (x ∷ xs) h =
    both (has_number x whole) (list_all (λ p. has_number p whole) xs) (h x (or_left (nat_eq x x) (has_number x xs) (eq-eqb x x refl)))
    (within whole xs (λ p there. h p (or_right (nat_eq p x) (has_number p xs) there)))

each_within : (g : ℕ → List ℕ) (whole ns : List ℕ) → ((p : ℕ) → has_number p (flat_map g ns) ≡ true → has_number p whole ≡ true) → AllByRecursion (λ n. AreWithin whole (g n)) ns
each_within g whole [] h = tt
each_within g whole (n ∷ ns) h = (
  within whole (g n) (λ p there. h p (any_left (nat_eq p) (g n) (flat_map g ns) there)),
  each_within g whole ns (λ p there. h p (any_right (nat_eq p) (g n) (flat_map g ns) there)),
)

-- an item once is as good as often
kept_apart : (n x : ℕ) → nat_eq n x ≡ false → (xs : List ℕ) → has_number n xs ≡ true → has_number n (filter (λ m. not (m == x)) xs) ≡ true
kept_apart n x apart [] h = absurd (false≢true h)
kept_apart n x apart (y ∷ xs) h =
    ⊎_elim
    (λ same.
    let is : n ≡ y = eqb-true n y same in
    let keeps : not (y == x) ≡ true = ap (λ m. not (m == x)) (sym is) ∙ ap not apart in
    subst (λ b. has_number n (if b then y ∷ filter (λ m. not (m == x)) xs else filter (λ m. not (m == x)) xs) ≡ true) (sym keeps) (or_left (nat_eq n y) _ same))
    (λ later. elim (not (y == x)) as (λ b. has_number n (if b then y ∷ filter (λ m. not (m == x)) xs else filter (λ m. not (m == x)) xs) ≡ true) [
      | true ↦ or_right (nat_eq n y) _ (kept_apart n x apart xs later)
      | false ↦ kept_apart n x apart xs later
    ])
    (one_of (nat_eq n y) (has_number n xs) h)

once_there : (xs : List ℕ) (n : ℕ) → has_number n xs ≡ true → has_number n (first_each xs) ≡ true
once_there [] n h = h
once_there (x ∷ xs) n h =
    elim (nat_eq n x) as (λ b. nat_eq n x ≡ b → (b || has_number n xs) ≡ true → (b || has_number n (filter (λ m. not (m == x)) (first_each xs))) ≡ true) [
      | true ↦ λ is h. refl
      | false ↦ λ apart h. kept_apart n x apart (first_each xs) (once_there xs n h)
    ] refl h

module _ (P : ℕ → Type 0) where
  all_in_list : (xs : List ℕ) → AllByRecursion P xs → (n : ℕ) → has_number n xs ≡ true → P n
  all_in_list [] h n there = absurd (false≢true there)
  all_in_list (x ∷ xs) h n there = ⊎_elim (λ same. subst P (sym (eqb-true n x same)) h.0) (λ later. all_in_list xs h.1 n later) (one_of (nat_eq n x) (has_number n xs) there)

  all_of_list : (xs : List ℕ) → ((n : ℕ) → has_number n xs ≡ true → P n) → AllByRecursion P xs
  all_of_list [] h = tt
  all_of_list (x ∷ xs) h = (h x (or_left (nat_eq x x) (has_number x xs) (eq-eqb x x refl)), all_of_list xs (λ n there. h n (or_right (nat_eq n x) (has_number n xs) there)))

  of_each_once : (xs : List ℕ) → AllByRecursion P (first_each xs) → AllByRecursion P xs
  of_each_once xs h = all_of_list xs (λ n there. all_in_list (first_each xs) h n (once_there xs n there))

-- ---- the parts that the query of a derived table asks for

module _ (y : Explore) (d : Derived) where
  abbrev pub picks : List Pick
  picks = map (λ c. c.1) d.columns

  abbrev pub fields : List ℕ
  fields = dims_of picks ++ filtered (with_always y d.filters) ++ []

  abbrev pub measures : List ℕ
  measures = components_of y (picked_measures picks ++ [])

  abbrev pub parts_asked : List ℕ
  parts_asked = asked_parts y fields measures

  -- what a column takes mentions only these
  abbrev pub IsAsked : Pick → Type 0
  IsAsked (Dim f) = AreWithin parts_asked (field_parts y f)
  IsAsked (Mea n) = AllByRecursion (λ c. AreWithin parts_asked (mentions_of (value_taken (measure_at y c)))) (parts_of_measure y (length y.measures) n)

  abbrev dimension_parts : List ℕ
  dimension_parts = flat_map (field_parts y) fields

  abbrev component_parts : List ℕ
  component_parts = flat_map (λ m. measure_parts y (measure_at y m)) measures

  fields_asked : AllByRecursion (λ f. AreWithin parts_asked (field_parts y f)) (dims_of picks)
  fields_asked =
      all_front (λ f. AreWithin parts_asked (field_parts y f)) (dims_of picks) (filtered (with_always y d.filters))
      (all_front (λ f. AreWithin parts_asked (field_parts y f)) (dims_of picks ++ filtered (with_always y d.filters)) []
      (each_within (field_parts y) parts_asked fields (λ p there. any_left (nat_eq p) dimension_parts component_parts there)))

  value_within : (n : ℕ) → AreWithin parts_asked (measure_parts y (measure_at y n)) → AreWithin parts_asked (mentions_of (value_taken (measure_at y n)))
  value_within n h =
      let m = measure_at y n in
      let front = m.part ∷ key_parts y m in
      let value = mentions_of (value_taken m) in
      let rest = flat_map (field_parts y) (filtered m.filters) in
      behind (λ p. has_number p parts_asked) front value (in_front (λ p. has_number p parts_asked) (front ++ value) rest h)

  abbrev HasValueAsked : ℕ → Type 0
  HasValueAsked c = AreWithin parts_asked (mentions_of (value_taken (measure_at y c)))

  components_asked : AllByRecursion HasValueAsked measures
  components_asked = more measures (each_within (λ m. measure_parts y (measure_at y m)) parts_asked measures (λ p there. any_right (nat_eq p) dimension_parts component_parts there))
    where
      more : (ns : List ℕ) → AllByRecursion (λ m. AreWithin parts_asked (measure_parts y (measure_at y m))) ns → AllByRecursion HasValueAsked ns
      more [] h = tt
      more (n ∷ ns) h = (value_within n h.0, more ns h.1)

  each_measure : (ns : List ℕ) → AllByRecursion HasValueAsked (flat_map (parts_of_measure y (length y.measures)) ns) → AllByRecursion (λ n. AllByRecursion HasValueAsked (parts_of_measure y (length y.measures) n)) ns
  each_measure [] h = tt
  each_measure (n ∷ ns) h = (
    all_front HasValueAsked (parts_of_measure y (length y.measures) n) (flat_map (parts_of_measure y (length y.measures)) ns) h,
    each_measure ns (all_behind HasValueAsked (parts_of_measure y (length y.measures) n) (flat_map (parts_of_measure y (length y.measures)) ns) h),
  )

  measures_asked : AllByRecursion (λ n. AllByRecursion HasValueAsked (parts_of_measure y (length y.measures) n)) (picked_measures picks)
  measures_asked =
      all_front (λ n. AllByRecursion HasValueAsked (parts_of_measure y (length y.measures) n)) (picked_measures picks) []
      (each_measure (picked_measures picks ++ []) (of_each_once HasValueAsked (flat_map (parts_of_measure y (length y.measures)) (picked_measures picks ++ [])) components_asked))

  -- each column
  pub columns_asked : AllByRecursion (λ c. IsAsked c.1) d.columns
  columns_asked = each d.columns fields_asked measures_asked
    where
      each : (cs : List (List ℕ × Pick)) → AllByRecursion (λ f. AreWithin parts_asked (field_parts y f)) (dims_of (map (λ c. c.1) cs))
          → AllByRecursion (λ n. AllByRecursion HasValueAsked (parts_of_measure y (length y.measures) n)) (picked_measures (map (λ c. c.1) cs)) → AllByRecursion (λ c. IsAsked c.1) cs
      each [] h k = tt
      each ((name, Dim f) ∷ cs) h k = (h.0, each cs h.1 k)
      each ((name, Mea n) ∷ cs) h k = (k.0, each cs h k.1)

  -- ---- the rows that it reads

  needs_grow : IsMonotone numbers_equal (numbers_below (length y.joins)) (is_asked y parts_asked)
  needs_grow s t more j h =
      elim (brings_one_of parts_asked j || has_number j y.always_join || brings_one_of (mentions_of y.always_where) j) as (λ b. (b || list_any (λ i. has_number j (join_at y i).required || brings_one_of (mentions_of (condition_of (join_at y i))) j) s) ≡ true
      → (b || list_any (λ i. has_number j (join_at y i).required || brings_one_of (mentions_of (condition_of (join_at y i))) j) t) ≡ true) [
        | true ↦ λ h. refl
        | false ↦ λ h. any_within numbers_equal (λ i. has_number j (join_at y i).required || brings_one_of (mentions_of (condition_of (join_at y i))) j) s t more h
      ] h

  abbrev joins : List ℕ
  joins = needed_joins y parts_asked

  join_needed : (j : ℕ) → has_number j (numbers_below (length y.joins)) ≡ true → has_number (j + 1) parts_asked ≡ true → has_number j joins ≡ true
  join_needed j below h =
      let always = has_number j y.always_join in
      let condition = brings_one_of (mentions_of y.always_where) j in
      let more = list_any (λ i. has_number j (join_at y i).required || brings_one_of (mentions_of (condition_of (join_at y i))) j) joins in
      least_set-kept numbers_equal (numbers_below (length y.joins)) (is_asked y parts_asked) needs_grow j below
      (or_left (brings_one_of parts_asked j || always || condition) more (or_left (brings_one_of parts_asked j || always) condition (or_left (brings_one_of parts_asked j) always h)))

  origin_there : (e : ℕ) (o : Origin) (js : List ℕ) (j : ℕ) → (part_at y (j + 1)).origin ≡ o → has_number e (derived_in o) ≡ true → has_number j js ≡ true
      → has_number e (flat_map derived_in (map (λ i. (part_at y (i + 1)).origin) js)) ≡ true
  origin_there e o [] j is h there = absurd (false≢true there)
  origin_there e o (i ∷ js) j is h there =
      ⊎_elim
      (λ same. any_left (nat_eq e) (derived_in (part_at y (i + 1)).origin) (flat_map derived_in (map (λ i. (part_at y (i + 1)).origin) js))
      (subst (λ p. has_number e (derived_in p) ≡ true) (sym is ∙ ap (λ n. (part_at y (n + 1)).origin) (eqb-true j i same)) h))
      (λ later. any_right (nat_eq e) (derived_in (part_at y (i + 1)).origin) (flat_map derived_in (map (λ i. (part_at y (i + 1)).origin) js)) (origin_there e o js j is h later))
      (one_of (nat_eq j i) (has_number j js) there)

  -- a derived table whose rows a part has that is asked for
  pub table_read : (e p : ℕ) → has_number e (derived_in (part_at y p).origin) ≡ true → has_number p parts_asked ≡ true → ((j : ℕ) → p ≡ j + 1 → has_number j (numbers_below (length y.joins)) ≡ true)
      → has_number e (flat_map derived_in (origins_of y (derived_query y d).joins)) ≡ true
  table_read e zero h there below = any_left (nat_eq e) (derived_in (part_at y 0).origin) (flat_map derived_in (map (λ i. (part_at y (i + 1)).origin) joins)) h
  table_read e (suc j) h there below =
      let next : suc j ≡ j + 1 = omega arith in
      any_right (nat_eq e) (derived_in (part_at y 0).origin) (flat_map derived_in (map (λ i. (part_at y (i + 1)).origin) joins))
      (origin_there e (part_at y (j + 1)).origin joins j refl (subst (λ n. has_number e (derived_in (part_at y n).origin) ≡ true) next h)
      (join_needed j (below j next) (subst (λ n. has_number n parts_asked ≡ true) next there)))
