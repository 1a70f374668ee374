-- The condition of a join, where it has one, is yes or no, and a cross join has none.
use Rattle.std.proofs.Common.{◌≡◌, ◌∙◌, ℕ, ◌+◌, Bool, true, false, ◌||◌, List, [], ◌∷◌, ◌++◌, refl, ap, sym, subst, inl, inr, Option, Some, None}
use Rattle.std.specs.Prelude.{◌⊎◌, codes, if◌then◌else◌, is_none, is_some}
use Rattle.std.specs.List.{AllByRecursion, list_all}
use Rattle.std.proofs.lemmas.Bool.{false≢true}
use Rattle.lk_types.specs.Formula.{Formula}
use Rattle.lk_types.specs.Kinds.{kind_at}
use Rattle.lk_types.specs.declared.explore.Join.{Join}
use Rattle.lk_types.specs.declared.explore.JoinKind.{JoinKind}
use Rattle.lk_types.specs.declared.explore.JoinKind.TheVariants as join_kind
use Rattle.lk_types.specs.declared.kind_set.Leaves.{Leaves}
use Rattle.lk_types.specs.declared.schema.Kind.{Kind}
use Rattle.lk_types.specs.declared.schema.Kind.TheVariants as kind
use Rattle.lk_types.specs.declared.schema.Schema.{Schema}
use Rattle.lk_params.specs.declared.finding.Finding.{Finding}
use Rattle.lk_params.specs.declared.number.Number.{Number}
use Rattle.lk_params.specs.declared.number.Number.TheVariants.{N15, E3}
use Rattle.lk_objects.specs.declared.code.Code.{Code}
use Rattle.lk_objects.specs.declared.code.Code.TheVariants as code
use Rattle.lk_objects.specs.declared.explore.DeclaredJoin.{DeclaredJoin}
use Rattle.lk_objects.specs.declared.view.DeclaredView.{DeclaredView}
use Rattle.lk_dated.specs.Sides.{do_sides_compare}
use Rattle.lk_fields.specs.declared.scope.Found.{Found}
use Rattle.lk_fields.specs.declared.scope.Place.{Place}
use Rattle.lk_fields.specs.declared.scope.Scope.{Scope}
use Rattle.lk_fields.specs.declared.scope.Sort.TheVariants as sort
use Rattle.lk_fields.specs.declared.scope.Writer.TheVariants as writer
use Rattle.lk_fields.specs.Existing.{fields_at}
use Rattle.lk_fields.specs.Scopes.{found_by, view_at}
use Rattle.lk_formulas.specs.declared.columns.ColumnKinds.{ColumnKinds}
use Rattle.lk_formulas.specs.declared.columns.UnknownColumn.TheVariants.{Null}
use Rattle.lk_formulas.specs.Columns.{column_named, known_kind}
use Rattle.lk_formulas.specs.NumberSizes.{told}
use Rattle.lk_formulas.specs.Referents.{side_through}
use Rattle.lk_formulas.specs.Resolved.{code_told, resolved_in}
use Rattle.lk_scope.specs.ExploreNames.{dimension_named}
use Rattle.lk_scope.specs.Keys.{key_of}
use Rattle.lk_field_faults.specs.ExploreFields.{explore_fields_fault}
use Rattle.lk_field_faults.specs.Expressions.{expression_line, is_over}
use Rattle.lk_explore_faults.specs.Conditions.{condition_number, either_number, join_condition_line, join_number, key_number, keys_number, nodes_told, where_number}
use Rattle.lk_explore_faults.specs.ExploreTexts.{text_findings}
use Rattle.lk_explore_faults.specs.JoinFaults as faults
use Rattle.lk_explore_faults.specs.JoinFaults.{join_line, key_findings, lacks_key, view_findings}
use Rattle.lk_semantics.specs.Joins.{is_cross}
use Rattle.lk_semantics.specs.Resolved.{is_some_typed, is_typed_join}
use Rattle.lk_semantics.proofs.EveryLaws.{both}
use Rattle.lk_resolved.specs.Explores.{condition_by_key, condition_with, join_with, joins_from, key_condition, on_with}
use Rattle.lk_model_laws.specs.Conditions.{has_condition, is_free, is_written}
use Rattle.lk_model_laws.proofs.DatedCodeLaws.{HasDatedCodes, IsDatedCode}
use Rattle.lk_model_laws.proofs.NameLaws.{named_exists}
use Rattle.lk_model_laws.proofs.PartLaws.{IsGiven}
use Rattle.lk_model_laws.proofs.PieceLaws.{EachFrom, nil_left, nil_right, none_lined, none_map, not_so, some_none}
use Rattle.lk_model_laws.proofs.TypedLaws.{code_typed, truth_given}
use Rattle.lk_model_laws.proofs.KeyConditionLaws.{HasKeys, equation_typed, key_exists, keys_given}

-- ---- what has no number of a fault

-- the number of a condition: too many nodes, a clash, or none
abbrev IsCondition : Option Number → Type 0
IsCondition o = (o ≡ None) ⊎ ((o ≡ Some N15) ⊎ (o ≡ Some E3))

condition_is : (nodes : ℕ) (is_truth : Bool) → IsCondition (condition_number nodes is_truth)
condition_is nodes is_truth = of_over (is_over nodes) is_truth
  where
    of_over : (over t : Bool) → IsCondition (if over then Some N15 else if t then None else Some E3)
    of_over true t = inr (inl refl)
    of_over false true = inl refl
    of_over false false = inr (inr refl)

neither : (a b : Option Number) → IsCondition a → IsCondition b → either_number a b ≡ None → (a ≡ None) × (b ≡ None)
neither a b (inl p) (inl q) h = (p, q)
neither a b (inl p) (inr (inl q)) h = absurd (some_none (sym (λ i. either_number (p i) (q i)) ∙ h))
neither a b (inl p) (inr (inr q)) h = absurd (some_none (sym (λ i. either_number (p i) (q i)) ∙ h))
neither a b (inr (inl p)) (inl q) h = absurd (some_none (sym (λ i. either_number (p i) (q i)) ∙ h))
neither a b (inr (inl p)) (inr (inl q)) h = absurd (some_none (sym (λ i. either_number (p i) (q i)) ∙ h))
neither a b (inr (inl p)) (inr (inr q)) h = absurd (some_none (sym (λ i. either_number (p i) (q i)) ∙ h))
neither a b (inr (inr p)) (inl q) h = absurd (some_none (sym (λ i. either_number (p i) (q i)) ∙ h))
neither a b (inr (inr p)) (inr (inl q)) h = absurd (some_none (sym (λ i. either_number (p i) (q i)) ∙ h))
neither a b (inr (inr p)) (inr (inr q)) h = absurd (some_none (sym (λ i. either_number (p i) (q i)) ∙ h))

-- ---- the parameters of a join at which faults stand

abbrev required_at : List ℕ
required_at = codes "required_joins"

abbrev on_at : List ℕ
on_at = codes "sql_on"

abbrev key_at : List ℕ
key_at = codes "foreign_key"

module _ (schema : Schema) (views : List DeclaredView) (scope : Scope) (columns : ColumnKinds) (leaves : Leaves)
    (known : (p : ℕ) (name : List ℕ) (c : ℕ) → column_named schema views scope p name ≡ Some c → (k : Kind) × (known_kind columns p c ≡ Some k))
    (same : (p c : ℕ) → known_kind columns p c ≡ kind_at leaves p c)
    (codes : AllByRecursion (λ v. AllByRecursion HasDatedCodes v.fields) views)
    (clear : explore_fields_fault schema views scope columns ≡ None) where
  -- ---- conditions

  -- what may be no condition, or one that is yes or no
  abbrev IsTruth : Option Formula → Type 0
  IsTruth on = (is_none on || is_some_typed leaves kind.Truth on) ≡ true

  keyed : (part : ℕ) (name : List ℕ) (keys : HasKeys views scope part name) → key_number schema views scope columns part (dimension_named views scope name) ≡ None
      → IsTruth (condition_by_key schema views scope columns part (Some name))
  keyed part name keys none =
      let found = named_exists views scope (found_by views scope writer.Explore name sort.Dimension) keys.found keys.named in
      let number : keys_number schema views scope columns keys.found (Some keys.key) ≡ None =
      sym ((λ i. key_number schema views scope columns part (keys.named i)) ∙ ap (keys_number schema views scope columns keys.found) keys.key_is) ∙ none in
      (λ i. is_none (key_condition schema views scope columns (keys.named i) (keys.key_is i)) || is_some_typed leaves kind.Truth (key_condition schema views scope columns (keys.named i) (keys.key_is i)))
      ∙ equation_typed schema views scope columns leaves known same codes clear keys.found keys.key found.1 (key_exists views scope part 0 (fields_at views scope part) keys.key keys.key_is) number

  key_is_condition : (part : ℕ) (o : Option Found) (key : Option Place) → key_of views scope part ≡ key → IsCondition (key_number schema views scope columns part o)
  key_is_condition part None key is = inl refl
  key_is_condition part (Some found) None is = inl (ap (keys_number schema views scope columns found) is)
  key_is_condition part (Some found) (Some key) is =
      subst IsCondition (sym (ap (keys_number schema views scope columns found) is))
      (condition_is (told (nodes_told found.frame (code_told schema views scope columns Null found.place) + nodes_told None (code_told schema views scope columns Null key) + 1))
      (do_sides_compare (side_through found.frame (code_told schema views scope columns Null found.place)) (side_through None (code_told schema views scope columns Null key))))

  where_is_condition : (c : Code) → IsCondition (where_number schema views scope columns c)
  where_is_condition (code.Expr written) =
      let formula = resolved_in schema views scope columns Null writer.Explore (code.Expr written) in
      condition_is formula.size formula.kinds.truth
  where_is_condition (code.Number written) = inl refl
  where_is_condition code.Absent = inl refl
  where_is_condition code.Liquid = inl refl
  where_is_condition (code.Syntax place) = inl refl

  by_key : (part : ℕ) (key : Option (List ℕ)) → ((name : List ℕ) → key ≡ Some name → HasKeys views scope part name) → ((name : List ℕ) → key ≡ Some name → key_number schema views scope columns part (dimension_named views scope name) ≡ None)
      → IsTruth (condition_by_key schema views scope columns part key)
  by_key part None keys none = refl
  by_key part (Some name) keys none = keyed part name (keys name refl) (none name refl)

  condition_typed : (part : ℕ) (key : Option (List ℕ)) (c : Code) → IsDatedCode c → where_number schema views scope columns c ≡ None
      → ((name : List ℕ) → key ≡ Some name → HasKeys views scope part name) → ((name : List ℕ) → key ≡ Some name → key_number schema views scope columns part (dimension_named views scope name) ≡ None)
      → IsTruth (condition_with schema views scope columns part key c)
  condition_typed part key (code.Expr written) dated none keys numbers =
      let formula = resolved_in schema views scope columns Null writer.Explore (code.Expr written) in
      code_typed schema views scope columns leaves known same codes kind.Truth writer.Explore (code.Expr written) dated (truth_given formula.size formula.kinds.truth none)
  condition_typed part key (code.Number written) dated none keys numbers = by_key part key keys numbers
  condition_typed part key code.Absent dated none keys numbers = by_key part key keys numbers
  condition_typed part key code.Liquid dated none keys numbers = by_key part key keys numbers
  condition_typed part key (code.Syntax place) dated none keys numbers = by_key part key keys numbers

  -- ---- joins

  of_kind : (k : JoinKind) (on : Option Formula) (join : Join) → (faults.is_cross k ≡ false → IsTruth on) → (is_free (record join { kind = k; on = on_with k on }) || is_typed_join leaves (record join { kind = k; on = on_with k on })) ≡ true
  of_kind join_kind.Cross on join h = refl
  of_kind join_kind.Left on join h = h refl
  of_kind join_kind.Full on join h = h refl
  of_kind join_kind.Inner on join h = h refl

  -- a join of the explore without a fault
  record IsClearJoin (all : List DeclaredJoin) (part : ℕ) (join : DeclaredJoin) : Type 0 where
    pub given : IsGiven join.view
    pub dated : IsDatedCode join.on
    pub line : join_line schema views scope all part join ≡ None
    pub condition : join_condition_line schema views scope columns part join ≡ None

  numbers_of : (part : ℕ) (join : DeclaredJoin) → join_condition_line schema views scope columns part join ≡ None → join_number schema views scope columns part join.foreign_key join.on ≡ None
  unfolding join_condition_line
  numbers_of part join h = none_map (expression_line join.name) (join_number schema views scope columns part join.foreign_key join.on) h

  key_named : (part : ℕ) (key : Option (List ℕ)) (c : Code) → join_number schema views scope columns part key c ≡ None
      → (where_number schema views scope columns c ≡ None) × ((name : List ℕ) → key ≡ Some name → key_number schema views scope columns part (dimension_named views scope name) ≡ None)
  key_named part None c h = ((neither (where_number schema views scope columns c) None (where_is_condition c) (inl refl) h).0, λ name is. absurd (some_none (sym is)))
  key_named part (Some named) c h =
      let both_none = neither (where_number schema views scope columns c) (key_number schema views scope columns part (dimension_named views scope named)) (where_is_condition c)
      (key_is_condition part (dimension_named views scope named) (key_of views scope part) refl) h in
      (both_none.0, λ name is. subst (λ n. key_number schema views scope columns part (dimension_named views scope n) ≡ None) (one named name is) both_none.1)
    where
      one : (a b : List ℕ) → Some a ≡ Some b → a ≡ b
      one a b e = cc

  module _ (all : List DeclaredJoin) (part : ℕ) (join : DeclaredJoin) (is : IsClearJoin all part join) where
    abbrev front : List Finding
    front = view_findings views scope join.name part join.view ++ faults.joins_findings all join.name required_at join.required ++ text_findings schema views scope join.name on_at join.on

    found_nothing : front ++ key_findings views scope key_at part join join.foreign_key ≡ []
    found_nothing = (none_lined join.first (faults.join_findings schema views scope all part join) is.line).1

    seen : is_none (view_at views scope part) ≡ false
    seen =
        not_so (is_none (view_at views scope part)) _
        (ap (view_findings views scope join.name part) (sym is.given.1)
        ∙ nil_left (view_findings views scope join.name part join.view) _ (nil_left _ _ (nil_left front (key_findings views scope key_at part join join.foreign_key) found_nothing)))

    keys_of : faults.is_cross join.kind ≡ false → (name : List ℕ) → join.foreign_key ≡ Some name → HasKeys views scope part name
    keys_of other name named =
        keys_given views scope key_at part join name (ap (key_findings views scope key_at part join) (sym named) ∙ nil_right front (key_findings views scope key_at part join join.foreign_key) found_nothing) other seen

    abbrev made : Join
    made = join_with schema views scope columns all part join

    join_typed : (is_free made || is_typed_join leaves made) ≡ true
    join_typed =
        let numbers = key_named part join.foreign_key join.on (numbers_of part join is.condition) in
        of_kind join.kind (condition_with schema views scope columns part join.foreign_key join.on) made
        (λ other. condition_typed part join.foreign_key join.on is.dated numbers.0 (keys_of other) numbers.1)

    -- where one is written, there is a condition
    key_there : (o : Option (List ℕ)) → ((name : List ℕ) → o ≡ Some name → HasKeys views scope part name) → is_some o ≡ true → is_none (condition_by_key schema views scope columns part o) ≡ false
    key_there None keys h = absurd (false≢true h)
    key_there (Some name) keys h = let own = keys name refl in λ i. is_none (key_condition schema views scope columns (own.named i) (own.key_is i))

    condition_there : (c : Code) (key : Option (List ℕ)) → ((name : List ℕ) → key ≡ Some name → HasKeys views scope part name) → (is_written c || is_some key) ≡ true
        → is_none (condition_with schema views scope columns part key c) ≡ false
    condition_there (code.Expr written) key keys h = refl
    condition_there (code.Number written) key keys h = key_there key keys h
    condition_there code.Absent key keys h = key_there key keys h
    condition_there code.Liquid key keys h = key_there key keys h
    condition_there (code.Syntax place) key keys h = key_there key keys h

    with_condition : (k : JoinKind) (on : Option Formula) → (faults.is_cross k ≡ false → is_none on ≡ false) → is_free (record made { kind = k; on = on_with k on }) ≡ false
    with_condition join_kind.Cross on h = refl
    with_condition join_kind.Left on h = h refl
    with_condition join_kind.Full on h = h refl
    with_condition join_kind.Inner on h = h refl

    uncrossed : (k : JoinKind) (a b : Bool) → (is_cross k || a || b) ≡ true → faults.is_cross k ≡ false → (a || b) ≡ true
    uncrossed join_kind.Cross a b h other = absurd (false≢true (sym other))
    uncrossed join_kind.Left a b h other = h
    uncrossed join_kind.Full a b h other = h
    uncrossed join_kind.Inner a b h other = h

    whole_typed : has_condition join ≡ true → is_typed_join leaves made ≡ true
    whole_typed has =
        let bound = with_condition join.kind (condition_with schema views scope columns part join.foreign_key join.on)
        (λ other. condition_there join.on join.foreign_key (keys_of other) (uncrossed join.kind (is_written join.on) (is_some join.foreign_key) has other)) in
        sym (ap (λ b. b || is_typed_join leaves made) bound) ∙ join_typed

  module _ (all : List DeclaredJoin) where
    -- all joins of the explore
    pub joins_typed : (n : ℕ) (more : List DeclaredJoin) → AllByRecursion (λ join. IsGiven join.view × IsDatedCode join.on) more
        → EachFrom (λ k join. join_line schema views scope all k join ≡ None) n more → EachFrom (λ k join. join_condition_line schema views scope columns k join ≡ None) n more
        → list_all (λ (j : Join). is_free j || is_typed_join leaves j) (joins_from schema views scope columns all n more) ≡ true
    joins_typed n [] given lines conditions = refl
    joins_typed n (join ∷ more) given lines conditions =
        let one = join_with schema views scope columns all n join in
        both (is_free one || is_typed_join leaves one) (list_all (λ (j : Join). is_free j || is_typed_join leaves j) (joins_from schema views scope columns all (n + 1) more))
        (join_typed all n join (record { given = given.0.0; dated = given.0.1; line = lines.0; condition = conditions.0 }))
        (joins_typed (n + 1) more given.1 lines.1 conditions.1)

    pub whole_joins_typed : (n : ℕ) (more : List DeclaredJoin) → AllByRecursion (λ join. IsGiven join.view × IsDatedCode join.on) more → AllByRecursion (λ join. has_condition join ≡ true) more
        → EachFrom (λ k join. join_line schema views scope all k join ≡ None) n more → EachFrom (λ k join. join_condition_line schema views scope columns k join ≡ None) n more
        → list_all (is_typed_join leaves) (joins_from schema views scope columns all n more) ≡ true
    whole_joins_typed n [] given has lines conditions = refl
    whole_joins_typed n (join ∷ more) given has lines conditions =
        let one = join_with schema views scope columns all n join in
        both (is_typed_join leaves one) (list_all (is_typed_join leaves) (joins_from schema views scope columns all (n + 1) more))
        (whole_typed all n join (record { given = given.0.0; dated = given.0.1; line = lines.0; condition = conditions.0 }) has.0)
        (whole_joins_typed (n + 1) more given.1 has.1 lines.1 conditions.1)
