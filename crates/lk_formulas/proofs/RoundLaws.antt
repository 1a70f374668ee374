-- What is computed through as many rounds as there are fields is settled where the references of a field come to an end.
use Rattle.std.proofs.Common.{◌≡◌, ℕ, zero, suc, ◌≤◌, Bool, true, false, ◌&&◌, ◌||◌, List, [], ◌∷◌, ◌++◌, length, map, Option, Some, None, refl, sym, ap, ◌∙◌, subst, arith}
use Rattle.std.specs.Prelude.{if◌then◌else◌, is_none}
use Rattle.std.specs.List.{flat_map, list_all}
use Rattle.std.proofs.lemmas.Bool.{false≢true}
use Rattle.std.proofs.lemmas.List.Folds.{list_all-map}
use Rattle.lk_val.specs.Least.{grown_times, is_in}
use Rattle.lk_types.specs.Formula.{Formula}
use Rattle.lk_types.specs.declared.schema.Schema.{Schema}
use Rattle.lk_objects.specs.declared.code.Code.{Code}
use Rattle.lk_objects.specs.declared.code.Code.TheVariants as code
use Rattle.lk_objects.specs.declared.code.Reference.{Reference}
use Rattle.lk_objects.specs.declared.code.Reference.TheVariants as reference
use Rattle.lk_objects.specs.declared.code.Written.{Written}
use Rattle.lk_objects.specs.declared.field.DeclaredField.{DeclaredField}
use Rattle.lk_objects.specs.declared.view.DeclaredView.{DeclaredView}
use Rattle.lk_fields.specs.declared.scope.Found.{Found}
use Rattle.lk_fields.specs.declared.scope.Place.{Place}
use Rattle.lk_fields.specs.declared.scope.Scope.{Scope}
use Rattle.lk_fields.specs.declared.scope.Sort.{Sort}
use Rattle.lk_fields.specs.declared.scope.Sort.TheVariants as sort
use Rattle.lk_fields.specs.declared.scope.Writer.TheVariants as writer
use Rattle.lk_fields.specs.Existing.{all_places, ends_after, field_at, is_same_place, meant, meant_in, places_of, targets, targets_with}
use Rattle.lk_fields.specs.Scopes.{found_in}
use Rattle.lk_fields.proofs.LostLaws.{both, passing, same_exact, same_itself}
use Rattle.lk_formulas.specs.declared.columns.ColumnKinds.{ColumnKinds}
use Rattle.lk_formulas.specs.declared.columns.UnknownColumn.{UnknownColumn}
use Rattle.lk_formulas.specs.Formulas.{as_read, as_written, certain_within, dated_of, ends, expanded, expanded_field, field_named, formula_by, formula_of, formula_within, framed, is_certain, knows, knows_all, knows_field, knows_through, meaning, null, through}
use Rattle.lk_formulas.specs.NumberSizes.{nodes_at, nodes_by, nodes_meant, nodes_of_code, nodes_of_field, nodes_through, number_nodes, number_nodes_within, told}
use Rattle.lk_formulas.specs.Resolved.{field_kept, resolved}

-- all of some places are in a set
pub all_in : (set ts : List Place) → list_all (λ t. is_in is_same_place t set) ts ≡ true → (t : Place) → is_in is_same_place t ts ≡ true → is_in is_same_place t set ≡ true
all_in set [] h t there = absurd (false≢true there)
all_in set (x ∷ ts) h t there =
    let parts = both (is_in is_same_place x set) (list_all (λ y. is_in is_same_place y set) ts) h in
    elim (is_same_place t x) as (λ b. is_same_place t x ≡ b → (b || is_in is_same_place t ts) ≡ true → is_in is_same_place t set ≡ true) [
      | true ↦ λ e _. ap (λ y. is_in is_same_place y set) (same_exact t x e) ∙ parts.0
      | false ↦ λ e there. all_in set ts parts.1 t there
    ] refl there

-- two functions agree on some places
abbrev pub AgreeOn : {A : Type 0} → (Place → A) → (Place → A) → List Place → Type 0
AgreeOn f g ts = (t : Place) → is_in is_same_place t ts ≡ true → f t ≡ g t

module _ (views : List DeclaredView) (scope : Scope) where
  abbrev round : ℕ → List Place
  round n = grown_times is_same_place (all_places views scope) (ends_after views scope) n

  from_round : (n : ℕ) (p : Place) → is_in is_same_place p (round (suc n)) ≡ true → (is_in is_same_place p (round n) || ends_after views scope (round n) p) ≡ true
  from_round n p h =
      let test : Place → Bool = λ x. is_in is_same_place x (round n) || ends_after views scope (round n) x in
      (both (test p) (is_in is_same_place p (all_places views scope)) (sym (passing test p (all_places views scope)) ∙ h)).0

  module _ {A : Type 0} (w : ℕ → Place → A) (step : (Place → A) → Place → A) (is : (n : ℕ) (p : Place) → w (suc n) p ≡ step (w n) p) (local : (f g : Place → A) (p : Place) → AgreeOn f g (targets views scope p) → step f p ≡ step g p) where
    settled : (k n : ℕ) → k ≤ n → (p : Place) → is_in is_same_place p (round k) ≡ true → w n p ≡ w k p
    settled zero n le p h = absurd (false≢true h)
    settled (suc k) zero le p h = absurd (omega arith)
    settled (suc k) (suc n) le p h =
        elim (is_in is_same_place p (round k)) as (λ b. is_in is_same_place p (round k) ≡ b → (b || ends_after views scope (round k) p) ≡ true → w (suc n) p ≡ w (suc k) p) [
          | true ↦ λ before _. settled k (suc n) (omega arith) p before ∙ sym (settled k (suc k) (omega arith) p before)
          | false ↦ λ _ added.
              is n p
              ∙ local (w n) (w k) p (λ t there. settled k n (omega arith) t (all_in (round k) (targets views scope p) added t there))
              ∙ sym (is k p)
        ] refl (from_round k p h)

    -- one more round changes nothing
    pub fixed : (p : Place) → ends views scope p ≡ true → w (length (all_places views scope)) p ≡ step (w (length (all_places views scope))) p
    fixed p h =
        sym (settled (length (all_places views scope)) (suc (length (all_places views scope))) (omega arith) p h)
        ∙ is (length (all_places views scope)) p

  -- ---- what depends on the fields that a text names alone

  head_in : (o : Option Found) (fd : Found) (rest : List (Option Found)) → o ≡ Some fd → is_in is_same_place fd.place (places_of (o ∷ rest)) ≡ true
  head_in o fd rest e =
      subst (λ x. is_in is_same_place fd.place (places_of (x ∷ rest)) ≡ true) (sym e)
      (ap (λ b. b || is_in is_same_place fd.place (places_of rest)) (same_itself fd.place))

  or_right : (a b : Bool) → b ≡ true → (a || b) ≡ true
  or_right true b h = refl
  or_right false b h = h

  tail_in : (o : Option Found) (rest : List (Option Found)) (t : Place) → is_in is_same_place t (places_of rest) ≡ true → is_in is_same_place t (places_of (o ∷ rest)) ≡ true
  tail_in None rest t h = h
  tail_in (Some x) rest t h = or_right (is_same_place t x.place) (is_in is_same_place t (places_of rest)) h

  module _ {A B : Type 0} (s : Sort) (part : ℕ) (f g : Place → A) (h : (Place → A) → Reference → B) (one : (r : Reference) → ((fd : Found) → field_named views scope (writer.Field part) s r ≡ Some fd → f fd.place ≡ g fd.place) → h f r ≡ h g r) where
    agree_all : (rs : List Reference) (more : List (Option Found)) → AgreeOn f g (places_of (flat_map (meant views scope part s) rs ++ more)) → map (h f) rs ≡ map (h g) rs
    agree_all [] more a = refl
    agree_all (reference.Column name ∷ rs) more a =
        let p = one (reference.Column name) (λ fd e. cc) in let q = agree_all rs more a in λ i. p i ∷ q i
    agree_all (reference.Own name ∷ rs) more a =
        let o = found_in views scope (writer.Field part) None name s in
        let rest = flat_map (meant views scope part s) rs ++ more in
        let p = one (reference.Own name) (λ fd e. a fd.place (head_in o fd rest e)) in
        let q = agree_all rs more (λ t there. a t (tail_in o rest t there)) in
        λ i. p i ∷ q i
    agree_all (reference.Of view name ∷ rs) more a =
        let o = found_in views scope (writer.Field part) (Some view) name s in
        let rest = flat_map (meant views scope part s) rs ++ more in
        let p = one (reference.Of view name) (λ fd e. a fd.place (head_in o fd rest e)) in
        let q = agree_all rs more (λ t there. a t (tail_in o rest t there)) in
        λ i. p i ∷ q i

  -- ---- formulas

  module _ (schema : Schema) (columns : ColumnKinds) (u : UnknownColumn) where
    module _ (join : List Formula → Written → Formula) (f g : Place → Formula) where
      same_through : (o : Option Found) → ((fd : Found) → o ≡ Some fd → f fd.place ≡ g fd.place) → through schema views scope columns u f o ≡ through schema views scope columns u g o
      same_through None agree = refl
      same_through (Some fd) agree = ap (λ e. if ends views scope fd.place then framed fd.frame e else null) (agree fd refl)

      same_meaning : (part : ℕ) (r : Reference) → ((fd : Found) → field_named views scope (writer.Field part) sort.Dimension r ≡ Some fd → f fd.place ≡ g fd.place)
          → meaning schema views scope columns u f (writer.Field part) r ≡ meaning schema views scope columns u g (writer.Field part) r
      same_meaning part (reference.Column name) agree = refl
      same_meaning part (reference.Own name) agree = same_through (field_named views scope (writer.Field part) sort.Dimension (reference.Own name)) agree
      same_meaning part (reference.Of view name) agree = same_through (field_named views scope (writer.Field part) sort.Dimension (reference.Of view name)) agree

      same_expanded : (part : ℕ) (c : Code) (more : List (Option Found)) → AgreeOn f g (places_of (meant_in views scope part c ++ more))
          → expanded schema views scope columns u join f (writer.Field part) c ≡ expanded schema views scope columns u join g (writer.Field part) c
      same_expanded part (code.Expr written) more a =
          ap (λ by. join by written)
          (agree_all sort.Dimension part f g (λ k r. meaning schema views scope columns u k (writer.Field part) r) (same_meaning part) written.references more a)
      same_expanded part code.Absent more a = refl
      same_expanded part code.Liquid more a = refl
      same_expanded part (code.Number written) more a = refl
      same_expanded part (code.Syntax place) more a = refl

      same_field : (part : ℕ) (o : Option DeclaredField) → AgreeOn f g (targets_with views scope part o)
          → expanded_field schema views scope columns u join f part o ≡ expanded_field schema views scope columns u join g part o
      same_field part None a = refl
      same_field part (Some field) a = same_expanded part field.sql (meant_in views scope part field.key) a

    -- as it is written, and with its text literals read
    pub formula_fixed : (join : List Formula → Written → Formula) (p : Place) → ends views scope p ≡ true
        → formula_by schema views scope columns u join p ≡ expanded_field schema views scope columns u join (formula_by schema views scope columns u join) p.part (field_at views scope p)
    formula_fixed join p h =
        fixed (formula_within schema views scope columns u join) (λ f p. expanded_field schema views scope columns u join f p.part (field_at views scope p))
        (λ n p. refl) (λ f g p a. same_field join f g p.part (field_at views scope p) a) p h

    -- ---- whether all is known

    module _ (f g : Place → Bool) where
      same_knows_through : (o : Option Found) → ((fd : Found) → o ≡ Some fd → f fd.place ≡ g fd.place) → knows_through schema views scope columns u f o ≡ knows_through schema views scope columns u g o
      same_knows_through None agree = refl
      same_knows_through (Some fd) agree = ap (λ b. ends views scope fd.place && b) (agree fd refl)

      same_knows : (part : ℕ) (r : Reference) → ((fd : Found) → field_named views scope (writer.Field part) sort.Dimension r ≡ Some fd → f fd.place ≡ g fd.place)
          → knows schema views scope columns u f (writer.Field part) r ≡ knows schema views scope columns u g (writer.Field part) r
      same_knows part (reference.Column name) agree = refl
      same_knows part (reference.Own name) agree = same_knows_through (field_named views scope (writer.Field part) sort.Dimension (reference.Own name)) agree
      same_knows part (reference.Of view name) agree = same_knows_through (field_named views scope (writer.Field part) sort.Dimension (reference.Of view name)) agree

      same_knows_all : (part : ℕ) (c : Code) (more : List (Option Found)) → AgreeOn f g (places_of (meant_in views scope part c ++ more))
          → knows_all schema views scope columns u f (writer.Field part) c ≡ knows_all schema views scope columns u g (writer.Field part) c
      same_knows_all part (code.Expr written) more a =
          ap (λ b. is_none written.unknown_call && b)
          (sym (list_all-map (λ b. b) (knows schema views scope columns u f (writer.Field part)) written.references)
          ∙ ap (list_all (λ b. b)) (agree_all sort.Dimension part f g (λ k r. knows schema views scope columns u k (writer.Field part) r) (same_knows part) written.references more a)
          ∙ list_all-map (λ b. b) (knows schema views scope columns u g (writer.Field part)) written.references)
      same_knows_all part code.Absent more a = refl
      same_knows_all part code.Liquid more a = refl
      same_knows_all part (code.Number written) more a = refl
      same_knows_all part (code.Syntax place) more a = refl

      same_knows_field : (part : ℕ) (o : Option DeclaredField) → AgreeOn f g (targets_with views scope part o)
          → knows_field schema views scope columns u f part o ≡ knows_field schema views scope columns u g part o
      same_knows_field part None a = refl
      same_knows_field part (Some field) a = same_knows_all part field.sql (meant_in views scope part field.key) a

    abbrev certain : Place → Bool
    certain place = is_certain schema views scope columns u place

    pub certain_fixed : (p : Place) → ends views scope p ≡ true → certain p ≡ knows_field schema views scope columns u certain p.part (field_at views scope p)
    certain_fixed p h =
        fixed (certain_within schema views scope columns u) (λ f p. knows_field schema views scope columns u f p.part (field_at views scope p))
        (λ n p. refl) (λ f g p a. same_knows_field f g p.part (field_at views scope p) a) p h

  -- ---- the nodes of measures of type number

  module _ (f g : Place → ℕ) where
    same_nodes_through : (o : Option Found) → ((fd : Found) → o ≡ Some fd → f fd.place ≡ g fd.place) → nodes_through views scope f o ≡ nodes_through views scope g o
    same_nodes_through None agree = refl
    same_nodes_through (Some fd) agree = agree fd refl

    same_nodes_meant : (part : ℕ) (r : Reference) → ((fd : Found) → field_named views scope (writer.Field part) sort.Measure r ≡ Some fd → f fd.place ≡ g fd.place)
        → nodes_meant views scope f part r ≡ nodes_meant views scope g part r
    same_nodes_meant part r agree = same_nodes_through (field_named views scope (writer.Field part) sort.Measure r) agree

    same_nodes : (part : ℕ) (c : Code) (more : List (Option Found)) → AgreeOn f g (places_of (meant_in views scope part c ++ more)) → nodes_of_code views scope f part c ≡ nodes_of_code views scope g part c
    same_nodes part (code.Number written) more a =
        ap (λ by. nodes_by (nodes_at by) written.expr)
        (agree_all sort.Measure part f g (λ k r. nodes_meant views scope k part r) (same_nodes_meant part) written.references more a)
    same_nodes part code.Absent more a = refl
    same_nodes part code.Liquid more a = refl
    same_nodes part (code.Expr written) more a = refl
    same_nodes part (code.Syntax place) more a = refl

    same_nodes_field : (part : ℕ) (o : Option DeclaredField) → AgreeOn f g (targets_with views scope part o) → nodes_of_field views scope f part o ≡ nodes_of_field views scope g part o
    same_nodes_field part None a = refl
    same_nodes_field part (Some field) a = same_nodes part field.sql (meant_in views scope part field.key) a

  abbrev numbers : Place → ℕ
  numbers place = number_nodes views scope place

  pub number_fixed : (p : Place) → ends views scope p ≡ true → numbers p ≡ nodes_of_field views scope numbers p.part (field_at views scope p)
  number_fixed p h =
      fixed (number_nodes_within views scope) (λ f p. if ends views scope p then nodes_of_field views scope f p.part (field_at views scope p) else 1)
      (λ n p. refl)
      (λ f g p a. ap (λ n. if ends views scope p then n else 1) (same_nodes_field f g p.part (field_at views scope p) a)) p h
      ∙ ap (λ b. if b then nodes_of_field views scope numbers p.part (field_at views scope p) else 1) h

  -- what is kept of a field is found from what it refers to
  pub kept_is : (schema : Schema) (columns : ColumnKinds) (u : UnknownColumn) (p : Place) (o : Option DeclaredField) → ends views scope p ≡ true → field_at views scope p ≡ o
      → field_kept schema views scope columns u p
      ≡ record {
        code = resolved columns (expanded_field schema views scope columns u as_written (formula_of schema views scope columns u) p.part o)
            (expanded_field schema views scope columns u (as_read columns) (dated_of schema views scope columns u) p.part o) (knows_field schema views scope columns u (is_certain schema views scope columns u) p.part o);
        number_size = told (nodes_of_field views scope (number_nodes views scope) p.part o);
      }
  kept_is schema columns u p o h e =
      let formula = formula_fixed schema columns u as_written p h ∙ ap (expanded_field schema views scope columns u as_written (formula_of schema views scope columns u) p.part) e in
      let read = formula_fixed schema columns u (as_read columns) p h ∙ ap (expanded_field schema views scope columns u (as_read columns) (dated_of schema views scope columns u) p.part) e in
      let known = certain_fixed schema columns u p h ∙ ap (knows_field schema views scope columns u (is_certain schema views scope columns u) p.part) e in
      let number = number_fixed p h ∙ ap (nodes_of_field views scope (number_nodes views scope) p.part) e in
      λ i. record { code = resolved columns (formula i) (read i) (known i); number_size = told (number i) }
