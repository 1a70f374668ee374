-- Rounds by which fields are resolved: what is kept is right, and in the end all is kept whose references come to an end.
use Rattle.std.proofs.Common.{◌≡◌, ℕ, zero, suc, ◌+◌, ◌<◌, ◌≤◌, Bool, true, false, ◌&&◌, ◌||◌, List, [], ◌∷◌, ◌++◌, length, get_or, map, Option, Some, None, refl, sym, ap, ◌∙◌, subst, append_assoc, arith}
use Rattle.std.specs.Prelude.{cond, filter, nat_lt, if◌then◌else◌, is_none, is_some, not, slice_set}
use Rattle.std.specs.List.{flat_map, list_all, list_any, position_from}
use Rattle.std.specs.Option.{option_and_then}
use Rattle.std.proofs.lemmas.Bool.{false≢true}
use Rattle.std.proofs.lemmas.Iterator.Adapters.{position_from-zero}
use Rattle.std.proofs.lemmas.List.{length-map}
use Rattle.lk_val.specs.Least.{is_in}
use Rattle.lk_val.proofs.LeastLaws.{IsEquality, least_set-kept, round_within}
use Rattle.lk_types.specs.declared.schema.Schema.{Schema}
use Rattle.lk_objects.specs.declared.code.Code.{Code}
use Rattle.lk_objects.specs.declared.code.Code.TheVariants as code
use Rattle.lk_objects.specs.declared.code.Reference.{Reference}
use Rattle.lk_objects.specs.declared.code.Reference.TheVariants as reference
use Rattle.lk_objects.specs.declared.field.DeclaredField.{DeclaredField}
use Rattle.lk_objects.specs.declared.view.DeclaredView.{DeclaredView}
use Rattle.lk_fields.specs.declared.rows.Row.{Row}
use Rattle.lk_fields.specs.declared.rows.Rule.TheVariants.{Ends}
use Rattle.lk_fields.specs.declared.scope.Found.{Found}
use Rattle.lk_fields.specs.declared.scope.Place.{Place}
use Rattle.lk_fields.specs.declared.scope.Scope.{Scope}
use Rattle.lk_fields.specs.declared.scope.Sort.{Sort}
use Rattle.lk_fields.specs.declared.scope.Sort.TheVariants as sort
use Rattle.lk_fields.specs.declared.scope.Writer.{Writer}
use Rattle.lk_fields.specs.declared.scope.Writer.TheVariants as writer
use Rattle.lk_fields.specs.Existing.{all_places, ending, ends_after, field_at, is_same_place, meant, meant_in, places_of, referred, targets, targets_with}
use Rattle.lk_fields.specs.Rows.{is_lacking, is_marked, is_taken, marks_after, marks_from, number_of, numbers_in, option_list, row_at, row_by, row_with}
use Rattle.lk_fields.specs.Scopes.{found_in}
use Rattle.lk_fields.proofs.LostLaws.{among, and_true, as_filter, both, marks_are, passes, passing, same_exact, same_itself, there}
use Rattle.lk_formulas.specs.declared.columns.ColumnKinds.{ColumnKinds}
use Rattle.lk_formulas.specs.declared.columns.UnknownColumn.{UnknownColumn}
use Rattle.lk_formulas.specs.declared.resolved.ResolvedField.{ResolvedField}
use Rattle.lk_formulas.specs.Filling.{AreRight, Covers, IsRight, IsStep, is_kept, is_ready}
use Rattle.lk_formulas.specs.Formulas.{ends, field_named}
use Rattle.lk_formulas.specs.Referents.{field_numbered}
use Rattle.lk_formulas.specs.Resolved.{field_kept, field_told}
use Rattle.lk_formulas.specs.Told.{AreAllTold, IsCodeTold, IsFieldTold, IsTold, kept_at}

abbrev no_field : Option ResolvedField
no_field = None

together : (a b : Bool) → a ≡ true → b ≡ true → (a && b) ≡ true
together true b p q = q
together false b p q = absurd (false≢true p)

-- ---- least sets of places

equality : IsEquality is_same_place
equality = record { itself = same_itself; exact = same_exact }

all_weaker : (s t ts : List Place) → ((x : Place) → is_in is_same_place x s ≡ true → is_in is_same_place x t ≡ true)
    → list_all (λ x. is_in is_same_place x s) ts ≡ true → list_all (λ x. is_in is_same_place x t) ts ≡ true
all_weaker s t [] more h = refl
all_weaker s t (x ∷ ts) more h =
    let parts = both (is_in is_same_place x s) (list_all (λ y. is_in is_same_place y s) ts) h in
    together (is_in is_same_place x t) (list_all (λ y. is_in is_same_place y t) ts) (more x parts.0) (all_weaker s t ts more parts.1)

module _ (views : List DeclaredView) (scope : Scope) where
  grows : (s t : List Place) → ((x : Place) → is_in is_same_place x s ≡ true → is_in is_same_place x t ≡ true) → (x : Place) → ends_after views scope s x ≡ true → ends_after views scope t x ≡ true
  grows s t more x h = all_weaker s t (targets views scope x) more h

  -- a field of which all targets end ends
  pub ends_next : (p : Place) → is_in is_same_place p (all_places views scope) ≡ true → ends_after views scope (ending views scope) p ≡ true → ends views scope p ≡ true
  ends_next p there h = least_set-kept equality (all_places views scope) (ends_after views scope) grows p there h

  -- a field that ends is there
  pub ends_there : (p : Place) → ends views scope p ≡ true → is_in is_same_place p (all_places views scope) ≡ true
  ends_there p h = round_within equality (all_places views scope) (ends_after views scope) grows (all_places views scope) (λ x there _. there) (length (all_places views scope)) p h

  marked_rest : (p : Place → Bool) (set all front rest : List Place) → all ≡ front ++ rest → set ≡ filter p all → map p rest ≡ map (λ x. is_in is_same_place x set) rest
  marked_rest p set all front [] e is = refl
  marked_rest p set all front (x ∷ rest) e is =
      let there : is_in is_same_place x all ≡ true = ap (λ ys. is_in is_same_place x ys) e ∙ among front x rest in
      let head : p x ≡ is_in is_same_place x set = sym (ap (λ ys. is_in is_same_place x ys) is ∙ passing p x all ∙ ap (λ t. p x && t) there ∙ and_true (p x)) in
      let tail = marked_rest p set all (front ++ x ∷ []) rest (e ∙ sym (append_assoc front (x ∷ []) rest)) is in
      λ i. head i ∷ tail i

  -- after as many rounds as there are fields, those are marked that end
  pub ending_marks : marks_after Ends (length (all_places views scope)) (map (row_at Ends views scope (all_places views scope)) (all_places views scope)) ≡ map (ends views scope) (all_places views scope)
  ending_marks =
      let all = all_places views scope in
      let n = length (all_places views scope) in
      marks_are views scope Ends n
      ∙ marked_rest (passes views scope Ends n) (ending views scope) all [] all refl (as_filter views scope Ends n)

pub same_end : (a b : ℕ) → a ≤ b → b ≤ a → a ≡ b
same_end a b p q = omega arith

pub mapped_length : {A B : Type 0} (f : A → B) (xs : List A) (ys : List B) → ys ≡ map f xs → length ys ≡ length xs
mapped_length f xs ys is = ap length is ∙ length-map xs f

-- ---- marks

pub mark_next : (rows : List Row) (marks : List Bool) (n i : ℕ) (row : Row) → i < length rows → row ≡ get_or rows i row
    → is_marked (marks_from Ends marks n rows) i ≡ (is_marked marks (n + i) || is_taken Ends marks row)
mark_next [] marks n i row lt is = absurd (omega arith)
mark_next (r ∷ rows) marks n zero row lt is =
    let same : n ≡ n + 0 = omega arith in
    ap (λ m. is_marked marks m || is_taken Ends marks r) same ∙ ap (λ x. is_marked marks (n + 0) || is_taken Ends marks x) (sym is)
mark_next (r ∷ rows) marks n (suc i) row lt is =
    let same : (n + 1) + i ≡ n + suc i = omega arith in
    mark_next rows marks (n + 1) i row (omega arith) is ∙ ap (λ m. is_marked marks m || is_taken Ends marks row) same

pub marked_within : (rows : List Row) (marks : List Bool) (n i : ℕ) → is_marked (marks_from Ends marks n rows) i ≡ true → i < length rows
marked_within [] marks n i h = absurd (false≢true h)
marked_within (r ∷ rows) marks n zero h = omega arith
marked_within (r ∷ rows) marks n (suc i) h = let within = marked_within rows marks (n + 1) i h in omega arith

-- what is marked is kept, so a field that is taken is ready
taken_ready : (marks : List Bool) (fields : List (Option ResolvedField)) → Covers marks fields → (row : Row) → is_taken Ends marks row ≡ true → is_ready fields row ≡ true
taken_ready marks fields covers row h =
    let parts = both (not row.lacks) (list_all (is_marked marks) row.names) h in
    together (not row.lacks) (list_all (is_kept fields) row.names) parts.0 (each row.names parts.1)
  where
    each : (ns : List ℕ) → list_all (is_marked marks) ns ≡ true → list_all (is_kept fields) ns ≡ true
    each [] h = refl
    each (n ∷ ns) h =
        let parts = both (is_marked marks n) (list_all (is_marked marks) ns) h in
        together (is_kept fields n) (list_all (is_kept fields) ns) (covers n parts.0) (each ns parts.1)

ready_more : (old new : List (Option ResolvedField)) → ((i : ℕ) → is_kept old i ≡ true → is_kept new i ≡ true) → (row : Row) → is_ready old row ≡ true → is_ready new row ≡ true
ready_more old new more row h =
    let parts = both (not row.lacks) (list_all (is_kept old) row.names) h in
    together (not row.lacks) (list_all (is_kept new) row.names) parts.0 (each row.names parts.1)
  where
    each : (ns : List ℕ) → list_all (is_kept old) ns ≡ true → list_all (is_kept new) ns ≡ true
    each [] h = refl
    each (n ∷ ns) h =
        let parts = both (is_kept old n) (list_all (is_kept old) ns) h in
        together (is_kept new n) (list_all (is_kept new) ns) (more n parts.0) (each ns parts.1)

-- what a round has marked before a number is kept
abbrev pub CoversBelow : List Row → List (Option ResolvedField) → List (Option ResolvedField) → ℕ → Type 0
CoversBelow rows first now number =
    (k : ℕ) → Covers (marks_after Ends k rows) first → (i : ℕ) → i < number → is_marked (marks_after Ends (suc k) rows) i ≡ true → is_kept now i ≡ true

either : {P : Type 0} (a b : Bool) → (a || b) ≡ true → (a ≡ true → P) → (b ≡ true → P) → P
either true b h f g = f refl
either false b h f g = g h

pub below_next : (rows : List Row) (first old new : List (Option ResolvedField)) (number : ℕ) (row : Row)
    → number < length rows → row ≡ get_or rows number row
    → ((i : ℕ) → is_kept first i ≡ true → is_kept old i ≡ true) → ((i : ℕ) → is_kept old i ≡ true → is_kept new i ≡ true)
    → (is_ready old row ≡ true → is_kept new number ≡ true)
    → CoversBelow rows first old number → CoversBelow rows first new (number + 1)
below_next rows first old new number row within is before stays taken below k covers i lt marked =
    elim (nat_lt i number) as (λ b. nat_lt i number ≡ b → is_kept new i ≡ true) [
      | true ↦ λ less. stays i (below k covers i (less_of i number less) marked)
      | false ↦ λ more.
          let here : i ≡ number = same_of i number more lt in
          let now : is_marked (marks_after Ends (suc k) rows) number ≡ true = subst (λ j. is_marked (marks_after Ends (suc k) rows) j ≡ true) here marked in
          let flat : 0 + number ≡ number = omega arith in
          let split : (is_marked (marks_after Ends k rows) number || is_taken Ends (marks_after Ends k rows) row) ≡ true =
          ap (λ m. is_marked (marks_after Ends k rows) m || is_taken Ends (marks_after Ends k rows) row) (sym flat)
          ∙ sym (mark_next rows (marks_after Ends k rows) 0 number row within is) ∙ now in
          let kept : is_kept new number ≡ true = either (is_marked (marks_after Ends k rows) number) (is_taken Ends (marks_after Ends k rows) row) split
          (λ m. stays number (before number (covers number m)))
          (λ t. taken (ready_more first old before row (taken_ready (marks_after Ends k rows) first covers row t))) in
          subst (λ j. is_kept new j ≡ true) (sym here) kept
    ] refl
  where
    less_of : (i n : ℕ) → nat_lt i n ≡ true → i < n
    less_of i n h = grind arith

    same_of : (i n : ℕ) → nat_lt i n ≡ false → i < n + 1 → i ≡ n
    same_of i n h lt = grind arith

pub covers_all : (rows : List Row) (first now : List (Option ResolvedField)) → CoversBelow rows first now (length rows)
    → (k : ℕ) → Covers (marks_after Ends k rows) first → Covers (marks_after Ends (suc k) rows) now
covers_all rows first now below k covers i marked = below k covers i (marked_within rows (marks_after Ends k rows) 0 i marked) marked

pub none_marked : (rows : List Row) (fields : List (Option ResolvedField)) → Covers (marks_after Ends 0 rows) fields
none_marked rows fields i h = absurd (false≢true (sym (unmarked rows i) ∙ h)) where
  unmarked : (rows : List Row) (i : ℕ) → is_marked (map (λ row. false) rows) i ≡ false
  unmarked [] i = refl
  unmarked (r ∷ rows) zero = refl
  unmarked (r ∷ rows) (suc i) = unmarked rows i

-- where a round adds nothing, all later ones are covered
pub covers_on : (rows : List Row) (fields : List (Option ResolvedField)) → ((k : ℕ) → Covers (marks_after Ends k rows) fields → Covers (marks_after Ends (suc k) rows) fields)
    → (k : ℕ) → Covers (marks_after Ends k rows) fields
covers_on rows fields next zero = none_marked rows fields
covers_on rows fields next (suc k) = next k (covers_on rows fields next k)

-- ---- a list with one more field

kept_put : (fs : List (Option ResolvedField)) (i j : ℕ) (x : ResolvedField) → i < length fs → is_kept fs j ≡ true → is_kept (slice_set fs i (Some x)) j ≡ true
kept_put [] i j x lt h = absurd (omega arith)
kept_put (f ∷ fs) zero zero x lt h = refl
kept_put (f ∷ fs) zero (suc j) x lt h = h
kept_put (f ∷ fs) (suc i) zero x lt h = h
kept_put (f ∷ fs) (suc i) (suc j) x lt h = kept_put fs i j x (omega arith) h

kept_here : (fs : List (Option ResolvedField)) (i : ℕ) (x : ResolvedField) → i < length fs → is_kept (slice_set fs i (Some x)) i ≡ true
kept_here [] i x lt = absurd (omega arith)
kept_here (f ∷ fs) zero x lt = refl
kept_here (f ∷ fs) (suc i) x lt = kept_here fs i x (omega arith)

in_list : (ps : List Place) (i : ℕ) (p : Place) → i < length ps → p ≡ get_or ps i p → is_in is_same_place p ps ≡ true
in_list [] i p lt is = absurd (omega arith)
in_list (q ∷ ps) zero p lt is = ap (λ b. b || is_in is_same_place p ps) (ap (λ x. is_same_place p x) (sym is) ∙ same_itself p)
in_list (q ∷ ps) (suc i) p lt is = ap (λ b. is_same_place p q || b) (in_list ps i p (omega arith) is) ∙ or_true (is_same_place p q) where
  or_true : (b : Bool) → (b || true) ≡ true
  or_true true = refl
  or_true false = refl

not_due : (k r : Bool) → (not k && r) ≡ false → r ≡ true → k ≡ true
not_due true r h e = refl
not_due false r h e = absurd (false≢true (sym h ∙ e))

due : (k r : Bool) → (not k && r) ≡ true → r ≡ true
due true r h = absurd (false≢true h)
due false r h = h

module _ (schema : Schema) (views : List DeclaredView) (scope : Scope) (columns : ColumnKinds) (u : UnknownColumn) where
  abbrev told_of : Place → Option ResolvedField
  told_of place = field_told schema views scope columns u place

  abbrev Right : Place → Option ResolvedField → Type 0
  Right place field = IsRight schema views scope columns u place field

  abbrev Rights : List Place → List (Option ResolvedField) → Type 0
  Rights places fields = AreRight schema views scope columns u places fields

  pub length_right : (ps : List Place) (fs : List (Option ResolvedField)) → Rights ps fs → length fs ≡ length ps
  length_right [] [] r = refl
  length_right (p ∷ ps) (f ∷ fs) r = ap (λ n. suc n) (length_right ps fs r.1)
  length_right [] (f ∷ fs) r = absurd r
  length_right (p ∷ ps) [] r = absurd r

  pub within_right : (ps : List Place) (fs : List (Option ResolvedField)) (i : ℕ) → Rights ps fs → i < length ps → i < length fs
  within_right ps fs i r lt = omega (arith, length_right ps fs r)

  right_put : (ps : List Place) (fs : List (Option ResolvedField)) (i : ℕ) (p : Place) (x : ResolvedField) → Rights ps fs → i < length ps → p ≡ get_or ps i p → Right p (Some x) → Rights ps (slice_set fs i (Some x))
  right_put [] fs i p x r lt is h = absurd (omega arith)
  right_put (q ∷ ps) [] i p x r lt is h = absurd r
  right_put (q ∷ ps) (f ∷ fs) zero p x r lt is h = (subst (λ t. Right t (Some x)) is h, r.1)
  right_put (q ∷ ps) (f ∷ fs) (suc i) p x r lt is h = (r.0, right_put ps fs i p x r.1 (omega arith) is h)

  -- ---- what is kept at the number of a place

  look : (t : Place) (j : ℕ) (ps : List Place) (fs : List (Option ResolvedField)) → Rights ps fs → (n : ℕ) → position_from (is_same_place t) j ps ≡ Some n → (m : ℕ) × (n ≡ j + m) × Right t (field_numbered fs m)
  look t j [] fs r n e = cc
  look t j (p ∷ ps) [] r n e = absurd r
  look t j (p ∷ ps) (f ∷ fs) r n e =
      elim (is_same_place t p) as (λ b. is_same_place t p ≡ b → cond b (Some j) (position_from (is_same_place t) (j + 1) ps) ≡ Some n → (m : ℕ) × (n ≡ j + m) × Right t (field_numbered (f ∷ fs) m)) [
        | true ↦ λ same h. let is : j ≡ n = cc in (zero, omega arith, subst (λ q. Right q f) (sym (same_exact t p same)) r.0)
        | false ↦ λ _ h. let rest = look t (j + 1) ps fs r.1 n h in let is = rest.1 in (suc rest.0, omega arith, rest.2)
      ] refl e

  look_number : (t : Place) (ps : List Place) (fs : List (Option ResolvedField)) (n : ℕ) → Rights ps fs → number_of ps t ≡ Some n → Right t (field_numbered fs n)
  look_number t ps fs n r e =
      let found = look t 0 ps fs r n (sym (position_from-zero (is_same_place t) ps) ∙ e) in
      let is = found.1 in
      let same : found.0 ≡ n = omega arith in
      subst (λ k. Right t (field_numbered fs k)) same found.2

  ends_from : (t : Place) (x : ResolvedField) → Some x ≡ told_of t → ends views scope t ≡ true
  ends_from t x e = elim (ends views scope t) as (λ b. Some x ≡ (if b then Some (field_kept schema views scope columns u t) else None) → b ≡ true) [ true ↦ λ _. refl | false ↦ λ h. cc ] e

  kept_right : (t : Place) (o : Option ResolvedField) → Right t o → is_some o ≡ true → (o ≡ told_of t) × (ends views scope t ≡ true)
  kept_right t None r h = absurd (false≢true h)
  kept_right t (Some x) r h = (r, ends_from t x r)

  -- all that some names mean is told, and ends
  abbrev FoundTold : List Place → List (Option ResolvedField) → List (Option Found) → Type 0
  FoundTold ps fs [] = Unit {0}
  FoundTold ps fs (None ∷ more) = FoundTold ps fs more
  FoundTold ps fs (Some f ∷ more) = (kept_at ps fs f.place ≡ told_of f.place) × (ends views scope f.place ≡ true) × FoundTold ps fs more

  ready_told : (ps : List Place) (fs : List (Option ResolvedField)) → Rights ps fs → (found : List (Option Found)) → is_ready fs (row_with Ends ps found) ≡ true → FoundTold ps fs found
  ready_told ps fs r [] h = tt
  ready_told ps fs r (None ∷ more) h = ready_told ps fs r more h
  ready_told ps fs r (Some f ∷ more) h =
      elim (number_of ps f.place) as (λ k. number_of ps f.place ≡ k → (not (is_none k || list_any (is_lacking Ends ps) more) && list_all (is_kept fs) (option_list k ++ numbers_in ps more)) ≡ true → FoundTold ps fs (Some f ∷ more)) [
        | None ↦ λ _ h. absurd (false≢true h)
        | Some n ↦ λ e h.
            let lacks = not (list_any (is_lacking Ends ps) more) in
            let rest = list_all (is_kept fs) (numbers_in ps more) in
            let outer = both lacks (is_kept fs n && rest) h in
            let inner = both (is_kept fs n) rest outer.1 in
            let is = kept_right f.place (field_numbered fs n) (look_number f.place ps fs n r e) inner.0 in
            (ap (λ k. option_and_then (field_numbered fs) k) e ∙ is.0, is.1, ready_told ps fs r more (together lacks rest outer.0 inner.1))
      ] refl h

  refs_told : (ps : List Place) (fs : List (Option ResolvedField)) (s : Sort) (part : ℕ) (rs : List Reference) (more : List (Option Found))
      → FoundTold ps fs (flat_map (meant views scope part s) rs ++ more) → AreAllTold schema views scope columns u ps fs (writer.Field part) s rs
  refs_told ps fs s part [] more h = tt
  refs_told ps fs s part (reference.Column name ∷ rs) more h = (tt, refs_told ps fs s part rs more h)
  refs_told ps fs s part (reference.Own name ∷ rs) more h =
      elim (found_in views scope (writer.Field part) None name s) as (λ o. FoundTold ps fs (o ∷ (flat_map (meant views scope part s) rs ++ more)) → IsTold schema views scope columns u ps fs o × AreAllTold schema views scope columns u ps fs (writer.Field part) s rs) [
        | None ↦ λ h. (tt, refs_told ps fs s part rs more h)
        | Some f ↦ λ h. (h.0, refs_told ps fs s part rs more h.2)
      ] h
  refs_told ps fs s part (reference.Of view name ∷ rs) more h =
      elim (found_in views scope (writer.Field part) (Some view) name s) as (λ o. FoundTold ps fs (o ∷ (flat_map (meant views scope part s) rs ++ more)) → IsTold schema views scope columns u ps fs o × AreAllTold schema views scope columns u ps fs (writer.Field part) s rs) [
        | None ↦ λ h. (tt, refs_told ps fs s part rs more h)
        | Some f ↦ λ h. (h.0, refs_told ps fs s part rs more h.2)
      ] h

  code_told : (ps : List Place) (fs : List (Option ResolvedField)) (part : ℕ) (c : Code) (more : List (Option Found))
      → FoundTold ps fs (meant_in views scope part c ++ more) → IsCodeTold schema views scope columns u ps fs (writer.Field part) c
  code_told ps fs part (code.Expr written) more h = refs_told ps fs sort.Dimension part written.references more h
  code_told ps fs part (code.Number written) more h = refs_told ps fs sort.Measure part written.references more h
  code_told ps fs part code.Absent more h = tt
  code_told ps fs part code.Liquid more h = tt
  code_told ps fs part (code.Syntax place) more h = tt

  ends_found : (ps : List Place) (fs : List (Option ResolvedField)) (found : List (Option Found)) → FoundTold ps fs found → list_all (λ t. is_in is_same_place t (ending views scope)) (places_of found) ≡ true
  ends_found ps fs [] h = refl
  ends_found ps fs (None ∷ more) h = ends_found ps fs more h
  ends_found ps fs (Some f ∷ more) h =
      together (ends views scope f.place) (list_all (λ t. is_in is_same_place t (ending views scope)) (places_of more)) h.1 (ends_found ps fs more h.2)

  row_told : (ps : List Place) (fs : List (Option ResolvedField)) (p : Place) (o : Option DeclaredField) → Rights ps fs → is_ready fs (row_by Ends views scope ps p.part o) ≡ true
      → (list_all (λ t. is_in is_same_place t (ending views scope)) (targets_with views scope p.part o) ≡ true) × IsFieldTold schema views scope columns u ps fs p o
  row_told ps fs p None r h = (refl, tt)
  row_told ps fs p (Some field) r h =
      let told = ready_told ps fs r (referred views scope p.part field) h in
      (ends_found ps fs (referred views scope p.part field) told, code_told ps fs p.part field.sql (meant_in views scope p.part field.key) told)

  -- a field that is due ends, and all that it refers to is told
  pub due_told : (ps : List Place) (fs : List (Option ResolvedField)) (i : ℕ) (p : Place) (row : Row) → ps ≡ all_places views scope → Rights ps fs → i < length ps → p ≡ get_or ps i p
      → row ≡ row_at Ends views scope ps p → (not (is_kept fs i) && is_ready fs row) ≡ true
      → (ends views scope p ≡ true) × IsFieldTold schema views scope columns u ps fs p (field_at views scope p)
  due_told ps fs i p row all r lt is at h =
      let ready : is_ready fs (row_at Ends views scope ps p) ≡ true = subst (λ x. is_ready fs x ≡ true) at (due (is_kept fs i) (is_ready fs row) h) in
      let told = row_told ps fs p (field_at views scope p) r ready in
      let there : is_in is_same_place p (all_places views scope) ≡ true = subst (λ xs. is_in is_same_place p xs ≡ true) all (in_list ps i p lt is) in
      (ends_next views scope p there told.0, told.1)

  -- a step that keeps a field, and one that doesn't
  pub step_put : (ps : List Place) (fs new : List (Option ResolvedField)) (i : ℕ) (p : Place) (row : Row) (x : ResolvedField) → Rights ps fs → i < length ps → p ≡ get_or ps i p
      → ends views scope p ≡ true → x ≡ field_kept schema views scope columns u p → new ≡ slice_set fs i (Some x) → IsStep schema views scope columns u ps i row fs new true
  step_put ps fs new i p row x r lt is h kept at =
      let within : i < length fs = omega (arith, length_right ps fs r) in
      let told : Some x ≡ told_of p = ap (λ y. Some y) kept ∙ sym (ap (λ b. if b then Some (field_kept schema views scope columns u p) else None) h) in
      subst (λ fields. IsStep schema views scope columns u ps i row fs fields true) (sym at)
      (record {
        right = right_put ps fs i p x r lt is told;
        stays = λ j there. kept_put fs i j x within there;
        taken = λ _. kept_here fs i x within;
        same = λ e. absurd (false≢true (sym e));
      })

  pub step_not : (ps : List Place) (fs : List (Option ResolvedField)) (i : ℕ) (row : Row) → Rights ps fs → (not (is_kept fs i) && is_ready fs row) ≡ false → IsStep schema views scope columns u ps i row fs fs false
  step_not ps fs i row r h = record {
    right = r;
    stays = λ j there. there;
    taken = not_due (is_kept fs i) (is_ready fs row) h;
    same = λ e. refl;
  }

  -- ---- in the end

  pub none_right : (ps : List Place) (rows : List Row) → length rows ≡ length ps → Rights ps (map (λ row. None) rows)
  none_right [] [] h = tt
  none_right (p ∷ ps) (row ∷ rows) h = (tt, none_right ps rows (omega arith))
  none_right [] (row ∷ rows) h = absurd (omega arith)
  none_right (p ∷ ps) [] h = absurd (omega arith)

  filled : (ps : List Place) (fs : List (Option ResolvedField)) → Rights ps fs → Covers (map (ends views scope) ps) fs → fs ≡ map told_of ps
  filled [] [] r c = refl
  filled [] (f ∷ fs) r c = absurd r
  filled (p ∷ ps) [] r c = absurd r
  filled (p ∷ ps) (f ∷ fs) r c =
      let tail = filled ps fs r.1 (λ i h. c (suc i) h) in
      let head = first f r.0 (c 0) in
      λ i. head i ∷ tail i
    where
      first : (f : Option ResolvedField) → Right p f → (ends views scope p ≡ true → is_some f ≡ true) → f ≡ told_of p
      first (Some x) r c = r
      first None r c = elim (ends views scope p) as (λ b. (b ≡ true → is_some no_field ≡ true) → None ≡ (if b then Some (field_kept schema views scope columns u p) else None)) [
        | true ↦ λ c. absurd (false≢true (c refl))
        | false ↦ λ c. refl
      ] c

  pub all_filled : (ps : List Place) (rows : List Row) (fs : List (Option ResolvedField)) → ps ≡ all_places views scope → rows ≡ map (row_at Ends views scope ps) ps → Rights ps fs → Covers (marks_after Ends (length rows) rows) fs → fs ≡ map told_of ps
  all_filled ps rows fs all is r c =
      let rows_are : rows ≡ map (row_at Ends views scope (all_places views scope)) (all_places views scope) = is ∙ ap (λ xs. map (row_at Ends views scope xs) xs) all in
      let count : length rows ≡ length (all_places views scope) = ap length rows_are ∙ row_count (all_places views scope) (all_places views scope) in
      let marks : marks_after Ends (length rows) rows ≡ map (ends views scope) ps =
      ap (λ n. marks_after Ends n rows) count ∙ ap (marks_after Ends (length (all_places views scope))) rows_are ∙ ending_marks views scope ∙ sym (ap (map (ends views scope)) all) in
      filled ps fs r (subst (λ ms. Covers ms fs) marks c)
    where
      row_count : (all xs : List Place) → length (map (row_at Ends views scope all) xs) ≡ length xs
      row_count all [] = refl
      row_count all (x ∷ xs) = ap (λ n. suc n) (row_count all xs)

  -- ---- the whole table

  look_map : (t : Place) (j : ℕ) (ps : List Place) (n : ℕ) → position_from (is_same_place t) j ps ≡ Some n → (m : ℕ) × (n ≡ j + m) × (field_numbered (map told_of ps) m ≡ told_of t)
  look_map t j [] n e = cc
  look_map t j (p ∷ ps) n e =
      elim (is_same_place t p) as (λ b. is_same_place t p ≡ b → cond b (Some j) (position_from (is_same_place t) (j + 1) ps) ≡ Some n → (m : ℕ) × (n ≡ j + m) × (field_numbered (map told_of (p ∷ ps)) m ≡ told_of t)) [
        | true ↦ λ same h. let is : j ≡ n = cc in (zero, omega arith, ap told_of (sym (same_exact t p same)))
        | false ↦ λ _ h. let rest = look_map t (j + 1) ps n h in let is = rest.1 in (suc rest.0, omega arith, rest.2)
      ] refl e

  -- what is kept of the field at any place is what is told of it
  pub all_kept : (ps : List Place) (fs : List (Option ResolvedField)) → ps ≡ all_places views scope → fs ≡ map told_of ps → (t : Place) → kept_at ps fs t ≡ told_of t
  all_kept ps fs all is t =
      ap (λ xs. kept_at ps xs t) is
      ∙ elim (number_of ps t) as (λ k. number_of ps t ≡ k → option_and_then (field_numbered (map told_of ps)) k ≡ told_of t) [
        | Some n ↦ λ e.
            let found = look_map t 0 ps n (sym (position_from-zero (is_same_place t) ps) ∙ e) in
            let at = found.1 in
            let same : n ≡ found.0 = omega arith in
            ap (λ k. field_numbered (map told_of ps) k) same ∙ found.2
        | None ↦ λ e.
            let absent : is_in is_same_place t (all_places views scope) ≡ false = ap (λ xs. is_in is_same_place t xs) (sym all) ∙ sym (there ps t) ∙ ap is_some e in
            sym (ap (λ b. if b then Some (field_kept schema views scope columns u t) else None) (no_end t absent))
      ] refl
    where
      no_end : (t : Place) → is_in is_same_place t (all_places views scope) ≡ false → ends views scope t ≡ false
      no_end t absent = elim (ends views scope t) as (λ b. ends views scope t ≡ b → b ≡ false) [
        | true ↦ λ h. absurd (false≢true (sym absent ∙ ends_there views scope t h))
        | false ↦ λ h. refl
      ] refl

  told_refs : (ps : List Place) (fs : List (Option ResolvedField)) → ((t : Place) → kept_at ps fs t ≡ told_of t) → (w : Writer) (s : Sort) (rs : List Reference) → AreAllTold schema views scope columns u ps fs w s rs
  told_refs ps fs h w s [] = tt
  told_refs ps fs h w s (r ∷ rs) = (one (field_named views scope w s r), told_refs ps fs h w s rs) where
    one : (o : Option Found) → IsTold schema views scope columns u ps fs o
    one None = tt
    one (Some f) = h f.place

  pub told_code : (ps : List Place) (fs : List (Option ResolvedField)) → ((t : Place) → kept_at ps fs t ≡ told_of t) → (w : Writer) (c : Code) → IsCodeTold schema views scope columns u ps fs w c
  told_code ps fs h w (code.Expr written) = told_refs ps fs h w sort.Dimension written.references
  told_code ps fs h w (code.Number written) = told_refs ps fs h w sort.Measure written.references
  told_code ps fs h w code.Absent = tt
  told_code ps fs h w code.Liquid = tt
  told_code ps fs h w (code.Syntax place) = tt
