-- Rounds of marks over numbers are rounds of the set of lost fields.
use Rattle.std.proofs.Common.{◌≡◌, ◌∙◌, ℕ, zero, suc, ◌+◌, Bool, true, false, ◌&&◌, ◌||◌, List, [], ◌∷◌, ◌++◌, length, map, Option, Some, None, refl, sym, ap, append_assoc, length-append}
use Rattle.std.specs.Prelude.{filter, if◌then◌else◌, nat_eq, not, is_none, is_some}
use Rattle.std.specs.List.{list_all, list_any, position_from}
use Rattle.std.proofs.lemmas.Bool.{eq-eqb, eqb-true, false≢true}
use Rattle.std.proofs.lemmas.Iterator.Adapters.{position_from-zero}
use Rattle.std.proofs.lemmas.List.Folds.{list_any-append}
use Rattle.std.proofs.lemmas.Map.Views.{any-filter_same}
use Rattle.lk_val.specs.Least.{grown_times, is_in, least_set}
use Rattle.lk_objects.specs.declared.field.DeclaredField.{DeclaredField}
use Rattle.lk_objects.specs.declared.view.DeclaredView.{DeclaredView}
use Rattle.lk_fields.specs.declared.scope.Found.{Found}
use Rattle.lk_fields.specs.declared.scope.Place.{Place}
use Rattle.lk_fields.specs.declared.scope.Scope.{Scope}
use Rattle.lk_fields.specs.declared.rows.Row.{Row}
use Rattle.lk_fields.specs.Existing.{all_places, ending, ends_after, field_at, is_lost_after, is_lost_with, is_same_place, loses, lost, named_by, places_of, referred, targets_with}
use Rattle.lk_fields.specs.declared.rows.Rule.{Rule}
use Rattle.lk_fields.specs.declared.rows.Rule.TheVariants as rule
use Rattle.lk_fields.specs.Rows.{is_lacking, is_marked, is_taken, marks_after, marks_from, marks_of, number_of, numbers_in, option_list, row_at, row_by}

-- ---- places

pub same_itself : (x : Place) → is_same_place x x ≡ true
same_itself x = rw (eq-eqb x.part x.part refl, eq-eqb x.field x.field refl) refl

pub both : (a b : Bool) → (a && b) ≡ true → (a ≡ true) × (b ≡ true)
both true b h = (refl, h)
both false b h = absurd (false≢true h)

pub same_exact : (x y : Place) → is_same_place x y ≡ true → x ≡ y
same_exact x y e =
    let parts = both (nat_eq x.part y.part) (nat_eq x.field y.field) e in
    λ i. record { part = eqb-true x.part y.part parts.0 i; field = eqb-true x.field y.field parts.1 i }

-- a place that passes is in what passes, and no other is
pub passing : (p : Place → Bool) (x : Place) (all : List Place) → is_in is_same_place x (filter p all) ≡ (p x && is_in is_same_place x all)
passing p x all = any-filter_same (is_same_place x) p (p x) (λ k t. ap p (sym (same_exact x k t))) all

pub among : (front : List Place) (x : Place) (rest : List Place) → is_in is_same_place x (front ++ x ∷ rest) ≡ true
among [] x rest = rw (same_itself x) refl
among (y ∷ front) x rest = rw (among front x rest) (or_true (is_same_place x y)) where
  or_true : (b : Bool) → (b || true) ≡ true
  or_true true = refl
  or_true false = refl

-- ---- marks

-- the mark of a place behind a front
mark_at : (p : Place → Bool) (front : List Place) (x : Place) (rest : List Place) → is_marked (map p (front ++ x ∷ rest)) (length front) ≡ p x
mark_at p [] x rest = refl
mark_at p (y ∷ front) x rest = mark_at p front x rest

or_false : (b : Bool) → (b || false) ≡ b
or_false true = refl
or_false false = refl

pub and_true : (b : Bool) → (b && true) ≡ b
and_true true = refl
and_true false = refl

-- a place that is not the first
other_first : (p : Place → Bool) (y x : Place) (rest : List Place) → is_same_place y x ≡ false
    → is_in is_same_place y (filter p (x ∷ rest)) ≡ is_in is_same_place y (filter p rest)
other_first p y x rest e =
    elim (p x) as (λ b. is_in is_same_place y (if b then x ∷ filter p rest else filter p rest) ≡ is_in is_same_place y (filter p rest)) [
      | true ↦ ap (λ t. t || is_in is_same_place y (filter p rest)) e
      | false ↦ refl
    ]

-- a place that is the first
this_first : (p : Place → Bool) (y x : Place) (rest : List Place) → is_same_place y x ≡ true
    → is_in is_same_place y (filter p (x ∷ rest)) ≡ p x
this_first p y x rest e =
    passing p y (x ∷ rest) ∙ ap (λ t. p y && (t || is_in is_same_place y rest)) e ∙ and_true (p y) ∙ ap p (same_exact y x e)

one_further : (front : List Place) (x : Place) → length (front ++ x ∷ []) ≡ length front + 1
one_further front x = length-append front (x ∷ [])

-- the mark at the number of a place says whether the place passes, and is there
numbered : (p : Place → Bool) (y : Place) (front rest : List Place)
    → list_any (is_marked (map p (front ++ rest))) (option_list (position_from (is_same_place y) (length front) rest))
    ≡ is_in is_same_place y (filter p rest)
numbered p y front [] = refl
numbered p y front (x ∷ rest) =
    elim (is_same_place y x) as (λ b. is_same_place y x ≡ b
    → list_any (is_marked (map p (front ++ x ∷ rest))) (option_list (if b then Some (length front) else position_from (is_same_place y) (length front + 1) rest))
    ≡ is_in is_same_place y (filter p (x ∷ rest))) [
      | true ↦ λ e. or_false (is_marked (map p (front ++ x ∷ rest)) (length front)) ∙ mark_at p front x rest ∙ sym (this_first p y x rest e)
      | false ↦ λ e.
          ap (λ n. list_any (is_marked (map p (front ++ x ∷ rest))) (option_list (position_from (is_same_place y) n rest))) (sym (one_further front x))
          ∙ ap (λ all. list_any (is_marked (map p all)) (option_list (position_from (is_same_place y) (length (front ++ x ∷ [])) rest))) (sym (append_assoc front (x ∷ []) rest))
          ∙ numbered p y (front ++ x ∷ []) rest ∙ sym (other_first p y x rest e)
    ] refl

pub named : (p : Place → Bool) (all : List Place) (y : Place)
    → list_any (is_marked (map p all)) (option_list (number_of all y)) ≡ is_in is_same_place y (filter p all)
named p all y =
    ap (λ n. list_any (is_marked (map p all)) (option_list n)) (position_from-zero (is_same_place y) all) ∙ numbered p y [] all

-- a place is among all where it has a number
there_from : (y : Place) (k : ℕ) (rest : List Place) → is_some (position_from (is_same_place y) k rest) ≡ is_in is_same_place y rest
there_from y k [] = refl
there_from y k (x ∷ rest) =
    elim (is_same_place y x) as (λ b. is_some (if b then Some k else position_from (is_same_place y) (k + 1) rest) ≡ (b || is_in is_same_place y rest)) [
      | true ↦ refl
      | false ↦ there_from y (k + 1) rest
    ]

pub there : (all : List Place) (y : Place) → is_some (number_of all y) ≡ is_in is_same_place y all
there all y = ap is_some (position_from-zero (is_same_place y) all) ∙ there_from y 0 all

-- ---- rows

swapped : (a b c d : Bool) → (b || c) ≡ d → (b || (a || c)) ≡ (a || d)
swapped true true c d e = refl
swapped true false c d e = refl
swapped false b c d e = e

lost_names : (p : Place → Bool) (all : List Place) (names : List (Option Found))
    → (list_any (is_lacking rule.Loses all) names || list_any (is_marked (map p all)) (numbers_in all names)) ≡ list_any (is_lost_with (filter p all)) names
lost_names p all [] = refl
lost_names p all (None ∷ names) = refl
lost_names p all (Some f ∷ names) =
    let one = option_list (number_of all f.place) in
    ap (λ t. list_any (is_lacking rule.Loses all) names || t) (list_any-append (is_marked (map p all)) one (numbers_in all names))
    ∙ swapped (list_any (is_marked (map p all)) one) (list_any (is_lacking rule.Loses all) names) (list_any (is_marked (map p all)) (numbers_in all names)) (list_any (is_lost_with (filter p all)) names) (lost_names p all names)
    ∙ ap (λ t. t || list_any (is_lost_with (filter p all)) names) (named p all f.place)

inner : (l a n r : Bool) → (not l && n) ≡ r → (not l && (a && n)) ≡ (a && r)
inner l true n r e = e
inner true false n r e = refl
inner false false n r e = refl

-- a target more: it is not there, or its mark counts
one_target : (p : Place → Bool) (all : List Place) (there : Option ℕ) (l r is : Bool) (numbers : List ℕ)
    → list_any (is_marked (map p all)) (option_list there) ≡ is → (not l && list_all (is_marked (map p all)) numbers) ≡ r
    → (not (is_none there || l) && list_all (is_marked (map p all)) (option_list there ++ numbers)) ≡ (is && r)
one_target p all None l r is numbers here e = ap (λ t. t && r) here
one_target p all (Some n) l r is numbers here e =
    inner l (is_marked (map p all) n) (list_all (is_marked (map p all)) numbers) r e
    ∙ ap (λ t. t && r) (sym (or_false (is_marked (map p all) n)) ∙ here)

ended_names : (p : Place → Bool) (all : List Place) (names : List (Option Found))
    → (not (list_any (is_lacking rule.Ends all) names) && list_all (is_marked (map p all)) (numbers_in all names))
    ≡ list_all (λ target. is_in is_same_place target (filter p all)) (places_of names)
ended_names p all [] = refl
ended_names p all (None ∷ names) = ended_names p all names
ended_names p all (Some f ∷ names) =
    one_target p all (number_of all f.place) (list_any (is_lacking rule.Ends all) names)
    (list_all (λ target. is_in is_same_place target (filter p all)) (places_of names))
    (is_in is_same_place f.place (filter p all)) (numbers_in all names) (named p all f.place) (ended_names p all names)

module _ (views : List DeclaredView) (scope : Scope) where
  -- what a set adds by a rule
  abbrev pub added : Rule → List Place → Place → Bool
  added rule.Loses set place = is_lost_after views scope set place
  added rule.Ends set place = ends_after views scope set place

  abbrev added_by : Rule → List Place → Place → Option DeclaredField → Bool
  added_by rule.Loses set place field = loses views scope set place field
  added_by rule.Ends set place field = list_all (λ target. is_in is_same_place target set) (targets_with views scope place.part field)

  taken_by : (r : Rule) (p : Place → Bool) (all : List Place) (place : Place) (field : Option DeclaredField)
      → is_taken r (map p all) (row_by r views scope all place.part field) ≡ added_by r (filter p all) place field
  taken_by rule.Loses p all place None = refl
  taken_by rule.Loses p all place (Some field) = lost_names p all (named_by views scope place.part field)
  taken_by rule.Ends p all place None = refl
  taken_by rule.Ends p all place (Some field) = ended_names p all (referred views scope place.part field)

  taken : (r : Rule) (p : Place → Bool) (all : List Place) (place : Place)
      → is_taken r (map p all) (row_at r views scope all place) ≡ added r (filter p all) place
  taken rule.Loses p all place = taken_by rule.Loses p all place (field_at views scope place)
  taken rule.Ends p all place = taken_by rule.Ends p all place (field_at views scope place)

  -- a round over places, behind a front
  round_marks : (r : Rule) (p : Place → Bool) (all front rest : List Place) → all ≡ front ++ rest
      → marks_from r (map p all) (length front) (map (row_at r views scope all) rest)
      ≡ map (λ x. is_in is_same_place x (filter p all) || added r (filter p all) x) rest
  round_marks r p all front [] e = refl
  round_marks r p all front (x ∷ rest) e =
      let marked : is_marked (map p all) (length front) ≡ p x = ap (λ xs. is_marked (map p xs) (length front)) e ∙ mark_at p front x rest in
      let there : is_in is_same_place x all ≡ true = ap (λ xs. is_in is_same_place x xs) e ∙ among front x rest in
      let kept : p x ≡ is_in is_same_place x (filter p all) = sym (passing p x all ∙ ap (λ t. p x && t) there ∙ and_true (p x)) in
      let head = ap (λ t. t || is_taken r (map p all) (row_at r views scope all x)) (marked ∙ kept)
      ∙ ap (λ t. is_in is_same_place x (filter p all) || t) (taken r p all x) in
      let further : all ≡ (front ++ x ∷ []) ++ rest = e ∙ sym (append_assoc front (x ∷ []) rest) in
      let tail = ap (λ n. marks_from r (map p all) n (map (row_at r views scope all) rest)) (sym (one_further front x))
      ∙ round_marks r p all (front ++ x ∷ []) rest further in
      λ i. head i ∷ tail i

  -- ---- rounds

  none_kept : (xs : List Place) → filter (λ x. false) xs ≡ []
  none_kept [] = refl
  none_kept (x ∷ xs) = none_kept xs

  module _ (r : Rule) where
    abbrev all : List Place
    all = all_places views scope

    abbrev rows : List Row
    rows = map (row_at r views scope all) all

    abbrev round : ℕ → List Place
    round n = grown_times is_same_place all (added r) n

    abbrev pub passes : ℕ → Place → Bool
    passes zero x = false
    passes (suc n) x = is_in is_same_place x (round n) || added r (round n) x

    pub as_filter : (n : ℕ) → round n ≡ filter (passes n) all
    as_filter zero = sym (none_kept all)
    as_filter (suc n) = refl

    none_marked : (xs : List Place) → map (λ row. false) (map (row_at r views scope all) xs) ≡ map (λ x. false) xs
    none_marked [] = refl
    none_marked (x ∷ xs) = ap (λ t. false ∷ t) (none_marked xs)

    pub marks_are : (n : ℕ) → marks_after r n rows ≡ map (passes n) all
    marks_are zero = none_marked all
    marks_are (suc n) =
        ap (λ marks. marks_from r marks 0 rows) (marks_are n)
        ∙ round_marks r (passes n) all [] all refl
        ∙ ap (λ set. map (λ x. is_in is_same_place x set || added r set x) all) (sym (as_filter n))

    row_count : (xs : List Place) → length (map (row_at r views scope all) xs) ≡ length xs
    row_count [] = refl
    row_count (x ∷ xs) = ap (λ n. suc n) (row_count xs)

    -- after as many rounds as there are fields, the mark at the number of a place says whether it is in the least set
    pub set_marked : (place : Place) → list_any (is_marked (marks_of r views scope)) (option_list (number_of all place))
        ≡ is_in is_same_place place (least_set is_same_place all (added r))
    set_marked place =
        ap (λ n. list_any (is_marked (marks_after r n rows)) (option_list (number_of all place))) (row_count all)
        ∙ ap (λ marks. list_any (is_marked marks) (option_list (number_of all place))) (marks_are (length all))
        ∙ named (passes (length all)) all place
        ∙ ap (λ set. is_in is_same_place place set) (sym (as_filter (length all)))

  pub lost_marked : (place : Place) → list_any (is_marked (marks_of rule.Loses views scope)) (option_list (number_of (all_places views scope) place))
      ≡ is_in is_same_place place (lost views scope)
  lost_marked = set_marked rule.Loses

  pub ending_marked : (place : Place) → list_any (is_marked (marks_of rule.Ends views scope)) (option_list (number_of (all_places views scope) place))
      ≡ is_in is_same_place place (ending views scope)
  ending_marked = set_marked rule.Ends
