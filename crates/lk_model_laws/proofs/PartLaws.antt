-- The parts of an explore: each has a view, whose rows are there.
use Rattle.std.proofs.Common.{◌≡◌, ◌∙◌, ◌<◌, ℕ, zero, suc, ◌+◌, false, List, [], ◌++◌, length, refl, ap, sym, subst, Option, Some, None, arith}
use Rattle.std.specs.Prelude.{codes, is_none, slice_get}
use Rattle.std.specs.List.{AllByRecursion}
use Rattle.std.specs.Option.{option_and_then, option_map}
use Rattle.std.proofs.lemmas.Bool.{false≢true}
use Rattle.lk_types.specs.declared.schema.Schema.{Schema}
use Rattle.lk_objects.specs.declared.explore.DeclaredExplore.{DeclaredExplore}
use Rattle.lk_objects.specs.declared.explore.DeclaredJoin.{DeclaredJoin}
use Rattle.lk_objects.specs.declared.view.DeclaredView.{DeclaredView}
use Rattle.lk_objects.specs.declared.view.Rows.{Rows}
use Rattle.lk_objects.specs.declared.view.Rows.TheVariants as rows
use Rattle.lk_fields.specs.declared.scope.Scope.{Scope}
use Rattle.lk_fields.specs.declared.scope.ScopePart.{ScopePart}
use Rattle.lk_fields.specs.Scopes.{view_at}
use Rattle.lk_scope.specs.Pieces.{line_with}
use Rattle.lk_scope.specs.Scopes.{part_of_join, scope_of}
use Rattle.lk_explore_faults.specs.ExploreTexts.{text_findings}
use Rattle.lk_explore_faults.specs.JoinFaults.{join_findings, join_line, joins_findings, key_findings, own_findings, view_findings}
use Rattle.lk_model_laws.proofs.ListLaws.{all_at, each_at, got_map}
use Rattle.lk_model_laws.proofs.PieceLaws.{EachFrom, nil_left, none_lined, not_so, some_none}

-- ---- rows that are there

-- a table of the schema, or a derived one
abbrev pub AreKnownRows : Schema → Rows → Type 0
AreKnownRows schema (rows.Stored None) = ⊥
AreKnownRows schema (rows.Stored (Some table)) = table < length schema.tables
AreKnownRows schema (rows.Derived derived) = Unit {0}

-- the part has a view, whose rows are there
pub record IsKnownPart (schema : Schema) (views : List DeclaredView) (part : ScopePart) : Type 0 where
  pub number : ℕ
  pub view : DeclaredView
  pub named : part.view ≡ Some number
  pub at : slice_get views number ≡ Some view
  pub rows_are : AreKnownRows schema view.rows

-- ---- a part that has a view

-- there is a name
abbrev pub IsGiven : Option (List ℕ) → Type 0
IsGiven o = (name : List ℕ) × (o ≡ Some name)

some_given : {A : Type 0} (o : Option A) → is_none o ≡ false → (x : A) × (o ≡ Some x)
some_given None h = absurd (false≢true (sym h))
some_given (Some x) h = (x, refl)

number_given : (views : List DeclaredView) (o : Option ℕ) (view : DeclaredView) → option_and_then (slice_get views) o ≡ Some view → (n : ℕ) × (o ≡ Some n) × (slice_get views n ≡ Some view)
number_given views None view h = absurd (some_none (sym h))
number_given views (Some n) view h = (n, refl, h)

module _ (schema : Schema) (views : List DeclaredView) (known : AllByRecursion (λ view. AreKnownRows schema view.rows) views) where
  seen : (scope : Scope) (k : ℕ) (part : ScopePart) → slice_get scope.parts k ≡ Some part → is_none (view_at views scope k) ≡ false → IsKnownPart schema views part
  seen scope k part at h =
      let found = some_given (view_at views scope k) h in
      let here = number_given views part.view found.0 (sym (ap (option_and_then (λ p. option_and_then (slice_get views) p.view)) at) ∙ found.1) in
      record {
        number = here.0;
        view = found.0;
        named = here.1;
        at = here.2;
        rows_are = all_at (λ view. AreKnownRows schema view.rows) views known here.0 found.0 here.2;
      }

  named_view : (scope : Scope) (object : List ℕ) (k : ℕ) (o : Option (List ℕ)) → IsGiven o → view_findings views scope object k o ≡ [] → is_none (view_at views scope k) ≡ false
  named_view scope object k None given h = absurd (some_none (sym given.1))
  named_view scope object k (Some name) given h = not_so (is_none (view_at views scope k)) _ h

  join_seen : (scope : Scope) (joins : List DeclaredJoin) (k : ℕ) (join : DeclaredJoin) → IsGiven join.view → join_line schema views scope joins k join ≡ None → is_none (view_at views scope k) ≡ false
  join_seen scope joins k join given h =
      named_view scope join.name k join.view given
      (nil_left (view_findings views scope join.name k join.view) (joins_findings joins join.name (codes "required_joins") join.required)
      (nil_left (view_findings views scope join.name k join.view ++ joins_findings joins join.name (codes "required_joins") join.required) (text_findings schema views scope join.name (codes "sql_on") join.on)
      (nil_left (view_findings views scope join.name k join.view ++ joins_findings joins join.name (codes "required_joins") join.required ++ text_findings schema views scope join.name (codes "sql_on") join.on)
      (key_findings views scope (codes "foreign_key") k join join.foreign_key)
      (none_lined join.first (join_findings schema views scope joins k join) h).1)))

  -- each part of an explore's scope
  pub parts_known : (x : DeclaredExplore) → IsGiven x.base → AllByRecursion (λ join. IsGiven join.view) x.joins
      → line_with x.first (own_findings views (scope_of views x) x) ≡ None → EachFrom (λ n join. join_line schema views (scope_of views x) x.joins n join ≡ None) 1 x.joins
      → (k : ℕ) (part : ScopePart) → slice_get (scope_of views x).parts k ≡ Some part → IsKnownPart schema views part
  parts_known x base given own joins zero part at =
      seen (scope_of views x) zero part at
      (named_view (scope_of views x) x.name zero x.base base
      (nil_left (view_findings views (scope_of views x) x.name zero x.base) _ (none_lined x.first (own_findings views (scope_of views x) x) own).1))
  parts_known x base given own joins (suc k) part at = of_join (slice_get x.joins k) refl
    where
      of_join : (o : Option DeclaredJoin) → slice_get x.joins k ≡ o → IsKnownPart schema views part
      of_join None is = absurd (some_none (sym (sym (ap (option_map (part_of_join views)) is) ∙ sym (got_map (part_of_join views) x.joins k) ∙ at)))
      of_join (Some join) is =
          let number : 1 + k ≡ suc k = omega arith in
          seen (scope_of views x) (suc k) part at
          (join_seen (scope_of views x) x.joins (suc k) join (all_at (λ j. IsGiven j.view) x.joins given k join is)
          (subst (λ n. join_line schema views (scope_of views x) x.joins n join ≡ None) number (each_at (λ n j. join_line schema views (scope_of views x) x.joins n j ≡ None) 1 x.joins joins k join is)))
