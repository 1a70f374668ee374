-- The faults of an explore's own names and of its joins. (Looker, LookML reference: explore, join; lookd)
use Rattle.std.specs.Prelude.{ℕ, Bool, true, false, not, ◌&&◌, List, [], ◌++◌, Option, Some, None, is_none, codes, if◌then◌else◌}
use Rattle.std.specs.List.{flat_map, list_any}
use Rattle.lk_val.specs.Texts.{is_same_text}
use Rattle.lk_val.specs.declared.fault.FaultLine.{FaultLine}
use Rattle.lk_types.specs.declared.schema.Schema.{Schema}
use Rattle.lk_types.specs.declared.explore.JoinKind.{JoinKind}
use Rattle.lk_types.specs.declared.explore.JoinKind.TheVariants as join_kind
use Rattle.lk_objects.specs.declared.explore.DeclaredExplore.{DeclaredExplore}
use Rattle.lk_objects.specs.declared.explore.DeclaredJoin.{DeclaredJoin}
use Rattle.lk_objects.specs.declared.view.DeclaredView.{DeclaredView}
use Rattle.lk_params.specs.declared.finding.Finding.{Finding}
use Rattle.lk_params.specs.declared.number.Order.TheVariants as order
use Rattle.lk_params.specs.declared.number.Number.TheVariants.{N1, N2, N3, N8}
use Rattle.lk_params.specs.Findings.{finding, named_line}
use Rattle.lk_params.specs.Known.{if_so}
use Rattle.lk_fields.specs.declared.scope.Scope.{Scope}
use Rattle.lk_fields.specs.Scopes.{view_at}
use Rattle.lk_scope.specs.ExploreNames.{dimension_named}
use Rattle.lk_scope.specs.Keys.{key_of}
use Rattle.lk_scope.specs.Pieces.{line_with}
use Rattle.lk_explore_faults.specs.ExploreTexts.{text_findings}

-- ---- names of joins and of views

-- the explore has a join of this name
abbrev pub has_join : List DeclaredJoin → List ℕ → Bool
has_join joins name = list_any (λ join. is_same_text join.name name) joins

-- a name of no join, at a parameter of the explore or of a join
abbrev pub join_finding : List DeclaredJoin → List ℕ → List ℕ → List ℕ → List Finding
join_finding joins object at name = if_so (not (has_join joins name)) (finding order.Object N2 at (named_line N2 object name))

abbrev pub joins_findings : List DeclaredJoin → List ℕ → List ℕ → List (List ℕ) → List Finding
joins_findings joins object at names = flat_map (join_finding joins object at) names

abbrev pub is_cross : JoinKind → Bool
is_cross join_kind.Cross = true
is_cross k = false

module _ (views : List DeclaredView) (scope : Scope) where
  -- the part of an explore or a join that brings a view of this name has none
  abbrev pub view_findings : List ℕ → ℕ → Option (List ℕ) → List Finding
  view_findings object part None = []
  view_findings object part (Some name) =
      if_so (is_none (view_at views scope part)) (finding order.Object N2 (codes "from") (named_line N2 object name))

  -- an explore's own names: its base view, and the joins of `always_join`
  abbrev pub own_findings : DeclaredExplore → List Finding
  own_findings x = view_findings x.name 0 x.base ++ joins_findings x.joins x.name (codes "always_join") x.always_join

  -- ---- `foreign_key`

  -- the part has a view, and that no primary key in the explore
  abbrev pub lacks_key : ℕ → Bool
  lacks_key part = not (is_none (view_at views scope part)) && is_none (key_of views scope part)

  -- a name of no dimension; a join, but a cross, with a view without a primary key
  abbrev pub key_findings : List ℕ → ℕ → DeclaredJoin → Option (List ℕ) → List Finding
  key_findings at part join None = []
  key_findings at part join (Some name) =
      if_so (is_none (dimension_named views scope name)) (finding order.Object N3 at (named_line N3 join.name name))
      ++ if_so (not (is_cross join.kind) && lacks_key part) (finding order.Object N8 at (named_line N8 join.name []))

-- ---- joins, by the numbers of their parts

module _ (schema : Schema) (views : List DeclaredView) (scope : Scope) where
  -- what is found in a join beside the faults of its own parameters, given the parameters' names: an unknown view, unknown
  -- joins, and names in its condition
  abbrev pub findings_at : List ℕ → List ℕ → List ℕ → List DeclaredJoin → ℕ → DeclaredJoin → List Finding
  findings_at required on key joins part join =
      view_findings views scope join.name part join.view
      ++ joins_findings joins join.name required join.required
      ++ text_findings schema views scope join.name on join.on
      ++ key_findings views scope key part join join.foreign_key

  abbrev pub join_findings : List DeclaredJoin → ℕ → DeclaredJoin → List Finding
  join_findings joins part join = findings_at (codes "required_joins") (codes "sql_on") (codes "foreign_key") joins part join

  abbrev pub join_line : List DeclaredJoin → ℕ → DeclaredJoin → Option FaultLine
  join_line joins part join = line_with join.first (join_findings joins part join)

-- a join with the name of its explore
abbrev pub twin_line : DeclaredExplore → Option FaultLine
twin_line x = if has_join x.joins x.name then Some (named_line N1 x.name x.name) else None
