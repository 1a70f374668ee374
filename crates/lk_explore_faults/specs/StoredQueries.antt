-- The faults of filters outside fields, and of what stored queries name. (Looker, LookML reference: aggregate_table, derived_table, filters; lookd)
use Rattle.std.specs.Prelude.{ℕ, Bool, true, not, ◌&&◌, List, [], ◌∷◌, Option, Some, None, is_none, slice_get}
use Rattle.std.specs.List.{flat_map, list_any}
use Rattle.lk_val.specs.Texts.{is_same_text}
use Rattle.lk_objects.specs.declared.datagroup.DeclaredDatagroup.{DeclaredDatagroup}
use Rattle.lk_objects.specs.declared.filter_text.FilterText.{FilterText}
use Rattle.lk_objects.specs.declared.view.DeclaredView.{DeclaredView}
use Rattle.lk_objects.specs.declared.view.Entry.{Entry}
use Rattle.lk_objects.specs.declared.view.Entry.TheVariants as entry
use Rattle.lk_params.specs.declared.finding.Finding.{Finding}
use Rattle.lk_params.specs.declared.number.Order.TheVariants as order
use Rattle.lk_params.specs.declared.number.Number.TheVariants.{N3, N6, N13, F1}
use Rattle.lk_params.specs.Findings.{finding, named_line, placed_line}
use Rattle.lk_params.specs.Known.{if_so}
use Rattle.lk_fields.specs.declared.scope.Found.{Found}
use Rattle.lk_fields.specs.declared.scope.Scope.{Scope}
use Rattle.lk_scope.specs.ExploreNames.{dimension_named, full_name_of, measure_named}
use Rattle.lk_scope.specs.Readings.{is_relative, place_in, reading_of}
use Rattle.lk_explore_faults.specs.RelativeDates.{relative_of}

-- ---- faults at a parameter of an object

-- a name that means nothing of the sort that its place needs
abbrev pub nameless : List ℕ → List ℕ → List ℕ → Finding
nameless object at name = finding order.Object N3 at (named_line N3 object name)

-- a relative date in a filter on a field
abbrev pub relative_finding : List ℕ → List ℕ → List ℕ → Finding
relative_finding object at field = finding order.Object N13 at (named_line N13 object field)

-- a relative date, if there is one
abbrev pub relative_findings : List ℕ → List ℕ → Option (List ℕ) → List Finding
relative_findings object at None = []
relative_findings object at (Some field) = relative_finding object at field ∷ []

-- there is a datagroup of this name
abbrev pub is_datagroup : List DeclaredDatagroup → List ℕ → Bool
is_datagroup datagroups name = list_any (λ g. is_same_text g.name name) datagroups

-- a datagroup that nobody declares
abbrev pub datagroup_findings : List DeclaredDatagroup → List ℕ → List ℕ → Option (List ℕ) → List Finding
datagroup_findings datagroups object at None = []
datagroup_findings datagroups object at (Some name) =
    if_so (not (is_datagroup datagroups name)) (finding order.Object N6 at (named_line N6 object name))

-- of a filter on a field of this full name, given the place of the fault in its text: that fault, or in a stored query a
-- relative date
abbrev pub read_findings : List ℕ → List ℕ → Bool → List ℕ → Option ℕ → List Finding
read_findings object at is_wrong field (Some place) = finding order.Object F1 at (placed_line F1 place field) ∷ []
read_findings object at is_wrong field None = if_so is_wrong (relative_finding object at field)

module _ (views : List DeclaredView) (scope : Scope) where
  -- ---- filters

  -- a filter, and the dimension that its name means
  abbrev pub filter_findings_at : List ℕ → List ℕ → Bool → FilterText → Option Found → List Finding
  filter_findings_at object at is_stored f None = nameless object at f.name ∷ []
  filter_findings_at object at is_stored f (Some found) =
      read_findings object at (is_stored && is_relative (reading_of views scope f found)) (full_name_of scope found f.name) (place_in (reading_of views scope f found))

  -- a filter outside fields: a name of no dimension, a text that is no filter of the field's kind, and in a stored query a
  -- relative date
  abbrev pub filter_findings : List ℕ → List ℕ → Bool → FilterText → List Finding
  filter_findings object at is_stored f = filter_findings_at object at is_stored f (dimension_named views scope f.name)

  -- ---- what a stored query names

  -- a name, and the measure that it means: no measure, or the relative date of one
  abbrev pub measure_findings : List ℕ → List ℕ → List ℕ → Option Found → List Finding
  measure_findings object at name None = nameless object at name ∷ []
  measure_findings object at name (Some found) = relative_findings object at (relative_of views scope found.place)

  -- a name, and the dimension that it means; without one it has to mean a measure
  abbrev pub column_findings : List ℕ → List ℕ → List ℕ → Option Found → List Finding
  column_findings object at name None = measure_findings object at name (measure_named views scope name)
  column_findings object at name (Some found) = []

  abbrev pub filter_findings_of : List ℕ → List ℕ → Option FilterText → List Finding
  filter_findings_of object at None = []
  filter_findings_of object at (Some f) = filter_findings object at true f

  abbrev pub entry_findings : List ℕ → List ℕ → List FilterText → Entry → List Finding
  entry_findings object at filters (entry.Dimension name) = if_so (is_none (dimension_named views scope name)) (nameless object at name)
  entry_findings object at filters (entry.Measure name) = measure_findings object at name (measure_named views scope name)
  entry_findings object at filters (entry.Column name) = column_findings object at name (dimension_named views scope name)
  entry_findings object at filters (entry.Filter number) = filter_findings_of object at (slice_get filters number)

  -- what a stored query names, one entry after the other
  unfoldable pub query_findings : List ℕ → List ℕ → List FilterText → List Entry → List Finding
  query_findings object at filters entries = flat_map (entry_findings object at filters) entries
