-- How many nodes the expression of a measure of type number has, with those of other such measures put in. (Looker, LookML reference: measure types, number; lookd)
use Rattle.std.specs.Prelude.{ℕ, zero, suc, ◌+◌, ◌-◌, ◌^◌, if◌then◌else◌, min, List, map, length, Option, Some, None, slice_index_or}
use Rattle.lk_types.specs.Calculation.{Calculation, OfMeasure, Number, Apply, Negate, Coalesce, NullIf, Calculations, no_more, more}
use Rattle.lk_objects.specs.declared.code.Code.{Code}
use Rattle.lk_objects.specs.declared.code.Code.TheVariants as code
use Rattle.lk_objects.specs.declared.code.Reference.{Reference}
use Rattle.lk_objects.specs.declared.field.DeclaredField.{DeclaredField}
use Rattle.lk_objects.specs.declared.view.DeclaredView.{DeclaredView}
use Rattle.lk_fields.specs.declared.scope.Found.{Found}
use Rattle.lk_fields.specs.declared.scope.Place.{Place}
use Rattle.lk_fields.specs.declared.scope.Scope.{Scope}
use Rattle.lk_fields.specs.declared.scope.Sort.TheVariants as sort
use Rattle.lk_fields.specs.declared.scope.Writer.TheVariants as writer
use Rattle.lk_fields.specs.Existing.{all_places, field_at}
use Rattle.lk_formulas.specs.Formulas.{ends, field_named}

abbrev mutual
  -- the nodes of an expression over measures: one for each operator, function and number, and for each measure as many as
  -- stand for it
  pub nodes_by : (ℕ → ℕ) → Calculation → ℕ
  nodes_by leaf (OfMeasure i) = leaf i
  nodes_by leaf (Number n) = 1
  nodes_by leaf (Apply o a b) = 1 + nodes_by leaf a + nodes_by leaf b
  nodes_by leaf (Negate a) = 1 + nodes_by leaf a
  nodes_by leaf (Coalesce xs) = 1 + nodes_of_all_by leaf xs
  nodes_by leaf (NullIf a b) = 1 + nodes_by leaf a + nodes_by leaf b

  pub nodes_of_all_by : (ℕ → ℕ) → Calculations → ℕ
  nodes_of_all_by leaf no_more = 0
  nodes_of_all_by leaf (more a xs) = nodes_by leaf a + nodes_of_all_by leaf xs

-- a number of nodes as it is told in 64 bits, where the greatest stands for so many and more
abbrev pub told : ℕ → ℕ
told n = min n (2 ^ 64 - 1)

-- what stands for the measure of a number, and one past the end
abbrev pub nodes_at : List ℕ → ℕ → ℕ
nodes_at counts i = slice_index_or counts i 1

module _ (views : List DeclaredView) (scope : Scope) where
  -- the nodes of a measure that is named, given those of measures
  abbrev pub nodes_through : (Place → ℕ) → Option Found → ℕ
  nodes_through further None = 1
  nodes_through further (Some found) = further found.place

  -- the nodes that stand for a reference in the text of a measure of a part
  abbrev pub nodes_meant : (Place → ℕ) → ℕ → Reference → ℕ
  nodes_meant further part r = nodes_through further (field_named views scope (writer.Field part) sort.Measure r)

  -- any other code than that of a measure of type number is one node
  abbrev pub nodes_of_code : (Place → ℕ) → ℕ → Code → ℕ
  nodes_of_code further part (code.Number written) = nodes_by (nodes_at (map (nodes_meant further part) written.references)) written.expr
  nodes_of_code further part c = 1

  abbrev pub nodes_of_field : (Place → ℕ) → ℕ → Option DeclaredField → ℕ
  nodes_of_field further part None = 1
  nodes_of_field further part (Some field) = nodes_of_code further part field.sql

  abbrev pub number_nodes_within : ℕ → Place → ℕ
  number_nodes_within zero place = 1
  number_nodes_within (suc n) place =
      if ends views scope place then nodes_of_field (number_nodes_within n) place.part (field_at views scope place) else 1

  -- the nodes of a measure of type number; one of any other field, and of one that reaches a cycle
  abbrev pub number_nodes : Place → ℕ
  number_nodes place = number_nodes_within (length (all_places views scope)) place
