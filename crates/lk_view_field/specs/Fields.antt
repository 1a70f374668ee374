-- What a declaration of a field says. (Looker, LookML reference: dimension, dimension_group, measure)
use Rattle.std.specs.Prelude.{◌≡◌, ℕ, ℤ, Bool, true, false, List, [], ◌++◌, Option, Some, None, codes}
use Rattle.std.specs.Option.{option_or}
use Rattle.lk_read.specs.declared.tree.Item.{Item}
use Rattle.lk_types.specs.declared.schema.Frame.{Frame}
use Rattle.lk_types.specs.declared.explore.Op.TheVariants as op
use Rattle.lk_objects.specs.declared.field.DeclaredField.{DeclaredField}
use Rattle.lk_objects.specs.declared.field.FieldSort.{FieldSort}
use Rattle.lk_objects.specs.declared.field.FieldSort.TheVariants as sort
use Rattle.lk_params.specs.Parameters.{last_named}
use Rattle.lk_params.specs.Findings.{soonest}
use Rattle.lk_written.specs.Codes.{IsCode}
use Rattle.lk_written.specs.ReadFilters.{AreFilters}
use Rattle.lk_written.specs.Values.{text_at, code_at, is_yes, filters_at}
use Rattle.lk_view_field.specs.FieldValues.{sort_of, frames_of, tiers_of}
use Rattle.lk_view_field.specs.FieldFindings.{own_findings}

-- the name `view.field`
abbrev pub full_name : List ℕ → List ℕ → List ℕ
full_name view name = view ++ codes "." ++ name

-- the grammar of a field's `sql`: a measure of type number is over measures
abbrev pub is_over_measures : FieldSort → Bool
is_over_measures (sort.Measure (Some op.Number)) = true
is_over_measures s = false

-- the text of a field's `sql`; a dimension without one is the column of its name
abbrev pub sql_text : FieldSort → List ℕ → List Item → Option (List ℕ)
sql_text (sort.Dimension t) name items = option_or (code_at (codes "sql") items) (Some (codes "${TABLE}." ++ name))
sql_text s name items = code_at (codes "sql") items

-- the text of a measure's `sql_distinct_key`
abbrev pub key_text : FieldSort → List Item → Option (List ℕ)
key_text (sort.Measure o) items = code_at (codes "sql_distinct_key") items
key_text s items = None

-- a measure's filters
abbrev pub filters_of : FieldSort → List Item → List (List ℕ × List ℕ)
filters_of (sort.Measure o) items = filters_at items
filters_of s items = []

-- a dimension group's timeframes
abbrev pub frames_with : FieldSort → List Item → List Frame
frames_with sort.Group items = frames_of (last_named (codes "timeframes") items)
frames_with s items = []

-- the bounds of a dimension's tiers
abbrev pub tiers_with : FieldSort → List Item → List ℤ
tiers_with (sort.Dimension t) items = tiers_of (last_named (codes "tiers") items)
tiers_with s items = []

-- a dimension that is marked as the view's primary key
abbrev pub is_key_with : FieldSort → List Item → Bool
is_key_with (sort.Dimension t) items = is_yes (text_at (codes "primary_key") items)
is_key_with s items = false

-- the field is what its declaration says: the kind of field, its name and its parameters
pub record IsField (view kind name : List ℕ) (items : List Item) (f : DeclaredField) : Type 0 where
  pub name_is : f.name ≡ name
  pub sort_is : f.sort ≡ sort_of kind items
  pub sql_is : IsCode (is_over_measures f.sort) (sql_text f.sort name items) f.sql
  pub key_is : IsCode false (key_text f.sort items) f.key
  pub filters_are : AreFilters (filters_of f.sort items) f.filters
  pub frames_are : f.frames ≡ frames_with f.sort items
  pub tiers_are : f.tiers ≡ tiers_with f.sort items
  pub key_marked : f.is_key ≡ is_key_with f.sort items
  pub first_is : f.first ≡ soonest (own_findings (full_name view name) items f.sort f.sql f.key)
