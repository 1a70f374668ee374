-- What the names of a query are in an explore, or the first refusal.
use Rattle.std.specs.Prelude.{ℕ, ◌&&◌, Bool, if◌then◌else◌, ℤ, pos, int_le, unsigned_abs, List, [], position, Option, Some, None, option_map, Result, Ok, Err}
use Rattle.std.specs.Ordering.{nat_cmp, is_lt}
use Rattle.std.specs.Cmp.Lexicographic.{slice_cmp}
use Rattle.std.specs.List.{fold, insert, position_or_len}
use Rattle.lk_val.specs.Texts.{is_same_text}
use Rattle.lk_types.specs.declared.bound.Sort.{Sort}
use Rattle.lk_types.specs.declared.explore.Explore.{Explore}
use Rattle.lk_types.specs.declared.model.Pick.{Pick}
use Rattle.lk_types.specs.declared.model.Pick.TheVariants.{Dim, Mea}
use Rattle.lk_types.specs.declared.schema.Kind.{Kind}
use Rattle.lk_types.specs.declared.schema.Kind.TheVariants as kind
use Rattle.lk_semantics.specs.Answers.{measure_at}
use Rattle.lk_semantics.specs.Rows.{field_at}
use Rattle.lk_filter.specs.declared.reading.FilterKind.{FilterKind}
use Rattle.lk_filter.specs.declared.reading.FilterKind.TheVariants as filter_kind
use Rattle.lk_body.specs.declared.fault.QueryFault.{QueryFault}
use Rattle.lk_body.specs.declared.fault.QueryFault.TheVariants.{Q4, Q8}
use Rattle.lk_query.specs.Refusals.{each_found}
use Rattle.lk_query.specs.declared.texts.FilterText.{FilterText}

-- ---- names

-- a dimension, or else a measure
abbrev pub or_measure : Option ℕ → Option ℕ → Option Pick
or_measure (Some f) measure = Some (Dim f)
or_measure None measure = option_map Mea measure

-- the number of the dimension of a name, and of the measure
abbrev pub field_named : Explore → List ℕ → Option ℕ
field_named x name = position (λ f. is_same_text name f.name) x.fields

abbrev pub measure_named : Explore → List ℕ → Option ℕ
measure_named x name = position (λ m. is_same_text name m.name) x.measures

-- the dimension of a name, or else the measure
abbrev pub pick_named : Explore → List ℕ → Option Pick
pick_named x name = or_measure (field_named x name) (measure_named x name)

-- ---- filters

-- the kind of the values of what is picked
abbrev pub pick_kind : Explore → Pick → Kind
pick_kind x (Dim f) = (field_at x f).kind
pick_kind x (Mea m) = (measure_at x m).kind

-- the kind of filter for values of a kind (Looker, filter expressions)
abbrev pub filter_kind_of : Kind → FilterKind
filter_kind_of kind.Text = filter_kind.Text
filter_kind_of kind.Number = filter_kind.Number
filter_kind_of kind.Truth = filter_kind.Truth
filter_kind_of kind.Day = filter_kind.Date
filter_kind_of kind.Moment = filter_kind.Date

-- a filter's text on what is picked, with the name that it goes by
abbrev pub filter_on : Explore → Pick → List ℕ → List ℕ → FilterText
filter_on x on name text = record { on = on; kind = filter_kind_of (pick_kind x on); name = name; text = text }

-- a query's filter, where its name is that of a field
abbrev pub named_filter : Explore → List ℕ × List ℕ → Option FilterText
named_filter x f = option_map (λ on. filter_on x on f.0 f.1) (pick_named x f.0)

-- the filter's name is that of no field
abbrev pub unknown_filter : List ℕ × List ℕ → QueryFault
unknown_filter f = Q4 f.0

-- the name of the first filter stands before that of the second, byte by byte
abbrev pub goes_before : List ℕ × List ℕ → List ℕ × List ℕ → Bool
goes_before f g = is_lt (slice_cmp nat_cmp f.0 g.0)

-- a filter among filters by their names: before the first that it goes before, and else at the end
abbrev pub put_in : List (List ℕ × List ℕ) → List ℕ × List ℕ → List (List ℕ × List ℕ)
put_in filters f = insert filters (position_or_len (goes_before f) filters) f

-- filters by the bytes of their names; those of one name stay in their order
abbrev pub by_name : List (List ℕ × List ℕ) → List (List ℕ × List ℕ)
by_name filters = fold put_in [] filters

-- ---- sorts

-- a sort by a column of the answer, where its name is asked for
abbrev pub named_sort : List (List ℕ) → List ℕ × Bool → Option Sort
named_sort fields s = option_map (λ place. record { place = place; down = s.1 }) (position (is_same_text s.0) fields)

-- ---- the parts of a query

-- the limit, where it is of 1 to 5,000, or Q8
abbrev pub limit_of : ℤ → Result ℕ QueryFault
limit_of limit = if int_le (pos 1) limit && int_le limit (pos 5000) then Ok (unsigned_abs limit) else Err (Q8 limit)

-- what the names pick, or Q4 for the first that is no field of the explore
abbrev pub picks_of : Explore → List (List ℕ) → Result (List Pick) QueryFault
picks_of x names = each_found Q4 (pick_named x) names

-- the filters by the bytes of their names, or Q4 for the first name that is no field of the explore
abbrev pub filters_of : Explore → List (List ℕ × List ℕ) → Result (List FilterText) QueryFault
filters_of x filters = each_found unknown_filter (named_filter x) (by_name filters)

-- the sorts, or Q4 for the first name that is not asked for; what is asked for is known to be a field
abbrev pub sorts_of : List (List ℕ) → List (List ℕ × Bool) → Result (List Sort) QueryFault
sorts_of fields sorts = each_found (λ s. Q4 s.0) (named_sort fields) sorts
