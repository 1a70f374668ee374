-- What a filter's text spells is a filter of the kind that it is read by.
use Rattle.std.proofs.Common.{◌≡◌, ℕ, true, List}
use Rattle.lk_types.specs.Filters.{is_filter_of}
use Rattle.lk_types.specs.declared.filter.Filter.{Filter}
use Rattle.lk_types.specs.declared.schema.Kind.{Kind}
use Rattle.lk_types.specs.declared.schema.Kind.TheVariants as kind
use Rattle.lk_filter.specs.FilterTexts.{IsFilterText}
use Rattle.lk_query.specs.Names.{filter_kind_of}
use Rattle.lk_query.proofs.DateKindLaws.{day_kind, moment_kind}
use Rattle.lk_query.proofs.NumberKindLaws.{number_kind, truth_kind}
use Rattle.lk_query.proofs.TextKindLaws.{text_kind}

pub kind_read : (k : Kind) (f : Filter) (text : List ℕ) → IsFilterText (filter_kind_of k) f text → is_filter_of k f ≡ true
kind_read kind.Text f text h = text_kind f text h.1
kind_read kind.Number f text h = number_kind f text h.1
kind_read kind.Truth f text h = truth_kind f text h.1
kind_read kind.Day f text h = day_kind f text h.1
kind_read kind.Moment f text h = moment_kind f text h.1
