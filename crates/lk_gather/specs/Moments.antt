-- Filters at a moment.
use Rattle.std.specs.Prelude.{◌≡◌, ℤ}
use Rattle.lk_val.specs.declared.value.Value.{Value}
use Rattle.lk_types.specs.Filters.{passes, placed}
use Rattle.lk_types.specs.declared.filter.Filter.{Filter}
use Rattle.lk_gather.specs.declared.moment.MomentFilter.{MomentFilter}
use Rattle.lk_gather.specs.declared.moment.MomentFilter.TheVariants as at

-- the filter that stands for one at a moment
abbrev pub filter_of : MomentFilter → Filter
filter_of (at.Kept filter) = filter.now
filter_of (at.Placed filter) = filter

-- it passes the values that the filter passes with its relative dates placed
abbrev pub IsAtMoment : ℤ → Filter → MomentFilter → Type 0
IsAtMoment now f m = (v : Value) → passes (filter_of m) v ≡ passes (placed now f) v
