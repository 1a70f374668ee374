use Rattle.std.proofs.Common.{◌∙◌, ap, sym}
use Rattle.lk_types.specs.Filters.{passes}
use Rattle.lk_gather.proofs.moment.MomentFilter.at.Goals as goal

-- a filter without relative dates is placed but for its mark, of which no value's passing tells
pub returns-then-is_placed : goal.returns-then-is_placed
returns-then-is_placed c = λ v.
    ap (λ f. passes f v) (sym (c.placing_leaves_no_relative_date.ensures.kept c.args.now c.args.filter.now (sym c.is_placed.ensures ∙ c.if-is_placed.true)))
