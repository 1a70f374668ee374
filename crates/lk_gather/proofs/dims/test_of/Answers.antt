use Rattle.std.proofs.Common.{◌≡◌, subst, w64}
use Rattle.std.proofs.lemmas.Int.{to_z-of_z}
use Rattle.lk_types.specs.Filters.{passes, placed}
use Rattle.lk_gather.specs.Moments.{filter_of}
use Rattle.lk_gather.proofs.dims.test_of.Goals as goal

pub returns : goal.returns
returns c = record {
  dim = c.in_ok-at.ensures;
  filter = λ v.
      subst (λ now. passes (filter_of c.in_ok-at-2.field-0) v ≡ passes (placed now c.args.filter.now.1) v) (to_z-of_z w64 c.args.now c.ranges.now)
      (c.in_ok-at-2.ensures v);
}
