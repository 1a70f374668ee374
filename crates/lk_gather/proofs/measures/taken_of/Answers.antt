use Rattle.std.proofs.Common.{map, of_z, subst, to_z, w64}
use Rattle.std.proofs.lemmas.Int.{to_z-of_z}
use Rattle.lk_filter.specs.PlacedModel.{placed_field_filter, placed_measure}
use Rattle.lk_gather.specs.Dims.{AreTests}
use Rattle.lk_gather.proofs.MeasureLaws.{fields_fine, is_taken}
use Rattle.lk_gather.proofs.measures.taken_of.Goals as goal

pub tests_of-requires : goal.tests_of-requires
tests_of-requires c = fields_fine c.args.explore.now c.requires.explore

pub returns : goal.returns
returns c =
    let tests =
    subst (λ now. AreTests c.args.explore.now (map (placed_field_filter now) c.args.measure.now.filters) c.in_ok-tests_of.field-0) (to_z-of_z w64 c.args.now c.ranges.now)
    (subst (λ fs. AreTests c.args.explore.now (map (placed_field_filter (to_z w64 (of_z w64 c.args.now))) fs) c.in_ok-tests_of.field-0) c.as_slice.ensures c.in_ok-tests_of.ensures) in
    is_taken c.args.explore.now (placed_measure c.args.now c.args.measure.now) _ c.requires.explore c.requires.measure c.key_of-key.ensures c.as_ref.ensures.value tests c.wanted.ensures
