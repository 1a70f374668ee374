use Rattle.std.proofs.Common.{◌≡◌, drop}
use Rattle.lk_scope.specs.Pieces.{first_at}
use Rattle.lk_field_faults.specs.ExploreFields.{misread_line}
use Rattle.lk_field_faults.proofs.explore_fields.test_filters.Given as goal

abbrev pub invariant-loop-filter : goal.invariant-loop-filter
invariant-loop-filter l =
    let test = misread_line l.fields.views.now l.fields.scope.now l.object l.part in
    first_at test (drop l.filter-index l.filters) ≡ first_at test l.filters
