use Rattle.std.proofs.Common.{◌≡◌, true, take}
use Rattle.std.specs.List.{list_all}
use Rattle.lk_route.specs.Roles.{is_field_within}
use Rattle.lk_route.proofs.regrouping.are_fields_within.Given as goal

abbrev pub invariant-loop-field : goal.invariant-loop-field
invariant-loop-field l = list_all (is_field_within l.x l.views) (take l.field-index l.fields) ≡ true
