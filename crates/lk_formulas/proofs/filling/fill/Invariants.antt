use Rattle.std.proofs.Common.{◌≤◌, length}
use Rattle.lk_fields.specs.declared.rows.Rule.TheVariants.{Ends}
use Rattle.lk_fields.specs.Rows.{marks_after}
use Rattle.lk_formulas.specs.Filling.{AreRight, Covers}
use Rattle.lk_formulas.proofs.filling.fill.Given as goal

abbrev pub invariant-loop-round : goal.invariant-loop-round
invariant-loop-round l = record {
  begun : l._round ≤ length l.rows;
  right : AreRight l.names.schema.now l.names.views.now l.names.scope.now l.columns l.unknown l.names.places.now l.fields;
  covers : Covers (marks_after Ends l._round l.rows) l.fields;
}
