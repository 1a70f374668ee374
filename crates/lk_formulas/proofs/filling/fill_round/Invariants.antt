use Rattle.std.proofs.Common.{◌≡◌, ℕ, ◌≤◌, true, false, length}
use Rattle.lk_formulas.specs.Filling.{AreRight, is_kept}
use Rattle.lk_formulas.proofs.FillLaws.{CoversBelow}
use Rattle.lk_formulas.proofs.filling.fill_round.Given as goal

abbrev pub invariant-loop-number : goal.invariant-loop-number
invariant-loop-number l = record {
  begun : l.number ≤ length l.rows;
  right : AreRight l.names.schema.now l.names.views.now l.names.scope.now l.columns l.unknown l.names.places.now l.fields;
  stays : (i : ℕ) → is_kept l.fn.fields i ≡ true → is_kept l.fields i ≡ true;
  below : CoversBelow l.rows l.fn.fields l.fields l.number;
  same : l.has_grown ≡ false → l.fields ≡ l.fn.fields;
}
