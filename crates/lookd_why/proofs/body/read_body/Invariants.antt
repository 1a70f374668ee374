use Rattle.std.proofs.Common.{◌≤◌, length}
use Rattle.std.specs.Io.KnownBytes.{Consumes}
use Rattle.lookd_why.proofs.body.read_body.Given as goal

abbrev pub invariant-loop-turn : goal.invariant-loop-turn
invariant-loop-turn g l = record {
  consumed : Consumes (g.I.Source.left l.initial.input) (g.I.Source.left l.input) l.body;
  turns : l._turn ≤ length l.body;
  small : length l.body ≤ 16777216;
  later : g.I.Source.faults l.initial.input ≤ g.I.Source.faults l.input;
}
