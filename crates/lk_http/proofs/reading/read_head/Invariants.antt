-- All fronts of the bytes so far want more.
use Rattle.std.proofs.Common.{◌≤◌, ◌+◌, ◌-◌, length}
use Rattle.std.specs.Io.KnownBytes.{Consumes}
use Rattle.std.specs.Vec.{vec_capacity}
use Rattle.lk_http.specs.Heads.{AreOpenBefore}
use Rattle.lk_http.specs.Places.{IsAt}
use Rattle.lk_http.specs.Answers.{OnlyReads}
use Rattle.lk_http.specs.Ways.{Comes}
use Rattle.lk_http.proofs.reading.read_head.Given as goal

abbrev pub invariant-loop-place : goal.invariant-loop-place
invariant-loop-place g l = record {
  room : 16384 ≤ vec_capacity l.head;
  grown : vec_capacity l.initial.head ≤ vec_capacity l.head;
  at : IsAt l.head.items l.place;
  early : AreOpenBefore (length l.head.items + 1) l.head.items;
  taken : Consumes (g.L.Source.left l.initial.link) (g.L.Source.left l.link) l.head.items;
  link : OnlyReads (g.L.Sink.held l.initial.link) (g.L.Sink.held l.link) (g.L.Sink.faults l.initial.link) (g.L.Sink.faults l.link) (g.L.Source.faults l.initial.link) (g.L.Source.faults l.link);
  pulls : Comes g.L.Source.keeps_at_pull l.initial.link l.link;
}

abbrev pub decreases-loop-place : goal.decreases-loop-place
decreases-loop-place g l = 16384 - length l.head.items
