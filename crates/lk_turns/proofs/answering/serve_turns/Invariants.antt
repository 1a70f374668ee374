-- All replies so far went out, each to the next item, and the connection is open.
use Rattle.std.proofs.Common.{◌<◌, ◌≤◌}
use Rattle.std.specs.Prelude.{◌⊎◌, IfSome}
use Rattle.lk_http.specs.Ways.{Comes}
use Rattle.lk_turns.specs.Doings.{ItemDoes}
use Rattle.lk_turns.specs.Steps.{Reached}
use Rattle.lk_turns.proofs.answering.serve_turns.Given as goal

abbrev pub invariant-loop-before : goal.invariant-loop-before
invariant-loop-before g l = record {
  below : l.before < 100000;
  told : IfSome (g.L.Source.left l.initial.link) (λ bytes. Reached (ItemDoes g.A.Answerer.serves g.A.Answerer.forgets)
      (g.A.Answerer.state l.initial.answerer) bytes (g.L.Sink.held l.initial.link) (g.L.Sink.held l.link)
      (g.A.Answerer.state l.answerer) (g.L.Source.left l.link) l.before);
  reads : g.L.Source.faults l.initial.link ≤ g.L.Source.faults l.link;
  counts : g.A.Answerer.faults l.initial.answerer ≤ g.A.Answerer.faults l.answerer;
  ways : Comes (λ a b. g.L.Source.keeps_at_pull a b ⊎ g.L.Sink.keeps_at_put a b) l.initial.link l.link;
  keeps : Comes g.A.Answerer.keeps l.initial.answerer l.answerer;
  writes : g.L.Sink.faults l.initial.link ≤ g.L.Sink.faults l.link;
}
