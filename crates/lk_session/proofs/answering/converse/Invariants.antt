-- All replies so far went out, each to the next item, and the connection is open.
use Rattle.std.proofs.Common.{◌<◌, ◌≤◌}
use Rattle.std.specs.Prelude.{◌⊎◌, IfSome}
use Rattle.lk_edition.specs.Offices.{standing_in}
use Rattle.lk_http.specs.Ways.{Comes}
use Rattle.lk_turns.specs.Steps.{Reached}
use Rattle.lk_session.specs.Servers.{ItemDoes, by_edition, keeper_in, server}
use Rattle.lk_session.proofs.answering.converse.Given as goal

abbrev pub invariant-loop-before : goal.invariant-loop-before
invariant-loop-before g l = record {
  below : l.before < 100000;
  told : IfSome (g.L.Source.left l.initial.link) (λ bytes. Reached (ItemDoes by_edition)
      (server (standing_in l.initial.office) (g.K.Keeper.held (keeper_in l.initial.office)) (g.K.Keeper.faults (keeper_in l.initial.office)) (g.C.Clock.moments l.initial.clock)) bytes
      (g.L.Sink.held l.initial.link) (g.L.Sink.held l.link)
      (server (standing_in l.office) (g.K.Keeper.held (keeper_in l.office)) (g.K.Keeper.faults (keeper_in l.office)) (g.C.Clock.moments l.clock))
      (g.L.Source.left l.link) l.before);
  reads : g.L.Source.faults l.initial.link ≤ g.L.Source.faults l.link;
  counts : g.K.Keeper.faults (keeper_in l.initial.office) ≤ g.K.Keeper.faults (keeper_in l.office);
  ways : Comes (λ a b. g.L.Source.keeps_at_pull a b ⊎ g.L.Sink.keeps_at_put a b) l.initial.link l.link;
  writes : g.L.Sink.faults l.initial.link ≤ g.L.Sink.faults l.link;
}
