use Rattle.std.proofs.Common.{[], ◌+◌, arith, length, subst, sym, refl}
use Rattle.std.specs.Io.KnownBytes.{Consumes}
use Rattle.std.proofs.KnownBytes.{Consumes-nil}
use Rattle.lk_http.specs.Heads.{AreOpenBefore}
use Rattle.lk_http.specs.Places.{IsAt}
use Rattle.lk_http.specs.declared.place.Place.TheVariants.{Blank}
use Rattle.lk_http.proofs.HeadLemmas.{open_at_first}
use Rattle.lk_http.proofs.ReadingLemmas.{only_reads_none, only_reads_on, pulled_more}
use Rattle.lk_http.proofs.WayLemmas.{way_behind, way_none}
use Rattle.lk_http.proofs.reading.read_head.Goals as goal

pub loop-place-init : goal.loop-place-init
loop-place-init g c = record {
  room = omega (arith, c.clear.ensures.capacity, c.requires.room);
  grown = omega arith;
  at = subst (λ head. IsAt head Blank) (sym c.clear.ensures.items) ([], refl);
  early = subst (λ head. AreOpenBefore (length head + 1) head) (sym c.clear.ensures.items) open_at_first;
  taken = subst (Consumes _ _) (sym c.clear.ensures.items) (Consumes-nil _);
  link = only_reads_none;
  pulls = way_none _ _;
}

pub loop-place-preserved : goal.loop-place-preserved
loop-place-preserved g c =
    let still = c.add_next.ensures.stays c.in_default.is in
    record {
      room = omega (arith, c.loop-place.invariant.room, c.add_next.ensures.room);
      grown = omega (arith, c.loop-place.invariant.grown, c.add_next.ensures.room);
      at = still.at;
      early = still.early;
      taken = pulled_more (g.L.Source.left c.args.link.now) (g.L.Source.left c.loop-place.link) (g.L.Source.left c.pull_byte-next.new.link) c.loop-place.head.items c.add_next.new.head.items c.pull_byte-next.result c.loop-place.invariant.taken c.pull_byte-next.ensures.read c.add_next.ensures.added;
      link = only_reads_on c.loop-place.invariant.link c.pull_byte-next.ensures.link;
      pulls = way_behind g.L.Source.keeps_at_pull c.args.link.now c.loop-place.link c.pull_byte-next.new.link c.loop-place.invariant.pulls c.pull_byte-next.ensures.pulls;
    }

pub loop-place-smaller : goal.loop-place-smaller
loop-place-smaller g c = omega (arith, c.loop-place-test.true, c.len.ensures, (c.add_next.ensures.stays c.in_default.is).longer)

pub returns-in-Some-clause-taken : goal.returns-in-Some-clause-taken
returns-in-Some-clause-taken g c =
    pulled_more (g.L.Source.left c.args.link.now) (g.L.Source.left c.loop-place.link) (g.L.Source.left c.pull_byte-next.new.link) c.loop-place.head.items c.add_next.new.head.items c.pull_byte-next.result c.loop-place.invariant.taken c.pull_byte-next.ensures.read c.add_next.ensures.added

pub returns-in-Some-clause-read : goal.returns-in-Some-clause-read
returns-in-Some-clause-read g c = c.in-Some.ensures.answer (g.L.Source.left c.loop-place.link) (g.L.Source.left c.pull_byte-next.new.link) c.pull_byte-next.ensures.read

pub returns-in-Some-clause-link : goal.returns-in-Some-clause-link
returns-in-Some-clause-link g c = only_reads_on c.loop-place.invariant.link c.pull_byte-next.ensures.link

pub returns-in-Some-clause-pulls : goal.returns-in-Some-clause-pulls
returns-in-Some-clause-pulls g c = way_behind g.L.Source.keeps_at_pull c.args.link.now c.loop-place.link c.pull_byte-next.new.link c.loop-place.invariant.pulls c.pull_byte-next.ensures.pulls
