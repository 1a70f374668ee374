-- The bytes that were taken so far, and where none was refused their memory, kept.
use Rattle.std.proofs.Common.{◌≡◌, ◌+◌, ℕ, List, length}
use Rattle.std.specs.Prelude.{IfSome, Ok}
use Rattle.std.specs.Io.KnownBytes.{Consumes}
use Rattle.lk_http.specs.Answers.{OnlyReads}
use Rattle.lk_http.specs.Ways.{Comes}
use Rattle.lk_http.proofs.reading.read_body.Given as goal

abbrev pub invariant-loop-missing : goal.invariant-loop-missing
invariant-loop-missing g l = record {
  taken : List ℕ;
  count : l.fn.stated ≡ Ok (length taken + l.missing);
  consumed : Consumes (g.L.Source.left l.initial.link) (g.L.Source.left l.link) taken;
  kept : IfSome l.body (λ body. body ≡ taken);
  link : OnlyReads (g.L.Sink.held l.initial.link) (g.L.Sink.held l.link) (g.L.Sink.faults l.initial.link) (g.L.Sink.faults l.link) (g.L.Source.faults l.initial.link) (g.L.Source.faults l.link);
  pulls : Comes g.L.Source.keeps_at_pull l.initial.link l.link;
}

abbrev pub decreases-loop-missing : goal.decreases-loop-missing
decreases-loop-missing g l = l.missing
