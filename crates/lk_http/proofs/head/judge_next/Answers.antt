use Rattle.std.proofs.Common.{subst}
use Rattle.lk_http.specs.Judged.{IsSeen}
use Rattle.lk_http.proofs.PlaceLemmas.{stands_at, moves_to}
use Rattle.lk_http.proofs.head.judge_next.Goals as goal

pub returns-in-Some-clause-seen : goal.returns-in-Some-clause-seen
returns-in-Some-clause-seen c =
    (stands_at c.args.head.now c.args.byte c.args.place.now c.in-Some.next c.requires.early c.if-head-lt-HEAD_LIMIT.true c.requires.behind c.in-Some.ensures).0

pub returns-in-Some-clause-place : goal.returns-in-Some-clause-place
returns-in-Some-clause-place c =
    λ _. (stands_at c.args.head.now c.args.byte c.args.place.now c.in-Some.next c.requires.early c.if-head-lt-HEAD_LIMIT.true c.requires.behind c.in-Some.ensures).1

pub returns-clause-place : goal.returns-clause-place
returns-clause-place c =
    λ here. moves_to c.args.head.now c.args.byte c.args.place.now c.after.result c.requires.behind (subst (IsSeen c.args.head.now) here c.judge.ensures) c.after.ensures
