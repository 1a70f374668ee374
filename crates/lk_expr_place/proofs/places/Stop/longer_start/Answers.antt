use Rattle.std.proofs.Common.{arith}
use Rattle.lk_expr_place.specs.TerminalGrammar.{IsTerminals}
use Rattle.lk_expr_place.proofs.SyntaxPlaceLaws.{no_longer_starts, longer_starts}
use Rattle.lk_expr_place.proofs.places.Stop.longer_start.Goals as goal

pub returns-then-own-best : goal.returns-then-own-best
returns-then-own-best c read =
    let stop = c.args.self.now in
    no_longer_starts (IsTerminals stop.grammar) stop.terminals.now stop.rest.now c.args.terminal c.args.others.now c.args.best c.in_ok-own.own (c.requires.shorter read) (c.in_ok-own.ensures (λ _. read)) c.if-own-best.true

pub returns-then-branch : goal.returns-then-branch
returns-then-branch c read =
    let stop = c.args.self.now in
    longer_starts (IsTerminals stop.grammar) stop.terminals.now stop.rest.now c.args.terminal c.args.others.now c.args.best c.in_ok-own.own (c.requires.shorter read) (c.in_ok-own.ensures (λ _. read)) (c.in_ok-may_come.ensures.sound c.if-branch.true) (omega arith)
