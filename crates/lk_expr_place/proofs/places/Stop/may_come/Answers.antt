use Rattle.std.proofs.Common.{Bool, true, ◌≡◌}
use Rattle.std.proofs.lemmas.Result.{IfOk-weaker}
use Rattle.lk_grammar.specs.Places.{IsViable}
use Rattle.lk_grammar.specs.Reaching.{Tells}
use Rattle.lk_expr_token.specs.Terminals.{terminal_byte}
use Rattle.lk_expr_place.specs.TerminalGrammar.{IsTerminals}
use Rattle.lk_expr_place.specs.SyntaxPlaces.{MayFollow}
use Rattle.lk_expr_place.proofs.TerminalJudged.{may_follow_there}
use Rattle.lk_expr_place.proofs.places.Stop.may_come.Goals as goal

pub returns-clause-sound : goal.returns-clause-sound
returns-clause-sound c =
    let stop = c.args.self.now in
    let P = MayFollow (IsTerminals stop.grammar) stop.terminals.now c.args.terminal in
    IfOk-weaker c.may_follow.result (Tells P) (λ may. may ≡ true → P) (λ may tells. tells.0)
    (may_follow_there stop.grammar stop.terminals.now stop.all.now c.terminal_byte.result (terminal_byte c.args.terminal) stop.reached.now c.may_follow.result c.requires.goes c.requires.front c.terminal_byte.ensures c.may_follow.ensures)

pub returns-clause-every : goal.returns-clause-every
returns-clause-every c =
    let stop = c.args.self.now in
    let P = MayFollow (IsTerminals stop.grammar) stop.terminals.now c.args.terminal in
    IfOk-weaker c.may_follow.result (Tells P) (λ may. P → may ≡ true) (λ may tells. tells.1)
    (may_follow_there stop.grammar stop.terminals.now stop.all.now c.terminal_byte.result (terminal_byte c.args.terminal) stop.reached.now c.may_follow.result c.requires.goes c.requires.front c.terminal_byte.ensures c.may_follow.ensures)
