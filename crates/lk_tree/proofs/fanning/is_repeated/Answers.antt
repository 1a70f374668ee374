use Rattle.std.proofs.Common.{◌∙◌, ◌||◌, Bool, ap, sym}
use Rattle.std.specs.List.{list_any}
use Rattle.lk_types.specs.Expressions.{has_number}
use Rattle.lk_semantics.specs.Joins.{condition_of, mentions_of}
use Rattle.lk_tree.proofs.fanning.is_repeated.Goals as goal

pub returns-then-repeats_joined : goal.returns-then-repeats_joined
returns-then-repeats_joined c = λ before fanned h.
    let rest : Bool = list_any (λ p. has_number p fanned) (mentions_of (condition_of c.args.join.now)) in
    ap (λ b. b || rest) (sym (sym c.repeats_joined.ensures ∙ c.if-repeats_joined.true))

pub returns : goal.returns
returns c = λ before fanned h.
    let rest : Bool = list_any (λ p. has_number p fanned) (mentions_of (condition_of c.args.join.now)) in
    c.reads_one_of.ensures fanned h.repeated ∙ ap (λ b. b || rest) (sym (sym c.repeats_joined.ensures ∙ c.if-repeats_joined.false))
