use Rattle.std.proofs.Common.{of_z, subst, to_z, w64}
use Rattle.std.proofs.lemmas.Int.{to_z-of_z}
use Rattle.std.specs.Prelude.{Ok}
use Rattle.lk_schema.specs.declared.users.Users.{Users}
use Rattle.lk_types.specs.declared.model.Model.{Model}
use Rattle.lk_query.specs.Bindings.{IsBodyBound}
use Rattle.lk_answer.proofs.AnswerLaws.{asked_is}
use Rattle.lk_answer.proofs.asking.ask.Goals as goal

pub answer-requires : goal.answer-requires
answer-requires c =
    let e = c.args.e.now in
    let now = to_z-of_z w64 c.args.now c.ranges.now in
    let bound = subst (λ (m : Model). IsBodyBound m e.users c.args.user.now c.args.explore.now c.args.body.now c.args.now (Ok c.in-Ok.bound)) c.model.ensures
    (subst (λ (us : Users). IsBodyBound c.model.result.now us c.args.user.now c.args.explore.now c.args.body.now c.args.now (Ok c.in-Ok.bound)) c.users.ensures
    (subst (λ n. IsBodyBound c.model.result.now c.users.result.now c.args.user.now c.args.explore.now c.args.body.now n (Ok c.in-Ok.bound)) now c.in-Ok.ensures)) in
    c.bound_queries_are_in_their_model.ensures.body e.model e.users c.args.user.now c.args.explore.now c.args.body.now c.args.now c.in-Ok.bound c.stands.ensures.model c.requires bound

pub returns-in-Ok-clause-answer : goal.returns-in-Ok-clause-answer
returns-in-Ok-clause-answer c =
    let e = c.args.e.now in
    let bound = subst (λ (m : Model). IsBodyBound m e.users c.args.user.now c.args.explore.now c.args.body.now (to_z w64 (of_z w64 c.args.now)) (Ok c.in-Ok.bound)) c.model.ensures
    (subst (λ (us : Users). IsBodyBound c.model.result.now us c.args.user.now c.args.explore.now c.args.body.now (to_z w64 (of_z w64 c.args.now)) (Ok c.in-Ok.bound)) c.users.ensures
    c.in-Ok.ensures) in
    asked_is e c.args.user.now c.args.explore.now c.args.body.now (to_z w64 (of_z w64 c.args.now)) c.args.now c.args.csv (Ok c.in-Ok.bound) c.answer.result
    (to_z-of_z w64 c.args.now c.ranges.now) bound c.answer.ensures.reply
