use Rattle.std.proofs.Common.{◌≡◌, ◌∙◌, ap, refl, subst, w64}
use Rattle.std.proofs.lemmas.Int.{to_z-of_z}
use Rattle.std.specs.Prelude.{Err, Ok}
use Rattle.lk_val.specs.Memory.{Unless}
use Rattle.lk_types.specs.declared.answer.Route.{Route}
use Rattle.lk_types.specs.declared.model.Model.{Model}
use Rattle.lk_semantics.specs.Derived.{explore_at}
use Rattle.lk_ask.specs.Asks.{is_no_memory}
use Rattle.lk_answer.specs.Answers.{named, rolled_rows, told_where}
use Rattle.lk_answer.specs.Routes.{routed}
use Rattle.lk_answer.proofs.AnswerLaws.{refusal_is, reply_is, told_bound}
use Rattle.lk_answer.proofs.answering.answer.Goals as goal

pub returns-in_ok-reply-in-Ok-clause-reply : goal.returns-in_ok-reply-in-Ok-clause-reply
returns-in_ok-reply-in-Ok-clause-reply c =
    let e = c.args.e.now in
    let m = e.model in
    let b = c.args.bound in
    let csv = c.args.csv in
    let now = to_z-of_z w64 c.args.now c.ranges.now in
    let told = c.in-Ok.told in
    let route = c.route_of-route.result in
    let is : Ok told ≡ told_where e c.args.now b route.from = c.in-Ok.ensures ∙ (λ i. told_where e (now i) b route.from) in
    let of = told_bound c.told_queries_are_those_asked.ensures e c.args.now b route.from told is in
    let here = c.explore_of-x.ensures ∙ ap (λ (n : Model). explore_at n b.explore) c.model.ensures in
    reply_is m csv c.is_csv.result route.number b c.explore_of-x.result.now told c.in_ok-reply-in-Ok.reply (told_where e c.args.now b route.from) is of here c.is_csv.ensures c.in_ok-reply-in-Ok.ensures
    ∙ ap (λ (r : Route). named m csv r.number (told_where e c.args.now b r.from)) c.route_of-route.ensures.route

pub returns-in_ok-reply-in-Ok-clause-counts : goal.returns-in_ok-reply-in-Ok-clause-counts
returns-in_ok-reply-in-Ok-clause-counts c =
    let e = c.args.e.now in
    let b = c.args.bound in
    let now = to_z-of_z w64 c.args.now c.ranges.now in
    record {
      told = c.in-Ok.told;
      is_told = c.in-Ok.ensures ∙ (λ i. told_where e (now i) b (c.route_of-route.ensures.route i).from);
      joined = refl;
      rolled = c.rolled_rows-rolled.ensures ∙ ap (λ (r : Route). rolled_rows e.keeps b.explore r.from) c.route_of-route.ensures.route;
    }

pub returns-in-Err-clause-reply : goal.returns-in-Err-clause-reply
returns-in-Err-clause-reply c =
    let e = c.args.e.now in
    let m = e.model in
    let b = c.args.bound in
    let now = to_z-of_z w64 c.args.now c.ranges.now in
    let why = c.in-Err.fault in
    refusal_is m c.args.csv (routed e b).number why (told_where e c.args.now b (routed e b).from) (is_no_memory why)
    (subst (λ t. Unless (is_no_memory why) (Err why ≡ t)) (λ i. told_where e (now i) b (c.route_of-route.ensures.route i).from) c.in-Err.ensures)
