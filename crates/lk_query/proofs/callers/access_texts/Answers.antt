use Rattle.std.proofs.Common.{◌∙◌, ◌≡◌, ap, sym, arith}
use Rattle.std.specs.Prelude.{Err}
use Rattle.std.proofs.lemmas.List.{drop_all}
use Rattle.lk_body.specs.Faults.{is_no_memory}
use Rattle.lk_query.specs.Callers.{access_text, access_texts, lacks}
use Rattle.lk_query.specs.Refusals.{each_found}
use Rattle.lk_query.proofs.FoundLaws.{item_here, next_found, next_refused, all_found}
use Rattle.lk_query.proofs.MemoryLaws.{always}
use Rattle.lk_query.proofs.callers.access_texts.Goals as goal

pub loop-access-preserved : goal.loop-access-preserved
loop-access-preserved c =
    let a = c.args in
    let refusal = lacks a.x.now in
    let found = access_text a.x.now a.users.now a.user.now in
    let items = c.as_slice-access-items.result.now in
    let l = c.loop-access in
    next_found refusal found (each_found refusal found items) _ _ l.texts c.push.new.self c.access-item.result c.in-Some.text
    (item_here items l.access-index c.access-item.result c.loop-access-test.true c.access-item.is)
    (sym c.in-Some.is ∙ c.in_ok-text.ensures) c.in_ok-push.ensures.ok l.invariant

pub returns : goal.returns
returns c =
    let a = c.args in
    let refusal = lacks a.x.now in
    let found = access_text a.x.now a.users.now a.user.now in
    let items = c.as_slice-access-items.result.now in
    let l = c.loop-access in
    all_found refusal found (each_found refusal found items) _ l.texts
    (drop_all l.access-index items (omega (arith, c.loop-access-test.false))) l.invariant
    ∙ ap (each_found refusal found) c.as_slice-access-items.ensures

pub returns-in_default : goal.returns-in_default
returns-in_default c =
    let a = c.args in
    let refusal = lacks a.x.now in
    let found = access_text a.x.now a.users.now a.user.now in
    let items = c.as_slice-access-items.result.now in
    let l = c.loop-access in
    let fault = c.in_ok-lacks.field-0 in
    let all : Err fault ≡ access_texts a.x.now a.users.now a.user.now =
    ap (λ f. Err f) c.in_ok-lacks.ensures
    ∙ next_refused refusal found (each_found refusal found items) _ _ l.texts c.access-item.result
    (item_here items l.access-index c.access-item.result c.loop-access-test.true c.access-item.is)
    (sym c.in_default.is ∙ c.in_ok-text.ensures) l.invariant
    ∙ ap (each_found refusal found) c.as_slice-access-items.ensures in
    always (is_no_memory fault) all
