use Rattle.std.proofs.Common.{◌≡◌, ◌∙◌, ap, of_z, rules, subst, to_z, w64}
use Rattle.std.specs.Prelude.{Err}
use Rattle.std.proofs.lemmas.Result.{err_from_is_err_and}
use Rattle.lk_body.specs.Faults.{is_no_memory}
use Rattle.lk_val.specs.Memory.{Unless}
use Rattle.lk_query.specs.Callers.{access_texts}
use Rattle.lk_query.specs.Names.{filters_of, limit_of, picks_of, sorts_of}
use Rattle.lk_query.proofs.MemoryLaws.{unless_weaker}
use Rattle.lk_query.proofs.RequestLaws.{all_known, no_picks, no_filters, no_sorts, no_access}
use Rattle.lk_query.proofs.request.request_of.Goals as goal

pub returns : goal.returns
returns c =
    let a = c.args in
    let q = a.q.now in
    let same : to_z w64 (of_z w64 q.limit) ≡ q.limit = search rules in
    let limit = c.in_ok-limit_of.ensures ∙ ap limit_of same in
    let picks = c.in_ok-picks_of.ensures ∙ ap (picks_of a.x.now) c.as_slice.ensures in
    let filters = c.in_ok-filters_of.ensures ∙ ap (filters_of a.x.now) c.as_slice-2.ensures in
    let sorts = c.in_ok-sorts_of.ensures ∙ (λ i. sorts_of (c.as_slice-3.ensures i) (c.as_slice-4.ensures i)) in
    all_known (limit_of q.limit) (picks_of a.x.now q.fields) (filters_of a.x.now q.filters) (sorts_of q.fields q.sorts) (access_texts a.x.now a.users.now a.user.now)
    c.in_ok-limit_of.field-0 c.in_ok-picks_of.field-0 c.in_ok-filters_of.field-0 c.in_ok-sorts_of.field-0 c.in_ok-access_texts.field-0
    limit picks filters sorts c.in_ok-access_texts.ensures

pub returns-in_err-access_texts : goal.returns-in_err-access_texts
returns-in_err-access_texts c =
    let a = c.args in
    let q = a.q.now in
    let same : to_z w64 (of_z w64 q.limit) ≡ q.limit = search rules in
    let limit = c.in_ok-limit_of.ensures ∙ ap limit_of same in
    let picks = c.in_ok-picks_of.ensures ∙ ap (picks_of a.x.now) c.as_slice.ensures in
    let filters = c.in_ok-filters_of.ensures ∙ ap (filters_of a.x.now) c.as_slice-2.ensures in
    let sorts = c.in_ok-sorts_of.ensures ∙ (λ i. sorts_of (c.as_slice-3.ensures i) (c.as_slice-4.ensures i)) in
    let fault = c.in_err-access_texts.field-0.0 in
    let p = err_from_is_err_and c.from_residual-in_err-access_texts.result c.from_residual-in_err-access_texts.ensures.1 in
    rw (p.1, p.2) (no_access (limit_of q.limit) (picks_of a.x.now q.fields) (filters_of a.x.now q.filters) (sorts_of q.fields q.sorts) (access_texts a.x.now a.users.now a.user.now)
    fault c.in_ok-limit_of.field-0 c.in_ok-picks_of.field-0 c.in_ok-filters_of.field-0 c.in_ok-sorts_of.field-0 limit picks filters sorts c.in_err-access_texts.ensures)

pub returns-in_err-picks_of : goal.returns-in_err-picks_of
returns-in_err-picks_of c =
    let a = c.args in
    let q = a.q.now in
    let same : to_z w64 (of_z w64 q.limit) ≡ q.limit = search rules in
    let fault = c.in_err-picks_of.field-0.0 in
    let p = err_from_is_err_and c.from_residual-in_err-picks_of.result c.from_residual-in_err-picks_of.ensures.1 in
    rw (p.1, p.2) (no_picks (limit_of q.limit) (picks_of a.x.now q.fields) (filters_of a.x.now q.filters) (sorts_of q.fields q.sorts) (access_texts a.x.now a.users.now a.user.now)
    fault c.in_ok-limit_of.field-0 (c.in_ok-limit_of.ensures ∙ ap limit_of same)
    (subst (λ fields. Unless (is_no_memory fault) (Err fault ≡ picks_of a.x.now fields)) c.as_slice.ensures c.in_err-picks_of.ensures))

pub returns-in_err-filters_of : goal.returns-in_err-filters_of
returns-in_err-filters_of c =
    let a = c.args in
    let q = a.q.now in
    let same : to_z w64 (of_z w64 q.limit) ≡ q.limit = search rules in
    let fault = c.in_err-filters_of.field-0.0 in
    let p = err_from_is_err_and c.from_residual-in_err-filters_of.result c.from_residual-in_err-filters_of.ensures.1 in
    rw (p.1, p.2) (no_filters (limit_of q.limit) (picks_of a.x.now q.fields) (filters_of a.x.now q.filters) (sorts_of q.fields q.sorts) (access_texts a.x.now a.users.now a.user.now)
    fault c.in_ok-limit_of.field-0 c.in_ok-picks_of.field-0 (c.in_ok-limit_of.ensures ∙ ap limit_of same) (c.in_ok-picks_of.ensures ∙ ap (picks_of a.x.now) c.as_slice.ensures)
    (subst (λ filters. Unless (is_no_memory fault) (Err fault ≡ filters_of a.x.now filters)) c.as_slice-2.ensures c.in_err-filters_of.ensures))

pub returns-in_err-sorts_of : goal.returns-in_err-sorts_of
returns-in_err-sorts_of c =
    let a = c.args in
    let q = a.q.now in
    let same : to_z w64 (of_z w64 q.limit) ≡ q.limit = search rules in
    let fault = c.in_err-sorts_of.field-0.0 in
    let p = err_from_is_err_and c.from_residual-in_err-sorts_of.result c.from_residual-in_err-sorts_of.ensures.1 in
    rw (p.1, p.2) (no_sorts (limit_of q.limit) (picks_of a.x.now q.fields) (filters_of a.x.now q.filters) (sorts_of q.fields q.sorts) (access_texts a.x.now a.users.now a.user.now)
    fault c.in_ok-limit_of.field-0 c.in_ok-picks_of.field-0 c.in_ok-filters_of.field-0
    (c.in_ok-limit_of.ensures ∙ ap limit_of same) (c.in_ok-picks_of.ensures ∙ ap (picks_of a.x.now) c.as_slice.ensures) (c.in_ok-filters_of.ensures ∙ ap (filters_of a.x.now) c.as_slice-2.ensures)
    (unless_weaker (is_no_memory fault) (λ is. is ∙ (λ i. sorts_of (c.as_slice-3.ensures i) (c.as_slice-4.ensures i))) c.in_err-sorts_of.ensures))
