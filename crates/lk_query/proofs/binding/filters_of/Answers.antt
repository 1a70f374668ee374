use Rattle.std.proofs.Common.{◌∙◌, ap, refl, subst, w64}
use Rattle.std.specs.Prelude.{Ok, Err}
use Rattle.std.proofs.lemmas.Int.{to_z-of_z}
use Rattle.std.proofs.lemmas.Result.{err_from_is_err_and}
use Rattle.lk_body.specs.Faults.{is_no_memory}
use Rattle.lk_query.specs.Bindings.{filters_at}
use Rattle.lk_query.specs.Readings.{AreRead}
use Rattle.lk_query.proofs.MemoryLaws.{unless_weaker}
use Rattle.lk_query.proofs.binding.filters_of.Goals as goal

pub returns : goal.returns
returns c =
    let access = c.in_ok-access.access in
    let filters = c.in_ok-filters.filters in
    let now = to_z-of_z w64 c.args.now c.ranges.now in
    let made = c.in_ok-filters_at.ensures ∙ (λ i. filters_at (now i) c.args.x.now (c.as_slice-3.ensures i) (c.as_slice-4.ensures i)) in (
      Ok access,
      subst (λ ts. AreRead ts (Ok access)) c.as_slice.ensures c.in_ok-access.ensures,
      (Ok filters, subst (λ ts. AreRead ts (Ok filters)) c.as_slice-2.ensures c.in_ok-filters.ensures, ap Ok made),
    )

pub returns-in_err-access : goal.returns-in_err-access
returns-in_err-access c =
    let fault = c.in_err-access.field-0.0 in
    let p = err_from_is_err_and c.from_residual.result c.from_residual.ensures.1 in
    rw (p.1, p.2) (unless_weaker (is_no_memory fault) (λ are. (Err fault, subst (λ ts. AreRead ts (Err fault)) c.as_slice.ensures are, refl)) c.in_err-access.ensures)

pub returns-in_err-filters : goal.returns-in_err-filters
returns-in_err-filters c =
    let access = c.in_ok-access.access in
    let fault = c.in_err-filters.field-0.0 in
    let p = err_from_is_err_and c.from_residual-in_err-filters.result c.from_residual-in_err-filters.ensures.1 in
    rw (p.1, p.2) (unless_weaker (is_no_memory fault)
    (λ are. (Ok access, subst (λ ts. AreRead ts (Ok access)) c.as_slice.ensures c.in_ok-access.ensures, (Err fault, subst (λ ts. AreRead ts (Err fault)) c.as_slice-2.ensures are, refl)))
    c.in_err-filters.ensures)
