use Rattle.std.proofs.Common.{◌∙◌, Option, Some, None, subst, sym}
use Rattle.lk_objects.specs.declared.field.DeclaredField.{DeclaredField}
use Rattle.lk_formulas.specs.Told.{IsFieldTold}
use Rattle.lk_formulas.proofs.RoundLaws.{kept_is}
use Rattle.lk_formulas.proofs.filling.resolved_at.Goals as goal

pub returns : goal.returns
returns c = λ h told.
    let schema = c.args.names.now.schema.now in
    let views = c.args.names.now.views.now in
    let scope = c.args.names.now.scope.now in
    let columns = c.args.columns.now in
    let u = c.args.unknown in
    let at = subst (λ (o : Option DeclaredField). IsFieldTold schema views scope columns u c.args.names.now.places.now c.args.fields.now c.args.place o) (sym c.in-Some.ensures) told in
    let code = c.in_ok-code.ensures at in
    let size = c.in_ok-number_size.ensures columns u at in
    (λ i. record { code = code i; number_size = size i })
    ∙ sym (kept_is views scope schema columns u c.args.place (Some c.in-Some.field.now) h (sym c.in-Some.ensures))

pub returns-in_default : goal.returns-in_default
returns-in_default c = λ h told.
    let schema = c.args.names.now.schema.now in
    let views = c.args.names.now.views.now in
    let scope = c.args.names.now.scope.now in
    let columns = c.args.columns.now in
    let code = c.in_ok-resolved_null.ensures columns in
    (λ i. record { code = code i; number_size = 1 })
    ∙ sym (kept_is views scope schema columns c.args.unknown c.args.place None h (sym c.in_default.ensures))
