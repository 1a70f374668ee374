use Rattle.std.proofs.Common.{◌≡◌, ◌∙◌, IfOk, ℕ, false, ◌&&◌, List, map, Option, ap, subst, sym}
use Rattle.std.specs.Prelude.{is_none}
use Rattle.std.specs.List.{list_all}
use Rattle.std.proofs.lemmas.Result.{IfOk-weaker}
use Rattle.lk_objects.specs.declared.code.Code.{Code}
use Rattle.lk_objects.specs.declared.code.Code.TheVariants as code
use Rattle.lk_objects.specs.declared.code.Reference.{Reference}
use Rattle.lk_fields.specs.declared.scope.Sort.TheVariants as sort
use Rattle.lk_formulas.specs.declared.resolved.ResolvedCode.{ResolvedCode}
use Rattle.lk_formulas.specs.Formulas.{dated_of, formula_of, is_certain, knows, meaning, null, put_in, read_in, where_known}
use Rattle.lk_formulas.specs.Referents.{AreTold, is_certain_referent, referent_of, size_of}
use Rattle.lk_formulas.specs.Resolved.{resolved, resolved_in}
use Rattle.lk_formulas.specs.Told.{IsCodeTold}
use Rattle.lk_formulas.proofs.ToldLaws.{are_told, certain_told, other_resolved}
use Rattle.lk_formulas.proofs.code.resolved_code.Goals as goal

pub returns-in-None : goal.returns-in-None
returns-in-None c =
    let schema = c.args.names.now.schema.now in
    let views = c.args.names.now.views.now in
    let scope = c.args.names.now.scope.now in
    let places = c.args.names.now.places.now in
    let columns = c.args.columns.now in
    let u = c.args.unknown in
    let fields = c.args.fields.now in
    let w = c.args.writer in
    let r = c.resolved_with.result in
    subst (λ (x : Code). IsCodeTold schema views scope columns u places fields w x → IfOk r (λ made. made ≡ resolved_in schema views scope columns u w x))
    (sym c.in-Expr.is)
    (λ told.
    let rs = c.in-Expr.written.references in
    let one = referent_of schema views scope places w sort.Dimension in
    let by = map (meaning schema views scope columns u (formula_of schema views scope columns u) w) rs in
    let read = map (meaning schema views scope columns u (dated_of schema views scope columns u) w) rs in
    let expr = c.in-Expr.written.expr in
    let same : c.as_slice-referents.result.now ≡ map one rs =
    c.as_slice-referents.ensures ∙ c.in_ok-referents-in-Expr.ensures ∙ ap (λ (t : List Reference). map one t) c.as_slice-references.ensures in
    let whole : (o : Option ℕ) → ResolvedCode = λ o.
    resolved columns (put_in by expr) (where_known o (read_in columns read expr)) (is_none o && list_all (knows schema views scope columns u (is_certain schema views scope columns u) w) rs) in
    IfOk-weaker r (λ made. made ≡ resolved columns (put_in by expr) (read_in columns read expr) (list_all (is_certain_referent columns fields) c.as_slice-referents.result.now))
    (λ made. made ≡ resolved_in schema views scope columns u w (code.Expr c.in-Expr.written))
    (λ made is. is ∙ ap (λ b. resolved columns (put_in by expr) (read_in columns read expr) b)
    (ap (λ t. list_all (is_certain_referent columns fields) t) same ∙ certain_told schema views scope columns u places fields w rs told) ∙ ap whole (sym c.in-None.is))
    (c.resolved_with.ensures by read (subst (λ t. AreTold columns u fields t by read) (sym same) (are_told schema views scope columns u places fields w rs told))))

pub returns-in-Expr : goal.returns-in-Expr
returns-in-Expr c =
    let schema = c.args.names.now.schema.now in
    let views = c.args.names.now.views.now in
    let scope = c.args.names.now.scope.now in
    let places = c.args.names.now.places.now in
    let columns = c.args.columns.now in
    let u = c.args.unknown in
    let fields = c.args.fields.now in
    let w = c.args.writer in
    let r = c.resolved_unknown.result in
    subst (λ (x : Code). IsCodeTold schema views scope columns u places fields w x → IfOk r (λ made. made ≡ resolved_in schema views scope columns u w x))
    (sym c.in-Expr.is)
    (λ told.
    let rs = c.in-Expr.written.references in
    let one = referent_of schema views scope places w sort.Dimension in
    let by = map (meaning schema views scope columns u (formula_of schema views scope columns u) w) rs in
    let read = map (meaning schema views scope columns u (dated_of schema views scope columns u) w) rs in
    let expr = c.in-Expr.written.expr in
    let same : c.as_slice-referents.result.now ≡ map one rs =
    c.as_slice-referents.ensures ∙ c.in_ok-referents-in-Expr.ensures ∙ ap (λ (t : List Reference). map one t) c.as_slice-references.ensures in
    let whole : (o : Option ℕ) → ResolvedCode = λ o.
    resolved columns (put_in by expr) (where_known o (read_in columns read expr)) (is_none o && list_all (knows schema views scope columns u (is_certain schema views scope columns u) w) rs) in
    IfOk-weaker r (λ made. made ≡ resolved columns (put_in by expr) null false)
    (λ made. made ≡ resolved_in schema views scope columns u w (code.Expr c.in-Expr.written))
    (λ made is. is ∙ ap whole (sym c.in-Some.is))
    (c.resolved_unknown.ensures columns by (ap (λ t. map (size_of fields) t) same ∙ (are_told schema views scope columns u places fields w rs told).sizes)))

pub returns : goal.returns
returns c = λ told.
    IfOk-weaker c.resolved_null.result (λ made. made ≡ resolved c.args.columns.now null null false)
    (λ made. made ≡ resolved_in c.args.names.now.schema.now c.args.names.now.views.now c.args.names.now.scope.now c.args.columns.now c.args.unknown c.args.writer c.args.code.now)
    (λ made is. is ∙ other_resolved c.args.names.now.schema.now c.args.names.now.views.now c.args.names.now.scope.now c.args.columns.now c.args.unknown c.args.writer c.args.code.now c.in_default.not-Expr)
    (c.resolved_null.ensures c.args.columns.now)
