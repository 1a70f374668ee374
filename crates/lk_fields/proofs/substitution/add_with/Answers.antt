use Rattle.std.proofs.Common.{◌≡◌, ◌++◌, ◌∷◌, [], refl, ap, ◌∙◌, sym, subst}
use Rattle.std.proofs.lemmas.Result.{on_ok_weaker}
use Rattle.lk_val.specs.declared.value.Value.TheVariants as value
use Rattle.lk_types.specs.Formula.{Literal}
use Rattle.lk_types.specs.FormulaNodes.{formula_of}
use Rattle.lk_types.specs.declared.expr.Node.TheVariants as node
use Rattle.lk_fields.specs.Substituted.{replacement}
use Rattle.lk_fields.specs.SubstitutedNodes.{IsAddedWith}
use Rattle.lk_types.proofs.NodeLaws.{BuildsOne, own, leaf}
use Rattle.lk_fields.proofs.SubstitutionLaws.{column_added, found_at, node_added, past_end}
use Rattle.lk_fields.proofs.substitution.add_with.Goals as goal

pub returns-in-Some : goal.returns-in-Some
returns-in-Some c =
    let s = replacement c.args.by.now in
    let column = c.in-Column.column in
    let added = c.nodes.result.now in
    let stands : formula_of added ≡ s column = c.nodes.ensures.value ∙ found_at c.args.by.now column c.in-Some.replacement.now c.in-Some.ensures.lookup.0 c.in-Some.ensures.lookup.1 in
    let one : BuildsOne added (s column) = subst (BuildsOne added) stands (own added c.nodes.ensures.whole) in
    on_ok_weaker c.add_copies.result
    (λ is. subst (λ n. IsAddedWith s n c.args.nodes.now c.add_copies.new.nodes) (sym c.in-Column.is)
    (column_added s c.in-Column.field-0 column added c.args.nodes.now c.add_copies.new.nodes one is))
    c.add_copies.ensures

pub returns-in-None : goal.returns-in-None
returns-in-None c =
    let s = replacement c.args.by.now in
    let column = c.in-Column.column in
    let added = node.Literal value.Null ∷ [] in
    let stands : Literal value.Null ≡ s column = past_end c.args.by.now column c.in-None.ensures.lookup.0 in
    let one : BuildsOne added (s column) = subst (BuildsOne added) stands (leaf (node.Literal value.Null) refl) in
    on_ok_weaker c.push.result
    (λ is. subst (λ n. IsAddedWith s n c.args.nodes.now c.push.new.self) (sym c.in-Column.is)
    (column_added s c.in-Column.field-0 column added c.args.nodes.now c.push.new.self one is))
    c.push.ensures.ok

pub returns-in_ok-copied-in_default : goal.returns-in_ok-copied-in_default
returns-in_ok-copied-in_default c =
    on_ok_weaker c.push-in_default.result
    (λ is. node_added (replacement c.args.by.now) c.args.node.now c.args.nodes.now c.push-in_default.new.self c.in_default.not-Column
    (is ∙ ap (λ n. c.args.nodes.now ++ n ∷ []) c.in_ok-copied-in_default.ensures))
    c.push-in_default.ensures.ok
