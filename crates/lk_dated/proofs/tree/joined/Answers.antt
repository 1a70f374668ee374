use Rattle.std.proofs.Common.{◌++◌, ◌∷◌, [], ◌∙◌, ap, append_assoc, subst, sym}
use Rattle.std.specs.Vec.Iter.{into_iter_items}
use Rattle.lk_postfix.specs.Postfix.{Builds}
use Rattle.lk_postfix.proofs.PostfixLaws.{Builds-append}
use Rattle.lk_types.specs.FormulaNodes.{arity, made}
use Rattle.lk_types.proofs.NodeLaws.{BuildsOne, own}
use Rattle.lk_dated.proofs.NodeLaws.{none_left, of_all}
use Rattle.lk_dated.proofs.tree.joined.Goals as goal

pub loop-tree-preserved : goal.loop-tree-preserved
loop-tree-preserved c =
    let b = c.loop-tree.invariant.built in
    let e = c.in-Some.tree in
    let one : BuildsOne c.tree.inside.nodes.items e = subst (BuildsOne c.tree.inside.nodes.items) c.tree.view_is (own c.tree.inside.nodes.items c.tree.invariant) in
    record {
      can_go_on = tt;
      will_end = tt;
      built = (
        b.0 ++ e ∷ [],
        append_assoc b.0 (e ∷ []) (into_iter_items c.next.new.self) ∙ ap (λ xs. b.0 ++ xs) (sym c.in-Some.ensures.steps.0) ∙ b.1,
        subst (λ ns. Builds arity made ns (b.0 ++ e ∷ [])) (sym c.in_ok-nodes.ensures) (Builds-append arity made b.2 one),
      );
    }

pub returns : goal.returns
returns c =
    let b = c.loop-tree.invariant.built in
    let rest = into_iter_items c.loop-tree.tree-iterator in
    of_all c.loop-tree.nodes.items b.0 rest c.args.trees.items b.2 b.1 (none_left rest (sym c.loop-tree.tree-iterator.rest.ok.0 ∙ c.in-None.ensures.steps.0))
