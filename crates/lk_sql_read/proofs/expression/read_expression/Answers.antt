use Rattle.std.proofs.Common.{◌≡◌, ap, sym, ◌∙◌, subst}
use Rattle.std.specs.Prelude.{option_map, IfSome, is_some}
use Rattle.lk_sql_tree.specs.SqlNodes.{sql_of}
use Rattle.lk_sql_read.proofs.ExpressionLaws.{nothing, built, unbuilt}
use Rattle.lk_sql_read.proofs.expression.read_expression.Goals as goal

pub returns-in_default : goal.returns-in_default
returns-in_default c = record {
  every = λ e rest h k is. nothing c.args.text.now e rest h k is
      (ap (option_map (λ first. (first.0, first.1.now))) (sym c.in_default.is) ∙ c.in_ok-nodes.ensures);
}

pub returns-in-Some-2 : goal.returns-in-Some-2
returns-in-Some-2 c = record {
  every = λ e rest h k is. built c.args.text.now e rest h k is c.in-Some.nodes c.in-Some.rest.now
      (ap (option_map (λ first. (first.0, first.1.now))) (sym c.in-Some.is) ∙ c.in_ok-nodes.ensures)
      c.in-Some-2.expression (subst (λ o. IfSome o (λ x. x ≡ sql_of c.in-Some.nodes)) c.in-Some-2.is c.in_ok-expression.ensures.value);
}

pub returns-in-None : goal.returns-in-None
returns-in-None c = record {
  every = λ e rest h k is. unbuilt c.args.text.now e rest h k is c.in-Some.nodes c.in-Some.rest.now
      (ap (option_map (λ first. (first.0, first.1.now))) (sym c.in-Some.is) ∙ c.in_ok-nodes.ensures)
      (ap is_some (sym c.in-None.is) ∙ c.in_ok-expression.ensures.some);
}
