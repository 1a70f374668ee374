use Rattle.std.proofs.Common.{◌≡◌, IfOk, subst, sym}
use Rattle.lk_types.specs.declared.expr.Node.{Node}
use Rattle.lk_dated.specs.Dated.{stands_at}
use Rattle.lk_dated.specs.DatedNodes.{tree_made}
use Rattle.lk_dated.proofs.comparing.tree_made.Goals as goal

pub returns-in-Column : goal.returns-in-Column
returns-in-Column c =
    subst (λ (n : Node). IfOk c.stands_at.result (λ tree. tree ≡ tree_made (stands_at c.args.by.now) n c.args.sides.now c.args.operands.items))
    (sym c.in-Column.is) (c.stands_at.ensures c.in-Column.field-0)
