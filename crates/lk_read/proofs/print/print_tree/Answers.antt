use Rattle.std.proofs.Common.{◌≡◌, [], ◌++◌, IfOk, subst}
use Rattle.lk_read.specs.Canonical.{canonical, text_at}
use Rattle.lk_read.proofs.RoundTrip.{answers_again}
use Rattle.lk_read.proofs.print.print_tree.Goals as goal

pub returns : goal.returns
returns c =
    let printed : IfOk c.print_items.result (λ text. text ≡ canonical c.args.tree.now) =
    subst (λ x. IfOk c.print_items.result (λ text. text ≡ x ++ text_at [] c.args.tree.now)) c.new.ensures c.print_items.ensures in
    record {
      canonical = printed;
      again = answers_again 32 c.args.tree.now c.print_items.result printed;
    }
