use Rattle.std.proofs.Common.{◌∙◌, ◌++◌, ap}
use Rattle.lk_sql_tree.specs.ClauseTexts.{back_text, front_text}
use Rattle.lk_sql_tree.proofs.ClauseLaws.{clauses_are}
use Rattle.lk_sql_tree.proofs.printing.print_sql.Goals as goal

pub returns : goal.returns
returns c =
    c.in_ok-append_back.ensures
    ∙ ap (λ ts. ts ++ back_text c.args.s.now) (c.in_ok-append_front.ensures ∙ ap (λ ts. ts ++ front_text c.args.s.now) c.new-text.ensures)
    ∙ clauses_are c.args.s.now
