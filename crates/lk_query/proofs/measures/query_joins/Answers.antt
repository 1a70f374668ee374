use Rattle.std.proofs.Common.{◌≡◌, ◌∙◌, ◌++◌, IfOk, map, ap, subst}
use Rattle.lk_types.specs.declared.model.Pick.TheVariants.{Mea}
use Rattle.lk_semantics.specs.Answers.{filtered}
use Rattle.lk_query.proofs.JoinLaws.{joins_of}
use Rattle.lk_query.proofs.measures.query_joins.Goals as goal

pub returns : goal.returns
returns c =
    let f = c.args.filters.now in
    subst (λ all. IfOk c.need_joins.result (λ joins. joins ≡ all))
    (joins_of c.args.x.now c.args.picks.now f.rows f.access f.having c.as_slice-2.result.now c.as_slice-3.result.now
    (c.as_slice-2.ensures ∙ c.in_ok-picks.ensures ∙ ap (λ h. c.args.picks.now ++ map Mea (filtered h)) c.as_slice.ensures)
    (c.as_slice-3.ensures ∙ c.in_ok-fields.ensures))
    c.need_joins.ensures
