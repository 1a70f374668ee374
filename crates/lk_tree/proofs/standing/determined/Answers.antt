use Rattle.std.proofs.Common.{◌≡◌, ◌∙◌, List, ℕ, Bool, ap, length}
use Rattle.std.proofs.lemmas.Result.{IfOk-weaker}
use Rattle.std.specs.Prelude.{filter}
use Rattle.lk_semantics.specs.Joins.{numbers_below}
use Rattle.lk_semantics.specs.Rollups.{determined_views}
use Rattle.lk_tree.specs.Roles.{is_marked}
use Rattle.lk_tree.specs.declared.standing.Standings.{Standings}
use Rattle.lk_tree.proofs.StandingLaws.{marked_are_determined}
use Rattle.lk_tree.proofs.standing.determined.Goals as goal

pub returns : goal.returns
returns c =
    let x = c.args.x.now in
    let all = numbers_below (length x.parts) in
    let kept = λ (marks : List Bool). filter (is_marked marks) all in
    IfOk-weaker c.marked_views.result (λ views. views ≡ kept c.as_slice.result.now) (λ views. views ≡ determined_views x c.args.joins.now c.args.v)
    (λ views is. is ∙ ap kept (c.as_slice.ensures ∙ ap (λ (s : Standings). s.determined) c.in_ok-marks.ensures) ∙ marked_are_determined x c.args.joins.now c.args.v)
    c.marked_views.ensures
