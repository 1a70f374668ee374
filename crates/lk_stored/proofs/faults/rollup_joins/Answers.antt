use Rattle.std.proofs.Common.{◌≡◌, ◌∙◌, ◌++◌, ap}
use Rattle.std.proofs.lemmas.Result.{IfOk-weaker}
use Rattle.lk_semantics.specs.Answers.{dims_of, filtered, picked_measures}
use Rattle.lk_semantics.specs.Derived.{joins_for}
use Rattle.lk_semantics.specs.Rollups.{rollup_joins}
use Rattle.lk_stored.proofs.JoinLaws.{dims_picked, measures_picked}
use Rattle.lk_stored.proofs.faults.rollup_joins.Goals as goal

pub returns : goal.returns
returns c =
    let x = c.args.x.now in
    let r = c.args.rollup.now in
    let picks = c.as_slice-2.ensures ∙ c.in_ok-picks.ensures in
    let dims = ap dims_of picks ∙ dims_picked r.dims r.measures in
    let measures = ap picked_measures picks ∙ measures_picked r.dims r.measures in
    let fields = c.as_slice-3.ensures ∙ c.in_ok-fields.ensures ∙ ap filtered c.as_slice.ensures in
    IfOk-weaker c.need_joins.result
    (λ joins. joins ≡ joins_for x (dims_of c.as_slice-2.result.now ++ c.as_slice-3.result.now) (picked_measures c.as_slice-2.result.now))
    (λ joins. joins ≡ rollup_joins x r)
    (λ joins is. is ∙ (λ i. joins_for x (dims i ++ fields i) (measures i)))
    c.need_joins.ensures
