use Rattle.std.proofs.Common.{◌≡◌, ◌∙◌, ◌++◌, List, ℕ, ap, map}
use Rattle.std.proofs.lemmas.Result.{IfOk-weaker}
use Rattle.lk_types.specs.declared.model.Pick.{Pick}
use Rattle.lk_semantics.specs.Answers.{dims_of, picked_measures}
use Rattle.lk_semantics.specs.Derived.{derived_query, joins_for}
use Rattle.lk_stored.specs.Reads.{filtered_fields}
use Rattle.lk_stored.proofs.JoinLaws.{derived_joins_are}
use Rattle.lk_stored.proofs.reads.derived_joins.Goals as goal

pub returns : goal.returns
returns c =
    let x = c.args.x.now in
    let d = c.args.table.now in
    let picks = c.as_slice-2.ensures ∙ c.in_ok-picks.ensures in
    let fields = c.as_slice-3.ensures ∙ c.in_ok-fields.ensures ∙ ap (filtered_fields x) c.as_slice.ensures in
    IfOk-weaker c.need_joins.result
    (λ joins. joins ≡ joins_for x (dims_of c.as_slice-2.result.now ++ c.as_slice-3.result.now) (picked_measures c.as_slice-2.result.now))
    (λ joins. joins ≡ (derived_query x d).joins)
    (λ joins is. is ∙ (λ i. joins_for x (dims_of (picks i) ++ fields i) (picked_measures (picks i))) ∙ derived_joins_are x d)
    c.need_joins.ensures
