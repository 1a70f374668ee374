use Rattle.std.proofs.Common.{◌≡◌, ℕ, List, ◌∙◌, ap, map, subst}
use Rattle.std.specs.Prelude.{IfErr, IfOk, Option, None}
use Rattle.lk_val.specs.declared.value.Value.{Value}
use Rattle.lk_semantics.specs.Measures.{first_conflict}
use Rattle.lk_semantics.specs.Rollups.{rollup_rows}
use Rattle.lk_types.specs.declared.answer.Partial.{Partial}
use Rattle.lk_agg.specs.Finishing.{IsFaultOf, conflict_among, kept_row_of}
use Rattle.lk_agg.proofs.FinishingLaws.{conflict_among-gathered, kept-gathered}
use Rattle.lk_agg.proofs.acc.partials.Goals as goal

pub returns-clause-ok : goal.returns-clause-ok
returns-clause-ok c = λ dims ops rows taken regular.
    let conflict : conflict_among c.args.acc.groups.entries ≡ first_conflict dims ops rows = ap conflict_among taken.groups ∙ conflict_among-gathered dims ops rows regular in
    let made : map kept_row_of c.args.acc.groups.entries ≡ rollup_rows dims ops rows = ap (map kept_row_of) taken.groups ∙ kept-gathered dims ops rows regular in
    subst (λ (p : Option (ℕ × Value) × List (List Value × List Partial)). IfOk c.keep_groups.result (λ groups. (p.0 ≡ None) × (groups ≡ p.1))) (λ i. (conflict i, made i)) c.keep_groups.ensures.ok

pub returns-clause-conflict : goal.returns-clause-conflict
returns-clause-conflict c = λ dims ops rows taken regular.
    let conflict : conflict_among c.args.acc.groups.entries ≡ first_conflict dims ops rows = ap conflict_among taken.groups ∙ conflict_among-gathered dims ops rows regular in
    subst (λ (p : Option (ℕ × Value)). IfErr c.keep_groups.result (λ fault. IsFaultOf fault p)) conflict c.keep_groups.ensures.conflict
