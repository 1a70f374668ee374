use Rattle.std.proofs.Common.{ℕ, ◌∙◌, ◌++◌, ◌∷◌, [], List, sym, subst}
use Rattle.std.specs.Prelude.{if◌then◌else◌}
use Rattle.lk_semantics.specs.Joins.{repeats_earlier}
use Rattle.lk_tree.specs.PartSets.{HasParts}
use Rattle.lk_tree.proofs.fanning.fanned_by.Goals as goal

pub returns-then-is_repeated : goal.returns-then-is_repeated
returns-then-is_repeated c = λ before fanned h.
    let earlier : List ℕ = if repeats_earlier c.args.join.now then before else fanned in
    subst (λ b. HasParts c.with_part.result ((if b then c.args.part ∷ [] else []) ++ earlier)) (sym (sym (c.is_repeated.ensures before fanned h) ∙ c.if-is_repeated.true))
    (c.with_part.ensures earlier (c.earlier_views-earlier.ensures before fanned h))

pub returns-else-is_repeated : goal.returns-else-is_repeated
returns-else-is_repeated c = λ before fanned h.
    let earlier : List ℕ = if repeats_earlier c.args.join.now then before else fanned in
    subst (λ b. HasParts c.earlier_views-earlier.result ((if b then c.args.part ∷ [] else []) ++ earlier)) (sym (sym (c.is_repeated.ensures before fanned h) ∙ c.if-is_repeated.false))
    (c.earlier_views-earlier.ensures before fanned h)
