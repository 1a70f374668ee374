use Rattle.std.proofs.Common.{◌∷◌, get_or, ap, ◌∙◌}
use Rattle.lk_region.proofs.CutLaws.{part_ordered, part_within, part_text}
use Rattle.lk_region.proofs.texts.Texts.get.Goals as goal

pub part-requires-clause-ordered : goal.part-requires-clause-ordered
part-requires-clause-ordered c =
    part_ordered c.self.inside.ends.items c.self.inside.bytes.items c.args.self.now c.self.view_is c.self.invariant
    c.args.number c.start_of-start.result c.index.result.now c.requires
    (c.start_of-start.ensures ∙ ap (λ ends. get_or (0 ∷ ends) c.args.number 0) c.deref.ensures.value)
    c.index.ensures

pub part-requires-clause-within : goal.part-requires-clause-within
part-requires-clause-within c =
    rw c.deref-2.ensures.value
    (part_within c.self.inside.ends.items c.self.inside.bytes.items c.args.self.now c.self.view_is c.self.invariant
    c.args.number c.start_of-start.result c.index.result.now c.requires
    (c.start_of-start.ensures ∙ ap (λ ends. get_or (0 ∷ ends) c.args.number 0) c.deref.ensures.value)
    c.index.ensures)

pub returns : goal.returns
returns c =
    c.part.ensures
    ∙ rw c.deref-2.ensures.value
    (part_text c.self.inside.ends.items c.self.inside.bytes.items c.args.self.now c.self.view_is c.self.invariant
    c.args.number c.start_of-start.result c.index.result.now c.requires
    (c.start_of-start.ensures ∙ ap (λ ends. get_or (0 ∷ ends) c.args.number 0) c.deref.ensures.value)
    c.index.ensures)
