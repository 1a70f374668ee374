use Rattle.std.proofs.Common.{◌++◌, ◌∷◌, [], ap, ◌∙◌}
use Rattle.lk_region.proofs.CutLaws.{push_text, push_cut}
use Rattle.lk_region.proofs.texts.Texts.push.Goals as goal

pub invariant_of-self-2 : goal.invariant_of-self-2
invariant_of-self-2 c =
    push_cut c.self.inside.ends.items c.self.inside.bytes.items c.args.text.now c.args.self.now c.self.view_is
    c.self.invariant c.push_reserved.new.self.items c.extend_from_slice.new.self.items c.len.result
    c.in_ok-extend_from_slice.ensures.items
    (c.len.ensures ∙ c.extend_from_slice.new.self.ok.0)
    (c.push_reserved.ensures.items ∙ ap (λ ends. ends ++ c.len.result ∷ []) c.reserve.ensures.items)

pub returns-clause-ok : goal.returns-clause-ok
returns-clause-ok c =
    push_text c.self.inside.ends.items c.self.inside.bytes.items c.args.text.now c.args.self.now c.self.view_is
    c.self.invariant c.push_reserved.new.self.items c.extend_from_slice.new.self.items c.len.result
    c.in_ok-extend_from_slice.ensures.items
    (c.len.ensures ∙ c.extend_from_slice.new.self.ok.0)
    (c.push_reserved.ensures.items ∙ ap (λ ends. ends ++ c.len.result ∷ []) c.reserve.ensures.items)
