use Rattle.std.proofs.Common.{◌≡◌, ◌∙◌, ap, sym}
use Rattle.lk_answer.specs.Replies.{replied}
use Rattle.lk_answer.proofs.laws.bodies_are_replied_one_thing.Goals as goal

pub returns : goal.returns
returns c = λ e past user explore body now csv r s h k.
    let same : h.bound ≡ k.bound = c.bound_bodies_are_determined.ensures e.model e.users user explore body now h.bound k.bound h.is_bound k.is_bound in
    h.is ∙ ap (replied e past now csv) same ∙ sym k.is
