use Rattle.std.proofs.Common.{◌≡◌, ◌∙◌, ap, sym}
use Rattle.lk_answer.specs.Replies.{replied}
use Rattle.lk_reply_laws.proofs.AgreeLaws.{isolated}
use Rattle.lk_reply_laws.proofs.laws.replies_are_isolated.Goals as goal

pub returns : goal.returns
returns c = λ e f past later user other explore body now csv r s agree h k.
    let one : h.bound ≡ agree.bound = c.bound_bodies_are_determined.ensures e.model e.users user explore body now h.bound agree.bound h.is_bound agree.is_bound in
    let two : k.bound ≡ agree.bound_other = c.bound_bodies_are_determined.ensures f.model f.users other explore body now k.bound agree.bound_other k.is_bound agree.is_bound_other in
    h.is ∙ ap (replied e past now csv) one
    ∙ sym (isolated c.rows_depend_on_no_moment.ensures.visible c.callers_are_routed_alike.ensures e f past later user other explore body now csv agree)
    ∙ sym (k.is ∙ ap (replied f later now csv) two)
