use Rattle.std.proofs.Common.{◌≡◌, ◌∙◌, map, ap, subst}
use Rattle.std.specs.Prelude.{IfOk}
use Rattle.lk_gather.specs.Measures.{taken_of}
use Rattle.lk_gather.proofs.asked.Asked.cells.Goals as goal

pub returns : goal.returns
returns c =
    let row = c.args.row.now in
    subst (λ v. IfOk c.cells_of.result (λ cells. cells ≡ v))
    (ap (map (λ t. taken_of t row)) c.as_slice.ensures ∙ c.args.self.now.gives_cells row)
    c.cells_of.ensures
