-- Callers who see the same rows get the same answers.
use Rattle.std.proofs.Common.{ap, sym, ◌∙◌}
use Rattle.lk_semantics.specs.Rows.{visible_rows, passing_rows}
use Rattle.lk_semantics.specs.Answers.{answer_over}
use Rattle.lk_semantics.specs.Isolation.{IsIsolated}

pub isolation : IsIsolated
isolation x s t b d alike seen =
    ap (λ rows. answer_over x b (passing_rows x b.rows rows)) seen
    ∙ sym (ap (λ e. answer_over x e (passing_rows x e.rows (visible_rows x t d))) alike)
