use Rattle.std.proofs.Common.{◌∙◌, List, ℕ, ap, map}
use Rattle.std.specs.Prelude.{filter}
use Rattle.lk_types.specs.declared.bound.Sort.{Sort}
use Rattle.lk_val.specs.Sets.{set_of}
use Rattle.lk_semantics.specs.Answers.{line_cmp}
use Rattle.lk_lines.specs.Lines.{is_kept, line_by}
use Rattle.lk_lines.specs.Sources.{column_of, filtered_source}
use Rattle.lk_lines.proofs.SourceLaws.{lines-are, sorted-are}
use Rattle.lk_lines.proofs.answer.lines.Goals as goal

pub returns : goal.returns
returns c = λ ascends.
    let x = c.args.x.now in
    let b = c.args.b.now in
    let rows = c.args.groups in
    let lines =
    c.in_ok-lines.ensures.value
    ∙ ap (λ (C : List ℕ). map (line_by C (map (column_of x C) b.picks)) (filter (is_kept C (map (filtered_source x C) b.having)) rows)) (c.as_slice.ensures ∙ c.in_ok-components.ensures)
    ∙ lines-are x b rows in
    sorted-are x b rows c.in_ok-lines.lines c.sorted.result lines ascends (λ up.
    c.sorted.ensures up c.in_ok-lines.ensures.positive
    ∙ ap (λ (sorts : List Sort). set_of (line_cmp sorts) c.in_ok-lines.lines) c.as_slice-2.ensures)
