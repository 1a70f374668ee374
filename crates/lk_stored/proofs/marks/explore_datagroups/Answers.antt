use Rattle.std.proofs.Common.{◌≡◌, ◌∙◌, List, ℕ, ap, length, map, subst, sym}
use Rattle.std.specs.Prelude.{flat_map}
use Rattle.std.proofs.lemmas.Result.{IfOk-weaker}
use Rattle.lk_fields.specs.Reaching.{IsReached}
use Rattle.lk_semantics.specs.Reading.{datagroups_of, derived_in, explore_datagroups, with_rollups}
use Rattle.lk_stored.specs.Reads.{marked_datagroups, row_of}
use Rattle.lk_stored.proofs.ReadLaws.{datagroups_are, set_is_marked}
use Rattle.lk_stored.proofs.marks.explore_datagroups.Goals as goal

pub returns : goal.returns
returns c =
    let m = c.args.m.now in
    let x = c.args.x.now in
    let marks = c.in_ok-marks.marks in
    let tables : List ℕ = flat_map (λ part. derived_in part.origin) x.parts in
    let begun = c.as_slice-2.ensures ∙ c.in_ok-tables.ensures ∙ ap (flat_map (λ part. derived_in part.origin)) c.as_slice.ensures in
    let reach = subst (λ ts. IsReached (map (row_of m) m.derived) ts marks) begun (subst (λ rows. IsReached rows c.as_slice-2.result.now marks) c.requires.rows c.in_ok-marks.ensures) in
    let derived = c.as_slice-3.ensures in
    let marked = c.as_slice-4.ensures in
    IfOk-weaker c.with_rollups.result (λ all. all ≡ with_rollups x c.in_ok-datagroups.datagroups) (λ all. all ≡ explore_datagroups m x)
    (λ all is.
    is
    ∙ ap (with_rollups x)
    (c.in_ok-datagroups.ensures
    ∙ (λ i. marked_datagroups (derived i) (marked i) (length (derived i)))
    ∙ datagroups_are m marks (length m.derived)
    ∙ ap (datagroups_of m) (sym (set_is_marked m tables marks reach))))
    c.with_rollups.ensures
