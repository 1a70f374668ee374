use Rattle.std.proofs.Common.{◌≡◌, ◌∙◌, ap, List, length, sym}
use Rattle.std.specs.Prelude.{Err, filter, if◌then◌else◌, nat_lt}
use Rattle.lk_types.specs.declared.explore.Explore.{Explore}
use Rattle.lk_types.specs.declared.rows.Joined.{Joined}
use Rattle.lk_types.specs.declared.rows.Sources.{Sources}
use Rattle.lk_semantics.specs.Answers.{answer_over}
use Rattle.lk_semantics.specs.Derived.{explore_at}
use Rattle.lk_semantics.specs.Rows.{passes_all, passing_rows, visible_rows}
use Rattle.lk_derived.specs.ReadRows.{whole}
use Rattle.lk_derived.proofs.ReadRows.{joined_whole}
use Rattle.lk_filter.specs.PlacedModel.{placed_model}
use Rattle.lk_placed_laws.proofs.PlacedLaws.{visible_are}
use Rattle.lk_placed_laws.proofs.RouteLaws.{explore_is}
use Rattle.lk_ask.specs.Asks.{told_by}
use Rattle.lk_ask.specs.declared.fault.AskFault.TheVariants as fault
use Rattle.lk_ask.proofs.laws.rows_read_decide_what_is_told.Goals as goal

pub returns : goal.returns
returns c = λ m now s b h.
    let x = explore_at (placed_model now m) b.explore in
    let z = explore_at m b.explore in
    let at_moment : (t : Sources) → visible_rows x t b ≡ visible_rows z t b =
    λ t. ap (λ (y : Explore). visible_rows y t b) (explore_is now m b.explore) ∙ visible_are now z t b in
    let same = at_moment s ∙ ap (filter (passes_all z b.access)) (joined_whole m s b h) ∙ sym (at_moment (whole m s)) in
    ap (λ (rows : List Joined). if nat_lt 1000000 (length rows) then Err fault.Q10 else told_by x b (length rows) (answer_over x b (passing_rows x b.rows rows))) same
