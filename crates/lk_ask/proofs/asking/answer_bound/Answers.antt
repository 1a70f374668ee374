use Rattle.std.proofs.Common.{◌≡◌, ◌∙◌, ap, subst, w64}
use Rattle.std.proofs.lemmas.Int.{to_z-of_z}
use Rattle.std.specs.Prelude.{Err}
use Rattle.lk_types.specs.declared.explore.Explore.{Explore}
use Rattle.lk_semantics.specs.Derived.{explore_at}
use Rattle.lk_val.specs.Memory.{IsUnlessMemory, Unless}
use Rattle.lk_filter.specs.PlacedModel.{placed_model}
use Rattle.lk_ask.specs.Asks.{is_no_memory, told_by, told_over}
use Rattle.lk_ask.proofs.asking.answer_bound.Goals as goal

pub returns-in-Ok : goal.returns-in-Ok
returns-in-Ok c =
    let b = c.args.bound in
    let m = c.args.m.now in
    let s = c.args.sources.now in
    let counted = c.in-Ok.counted in
    let told = ap (λ (x : Explore). told_by x b counted.rows counted.answer) c.explore_of.ensures ∙ c.in-Ok.ensures in
    subst (λ n. IsUnlessMemory is_no_memory c.told_by.result (told_over (explore_at (placed_model n m) b.explore) s b)) (to_z-of_z w64 c.args.now c.ranges.now)
    (subst (IsUnlessMemory is_no_memory c.told_by.result) told c.told_by.ensures)

pub returns-in-Err : goal.returns-in-Err
returns-in-Err c =
    let b = c.args.bound in
    let m = c.args.m.now in
    let why = c.in-Err.fault in
    subst (λ n. Unless (is_no_memory why) (Err why ≡ told_over (explore_at (placed_model n m) b.explore) c.args.sources.now b)) (to_z-of_z w64 c.args.now c.ranges.now)
    c.in-Err.ensures
