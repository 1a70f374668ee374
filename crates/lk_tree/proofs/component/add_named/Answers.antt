use Rattle.std.proofs.Common.{◌≡◌, ◌+◌, ◌-◌, ◌∙◌, ◌++◌, ◌∷◌, [], List, ℕ, ap, sym, drop, length, append_assoc, append-nil, arith}
use Rattle.std.specs.Prelude.{slice_index_or}
use Rattle.lk_tree.specs.Components.{stacked}
use Rattle.lk_tree.proofs.ComponentLaws.{drop_past}
use Rattle.lk_tree.proofs.StackedLaws.{stacked-next}
use Rattle.lk_tree.proofs.component.add_named.Goals as goal

pub loop-place-init : goal.loop-place-init
loop-place-init c =
    let named = c.as_slice-named.result.now in
    record {
      within = omega arith;
      stacked = sym (append-nil c.args.left.now.items) ∙ ap (λ (measures : List ℕ). c.args.left.now.items ++ stacked c.args.most measures) (sym (drop_past named (length named) (omega arith)));
    }

pub loop-place-preserved : goal.loop-place-preserved
loop-place-preserved c =
    let named = c.as_slice-named.result.now in
    let before = c.args.left.now.items in
    let k = c.loop-place.place - 1 in
    let here : k + 1 ≡ c.loop-place.place = omega (arith, c.loop-place-test.true) in
    let m = slice_index_or named k 0 in
    record {
      within = omega (arith, c.loop-place.invariant.within);
      stacked =
          c.in_ok-push.ensures.items
          ∙ ap (λ (left : List (ℕ × ℕ)). left ++ (c.args.most, m) ∷ []) (c.loop-place.invariant.stacked ∙ ap (λ j. before ++ stacked c.args.most (drop j named)) (sym here))
          ∙ append_assoc before (stacked c.args.most (drop (k + 1) named)) ((c.args.most, m) ∷ [])
          ∙ ap (λ (left : List (ℕ × ℕ)). before ++ left) (stacked-next c.args.most named k 0 (omega (arith, c.loop-place-test.true, c.loop-place.invariant.within)));
    }

pub returns : goal.returns
returns c =
    let named = c.as_slice-named.result.now in
    let before = c.args.left.now.items in
    let first : c.loop-place.place ≡ 0 = omega (arith, c.loop-place-test.false) in
    c.loop-place.invariant.stacked
    ∙ ap (λ j. before ++ stacked c.args.most (drop j named)) first
    ∙ ap (λ (measures : List ℕ). before ++ stacked c.args.most measures) (c.as_slice-named.ensures ∙ c.in_ok-named.ensures)
