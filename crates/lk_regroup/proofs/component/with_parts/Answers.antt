use Rattle.std.proofs.Common.{◌≡◌, ◌+◌, ◌<◌, ◌∙◌, sym, ap, length, take, drop, List, ℕ, arith, append_assoc, ◌++◌, ◌∷◌, [], map, length-set}
use Rattle.std.specs.Prelude.{slice_set, slice_index_or}
use Rattle.std.proofs.lemmas.List.{take_more_set, drop-set-lt, drop_more}
use Rattle.lk_types.specs.declared.answer.Partial.{Partial}
use Rattle.lk_regroup.specs.declared.component.ComponentParts.{ComponentParts}
use Rattle.lk_regroup.specs.ComponentParts.{with_parts}
use Rattle.lk_regroup.proofs.component.with_parts.Goals as goal

-- what the group has at i with what the row keeps of it, and what follows
step : (partials : List Partial) (xs : List ComponentParts) (i : ℕ) (x y : ComponentParts) → i < length xs → x ≡ slice_index_or xs i x → y ≡ with_parts partials x
    → take (i + 1) (slice_set xs i y) ++ map (with_parts partials) (drop (i + 1) (slice_set xs i y)) ≡ take i xs ++ map (with_parts partials) (drop i xs)
step partials xs i x y within is new =
    ap (λ zs. zs ++ map (with_parts partials) (drop (i + 1) (slice_set xs i y))) (take_more_set xs i y within)
    ∙ ap (λ zs. (take i xs ++ y ∷ []) ++ map (with_parts partials) zs) (drop-set-lt (i + 1) xs i y (omega arith))
    ∙ append_assoc (take i xs) (y ∷ []) (map (with_parts partials) (drop (i + 1) xs))
    ∙ ap (λ z. take i xs ++ z ∷ map (with_parts partials) (drop (i + 1) xs)) new
    ∙ ap (λ z. take i xs ++ with_parts partials z ∷ map (with_parts partials) (drop (i + 1) xs)) is
    ∙ sym (ap (λ zs. take i xs ++ map (with_parts partials) zs) (drop_more xs i x within))

pub loop-i-preserved : goal.loop-i-preserved
loop-i-preserved c =
    let xs = c.loop-i.all.items in
    let i = c.loop-i.i in
    let within : i < length xs = omega (arith, c.loop-i-test.true, c.loop-i.invariant.all) in
    record {
      all = length-set xs i c.merge.new.self ∙ c.loop-i.invariant.all;
      rest = step c.args.partials.now xs i c.index_mut.result.now c.merge.new.self within c.index_mut.ensures.value c.in_ok-merge.ensures ∙ c.loop-i.invariant.rest;
    }
