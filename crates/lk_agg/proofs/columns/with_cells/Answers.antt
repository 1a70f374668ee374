use Rattle.std.proofs.Common.{◌≡◌, ◌+◌, ◌<◌, ◌∙◌, sym, ap, length, take, drop, List, ℕ, arith, append_assoc, ◌++◌, ◌∷◌, [], length-set}
use Rattle.std.specs.Prelude.{slice_set, slice_index_or}
use Rattle.std.proofs.lemmas.List.{take_more_set, drop-set-lt, drop_more}
use Rattle.lk_semantics.specs.Measures.{no_entry}
use Rattle.lk_types.specs.declared.answer.KeyValue.{KeyValue}
use Rattle.lk_agg.specs.declared.columns.Column.{Column}
use Rattle.lk_agg.specs.Columns.{with_cells, with_given}
use Rattle.lk_agg.specs.Given.{given_cells}
use Rattle.lk_agg.proofs.columns.with_cells.Goals as goal

-- the column at i with what the row gives to it, and those after it
step : (place : ℕ) (cells : List KeyValue) (xs : List Column) (i : ℕ) (x y : Column) → i < length xs → x ≡ slice_index_or xs i x → y ≡ with_given place (slice_index_or cells i no_entry) x
    → take (i + 1) (slice_set xs i y) ++ with_cells (i + 1) place cells (drop (i + 1) (slice_set xs i y)) ≡ take i xs ++ with_cells i place cells (drop i xs)
step place cells xs i x y within is new =
    ap (λ zs. zs ++ with_cells (i + 1) place cells (drop (i + 1) (slice_set xs i y))) (take_more_set xs i y within)
    ∙ ap (λ zs. (take i xs ++ y ∷ []) ++ with_cells (i + 1) place cells zs) (drop-set-lt (i + 1) xs i y (omega arith))
    ∙ append_assoc (take i xs) (y ∷ []) (with_cells (i + 1) place cells (drop (i + 1) xs))
    ∙ ap (λ z. take i xs ++ z ∷ with_cells (i + 1) place cells (drop (i + 1) xs)) new
    ∙ ap (λ z. take i xs ++ with_given place (slice_index_or cells i no_entry) z ∷ with_cells (i + 1) place cells (drop (i + 1) xs)) is
    ∙ sym (ap (λ zs. take i xs ++ with_cells i place cells zs) (drop_more xs i x within))

pub loop-i-preserved : goal.loop-i-preserved
loop-i-preserved c =
    let xs = c.loop-i.all.items in
    let i = c.loop-i.i in
    let cells = given_cells c.args.cells in
    let within : i < length xs = omega (arith, c.loop-i-test.true, c.loop-i.invariant.all) in
    let new = c.in_ok-add_given.ensures ∙ ap (λ g. with_given c.args.place g c.index_mut.result.now) c.given_at.ensures in
    record {
      all = length-set xs i c.add_given.new.column ∙ c.loop-i.invariant.all;
      rest = step c.args.place cells xs i c.index_mut.result.now c.add_given.new.column within c.index_mut.ensures.value new ∙ c.loop-i.invariant.rest;
    }
