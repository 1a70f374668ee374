use Rattle.std.proofs.Common.{◌∙◌, ◌+◌, ◌++◌, ◌∷◌, [], ap, ap₂, refl, subst, sym, length, List, Option, ℕ}
use Rattle.lk_table.specs.declared.column.Column.{Column}
use Rattle.lk_table.specs.Widening.{column_from, kind_at_place, left_from}
use Rattle.lk_table.proofs.WidenLaws.{AreLeft, left_long, left_more, wide_more}
use Rattle.lk_table.proofs.block.wide_columns.Goals as goal

pub loop-i-preserved : goal.loop-i-preserved
loop-i-preserved c =
    let places = c.args.places.now in
    let first = c.args.narrow.items in
    let narrow = c.loop-i.narrow.items in
    let i = c.loop-i.i in
    let k = kind_at_place c.args.kinds.now i in
    let kept = c.loop-i.invariant in
    let taken = c.take_column-column.ensures.value ∙ ap (λ (o : Option ℕ). column_from narrow c.args.count k o) c.source_of.ensures in
    let left = c.take_column-column.ensures.left ∙ ap (λ (o : Option ℕ). left_from narrow k o) c.source_of.ensures in
    record {
      wide = c.in_ok-push.ensures.items
          ∙ ap₂ (λ (wide : List Column) (one : Column). wide ++ one ∷ []) kept.wide taken
          ∙ wide_more places first narrow i c.args.count k kept.left c.args.kinds.now refl;
      long = ap (λ (all : List Column). length all) c.take_column-column.ensures.left ∙ left_long narrow k c.source_of.result ∙ kept.long;
      left = subst (λ (all : List Column). AreLeft places first all (i + 1)) (sym left)
          (left_more places first narrow i c.args.count k kept.left);
    }
