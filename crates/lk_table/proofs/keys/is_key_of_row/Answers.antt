use Rattle.std.proofs.Common.{rules, sym}
use Rattle.std.proofs.lemmas.Fn.{always_returns_same}
use Rattle.lk_val.specs.ValueRefs.{value_of_ref}
use Rattle.lk_val.specs.Values.{value_cmp}
use Rattle.lk_table.specs.KeySets.{row_key}
use Rattle.lk_table.proofs.KeyOrderLaws.{searched_key, searched_none}
use Rattle.lk_table.proofs.keys.is_key_of_row.Goals as goal

pub returns-in-Ok : goal.returns-in-Ok
returns-in-Ok c =
    let compared = always_returns_same _ _ _ (λ row order f k. search rules) in
    sym (searched_key c.args.column c.args.block.now.rows c.args.order.now c.requires (value_of_ref c.args.key) c.binary_search_by.result c.in-Ok.field-0 c.in-Ok.is
    c.in-Ok.ensures.bound
    (c.binary_search_by.ensures.position (λ row. value_cmp (row_key c.args.column c.args.block.now.rows row) (value_of_ref c.args.key)) compared))

pub returns-in-Err : goal.returns-in-Err
returns-in-Err c =
    let compared = always_returns_same _ _ _ (λ row order f k. search rules) in
    sym (searched_none c.args.column c.args.block.now.rows c.args.order.now c.requires (value_of_ref c.args.key) c.binary_search_by.result c.in-Err.field-0 c.in-Err.is
    (c.binary_search_by.ensures.position (λ row. value_cmp (row_key c.args.column c.args.block.now.rows row) (value_of_ref c.args.key)) compared))
