use Rattle.std.proofs.Common.{◌≡◌, ◌<◌, ◌∙◌, ap, ap₂, sym, arith, length, map, take, subst, List}
use Rattle.std.specs.Prelude.{◌||◌}
use Rattle.std.proofs.lemmas.List.{length-map, take_all}
use Rattle.std.specs.Ordering.{is_eq}
use Rattle.lk_val.specs.Sets.{has}
use Rattle.lk_val.specs.Values.{is_same, value_cmp}
use Rattle.lk_val.specs.declared.value.Value.{Value}
use Rattle.lk_table.specs.KeySets.{HasRepeated, row_key}
use Rattle.lk_table.proofs.KeyLaws.{repeated_grow, repeated_stay}
use Rattle.lk_table.proofs.KeyOrderLaws.{equal_by, keys_more, new_there, one_alone, repeated_same, stood_there, unequal_by}
use Rattle.lk_table.proofs.keys.repeated_keys.Goals as goal
use Rattle.lk_table.proofs.keys.repeated_keys.Goals.{then-eq+in_ok-to_value+in_ok-insert, else-eq}

pub loop-i-init : goal.loop-i-init
loop-i-init c = λ k.
    ap (λ (keys : List Value). has value_cmp k keys) c.new.ensures.empty
    ∙ one_alone k (map (row_key c.args.column c.args.block.now.rows) c.args.order.now)

pub loop-i-preserved : goal.loop-i-preserved
loop-i-preserved c =
    let column = c.args.column in
    let rows = c.args.block.now.rows in
    let order = c.args.order.now in
    let i = c.loop-i.i in
    let keys = take i (map (row_key column rows) order) in
    let within : i < length order = omega (arith, c.loop-i-test.true) in
    let some : 0 < i = omega (arith, c.loop-i.auto.i) in
    let this = c.key_in-key.ensures in
    let compared = c.cmp.ensures ∙ ap₂ value_cmp c.key_in.ensures this in
    let more = keys_more column rows order c.requires i some within in
    elim c.if-eq.branch [
      | then-eq+in_ok-to_value+in_ok-insert w ↦
          let same = sym compared ∙ equal_by c.cmp.result (sym c.eq.ensures ∙ w.if-eq.true) in
          let grown = subst (λ (v : Value). (k : Value) → has value_cmp k w.insert.new.self ≡ (is_same v k || has value_cmp k c.loop-i.again))
          (w.in_ok-to_value.ensures ∙ this) w.in_ok-insert.ensures in
          rw (w.again-is, more)
          (repeated_grow keys _ c.loop-i.again w.insert.new.self (stood_there column rows order c.requires i some within same) grown c.loop-i.invariant)
      | else-eq w ↦
          let unequal = ap is_eq (sym compared) ∙ unequal_by c.cmp.result (sym c.eq.ensures ∙ w.if-eq.false) in
          rw (w.again-is, more)
          (repeated_stay keys _ c.loop-i.again (new_there column rows order c.requires i some within unequal) c.loop-i.invariant)
    ]

pub returns : goal.returns
returns c =
    let keys = map (row_key c.args.column c.args.block.now.rows) c.args.order.now in
    repeated_same c.args.column c.args.block.now.rows c.args.order.now c.requires c.loop-i.again
    (subst (λ (all : List Value). HasRepeated c.loop-i.again all)
    (take_all c.loop-i.i keys (omega (arith, c.loop-i-test.false, length-map c.args.order.now (row_key c.args.column c.args.block.now.rows))))
    c.loop-i.invariant)
