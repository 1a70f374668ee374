use Rattle.std.proofs.Common.{◌≡◌, ◌+◌, ◌*◌, ◌<◌, ap, arith}
use Rattle.lk_read.specs.Entry.{entry_size, entries_size}
use Rattle.lk_read.specs.EntryOutline.{one_of, entry_of, entries_of}
use Rattle.lk_read.specs.OutlineCode.{size_of}
use Rattle.lk_read.proofs.OutlineLaws.{value_size, item_fits, entry_fits, one_size}
use Rattle.lk_read.proofs.print.+print.Goals as goal

pub print_items-print_item-requires : goal.print_items-print_item-requires
print_items-print_item-requires t c =
    let item = c.item-item.result in
    let fits = item_fits c.items-item-items.result.now c.loop-item.item-index item c.args.tree.now c.loop-item-test.true c.item-item.is c.loop-item.invariant.all in
    let below : 8 * value_size item.value + 8 < 8 * size_of c.args.tree.now + 1 = omega (arith, fits) in
    (omega (arith, below, c.decreases), tt)

pub print_entry-print_value-requires : goal.print_entry-print_value-requires
print_entry-print_value-requires t c =
    let value = c.in-One.value in
    let same : entry_size (entry_of c.args.entry.now) ≡ entry_size (one_of value) = ap (λ e. entry_size (entry_of e)) c.in-One.is in
    let below : 8 * value_size value + 6 < 8 * entry_size (entry_of c.args.entry.now) + 2 = omega (arith, one_size value, same) in
    (omega (arith, below, c.decreases), tt)

pub print_further-print_entry-requires : goal.print_further-print_entry-requires
print_further-print_entry-requires t c =
    let e = c.entry-item.result in
    let fits = entry_fits c.args.entries.now c.loop-entry.entry-index e c.loop-entry-test.true c.entry-item.is in
    let below : 8 * entry_size (entry_of e) + 2 < 8 * entries_size (entries_of c.args.entries.now) + 3 = omega (arith, fits) in
    (omega (arith, below, c.decreases), tt)
