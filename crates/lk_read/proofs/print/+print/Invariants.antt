use Rattle.std.proofs.Common.{◌≡◌, ◌++◌, ◌+◌, ◌*◌, drop}
use Rattle.lk_read.specs.Canonical.{further_entries, text_at}
use Rattle.lk_read.specs.Entry.{entry_size, entries_size}
use Rattle.lk_read.specs.EntryOutline.{entry_of, entries_of}
use Rattle.lk_read.specs.OutlineCode.{size_of}
use Rattle.lk_read.specs.TreeOutline.{outline_of}
use Rattle.lk_read.proofs.OutlineLaws.{value_size}
use Rattle.lk_read.proofs.print.+print.Given as goal

-- what is written, and what is left, is all
abbrev pub invariant-print_items-loop-item : goal.invariant-print_items-loop-item
invariant-print_items-loop-item l = record {
  all : outline_of l.item-items ≡ l.tree;
  rest : l.text ++ text_at l.margin (outline_of (drop l.item-index l.item-items)) ≡ l.fn.text ++ text_at l.margin (outline_of l.item-items);
}

abbrev pub invariant-print_further-loop-entry : goal.invariant-print_further-loop-entry
invariant-print_further-loop-entry l = l.text ++ further_entries (entries_of (drop l.entry-index l.entries)) ≡ l.fn.text ++ further_entries (entries_of l.entries)

abbrev pub decreases-print_items : goal.decreases-print_items
decreases-print_items l = 8 * size_of l.tree.now + 1

abbrev pub decreases-print_block : goal.decreases-print_block
decreases-print_block l = 8 * size_of l.inner.now + 2

abbrev pub decreases-print_item : goal.decreases-print_item
decreases-print_item l = 8 * value_size l.item.now.value + 8

abbrev pub decreases-print_value : goal.decreases-print_value
decreases-print_value l = 8 * value_size l.value.now + 6

abbrev pub decreases-print_list : goal.decreases-print_list
decreases-print_list l = 8 * entries_size (entries_of l.entries.now) + 5

abbrev pub decreases-print_entries : goal.decreases-print_entries
decreases-print_entries l = 8 * entries_size (entries_of l.entries.now) + 4

abbrev pub decreases-print_further : goal.decreases-print_further
decreases-print_further l = 8 * entries_size (entries_of l.entries.now) + 3

abbrev pub decreases-print_entry : goal.decreases-print_entry
decreases-print_entry l = 8 * entry_size (entry_of l.entry.now) + 2
