use Rattle.lk_merge.proofs.HandedLaws.{walk_begun}
use Rattle.lk_merge.proofs.contributors.inherited.Goals as goal

pub loop-left-init : goal.loop-left-init
loop-left-init c =
    walk_begun c.args.all.now.them.now c.args.kind c.args.depth c.args.names c.as_slice.result.now
    c.add_waiting.new.todo.items c.new-todo.result.items c.new-found.result.items
    c.in_ok-add_waiting.ensures c.new-todo.ensures.items c.as_slice.ensures c.new-found.ensures.items
