use Rattle.std.proofs.Common.{◌≡◌, ◌++◌, map}
use Rattle.std.specs.Vec.Iter.{into_iter_items}
use Rattle.serde_json.specs.Data.{string}
use Rattle.serde_json.specs.View.{view}
use Rattle.lk_command_reply.proofs.replies.names_value.Given as goal

abbrev pub invariant-loop-name : goal.invariant-loop-name
invariant-loop-name l = record {
  can_go_on : goal.iterator-loop-name.can_next l.name-iterator;
  will_end : goal.iterator-loop-name.is_finite l.name-iterator;
  rest : map view l.texts.items ++ map string (into_iter_items l.name-iterator) ≡ map string l.fn.names;
}
