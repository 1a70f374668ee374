-- What a door in memory has, and what a call does to it.
use Rattle.std.specs.Prelude.{◌==◌, Bool, ◌||◌, ◌&&◌, not, if◌then◌else◌, List, drop, length}
use Rattle.lk_io.specs.Memory.{is_due, after_call}
use Rattle.lk_io.specs.declared.calls.Calls.{Calls}

-- the connections that are still to come, whether a call has answered that there are no more, whether every call is to fail, and
-- the calls
pub record Arrivals (L : Type 0) : Type 0 where
  pub links : List L
  pub ended : Bool
  pub broken : Bool
  pub calls : Calls

-- the next call is to fail
abbrev pub next_fails : {L : Type 0} → Arrivals L → Bool
next_fails door = door.broken || is_due door.calls

-- the next call answers that there are no more
abbrev pub next_ends : {L : Type 0} → Arrivals L → Bool
next_ends door = not (next_fails door) && length door.links == 0

-- the door after a call: a connection less, and none where it failed
abbrev pub after_next : {L : Type 0} → Arrivals L → Arrivals L
after_next door = record {
  links = if next_fails door then door.links else drop 1 door.links;
  ended = door.ended || next_ends door;
  broken = door.broken;
  calls = after_call (next_fails door) door.calls;
}
