-- What a desk has seen after it learnt a note. (lookd)
use Rattle.std.specs.Prelude.{◌≡◌, List, length, nat_lt, if◌then◌else◌}
use mathlib.Core.List.{IsPrefix}

-- the second list where it has more values, and else the first
abbrev pub longer : {A : Type 0} → List A → List A → List A
longer first second = if nat_lt (length first) (length second) then second else first

-- what is seen now is the longer of what was seen and what the note says, and begins with both
abbrev pub Learns : {A : Type 0} → List A → List A → List A → Type 0
Learns before note now = (now ≡ longer before note) × IsPrefix before now × IsPrefix note now
