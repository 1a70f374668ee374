-- Connections that were served side by side, along one list of the editions that readers were shown. (lookd)
use Rattle.std.specs.Prelude.{ℕ, List, Option, IfSome}
use Rattle.lk_edition.specs.Standings.{Standing}
use Rattle.lk_turns.specs.Runs.{IsSession}
use Rattle.lk_turns.specs.declared.ended.Ended.{Ended}
use Rattle.lk_live.specs.Places.{DoesAt, place_of}
use Rattle.lk_live.specs.declared.live.Live.{Live}

-- over bytes that a connection's link tells, what went out are the replies of a session along the list, from what was known of its worker to what is,
-- and it ended so
abbrev pub IsServedAlong : List Standing → Live → Option (List ℕ) → Option (List ℕ) → Live → Option (List ℕ) → Option (List ℕ) → Ended → Type 0
IsServedAlong all before left held after left' held' how =
    IfSome left (λ bytes. IsSession (DoesAt all) (place_of before) bytes held held' (place_of after) left' how)
