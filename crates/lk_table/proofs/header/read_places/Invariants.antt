use Rattle.std.proofs.Common.{◌≡◌, [], drop, map}
use Rattle.lk_table.specs.Batches.{places_of}
use Rattle.lk_table.proofs.header.read_places.Given as goal

abbrev pub invariant-loop-name : goal.invariant-loop-name
invariant-loop-name l =
    places_of l.columns l.places.items (drop l.name-index (map (λ name. name.now) l.names)) ≡ places_of l.columns [] (map (λ name. name.now) l.names)
