use Rattle.live_cases.proofs.held.open_and_serve.Given as goal

-- the list that was just opened
abbrev pub ghosts-serve_two-J-Shelves : goal.ghosts-serve_two-J-Shelves
ghosts-serve_two-J-Shelves g a = record { book = a.blank.seen.book }

-- the door's count as it comes
abbrev pub ghosts-serve_two-B-Since : goal.ghosts-serve_two-B-Since
ghosts-serve_two-B-Since g a = record { base = a.door.calls.faults }
