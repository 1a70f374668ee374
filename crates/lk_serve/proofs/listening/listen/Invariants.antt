use Rattle.lk_serve.proofs.listening.listen.Given as goal

-- the list that was just opened
abbrev pub ghosts-serve_on-J-Shelves : goal.ghosts-serve_on-J-Shelves
ghosts-serve_on-J-Shelves g a = record { book = a.blank.seen.book }

-- the door's count as it comes
abbrev pub ghosts-serve_on-B-Since : goal.ghosts-serve_on-B-Since
ghosts-serve_on-B-Since g a = record { base = g.D.Door.faults a.door }
