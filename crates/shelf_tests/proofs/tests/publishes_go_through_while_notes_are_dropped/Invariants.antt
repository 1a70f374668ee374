use Rattle.shelf_tests.proofs.tests.publishes_go_through_while_notes_are_dropped.Given as goal

-- the list that was just opened
abbrev pub ghosts-drop_notes : goal.ghosts-drop_notes
ghosts-drop_notes g a = record { book = a.blank.seen.book }
