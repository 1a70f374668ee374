use Rattle.shelf_tests.proofs.tests.publishes_go_through_while_desks_learn_notes.Given as goal

-- the list that was just opened
abbrev pub ghosts-learn_notes : goal.ghosts-learn_notes
ghosts-learn_notes g a = record { book = a.blank.seen.book }
