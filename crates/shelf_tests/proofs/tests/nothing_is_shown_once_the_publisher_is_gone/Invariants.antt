use Rattle.shelf_tests.proofs.tests.nothing_is_shown_once_the_publisher_is_gone.Given as goal

-- the list that was just opened
abbrev pub ghosts-outlive_the_publisher : goal.ghosts-outlive_the_publisher
ghosts-outlive_the_publisher g a = record { book = a.blank.seen.book }
