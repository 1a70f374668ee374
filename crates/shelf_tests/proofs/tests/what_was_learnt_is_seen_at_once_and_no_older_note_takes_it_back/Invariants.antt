use Rattle.shelf_tests.proofs.tests.what_was_learnt_is_seen_at_once_and_no_older_note_takes_it_back.Given as goal

-- the list that was just opened
abbrev pub ghosts-learn_late : goal.ghosts-learn_late
ghosts-learn_late g a = record { book = a.blank.seen.book }
