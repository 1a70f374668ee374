-- The filters among what a stored query names, numbered through. (lookd)
use Rattle.std.specs.Prelude.{ℕ, zero, suc, ◌+◌, List, [], ◌∷◌}
use Rattle.lk_objects.specs.declared.view.Entry.{Entry}
use Rattle.lk_objects.specs.declared.view.Entry.TheVariants as entry

-- the numbers from one on, as many as asked for
abbrev pub filter_entries : ℕ → ℕ → List Entry
filter_entries first zero = []
filter_entries first (suc n) = entry.Filter first ∷ filter_entries (first + 1) n
