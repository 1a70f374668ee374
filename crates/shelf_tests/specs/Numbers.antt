-- Lists of numbers that count what stands before them.
use Rattle.std.specs.Prelude.{◌≡◌, ◌+◌, List, length}
use Rattle.lk_front.specs.Chains.{EndsIn}
use Rattle.shelf_tests.specs.declared.numbers.Counted.{Counted}

-- the number of the last value is how many stand before it
unfoldable pub CountsItself : List Counted → Type 0
CountsItself values = (last : Counted) → EndsIn values last → last.number + 1 ≡ length values
