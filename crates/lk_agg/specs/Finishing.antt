-- What the columns of groups come to: the parts of measures and their cells, or a conflict.
use Rattle.std.specs.Prelude.{◌≡◌, ℕ, ◌+◌, ◌+ℤ◌, if◌then◌else◌, List, [], ◌∷◌, map, length, Option, Some, None}
use Rattle.lk_val.specs.Values.{is_same}
use Rattle.lk_val.specs.declared.value.Value.{Value}
use Rattle.lk_val.specs.declared.cell.Cell.{Cell}
use Rattle.lk_semantics.specs.Measures.{total, known_count}
use Rattle.lk_semantics.specs.Rollups.{no_partial, cell_of_partial}
use Rattle.lk_types.specs.declared.answer.Pair.{Pair}
use Rattle.lk_types.specs.declared.answer.Partial.{Partial}
use Rattle.lk_types.specs.declared.answer.GroupRow.{GroupRow}
use Rattle.lk_types.specs.declared.explore.Op.{Op}
use Rattle.lk_types.specs.declared.explore.Op.TheVariants as op
use Rattle.lk_agg.specs.declared.fault.AggFault.{AggFault}
use Rattle.lk_agg.specs.declared.fault.AggFault.TheVariants.{Conflict, NoMemory}
use Rattle.lk_agg.specs.declared.digest.Digest.{Digest}
use Rattle.lk_agg.specs.declared.parts.Part.{Part}
use Rattle.lk_agg.specs.declared.kept.KeptRows.{KeptRows}
use Rattle.lk_agg.specs.declared.columns.Column.{Column}
use Rattle.lk_agg.specs.declared.columns.Column.TheVariants.{Count, Sum, SumDistinct, Average, AverageDistinct, Different, Least, Greatest, Nothing}

-- ---- parts

-- the number of pairs and tallied rows
abbrev pub counted : KeptRows → Partial
counted rows = record no_partial { count = length rows.pairs + rows.tally.rows }

-- the sum of their values, and how many of these are not null
abbrev pub summed : KeptRows → Partial
summed rows = record no_partial { sum = total rows.pairs +ℤ rows.tally.sum; values = known_count rows.pairs + rows.tally.values }

-- the parts of a measure over what a group keeps for it
abbrev pub part_of : Column → Part
part_of (Count rows) = record { op = op.Count; parts = counted rows }
part_of (Sum rows) = record { op = op.Sum; parts = summed rows }
part_of (SumDistinct rows) = record { op = op.SumDistinct; parts = summed rows }
part_of (Average rows) = record { op = op.Average; parts = summed rows }
part_of (AverageDistinct rows) = record { op = op.AverageDistinct; parts = summed rows }
part_of (Different values) = record { op = op.CountDistinct; parts = record no_partial { distinct = length values } }
part_of (Least v) = record { op = op.Min; parts = record no_partial { least = v } }
part_of (Greatest v) = record { op = op.Max; parts = record no_partial { most = v } }
part_of Nothing = record { op = op.Number; parts = no_partial }

-- the cell of a measure
abbrev pub cell_of : Part → Cell
cell_of part = cell_of_partial part.op part.parts

-- what a rollup keeps of the parts of a type of measure: a measure with a key of its own stands in none
abbrev pub kept : Op → Partial → Partial
kept op.SumDistinct parts = no_partial
kept op.AverageDistinct parts = no_partial
kept o parts = parts

abbrev pub kept_of : Part → Partial
kept_of part = kept part.op part.parts

-- ---- conflicts

-- the first key that stands with two values, of ascending pairs after p
abbrev pub twice_after : Pair → List Pair → Option Value
twice_after p [] = None
twice_after p (q ∷ pairs) = if is_same p.key q.key then Some p.key else twice_after q pairs

-- the first key that stands with two values, of ascending pairs
abbrev pub twice_in : List Pair → Option Value
twice_in [] = None
twice_in (p ∷ pairs) = twice_after p pairs

-- what ascending pairs come to
abbrev pub digest_of : List Pair → Digest
digest_of pairs = record { count = length pairs; sum = total pairs; values = known_count pairs; twice = twice_in pairs }

-- the first key that stands with two values in what is kept
abbrev pub twice_of : Column → Option Value
twice_of (Count rows) = twice_in rows.pairs
twice_of (Sum rows) = twice_in rows.pairs
twice_of (SumDistinct rows) = twice_in rows.pairs
twice_of (Average rows) = twice_in rows.pairs
twice_of (AverageDistinct rows) = twice_in rows.pairs
twice_of (Different values) = None
twice_of (Least v) = None
twice_of (Greatest v) = None
twice_of Nothing = None

-- the first of two that is there
abbrev pub or_first : {A : Type 0} → Option A → Option A → Option A
or_first None b = b
or_first (Some a) b = Some a

-- a key with the place of its measure
abbrev pub at_place : ℕ → Option Value → Option (ℕ × Value)
at_place i None = None
at_place i (Some key) = Some (i, key)

-- the first conflict of a group's columns from place i on
abbrev pub conflict_from : ℕ → List Column → Option (ℕ × Value)
conflict_from i [] = None
conflict_from i (c ∷ columns) = or_first (at_place i (twice_of c)) (conflict_from (i + 1) columns)

-- the first conflict of some groups
abbrev pub conflict_among : List (List Value × List Column) → Option (ℕ × Value)
conflict_among [] = None
conflict_among (e ∷ groups) = or_first (conflict_from 0 e.1) (conflict_among groups)

-- the fault is want of memory, or it is that conflict
abbrev pub IsFaultOf : AggFault → Option (ℕ × Value) → Type 0
IsFaultOf NoMemory conflict = Unit {0}
IsFaultOf (Conflict measure key) conflict = conflict ≡ Some (measure, key)

-- ---- rows

-- a group with its cells
abbrev pub row_of : List Value × List Column → GroupRow
row_of e = record { group = e.0; cells = map cell_of (map part_of e.1) }

-- a group with what a rollup keeps
abbrev pub kept_row_of : List Value × List Column → List Value × List Partial
kept_row_of e = (e.0, map kept_of (map part_of e.1))
