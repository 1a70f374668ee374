-- The rows that a group keeps for a measure over keys.
use Rattle.std.specs.Prelude.{[], map}
use Rattle.lk_agg.specs.NumberPair.{pair_of_numbers}
use Rattle.lk_agg.specs.TextPair.{pair_of_text}
use Rattle.lk_agg.specs.Tallies.{no_tally}
use Rattle.lk_agg.specs.declared.kept.Form.{Form}
use Rattle.lk_agg.specs.declared.kept.Form.TheVariants.{Numbers, Texts, Whole, Tally, Mixed}
use Rattle.lk_agg.specs.declared.kept.KeptRows.{KeptRows}

-- the rows: the pairs of those with keys, ascending, and the tally of those without
abbrev pub rows_kept : Form → KeptRows
rows_kept (Numbers numbers) = record { pairs = map pair_of_numbers numbers; tally = no_tally }
rows_kept (Texts texts) = record { pairs = map pair_of_text texts; tally = no_tally }
rows_kept (Whole pairs) = record { pairs = pairs; tally = no_tally }
rows_kept (Tally tally) = record { pairs = []; tally = tally }
rows_kept (Mixed rows) = rows.value
