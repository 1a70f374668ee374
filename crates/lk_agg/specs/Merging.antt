-- Parts of measures that are put together.
use Rattle.std.specs.Prelude.{◌≡◌, false, ◌&&◌, List}
use Rattle.lk_val.specs.Sets.{has}
use Rattle.lk_semantics.specs.Measures.{Entry, pairs_of}
use Rattle.lk_types.specs.PairOrder.{pair_cmp}
use Rattle.lk_types.specs.declared.answer.Pair.{Pair}
use Rattle.lk_types.specs.declared.answer.Partial.{Partial}
use Rattle.lk_types.specs.declared.explore.Op.{Op}

-- no pair of a key and a value is of both
abbrev pub AreApart : Op → List Entry → List Entry → Type 0
AreApart o us vs = (q : Pair) → (has pair_cmp q (pairs_of o us) && has pair_cmp q (pairs_of o vs)) ≡ false

-- the parts but the number of different values
abbrev pub without_distinct : Partial → Partial
without_distinct p = record p { distinct = 0 }
