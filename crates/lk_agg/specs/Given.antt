-- What a row gives to the measures, as it is lent.
use Rattle.std.specs.Prelude.{List, map, option_map}
use Rattle.lk_val.specs.ValueRefs.{value_of_ref}
use Rattle.lk_types.specs.declared.answer.KeyValue.{KeyValue}
use Rattle.lk_agg.specs.declared.given.KeyRef.{KeyRef}
use Rattle.lk_agg.specs.declared.given.Given.{Given}
use Rattle.lk_agg.specs.declared.given.Given.TheVariants.{Owned, Lent}

-- the key and the value that are lent
abbrev pub key_value_of : KeyRef → KeyValue
key_value_of given = record { key = option_map value_of_ref given.key; value = value_of_ref given.value; counts = given.counts }

-- what a row gives to each measure
abbrev pub given_cells : Given → List KeyValue
given_cells (Owned cells) = cells.now
given_cells (Lent cells) = map key_value_of cells.now
