-- The two sides of a link.
use Rattle.lk_io.specs.Memory.{Input, Output}
use Rattle.lk_io.specs.declared.mem_link.MemLink.{MemLink}
use Rattle.lk_io.specs.declared.pair.Pair.{Pair}

-- what a link in memory has left to pull
abbrev pub link_input : MemLink → Input
link_input link = link.source

-- what was put to it
abbrev pub link_output : MemLink → Output
link_output link = link.sink

-- the source of a pair
abbrev pub pair_source : {I O : Type 0} → Pair I O → I
pair_source pair = pair.source

-- the sink of a pair
abbrev pub pair_sink : {I O : Type 0} → Pair I O → O
pair_sink pair = pair.sink
