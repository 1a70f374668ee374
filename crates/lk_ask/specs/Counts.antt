-- What a count of visible rows and its answer tell.
use Rattle.std.specs.Prelude.{◌≡◌, Result, Ok, Err}
use Rattle.lk_val.specs.Memory.{Unless}
use Rattle.lk_types.specs.declared.bound.Bound.{Bound}
use Rattle.lk_types.specs.declared.explore.Explore.{Explore}
use Rattle.lk_types.specs.declared.rows.Sources.{Sources}
use Rattle.lk_gather.specs.declared.answering.Counted.{Counted}
use Rattle.lk_ask.specs.Asks.{is_no_memory, told_by, told_over}
use Rattle.lk_ask.specs.declared.fault.AskFault.{AskFault}

-- what is told by it over the explore is what is told over the explore at the moment
abbrev pub IsCounted : Explore → Explore → Sources → Bound → Result Counted AskFault → Type 0
IsCounted x placed s b (Ok counted) = told_by x b counted.rows counted.answer ≡ told_over placed s b
IsCounted x placed s b (Err why) = Unless (is_no_memory why) (Err why ≡ told_over placed s b)
