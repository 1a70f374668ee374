use Rattle.std.proofs.Common.{sym}
use Rattle.lk_datagroup.proofs.CountLaws.{no_count}
use Rattle.lk_datagroup.proofs.interval.count_of.Goals as goal

pub returns-in_default-2 : goal.returns-in_default-2
returns-in_default-2 c = sym (no_count c.args.text.now c.parse.result _ c.parse.ensures.value.0 c.in_default.is)
