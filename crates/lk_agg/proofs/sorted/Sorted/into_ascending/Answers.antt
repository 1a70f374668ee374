use Rattle.std.proofs.Common.{◌∙◌, sym}
use Rattle.lk_val.proofs.SetLaws.{set_of-ascending}
use Rattle.lk_agg.proofs.sorted.Sorted.into_ascending.Goals as goal

pub returns : goal.returns
returns g c = sym (set_of-ascending c.requires.exact c.keep_once.new.items.items c.keep_once.ensures.ascending) ∙ c.keep_once.ensures.set ∙ c.self.view_is
