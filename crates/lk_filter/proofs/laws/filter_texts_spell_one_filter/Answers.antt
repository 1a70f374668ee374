use Rattle.lk_filter.proofs.OneFilterLaws.{one_filter}
use Rattle.lk_filter.proofs.laws.filter_texts_spell_one_filter.Goals as goal

pub returns : goal.returns
returns c = one_filter
