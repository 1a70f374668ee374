use Rattle.lk_complete_laws.proofs.FilterReadings.{filter_read}
use Rattle.lk_complete_laws.proofs.laws.texts_are_filters_or_refused.Goals as goal

pub returns : goal.returns
returns c = filter_read c.filter_texts_spell_one_filter.ensures
