use Rattle.lk_filter.proofs.RelativeLaws.{today-meets, yesterday-meets, this-meets, last-meets, recent-meets, ago-meets}
use Rattle.lk_filter.proofs.laws.relative_dates_mean_units.Goals as goal

pub returns : goal.returns
returns c = record { today = today-meets; yesterday = yesterday-meets; this = this-meets; last = last-meets; recent = recent-meets; ago = ago-meets }
