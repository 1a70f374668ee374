use Rattle.lk_include.proofs.ReadingLaws.{is_reading, only_reading}
use Rattle.lk_include.proofs.project.texts_have_readings.Goals as goal

pub returns : goal.returns
returns c = record { is = is_reading; only = only_reading }
