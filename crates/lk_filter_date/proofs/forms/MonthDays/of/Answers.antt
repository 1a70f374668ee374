use Rattle.std.proofs.Common.{rules, false}
use Rattle.lk_filter_date.specs.DateTexts.{month_length}
use Rattle.lk_filter_date.proofs.MonthDayLaws.{shared_days}
use Rattle.lk_filter_date.proofs.forms.MonthDays.of.Goals as goal

pub returns-in-28 : goal.returns-in-28
returns-in-28 c =
    shared_days c.share.result c.args.self.now.twenty_eight 28 (month_length false c.args.month) c.share.ensures c.requires.twenty_eight (search rules)

pub returns-in-30 : goal.returns-in-30
returns-in-30 c =
    shared_days c.share-in-30.result c.args.self.now.thirty 30 (month_length false c.args.month) c.share-in-30.ensures c.requires.thirty (search rules)

pub returns-in-31 : goal.returns-in-31
returns-in-31 c =
    shared_days c.share-in-31.result c.args.self.now.thirty_one 31 (month_length false c.args.month) c.share-in-31.ensures c.requires.thirty_one (search rules)
