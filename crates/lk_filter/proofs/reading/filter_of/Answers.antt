use Rattle.lk_filter.proofs.reading.filter_of.Goals as goal

pub returns-in-Text-clause-every : goal.returns-in-Text-clause-every
returns-in-Text-clause-every c = rw c.in-Text.is c.read_texts.ensures.every

pub returns-in-Number-clause-every : goal.returns-in-Number-clause-every
returns-in-Number-clause-every c = rw c.in-Number.is c.read_numbers.ensures.every

pub returns-in-Date-clause-every : goal.returns-in-Date-clause-every
returns-in-Date-clause-every c = rw c.in-Date.is c.read_dates.ensures.every

pub returns-in-Truth-clause-every : goal.returns-in-Truth-clause-every
returns-in-Truth-clause-every c = rw c.in-Truth.is c.read_truths.ensures.every
