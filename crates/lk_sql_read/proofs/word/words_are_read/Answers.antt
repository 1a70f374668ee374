use Rattle.std.proofs.Common.{refl}
use Rattle.lk_sql_read.proofs.WordLaws.{reads, reads_coalesce, reads_count, reads_null}
use Rattle.lk_sql_read.proofs.word.words_are_read.Goals as goal

pub returns-clause-every : goal.returns-clause-every
returns-clause-every c = reads

pub returns-clause-line_end : goal.returns-clause-line_end
returns-clause-line_end c = refl

pub returns-clause-null : goal.returns-clause-null
returns-clause-null c = reads_null

pub returns-clause-coalesce : goal.returns-clause-coalesce
returns-clause-coalesce c = reads_coalesce

pub returns-clause-count : goal.returns-clause-count
returns-clause-count c = reads_count
