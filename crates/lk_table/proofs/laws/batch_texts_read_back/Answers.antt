use Rattle.lk_table.proofs.BackLaws.{text_reads}
use Rattle.lk_table.proofs.CellBackLaws.{cell_back}
use Rattle.lk_table.proofs.laws.batch_texts_read_back.Goals as goal

pub returns : goal.returns
returns c = λ def text content named read. text_reads cell_back def text content named read
