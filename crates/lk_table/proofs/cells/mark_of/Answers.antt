use Rattle.std.proofs.lemmas.Str.{is_utf8-from_IsUtf8}
use Rattle.lk_table.proofs.ColumnLaws.{texts_grow}
use Rattle.lk_table.proofs.cells.mark_of.Goals as goal

pub returns-in_ok-intern-in-Text-clause-texts : goal.returns-in_ok-intern-in-Text-clause-texts
returns-in_ok-intern-in-Text-clause-texts c =
    rw (c.in_ok-intern-in-Text.ensures.texts) (texts_grow c.as_bytes.result.now c.args.region.now
    (is_utf8-from_IsUtf8 _ c.as_bytes.ensures.utf8) c.requires.texts)
