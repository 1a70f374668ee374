-- A listed path is that of a file, so the search finds one.
use Rattle.lk_io.proofs.FolderLemmas.{listed_is_not_missing}
use Rattle.lk_io.proofs.mem_files.copy_body.Goals as goal

pub unreachable-requires : goal.unreachable-requires
unreachable-requires c = absurd (listed_is_not_missing _ _ c.requires (rw c.in_default.is at c.file_at.ensures))
