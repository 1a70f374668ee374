-- The paths are those of files in order of their paths.
use Rattle.lk_io.proofs.FolderLemmas.{sorted_paths}
use Rattle.lk_io.proofs.mem_files.MemFilesFiles.list.Goals as goal

pub returns-clause-sorted : goal.returns-clause-sorted
returns-clause-sorted c = rw c.in_ok-copy_paths.ensures (rw c.as_slice.ensures.value (sorted_paths _ c.self.invariant))
