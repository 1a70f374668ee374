-- The paths so far are those of the files so far.
use Rattle.std.proofs.Common.{◌≡◌, take}
use Rattle.lk_io.specs.Folder.{paths_of}
use Rattle.lk_io.proofs.mem_files.copy_paths.Given as goal

abbrev pub invariant-loop-file : goal.invariant-loop-file
invariant-loop-file l = l.paths ≡ paths_of (take l.file-index l.files)
