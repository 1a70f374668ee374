-- What the objects over the system hold and count.
use Rattle.std.specs.Prelude.{ℕ, ℤ, List}
use Rattle.lk_io.specs.declared.folder_files.FolderFiles.{FolderFiles}
use Rattle.lk_io.specs.declared.in_source.InSource.{InSource}
use Rattle.lk_io.specs.declared.out_sink.OutSink.{OutSink}
use Rattle.lk_io.specs.declared.real_clock.RealClock.{RealClock}

-- the reader that a source reads from
abbrev pub reader_of : {R : Type 0} → InSource R → R
reader_of source = source.reader

-- the reads that failed
abbrev pub read_faults : {R : Type 0} → InSource R → ℕ
read_faults source = source.faults

-- the writer that a sink writes to
abbrev pub writer_of : {W : Type 0} → OutSink W → W
writer_of sink = sink.writer

-- the puts that failed
abbrev pub write_faults : {W : Type 0} → OutSink W → ℕ
write_faults sink = sink.faults

-- the runtime that a folder is reached by
abbrev pub folder_runtime : {R : Type 0} → FolderFiles R → R
folder_runtime folder = folder.rt

-- the folder's path
abbrev pub folder_path : {R : Type 0} → FolderFiles R → List ℕ
folder_path folder = folder.folder

-- the calls on a folder that failed
abbrev pub folder_faults : {R : Type 0} → FolderFiles R → ℕ
folder_faults folder = folder.faults

-- the runtime whose clock is asked
abbrev pub clock_runtime : {R : Type 0} → RealClock R → R
clock_runtime clock = clock.rt

-- the moment that a clock answered last
abbrev pub clock_last : {R : Type 0} → RealClock R → ℤ
clock_last clock = clock.last
