-- A folder, as the list of its files.
use Rattle.std.specs.Prelude.{ℕ, ◌==◌, ◌<◌, List, ◌++◌, map, find, codes, Option, IsSomeAnd, nat_eq, length, Bool, if◌then◌else◌}
use Rattle.std.specs.List.{IsAmong}
use Rattle.std.specs.Option.{option_map}
use Rattle.std.specs.Cmp.Lexicographic.{slice_cmp, pointwise}
use Rattle.std.specs.Ordering.{nat_cmp}
use Rattle.std.specs.List.Sorted.{IsSortedByKey, IsStableByKey, IsPermutation}
use Rattle.lk_io.specs.declared.files.File.{File}

-- the files' paths
abbrev pub paths_of : List File → List (List ℕ)
paths_of files = map (λ file. file.path) files

-- the path of a name in a folder; the name itself where the folder's path is empty
abbrev pub path_in : List ℕ → List ℕ → List ℕ
path_in folder name = if length folder == 0 then name else folder ++ codes "/" ++ name

-- the file stands at this path
abbrev pub is_at : List ℕ → File → Bool
is_at path file = pointwise nat_eq file.path path

-- the body of the first file at this path
abbrev pub body_of : List ℕ → List File → Option (List ℕ)
body_of path files = option_map (λ file. file.body) (find (is_at path) files)

-- one of the files has this path
abbrev pub IsListed : List ℕ → List File → Type 0
IsListed path files = IsAmong (paths_of files) path

-- the file at this path has more than 67,108,864 bytes
abbrev pub IsBig : List ℕ → List File → Type 0
IsBig path files = IsSomeAnd (body_of path files) (λ body. 67108864 < length body)

-- the files in order of their paths by bytes, those of one path in the order in which they were given
pub record IsInOrder (given ordered : List File) : Type 0 where
  pub same : IsPermutation given ordered
  pub ascends : IsSortedByKey (λ file. file.path) (slice_cmp nat_cmp) ordered
  pub stable : IsStableByKey (λ file. file.path) (slice_cmp nat_cmp) given ordered
