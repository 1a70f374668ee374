-- Where a folder lists a path, a search finds a file; and the paths of files in order are in order.
use Rattle.std.proofs.Common.{◌≡◌, ℕ, ◌+◌, ◌<◌, Bool, true, false, List, [], ◌∷◌, length, get_or, Some, None, refl, sym, subst, arith, IsSome, cond, zero, suc}
use Rattle.std.specs.List.{find}
use Rattle.std.proofs.lemmas.List.{get_or-map, length-map}
use Rattle.std.specs.Cmp.Lexicographic.{slice_cmp, pointwise, nat_list_eq_equiv}
use Rattle.std.specs.List.Sorted.{IsSorted, IsSortedByKey}
use Rattle.std.specs.Ordering.{nat_cmp, is_lt}
use Rattle.std.specs.Prelude.{nat_eq, Option}
use Rattle.lk_io.specs.declared.files.File.{File}
use Rattle.lk_io.specs.Folder.{paths_of, is_at, IsListed}

same_path : (path : List ℕ) (file : File) → path ≡ file.path → is_at path file ≡ true
same_path path file e = subst (λ p. pointwise nat_eq file.path p ≡ true) (sym e) (nat_list_eq_equiv.refl file.path)

-- the first file has the path, or a later one has
found_from : (path : List ℕ) (file : File) (found : Bool) (later : Option File) → is_at path file ≡ found → (is_at path file ≡ false → IsSome later) → IsSome (cond found (Some file) later)
found_from path file true later was h = refl
found_from path file false later was h = h was

found_at : (path : List ℕ) (files : List File) (i : ℕ) → i < length (paths_of files) → path ≡ get_or (paths_of files) i path → IsSome (find (is_at path) files)
found_at path [] i lt e = absurd (omega arith)
found_at path (file ∷ files) zero lt e = found_from path file _ _ refl (λ no. cc (same_path path file e))
found_at path (file ∷ files) (suc i) lt e = found_from path file _ _ refl (λ no. found_at path files i (omega arith) e)

-- a listed path is that of a file
pub listed_is_found : (path : List ℕ) (files : List File) → IsListed path files → IsSome (find (is_at path) files)
listed_is_found path files h = found_at path files h.0 h.1.0 h.1.1

-- where a search finds no file, the path is not listed
pub listed_is_not_missing : (path : List ℕ) (files : List File) → IsListed path files → None ≡ find (is_at path) files → ⊥
listed_is_not_missing path files h e =
    let gone : IsSome {T = File} None = subst IsSome (sym e) (listed_is_found path files h) in
    cc

sorted_from : (files : List File) (default : File) → IsSortedByKey (λ file. file.path) (slice_cmp nat_cmp) files → IsSorted (slice_cmp nat_cmp) (paths_of files)
sorted_from files default sorted k path low lt =
    let path_at : (i : ℕ) → i < length files → get_or (paths_of files) i path ≡ (get_or files i default).path = λ i few. get_or-map (λ file. file.path) files i default path few in
    let few : k + 1 < length files = omega (arith, length-map files (λ file. file.path)) in
    subst (λ later. is_lt (slice_cmp nat_cmp later (get_or (paths_of files) k path)) ≡ false) (sym (path_at (k + 1) few))
    (subst (λ earlier. is_lt (slice_cmp nat_cmp (get_or files (k + 1) default).path earlier) ≡ false) (sym (path_at k (omega arith)))
    (sorted k default low few))

-- the paths of files in order of their paths
pub sorted_paths : (files : List File) → IsSortedByKey (λ file. file.path) (slice_cmp nat_cmp) files → IsSorted (slice_cmp nat_cmp) (paths_of files)
sorted_paths [] sorted = λ k path low lt. absurd (omega arith)
sorted_paths (file ∷ files) sorted = sorted_from (file ∷ files) file sorted
