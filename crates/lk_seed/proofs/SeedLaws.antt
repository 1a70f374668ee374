-- Steps of reading data files: whether one is listed, and table by table.
use Rattle.std.proofs.Common.{◌≡◌, ◌<◌, ◌+◌, ◌++◌, ◌∷◌, ◌∙◌, [], ℕ, Bool, true, false, List, length, drop, get_or, refl, sym, ap}
use Rattle.std.specs.Prelude.{Option, Some, None, IfSome, Result, Ok, Err}
use Rattle.std.specs.List.{list_any}
use Rattle.std.proofs.lemmas.List.{drop_more}
use Rattle.lk_val.specs.Memory.{Unless}
use Rattle.lk_val.specs.Texts.{is_same_text}
use Rattle.lk_io.specs.Folder.{IsListed, paths_of}
use Rattle.lk_io.specs.declared.files.File.{File}
use Rattle.lk_include.proofs.ListingLaws.{listed, unlisted}
use Rattle.lk_include.specs.Causes.{is_outside}
use Rattle.lk_include.specs.Gathering.{lookml_paths, table_at}
use Rattle.lk_include.specs.declared.project.ProjectFault.{ProjectFault}
use Rattle.lk_types.specs.declared.schema.TableDef.{TableDef}
use Rattle.lk_table.specs.Batches.{and_then, in_front}
use Rattle.lk_table.proofs.ReadLaws.{in_front-in_front}
use Rattle.lk_seed.specs.Seeds.{Seed, data_path, seeds_of}

-- ---- whether a path is listed

pub path_unlisted : (told : Option (List File)) (path named : List ℕ) (paths : List (List ℕ)) → path ≡ named
    → list_any (is_same_text path) paths ≡ false → IfSome told (λ files. paths ≡ paths_of files)
    → IfSome told (λ files. Ok None ≡ table_at files named)
path_unlisted None path named paths is none are = tt
path_unlisted (Some files) path named paths is none are =
    unlisted (Some files) path (record { paths = paths; lookml = lookml_paths files }) none (record { paths = are; lookml = refl })
    ∙ ap (table_at files) is

pub path_listed : (told : Option (List File)) (path : List ℕ) (paths : List (List ℕ)) → list_any (is_same_text path) paths ≡ true
    → IfSome told (λ files. paths ≡ paths_of files) → IfSome told (λ files. IsListed path files)
path_listed None path paths here are = tt
path_listed (Some files) path paths here are =
    listed (Some files) path (record { paths = paths; lookml = lookml_paths files }) here (record { paths = are; lookml = refl })

-- ---- table by table

abbrev pub IsSoFar : Option (List File) → List TableDef → ℕ → List Seed → Type 0
IsSoFar told defs i seeds = IfSome told (λ files. in_front seeds (seeds_of (drop i defs) files) ≡ seeds_of defs files)

module _ (defs : List TableDef) (i : ℕ) (def : TableDef) (within : i < length defs) (is : def ≡ get_or defs i def) (seeds : List Seed) where
  defs_there : drop i defs ≡ def ∷ drop (i + 1) defs
  defs_there = drop_more defs i def within ∙ ap (λ (d : TableDef). d ∷ drop (i + 1) defs) (sym is)

  pub seed_more : (told : Option (List File)) (seed : Seed) → IsSoFar told defs i seeds
      → IfSome told (λ files. Ok seed ≡ table_at files (data_path def.name)) → IsSoFar told defs (i + 1) (seeds ++ seed ∷ [])
  seed_more None seed so_far reads = tt
  seed_more (Some files) seed so_far reads =
      in_front-in_front seeds (seed ∷ []) (seeds_of (drop (i + 1) defs) files)
      ∙ ap (λ (r : Result Seed ProjectFault). in_front seeds (and_then r (λ found. in_front (found ∷ []) (seeds_of (drop (i + 1) defs) files)))) reads
      ∙ ap (λ (all : List TableDef). in_front seeds (seeds_of all files)) (sym defs_there)
      ∙ so_far

  stops_by : (files : List File) (why : ProjectFault) (b : Bool) → in_front seeds (seeds_of (drop i defs) files) ≡ seeds_of defs files
      → Unless b (Err why ≡ table_at files (data_path def.name)) → Unless b (Err why ≡ seeds_of defs files)
  stops_by files why true so_far fails = tt
  stops_by files why false so_far fails =
      ap (λ (r : Result Seed ProjectFault). in_front seeds (and_then r (λ found. in_front (found ∷ []) (seeds_of (drop (i + 1) defs) files)))) fails
      ∙ ap (λ (all : List TableDef). in_front seeds (seeds_of all files)) (sym defs_there)
      ∙ so_far

  pub seed_stops : (told : Option (List File)) (why : ProjectFault) → IsSoFar told defs i seeds
      → IfSome told (λ files. Unless (is_outside why) (Err why ≡ table_at files (data_path def.name)))
      → IfSome told (λ files. Unless (is_outside why) (Err why ≡ seeds_of defs files))
  seed_stops None why so_far fails = tt
  seed_stops (Some files) why so_far fails = stops_by files why (is_outside why) so_far fails
