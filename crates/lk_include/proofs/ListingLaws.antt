-- Whether a path is listed, and what is read at it.
use Rattle.std.proofs.Common.{◌≡◌, ◌∙◌, ℕ, suc, arith, Bool, true, false, ◌||◌, cond, List, [], ◌∷◌, refl, sym, ap}
use Rattle.std.specs.Prelude.{Option, Some, None, IfSome, Ok, option_map, find}
use Rattle.std.specs.List.{IsAmong, list_any}
use Rattle.std.specs.Cmp.Lexicographic.{bytes_decides, nat_list_eq_equiv}
use Rattle.std.proofs.lemmas.Bool.{false≢true}
use Rattle.lk_val.specs.Texts.{is_same_text}
use Rattle.lk_io.specs.Folder.{paths_of, body_of, is_at, IsListed}
use Rattle.lk_io.specs.declared.files.File.{File}
use Rattle.lk_include.specs.declared.listing.Listing.{Listing}
use Rattle.lk_include.specs.Following.{IsListing}
use Rattle.lk_include.specs.Gathering.{sized}

first_false : (a b : Bool) → (a || b) ≡ false → a ≡ false
first_false true b e = e
first_false false b e = refl

second_false : (a b : Bool) → (a || b) ≡ false → b ≡ false
second_false true b e = absurd (false≢true (sym e))
second_false false b e = e

-- no file stands at a path that is none of the paths
not_found : (path : List ℕ) (files : List File) → list_any (is_same_text path) (paths_of files) ≡ false → find (is_at path) files ≡ None
not_found path [] none = refl
not_found path (file ∷ files) none =
    let head : is_at path file ≡ false = nat_list_eq_equiv.symm file.path path ∙ first_false (is_same_text path file.path) (list_any (is_same_text path) (paths_of files)) none in
    ap (λ b. cond b (Some file) (find (is_at path) files)) head ∙ not_found path files (second_false (is_same_text path file.path) (list_any (is_same_text path) (paths_of files)) none)

-- so nothing is read at a path that is not listed
pub unlisted : (told : Option (List File)) (path : List ℕ) (listing : Listing)
    → list_any (is_same_text path) listing.paths ≡ false → IfSome told (IsListing listing)
    → IfSome told (λ files. Ok None ≡ sized path (body_of path files))
unlisted None path listing none are = tt
unlisted (Some files) path listing none are =
    sym (ap (λ (found : Option File). sized path (option_map (λ (file : File). file.body) found))
    (not_found path files (sym (ap (list_any (is_same_text path)) are.paths) ∙ none)))

-- a path that is one of the paths stands somewhere among them
among : (path : List ℕ) (paths : List (List ℕ)) → list_any (is_same_text path) paths ≡ true → IsAmong paths path
among path [] here = absurd (false≢true here)
among path (other ∷ paths) here =
    elim (is_same_text path other) as (λ b. is_same_text path other ≡ b → (b || list_any (is_same_text path) paths) ≡ true → IsAmong (other ∷ paths) path) [
      | true ↦ λ same here. (0, (omega arith, (bytes_decides path other).0 same))
      | false ↦ λ other_one here. let rest = among path paths here in (suc rest.0, (omega (arith, rest.1.0), rest.1.1))
    ] refl here

-- so it is listed
pub listed : (told : Option (List File)) (path : List ℕ) (listing : Listing)
    → list_any (is_same_text path) listing.paths ≡ true → IfSome told (IsListing listing)
    → IfSome told (λ files. IsListed path files)
listed None path listing here are = tt
listed (Some files) path listing here are = among path (paths_of files) (sym (ap (list_any (is_same_text path)) are.paths) ∙ here)
