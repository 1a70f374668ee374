-- Which paths a pattern of an `include` matches. (Looker, LookML reference: include; lookd)
use Rattle.std.specs.Prelude.{ℕ, ◌-◌, Bool, true, false, ◌&&◌, ◌||◌, not, nat_eq, if◌then◌else◌, List, [], ◌∷◌, ◌++◌, length, take, drop, codes, Option, Some, None}
use Rattle.std.specs.List.{fold}
use Rattle.lk_val.specs.Texts.{is_same_text}
use Rattle.lk_include.specs.declared.matching.Pattern.{Pattern}

-- ---- names

-- the first of some names with more in front
abbrev pub with_front : List ℕ → List (List ℕ) → List (List ℕ)
with_front front [] = front ∷ []
with_front front (name ∷ names) = (front ++ name) ∷ names

-- the names of a path, between its slashes
abbrev pub names_of : List ℕ → List (List ℕ)
names_of [] = [] ∷ []
names_of (c ∷ cs) = if nat_eq c 47 then [] ∷ names_of cs else with_front (c ∷ []) (names_of cs)

-- ---- patterns

-- some end of the list passes, the whole and the empty one among them
abbrev pub some_end : {A : Type 0} → (List A → Bool) → List A → Bool
some_end test [] = test []
some_end test (x ∷ xs) = test (x ∷ xs) || some_end test xs

-- a first item that passes a test, before a rest that passes another
abbrev pub first_and_rest : {A : Type 0} → (A → Bool) → (List A → Bool) → List A → Bool
first_and_rest first rest [] = false
first_and_rest first rest (x ∷ xs) = first x && rest xs

abbrev pub is_empty : {A : Type 0} → List A → Bool
is_empty [] = true
is_empty (x ∷ xs) = false

module _ {P A : Type 0} (is_free : P → Bool) (accepts : P → A → Bool) where
  -- the pieces cover the items: a free piece stands for any number of them, none too, and any other for one that it
  -- accepts
  abbrev pub covers : List P → List A → Bool
  covers [] xs = is_empty xs
  covers (p ∷ ps) xs =
      if is_free p then some_end (covers ps) xs else first_and_rest (accepts p) (covers ps) xs

-- a `*`
abbrev pub is_star : ℕ → Bool
is_star byte = nat_eq byte 42

-- a name matches a pattern, in which `*` stands for any bytes
abbrev pub matches_name : List ℕ → List ℕ → Bool
matches_name pattern name = covers is_star nat_eq pattern name

-- a `**` by itself
abbrev pub is_any_folders : List ℕ → Bool
is_any_folders name = is_same_text name (codes "**")

-- the last of the names is `**`
abbrev pub ends_free : List (List ℕ) → Bool
ends_free names = fold (λ free name. is_any_folders name) false names

-- names match a pattern's names one by one; `**` stands for any number of folders, none too, and never for the file
abbrev pub matches_names : List (List ℕ) → List (List ℕ) → Bool
matches_names pattern names = not (ends_free pattern) && covers is_any_folders matches_name pattern names

abbrev pub matches_path : List ℕ → List ℕ → Bool
matches_path pattern path = matches_names (names_of pattern) (names_of path)

-- ---- where a pattern begins

-- all but the last
abbrev pub without_last : List (List ℕ) → List (List ℕ)
without_last names = take (length names - 1) names

-- a path's names that are left behind those of a folder, which are taken as they are
abbrev pub names_behind : List (List ℕ) → List (List ℕ) → Option (List (List ℕ))
names_behind [] names = Some names
names_behind (folder ∷ folders) [] = None
names_behind (folder ∷ folders) (name ∷ names) = if is_same_text folder name then names_behind folders names else None

abbrev pub matches_rest : List (List ℕ) → Option (List (List ℕ)) → Bool
matches_rest pattern None = false
matches_rest pattern (Some names) = matches_names pattern names

-- the names of a path are those of a folder, and then names that a pattern matches
abbrev pub matches_in : List (List ℕ) → List (List ℕ) → List (List ℕ) → Bool
matches_in folder pattern names = matches_rest pattern (names_behind folder names)

abbrev pub begins_with_slash : List ℕ → Bool
begins_with_slash [] = false
begins_with_slash (c ∷ cs) = nat_eq c 47

-- a pattern begins at the root behind a slash, and else in the folder of the file in which it stands
abbrev pub pattern_for : List ℕ → List ℕ → Pattern
pattern_for file text =
    if begins_with_slash text then record { folder = []; names = names_of (drop 1 text) }
    else record { folder = without_last (names_of file); names = names_of text }

-- ---- paths

abbrev pub ends_with : List ℕ → List ℕ → Bool
ends_with path ending = is_same_text (drop (length path - length ending) path) ending

abbrev pub is_lookml : List ℕ → Bool
is_lookml path = ends_with path (codes ".lkml")

abbrev pub is_root : List ℕ → Bool
is_root path = ends_with path (codes ".model.lkml")

-- the path without its ending `.lkml`
abbrev pub without_ending : List ℕ → List ℕ
without_ending path = take (length path - 5) path

-- a pattern matches a path that ends in `.lkml`, or the path without this ending
abbrev pub matches : Pattern → List ℕ → Bool
matches pattern path =
    matches_in pattern.folder pattern.names (names_of path)
    || matches_in pattern.folder pattern.names (names_of (without_ending path))
