-- Explores whose views have names of their own. (Looker, LookML reference: from, join; lookd)
use Rattle.std.specs.Prelude.{ℕ, Bool, true, not, ◌&&◌, List, [], ◌∷◌, map}
use Rattle.std.specs.List.{list_all, list_any}
use Rattle.lk_val.specs.Texts.{is_same_text}
use Rattle.lk_types.specs.declared.explore.Explore.{Explore}
use Rattle.lk_fields.specs.Scopes.{is_dot}

-- no name stands twice
abbrev pub are_distinct : List (List ℕ) → Bool
are_distinct [] = true
are_distinct (name ∷ names) = not (list_any (is_same_text name) names) && are_distinct names

-- the views of an explore have names of their own, and none of these has a dot
abbrev pub has_own_names : Explore → Bool
has_own_names x = are_distinct (map (λ part. part.name) x.parts) && list_all (λ part. not (list_any is_dot part.name)) x.parts
