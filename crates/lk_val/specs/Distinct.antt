-- Lists in which nothing stands twice.
use Rattle.std.specs.Prelude.{Bool, true, not, ◌&&◌, List, [], ◌∷◌}
use Rattle.std.specs.List.{list_any}

-- nothing stands twice: each item is none of those after it
abbrev pub do_differ : {A : Type 0} → (A → A → Bool) → List A → Bool
do_differ is_same [] = true
do_differ is_same (x ∷ xs) = not (list_any (is_same x) xs) && do_differ is_same xs
