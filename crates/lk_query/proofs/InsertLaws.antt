-- An item put into a list: looked at through a function, and put in front of the first that it goes before.
use Rattle.std.proofs.Common.{◌≡◌, ◌∙◌, ℕ, List, ◌∷◌, ◌++◌, map, take, drop, sym, ap}
use Rattle.std.specs.List.{insert}
use Rattle.std.proofs.lemmas.List.{map-append, take-map, drop-map}

pub map_insert : {A B : Type 0} (f : A → B) (xs : List A) (i : ℕ) (x : A) → map f (insert xs i x) ≡ insert (map f xs) i (f x)
map_insert f xs i x =
    map-append f (take i xs) (x ∷ drop i xs)
    ∙ ap (λ t. t ++ f x ∷ map f (drop i xs)) (sym (take-map f i xs))
    ∙ ap (λ t. take i (map f xs) ++ f x ∷ t) (sym (drop-map f i xs))
