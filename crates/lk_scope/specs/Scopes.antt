-- The scopes in which names are looked up: that of an explore, and that of one view. (Looker, LookML reference: from, join)
use Rattle.std.specs.Prelude.{ℕ, List, [], ◌∷◌, ◌++◌, map, find, Option, Some, None, codes, slice_get}
use Rattle.std.specs.List.{position}
use Rattle.lk_val.specs.Texts.{is_same_text}
use Rattle.lk_objects.specs.declared.explore.DeclaredExplore.{DeclaredExplore}
use Rattle.lk_objects.specs.declared.explore.DeclaredJoin.{DeclaredJoin}
use Rattle.lk_objects.specs.declared.view.DeclaredView.{DeclaredView}
use Rattle.lk_fields.specs.declared.scope.Scope.{Scope}
use Rattle.lk_fields.specs.declared.scope.ScopePart.{ScopePart}

-- the number of the view of a name
abbrev pub view_number : List DeclaredView → Option (List ℕ) → Option ℕ
view_number views None = None
view_number views (Some name) = position (λ view. is_same_text view.name name) views

abbrev pub part_of : List DeclaredView → List ℕ → Option (List ℕ) → ScopePart
part_of views name view = record { name = name; view = view_number views view }

abbrev pub part_of_join : List DeclaredView → DeclaredJoin → ScopePart
part_of_join views join = part_of views join.name join.view

-- the base view under the explore's name, and the joined views under those of the joins
abbrev pub scope_of : List DeclaredView → DeclaredExplore → Scope
scope_of views x = record { parts = part_of views x.name x.base ∷ map (part_of_join views) x.joins }

-- the view of a number alone
abbrev pub alone : ℕ → DeclaredView → Scope
alone number view = record { parts = record { name = view.name; view = Some number } ∷ [] }

-- the explore of a name
abbrev pub explore_named : List DeclaredExplore → List ℕ → Option DeclaredExplore
explore_named explores name = find (λ x. is_same_text x.name name) explores

-- the name `part.field`
abbrev pub full_name : List ℕ → List ℕ → List ℕ
full_name part name = part ++ codes "." ++ name

abbrev pub name_with : Option ScopePart → List ℕ
name_with None = []
name_with (Some part) = part.name

-- the name of a part
abbrev pub part_name : Scope → ℕ → List ℕ
part_name scope number = name_with (slice_get scope.parts number)
