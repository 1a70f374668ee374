-- What a name has of its own, a declaration further.
use Rattle.std.proofs.Common.{◌≡◌, List, [], ◌∷◌, refl}
use Rattle.std.specs.Prelude.{Option, Some, None, option_map, map}
use Rattle.std.specs.Borrow.{Bor}
use Rattle.lk_merge.specs.declared.declaration.Declaration.{Declaration}
use Rattle.lk_merge.specs.Objects.{option_list}
use Rattle.lk_merge.specs.ByName.{or_none}

abbrev pub alone : Declaration → List Declaration
alone d = d ∷ []

pub listed : (found : Option Declaration) → or_none (option_map alone found) ≡ option_list found
listed None = refl
listed (Some d) = refl

-- what a map's value at a name stands for
abbrev pub seen : Option (List (Bor Declaration)) → Option (List Declaration)
seen found = option_map (λ ds. map (λ d. d.now) ds) found

abbrev pub listed_in : Option (List (Bor Declaration)) → List Declaration
listed_in found = or_none (seen found)
