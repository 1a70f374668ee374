use Rattle.std.proofs.Common.{rules, ◌≡◌, ◌∙◌, List, [], ◌∷◌, length, nat_eq, true, not, refl}
use Rattle.std.specs.List.{list_any}
use Rattle.lk_types.specs.declared.filter.Test.{Test}
use Rattle.lk_filter.proofs.passing.is_empty.Goals as goal

none : (tests : List Test) → nat_eq (length tests) 0 ≡ not (list_any (λ t. true) tests)
none [] = refl
none (t ∷ ts) = search rules

pub returns : goal.returns
returns c = c.is_empty.ensures ∙ none c.args.tests.now
