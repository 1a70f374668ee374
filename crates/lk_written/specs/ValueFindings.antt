-- The faults of a parameter's value. (lookd)
use Rattle.std.specs.Prelude.{ℕ, Bool, List}
use Rattle.lk_params.specs.declared.number.Order.{Order}
use Rattle.lk_params.specs.declared.number.Number.TheVariants.{N14}
use Rattle.lk_params.specs.declared.finding.Finding.{Finding}
use Rattle.lk_params.specs.Findings.{finding, named_line}
use Rattle.lk_params.specs.Known.{if_so}

-- a value outside the profile, or a missing one: of a parameter of the object, or of one that stands within that
abbrev pub wrong : Order → List ℕ → List ℕ → List ℕ → Bool → List Finding
wrong o object at parameter so = if_so so (finding o N14 at (named_line N14 object parameter))
