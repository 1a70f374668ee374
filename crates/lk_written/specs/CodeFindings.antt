-- The faults of code at a parameter. (lookd)
use Rattle.std.specs.Prelude.{ℕ, List, [], ◌∷◌, Option, Some, None}
use Rattle.lk_params.specs.declared.number.Order.{Order}
use Rattle.lk_params.specs.declared.number.Number.TheVariants.{E1, E2}
use Rattle.lk_params.specs.declared.finding.Finding.{Finding}
use Rattle.lk_params.specs.Findings.{finding, placed_line}
use Rattle.lk_objects.specs.declared.code.Code.{Code}
use Rattle.lk_objects.specs.declared.code.Code.TheVariants as code

-- a call that is unknown, at the place in the text
abbrev pub call_findings : Order → List ℕ → List ℕ → Option ℕ → List Finding
call_findings o object at None = []
call_findings o object at (Some place) = finding o E2 at (placed_line E2 place object) ∷ []

-- what is wrong with the text of an expression: its syntax, or a call, at the place in the text
abbrev pub code_findings : Order → List ℕ → List ℕ → Code → List Finding
code_findings o object at (code.Syntax place) = finding o E1 at (placed_line E1 place object) ∷ []
code_findings o object at (code.Expr written) = call_findings o object at written.unknown_call
code_findings o object at (code.Number written) = call_findings o object at written.unknown_call
code_findings o object at c = []
