use Rattle.std.proofs.Common.{◌≡◌, ◌∙◌, ℕ, List, [], ◌∷◌, ◌++◌, append_assoc}
use Rattle.std.specs.Prelude.{codes, decimal}
use Rattle.lk_val.specs.Faults.{part_text}
use Rattle.lk_val.proofs.fault.FaultLine.print.Goals as goal

regroup : (a b c d e : List ℕ) →
    a ++ (32 ∷ (b ++ (32 ∷ (c ++ (32 ∷ (d ++ (32 ∷ (e ++ 10 ∷ [])))))))) ≡ a ++ codes " " ++ b ++ codes " " ++ c ++ codes " " ++ d ++ codes " " ++ e ++ 10 ∷ []
regroup a b c d e = simp append_assoc

pub returns : goal.returns
returns c =
    let fault = c.args.self.now in
    simp (c.part_of-code.ensures, c.part_of-path.ensures, c.part_of-name.ensures, c.part_of-other.ensures) at (c.from_string.ensures ∙ c.in_ok-format.ensures.ok)
    ∙ regroup (part_text fault.code) (part_text fault.path) (decimal fault.place) (part_text fault.name) (part_text fault.other)
