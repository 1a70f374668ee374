use Rattle.std.proofs.Common.{◌∙◌, ap}
use Rattle.std.specs.Prelude.{option_map}
use Rattle.lk_formulas.proofs.ToldLaws.{code_of, code_of_told}
use Rattle.lk_formulas.proofs.table.FieldTable.field.Goals as goal

pub returns-in-None : goal.returns-in-None
returns-in-None c = λ schema views scope columns u is.
    ap (option_map code_of) (c.in-None.ensures schema views scope columns u is) ∙ code_of_told schema views scope columns u c.args.place

pub returns-in-Some : goal.returns-in-Some
returns-in-Some c = λ schema views scope columns u is.
    ap (option_map code_of) (c.in-Some.ensures schema views scope columns u is) ∙ code_of_told schema views scope columns u c.args.place
