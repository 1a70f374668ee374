use Rattle.std.proofs.Common.{◌∙◌, ap}
use Rattle.lk_formulas.specs.Referents.{number_size_through}
use Rattle.lk_formulas.proofs.ToldLaws.{number_of_told}
use Rattle.lk_formulas.proofs.table.FieldTable.number_size.Goals as goal

pub returns-in-None : goal.returns-in-None
returns-in-None c = λ schema views scope columns u is.
    ap number_size_through (c.in-None.ensures schema views scope columns u is) ∙ number_of_told schema views scope columns u c.args.place

pub returns-in-Some : goal.returns-in-Some
returns-in-Some c = λ schema views scope columns u is.
    ap number_size_through (c.in-Some.ensures schema views scope columns u is) ∙ number_of_told schema views scope columns u c.args.place
