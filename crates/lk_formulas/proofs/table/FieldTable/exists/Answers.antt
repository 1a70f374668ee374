use Rattle.lk_formulas.proofs.table.FieldTable.exists.Goals as goal

pub returns : goal.returns
returns c = λ schema views scope columns u is. c.exists.ensures views scope is.set_is
