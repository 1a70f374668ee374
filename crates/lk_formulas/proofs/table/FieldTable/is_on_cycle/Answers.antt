use Rattle.lk_formulas.proofs.table.FieldTable.is_on_cycle.Goals as goal

pub returns : goal.returns
returns c = λ schema views scope columns u is. c.is_on_cycle.ensures views scope is.set_is
