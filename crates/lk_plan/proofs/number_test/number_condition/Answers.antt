use Rattle.lk_plan.proofs.number_test.number_condition.Goals as goal

pub returns-in-Compare : goal.returns-in-Compare
returns-in-Compare c = rw (c.in-Compare.is, ← c.as_slice.ensures) c.compared_condition.ensures
