use Rattle.lk_val.proofs.FractionLaws.{frac_add-comm, frac_mul-comm, frac_add-assoc, frac_mul-assoc, frac-distributive, difference-undone, quotient-undone, opposite-undone, cmp-difference}
use Rattle.lk_val.proofs.laws.fractions_form_a_field.Goals as goal

pub returns-clause-sum_turned : goal.returns-clause-sum_turned
returns-clause-sum_turned c = frac_add-comm

pub returns-clause-product_turned : goal.returns-clause-product_turned
returns-clause-product_turned c = frac_mul-comm

pub returns-clause-sum_grouped : goal.returns-clause-sum_grouped
returns-clause-sum_grouped c = frac_add-assoc

pub returns-clause-product_grouped : goal.returns-clause-product_grouped
returns-clause-product_grouped c = frac_mul-assoc

pub returns-clause-distributed : goal.returns-clause-distributed
returns-clause-distributed c = frac-distributive

pub returns-clause-difference : goal.returns-clause-difference
returns-clause-difference c = difference-undone

pub returns-clause-quotient : goal.returns-clause-quotient
returns-clause-quotient c = quotient-undone

pub returns-clause-opposite : goal.returns-clause-opposite
returns-clause-opposite c = opposite-undone

pub returns-clause-order : goal.returns-clause-order
returns-clause-order c = cmp-difference
