use Rattle.std.proofs.Common.{refl}
use Rattle.lk_semantics.proofs.examples.derived_tables_are_reached.Goals as goal

pub returns-clause-tables : goal.returns-clause-tables
returns-clause-tables c = refl

pub returns-clause-datagroups : goal.returns-clause-datagroups
returns-clause-datagroups c = refl

pub returns-clause-route_reads_one : goal.returns-clause-route_reads_one
returns-clause-route_reads_one c = refl

pub returns-clause-alone : goal.returns-clause-alone
returns-clause-alone c = refl

pub returns-clause-circular : goal.returns-clause-circular
returns-clause-circular c = refl

pub returns-clause-no_circle : goal.returns-clause-no_circle
returns-clause-no_circle c = refl

pub returns-clause-kinds : goal.returns-clause-kinds
returns-clause-kinds c = refl
