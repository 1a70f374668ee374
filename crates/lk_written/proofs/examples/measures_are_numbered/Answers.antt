-- All are computed.
use Rattle.std.proofs.Common.{refl}
use Rattle.lk_val.specs.Numbers.{num_of}
use Rattle.lk_expr_token.specs.Functions.{function_of}
use Rattle.lk_written.proofs.examples.measures_are_numbered.Goals as goal

pub returns-clause-quotient : goal.returns-clause-quotient
unfolding function_of num_of
returns-clause-quotient c = refl

pub returns-clause-known : goal.returns-clause-known
unfolding function_of num_of
returns-clause-known c = refl

pub returns-clause-unknown : goal.returns-clause-unknown
unfolding function_of num_of
returns-clause-unknown c = refl
