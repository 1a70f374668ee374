use Rattle.lk_semantics.specs.Answers.{ops_of}
use Rattle.lk_agg.proofs.GivenLaws.{regular_from}
use Rattle.lk_agg.proofs.laws.given_rows_are_regular.Goals as goal

pub returns : goal.returns
returns c = λ x dims measures passing. regular_from x dims measures 0 (ops_of x measures) passing
