use Rattle.std.proofs.Common.{◌∙◌, ap}
use Rattle.lk_semantics.specs.Derived.{explore_at}
use Rattle.lk_semantics.specs.Rows.{visible_rows}
use Rattle.lk_placed_laws.proofs.PlacedLaws.{visible_are}
use Rattle.lk_placed_laws.proofs.RouteLaws.{explore_is}
use Rattle.lk_ask.proofs.MomentLaws.{sources_are}
use Rattle.lk_ask.proofs.laws.rows_depend_on_no_moment.Goals as goal

pub returns-clause-visible : goal.returns-clause-visible
returns-clause-visible c = λ m now s b. ap (λ x. visible_rows x s b) (explore_is now m b.explore) ∙ visible_are now (explore_at m b.explore) s b

pub returns-clause-derived : goal.returns-clause-derived
returns-clause-derived c = λ m now t resolved. sources_are now m resolved t
