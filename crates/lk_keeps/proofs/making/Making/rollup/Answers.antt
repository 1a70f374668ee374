use Rattle.std.proofs.Common.{◌≡◌, ◌∙◌, ap, subst, sym, true}
use Rattle.lk_types.specs.Expressions.{has_number}
use Rattle.lk_types.specs.declared.explore.Explore.{Explore}
use Rattle.lk_types.specs.declared.explore.Rollup.{Rollup}
use Rattle.lk_semantics.specs.Rollups.{rollup_at}
use Rattle.lk_rollup.specs.Builds.{query_of_rollup}
use Rattle.lk_keeps.proofs.WantedLaws.{read_there}
use Rattle.lk_keeps.proofs.making.Making.rollup.Goals as goal

pub build-requires-clause-tables : goal.build-requires-clause-tables
build-requires-clause-tables c =
    let m = c.args.self.now.model.now in
    let groups = c.args.self.now.groups.now in
    let set = c.args.self.now.set.now in
    let e = c.args.explore in
    let n = c.args.number in
    let is = c.rollup_of-rollup.ensures ∙ ap (λ (x : Explore). rollup_at x n) c.explore_of.ensures in
    let of = subst (λ (r : Rollup). has_number r.datagroup groups ≡ true) is (sym c.has_number.ensures ∙ c.if-has_number.true) in
    c.wanted_rows_are_read.ensures m set (query_of_rollup m e n) (read_there m groups set e n c.requires.ready.rows c.requires.explore c.requires.rollup of)
