use Rattle.std.proofs.Common.{◌≡◌, map}
use Rattle.lk_semantics.specs.Joins.{numbers_below}
use Rattle.lk_table.specs.Contents.{rows_of_each}
use Rattle.lk_keeps.specs.Anew.{tables_anew}
use Rattle.lk_keeps.proofs.making.Making.tables.Given as goal

abbrev pub invariant-loop-place : goal.invariant-loop-place
invariant-loop-place l =
    map rows_of_each l.all ≡ map (tables_anew l.self.model.now l.self.groups.now (rows_of_each l.tables) l.self.keeps.now) (numbers_below l.place)
