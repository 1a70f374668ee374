use Rattle.std.proofs.Common.{◌∙◌, ◌/◌, ◌%◌, refl, inl, inr, Less, Equal, Greater, arith}
use Rattle.std.proofs.lemmas.Cmp.{ranked}
use Rattle.lk_val.proofs.RatioLaws.{cmp-whole, cmp-rest, cmp-zero, cmp-turned, greater_zero}
use Rattle.lk_val.proofs.ratio.+cmp_ratios.Goals as goal

pub returns-in-Less : goal.returns-in-Less
returns-in-Less t c = let v = c.args in cmp-whole v.a v.b v.c v.d c.requires.first c.requires.second Less c.in-Less.ensures refl

pub returns-in-Greater : goal.returns-in-Greater
returns-in-Greater t c = let v = c.args in cmp-whole v.a v.b v.c v.d c.requires.first c.requires.second Greater c.in-Greater.ensures refl

pub returns-in-Equal : goal.returns-in-Equal
returns-in-Equal t c =
    let v = c.args in
    c.cmp-in-Equal.ensures
    ∙ cmp-zero v.a v.b v.c v.d c.requires.first c.requires.second (v.a % v.b) (v.c % v.d) (inl (omega arith))
    ∙ cmp-rest v.a v.b v.c v.d c.requires.first c.requires.second (ranked (v.a / v.b) (v.c / v.d) Equal c.in-Equal.ensures)

pub returns-in-Equal-2 : goal.returns-in-Equal-2
returns-in-Equal-2 t c =
    let v = c.args in
    greater_zero (v.a % v.b) (v.c % v.d) (omega arith) (omega arith)
    ∙ cmp-zero v.a v.b v.c v.d c.requires.first c.requires.second (v.a % v.b) (v.c % v.d) (inr (omega arith))
    ∙ cmp-rest v.a v.b v.c v.d c.requires.first c.requires.second (ranked (v.a / v.b) (v.c / v.d) Equal c.in-Equal.ensures)

pub returns-in-Equal-3 : goal.returns-in-Equal-3
returns-in-Equal-3 t c =
    let v = c.args in
    c.cmp_ratios.ensures
    ∙ cmp-turned v.a v.b v.c v.d c.requires.first c.requires.second (v.a % v.b) (v.c % v.d)
    ∙ cmp-rest v.a v.b v.c v.d c.requires.first c.requires.second (ranked (v.a / v.b) (v.c / v.d) Equal c.in-Equal.ensures)
