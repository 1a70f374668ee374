use Rattle.std.proofs.Common.{◌≡◌, ◌∙◌, arith, rules, ap, ℤ, Some, None, to_z, of_z, w64, if◌then◌else◌}
use Rattle.lk_table.proofs.CountLaws.{count_there, count_within}
use Rattle.lk_table.proofs.counts.Counts.get.Goals as goal

pub index-requires : goal.index-requires
index-requires c =
    let kept = c.self.inside in
    let within = count_within kept.nulls kept.present.items kept.counts.items c.args.self.now c.self.view_is c.self.invariant
    c.args.row c.requires c.if-row-self.false in
    omega (arith, within, kept.present.ok.0)

pub index-requires-2 : goal.index-requires-2
index-requires-2 c =
    let kept = c.self.inside in
    let within = count_within kept.nulls kept.present.items kept.counts.items c.args.self.now c.self.view_is c.self.invariant
    c.args.row c.requires c.if-row-self.false in
    omega (arith, within, c.self.invariant, kept.counts.ok.0)

pub returns : goal.returns
returns c =
    let kept = c.self.inside in
    let count = c.index-2.result.now in
    let same : to_z w64 (of_z w64 count) ≡ count = search rules in
    c.option_of.ensures
    ∙ ap (λ (n : ℤ). if c.index.result.now then Some n else None) same
    ∙ count_there kept.nulls kept.present.items kept.counts.items c.args.self.now c.self.view_is c.self.invariant
    c.args.row c.requires c.if-row-self.false c.index.result.now count c.index.ensures c.index-2.ensures
