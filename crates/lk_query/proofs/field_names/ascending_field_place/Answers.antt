use Rattle.std.proofs.Common.{rules, of_calls, ◌∙◌, ap, sym}
use Rattle.std.specs.Prelude.{is_some}
use Rattle.std.proofs.lemmas.Fn.{always_returns_same}
use Rattle.lk_types.specs.declared.explore.Field.{Field}
use Rattle.lk_query.specs.NameOrder.{is_before}
use Rattle.lk_query.proofs.NameOrderLaws.{partitioned, found, other, past}
use Rattle.lk_query.proofs.field_names.ascending_field_place.Goals as goal

pub returns-in-Some : goal.returns-in-Some
returns-in-Some c =
    let name = c.args.name.now in
    let fields = c.args.fields.now in
    let point = c.partition_point-place.ensures.partitioned (λ a. is_before a.name name) (always_returns_same _ _ _ (λ a r f k. search (rules, of_calls))) (partitioned (λ (a : Field). a.name) fields name c.requires.ascending) in
    found (λ (a : Field). a.name) fields name c.requires.ascending c.partition_point-place.result point c.in-Some.field.now c.in-Some.ensures.lookup.0 c.in-Some.ensures.lookup.1 (sym c.eq.ensures ∙ c.if-eq.true)

pub returns-in_default : goal.returns-in_default
returns-in_default c =
    let name = c.args.name.now in
    let fields = c.args.fields.now in
    let point = c.partition_point-place.ensures.partitioned (λ a. is_before a.name name) (always_returns_same _ _ _ (λ a r f k. search (rules, of_calls))) (partitioned (λ (a : Field). a.name) fields name c.requires.ascending) in
    other (λ (a : Field). a.name) fields name c.requires.ascending c.partition_point-place.result point c.in-Some.field.now c.in-Some.ensures.lookup.1 (sym c.eq.ensures ∙ c.if-eq.false)

pub returns-in_default-2 : goal.returns-in_default-2
returns-in_default-2 c =
    let name = c.args.name.now in
    let fields = c.args.fields.now in
    let point = c.partition_point-place.ensures.partitioned (λ a. is_before a.name name) (always_returns_same _ _ _ (λ a r f k. search (rules, of_calls))) (partitioned (λ (a : Field). a.name) fields name c.requires.ascending) in
    past (λ (a : Field). a.name) fields name c.requires.ascending c.partition_point-place.result point (ap is_some (sym c.in_default.is) ∙ c.get.ensures.lookup.0)
