use Rattle.std.proofs.Common.{◌∙◌, ◌||◌, Bool, ap, sym}
use Rattle.std.specs.List.{list_any}
use Rattle.lk_types.specs.Expressions.{has_number}
use Rattle.lk_semantics.specs.Answers.{measure_at}
use Rattle.lk_semantics.specs.Derived.{measure_parts}
use Rattle.lk_tree.proofs.AskingLaws.{in_asked}
use Rattle.lk_tree.proofs.asking.ask_part.Goals as goal

pub returns-then-do_fields_read : goal.returns-then-do_fields_read
returns-then-do_fields_read c =
    let x = c.args.x.now in
    let p = c.args.part in
    let more : Bool = list_any (λ m. has_number p (measure_parts x (measure_at x m))) c.args.measures.now in
    c.if-do_fields_read.true
    ∙ ap (λ b. b || more) (sym (sym c.do_fields_read.ensures ∙ c.if-do_fields_read.true))
    ∙ in_asked x p c.args.fields.now c.args.measures.now

pub returns-else-do_fields_read : goal.returns-else-do_fields_read
returns-else-do_fields_read c =
    let x = c.args.x.now in
    let p = c.args.part in
    let more : Bool = list_any (λ m. has_number p (measure_parts x (measure_at x m))) c.args.measures.now in
    c.do_measures_read.ensures
    ∙ ap (λ b. b || more) (sym (sym c.do_fields_read.ensures ∙ c.if-do_fields_read.false))
    ∙ in_asked x p c.args.fields.now c.args.measures.now
