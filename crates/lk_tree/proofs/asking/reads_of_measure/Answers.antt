use Rattle.std.proofs.Common.{ℕ, ◌∙◌, ◌||◌, Bool, List, ap, sym}
use Rattle.std.specs.List.{list_any}
use Rattle.lk_types.specs.Expressions.{has_number}
use Rattle.lk_types.specs.declared.filter.Filter.{Filter}
use Rattle.lk_semantics.specs.Derived.{field_parts}
use Rattle.lk_tree.proofs.AskingLaws.{in_measure}
use Rattle.lk_tree.proofs.asking.reads_of_measure.Goals as goal

pub returns-then-reads_of_value : goal.returns-then-reads_of_value
returns-then-reads_of_value c =
    let x = c.args.x.now in
    let p = c.args.part in
    let m = c.args.measure.now in
    let more : Bool = list_any (λ (f : ℕ × Filter). has_number p (field_parts x f.0)) m.filters in
    c.if-reads_of_value.true
    ∙ ap (λ b. b || more) (sym (sym c.reads_of_value.ensures ∙ c.if-reads_of_value.true))
    ∙ in_measure x p m

pub returns-else-reads_of_value : goal.returns-else-reads_of_value
returns-else-reads_of_value c =
    let x = c.args.x.now in
    let p = c.args.part in
    let m = c.args.measure.now in
    let more : Bool = list_any (λ (f : ℕ × Filter). has_number p (field_parts x f.0)) m.filters in
    c.do_filters_read.ensures
    ∙ ap (λ (fs : List (ℕ × Filter)). list_any (λ (f : ℕ × Filter). has_number p (field_parts x f.0)) fs) c.as_slice.ensures
    ∙ ap (λ b. b || more) (sym (sym c.reads_of_value.ensures ∙ c.if-reads_of_value.false))
    ∙ in_measure x p m
