use Rattle.std.proofs.Common.{◌∙◌, ◌&&◌, Bool, List, ℕ, ap, sym}
use Rattle.std.specs.Prelude.{flat_map}
use Rattle.std.specs.List.{list_all}
use Rattle.std.proofs.lemmas.List.Folds.{list_all-append}
use Rattle.lk_types.specs.Expressions.{has_number}
use Rattle.lk_semantics.specs.Answers.{filtered, value_taken}
use Rattle.lk_semantics.specs.Derived.{field_parts}
use Rattle.lk_semantics.specs.Joins.{mentions_of}
use Rattle.lk_stored.proofs.WithinLaws.{filters_within}
use Rattle.lk_stored.proofs.storing.is_within.Goals as goal

pub returns-then-is_value_within : goal.returns-then-is_value_within
returns-then-is_value_within c =
    let x = c.args.x.now in
    let m = c.args.measure.now in
    let views = c.args.views.now in
    let within : ℕ → Bool = λ p. has_number p views in
    let value = mentions_of (value_taken m) in
    let fields = flat_map (field_parts x) (filtered m.filters) in
    c.are_filters_within.ensures
    ∙ ap (λ filters. list_all (λ f. list_all within (field_parts x f.0)) filters) c.as_slice.ensures
    ∙ filters_within views x m.filters
    ∙ ap (λ b. b && list_all within fields) (sym (sym c.is_value_within.ensures ∙ c.if-is_value_within.true))
    ∙ sym (list_all-append within value fields)
