use Rattle.std.proofs.Common.{◌∙◌, ◌&&◌, ap, not}
use Rattle.std.specs.List.{list_any}
use Rattle.lk_fields.specs.declared.rows.Rule.TheVariants.{Ends}
use Rattle.lk_fields.specs.Existing.{all_places, is_same_place}
use Rattle.lk_val.specs.Least.{is_in}
use Rattle.lk_fields.specs.Rows.{is_marked, is_unmarked, marks_of, number_of, option_list}
use Rattle.lk_fields.proofs.LostLaws.{ending_marked, there}
use Rattle.lk_fields.proofs.existing.FieldSet.reaches_cycle.Goals as goal

pub returns : goal.returns
returns c = λ views scope set.
    let place = c.args.place in
    c.is_unmarked.ensures
    ∙ ap (λ n. is_unmarked c.as_slice.result.now n) c.number_of.ensures
    ∙ ap (λ marks. is_unmarked marks (number_of c.as_slice-2.result.now place)) (c.as_slice.ensures ∙ set.ending_are)
    ∙ ap (λ all. is_unmarked (marks_of Ends views scope) (number_of all place)) (c.as_slice-2.ensures ∙ set.places_are)
    ∙ ap (λ t. t && not (list_any (is_marked (marks_of Ends views scope)) (option_list (number_of (all_places views scope) place)))) (there (all_places views scope) place)
    ∙ ap (λ t. is_in is_same_place place (all_places views scope) && not t) (ending_marked views scope place)
