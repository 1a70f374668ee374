use Rattle.std.proofs.Common.{◌≡◌, ◌∙◌, ◌++◌, ap}
use Rattle.std.proofs.lemmas.Result.{IfOk-weaker}
use Rattle.std.specs.Prelude.{option_map}
use Rattle.lk_scope.specs.Readings.{reading_of}
use Rattle.lk_resolved.specs.Filters.{filter_if, number_of_found}
use Rattle.lk_resolved.proofs.filters.add_found.Goals as goal

pub returns : goal.returns
returns c =
    let views = c.args.fields.now.views.now in
    let scope = c.args.fields.now.scope.now in
    let filter = c.args.filter.now in
    let found = c.args.found in
    let name = c.in_ok-number.ensures ∙ ap (number_of_found views scope c.args.named.now.dimensions found) c.as_str.ensures in
    IfOk-weaker c.add_if.result
    (λ _. c.add_if.new.read ≡ c.args.read.now ++ filter_if c.in_ok-number.number (option_map (λ r. r.now) c.reading_of-reading.result))
    (λ _. c.add_if.new.read ≡ c.args.read.now ++ filter_if (number_of_found views scope c.args.named.now.dimensions found filter.name) (reading_of views scope filter found))
    (λ _ is. is ∙ (λ i. c.args.read.now ++ filter_if (name i) (c.reading_of-reading.ensures i)))
    c.add_if.ensures
