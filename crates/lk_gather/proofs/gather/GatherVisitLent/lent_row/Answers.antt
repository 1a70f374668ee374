use Rattle.std.proofs.Common.{◌≡◌, ◌∙◌, ◌++◌, ◌∷◌, [], length, map, sym, ap, subst, true}
use Rattle.lk_semantics.specs.Answers.{dims_of, key_value, measure_at, ops_of, query_components}
use Rattle.lk_semantics.specs.Rows.{tuple_of}
use Rattle.lk_agg.specs.Gathering.{HasTaken}
use Rattle.lk_filter.specs.PlacedModel.{placed_explore}
use Rattle.lk_gather.specs.Asked.{does_pass, given_of}
use Rattle.lk_gather.proofs.GatherLaws.{count_more, given_more, group_length}
use Rattle.lk_gather.proofs.gather.GatherVisitLent.lent_row.Goals as goal

pub returns : goal.returns
returns c = λ start seen known place.
    let x = placed_explore start.asked.now.moment start.asked.now.explore.now in
    let plan = start.asked.now.plan.now in
    let dims = dims_of plan.bound.picks in
    let components = query_components x plan.bound in
    let gathered = known.1 in
    let row = c.args.row.now in
    let count = c.args.self.now.count in
    let does : does_pass plan row ≡ true = ap (λ a. does_pass a.plan.now row) (sym known.0) ∙ sym c.in_ok-passes.ensures ∙ c.if-not-branch.false in
    let group_is : c.as_slice.result.now ≡ tuple_of x dims row =
    c.as_slice.ensures ∙ c.in_ok-group.ensures ∙ ap (λ a. tuple_of a.explore.now (dims_of a.plan.now.bound.picks) row) known.0 in
    let cells_are : c.as_slice-2.result.now ≡ map (λ m. key_value x (measure_at x m) row) components =
    c.as_slice-2.ensures ∙ c.in_ok-cells.ensures
    ∙ ap (λ a. map (λ m. key_value (placed_explore a.moment a.explore.now) (measure_at (placed_explore a.moment a.explore.now) m) row) (query_components (placed_explore a.moment a.explore.now) a.plan.now.bound)) known.0 in
    let few : length c.as_slice.result.now ≡ length dims = ap length group_is ∙ group_length x row dims in
    let taken = c.in_ok-add.ensures (length dims) (ops_of x components) (given_of x plan seen) gathered.taken few in
    let rows : given_of x plan seen ++ record { place = count; group = c.as_slice.result.now; cells = c.as_slice-2.result.now } ∷ [] ≡ given_of x plan (seen ++ row ∷ []) =
    (λ i. given_of x plan seen ++ record { place = count; group = group_is i; cells = cells_are i } ∷ [])
    ∙ sym (given_more x plan seen row count does gathered.places) in (
      known.0,
      record {
        taken = subst (HasTaken c.add.new.self (length dims) (ops_of x components)) rows taken;
        places = count_more x plan seen row count does gathered.places;
      },
    )
