use Rattle.std.proofs.Common.{◌≡◌, ◌∙◌, length, refl, sym, ap}
use Rattle.std.specs.Prelude.{Some, None, slice_get}
use Rattle.std.proofs.lemmas.Option.{slice_get_past, slice_get_read}
use Rattle.lk_query.specs.Bindings.{repeated_name}
use Rattle.lk_query.proofs.measures.repeated_name.Goals as goal

pub returns-in-Some : goal.returns-in-Some
returns-in-Some c =
    let x = c.args.x.now in
    let slice = c.as_slice.result.now in
    let measure = c.in-Some.measure.now in
    let lookup = c.in-Some.ensures.lookup in
    let here : slice_get x.measures c.args.m ≡ Some measure =
    ap (λ ms. slice_get ms c.args.m) (sym c.as_slice.ensures) ∙ slice_get_read slice (length slice) c.args.m measure refl lookup.3.0 lookup.1 in
    c.name_if_repeated.ensures ∙ ap (repeated_name x c.args.joins.now) (sym here)

pub returns-in-None : goal.returns-in-None
returns-in-None c =
    let x = c.args.x.now in
    let none : slice_get x.measures c.args.m ≡ None =
    ap (λ ms. slice_get ms c.args.m) (sym c.as_slice.ensures) ∙ slice_get_past c.as_slice.result.now c.args.m c.in-None.ensures.lookup.3 in
    ap (repeated_name x c.args.joins.now) (sym none)
