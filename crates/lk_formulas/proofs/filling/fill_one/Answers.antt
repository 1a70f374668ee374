use Rattle.std.proofs.Common.{◌≡◌, ◌&&◌, true, not, sym}
use Rattle.lk_formulas.specs.Filling.{is_kept, is_ready}
use Rattle.lk_formulas.proofs.FillLaws.{due_told, step_put, within_right}
use Rattle.lk_formulas.proofs.filling.fill_one.Goals as goal

pub put-requires : goal.put-requires
put-requires c =
    within_right c.args.names.now.schema.now c.args.names.now.views.now c.args.names.now.scope.now c.args.columns.now c.args.unknown
    c.args.names.now.places.now c.args.fields.now c.args.number c.requires.right c.requires.number

pub returns : goal.returns
returns c =
    let schema = c.args.names.now.schema.now in
    let views = c.args.names.now.views.now in
    let scope = c.args.names.now.scope.now in
    let columns = c.args.columns.now in
    let u = c.args.unknown in
    let places = c.args.names.now.places.now in
    let fields = c.args.fields.now in
    let number = c.args.number in
    let place = c.args.place in
    let row = c.args.row.now in
    let due : (not (is_kept fields number) && is_ready fields row) ≡ true = sym c.if-not-is_due.ensures in
    let told = due_told schema views scope columns u places fields number place row c.requires.places c.requires.right c.requires.number c.requires.place c.requires.row due in
    step_put schema views scope columns u places fields c.put.new.fields number place row c.in_ok-field.field c.requires.right c.requires.number c.requires.place
    told.0 (c.in_ok-field.ensures told.0 told.1) c.put.ensures
