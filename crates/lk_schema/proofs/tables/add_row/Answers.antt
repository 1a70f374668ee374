use Rattle.std.proofs.Common.{◌∙◌, cond, [], ◌∷◌, ◌++◌, Some, None, map, sym, ap, rules}
use Rattle.std.specs.Ordering.{nat_cmp, is_eq}
use Rattle.std.specs.Cmp.Lexicographic.{slice_cmp}
use Rattle.std.specs.BTreeMap.{get}
use Rattle.std.proofs.lemmas.List.{map-append}
use Rattle.lk_schema.specs.ByTable.{those}
use Rattle.lk_schema.proofs.MapLaws.{put_behind}
use Rattle.lk_schema.proofs.tables.add_row.Goals as goal

pub returns-in_ok-push-in-Some : goal.returns-in_ok-push-in-Some
returns-in_ok-push-in-Some c = λ table.
    let w = c.push.new.self in
    let row = c.args.row.now in
    put_behind those (get (slice_cmp nat_cmp) c.args.by_table.now) _
    row.table table (Some c.in-Some.found.now) w (row ∷ [])
    (((c.get_mut.follows.holds w).3 (search rules)).0 table)
    (sym c.in-Some.ensures.value)
    (ap (map (λ row. row.now)) c.in_ok-push-in-Some.ensures.ok ∙ map-append (λ row. row.now) c.in-Some.found.now (c.args.row ∷ []))

pub returns-in_ok-insert-in-None : goal.returns-in_ok-insert-in-None
returns-in_ok-insert-in-None c = λ table.
    let row = c.args.row.now in
    put_behind those (get (slice_cmp nat_cmp) c.args.by_table.now) _
    row.table table None c.push-in-None.new.self (row ∷ [])
    (rw c.get_mut.follows.holds-at-none at (c.in_ok-insert-in-None.ensures.updates.0 table)
    ∙ ap (λ key. cond (is_eq (slice_cmp nat_cmp key table)) (Some c.push-in-None.new.self) (get (slice_cmp nat_cmp) c.args.by_table.now table)) c.in_ok-copy-in-None.ensures)
    (sym c.in-None.ensures.value)
    (ap (map (λ row. row.now)) (c.in_ok-push-in-None.ensures.ok ∙ ap (λ t. t ++ c.args.row ∷ []) c.new-found.ensures))
