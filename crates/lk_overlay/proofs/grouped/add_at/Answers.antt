use Rattle.std.proofs.Common.{◌∙◌, ℕ, Bor, [], ◌∷◌, ◌++◌, Some, None, map, sym, ap, rules}
use Rattle.std.specs.BTreeMap.{get}
use Rattle.std.proofs.lemmas.List.{map-append}
use Rattle.lk_read.specs.declared.tree.Item.{Item}
use Rattle.lk_overlay.specs.Grouped.{key_cmp, read, those}
use Rattle.lk_overlay.proofs.GroupLaws.{key_exact}
use Rattle.lk_overlay.proofs.MapLaws.{put_behind}
use Rattle.lk_overlay.proofs.grouped.add_at.Goals as goal

pub returns-in_ok-push-in-Some : goal.returns-in_ok-push-in-Some
returns-in_ok-push-in-Some c = λ q.
    let w = c.push.new.self in
    let entry : ℕ × Bor Item = (c.args.number, c.args.item) in
    put_behind key_cmp key_exact those (get key_cmp c.args.groups.now) _
    c.args.key q (Some c.in-Some.found.now) w (read entry ∷ [])
    (((c.get_mut.follows.holds w).3 (search rules)).0 q)
    (sym c.in-Some.ensures.value)
    (ap (map read) c.in_ok-push-in-Some.ensures.ok ∙ map-append read c.in-Some.found.now (entry ∷ []))

pub returns-in_ok-insert-in-None : goal.returns-in_ok-insert-in-None
returns-in_ok-insert-in-None c = λ q.
    let entry : ℕ × Bor Item = (c.args.number, c.args.item) in
    put_behind key_cmp key_exact those (get key_cmp c.args.groups.now) _
    c.args.key q None c.push-in-None.new.self (read entry ∷ [])
    (rw c.get_mut.follows.holds-at-none at (c.in_ok-insert-in-None.ensures.updates.0 q))
    (sym c.in-None.ensures.value)
    (ap (map read) (c.in_ok-push-in-None.ensures.ok ∙ ap (λ t. t ++ entry ∷ []) c.new-found.ensures))
