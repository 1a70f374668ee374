use Rattle.std.proofs.Common.{◌∙◌, cond, [], ◌∷◌, ◌++◌, Some, None, map, sym, ap, rules}
use Rattle.std.specs.Prelude.{if◌then◌else◌}
use Rattle.std.specs.Ordering.{nat_cmp, is_eq}
use Rattle.std.specs.Cmp.Lexicographic.{slice_cmp}
use Rattle.std.specs.BTreeMap.{get}
use Rattle.std.proofs.lemmas.List.{map-append}
use Rattle.lk_merge.specs.ByName.{own_at}
use Rattle.lk_overlay.proofs.MapLaws.{put_behind}
use Rattle.lk_merge.proofs.OwnLaws.{listed_in}
use Rattle.lk_overlay.proofs.TextLaws.{text_tied, tied_exact}
use Rattle.lk_merge.proofs.by_name.add_refinement.Goals as goal

pub returns-in_ok-push-in-Some : goal.returns-in_ok-push-in-Some
returns-in_ok-push-in-Some c = λ name.
    let w = c.push.new.self in
    let old = c.args.own.now in
    let d = c.args.d.now in
    put_behind (slice_cmp nat_cmp) tied_exact listed_in (get (slice_cmp nat_cmp) old) _
    d.name name (Some c.in-Some.found.now) w (d ∷ [])
    (((c.get_mut.follows.holds w).3 (search rules)).0 name)
    (sym c.in-Some.ensures.value)
    (ap (map (λ d. d.now)) c.in_ok-push-in-Some.ensures.ok ∙ map-append (λ d. d.now) c.in-Some.found.now (c.args.d ∷ []))
    ∙ ap (λ b. own_at old name ++ (if b then d ∷ [] else [])) (text_tied d.name name)

pub returns-in_ok-insert-in-None : goal.returns-in_ok-insert-in-None
returns-in_ok-insert-in-None c = λ name.
    let old = c.args.own.now in
    let d = c.args.d.now in
    put_behind (slice_cmp nat_cmp) tied_exact listed_in (get (slice_cmp nat_cmp) old) _
    d.name name None c.push-in-None.new.self (d ∷ [])
    (rw c.get_mut.follows.holds-at-none at (c.in_ok-insert-in-None.ensures.updates.0 name)
    ∙ ap (λ key. cond (is_eq (slice_cmp nat_cmp key name)) (Some c.push-in-None.new.self) (get (slice_cmp nat_cmp) old name)) c.in_ok-copy-in-None.ensures)
    (sym c.in-None.ensures.value)
    (ap (map (λ d. d.now)) (c.in_ok-push-in-None.ensures.ok ∙ ap (λ t. t ++ c.args.d ∷ []) c.new-found.ensures))
    ∙ ap (λ b. own_at old name ++ (if b then d ∷ [] else [])) (text_tied d.name name)
