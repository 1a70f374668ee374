use Rattle.std.proofs.Common.{◌∙◌, cond, [], ◌∷◌, ◌++◌, Some, None, sym, ap}
use Rattle.std.specs.Prelude.{if◌then◌else◌}
use Rattle.std.specs.Option.{option_or}
use Rattle.std.specs.Ordering.{nat_cmp, is_eq}
use Rattle.std.specs.Cmp.Lexicographic.{slice_cmp}
use Rattle.std.specs.BTreeMap.{get}
use Rattle.lk_merge.specs.ByName.{found_at}
use Rattle.lk_overlay.proofs.MapLaws.{put_new, not_there}
use Rattle.lk_merge.proofs.OwnLaws.{seen}
use Rattle.lk_overlay.proofs.TextLaws.{text_tied, tied_exact}
use Rattle.lk_merge.proofs.by_name.add_declaration.Goals as goal

pub returns : goal.returns
returns c = λ name.
    let old = c.args.own.now in
    let d = c.args.d.now in
    put_new (slice_cmp nat_cmp) tied_exact seen (get (slice_cmp nat_cmp) old) _ d.name name c.push.new.self
    (c.in_ok-insert.ensures.updates.0 name
    ∙ ap (λ key. cond (is_eq (slice_cmp nat_cmp key name)) (Some c.push.new.self) (get (slice_cmp nat_cmp) old name)) c.in_ok-copy.ensures)
    (ap seen (not_there (get (slice_cmp nat_cmp) old d.name) (sym c.contains_key.ensures ∙ c.if-contains_key.false)))
    ∙ (λ i. option_or (found_at old name) (if text_tied d.name name i
    then seen (Some ((c.in_ok-push.ensures.ok ∙ ap (λ t. t ++ c.args.d ∷ []) c.new-found.ensures) i)) else None))
