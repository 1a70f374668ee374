use Rattle.std.proofs.Common.{◌≡◌, ◌∙◌, ◌-◌, ◌++◌, map, ap}
use Rattle.std.specs.List.{flat_map}
use Rattle.lk_val.specs.Texts.{is_same_text}
use Rattle.lk_params.specs.Picking.{firsts}
use Rattle.lk_merge.specs.Objects.{bases_of, extends_of, handed_on}
use Rattle.lk_merge.specs.Walking.{handed_back}
use Rattle.lk_merge.proofs.HandedLaws.{visited, fewer_visits}
use Rattle.lk_merge.proofs.contributors.visit.Goals as goal

pub returns-clause-handed : goal.returns-clause-handed
returns-clause-handed c =
    let all = c.args.all.now.them.now in
    let k = c.args.kind in
    let bases : c.as_slice-3.result.now ≡ bases_of all k c.args.name.now = c.as_slice-3.ensures ∙ c.in_ok-bases.ensures
    ∙ ap (λ ds. firsts is_same_text (flat_map extends_of ds)) (ap (map (λ d. d.now)) c.as_slice-2.ensures.value ∙ c.in_ok-own.ensures) in
    visited all k c.args.left c.args.name.now c.args.todo.now.items c.add_waiting.new.todo.items
    (handed_back c.args.found.now.items) (handed_back c.add_backwards.new.found.items)
    c.if-left-eq0.false
    (c.in_ok-add_waiting.ensures ∙ ap (λ names. c.args.todo.now.items ++ map (λ name. (c.args.left - 1, name)) names) bases)
    (c.in_ok-add_backwards.ensures
    ∙ ap (λ ds. map handed_on ds ++ handed_back c.args.found.now.items) (ap (map (λ d. d.now)) c.as_slice.ensures.value ∙ c.in_ok-own.ensures))

pub returns-clause-fewer : goal.returns-clause-fewer
returns-clause-fewer c =
    let all = c.args.all.now.them.now in
    let k = c.args.kind in
    let bases : c.as_slice-3.result.now ≡ bases_of all k c.args.name.now = c.as_slice-3.ensures ∙ c.in_ok-bases.ensures
    ∙ ap (λ ds. firsts is_same_text (flat_map extends_of ds)) (ap (map (λ d. d.now)) c.as_slice-2.ensures.value ∙ c.in_ok-own.ensures) in
    fewer_visits all k c.args.left c.args.name.now c.args.todo.now.items c.add_waiting.new.todo.items
    c.if-left-eq0.false
    (c.in_ok-add_waiting.ensures ∙ ap (λ names. c.args.todo.now.items ++ map (λ name. (c.args.left - 1, name)) names) bases)
