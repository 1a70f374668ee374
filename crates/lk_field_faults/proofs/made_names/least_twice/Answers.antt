use Rattle.std.proofs.Common.{◌≡◌, ◌+◌, ◌-◌, ◌<◌, ◌∙◌, length, option_map, arith, ap, sym, Some}
use Rattle.std.specs.BTreeSet.{contains}
use Rattle.std.specs.Ordering.{nat_cmp}
use Rattle.std.specs.Cmp.Lexicographic.{slice_cmp}
use Rattle.lk_field_faults.proofs.TwiceLaws.{again_step, is_new, is_old, known_step, new_step}
use Rattle.lk_field_faults.proofs.made_names.least_twice.Goals as goal

pub loop-place-preserved : goal.loop-place-preserved
loop-place-preserved c =
    let names = c.args.names.now in
    let i = c.loop-place.place - 1 in
    let key = c.index-names-place.result in
    let had = contains (slice_cmp nat_cmp) c.loop-place.known in
    let next : i + 1 ≡ c.loop-place.place = omega arith in
    let within : i < length names = omega arith in
    let unknown : had c.in_ok-copy.field-0 ≡ _ = is_new (had c.in_ok-copy.field-0) c.in_ok-insert.field-0 c.in_ok-insert.ensures.added c.if-not-branch.false in
    record {
      within = omega arith;
      known = known_step names i key c.in_ok-copy.field-0 had (contains (slice_cmp nat_cmp) c.insert.new.self) within
          (c.in_ok-copy.ensures ∙ c.index-names-place.is) (rw next c.loop-place.invariant.known) c.in_ok-insert.ensures.updates.0;
      least = new_step names i key key (option_map (λ t. t.now) c.loop-place.least) within c.index-names-place.is
          (sym (rw next (c.loop-place.invariant.known key)) ∙ ap had (sym c.in_ok-copy.ensures) ∙ unknown)
          (rw next c.loop-place.invariant.least);
    }

pub loop-place-preserved-then-not-branch : goal.loop-place-preserved-then-not-branch
loop-place-preserved-then-not-branch c =
    let names = c.args.names.now in
    let i = c.loop-place.place - 1 in
    let key = c.index-names-place.result in
    let had = contains (slice_cmp nat_cmp) c.loop-place.known in
    let next : i + 1 ≡ c.loop-place.place = omega arith in
    let within : i < length names = omega arith in
    let old : had c.in_ok-copy.field-0 ≡ _ = is_old (had c.in_ok-copy.field-0) c.in_ok-insert.field-0 c.in_ok-insert.ensures.added c.if-not-branch.true in
    record {
      within = omega arith;
      known = known_step names i key c.in_ok-copy.field-0 had (contains (slice_cmp nat_cmp) c.insert.new.self) within
          (c.in_ok-copy.ensures ∙ c.index-names-place.is) (rw next c.loop-place.invariant.known) c.in_ok-insert.ensures.updates.0;
      least = ap Some c.lesser.ensures
          ∙ again_step names i key key (option_map (λ t. t.now) c.loop-place.least) within c.index-names-place.is
          (sym (rw next (c.loop-place.invariant.known key)) ∙ ap had (sym c.in_ok-copy.ensures) ∙ old)
          (rw next c.loop-place.invariant.least);
    }
