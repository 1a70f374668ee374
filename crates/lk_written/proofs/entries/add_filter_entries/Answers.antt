use Rattle.std.proofs.Common.{◌∙◌, ◌∷◌, ◌++◌, [], ap, sym, arith, append_assoc}
use Rattle.lk_objects.specs.declared.view.Entry.TheVariants as entry
use Rattle.lk_written.specs.Entries.{filter_entries}
use Rattle.lk_written.proofs.EntryLaws.{one_more}
use Rattle.lk_written.proofs.entries.add_filter_entries.Goals as goal

pub loop-done-preserved : goal.loop-done-preserved
loop-done-preserved c =
    let old = c.args.entries.now in
    let done = c.loop-done._done in
    let before = filter_entries c.args.first done in
    record {
      begun = omega (arith, c.loop-done-test.true);
      numbered = c.in_ok-push.ensures.ok
          ∙ ap (λ es. es ++ entry.Filter c.loop-done.number ∷ []) c.loop-done.invariant.numbered
          ∙ append_assoc old before (entry.Filter c.loop-done.number ∷ [])
          ∙ ap (λ k. old ++ (before ++ entry.Filter k ∷ [])) c.loop-done.invariant.next
          ∙ ap (λ t. old ++ t) (sym (one_more c.args.first done));
      next = omega (arith, c.in_ok-number.ensures, c.loop-done.invariant.next);
    }
