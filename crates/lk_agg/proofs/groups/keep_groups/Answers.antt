use Rattle.std.proofs.Common.{map}
use Rattle.lk_agg.specs.Finishing.{conflict_among, kept_row_of}
use Rattle.lk_agg.proofs.StepLaws.{no_conflict_among, one_more, kept_row_made}
use Rattle.lk_agg.proofs.groups.keep_groups.Goals as goal

pub loop-group-preserved : goal.loop-group-preserved
loop-group-preserved c =
    let groups = c.loop-group.groups.entries in
    let rest = c.pop_first.new.self.entries in
    let all = c.args.groups.entries in
    let key = c.in-Some.group in
    let columns = c.in-Some.columns in
    let found = c.in_ok-parts.ensures.ok in
    let row = kept_row_made c.into_values.result key c.in_ok-partials_of.field-0 c.in_ok-parts.parts columns c.into_values.ensures c.in_ok-partials_of.ensures found.1 in
    record {
      made = one_more kept_row_of c.loop-group.rows c.push.new.self (map kept_row_of all) groups rest (key, columns) _
          c.loop-group.invariant.made c.in-Some.ensures.removal row c.in_ok-push.ensures.ok;
      conflict = no_conflict_among groups rest (key, columns) (conflict_among all) c.loop-group.invariant.conflict c.in-Some.ensures.removal found.0;
    }
