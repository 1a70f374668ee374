use Rattle.std.proofs.Common.{false}
use Rattle.lk_rollup.proofs.StoredLaws.{joins_stored}
use Rattle.lk_rollup.proofs.stored.stored_query.Goals as goal

pub returns : goal.returns
returns c =
    let joins = joins_stored c.args.x.now c.args.picks _ c.args.rows _ _ _ _ c.as_slice-2.ensures c.as_slice.ensures c.in_ok-fields.ensures c.as_slice-3.ensures c.in_ok-joins.ensures in
    λ i. record {
      explore = c.args.number;
      picks = c.args.picks;
      joins = joins i;
      access = c.new.ensures i;
      rows = c.args.rows;
      having = c.new-2.ensures i;
      sorts = c.new-3.ensures i;
      limit = 1;
      fresh = false;
      csv = false;
    }
