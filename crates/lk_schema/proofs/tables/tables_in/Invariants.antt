use Rattle.std.proofs.Common.{◌≡◌, ◌++◌, [], ℕ, List, take, drop}
use Rattle.std.specs.Ordering.{nat_cmp}
use Rattle.std.specs.Cmp.Lexicographic.{slice_cmp}
use Rattle.std.specs.List.{list_any}
use Rattle.std.specs.BTreeSet.{contains}
use Rattle.lk_val.specs.Texts.{is_same_text}
use Rattle.lk_schema.specs.Schemas.{tables_in}
use Rattle.lk_schema.proofs.tables.tables_in.Given as goal

abbrev pub invariant-loop-row : goal.invariant-loop-row
invariant-loop-row l = record {
  known : (name : List ℕ) → contains (slice_cmp nat_cmp) l.seen name
      ≡ list_any (λ other. is_same_text other.table name) (take l.row-index l.rows);
  rest : l.names ++ tables_in (take l.row-index l.rows) (drop l.row-index l.rows) ≡ tables_in [] l.rows;
}
