use Rattle.std.proofs.Common.{◌≡◌, ◌≤◌, ℕ, List, length, drop, option_map}
use Rattle.std.specs.BTreeSet.{contains}
use Rattle.std.specs.List.{list_any}
use Rattle.std.specs.Ordering.{nat_cmp}
use Rattle.std.specs.Cmp.Lexicographic.{slice_cmp}
use Rattle.lk_val.specs.Texts.{is_same_text}
use Rattle.lk_field_faults.specs.MadeNames.{least_twice}
use Rattle.lk_field_faults.proofs.made_names.least_twice.Given as goal

abbrev pub invariant-loop-place : goal.invariant-loop-place
invariant-loop-place l = record {
  within : l.place ≤ length l.names;
  known : (name : List ℕ) → contains (slice_cmp nat_cmp) l.known name ≡ list_any (λ other. is_same_text other name) (drop l.place l.names);
  least : option_map (λ t. t.now) l.least ≡ least_twice (drop l.place l.names);
}
