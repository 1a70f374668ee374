-- The sort's closure compares paths, and their order is total.
use Rattle.std.proofs.Common.{rules}
use Rattle.std.specs.Cmp.{IsStrictWeakOrder}
use Rattle.std.specs.Cmp.Lexicographic.{slice_cmp, nat_list_cmp_total}
use Rattle.std.specs.Ordering.{nat_cmp, is_lt}
use Rattle.std.proofs.lemmas.List.Sorted.{ranks_by, answers_always}
use Rattle.lk_io.specs.declared.files.File.{File}
use Rattle.lk_io.proofs.mem_files.MemFiles.new.Goals as goal

by_path : IsStrictWeakOrder (λ (x y : File). is_lt (slice_cmp nat_cmp x.path y.path))
by_path = ranks_by nat_list_cmp_total (λ file. file.path)

pub invariant_of-result : goal.invariant_of-result
invariant_of-result c = c.in_ok-sort_by.ensures.sorted _ by_path (answers_always _ _ _ (λ f a r f' called. search rules))

pub returns-clause-order : goal.returns-clause-order
returns-clause-order c = rw (← c.into_vec-files.ensures) (record {
  same = c.in_ok-sort_by.ensures.permutation;
  ascends = c.in_ok-sort_by.ensures.sorted _ by_path (answers_always _ _ _ (λ f a r f' called. search rules));
  stable = c.in_ok-sort_by.ensures.stable _ by_path (answers_always _ _ _ (λ f a r f' called. search rules));
})
