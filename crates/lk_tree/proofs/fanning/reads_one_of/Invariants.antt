use Rattle.std.proofs.Common.{◌≡◌, ◌<◌, ◌&&◌, ℕ, false}
use Rattle.std.specs.Prelude.{slice_index_or}
use Rattle.lk_types.specs.Expressions.{has_number}
use Rattle.lk_semantics.specs.Joins.{condition_of, mentions_of}
use Rattle.lk_tree.proofs.fanning.reads_one_of.Given as goal

abbrev pub invariant-loop-part : goal.invariant-loop-part
invariant-loop-part l = (p : ℕ) → p < l.part → (slice_index_or l.set p false && has_number p (mentions_of (condition_of l.join))) ≡ false
