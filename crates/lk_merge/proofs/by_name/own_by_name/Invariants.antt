use Rattle.std.proofs.Common.{◌≡◌, ◌++◌, ℕ, List, drop}
use Rattle.std.specs.Prelude.{find, option_map}
use Rattle.std.specs.List.{filter}
use Rattle.std.specs.Option.{option_or}
use Rattle.lk_merge.specs.Objects.{own, declares, refines_it}
use Rattle.lk_merge.specs.ByName.{found_at, own_at}
use Rattle.lk_merge.proofs.OwnLaws.{alone}
use Rattle.lk_merge.proofs.by_name.own_by_name.Given as goal

abbrev pub invariant-loop-d : goal.invariant-loop-d
invariant-loop-d l = (name : List ℕ) → option_or (found_at l.own name) (option_map alone (find (declares l.kind name) (drop l.d-index l.all))) ≡ option_map alone (find (declares l.kind name) l.all)

abbrev pub invariant-loop-refinement : goal.invariant-loop-refinement
invariant-loop-refinement l = (name : List ℕ) → own_at l.own name ++ filter (refines_it l.kind name) (drop l.refinement-index l.all) ≡ own l.all l.kind name
