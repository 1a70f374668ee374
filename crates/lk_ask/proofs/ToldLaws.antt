-- What is told of a query has that query.
use Rattle.std.proofs.Common.{◌≡◌, ℕ, Bool, true, false, length, refl, subst, sym}
use Rattle.std.specs.Prelude.{Ok, Err, Result, nat_lt, if◌then◌else◌}
use Rattle.lk_types.specs.declared.answer.Answer.{Answer}
use Rattle.lk_types.specs.declared.answer.Answer.TheVariants as answer
use Rattle.lk_types.specs.declared.bound.Bound.{Bound}
use Rattle.lk_types.specs.declared.explore.Explore.{Explore}
use Rattle.lk_types.specs.declared.rows.Sources.{Sources}
use Rattle.lk_semantics.specs.Answers.{answer_of}
use Rattle.lk_semantics.specs.Rows.{visible_rows}
use Rattle.lk_ask.specs.Asks.{told_by, told_over}
use Rattle.lk_ask.specs.declared.fault.AskFault.{AskFault}
use Rattle.lk_ask.specs.declared.fault.AskFault.TheVariants as fault
use Rattle.lk_ask.specs.declared.told.Told.{Told}

-- what is told, where something is, is told of this query
abbrev of_bound : Bound → Result Told AskFault → Type 0
of_bound b (Ok told) = told.bound ≡ b
of_bound b (Err fault) = Unit {0}

by_bound : (x : Explore) (b : Bound) (n : ℕ) (a : Answer) → of_bound b (told_by x b n a)
by_bound x b n (answer.Table rows complete) = refl
by_bound x b n (answer.Duplicate measure key) = tt

over_bound : (x : Explore) (b : Bound) (n : ℕ) (many : Bool) (a : Answer) → of_bound b (if many then Err fault.Q10 else told_by x b n a)
over_bound x b n true a = tt
over_bound x b n false a = by_bound x b n a

pub bound_of_told : (x : Explore) (s : Sources) (b : Bound) (told : Told) → Ok told ≡ told_over x s b → told.bound ≡ b
bound_of_told x s b told is =
    subst (of_bound b) (sym is) (over_bound x b (length (visible_rows x s b)) (nat_lt 1000000 (length (visible_rows x s b))) (answer_of x s b))
