-- The answer of a plan is what its query is told.
use Rattle.std.proofs.Common.{◌≡◌, ◌∙◌, ◌<◌, ◌≤◌, ℕ, ℤ, true, false, List, length, refl, sym, ap, arith}
use Rattle.std.specs.Prelude.{Some, nat_lt, Err, if◌then◌else◌}
use Rattle.lk_types.specs.declared.answer.Answer.{Answer}
use Rattle.lk_types.specs.declared.answer.Answer.TheVariants as answer
use Rattle.lk_types.specs.declared.bound.Bound.{Bound}
use Rattle.lk_types.specs.declared.explore.Explore.{Explore}
use Rattle.lk_types.specs.declared.explore.Measure.{Measure}
use Rattle.lk_types.specs.declared.rows.Joined.{Joined}
use Rattle.lk_types.specs.declared.rows.Sources.{Sources}
use Rattle.lk_semantics.specs.Answers.{answer_of}
use Rattle.lk_semantics.specs.Rows.{visible_rows}
use Rattle.lk_exec.specs.Places.{place_after}
use Rattle.lk_exec.specs.Visits.{IsOver, IsWithin}
use Rattle.lk_filter.specs.PlacedModel.{placed_explore}
use Rattle.lk_placed_laws.proofs.PlacedLaws.{measure_is}
use Rattle.lk_ask.specs.Asks.{told_by, told_over}
use Rattle.lk_ask.specs.declared.fault.AskFault.TheVariants as fault

not_more : (most n : ℕ) → n ≤ most → nat_lt most n ≡ false
not_more most n h = grind arith

-- at each moment the measures have the same names
named : (now : ℤ) (x : Explore) (b : Bound) (n : ℕ) (a : Answer) → told_by x b n a ≡ told_by (placed_explore now x) b n a
named now x b n (answer.Table rows complete) = refl
named now x b n (answer.Duplicate number key) = ap (λ (k : Measure). Err (fault.Q9 k.name key)) (sym (measure_is now x number))

-- rows within the cap are counted one by one
counted_is : (rows : List Joined) → IsWithin (Some 1000000) rows → place_after rows ≡ length rows
counted_is rows within = grind (arith, within)

within_is : (x : Explore) (s : Sources) (b other : Bound) (n : ℕ) (a : Answer) → other ≡ b → a ≡ answer_of x s other → n ≡ place_after (visible_rows x s other)
    → IsWithin (Some 1000000) (visible_rows x s other) → told_by x b n a ≡ told_over x s b
within_is x s b other n a same is count within =
    let few : nat_lt 1000000 (length (visible_rows x s b)) ≡ false =
    ap (λ c. nat_lt 1000000 (length (visible_rows x s c))) (sym same) ∙ not_more 1000000 (length (visible_rows x s other)) within in
    ap (λ k. told_by x b k a) (count ∙ counted_is (visible_rows x s other) within ∙ ap (λ c. length (visible_rows x s c)) same)
    ∙ ap (told_by x b (length (visible_rows x s b))) (is ∙ ap (answer_of x s) same)
    ∙ sym (ap (λ c. if c then Err fault.Q10 else told_by x b (length (visible_rows x s b)) (answer_of x s b)) few)

-- what an answer over the explore at a moment tells
pub told_is : (now : ℤ) (x : Explore) (s : Sources) (b other : Bound) (n : ℕ) (a : Answer) → other ≡ b → a ≡ answer_of (placed_explore now x) s other
    → n ≡ place_after (visible_rows (placed_explore now x) s other)
    → IsWithin (Some 1000000) (visible_rows (placed_explore now x) s other) → told_by x b n a ≡ told_over (placed_explore now x) s b
told_is now x s b other n a same is count within = named now x b n a ∙ within_is (placed_explore now x) s b other n a same is count within

more : (most n : ℕ) → most < n → nat_lt most n ≡ true
more most n h = grind arith

-- and what too many visible rows tell
pub many_is : (x : Explore) (s : Sources) (b other : Bound) → other ≡ b → IsOver (Some 1000000) (visible_rows x s other) → Err fault.Q10 ≡ told_over x s b
many_is x s b other same over =
    let many : nat_lt 1000000 (length (visible_rows x s b)) ≡ true =
    ap (λ c. nat_lt 1000000 (length (visible_rows x s c))) (sym same) ∙ more 1000000 (length (visible_rows x s other)) over in
    sym (ap (λ c. if c then Err fault.Q10 else told_by x b (length (visible_rows x s b)) (answer_of x s b)) many)
