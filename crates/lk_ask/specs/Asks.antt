-- What a query over tables is told. (lookd)
use Rattle.std.specs.Prelude.{ℕ, Bool, true, false, nat_lt, if◌then◌else◌, length, Result, Ok, Err}
use Rattle.lk_types.specs.declared.answer.Answer.{Answer}
use Rattle.lk_types.specs.declared.answer.Answer.TheVariants as answer
use Rattle.lk_types.specs.declared.bound.Bound.{Bound}
use Rattle.lk_types.specs.declared.explore.Explore.{Explore}
use Rattle.lk_types.specs.declared.rows.Sources.{Sources}
use Rattle.lk_semantics.specs.Answers.{answer_of, measure_at}
use Rattle.lk_semantics.specs.Rows.{visible_rows}
use Rattle.lk_body.specs.declared.fault.QueryFault.TheVariants as query
use Rattle.lk_body.specs.declared.fault.QueryFault.{QueryFault}
use Rattle.lk_ask.specs.declared.fault.AskFault.{AskFault}
use Rattle.lk_ask.specs.declared.fault.AskFault.TheVariants as fault
use Rattle.lk_ask.specs.declared.told.Told.{Told}

-- the fault is want of memory
abbrev pub is_no_memory : AskFault → Bool
is_no_memory fault.NoMemory = true
is_no_memory other = false

-- the refusal of a query that means nothing
abbrev pub refused : QueryFault → AskFault
refused (query.Q1 explore) = fault.Q1 explore
refused (query.Q2 user) = fault.Q2 user
refused query.Q3 = fault.Q3
refused (query.Q4 name) = fault.Q4 name
refused (query.Q5 field attribute) = fault.Q5 field attribute
refused (query.Q6 field place) = fault.Q6 field place
refused (query.Q7 measure) = fault.Q7 measure
refused (query.Q8 limit) = fault.Q8 limit
refused query.NoMemory = fault.NoMemory

-- the lines, which come of so many visible rows, or the least key with two values (Q9)
abbrev pub told_by : Explore → Bound → ℕ → Answer → Result Told AskFault
told_by x b visited (answer.Table rows complete) =
    Ok (record { bound = b; rows = rows; complete = complete; visited = visited })
told_by x b visited (answer.Duplicate measure key) = Err (fault.Q9 (measure_at x measure).name key)

-- the answer, unless more than 1,000,000 rows are visible (Q10)
abbrev pub told_over : Explore → Sources → Bound → Result Told AskFault
told_over x s b =
    if nat_lt 1000000 (length (visible_rows x s b)) then Err fault.Q10
    else told_by x b (length (visible_rows x s b)) (answer_of x s b)
