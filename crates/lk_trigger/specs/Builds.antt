-- Builds of datagroups: what each watches, when it triggers, and what is remembered of its last build.
use Rattle.std.specs.Prelude.{ℕ, Bool, false, not, ℤ, pos, ◌-ℤ◌, int_le, List, [], filter, length, map, slice_index_or, Option, Some, None}
use Rattle.lk_val.specs.Values.{is_same}
use Rattle.lk_val.specs.declared.value.Value.{Value}
use Rattle.lk_val.specs.declared.value.Value.TheVariants as value
use Rattle.lk_types.specs.Calendar.{day_of_moment}
use Rattle.lk_types.specs.Tables.{Rows, column_values}
use Rattle.lk_types.specs.declared.model.Datagroup.{Datagroup}
use Rattle.lk_types.specs.declared.model.Trigger.{Trigger}
use Rattle.lk_types.specs.declared.model.Trigger.TheVariants as trigger
use Rattle.lk_semantics.specs.Joins.{numbers_below}
use Rattle.lk_semantics.specs.Measures.{greatest_of}
use Rattle.lk_trigger.specs.declared.build.Build.{Build}

-- ---- what a datagroup watches

-- what a trigger watches: the greatest value of a column, the number of rows, as that many 1/10,000 since it is only compared, or the day in UTC (Looker, LookML reference: sql_trigger)
abbrev pub watched : List Rows → ℤ → Trigger → Value
watched tables now (trigger.Max table column) = greatest_of (column_values (slice_index_or tables table []) column)
watched tables now (trigger.Count table) = value.Num (record { 0 = pos (length (slice_index_or tables table [])) })
watched tables now trigger.Today = value.Day (day_of_moment now)

-- the value of a datagroup, null where it watches nothing
abbrev pub trigger_value : List Rows → ℤ → Option Trigger → Value
trigger_value tables now None = value.Null
trigger_value tables now (Some trigger) = watched tables now trigger

-- ---- when a datagroup triggers

-- the value of a trigger is another than before; without a trigger nothing changes
abbrev pub has_changed : Value → Option Trigger → Value → Bool
has_changed before None now = false
has_changed before (Some trigger) now = not (is_same before now)

-- so many seconds, or more, lie between two moments
abbrev pub has_passed : ℤ → ℤ → ℤ → Bool
has_passed seconds since now = int_le seconds (now -ℤ since)

-- an interval decides alone: the datagroup triggers once it has passed since the last build, whatever it watches. Without one it triggers where its value has changed since (Looker, LookML reference: interval_trigger)
abbrev pub does_trigger : List Rows → ℤ → Build → Datagroup → Bool
does_trigger tables now build datagroup = by_interval datagroup.interval
  where
    by_interval : Option ℤ → Bool
    by_interval (Some seconds) = has_passed seconds build.moment now
    by_interval None = has_changed build.value datagroup.trigger (trigger_value tables now datagroup.trigger)

-- the datagroup past the last, and its build
abbrev pub no_datagroup : Datagroup
no_datagroup = record { name = []; trigger = None; interval = None }

abbrev pub no_build : Build
no_build = record { value = value.Null; moment = pos 0; number = 0 }

-- the datagroup of a number, and its last build
abbrev pub datagroup_at : List Datagroup → ℕ → Datagroup
datagroup_at datagroups g = slice_index_or datagroups g no_datagroup

abbrev pub build_at : List Build → ℕ → Build
build_at builds g = slice_index_or builds g no_build

-- the numbers of the datagroups that trigger at a moment, in the model's order
abbrev pub triggered : List Datagroup → List Rows → List Build → ℤ → List ℕ
triggered datagroups tables builds now =
    filter (λ g. does_trigger tables now (build_at builds g) (datagroup_at datagroups g)) (numbers_below (length datagroups))

-- ---- what is remembered of a build

-- a datagroup as it is built at a moment over the tables of the state of a number
abbrev pub built_at : List Rows → ℕ → ℤ → Datagroup → Build
built_at tables number now datagroup =
    record { value = trigger_value tables now datagroup.trigger; moment = now; number = number }
