-- The edition that a server opens with, or the first fault. (lookd)
use Rattle.std.specs.Prelude.{ℤ, List, map, Result, Ok, Err}
use Rattle.lk_types.specs.declared.model.Model.{Model}
use Rattle.lk_schema.specs.declared.users.Users.{Users}
use Rattle.lk_table.specs.Contents.{rows_of_each}
use Rattle.lk_trigger.specs.Builds.{built_at}
use Rattle.lk_trigger.specs.declared.build.Build.{Build}
use Rattle.lk_rollup.specs.declared.fault.BuildFault.{BuildFault}
use Rattle.lk_rollup.specs.declared.fault.BuildFault.TheVariants as build
use Rattle.lk_keeps.specs.Anew.{all_kept}
use Rattle.lk_keeps.specs.Keeps.{Keeps}
use Rattle.lk_ledger.specs.declared.kept.Kept.{Kept}
use Rattle.lk_state.specs.Openings.{Seed, opened}
use Rattle.lk_state.specs.States.{State}
use Rattle.lk_state.specs.declared.fault.OpenFault.{OpenFault}
use Rattle.lk_state.specs.declared.fault.OpenFault.TheVariants as fault
use Rattle.lk_edition.specs.Standings.{Standing}

-- all datagroups, built at a state and a moment
abbrev pub all_built : Model → State → ℤ → List Build
all_built model state now = map (built_at (rows_of_each state.tables) state.number now) model.datagroups

-- unless a build is too large (G2)
abbrev pub standing_built : Model → Users → State → ℤ → Result Keeps BuildFault → Result Standing OpenFault
standing_built model users state now (Err (build.G2 name)) = Err (fault.Large name)
standing_built model users state now (Err build.NoMemory) = Err fault.NoMemory
standing_built model users state now (Ok keeps) =
    Ok (record { model = model; users = users; state = state; builds = all_built model state now; keeps = keeps })

-- the state that it opens with, at which all datagroups are built
abbrev pub standing_over : Model → Users → ℤ → Result State OpenFault → Result Standing OpenFault
standing_over model users now (Err f) = Err f
standing_over model users now (Ok state) = standing_built model users state now (all_kept model (rows_of_each state.tables))

abbrev pub standing_opened : Model → Users → Kept → List Seed → ℤ → Result Standing OpenFault
standing_opened model users kept seeds now = standing_over model users now (opened model.schema.tables kept seeds)
