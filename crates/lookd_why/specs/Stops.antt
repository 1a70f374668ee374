-- Why a run stopped before it had a reply.
use Rattle.std.specs.Prelude.{◌≡◌, ℕ, ◌≤◌, Result, IfErr}
use Rattle.lk_io.specs.Causes.{Rose}
use Rattle.lookd_why.specs.declared.stop.Stop.{Stop}
use Rattle.lookd_why.specs.declared.stop.Stop.TheVariants.{Input, Files, Memory}

-- the status of a run that something outside stopped: 3 the input, 6 memory, 7 the files (lookd)
abbrev pub stop_code : Stop → ℕ
stop_code Input = 3
stop_code Memory = 6
stop_code Files = 7

-- the run does not stop for this
abbrev pub NeverStops : {T : Type 0} → Stop → Result T Stop → Type 0
NeverStops why result = IfErr result (λ stop. stop ≡ why → ⊥)

-- the count never falls, and the run stops for its object only where it rose
pub record HasStopCause {T : Type 0} (why : Stop) (before now : ℕ) (result : Result T Stop) : Type 0 where
  pub later : before ≤ now
  pub rose : IfErr result (λ stop. stop ≡ why → Rose before now)
