-- An office over what a store handed over.
use Rattle.std.proofs.Common.{◌≡◌, Bool, true, false, ℤ, List}
use Rattle.std.specs.Prelude.{IfSome, Option, Result, Err}
use Rattle.lk_val.specs.Memory.{Unless}
use Rattle.lk_types.specs.declared.model.Model.{Model}
use Rattle.lk_schema.specs.declared.users.Users.{Users}
use Rattle.lk_ledger.specs.declared.kept.Kept.{Kept}
use Rattle.lk_state.specs.Openings.{Seed}
use Rattle.lk_state.specs.declared.fault.OpenFault.{OpenFault}
use Rattle.lk_edition.specs.Offices.{Begins, IsOpening}
use Rattle.lk_edition.specs.Openings.{standing_opened}
use Rattle.lk_edition.specs.Standings.{Standing}

module _ (model : Model) (users : Users) (held : Option Kept) (handed : Kept → Type 0) (seeds : List Seed) (kept : Kept) (now : ℤ)
    (told : IfSome held (λ holds. kept ≡ holds)) (may : handed kept) where
  pub opening : (result : Result Standing OpenFault) → standing_opened model users kept seeds now ≡ result → IsOpening model users (Begins held handed) seeds now result
  opening result is = record { kept = kept; handed = record { told = told; may = may }; is = is }

  pub not_opening : (lost : Bool) (fault : OpenFault) → Unless lost (standing_opened model users kept seeds now ≡ Err fault)
      → Unless lost (IsOpening model users (Begins held handed) seeds now (Err fault))
  not_opening true fault is = is
  not_opening false fault is = opening (Err fault) is
