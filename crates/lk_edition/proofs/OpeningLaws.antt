-- An opening over the tables of its state.
use Rattle.std.proofs.Common.{◌≡◌, ◌∙◌, ℤ, Bool, true, false, List, sym, ap}
use Rattle.std.specs.Prelude.{Ok, Err, Result}
use Rattle.lk_val.specs.Memory.{Unless}
use Rattle.lk_table.specs.Contents.{Content, rows_of_each}
use Rattle.lk_keeps.specs.Anew.{all_kept}
use Rattle.lk_ledger.specs.declared.kept.Kept.{Kept}
use Rattle.lk_ledger.specs.declared.kept.KeptId.{KeptId}
use Rattle.lk_state.specs.Openings.{Seed, opened}
use Rattle.lk_state.specs.declared.fault.OpenFault.{OpenFault}
use Rattle.lk_edition.specs.Editions.{standing_of, state_of}
use Rattle.lk_edition.specs.Openings.{standing_built, standing_opened, standing_over}
use Rattle.lk_edition.specs.Standings.{Standing}
use Rattle.lk_edition.specs.declared.edition.Base.{Base}
use Rattle.lk_edition.specs.declared.edition.Made.{Made}

-- what follows of a fact, where memory did not run out
pub unless_so : {A B : Type 0} (lost : Bool) → (A → B) → Unless lost A → Unless lost B
unless_so true further h = tt
unless_so false further h = further h

module _ (base : Base) (kept : Kept) (seeds : List Seed) (now : ℤ) (tables : List Content)
    (is : opened base.model.schema.tables kept seeds ≡ Ok (state_of kept.number tables kept.ids)) where
  abbrev built_over : List KeptId → Result Standing OpenFault
  built_over ids = standing_built base.model base.users (state_of kept.number tables ids) now (all_kept base.model (rows_of_each tables))

  opened_is : standing_opened base.model base.users kept seeds now ≡ built_over kept.ids
  opened_is = ap (standing_over base.model base.users now) is

  pub opening_fails : (why : OpenFault) (lost : Bool) → Unless lost ((ids : List KeptId) → Err why ≡ built_over ids)
      → Unless lost (Err why ≡ standing_opened base.model base.users kept seeds now)
  opening_fails why true fails = tt
  opening_fails why false fails = fails kept.ids ∙ sym opened_is

  pub opening_is : (made : Made) (loads : List KeptId) (edition : Standing) → edition ≡ standing_of base (state_of kept.number tables loads) made → loads ≡ kept.ids
      → ((ids : List KeptId) → built_over ids ≡ Ok (standing_of base (state_of kept.number tables ids) made))
      → Ok edition ≡ standing_opened base.model base.users kept seeds now
  opening_is made loads edition so same opens = ap Ok so ∙ sym (opens loads) ∙ ap built_over same ∙ sym opened_is
