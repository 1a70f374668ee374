-- What an edition holds. (lookd)
use Rattle.std.specs.Prelude.{◌≡◌, ◌+◌, ℕ, List}
use Rattle.lk_types.specs.declared.rows.Sources.{Sources}
use Rattle.lk_table.specs.Contents.{Content}
use Rattle.lk_fill.specs.Orders.{IsDeriveOrder}
use Rattle.lk_route.specs.Ready.{IsReadyFor}
use Rattle.lk_ledger.specs.Saving.{Save, check, load}
use Rattle.lk_ledger.specs.declared.kept.KeptId.{KeptId}
use Rattle.lk_state.specs.States.{State, sources_at}
use Rattle.lk_edition.specs.Standings.{IsStanding, Standing}
use Rattle.lk_edition.specs.declared.edition.Base.{Base}
use Rattle.lk_edition.specs.declared.edition.Made.{Made}
use Rattle.lk_edition.specs.declared.plan.ToSave.{ToSave}
use Rattle.lk_edition.specs.declared.plan.ToSave.TheVariants as to_save

-- the state of these parts
abbrev pub state_of : ℕ → List Content → List KeptId → State
state_of number tables loads = record { number = number; tables = tables; ids = loads }

-- the edition of these parts
abbrev pub standing_of : Base → State → Made → Standing
standing_of base state made =
    record { model = base.model; users = base.users; state = state; builds = made.builds; keeps = made.keeps }

-- the edition of the next number over the same tables and loads, where this was made
abbrev pub standing_with : Standing → Made → Standing
standing_with e made =
    record { model = e.model; users = e.users; state = state_of (e.state.number + 1) e.state.tables e.state.ids; builds = made.builds; keeps = made.keeps }

-- what always holds of an edition: it stands for a state of its model, queries see that state's tables, its derived tables can be made in the order that it has, and it has what is asked whenever a query is routed
pub record IsEdition (base : Base) (state : State) (made : Made) (set : Sources) : Type 0 where
  pub standing : IsStanding (standing_of base state made)
  pub seen : set ≡ sources_at state
  pub order : IsDeriveOrder base.model base.order
  pub ready : IsReadyFor base.model base.ready

-- what a plan says that the store is told
abbrev pub save_of : ToSave → Save
save_of (to_save.Load command) = load command
save_of (to_save.Check number) = check number
