use Rattle.std.proofs.Common.{◌≡◌, ◌∙◌, ap, false, length, refl, subst, sym, true}
use Rattle.lk_types.specs.declared.model.Derived.{Derived}
use Rattle.lk_semantics.specs.Rollups.{derived_at}
use Rattle.lk_rollup.specs.Builds.{are_many_cells}
use Rattle.lk_keeps.specs.Keeps.{is_of, sources_over}
use Rattle.lk_keeps.proofs.MakingLaws.{is_made, no_large_table, table_fits}
use Rattle.lk_keeps.proofs.WantedLaws.{table_there}
use Rattle.lk_keeps.proofs.making.Making.test_table.Goals as goal
use Rattle.lk_keeps.proofs.making.Making.test_table.Goals.{then-is_of+else-are_many_cells, else-is_of}

pub returns : goal.returns
returns c =
    let m = c.args.self.now.model.now in
    let groups = c.args.self.now.groups.now in
    let set = c.args.self.now.set.now in
    let s = sources_over m set.stored in
    let d = c.args.number in
    elim c.if-is_of.branch [
      | then-is_of+else-are_many_cells w ↦
          let of = subst (λ (t : Derived). is_of groups t.datagroup ≡ true) c.derived_of-table.ensures (sym c.is_of.ensures ∙ w.if-is_of.true) in
          let rows = w.len-rows.ensures ∙ ap length (w.derived.ensures ∙ table_there m groups set d c.requires.ready.rows c.requires.number of) in
          let columns = w.len.ensures ∙ ap (λ (t : Derived). length t.columns) c.derived_of-table.ensures in
          let few = sym (λ i. are_many_cells (rows i) (columns i)) ∙ sym w.are_many_cells.ensures ∙ w.if-are_many_cells.false in
          is_made (tt {0}) (tt {0}) _ refl (table_fits groups s d (derived_at m d) of few)
      | else-is_of w ↦
          let not_of = subst (λ (t : Derived). is_of groups t.datagroup ≡ false) c.derived_of-table.ensures (sym c.is_of.ensures ∙ w.if-is_of.false) in
          is_made (tt {0}) (tt {0}) _ refl (no_large_table groups s d (derived_at m d) not_of)
    ]
