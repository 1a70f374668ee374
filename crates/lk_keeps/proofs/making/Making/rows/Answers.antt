use Rattle.std.proofs.Common.{◌≡◌, ◌∙◌, [], ap, subst, sym, true}
use Rattle.std.specs.Prelude.{IfOk, if◌then◌else◌, slice_index_or}
use Rattle.lk_types.specs.Tables.{Rows}
use Rattle.lk_types.specs.declared.model.Derived.{Derived}
use Rattle.lk_keeps.specs.Keeps.{is_of, sources_over}
use Rattle.lk_keeps.proofs.WantedLaws.{table_there}
use Rattle.lk_keeps.proofs.making.Making.rows.Goals as goal

pub returns-then-is_of : goal.returns-then-is_of
returns-then-is_of c =
    let m = c.args.self.now.model.now in
    let groups = c.args.self.now.groups.now in
    let set = c.args.self.now.set.now in
    let keeps = c.args.self.now.keeps.now in
    let d = c.args.number in
    let of = subst (λ (t : Derived). is_of groups t.datagroup ≡ true) c.derived_of.ensures (sym c.is_of.ensures ∙ c.if-is_of.true) in
    subst (λ (all : Rows). IfOk c.share_derived.result (λ rows. rows ≡ all))
    (table_there m groups set d c.requires.ready.rows c.requires.number of
    ∙ ap (λ b. if b then slice_index_or (sources_over m set.stored).derived d [] else slice_index_or keeps.derived d []) (sym of)) c.share_derived.ensures
