use Rattle.std.proofs.Common.{◌+◌, ◌++◌, ◌∷◌, ◌∙◌, [], ap, sym, subst, take}
use Rattle.std.proofs.lemmas.List.{take_more, map-append}
use Rattle.lk_table.specs.Contents.{content_of}
use Rattle.lk_load.specs.Loading.{IsTable}
use Rattle.lk_types.specs.declared.schema.TableDef.{TableDef}
use Rattle.lk_state.specs.Openings.{empty_tables}
use Rattle.lk_state.specs.States.{AreTables}
use Rattle.lk_state.proofs.ContentLaws.{empty_more}
use Rattle.lk_state.proofs.opening.empty_tables.Goals as goal

pub loop-def-preserved : goal.loop-def-preserved
loop-def-preserved c =
    let defs = c.args.defs.now in
    let i = c.loop-def.def-index in
    let def = c.def-item.result in
    let content = c.in_ok-empty.field-0 in
    let new : IsTable def content = subst (IsTable def) (sym c.in_ok-empty.ensures) (c.loads_keep_tables_valid.ensures.nothing def) in
    record {
      value =
          c.in_ok-push.ensures.ok
          ∙ (λ k. c.loop-def.invariant.value k ++ c.in_ok-empty.ensures k ∷ [])
          ∙ sym (map-append (λ (d : TableDef). content_of d []) (take i defs) (def ∷ []))
          ∙ ap empty_tables (ap (λ (d : TableDef). take i defs ++ d ∷ []) c.def-item.is ∙ sym (take_more defs i def c.loop-def-test.true));
      are = subst (AreTables (take (i + 1) defs)) (sym c.in_ok-push.ensures.ok)
          (empty_more defs c.loop-def.tables i def content c.loop-def-test.true c.def-item.is c.loop-def.invariant.are new);
    }
