use Rattle.std.proofs.Common.{◌∙◌, ap, ap₂, subst, sym, length, map, List, Option, ℕ}
use Rattle.lk_types.specs.Tables.{Rows}
use Rattle.lk_types.specs.declared.schema.Kind.{Kind}
use Rattle.lk_table.specs.declared.column.Column.{Column}
use Rattle.lk_table.specs.Contents.{Content}
use Rattle.lk_table.specs.Batches.{sources_of}
use Rattle.lk_table.specs.Columns.{IsHeld, kind_in, rows_in, values_in}
use Rattle.lk_table.specs.Widening.{widened}
use Rattle.lk_table.proofs.WidenLaws.{held_wide, narrow_long, rows_wide, wide_kinds}
use Rattle.lk_table.proofs.block.Block.widened.Goals as goal

abbrev the_content : List Kind → Option ℕ → Rows → Content
the_content kinds key rows = record { kinds = kinds; key = key; rows = rows }

pub wide_columns-requires : goal.wide_columns-requires
wide_columns-requires c =
    let fields = c.self.inside in
    let kinds = ap (λ (content : Content). content.kinds) c.self.view_is ∙ c.requires.kinds in
    narrow_long c.args.kinds.now fields.count c.args.places.now fields.columns.items kinds

pub invariant_of-result : goal.invariant_of-result
invariant_of-result c =
    let fields = c.self.inside in
    let kinds = ap (λ (content : Content). content.kinds) c.self.view_is ∙ c.requires.kinds in
    subst (λ (all : List Column). IsHeld fields.region all fields.count fields.text) (sym c.in_ok-columns.ensures)
    (held_wide c.args.kinds.now fields.count c.args.places.now fields.columns.items kinds fields.region fields.text
    c.requires.within c.requires.once c.self.invariant)

pub returns : goal.returns
returns c =
    let fields = c.self.inside in
    let places = c.args.places.now in
    let kinds = ap (λ (content : Content). content.kinds) c.self.view_is ∙ c.requires.kinds in
    ap (λ (all : List Column). the_content (map kind_in all) c.args.key (rows_in fields.count (map (values_in fields.region) all))) c.in_ok-columns.ensures
    ∙ ap₂ (λ (are : List Kind) (rows : Rows). the_content are c.args.key rows)
    (wide_kinds c.args.kinds.now fields.count places fields.columns.items kinds)
    (rows_wide c.args.kinds.now fields.count places fields.columns.items kinds fields.region)
    ∙ ap (λ (content : Content). widened c.args.kinds.now c.args.key (sources_of (length c.args.kinds.now) places) content) c.self.view_is
