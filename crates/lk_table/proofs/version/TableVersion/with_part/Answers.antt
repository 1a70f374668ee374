use Rattle.std.proofs.Common.{◌≡◌, ◌+◌, ◌∙◌, ◌++◌, ◌∷◌, [], ap, sym, subst, arith, length, List}
use Rattle.lk_types.specs.declared.schema.Kind.{Kind}
use Rattle.lk_table.specs.Contents.{Content, text_bytes}
use Rattle.lk_table.specs.Versions.{IsVersion}
use Rattle.lk_table.proofs.VersionLaws.{version_more}
use Rattle.lk_table.proofs.version.TableVersion.with_part.Goals as goal

pub invariant_of-result : goal.invariant_of-result
invariant_of-result c =
    let fields = c.self.inside in
    let part = c.args.part in
    let kinds = c.in_ok-from_slice.ensures.items ∙ c.deref.ensures.value in
    let more : c.in-Some.count ≡ fields.count + length part.rows = omega (arith, c.len.ensures) in
    let bytes : c.in-Some-checked_add.text ≡ fields.text + text_bytes part.rows =
    omega (arith, c.text.ensures, ap (λ (content : Content). text_bytes content.rows) c.block.ensures) in
    let all = c.in_ok-shared_with.ensures ∙ ap (λ (parts : List Content). parts ++ part ∷ []) c.deref-2.ensures.value in
    subst (λ (k : List Kind). IsVersion k fields.key c.in_ok-shared_with.field-0.items c.in-Some.count c.in-Some-checked_add.text) (sym kinds)
    (version_more fields.kinds.items fields.key fields.parts.items c.in_ok-shared_with.field-0.items part fields.count fields.text
    c.in-Some.count c.in-Some-checked_add.text c.self.invariant
    (c.requires.kinds ∙ ap (λ (content : Content). content.kinds) (sym c.self.view_is), c.requires.key ∙ ap (λ (content : Content). content.key) (sym c.self.view_is))
    all more bytes)
