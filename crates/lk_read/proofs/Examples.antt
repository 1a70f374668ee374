-- Texts, with the trees that they spell and the faults that they have, computed.
use Rattle.std.proofs.Common.{◌≡◌, [], ◌∷◌, ◌++◌, Some, codes, refl}
use Rattle.lk_read.specs.declared.read_fault.ReadFault.TheVariants as fault
use Rattle.lk_read.specs.Outline.{Outline, no_more, leaf, branch, word}
use Rattle.lk_read.specs.Lines.{lines}
use Rattle.lk_read.specs.Grammar.{IsFile}
use Rattle.lk_read.specs.Canonical.{canonical}
use Rattle.lk_read.specs.Faults.{IsFirstFault}
use Rattle.lk_read.specs.Reading.{read_lines}
use Rattle.lk_read.proofs.Found.{found}
use Rattle.lk_read.proofs.Refused.{refused}

-- a view with one dimension
abbrev view : Outline
view = branch (codes "view") 0 (Some (codes "a")) (branch (codes "dimension") 10 (Some (codes "b")) (leaf (codes "type") 25 (word (codes "number")) no_more) no_more) no_more

view_is_spelled : IsFile 32 (codes "view: a { dimension: b { type: number } }") view
unfolding read_lines
view_is_spelled = found 32 (codes "view: a { dimension: b { type: number } }") (lines view) refl

view_prints : canonical view ≡ codes "view: a {" ++ 10 ∷ (codes "  dimension: b {" ++ 10 ∷ (codes "    type: number" ++ 10 ∷ (codes "  }" ++ 10 ∷ (codes "}" ++ 10 ∷ []))))
view_prints = refl

code_without_its_end : IsFirstFault 32 (codes "view: a { dimension: b { sql: x } }") (fault.R3 25)
unfolding read_lines
code_without_its_end = refused 32 (codes "view: a { dimension: b { sql: x } }") (fault.R3 25) refl

a_list_in_a_block : IsFirstFault 32 (codes "a: { b: [ c") (fault.R2 8)
unfolding read_lines
a_list_in_a_block = refused 32 (codes "a: { b: [ c") (fault.R2 8) refl

a_bracket_too_many : IsFirstFault 1 (codes "a: { b: [ c ] }") (fault.R5 8)
unfolding read_lines
a_bracket_too_many = refused 1 (codes "a: { b: [ c ] }") (fault.R5 8) refl

no_colon_here : IsFirstFault 32 (codes "a: b: c") (fault.R4 4)
unfolding read_lines
no_colon_here = refused 32 (codes "a: b: c") (fault.R4 4) refl
