-- What may not stand in a file by itself: unknown parameters, a parameter that stands twice, and wrong values. (lookd)
use Rattle.std.specs.Prelude.{ℕ, Bool, true, false, not, ◌&&◌, if◌then◌else◌, List, ◌++◌, Option, Some, None, codes}
use Rattle.std.specs.List.{flat_map}
use Rattle.lk_val.specs.Texts.{is_same_text}
use Rattle.lk_val.specs.declared.fault.FaultLine.{FaultLine}
use Rattle.lk_read.specs.Outline.{Outline}
use Rattle.lk_read.specs.declared.tree.Item.{Item}
use Rattle.lk_read.specs.declared.tree.Node.{Node}
use Rattle.lk_read.specs.declared.tree.Node.TheVariants as node
use Rattle.lk_params.specs.Parameters.{items_of}
use Rattle.lk_params.specs.Owners.{has_effect}
use Rattle.lk_params.specs.Findings.{finding, named_line, line_of}
use Rattle.lk_params.specs.Known.{block_findings, if_so}
use Rattle.lk_params.specs.Picking.{first_in}
use Rattle.lk_params.specs.declared.owner.Owner.TheVariants as owner
use Rattle.lk_params.specs.declared.number.Order.TheVariants as order
use Rattle.lk_params.specs.declared.number.Number.TheVariants.{N14}
use Rattle.lk_params.specs.declared.finding.Finding.{Finding}
use Rattle.lk_merge.specs.Declarations.{has_plus}

-- a value of `include`: a string, a word or a list
abbrev pub is_include : Node → Bool
is_include (node.Word text) = true
is_include (node.Quoted text) = true
is_include (node.List entries) = true
is_include value = false

-- a named block; of a datagroup, one without a `+`
abbrev pub is_object : List ℕ → Node → Bool
is_object name (node.Block (Some title) inner) = not (is_same_text name (codes "datagroup") && has_plus title)
is_object name value = false

-- a parameter with effect has a value that it can't have
abbrev pub is_wrong : Item → Bool
is_wrong item =
    if is_same_text item.name (codes "include") then not (is_include item.value)
    else has_effect owner.File item.name && not (is_object item.name item.value)

abbrev pub wrong_findings : List ℕ → Item → List Finding
wrong_findings path item =
    if_so (is_wrong item) (finding order.Object N14 item.name (named_line N14 path item.name))

-- the first fault of a file's own parameters, which are named with the file's path
abbrev pub stray_in : List ℕ × Outline → Option FaultLine
stray_in file = line_of (
    block_findings order.Object owner.File file.0 None (items_of file.1)
    ++ flat_map (wrong_findings file.0) (items_of file.1))

-- the first of all files, in order of reading
abbrev pub stray_of : List (List ℕ × Outline) → Option FaultLine
stray_of files = first_in stray_in files
