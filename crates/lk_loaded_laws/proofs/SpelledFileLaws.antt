-- The tree that a text spells is as texts spell them: code where a parameter's name wants it, and titles that are names.
use Rattle.std.proofs.Common.{◌≡◌, ℕ, true, ◌&&◌, List, [], ◌∷◌, refl, ap, Option, Some, None}
use Rattle.std.specs.Prelude.{not}
use Rattle.std.specs.List.{AllByRecursion}
use Rattle.lk_read.specs.Bytes.{is_code_name}
use Rattle.lk_read.specs.Grammar.{AreLines, IsContent, IsFile, IsLine, IsOpening, depth_after}
use Rattle.lk_read.specs.Lines.{Line, block, closing, lines, plain}
use Rattle.lk_read.specs.Outline.{Outline, Plain, branch, code, leaf, list, no_more, quoted, word}
use Rattle.lk_semantics.proofs.EveryLaws.{both}
use Rattle.lk_model_laws.specs.Spelled.{is_none_or_title, is_plain_of, is_spelled}
use Rattle.lk_model_laws.proofs.ListLaws.{all_behind, all_front}

-- a line is as a text spells it
abbrev IsSpelledLine : Line → Type 0
IsSpelledLine (plain name place value) = is_plain_of name value ≡ true
IsSpelledLine (block name place title) = (not (is_code_name name) && is_none_or_title title) ≡ true
IsSpelledLine closing = Unit {0}

content_spelled : (most depth : ℕ) (name text : List ℕ) (value : Plain) (rest : List ℕ) → IsContent most depth name text value rest → is_plain_of name value ≡ true
content_spelled most depth name text (code c) rest h = h.0
content_spelled most depth name text (word w) rest h = ap not h.0
content_spelled most depth name text (quoted q) rest h = ap not h.0
content_spelled most depth name text (list es) rest h = ap not h.0

opening_spelled : (text : List ℕ) (title : Option (List ℕ)) (rest : List ℕ) → IsOpening text title rest → is_none_or_title title ≡ true
opening_spelled text None rest h = refl
opening_spelled text (Some title) rest h = h.2

line_spelled : (most size depth : ℕ) (text : List ℕ) (line : Line) (rest : List ℕ) → IsLine most size depth text line rest → IsSpelledLine line
line_spelled most size depth text (plain name place value) rest h = content_spelled most depth name h.0 value rest h.2
line_spelled most size depth text (block name place title) rest h =
    both (not (is_code_name name)) (is_none_or_title title) (ap not h.4) (opening_spelled h.2 title rest h.6)
line_spelled most size depth text closing rest h = tt

lines_spelled : (most size depth : ℕ) (text : List ℕ) (all : List Line) → AreLines most size depth text all → AllByRecursion IsSpelledLine all
lines_spelled most size depth text [] h = tt
lines_spelled most size depth text (line ∷ all) h = (line_spelled most size depth text line h.0 h.2, lines_spelled most size (depth_after depth line) h.1 all h.4)

tree_spelled : (tree : Outline) → AllByRecursion IsSpelledLine (lines tree) → is_spelled tree ≡ true
tree_spelled no_more h = refl
tree_spelled (leaf name place value rest) h = both (is_plain_of name value) (is_spelled rest) h.0 (tree_spelled rest h.1)
tree_spelled (branch name place title inner rest) h =
    let behind = all_behind IsSpelledLine (lines inner) (closing ∷ lines rest) h.1 in
    both (not (is_code_name name) && is_none_or_title title && is_spelled inner) (is_spelled rest)
    (both (not (is_code_name name) && is_none_or_title title) (is_spelled inner) h.0 (tree_spelled inner (all_front IsSpelledLine (lines inner) (closing ∷ lines rest) h.1)))
    (tree_spelled rest behind.1)

-- the tree of a file
pub file_spelled : (most : ℕ) (text : List ℕ) (tree : Outline) → IsFile most text tree → is_spelled tree ≡ true
file_spelled most text tree h = tree_spelled tree (lines_spelled most _ 0 h.0 (lines tree) h.2)
