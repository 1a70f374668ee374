-- Objects as the texts of a project spell them: their names are names, and code stands where a parameter's name wants it. (Looker, LookML reference; lookd)
use Rattle.std.specs.Prelude.{ℕ, Bool, true, not, ◌&&◌, List, map, Option, Some, None}
use Rattle.std.specs.List.{list_all}
use Rattle.lk_read.specs.Bytes.{is_code_name, is_name, is_title}
use Rattle.lk_read.specs.Outline.{Plain, Outline, word, quoted, list, code, no_more, leaf, branch}
use Rattle.lk_read.specs.declared.tree.Node.{Node}
use Rattle.lk_read.specs.declared.tree.Node.TheVariants as node
use Rattle.lk_params.specs.Parameters.{items_of}
use Rattle.lk_merge.specs.declared.project.Merged.{Merged}
use Rattle.lk_merge.specs.declared.project.Object.{Object}
use Rattle.lk_written.specs.Blocks.{block_name}
use Rattle.lk_explore.specs.Explores.{joins_in}
use Rattle.lk_model_laws.specs.Named.{are_distinct}

-- code, where the parameter's name wants it, and else another value
abbrev pub is_plain_of : List ℕ → Plain → Bool
is_plain_of name (code text) = is_code_name name
is_plain_of name (word text) = not (is_code_name name)
is_plain_of name (quoted text) = not (is_code_name name)
is_plain_of name (list entries) = not (is_code_name name)

-- a block without a name, or with one
abbrev pub is_none_or_title : Option (List ℕ) → Bool
is_none_or_title None = true
is_none_or_title (Some title) = is_title title

-- parameters are as a text spells them, in all their blocks too
abbrev pub is_spelled : Outline → Bool
is_spelled no_more = true
is_spelled (leaf name place value rest) = is_plain_of name value && is_spelled rest
is_spelled (branch name place title inner rest) = not (is_code_name name) && is_none_or_title title && is_spelled inner && is_spelled rest

-- the value of a parameter is so
abbrev pub is_value_of : List ℕ → Node → Bool
is_value_of name (node.Word text) = not (is_code_name name)
is_value_of name (node.Quoted text) = not (is_code_name name)
is_value_of name (node.List entries) = not (is_code_name name)
is_value_of name (node.Block title inner) = not (is_code_name name) && is_none_or_title title && is_spelled inner
is_value_of name (node.Code text) = is_code_name name

-- ---- the effective objects of a project

-- an object has a name, and its parameters are so
abbrev pub is_spelled_object : Object → Bool
is_spelled_object o = is_name o.name && is_spelled o.tree

-- two joins of an explore have two names
abbrev pub has_own_joins : Object → Bool
has_own_joins o = are_distinct (map block_name (joins_in (items_of o.tree)))

-- all objects are so
abbrev pub are_spelled : Merged → Bool
are_spelled merged = list_all is_spelled_object merged.views && list_all is_spelled_object merged.explores && list_all has_own_joins merged.explores
