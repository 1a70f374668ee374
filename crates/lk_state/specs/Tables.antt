-- The tables of a schema by number, and what they hold. (lookd)
use Rattle.std.specs.Prelude.{ℕ, List, [], slice_index_or, Option, None}
use Rattle.std.specs.List.{position}
use Rattle.lk_val.specs.Texts.{is_same_text}
use Rattle.lk_types.specs.declared.schema.TableDef.{TableDef}
use Rattle.lk_table.specs.Contents.{Content}

-- the number of the table of a name
abbrev pub table_named : List TableDef → List ℕ → Option ℕ
table_named defs name = position (λ def. is_same_text def.name name) defs

abbrev pub no_table : TableDef
no_table = record { name = []; columns = []; key = None }

abbrev pub def_at : List TableDef → ℕ → TableDef
def_at defs number = slice_index_or defs number no_table

abbrev pub nothing_held : Content
nothing_held = record { kinds = []; key = None; rows = [] }

abbrev pub content_at : List Content → ℕ → Content
content_at contents number = slice_index_or contents number nothing_held
