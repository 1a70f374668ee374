-- A version of a table: parts that hold its rows one after the other.
use Rattle.std.specs.Prelude.{◌≡◌, ◌<◌, ◌++◌, ◌^◌, ℕ, List, [], length, Option}
use Rattle.std.specs.List.{All, flat_map}
use Rattle.lk_types.specs.Tables.{Rows}
use Rattle.lk_types.specs.declared.schema.Kind.{Kind}
use Rattle.lk_table.specs.Contents.{Content, text_bytes}

-- the rows of all the parts
abbrev pub rows_of : List Content → Rows
rows_of parts = flat_map (λ part. part.rows) parts

-- the part has these columns, and this key column
abbrev pub IsShaped : List Kind → Option ℕ → Content → Type 0
IsShaped kinds key part = (part.kinds ≡ kinds) × (part.key ≡ key)

-- what always holds of a version: the parts have its columns and its key column, the rows and the bytes of their texts
-- are counted, and the columns can be counted in 32 bits
pub record IsVersion (kinds : List Kind) (key : Option ℕ) (parts : List Content) (count text : ℕ) : Type 0 where
  pub shaped : All (IsShaped kinds key) parts
  pub counted : count ≡ length (rows_of parts)
  pub measured : text ≡ text_bytes (rows_of parts)
  pub narrow : length kinds < 2 ^ 32

-- the content with more rows behind its own
abbrev pub followed : Content → Rows → Content
followed content rows = record { kinds = content.kinds; key = content.key; rows = content.rows ++ rows }

-- the content without its rows
abbrev pub emptied : Content → Content
emptied content = record { kinds = content.kinds; key = content.key; rows = [] }
