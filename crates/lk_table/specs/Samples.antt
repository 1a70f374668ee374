-- A table and records on which the definitions are computed.
use Rattle.std.specs.Prelude.{ℕ, ◌*◌, pos, List, [], ◌∷◌, Some, codes}
use Rattle.lk_val.specs.declared.value.Value.{Value}
use Rattle.lk_val.specs.declared.value.Value.TheVariants as value
use Rattle.lk_types.specs.Tables.{Cells, Rows}
use Rattle.lk_types.specs.declared.schema.Kind.TheVariants as kind
use Rattle.lk_types.specs.declared.schema.TableDef.{TableDef}
use Rattle.lk_table.specs.Batches.{Fields}
use Rattle.lk_table.specs.Contents.{Content, content_of}

-- orders by their id, with the day on which they were made
abbrev pub orders : TableDef
orders = record {
  name = codes "orders";
  columns = record { name = codes "id"; kind = kind.Number } ∷ record { name = codes "made"; kind = kind.Day } ∷ [];
  key = Some 0;
}

abbrev pub header : Fields
header = codes "id" ∷ codes "made" ∷ []

abbrev pub order : List ℕ → List ℕ → Fields
order id made = id ∷ made ∷ []

-- so many orders as a value
abbrev pub id_of : ℕ → Value
id_of n = value.Num (record { 0 = pos (10000 * n) })

-- an order without its day
abbrev pub row : ℕ → Cells
row n = id_of n ∷ value.Null ∷ []

abbrev pub content : Rows → Content
content rows = content_of orders rows
