-- One field more.
use Rattle.std.proofs.Common.{ℕ, List, [], ◌∷◌, ◌++◌}
use Rattle.lk_read.specs.declared.tree.Item.{Item}
use Rattle.lk_objects.specs.declared.field.DeclaredField.{DeclaredField}
use Rattle.lk_written.specs.Blocks.{block_items, block_name}
use Rattle.lk_view_field.specs.Fields.{IsField}
use Rattle.lk_view.specs.Views.{AreFields}

pub one_more : (view : List ℕ) (items : List Item) (fields : List DeclaredField) (item : Item) (field : DeclaredField)
    → AreFields view items fields → IsField view item.name (block_name item) (block_items item) field
    → AreFields view (items ++ item ∷ []) (fields ++ field ∷ [])
one_more view [] [] item field h f = (f, tt)
one_more view (i ∷ items) (g ∷ fields) item field h f = (h.0, one_more view items fields item field h.1 f)
one_more view [] (g ∷ fields) item field h f = absurd h
one_more view (i ∷ items) [] item field h f = absurd h
