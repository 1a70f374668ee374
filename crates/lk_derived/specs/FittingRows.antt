-- Rows whose cells are null or of the kinds of their columns.
use Rattle.std.specs.Prelude.{ℕ, zero, suc, Bool, true, false, ◌&&◌, List, [], ◌∷◌, Option, Some, None}
use Rattle.std.specs.List.{list_all}
use Rattle.lk_types.specs.Tables.{Cells, Rows, is_of_kind}
use Rattle.lk_types.specs.declared.schema.Kind.{Kind}

-- a cell for each column, null or of its kind
abbrev pub fits_cells : List Kind → Cells → Bool
fits_cells [] [] = true
fits_cells [] (v ∷ cells) = false
fits_cells (k ∷ ks) [] = false
fits_cells (k ∷ ks) (v ∷ cells) = is_of_kind k v && fits_cells ks cells

-- the cells of the view at a place are so, where there is such a view
abbrev pub fits_at : List (List Kind) → ℕ → Cells → Bool
fits_at [] p cells = true
fits_at (ks ∷ kss) zero cells = fits_cells ks cells
fits_at (ks ∷ kss) (suc p) cells = fits_at kss p cells

-- each of some rows is so
abbrev pub fits_rows : List Kind → Rows → Bool
fits_rows ks rows = list_all (fits_cells ks) rows

-- each view of a joined row that is there is so
abbrev pub fits_parts : List (List Kind) → List (Option Cells) → Bool
fits_parts [] parts = true
fits_parts (ks ∷ kss) [] = true
fits_parts (ks ∷ kss) (None ∷ parts) = fits_parts kss parts
fits_parts (ks ∷ kss) (Some cells ∷ parts) = fits_cells ks cells && fits_parts kss parts
