-- Cells behind nulls that are counted only: the cell of a row, and a cell more.
use Rattle.std.proofs.Common.{◌≡◌, ◌<◌, ◌≤◌, ◌-◌, ◌++◌, ◌∷◌, ◌∙◌, [], ℕ, List, Option, None, length, sym, ap, arith, append_assoc, get_or}
use Rattle.std.specs.Prelude.{replicate}
use Rattle.std.proofs.lemmas.List.{get_or-append_right, length-append, length-replicate}
use Rattle.lk_table.specs.Nulls.{behind_nulls}

module _ {T : Type 0} (nulls : ℕ) (cells all : List (Option T)) (is : behind_nulls nulls cells ≡ all) where
  abbrev front : List (Option T)
  front = replicate nulls None

  pub held_within : (row : ℕ) → row < length all → nulls ≤ row → row - nulls < length cells
  held_within row below behind =
      omega (arith, below, behind, ap (λ (list : List (Option T)). length list) is, length-append front cells, length-replicate {A = Option T} nulls None)

  pub held_there : (row : ℕ) → nulls ≤ row → get_or cells (row - nulls) None ≡ get_or all row None
  held_there row behind =
      sym (get_or-append_right front cells nulls row None (length-replicate nulls None) behind)
      ∙ ap (λ (list : List (Option T)). get_or list row None) is

  pub cell_more : (cell : Option T) → behind_nulls nulls (cells ++ cell ∷ []) ≡ all ++ cell ∷ []
  cell_more cell = sym (append_assoc front cells (cell ∷ [])) ∙ ap (λ (list : List (Option T)). list ++ cell ∷ []) is
