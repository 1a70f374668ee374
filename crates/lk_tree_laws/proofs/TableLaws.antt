-- Each part of a joined row is a row of the table that its view reads.
use Rattle.std.proofs.Common.{◌≡◌, ℕ, ◌+◌, List, [], ◌∷◌, map, length, refl, sym, ap, ◌∙◌, subst, inl, inr, Some, None}
use Rattle.std.specs.Prelude.{Option, slice_get, slice_set, replicate}
use Rattle.std.proofs.lemmas.Bool.{cases_eq}
use Rattle.lk_types.specs.Formula.{Formula}
use Rattle.lk_types.specs.Tables.{Cells, Rows}
use Rattle.lk_types.specs.declared.explore.Explore.{Explore}
use Rattle.lk_types.specs.declared.explore.JoinKind.{JoinKind}
use Rattle.lk_types.specs.declared.explore.JoinKind.TheVariants.{Left, Full, Inner, Cross}
use Rattle.lk_types.specs.declared.rows.Joined.{Joined}
use Rattle.lk_types.specs.declared.rows.Sources.{Sources}
use Rattle.lk_semantics.specs.Joins.{base_rows, is_lone, is_met, join_at, join_rows, joined_after, joined_by, left_joined, lone_rights, null_row, or_alone, part_at, partners, rows_from, with_part}
use Rattle.lk_tree_laws.proofs.Among.{Among, among-append, among-filter, among-flat_map, among-map}
use Rattle.lk_tree_laws.proofs.PartsLaws.{cells_at, get-set_here, get-set_other, is_none, replicate-none}

module _ (x : Explore) (s : Sources) where
  -- the rows of the table that a view reads
  abbrev pub rights_of : ℕ → Rows
  rights_of p = rows_from s (part_at x p).origin

  abbrev pub IsOfTables : Joined → Type 0
  IsOfTables r = (q : ℕ) (cells : Cells) → slice_get r.parts q ≡ Some (Some cells) → Among (rights_of q) cells

  none_at : (n q : ℕ) (cells : Cells) → slice_get (replicate {A = Option Cells} n None) q ≡ Some (Some cells) → ⊥
  none_at n q cells is = subst is_none is (replicate-none n q)

  -- the part that was written is of its view's rows
  written : (p : ℕ) (l : Joined) (cells found : Cells) → Among (rights_of p) cells → slice_get (slice_set l.parts p (Some cells)) p ≡ Some (Some found) → Among (rights_of p) found
  written p l cells found there is =
      elim (get-set_here l.parts p (Some cells)) [
        | inl here ↦ subst (Among (rights_of p)) (ap cells_at (sym here ∙ is)) there
        | inr gone ↦ absurd (subst is_none (sym gone ∙ is) tt)
      ]

  with_row : (p : ℕ) (l : Joined) (cells : Cells) → IsOfTables l → Among (rights_of p) cells → IsOfTables (with_part p l cells)
  with_row p l cells of there q found is =
      elim (cases_eq q p) [
        | inl same ↦ subst (λ k. Among (rights_of k) found) (sym same) (written p l cells found there (subst (λ k. slice_get (slice_set l.parts p (Some cells)) k ≡ Some (Some found)) same is))
        | inr other ↦ of q found (sym (get-set_other l.parts p q (Some cells) other) ∙ is)
      ]

  no_row : IsOfTables (null_row x)
  no_row q cells is = absurd (none_at (length x.parts) q cells is)

  with_partner : (on : Option Formula) (p : ℕ) (l r : Joined) → IsOfTables l → Among (partners on p (rights_of p) l) r → IsOfTables r
  with_partner on p l r of h =
      let made = among-map (with_part p l) (rights_of p) r (among-filter (is_met on) (map (with_part p l) (rights_of p)) r h).0 in
      subst IsOfTables made.2 (with_row p l made.0 of made.1)

  or_by_itself : (on : Option Formula) (p : ℕ) (l r : Joined) (found : List Joined) → partners on p (rights_of p) l ≡ found → IsOfTables l → Among (or_alone l found) r → IsOfTables r
  or_by_itself on p l r [] is of (inl same) = subst IsOfTables same of
  or_by_itself on p l r [] is of (inr none) = absurd none
  or_by_itself on p l r (f ∷ fs) is of h = with_partner on p l r of (subst (λ rows. Among rows r) (sym is) h)

  module _ (on : Option Formula) (p : ℕ) (left : List Joined) (each : (l : Joined) → Among left l → IsOfTables l) where
    of_left : (r : Joined) → Among (left_joined on p left (rights_of p)) r → IsOfTables r
    of_left r h =
        let found = among-flat_map (λ row. or_alone row (partners on p (rights_of p) row)) left r h in
        or_by_itself on p found.0 r (partners on p (rights_of p) found.0) refl (each found.0 found.1) found.2

    of_lone : (r : Joined) → Among (map (with_part p (null_row x)) (lone_rights on p left (rights_of p))) r → IsOfTables r
    of_lone r h =
        let found = among-map (with_part p (null_row x)) (lone_rights on p left (rights_of p)) r h in
        subst IsOfTables found.2 (with_row p (null_row x) found.0 no_row (among-filter (is_lone on p left) (rights_of p) found.0 found.1).0)

    of_joined : (k : JoinKind) (r : Joined) → Among (joined_by k x on p left (rights_of p)) r → IsOfTables r
    of_joined Inner r h = let found = among-flat_map (partners on p (rights_of p)) left r h in with_partner on p found.0 r (each found.0 found.1) found.2
    of_joined Cross r h = let found = among-flat_map (partners None p (rights_of p)) left r h in with_partner None p found.0 r (each found.0 found.1) found.2
    of_joined Left r h = of_left r h
    of_joined Full r h =
        elim (among-append (left_joined on p left (rights_of p)) (map (with_part p (null_row x)) (lone_rights on p left (rights_of p))) r h) [
          | inl first ↦ of_left r first
          | inr second ↦ of_lone r second
        ]

  of_joins : (js : List ℕ) (left : List Joined) → ((l : Joined) → Among left l → IsOfTables l) → (r : Joined) → Among (joined_after x s left js) r → IsOfTables r
  of_joins [] left each r h = each r h
  of_joins (j ∷ js) left each r h = of_joins js (join_rows x s left j) (λ l. of_joined (join_at x j).on (j + 1) left each (join_at x j).kind l) r h

  of_base : (r : Joined) → Among (base_rows x s) r → IsOfTables r
  of_base r h =
      let found = among-map (with_part 0 (null_row x)) (rights_of 0) r h in
      subst IsOfTables found.2 (with_row 0 (null_row x) found.0 no_row found.1)

  -- the rows of any joins, one after another
  pub of_tables : (js : List ℕ) (r : Joined) → Among (joined_after x s (base_rows x s) js) r → IsOfTables r
  of_tables js r h = of_joins js (base_rows x s) of_base r h
