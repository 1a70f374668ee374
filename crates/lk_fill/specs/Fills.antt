-- How the program finds the derived tables that are needed, and puts their rows in place.
use Rattle.std.specs.Prelude.{◌≡◌, ◌⊎◌, ℕ, true, ◌&&◌, if◌then◌else◌, List, [], ◌∷◌, ◌++◌, length, map, slice_index_or, slice_set, Option, None, is_none}
use Rattle.lk_types.specs.Expressions.{has_number}
use Rattle.lk_types.specs.Tables.{Rows}
use Rattle.lk_types.specs.declared.model.Model.{Model}
use Rattle.lk_types.specs.declared.rows.Sources.{Sources}
use Rattle.lk_semantics.specs.Reading.{read_by}
use Rattle.lk_derived.specs.ReadRows.{whole}

-- some tables with what a table reads, where it is one of them and its rows are not at hand
abbrev pub with_reads : Model → List (Option Rows) → ℕ → List ℕ → List ℕ
with_reads m at_hand d needed =
    if has_number d needed && is_none (slice_index_or at_hand d None) then needed ++ read_by m d else needed

-- the wanted tables, what those of an order read that are needed and not at hand, and so on: the order is gone through from its end
abbrev pub needed_over : Model → List (Option Rows) → List ℕ → List ℕ → List ℕ
needed_over m at_hand [] wanted = wanted
needed_over m at_hand (d ∷ order) wanted = with_reads m at_hand d (needed_over m at_hand order wanted)

-- what a table of an order reads is needed, where the table is and is not at hand
abbrev pub IsClosed : Model → List (Option Rows) → List ℕ → List ℕ → Type 0
IsClosed m at_hand order needed =
    (d : ℕ) → has_number d order ≡ true → has_number d needed ≡ true → slice_index_or at_hand d None ≡ None
    → (e : ℕ) → has_number e (read_by m d) ≡ true → has_number e needed ≡ true

-- no rows for each derived table
abbrev pub no_rows : Model → List Rows
no_rows m = map (λ table. []) m.derived

-- the rows of a derived table over the stored tables
abbrev pub whole_rows : Model → Sources → ℕ → Rows
whole_rows m s d = slice_index_or (whole m s).derived d []

-- the tables with the rows of a derived table in place, where it is needed
abbrev pub with_rows : Model → List ℕ → ℕ → Sources → Sources
with_rows m needed d s =
    if has_number d needed then record { stored = s.stored; derived = slice_set s.derived d (whole_rows m s d) } else s

-- these stored tables; each derived table has no rows or its own, and those of a list that are needed have theirs
pub record IsFilled (m : Model) (stored : List Rows) (needed tables : List ℕ) (s : Sources) : Type 0 where
  pub same : s.stored ≡ stored
  pub many : length s.derived ≡ length m.derived
  pub derived : (d : ℕ) → (slice_index_or s.derived d [] ≡ []) ⊎ (slice_index_or s.derived d [] ≡ whole_rows m s d)
  pub there : (d : ℕ) → has_number d tables ≡ true → has_number d needed ≡ true → slice_index_or s.derived d [] ≡ whole_rows m s d
