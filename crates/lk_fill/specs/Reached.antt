-- To which datagroup a query's reading comes first: that of the first persisted derived table that it reads, directly or through others.
use Rattle.std.specs.Prelude.{ℕ, List, [], ◌∷◌, map, length, slice_index_or, Option, None, Some}
use Rattle.std.specs.List.{enumerate_from}
use Rattle.lk_types.specs.declared.model.Derived.{Derived}
use Rattle.lk_types.specs.declared.model.Model.{Model}
use Rattle.lk_semantics.specs.Rollups.{or_within, reached_by}

-- the first, if there are any
abbrev pub first_of : List ℕ → Option ℕ
first_of [] = None
first_of (n ∷ numbers) = Some n

-- the one, and else the other
abbrev pub or_else : Option ℕ → Option ℕ → Option ℕ
or_else None other = other
or_else (Some n) other = Some n

-- the datagroup to which reading a derived table comes first, through at most n others
abbrev pub group_within : Model → ℕ → Derived → Option ℕ
group_within m n d = first_of (or_within (reached_by m n) d d.datagroup)

-- the same of each derived table, through any others
abbrev pub groups_reached : Model → List (Option ℕ)
groups_reached m = map (group_within m (length m.derived)) m.derived

-- where reading each derived table comes to these, the datagroup to which reading some of them comes first
abbrev pub first_reached : List (Option ℕ) → List ℕ → Option ℕ
first_reached groups [] = None
first_reached groups (d ∷ tables) = or_else (slice_index_or groups d None) (first_reached groups tables)

-- ---- how the program finds it: in rounds, through one table more in each

-- a table's own datagroup, and else that to which what it reads comes
abbrev pub group_next : List (Option ℕ) → List (List ℕ) → ℕ × Derived → Option ℕ
group_next groups reads d = or_else d.1.datagroup (first_reached groups (slice_index_or reads d.0 []))

abbrev pub groups_next : List (Option ℕ) → List (List ℕ) → List Derived → List (Option ℕ)
groups_next groups reads tables = map (group_next groups reads) (enumerate_from 0 tables)
