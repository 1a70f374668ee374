-- The views that a key determines, and those that each row with the key has, as a mark for each view.
use Rattle.std.specs.Prelude.{ℕ, zero, suc, ◌+◌, ◌==◌, nat_lt, Bool, not, ◌&&◌, ◌||◌, List, [], length, map}
use Rattle.std.specs.Bool.{beq}
use Rattle.std.specs.Cmp.Lexicographic.{pointwise}
use Rattle.std.specs.List.{list_all, list_any}
use Rattle.lk_types.specs.declared.explore.Explore.{Explore}
use Rattle.lk_types.specs.declared.explore.Join.{Join}
use Rattle.lk_semantics.specs.Joins.{join_at, mentions_of, numbers_below}
use Rattle.lk_semantics.specs.Rollups.{has_full, has_key_equation, is_inner, is_left}
use Rattle.lk_tree.specs.Roles.{is_marked}
use Rattle.lk_tree.specs.declared.standing.Standings.{Standings}

-- the marks are the same, one by one
abbrev pub are_same : Standings → Standings → Bool
are_same a b = pointwise beq a.determined b.determined && pointwise beq a.present b.present

-- the join keeps no row of its right side alone
abbrev pub keeps_left : Join → Bool
keeps_left join = is_left join.kind || is_inner join.kind

-- the joined view w is found by its key, and the whole condition speaks of nothing that is not determined
abbrev pub finds_joined_by : Explore → (ℕ → Bool) → ℕ → ℕ → Bool
finds_joined_by x is_determined w j =
    (w == j + 1) && keeps_left (join_at x j) && has_key_equation x is_determined w (join_at x j)
    && list_all (λ p. (p == w) || is_determined p) (mentions_of (join_at x j).on)

-- the joined view is present, so its partner w that stands earlier is the one with that key
abbrev pub finds_earlier_by : Explore → (ℕ → Bool) → (ℕ → Bool) → ℕ → ℕ → Bool
finds_earlier_by x is_determined is_present w j =
    is_present (j + 1) && nat_lt w (j + 1) && keeps_left (join_at x j) && has_key_equation x is_determined w (join_at x j)

-- a join determines the view w, given the marks
abbrev pub determines_by : Explore → Standings → ℕ → ℕ → Bool
determines_by x marks w j =
    finds_joined_by x (is_marked marks.determined) w j || finds_earlier_by x (is_marked marks.determined) (is_marked marks.present) w j

-- with a join each row has the view w
abbrev pub presents_by : Explore → Standings → ℕ → ℕ → Bool
presents_by x marks w j =
    (finds_joined_by x (is_marked marks.determined) w j && is_inner (join_at x j).kind)
    || finds_earlier_by x (is_marked marks.determined) (is_marked marks.present) w j

module _ (x : Explore) (joins : List ℕ) (v : ℕ) where
  -- the view w is determined, or present, after one round more
  abbrev pub is_determined_next : Standings → ℕ → Bool
  is_determined_next marks w =
      is_marked marks.determined w || ((w == v) || (not (has_full x joins) && list_any (determines_by x marks w) joins))

  abbrev pub is_present_next : Standings → ℕ → Bool
  is_present_next marks w =
      is_marked marks.present w || ((w == v) || (not (has_full x joins) && list_any (presents_by x marks w) joins))

  -- the marks after one round more
  abbrev pub next_marks : Standings → Standings
  next_marks marks = record {
    determined = map (is_determined_next marks) (numbers_below (length x.parts));
    present = map (is_present_next marks) (numbers_below (length x.parts));
  }

  -- the marks after so many rounds
  abbrev pub marks_times : ℕ → Standings
  marks_times zero = record { determined = []; present = [] }
  marks_times (suc n) = next_marks (marks_times n)
