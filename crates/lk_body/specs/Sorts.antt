-- The texts of sorts: a name, with ` asc` or ` desc` behind it or without. (lookd)
use Rattle.std.specs.Prelude.{ℕ, ◌-◌, nat_eq, Bool, true, false, if◌then◌else◌, List, length, take, Option, Some, None, codes}
use Rattle.std.specs.List.{ends_with}

-- what stands before an end, where the text has that end
abbrev pub before_end : List ℕ → List ℕ → Option (List ℕ)
before_end end text = if ends_with nat_eq text end then Some (take (length text - length end) text) else None

-- a name before ` desc`, else one before ` asc`, and else the text itself; and whether the sort descends
abbrev pub sort_with : Option (List ℕ) → Option (List ℕ) → List ℕ → List ℕ × Bool
sort_with (Some name) ascending text = (name, true)
sort_with None (Some name) text = (name, false)
sort_with None None text = (text, false)

-- the sort that a text is: any text is one, and what it names is looked up later
abbrev pub sort_of : List ℕ → List ℕ × Bool
sort_of text = sort_with (before_end (codes " desc") text) (before_end (codes " asc") text) text
