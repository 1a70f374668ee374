-- Which fields a field reaches by references: a search over the numbers of fields.
use Rattle.std.specs.Prelude.{◌≡◌, ℕ, ◌<◌, ◌≤◌, Bool, true, List, [], length, take, Option, Some, None, slice_get}
use Rattle.std.specs.List.{count_by, list_all}
use Rattle.std.specs.Option.{option_and_then}
use Rattle.std.specs.Prelude.{nat_eq}
use Rattle.lk_val.specs.Least.{is_in}
use Rattle.lk_fields.specs.declared.rows.Row.{Row}
use Rattle.lk_fields.specs.Rows.{is_marked}

abbrev pub names_with : Option Row → List ℕ
names_with None = []
names_with (Some row) = row.names

-- what the field of a number refers to, by numbers
abbrev pub names_at : List Row → ℕ → List ℕ
names_at rows number = names_with (slice_get rows number)

-- what the field that was found at a place of the list refers to
abbrev pub names_found : List Row → List ℕ → ℕ → List ℕ
names_found rows found next = names_with (option_and_then (slice_get rows) (slice_get found next))

-- the numbers below the number of marks are marked
abbrev pub AreTaken : List Bool → List ℕ → Type 0
AreTaken marks ns = (n : ℕ) → is_in nat_eq n ns ≡ true → n < length marks → is_marked marks n ≡ true

-- the marked numbers are those that were found
pub record IsFit (marks : List Bool) (found : List ℕ) : Type 0 where
  pub listed : (m : ℕ) → is_marked marks m ≡ true → is_in nat_eq m found ≡ true
  pub marked : (m : ℕ) → is_in nat_eq m found ≡ true → is_marked marks m ≡ true
  pub count : length found ≡ count_by (λ b. b) marks

-- some numbers were visited: each that was not marked is marked and put behind those that were found
pub record IsVisit (ns : List ℕ) (marks : List Bool) (found : List ℕ) (now : List Bool) (later : List ℕ) : Type 0 where
  pub fit : IsFit marks found → IsFit now later
  pub many : length now ≡ length marks
  pub more : (m : ℕ) → is_marked marks m ≡ true → is_marked now m ≡ true
  pub stays : (k : ℕ) → k ≤ length found → take k later ≡ take k found
  pub longer : length found ≤ length later
  pub visited : (n : ℕ) → is_in nat_eq n ns ≡ true → n < length marks → is_marked now n ≡ true
  pub least : (p : ℕ → Bool) → list_all p ns ≡ true → ((m : ℕ) → is_marked marks m ≡ true → p m ≡ true) → (m : ℕ) → is_marked now m ≡ true → p m ≡ true
  pub none : ns ≡ [] → later ≡ found

-- a test passes the numbers that a search begins with, and all that what it passes refers to
pub record IsClosed (rows : List Row) (begun : List ℕ) (p : ℕ → Bool) : Type 0 where
  pub first : list_all p begun ≡ true
  pub next : (m : ℕ) → p m ≡ true → list_all p (names_at rows m) ≡ true

-- the fields before a place of the list are searched
pub record IsSearched (rows : List Row) (begun : List ℕ) (next : ℕ) (marks : List Bool) (found : List ℕ) : Type 0 where
  pub many : length marks ≡ length rows
  pub fit : IsFit marks found
  pub started : AreTaken marks begun
  pub passed : (m : ℕ) → is_in nat_eq m (take next found) ≡ true → AreTaken marks (names_at rows m)
  pub least : (p : ℕ → Bool) → IsClosed rows begun p → (m : ℕ) → is_marked marks m ≡ true → p m ≡ true

-- the marked numbers are those that a search begins with, and all that they refer to, and so on
pub record IsReached (rows : List Row) (begun : List ℕ) (marks : List Bool) : Type 0 where
  pub many : length marks ≡ length rows
  pub started : AreTaken marks begun
  pub closed : (m : ℕ) → is_marked marks m ≡ true → AreTaken marks (names_at rows m)
  pub least : (p : ℕ → Bool) → IsClosed rows begun p → (m : ℕ) → is_marked marks m ≡ true → p m ≡ true
