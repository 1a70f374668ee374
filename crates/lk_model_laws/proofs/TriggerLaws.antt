-- The triggers and the intervals of datagroups are in range.
use Rattle.std.proofs.Common.{◌≡◌, ◌<◌, ◌≤◌, ℕ, ◌*◌, Bool, true, false, ◌&&◌, ◌||◌, List, [], ◌∷◌, length, refl, sym, subst, Option, Some, None, arith}
use Rattle.std.specs.Prelude.{ℤ, pos, codes, if◌then◌else◌, int_le, nat_le, nat_lt, slice_get}
use Rattle.std.specs.List.{after_first, before_first, list_all, list_any, position}
use Rattle.std.specs.Option.{option_and_then, option_map}
use Rattle.std.specs.Char.{is_ascii_digit}
use Rattle.std.specs.Str.Parse.{digits_value}
use Rattle.lk_val.specs.Texts.{is_same_text}
use Rattle.lk_read.specs.declared.tree.Item.{Item}
use Rattle.lk_types.specs.declared.model.Model.{Model}
use Rattle.lk_types.specs.declared.model.Trigger.{Trigger}
use Rattle.lk_types.specs.declared.model.Trigger.TheVariants as trigger
use Rattle.lk_types.specs.declared.schema.ColumnDef.{ColumnDef}
use Rattle.lk_types.specs.declared.schema.TableDef.{TableDef}
use Rattle.lk_params.specs.Parameters.{last_named}
use Rattle.lk_params.specs.Values.{code, scalar}
use Rattle.lk_written.specs.SchemaNames.{column_number, table_number}
use Rattle.lk_datagroup.specs.Datagroups.{interval_at, interval_in, trigger_at, watched_by}
use Rattle.lk_datagroup.specs.Intervals.{count_of, interval_of, is_count, is_space, seconds_in}
use Rattle.lk_datagroup.specs.Triggers.{aggregate_of, greatest_of, is_keyword, is_name, is_select, pieces_of, today_of, trigger_in, trigger_of, watched_in}
use Rattle.lk_semantics.specs.Reading.{no_table, table_at}
use Rattle.lk_semantics.specs.Resolved.{is_interval, is_numbered_datagroup, is_numbered_trigger}
use Rattle.lk_semantics.proofs.EveryLaws.{both, first, second}
use Rattle.lk_model_laws.proofs.ListLaws.{got_or, position_within}
use Rattle.lk_model_laws.proofs.NumberLaws.{test_below}
use Rattle.lk_model_laws.proofs.PieceLaws.{some_none}

-- ---- triggers

module _ (m : Model) where
  -- the trigger, if there is one, is in range
  abbrev AreInRange : Option Trigger → Type 0
  AreInRange None = Unit {0}
  AreInRange (Some t) = is_numbered_trigger m t ≡ true

  where_so : (b : Bool) (o : Option Trigger) → AreInRange o → AreInRange (if b then o else None)
  where_so true o h = h
  where_so false o h = tt

  or_other : (b : Bool) (o p : Option Trigger) → AreInRange o → AreInRange p → AreInRange (if b then o else p)
  or_other true o p h k = h
  or_other false o p h k = k

  column_within : (o : Option TableDef) (name : List ℕ) (table : ℕ) (n : ℕ) → slice_get m.schema.tables table ≡ o
      → option_and_then (λ (t : TableDef). position (λ column. is_same_text column.name name) t.columns) o ≡ Some n → n < length (table_at m table).columns
  column_within None name table n at h = absurd (some_none (sym h))
  column_within (Some t) name table n at h =
      subst (λ (d : TableDef). n < length d.columns) (sym (got_or m.schema.tables table no_table t at)) (position_within (λ (column : ColumnDef). is_same_text column.name name) t.columns n h)

  greatest_in : (name : List ℕ) (table : ℕ) → table < length m.schema.tables → AreInRange (greatest_of m.schema name table)
  greatest_in name table within = where_so (is_name name) (option_map (trigger.Max table) (column_number m.schema table name)) (of_column (column_number m.schema table name) refl)
    where
      of_column : (o : Option ℕ) → column_number m.schema table name ≡ o → AreInRange (option_map (trigger.Max table) o)
      of_column None at = tt
      of_column (Some n) at =
          both (nat_lt table (length m.schema.tables)) (nat_lt n (length (table_at m table).columns)) (test_below table (length m.schema.tables) within)
          (test_below n (length (table_at m table).columns) (column_within (slice_get m.schema.tables table) name table n refl at))

  aggregate_in : (function argument : List ℕ) (table : ℕ) → table < length m.schema.tables → AreInRange (aggregate_of m.schema function argument table)
  aggregate_in function argument table within =
      or_other (is_keyword (codes "max") function) (greatest_of m.schema argument table) (if is_keyword (codes "count") function && is_same_text argument (codes "*") then Some (trigger.Count table) else None)
      (greatest_in argument table within)
      (where_so (is_keyword (codes "count") function && is_same_text argument (codes "*")) (Some (trigger.Count table)) (test_below table (length m.schema.tables) within))

  watched_in_range : (function argument table : List ℕ) → AreInRange (watched_in m.schema function argument table)
  watched_in_range function argument table = named (is_name table)
    where
      numbered : (o : Option ℕ) → table_number m.schema table ≡ o → AreInRange (option_and_then (aggregate_of m.schema function argument) o)
      numbered None at = tt
      numbered (Some n) at = aggregate_in function argument n (position_within (λ (t : TableDef). is_same_text t.name table) m.schema.tables n at)

      named : (b : Bool) → AreInRange (option_and_then (aggregate_of m.schema function argument) (if b then table_number m.schema table else None))
      named true = numbered (table_number m.schema table) refl
      named false = tt

  today_in : (select today : List ℕ) → AreInRange (today_of select today)
  today_in select today = where_so (is_keyword (codes "select") select && is_keyword (codes "current_date") today) (Some trigger.Today) refl

  pieces_in : (pieces : List (List ℕ)) → AreInRange (trigger_in m.schema pieces)
  pieces_in [] = tt
  pieces_in (a ∷ []) = tt
  pieces_in (a ∷ b ∷ []) = today_in a b
  pieces_in (a ∷ b ∷ c ∷ []) = tt
  pieces_in (a ∷ b ∷ c ∷ d ∷ []) = tt
  pieces_in (a ∷ b ∷ c ∷ d ∷ e ∷ []) = tt
  pieces_in (a ∷ b ∷ c ∷ d ∷ e ∷ f ∷ []) = tt
  pieces_in (a ∷ b ∷ c ∷ d ∷ e ∷ f ∷ g ∷ []) = where_so (is_select a c e f) (watched_in m.schema b d g) (watched_in_range b d g)
  pieces_in (a ∷ b ∷ c ∷ d ∷ e ∷ f ∷ g ∷ h ∷ more) = tt

  value_in : (o : Option (List ℕ)) → AreInRange (option_and_then (trigger_of m.schema) o)
  value_in None = tt
  value_in (Some text) = pieces_in (pieces_of text)

  item_in : (o : Option Item) → AreInRange (option_and_then (λ (item : Item). watched_by m.schema item.value) o)
  item_in None = tt
  item_in (Some item) = value_in (code item.value)

-- ---- intervals

-- so many seconds of some unit, up to 1,000,000 of them
abbrev IsFew : ℕ → Type 0
IsFew s = (n : ℕ) → 1 ≤ n → n ≤ 1000000 → (1 ≤ n * s) × (n * s ≤ 3600000000)

of_units : (a b c : Bool) (s : ℕ) → (if a then Some 1 else if b then Some 60 else if c then Some 3600 else None) ≡ Some s → IsFew s
of_units true b c s h = let same : 1 ≡ s = cc in subst IsFew same (λ n low high. (omega arith, omega arith))
of_units false true c s h = let same : 60 ≡ s = cc in subst IsFew same (λ n low high. (omega arith, omega arith))
of_units false false true s h = let same : 3600 ≡ s = cc in subst IsFew same (λ n low high. (omega arith, omega arith))
of_units false false false s h = absurd (some_none (sym h))

unit_few : (unit : List ℕ) (s : ℕ) → seconds_in unit ≡ Some s → IsFew s
unit_few unit s h =
    of_units (is_same_text unit (codes "second") || is_same_text unit (codes "seconds")) (is_same_text unit (codes "minute") || is_same_text unit (codes "minutes"))
    (is_same_text unit (codes "hour") || is_same_text unit (codes "hours")) s h

at_most : (a b : ℕ) → nat_le a b ≡ true → a ≤ b
at_most a b h = grind arith

count_few : (text : List ℕ) (n : ℕ) → count_of text ≡ Some n → (1 ≤ n) × (n ≤ 1000000)
count_few text n h = decided (is_count text) refl h
  where
    decided : (b : Bool) → is_count text ≡ b → (if b then Some (digits_value 10 text) else None) ≡ Some n → (1 ≤ n) × (n ≤ 1000000)
    decided true is e =
        let same : digits_value 10 text ≡ n = cc in
        let parts = second (list_all is_ascii_digit text) (nat_le 1 (digits_value 10 text) && nat_le (digits_value 10 text) 1000000) is in
        subst (λ k. (1 ≤ k) × (k ≤ 1000000)) same (
          at_most 1 (digits_value 10 text) (first (nat_le 1 (digits_value 10 text)) (nat_le (digits_value 10 text) 1000000) parts),
          at_most (digits_value 10 text) 1000000 (second (nat_le 1 (digits_value 10 text)) (nat_le (digits_value 10 text) 1000000) parts),
        )
    decided false is e = absurd (some_none (sym e))

interval_few : (text : List ℕ) (k : ℕ) → interval_of text ≡ Some k → (1 ≤ k) × (k ≤ 3600000000)
interval_few text k h = parted (list_any is_space text) refl (count_of (before_first is_space text)) refl (seconds_in (after_first is_space text)) refl
  where
    parted : (b : Bool) → list_any is_space text ≡ b → (o : Option ℕ) → count_of (before_first is_space text) ≡ o → (p : Option ℕ) → seconds_in (after_first is_space text) ≡ p → (1 ≤ k) × (k ≤ 3600000000)
    parted false none o is_o p is_p = absurd (some_none (sym (rw none at h)))
    parted true some None is_o p is_p = absurd (some_none (sym (rw (some, is_o) at h)))
    parted true some (Some n) is_o None is_p = absurd (some_none (sym (rw (some, is_o, is_p) at h)))
    parted true some (Some n) is_o (Some s) is_p =
        let few = count_few (before_first is_space text) n is_o in
        let made : Some (n * s) ≡ Some k = rw (some, is_o, is_p) at h in
        let same : n * s ≡ k = cc in
        subst (λ i. (1 ≤ i) × (i ≤ 3600000000)) same (unit_few (after_first is_space text) s is_p n few.0 few.1)

is_few : (k : ℕ) → 1 ≤ k → k ≤ 3600000000 → is_interval (Some (pos k)) ≡ true
is_few k low high = both (int_le (pos 1) (pos k)) (int_le (pos k) (pos 3600000000)) (grind arith) (grind arith)

text_in : (o : Option (List ℕ)) → is_interval (option_map pos (option_and_then interval_of o)) ≡ true
text_in None = refl
text_in (Some text) = of_interval (interval_of text) refl
  where
    of_interval : (o : Option ℕ) → interval_of text ≡ o → is_interval (option_map pos o) ≡ true
    of_interval None is = refl
    of_interval (Some k) is = let few = interval_few text k is in is_few k few.0 few.1

interval_item : (o : Option Item) → is_interval (option_map pos (option_and_then (λ (item : Item). interval_in item.value) o)) ≡ true
interval_item None = refl
interval_item (Some item) = text_in (scalar item.value)

-- ---- datagroups

-- a datagroup of the model, by what its object says
pub datagroup_numbered : (m : Model) (name : List ℕ) (items : List Item)
    → is_numbered_datagroup m (record { name = name; trigger = trigger_at m.schema items; interval = option_map pos (interval_at items) }) ≡ true
datagroup_numbered m name items =
    of_parts (trigger_at m.schema items) (item_in m (last_named (codes "sql_trigger") items)) (option_map pos (interval_at items)) (interval_item (last_named (codes "interval_trigger") items))
  where
    of_parts : (t : Option Trigger) → AreInRange m t → (i : Option ℤ) → is_interval i ≡ true → is_numbered_datagroup m (record { name = name; trigger = t; interval = i }) ≡ true
    of_parts None h i k = k
    of_parts (Some t) h i k = both (is_numbered_trigger m t) (is_interval i) h k
