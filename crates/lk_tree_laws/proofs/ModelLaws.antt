-- The enforced keys of an explore of a model over valid tables are keys, of one kind each.
use Rattle.std.proofs.Common.{◌≡◌, ℕ, zero, suc, ◌+◌, Bool, true, false, ◌&&◌, List, [], ◌∷◌, refl, sym, ap, ◌∙◌, subst, arith, Some, None, inl, inr}
use Rattle.std.specs.Prelude.{Option, if◌then◌else◌, nat_eq, slice_index_or}
use Rattle.std.specs.List.{enumerate_from, list_all}
use Rattle.std.proofs.lemmas.Bool.{eqb-true, false≢true}
use Rattle.lk_val.specs.Values.{is_null, rank}
use Rattle.lk_val.specs.declared.value.Value.{Value}
use Rattle.lk_val.specs.declared.value.Value.TheVariants as value
use Rattle.lk_types.specs.Formula.{Formula, Column}
use Rattle.lk_types.specs.Tables.{Cells, Rows, are_keys, are_of_kinds, are_valid_tables, column_values, has_keys, is_cell, is_of_kind, is_valid_table}
use Rattle.lk_types.specs.declared.explore.Explore.{Explore}
use Rattle.lk_types.specs.declared.explore.Origin.{Origin}
use Rattle.lk_types.specs.declared.explore.Origin.TheVariants.{Derived, Stored}
use Rattle.lk_types.specs.declared.explore.Part.{Part}
use Rattle.lk_types.specs.declared.model.Model.{Model}
use Rattle.lk_types.specs.declared.rows.Sources.{Sources}
use Rattle.lk_types.specs.declared.schema.ColumnDef.{ColumnDef}
use Rattle.lk_types.specs.declared.schema.Kind.{Kind}
use Rattle.lk_types.specs.declared.schema.Kind.TheVariants as kind
use Rattle.lk_types.specs.declared.schema.TableDef.{TableDef}
use Rattle.lk_semantics.specs.Joins.{no_part, part_at, rows_from}
use Rattle.lk_semantics.specs.Reading.{no_table, table_at}
use Rattle.lk_semantics.specs.Resolved.{enforced_key, has_exact_keys, is_same_option, key_column}
use Rattle.lk_tree_laws.proofs.Among.{Among}
use Rattle.lk_tree_laws.proofs.KeyLaws.{both, key_in, key_known}
use Rattle.lk_tree_laws.proofs.AgreementLaws.{AreKeyed}

-- ---- kinds

rank_of_kind : Kind → ℕ
rank_of_kind kind.Text = 1
rank_of_kind kind.Number = 2
rank_of_kind kind.Truth = 3
rank_of_kind kind.Day = 4
rank_of_kind kind.Moment = 5

ranked : (k : Kind) (v : Value) → is_of_kind k v ≡ true → is_null v ≡ false → rank v ≡ rank_of_kind k
unfolding rank_of_kind
ranked k value.Null h known = absurd (false≢true (sym known))
ranked kind.Text (value.Text t) h known = refl
ranked kind.Number (value.Num n) h known = refl
ranked kind.Truth (value.Truth b) h known = refl
ranked kind.Day (value.Day d) h known = refl
ranked kind.Moment (value.Moment m) h known = refl
ranked k v h known = absurd (false≢true h)

-- two rows of a table have values of one kind in a column, where these are not null
one_kind : (columns : List ColumnDef) (column : ℕ) (c d : Cells) → are_of_kinds columns c ≡ true → are_of_kinds columns d ≡ true → is_null (key_in column c) ≡ false → is_null (key_in column d) ≡ false
    → rank (key_in column c) ≡ rank (key_in column d)
one_kind [] column [] d hc hd known_c known_d = absurd (false≢true (sym known_c))
one_kind [] column (u ∷ c) d hc hd known_c known_d = absurd (false≢true hc)
one_kind (def ∷ columns) column [] d hc hd known_c known_d = absurd (false≢true hc)
one_kind (def ∷ columns) column (u ∷ c) [] hc hd known_c known_d = absurd (false≢true hd)
one_kind (def ∷ columns) zero (u ∷ c) (v ∷ d) hc hd known_c known_d =
    let kind_c = (both (is_of_kind def.kind u) (is_cell u) (both (is_of_kind def.kind u && is_cell u) (are_of_kinds columns c) hc).0).0 in
    let kind_d = (both (is_of_kind def.kind v) (is_cell v) (both (is_of_kind def.kind v && is_cell v) (are_of_kinds columns d) hd).0).0 in
    ranked def.kind u kind_c known_c ∙ sym (ranked def.kind v kind_d known_d)
one_kind (def ∷ columns) (suc column) (u ∷ c) (v ∷ d) hc hd known_c known_d =
    one_kind columns column c d (both (is_of_kind def.kind u && is_cell u) (are_of_kinds columns c) hc).1 (both (is_of_kind def.kind v && is_cell v) (are_of_kinds columns d) hd).1 known_c known_d

every : {A : Type 0} (t : A → Bool) (xs : List A) (y : A) → list_all t xs ≡ true → Among xs y → t y ≡ true
every t [] y all h = absurd h
every t (x ∷ xs) y all (inl is) = subst (λ z. t z ≡ true) is (both (t x) (list_all t xs) all).0
every t (x ∷ xs) y all (inr h) = every t xs y (both (t x) (list_all t xs) all).1 h

-- ---- tables

-- the key column of a valid table
valid_keys : (def : TableDef) (rows : Rows) (column : ℕ) → def.key ≡ Some column → is_valid_table def rows ≡ true
    → (are_keys (column_values rows column) ≡ true) × ((c d : Cells) → Among rows c → Among rows d → rank (key_in column c) ≡ rank (key_in column d))
valid_keys def rows column is valid =
    let split = both (list_all (are_of_kinds def.columns) rows) (has_keys def.key rows) valid in
    let keys : are_keys (column_values rows column) ≡ true = subst (λ o. has_keys o rows ≡ true) is split.1 in
    (keys, λ c d hc hd. one_kind def.columns column c d (every (are_of_kinds def.columns) rows c split.0 hc) (every (are_of_kinds def.columns) rows d split.0 hd) (key_known column rows c keys hc) (key_known column rows d keys hd))

-- there is no number
abbrev is_no_number : Option ℕ → Type 0
is_no_number None = Unit {0}
is_no_number (Some n) = ⊥

no_key : (column : ℕ) → ◌≡◌ {A = Option ℕ} None (Some column) → ⊥
no_key column is = subst is_no_number is tt

valid_table : (defs : List TableDef) (tables : List Rows) (t column : ℕ) → are_valid_tables defs tables ≡ true → (slice_index_or defs t no_table).key ≡ Some column
    → is_valid_table (slice_index_or defs t no_table) (slice_index_or tables t []) ≡ true
valid_table [] tables t column valid is = absurd (no_key column is)
valid_table (def ∷ defs) [] t column valid is = absurd (false≢true valid)
valid_table (def ∷ defs) (rows ∷ tables) zero column valid is = (both (is_valid_table def rows) (are_valid_tables defs tables) valid).0
valid_table (def ∷ defs) (rows ∷ tables) (suc t) column valid is = valid_table defs tables t column (both (is_valid_table def rows) (are_valid_tables defs tables) valid).1 is

-- ---- enforced keys

same_option : (column : ℕ) (o : Option ℕ) → is_same_option (Some column) o ≡ true → o ≡ Some column
same_option column None h = absurd (false≢true h)
same_option column (Some c) h = ap Some (sym (eqb-true column c h))

number_in : Option ℕ → ℕ
number_in None = 0
number_in (Some n) = n

-- a key column is that of the table
table_key : (p : ℕ) (key : Option ℕ) (e : Option Formula) (column : ℕ) → key_column p key e ≡ Some column → key ≡ Some column
unfolding number_in
table_key p (Some k) (Some (Column q c)) column h =
    elim (nat_eq p q && nat_eq k c) as (λ b. (if b then Some k else None) ≡ Some column → Some k ≡ Some column) [
      | true ↦ λ is. is
      | false ↦ λ is. absurd (no_key column is)
    ] h
table_key p key e column h = absurd (no_key column h)

pub exact_at : (m : Model) (parts : List Part) (n p column : ℕ) → list_all (λ (part : ℕ × Part). is_same_option part.1.enforced (enforced_key m part.0 part.1)) (enumerate_from n parts) ≡ true
    → (slice_index_or parts p no_part).enforced ≡ Some column → enforced_key m (n + p) (slice_index_or parts p no_part) ≡ Some column
exact_at m [] n p column all is = absurd (no_key column is)
exact_at m (part ∷ parts) n zero column all is =
    let first = (both (is_same_option part.enforced (enforced_key m n part)) _ all).0 in
    let here : n + 0 ≡ n = omega arith in
    subst (λ k. enforced_key m k part ≡ Some column) (sym here) (same_option column (enforced_key m n part) (subst (λ o. is_same_option o (enforced_key m n part) ≡ true) is first))
exact_at m (part ∷ parts) n (suc p) column all is =
    let there : (n + 1) + p ≡ n + suc p = omega arith in
    subst (λ k. enforced_key m k (slice_index_or parts p no_part) ≡ Some column) there
    (exact_at m parts (n + 1) p column (both (is_same_option part.enforced (enforced_key m n part)) _ all).1 is)

-- a column of some rows holds keys of one kind
abbrev AreKeys : Rows → ℕ → Type 0
AreKeys rows column = (are_keys (column_values rows column) ≡ true) × ((c d : Cells) → Among rows c → Among rows d → rank (key_in column c) ≡ rank (key_in column d))

module _ (m : Model) (s : Sources) (valid : are_valid_tables m.schema.tables s.stored ≡ true) where
  keys_from : (p column : ℕ) (part : Part) (o : Origin) → part.origin ≡ o → enforced_key m p (record part { origin = o }) ≡ Some column → AreKeys (rows_from s o) column
  keys_from p column part (Stored t) from is =
      let key = table_key p (table_at m t).key part.key column is in
      valid_keys (table_at m t) (slice_index_or s.stored t []) column key (valid_table m.schema.tables s.stored t column valid key)
  keys_from p column part (Derived d) from is = absurd (no_key column is)

  pub keyed_by_model : (x : Explore) → has_exact_keys m x ≡ true → AreKeyed x s
  keyed_by_model x exact p column is =
      let zero_more : 0 + p ≡ p = omega arith in
      let key : enforced_key m p (part_at x p) ≡ Some column = subst (λ k. enforced_key m k (part_at x p) ≡ Some column) zero_more (exact_at m x.parts 0 p column exact is) in
      let are = keys_from p column (part_at x p) (part_at x p).origin refl key in
      record { keys = are.0; ranks = are.1 }
