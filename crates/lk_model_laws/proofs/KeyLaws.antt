-- The enforced key of each view is what the schema and its primary key say.
use Rattle.std.proofs.Common.{◌≡◌, ◌∙◌, ℕ, zero, suc, ◌+◌, Bool, true, false, ◌&&◌, List, [], ◌∷◌, refl, ap, sym, subst, Option, Some, None, arith}
use Rattle.std.specs.Prelude.{◌==◌, if◌then◌else◌, nat_eq, slice_get, slice_index_or}
use Rattle.std.specs.List.{enumerate_from, list_all}
use Rattle.std.specs.Option.{option_and_then}
use Rattle.lk_types.specs.Formula.{Formula, Column, Literal, Framed, Not, And, Or, Compare, IsNull, In, Between, Like, Number, Negate, Concat, Lower, Upper, Case, Coalesce, NullIf}
use Rattle.lk_types.specs.declared.explore.Part.{Part}
use Rattle.lk_types.specs.declared.model.Model.{Model}
use Rattle.lk_types.specs.declared.schema.TableDef.{TableDef}
use Rattle.lk_objects.specs.declared.view.DeclaredView.{DeclaredView}
use Rattle.lk_objects.specs.declared.view.Rows.{Rows}
use Rattle.lk_objects.specs.declared.view.Rows.TheVariants as rows
use Rattle.lk_fields.specs.declared.scope.Scope.{Scope}
use Rattle.lk_fields.specs.declared.scope.ScopePart.{ScopePart}
use Rattle.lk_formulas.specs.declared.columns.ColumnKinds.{ColumnKinds}
use Rattle.lk_semantics.specs.Reading.{no_table}
use Rattle.lk_semantics.specs.Resolved.{enforced_key, is_same_option, key_column}
use Rattle.lk_semantics.proofs.EveryLaws.{Every, both}
use Rattle.lk_resolved.specs.Explores.{column_in, enforced_with, key_formula, key_if, key_of_table, origin_if, origin_of, origin_with, part_with, parts_from, table_key, table_key_in, view_of_part}
use Rattle.lk_model_laws.proofs.PartLaws.{AreKnownRows, IsKnownPart}

-- ---- over plain values

none_enforced : (n : ℕ) (c : Option (ℕ × ℕ)) → enforced_with n c None ≡ None
none_enforced n None = refl
none_enforced n (Some c) = refl

turned : (a b : ℕ) → nat_eq a b ≡ nat_eq b a
turned a b = grind arith

same_key : (a b c d : ℕ) → is_same_option (key_if ((a == b) && (c == d)) d) (if nat_eq b a && nat_eq d c then Some d else None) ≡ true
same_key a b c d =
    subst (λ t. is_same_option (key_if (t && (c == d)) d) (if nat_eq b a && nat_eq d c then Some d else None) ≡ true) (turned b a)
    (subst (λ t. is_same_option (key_if (nat_eq b a && t) d) (if nat_eq b a && nat_eq d c then Some d else None) ≡ true) (turned d c)
    (decided (nat_eq b a && nat_eq d c)))
  where
    itself : (n : ℕ) → nat_eq n n ≡ true
    itself n = grind arith

    decided : (t : Bool) → is_same_option (key_if t d) (if t then Some d else None) ≡ true
    decided true = itself d
    decided false = refl

same_enforced : (n : ℕ) (key : Option ℕ) (e : Option Formula) → is_same_option (enforced_with n (column_in e) key) (key_column n key e) ≡ true
same_enforced n None e = ap (λ k. is_same_option k None) (none_enforced n (column_in e))
same_enforced n (Some k) None = refl
same_enforced n (Some k) (Some (Column q c)) = same_key q n c k
same_enforced n (Some k) (Some (Literal v)) = refl
same_enforced n (Some k) (Some (Framed f a)) = refl
same_enforced n (Some k) (Some (Not a)) = refl
same_enforced n (Some k) (Some (And a b)) = refl
same_enforced n (Some k) (Some (Or a b)) = refl
same_enforced n (Some k) (Some (Compare c a b)) = refl
same_enforced n (Some k) (Some (IsNull a)) = refl
same_enforced n (Some k) (Some (In a xs)) = refl
same_enforced n (Some k) (Some (Between a low high)) = refl
same_enforced n (Some k) (Some (Like a pieces)) = refl
same_enforced n (Some k) (Some (Number op a b)) = refl
same_enforced n (Some k) (Some (Negate a)) = refl
same_enforced n (Some k) (Some (Concat a b)) = refl
same_enforced n (Some k) (Some (Lower a)) = refl
same_enforced n (Some k) (Some (Upper a)) = refl
same_enforced n (Some k) (Some (Case cases)) = refl
same_enforced n (Some k) (Some (Coalesce xs)) = refl
same_enforced n (Some k) (Some (NullIf a b)) = refl

same_table : (tables : List TableDef) (t : ℕ) → key_of_table (slice_get tables t) ≡ (slice_index_or tables t no_table).key
same_table [] t = refl
same_table (table ∷ tables) zero = refl
same_table (table ∷ tables) (suc t) = same_table tables t

-- a view whose rows are these
of_rows : (m : Model) (views : List DeclaredView) (n number : ℕ) (name : List ℕ) (from : Rows) (e : Option Formula) (enforced : Option ℕ) → AreKnownRows m.schema from
    → is_same_option (enforced_with n (column_in e) (table_key_in m.schema from)) (enforced_key m n (record { name = name; origin = origin_with views number from; key = e; enforced = enforced })) ≡ true
of_rows m views n number name (rows.Stored None) e enforced known = absurd known
of_rows m views n number name (rows.Stored (Some t)) e enforced known =
    subst (λ k. is_same_option (enforced_with n (column_in e) k) (key_column n (slice_index_or m.schema.tables t no_table).key e) ≡ true) (sym (same_table m.schema.tables t))
    (same_enforced n (slice_index_or m.schema.tables t no_table).key e)
of_rows m views n number name (rows.Derived derived) e enforced known = ap (λ k. is_same_option k None) (none_enforced n (column_in e))

-- ---- the parts of an explore

module _ (m : Model) (views : List DeclaredView) (scope : Scope) (columns : ColumnKinds) where
  abbrev part_at : ℕ → ScopePart → Part
  part_at n part = part_with m.schema views scope columns n part

  part_exact : (n : ℕ) (part : ScopePart) → IsKnownPart m.schema views part
      → is_same_option (part_at n part).enforced (enforced_key m n (part_at n part)) ≡ true
  part_exact n part known =
      let e = key_formula m.schema views scope columns n in
      let view_is : view_of_part views part ≡ Some known.view = ap (λ o. option_and_then (slice_get views) o) known.named ∙ known.at in
      let origin_is : origin_of views part.view ≡ origin_with views known.number known.view.rows = ap (origin_of views) known.named ∙ ap (origin_if views known.number) known.at in
      subst (λ o. is_same_option (enforced_with n (column_in e) (table_key m.schema o)) (enforced_key m n (part_at n part)) ≡ true) (sym view_is)
      (subst (λ o. is_same_option (enforced_with n (column_in e) (table_key_in m.schema known.view.rows)) (enforced_key m n (record (part_at n part) { origin = o })) ≡ true) (sym origin_is)
      (of_rows m views n known.number part.name known.view.rows e (part_at n part).enforced known.rows_are))

  abbrev is_exact : ℕ × Part → Bool
  is_exact part = is_same_option part.1.enforced (enforced_key m part.0 part.1)

  parts_exact : (n : ℕ) (parts : List ScopePart) → ((k : ℕ) (part : ScopePart) → slice_get parts k ≡ Some part → IsKnownPart m.schema views part)
      → Every is_exact (enumerate_from n (parts_from m.schema views scope columns n parts))
  parts_exact n [] known = refl
  parts_exact n (part ∷ parts) known =
      both (is_exact (n, part_at n part)) (list_all is_exact (enumerate_from (n + 1) (parts_from m.schema views scope columns (n + 1) parts)))
      (part_exact n part (known zero part refl)) (parts_exact (n + 1) parts (λ k other at. known (suc k) other at))

  -- of all of them
  pub exact_keys : ((k : ℕ) (part : ScopePart) → slice_get scope.parts k ≡ Some part → IsKnownPart m.schema views part)
      → Every is_exact (enumerate_from 0 (parts_from m.schema views scope columns 0 scope.parts))
  exact_keys known = parts_exact 0 scope.parts known
