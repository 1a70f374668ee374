-- The tables that are wanted for builds of some datagroups are those that the builds read.
use Rattle.std.proofs.Common.{◌≡◌, ℕ, ◌+◌, ◌<◌, true, List, [], ◌∷◌, length, sym, subst, arith}
use Rattle.std.specs.Prelude.{flat_map, if◌then◌else◌, slice_index_or}
use Rattle.std.specs.List.{enumerate_from}
use Rattle.lk_types.specs.Expressions.{has_number}
use Rattle.lk_types.specs.declared.model.Model.{Model}
use Rattle.lk_types.specs.declared.rows.Sources.{Sources}
use Rattle.lk_semantics.specs.Derived.{explore_at, no_explore}
use Rattle.lk_semantics.specs.Rollups.{derived_at, no_derived, no_rollup, rollup_at}
use Rattle.lk_derived.specs.ReadRows.{whole}
use Rattle.lk_rollup.specs.Builds.{query_of_rollup}
use Rattle.lk_fill.specs.Reads.{HasRowsOf, tables_read}
use Rattle.lk_keeps.specs.Keeps.{is_of}
use Rattle.lk_keeps.specs.Wanted.{persisted, read_for, read_for_explore, wanted_by}
use Rattle.lk_keeps.proofs.ListLaws.{in_each, in_left, in_numbered, in_right, is_there}

-- fewer tables have their rows too
fewer : (m : Model) (s : Sources) (some all : List ℕ) → ((d : ℕ) → has_number d some ≡ true → has_number d all ≡ true) → HasRowsOf m s all → HasRowsOf m s some
fewer m s some all of rows = record { valid = rows.valid; derived = rows.derived; there = λ d wanted. rows.there d (of d wanted) }

module _ (m : Model) (groups : List ℕ) where
  table_wanted : (d : ℕ) → d < length m.derived → is_of groups (derived_at m d).datagroup ≡ true → has_number d (wanted_by m groups) ≡ true
  table_wanted d there of =
      let here : 0 + d ≡ d = omega arith in
      in_left d (flat_map (persisted groups) (enumerate_from 0 m.derived)) (flat_map (read_for_explore groups) (enumerate_from 0 m.explores))
      (in_numbered (persisted groups) 0 m.derived d d no_derived there
      (subst (λ j. has_number d (persisted groups (j, derived_at m d)) ≡ true) (sym here)
      (subst (λ b. has_number d (if b then d ∷ [] else []) ≡ true) (sym of) (is_there d))))

  read_wanted : (n i d : ℕ) → n < length m.explores → i < length (explore_at m n).rollups → has_number (rollup_at (explore_at m n) i).datagroup groups ≡ true
      → has_number d (tables_read (explore_at m n) (query_of_rollup m n i).joins) ≡ true → has_number d (wanted_by m groups) ≡ true
  read_wanted n i d explore rollup of read =
      let here : 0 + n ≡ n = omega arith in
      let x = explore_at m n in
      in_right d (flat_map (persisted groups) (enumerate_from 0 m.derived)) (flat_map (read_for_explore groups) (enumerate_from 0 m.explores))
      (in_numbered (read_for_explore groups) 0 m.explores n d no_explore explore
      (subst (λ j. has_number d (read_for_explore groups (j, x)) ≡ true) (sym here)
      (in_each (read_for groups n x) x.rollups i d no_rollup rollup
      (subst (λ b. has_number d (if b then tables_read x (query_of_rollup m n i).joins else []) ≡ true) (sym of) read))))

  pub table_there : (s : Sources) (d : ℕ) → HasRowsOf m s (wanted_by m groups) → d < length m.derived → is_of groups (derived_at m d).datagroup ≡ true
      → slice_index_or s.derived d [] ≡ slice_index_or (whole m s).derived d []
  table_there s d rows there of = rows.there d (table_wanted d there of)

  pub read_there : (s : Sources) (n i : ℕ) → HasRowsOf m s (wanted_by m groups) → n < length m.explores → i < length (explore_at m n).rollups
      → has_number (rollup_at (explore_at m n) i).datagroup groups ≡ true → HasRowsOf m s (tables_read (explore_at m n) (query_of_rollup m n i).joins)
  read_there s n i rows explore rollup of =
      fewer m s (tables_read (explore_at m n) (query_of_rollup m n i).joins) (wanted_by m groups) (λ d read. read_wanted n i d explore rollup of read) rows
