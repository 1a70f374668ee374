-- The kept rows of what a datagroup persists are those over the kept tables of its build.
use Rattle.std.proofs.Common.{◌≡◌, ℕ, zero, suc, ◌+◌, ◌<◌, true, false, List, [], ◌∷◌, map, length, refl, sym, ap, subst, ◌∙◌, arith}
use Rattle.std.specs.Prelude.{◌||◌, Option, None, Some, IfSome, if◌then◌else◌, nat_eq, slice_index_or}
use Rattle.std.specs.List.{enumerate_from}
use Rattle.std.proofs.lemmas.Bool.{false≢true, eqb-true}
use Rattle.lk_types.specs.Tables.{Rows, are_valid_tables}
use Rattle.lk_types.specs.declared.model.Derived.{Derived}
use Rattle.lk_types.specs.declared.model.Model.{Model}
use Rattle.lk_semantics.specs.Rollups.{derived_at, no_derived}
use Rattle.lk_fill.specs.Reads.{AreRowsOf}
use Rattle.lk_fill.proofs.NumberedLaws.{numbered_at}
use Rattle.lk_keeps.specs.Built.{all_built, rows_built}
use Rattle.lk_keeps.specs.Keeps.{AreKept, Keeps, is_of, persisted_rows, persists, sources_over}
use Rattle.lk_keeps.proofs.ListLaws.{at_below}

-- what holds of each item that is there holds of what is found
some_numbered : {A B : Type 0} (f : ℕ × A → Option B) (Q : ℕ → B → Type 0) (none : A) (s : ℕ) (xs : List A) (d : ℕ)
    → ((i : ℕ) → i < length xs → IfSome (f (s + i, slice_index_or xs i none)) (Q (s + i))) → IfSome (slice_index_or (map f (enumerate_from s xs)) d None) (Q (s + d))
some_numbered f Q none s [] d each = tt
some_numbered f Q none s (x ∷ xs) zero each =
    let here : s + 0 ≡ s = omega arith in
    subst (λ n. IfSome (f (s, x)) (Q n)) (sym here) (subst (λ n. IfSome (f (n, x)) (Q n)) here (each 0 (omega arith)))
some_numbered f Q none s (x ∷ xs) (suc d) each =
    let there : s + 1 + d ≡ s + suc d = omega arith in
    subst (λ n. IfSome (slice_index_or (map f (enumerate_from (s + 1) xs)) d None) (Q n)) there
    (some_numbered f Q none (s + 1) xs d (λ i less.
    let next : s + suc i ≡ s + 1 + i = omega arith in
    subst (λ n. IfSome (f (n, slice_index_or xs i none)) (Q n)) next (each (suc i) (omega (arith, less)))))

one_is : (n g : ℕ) → (nat_eq n g || false) ≡ true → n ≡ g
one_is n g h =
    elim (nat_eq n g) as (λ b. nat_eq n g ≡ b → (b || false) ≡ true → n ≡ g) [
      | true ↦ λ same _. eqb-true n g same
      | false ↦ λ _ none. absurd (false≢true none)
    ] refl h

module _ (m : Model) (keeps : Keeps) (kept : AreKept m keeps) (g : ℕ) (there : g < length m.datagroups) (persisting : persists m g ≡ true) where
  pub tables_are : slice_index_or keeps.tables g [] ≡ kept.built g
  tables_are =
      ap (λ (k : Keeps). slice_index_or k.tables g []) kept.is
      ∙ at_below (λ n. if persists m n then kept.built n else []) (length m.datagroups) g [] there
      ∙ ap (λ b. if b then kept.built g else []) persisting

  pub tables_valid : are_valid_tables m.schema.tables (slice_index_or keeps.tables g []) ≡ true
  tables_valid = ap (are_valid_tables m.schema.tables) tables_are ∙ kept.valid g

  derived_read : (d : ℕ) → d < length m.derived → slice_index_or keeps.derived d [] ≡ persisted_rows m kept.built d (derived_at m d).datagroup
  derived_read d less =
      ap (λ (k : Keeps). slice_index_or k.derived d []) kept.is
      ∙ numbered_at (λ (t : ℕ × Derived). persisted_rows m kept.built t.0 t.1.datagroup) m.derived d no_derived [] less

  persisted_over : (d : ℕ) (own : Option ℕ) → is_of (g ∷ []) own ≡ true
      → persisted_rows m kept.built d own ≡ slice_index_or (sources_over m (slice_index_or keeps.tables g [])).derived d []
  persisted_over d None h = absurd (false≢true h)
  persisted_over d (Some n) h =
      ap (λ stored. slice_index_or (sources_over m stored).derived d []) (ap kept.built (one_is n g h) ∙ sym tables_are)

  abbrev over : ℕ → Rows → Type 0
  over d rows = rows ≡ slice_index_or (sources_over m (slice_index_or keeps.tables g [])).derived d []

  row_over : (d : ℕ) → d < length m.derived → IfSome (rows_built keeps g (d, derived_at m d)) (over d)
  row_over d less =
      elim (is_of (g ∷ []) (derived_at m d).datagroup) as
      (λ b. is_of (g ∷ []) (derived_at m d).datagroup ≡ b → IfSome (if b then Some (slice_index_or keeps.derived d []) else None) (over d)) [
        | true ↦ λ own. derived_read d less ∙ persisted_over d (derived_at m d).datagroup own
        | false ↦ λ _. tt
      ] refl

  pub hand_is : AreRowsOf m (slice_index_or keeps.tables g []) (all_built m keeps g)
  hand_is d =
      let here : 0 + d ≡ d = omega arith in
      subst (λ n. IfSome (slice_index_or (all_built m keeps g) d None) (over n)) here
      (some_numbered (rows_built keeps g) over no_derived 0 m.derived d
      (λ i less. let same : i ≡ 0 + i = omega arith in
      subst (λ n. IfSome (rows_built keeps g (n, derived_at m i)) (over n)) same (row_over i less)))
