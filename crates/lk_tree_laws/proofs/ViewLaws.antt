-- Rows with one key of a view agree in the views that it determines.
use Rattle.std.proofs.Common.{◌≡◌, ℕ, Bool, true, false, ◌||◌, List, length, refl, sym, ap, ◌∙◌, subst, Some, None, ⊎_elim}
use Rattle.std.specs.Prelude.{◌&&◌, ◌==◌, Option, not, slice_get}
use Rattle.std.specs.List.{Contains}
use Rattle.std.proofs.lemmas.Bool.{eqb-true, false≢true}
use Rattle.lk_val.specs.Least.{is_in}
use Rattle.lk_val.specs.Values.{is_null}
use Rattle.lk_types.specs.Expressions.{has_number}
use Rattle.lk_types.specs.Tables.{are_valid_tables}
use Rattle.lk_types.specs.declared.explore.Explore.{Explore}
use Rattle.lk_types.specs.declared.model.Model.{Model}
use Rattle.lk_types.specs.declared.rows.Joined.{Joined}
use Rattle.lk_types.specs.declared.rows.Sources.{Sources}
use Rattle.lk_semantics.specs.Answers.{has_part, is_there}
use Rattle.lk_semantics.specs.Joins.{in_declared_order, joined_rows, numbers_below, part_at}
use Rattle.lk_semantics.specs.Resolved.{has_exact_keys}
use Rattle.lk_semantics.specs.Rollups.{Standing, determined, determined_views, has_full, is_determined_in, is_present_in, is_same_standing, present, present_views, stands, standings}
use Rattle.lk_semantics.proofs.JoinLaws.{numbers_equal}
use Rattle.lk_tree_laws.specs.ViewKeys.{value_at, view_key}
use Rattle.lk_tree_laws.proofs.Among.{Among, among}
use Rattle.lk_tree_laws.proofs.PartsLaws.{part_there}
use Rattle.lk_tree_laws.proofs.TableLaws.{of_tables}
use Rattle.lk_tree_laws.proofs.ModelLaws.{keyed_by_model}
use Rattle.lk_tree_laws.proofs.AgreementLaws.{AreKeyed, HasPart, same_key, standings_hold}
use Rattle.lk_tree_laws.proofs.RoundLaws.{by_rounds, in_filter}
use Rattle.lk_tree_laws.proofs.KeyLaws.{both, one_of}

module _ (x : Explore) (s : Sources) (keyed : AreKeyed x s) (joins : List ℕ) (v : ℕ) where
  abbrev Row : Joined → Type 0
  Row r = Among (joined_rows x s joins) r

  -- the view of the key is there, and its row is one
  begins : (o : Option ℕ) → (part_at x v).enforced ≡ o → (one other : Joined) → Row one → Row other → is_null (value_at o v one) ≡ false → value_at o v other ≡ value_at o v one
      → (slice_get one.parts v ≡ slice_get other.parts v) × HasPart v one × HasPart v other
  begins None is one other here there known same = absurd (false≢true (sym known))
  begins (Some column) is one other here there known same = (
    same_key x s keyed one other v column is
        (of_tables x s (in_declared_order x joins) one here) (of_tables x s (in_declared_order x joins) other there) known same,
    part_there (slice_get one.parts v) column known,
    part_there (slice_get other.parts v) column (ap is_null same ∙ known),
  )

  -- what is said of a view of two rows
  abbrev Says : Joined → Joined → Standing → Type 0
  Says one other (determined w) = slice_get one.parts w ≡ slice_get other.parts w
  Says one other (present w) = HasPart w one × HasPart w other

  -- beside a full join the view of the key stands alone
  alone : (one other : Joined) → has_full x joins ≡ true → Says one other (determined v) → Says one other (present v) → (y : Standing) → is_in is_same_standing y (standings x joins v) ≡ true → Says one other y
  alone one other full same there = by_rounds x joins v (Says one other) (λ known hold. only known)
    where
      is_view : (w : ℕ) (b : Bool) → ((w == v) || (not (has_full x joins) && b)) ≡ true → w ≡ v
      is_view w b h =
          ⊎_elim (λ is. eqb-true w v is) (λ found. absurd (false≢true (ap (λ f. not f) (sym full) ∙ (both (not (has_full x joins)) b found).0)))
          (one_of (w == v) (not (has_full x joins) && b) h)

      only : (known : List Standing) (y : Standing) → stands x joins v known y ≡ true → Says one other y
      only known (determined w) h = subst (λ u. Says one other (determined u)) (sym (is_view w _ h)) same
      only known (present w) h = subst (λ u. Says one other (present u)) (sym (is_view w _ h)) there

  says : (one other : Joined) → Row one → Row other → is_null (view_key x v one) ≡ false → view_key x v other ≡ view_key x v one
      → (y : Standing) → is_in is_same_standing y (standings x joins v) ≡ true → Says one other y
  says one other here there known same =
      let first = begins (part_at x v).enforced refl one other here there known same in
      elim (has_full x joins) as (λ b. has_full x joins ≡ b → (y : Standing) → is_in is_same_standing y (standings x joins v) ≡ true → Says one other y) [
        | true ↦ λ full. alone one other full first.0 (first.1, first.2)
        | false ↦ λ streams. standings_hold x s keyed joins streams one other here there v first.0 first.1 first.2
      ] refl

module _ (m : Model) (x : Explore) (s : Sources) (joins : List ℕ) (v w : ℕ) where
  pub rows_agree : (one other : Joined) → has_exact_keys m x ≡ true → are_valid_tables m.schema.tables s.stored ≡ true
      → Contains (joined_rows x s joins) one → Contains (joined_rows x s joins) other → is_null (view_key x v one) ≡ false → view_key x v other ≡ view_key x v one
      → has_number w (determined_views x joins v) ≡ true → slice_get one.parts w ≡ slice_get other.parts w
  rows_agree one other exact valid here there known same h =
      says x s (keyed_by_model m s valid x exact) joins v one other (among (joined_rows x s joins) one here) (among (joined_rows x s joins) other there) known same (determined w)
      (in_filter numbers_equal (is_determined_in (standings x joins v)) (numbers_below (length x.parts)) w h)

  pub present_agree : (one : Joined) → has_exact_keys m x ≡ true → are_valid_tables m.schema.tables s.stored ≡ true
      → Contains (joined_rows x s joins) one → is_null (view_key x v one) ≡ false → has_number w (present_views x joins v) ≡ true → has_part w one ≡ true
  present_agree one exact valid here known h =
      let row = among (joined_rows x s joins) one here in
      let there = says x s (keyed_by_model m s valid x exact) joins v one one row row known refl (present w)
      (in_filter numbers_equal (is_present_in (standings x joins v)) (numbers_below (length x.parts)) w h) in
      ap is_there there.0.1
