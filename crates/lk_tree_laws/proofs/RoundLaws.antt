-- What the rules of standings make known, round by round, and tests over lists.
use Rattle.std.proofs.Common.{◌≡◌, ℕ, zero, suc, Bool, true, false, ◌||◌, List, [], ◌∷◌, length, refl, ap, ◌∙◌, ⊎_elim, eq-eqb}
use Rattle.std.specs.Prelude.{filter, if◌then◌else◌, nat_eq}
use Rattle.std.specs.List.{list_all, list_any}
use Rattle.std.proofs.lemmas.Bool.{eqb-true, false≢true}
use Rattle.lk_val.specs.Least.{grown_times, is_in}
use Rattle.lk_val.proofs.LeastLaws.{IsEquality}
use Rattle.lk_types.specs.Expressions.{has_number}
use Rattle.lk_types.specs.declared.explore.Explore.{Explore}
use Rattle.lk_semantics.specs.Rollups.{Standing, all_standings, is_same_standing, stands, standings}
use Rattle.lk_semantics.proofs.StandingLaws.{standings_equal}
use Rattle.lk_tree_laws.proofs.KeyLaws.{both, one_of}

-- ---- tests over lists

pub all_at : (t : ℕ → Bool) (ps : List ℕ) (q : ℕ) → list_all t ps ≡ true → has_number q ps ≡ true → t q ≡ true
all_at t [] q all h = absurd (false≢true h)
all_at t (p ∷ ps) q all h =
    let split = both (t p) (list_all t ps) all in
    ⊎_elim (λ here. ap t (eqb-true q p here) ∙ split.0) (λ there. all_at t ps q split.1 there) (one_of (nat_eq q p) (has_number q ps) h)

pub any_of : (t : ℕ → Bool) (ps : List ℕ) → list_any t ps ≡ true → (p : ℕ) × (has_number p ps ≡ true) × (t p ≡ true)
any_of t [] h = absurd (false≢true h)
any_of t (p ∷ ps) h =
    ⊎_elim (λ here. (p, ap (λ b. b || has_number p ps) (eq-eqb p p refl), here))
    (λ there. let found = any_of t ps there in (found.0, or_second (nat_eq found.0 p) (has_number found.0 ps) found.1, found.2))
    (one_of (t p) (list_any t ps) h)
  where
    or_second : (a b : Bool) → b ≡ true → (a || b) ≡ true
    or_second true b h = refl
    or_second false b h = h

-- what is in a filtered list passes
pub in_filter : {A : Type 0} {same : A → A → Bool} → IsEquality same → (t : A → Bool) (xs : List A) (y : A) → is_in same y (filter t xs) ≡ true → t y ≡ true
in_filter e t [] y h = absurd (false≢true h)
in_filter {same = same} e t (x ∷ xs) y h =
    elim (t x) as (λ b. t x ≡ b → is_in same y (if b then x ∷ filter t xs else filter t xs) ≡ true → t y ≡ true) [
      | true ↦ λ passes h. ⊎_elim (λ here. ap t (e.exact y x here) ∙ passes) (λ there. in_filter e t xs y there) (one_of (same y x) (is_in same y (filter t xs)) h)
      | false ↦ λ passes h. in_filter e t xs y h
    ] refl h

-- ---- rounds

-- what holds of all that the rules add, where it holds of what is known, holds of all that they make known
pub by_rounds : (x : Explore) (joins : List ℕ) (v : ℕ) (P : Standing → Type 0)
    → ((known : List Standing) → ((y : Standing) → is_in is_same_standing y known ≡ true → P y) → (y : Standing) → stands x joins v known y ≡ true → P y)
    → (y : Standing) → is_in is_same_standing y (standings x joins v) ≡ true → P y
by_rounds x joins v P rule = after (length (all_standings x))
  where
    after : (n : ℕ) (y : Standing) → is_in is_same_standing y (grown_times is_same_standing (all_standings x) (stands x joins v) n) ≡ true → P y
    after zero y h = absurd (false≢true h)
    after (suc n) y h =
        let before = grown_times is_same_standing (all_standings x) (stands x joins v) n in
        ⊎_elim (λ was. after n y was) (λ added. rule before (after n) y added)
        (one_of (is_in is_same_standing y before) (stands x joins v before y) (in_filter standings_equal (λ z. is_in is_same_standing z before || stands x joins v before z) (all_standings x) y h))
