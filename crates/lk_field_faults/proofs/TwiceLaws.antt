-- The names that were known from behind, and the least that stands twice, a name further to the front.
use Rattle.std.proofs.Common.{◌≡◌, ◌<◌, ◌+◌, ℕ, Bool, true, false, cond, not, ◌||◌, drop, length, List, Option, Some, refl, sym, ap, ◌∙◌, get_or}
use Rattle.std.proofs.lemmas.List.{drop_more}
use Rattle.std.specs.List.{list_any}
use Rattle.std.specs.Ordering.{nat_cmp, is_eq}
use Rattle.std.specs.Cmp.Lexicographic.{slice_cmp, texts_ties}
use Rattle.lk_val.specs.Texts.{is_same_text}
use Rattle.lk_field_faults.specs.MadeNames.{least_twice, lesser}

-- a name is among some
abbrev is_among : List (List ℕ) → List ℕ → Bool
is_among names name = list_any (λ other. is_same_text other name) names

either : (b c : Bool) → cond b true c ≡ (b || c)
either true c = refl
either false c = refl

pub known_step : (names : List (List ℕ)) (i : ℕ) (d key : List ℕ) (known now : List ℕ → Bool)
    → i < length names → key ≡ get_or names i d
    → ((q : List ℕ) → known q ≡ is_among (drop (i + 1) names) q)
    → ((q : List ℕ) → now q ≡ cond (is_eq (slice_cmp nat_cmp key q)) true (known q))
    → (q : List ℕ) → now q ≡ is_among (drop i names) q
known_step names i d key known now within is before after q =
    after q
    ∙ either (is_eq (slice_cmp nat_cmp key q)) (known q)
    ∙ ap (λ b. is_eq (slice_cmp nat_cmp key q) || b) (before q)
    ∙ ap (λ b. b || is_among (drop (i + 1) names) q) (sym (texts_ties key q))
    ∙ ap (λ k. is_same_text k q || is_among (drop (i + 1) names) q) is
    ∙ sym (ap (λ ns. is_among ns q) (drop_more names i d within))

chosen : (b : Bool) (name : List ℕ) (least : Option (List ℕ)) → b ≡ true → Some (lesser name least) ≡ cond b (Some (lesser name least)) least
chosen b name least e = rw e refl

kept : (b : Bool) (name : List ℕ) (least : Option (List ℕ)) → b ≡ false → least ≡ cond b (Some (lesser name least)) least
kept b name least e = rw e refl

pub again_step : (names : List (List ℕ)) (i : ℕ) (d key : List ℕ) (least : Option (List ℕ))
    → i < length names → key ≡ get_or names i d
    → is_among (drop (i + 1) names) key ≡ true
    → least ≡ least_twice (drop (i + 1) names)
    → Some (lesser key least) ≡ least_twice (drop i names)
again_step names i d key least within is among rest =
    rw (rest, is) (chosen (is_among (drop (i + 1) names) (get_or names i d)) (get_or names i d) (least_twice (drop (i + 1) names)) (rw is at among))
    ∙ sym (ap least_twice (drop_more names i d within))

pub new_step : (names : List (List ℕ)) (i : ℕ) (d key : List ℕ) (least : Option (List ℕ))
    → i < length names → key ≡ get_or names i d
    → is_among (drop (i + 1) names) key ≡ false
    → least ≡ least_twice (drop (i + 1) names)
    → least ≡ least_twice (drop i names)
new_step names i d key least within is among rest =
    rw rest (kept (is_among (drop (i + 1) names) (get_or names i d)) (get_or names i d) (least_twice (drop (i + 1) names)) (rw is at among))
    ∙ sym (ap least_twice (drop_more names i d within))

pub is_new : (b made : Bool) → made ≡ not b → made ≡ true → b ≡ false
is_new false made e t = refl
is_new true made e t = sym t ∙ e

pub is_old : (b made : Bool) → made ≡ not b → made ≡ false → b ≡ true
is_old true made e t = refl
is_old false made e t = sym t ∙ e
