-- Where no number rises along bases, a name whose number falls stands on no cycle; and a name from which a path leads back
-- stands on one.
use Rattle.std.proofs.Common.{◌≡◌, ◌∙◌, ℕ, zero, suc, Bool, true, false, ◌&&◌, ◌||◌, ⊎_elim, List, [], ◌∷◌, length, Option, Some, None, refl, sym, ap, subst, arith}
use Rattle.std.specs.Prelude.{filter}
use Rattle.std.specs.List.{list_any}
use Rattle.std.proofs.lemmas.Bool.{false≢true}
use Rattle.std.proofs.lemmas.Bool.Decides.{nat_tests}
use Rattle.std.proofs.lemmas.Map.Views.{any-filter_same}
use Rattle.lk_val.specs.Least.{is_in, grown_times}
use Rattle.lk_val.proofs.LeastLaws.{IsEquality, IsMonotone, least_set-kept, any_within}
use Rattle.lk_val.specs.Texts.{is_same_text}
use Rattle.lk_params.proofs.Steps.{text_exact}
use Rattle.lk_overlay.specs.declared.kind.Kind.{Kind}
use Rattle.lk_merge.specs.declared.declaration.Declaration.{Declaration}
use Rattle.lk_merge.specs.Objects.{bases_of, declared_names}
use Rattle.lk_merge.specs.MergeFaults.{reaches, reached, is_on_cycle}
use Rattle.lk_merge.specs.Ranks.{rank_in, is_below, is_at_most, descends, keeps_down, do_keep_down, leads}
use Rattle.lk_merge.proofs.RankLaws.{split_and, split_or, or_later, some_of, all_of, never_below}
use Rattle.lk_overlay.proofs.TextLaws.{same_itself}

most_below : (a b c : Option ℕ) → is_at_most a b ≡ true → is_below b c ≡ true → is_below a c ≡ true
most_below (Some a) (Some b) (Some c) h k = grind (arith, nat_tests)
most_below (Some a) (Some b) None h k = absurd (false≢true k)
most_below (Some a) None c h k = absurd (false≢true h)
most_below None b c h k = absurd (false≢true h)

module _ (all : List Declaration) (k : Kind) where
  abbrev names : List (List ℕ)
  names = declared_names all k

  abbrev round : List ℕ → ℕ → List (List ℕ)
  round name n = grown_times is_same_text names (reaches all k name) n

  in_filter : (test : List ℕ → Bool) (x : List ℕ) → is_in is_same_text x (filter test names) ≡ (test x && is_in is_same_text x names)
  in_filter test x = any-filter_same (is_same_text x) test (test x) (λ y t. ap test (sym (text_exact x y t))) names

  module _ (ranks : List ℕ) (h : do_keep_down all k names ranks names ≡ true) (name : List ℕ)
      (falls : descends names ranks name (bases_of all k name) ≡ true) where
    abbrev rank : List ℕ → Option ℕ
    rank = rank_in names ranks

    base_most : (from : List ℕ) → is_in is_same_text from names ≡ true → (base : List ℕ)
        → is_in is_same_text base (bases_of all k from) ≡ true → is_at_most (rank base) (rank from) ≡ true
    base_most from there base listed =
        all_of (λ b. is_at_most (rank b) (rank from)) (bases_of all k from)
        (all_of (λ name. keeps_down names ranks name (bases_of all k name)) names h from there) base listed

    -- what the name reaches is declared, and its number is below the name's
    reached_below : (n : ℕ) (x : List ℕ) → is_in is_same_text x (round name n) ≡ true
        → (is_in is_same_text x names ≡ true) × (is_below (rank x) (rank name) ≡ true)
    reached_below zero x h = absurd (false≢true h)
    reached_below (suc n) x in_next =
        let parts = split_and (is_in is_same_text x (round name n) || reaches all k name (round name n) x) (is_in is_same_text x names)
        (sym (in_filter (λ y. is_in is_same_text y (round name n) || reaches all k name (round name n) y) x) ∙ in_next) in (
          parts.1,
          ⊎_elim
              (λ before. (reached_below n x before).1)
              (λ added. ⊎_elim
              (λ by_name. all_of (λ b. is_below (rank b) (rank name)) (bases_of all k name) falls x by_name)
              (λ by_some.
              let one = some_of (λ from. is_in is_same_text x (bases_of all k from)) (round name n) by_some in
              let known = reached_below n one.0 one.1 in
              most_below (rank x) (rank one.0) (rank name) (base_most one.0 known.0 x one.2) known.1)
              (split_or (is_in is_same_text x (bases_of all k name)) (list_any (λ from. is_in is_same_text x (bases_of all k from)) (round name n)) added))
              (split_or (is_in is_same_text x (round name n)) (reaches all k name (round name n) x) parts.0),
        )

    off_cycle : is_on_cycle all k name ≡ false
    off_cycle =
        elim (is_on_cycle all k name) as (λ b. is_on_cycle all k name ≡ b → b ≡ false) [
          | true ↦ λ on. absurd (false≢true (sym (never_below (rank name)) ∙ (reached_below (length names) name on).1))
          | false ↦ λ off. refl
        ] refl

  -- ---- paths

  texts_equal : IsEquality is_same_text
  texts_equal = record { itself = same_itself; exact = text_exact }

  monotone : (name : List ℕ) → IsMonotone texts_equal names (reaches all k name)
  monotone name s t within x h =
      ⊎_elim
      (λ by_name. ap (λ b. b || list_any (λ from. is_in is_same_text x (bases_of all k from)) t) by_name)
      (λ by_some. or_later (is_in is_same_text x (bases_of all k name)) (list_any (λ from. is_in is_same_text x (bases_of all k from)) t)
      (any_within texts_equal (λ from. is_in is_same_text x (bases_of all k from)) s t within by_some))
      (split_or (is_in is_same_text x (bases_of all k name)) (list_any (λ from. is_in is_same_text x (bases_of all k from)) s) h)

  module _ (name : List ℕ) where
    kept : (x : List ℕ) → is_in is_same_text x names ≡ true → reaches all k name (reached all k name) x ≡ true → is_in is_same_text x (reached all k name) ≡ true
    kept = least_set-kept texts_equal names (reaches all k name) (monotone name)

    -- what a reached name has for a base is reached
    further : (from x : List ℕ) → is_in is_same_text from (reached all k name) ≡ true → is_in is_same_text x (bases_of all k from) ≡ true → is_in is_same_text x names ≡ true → is_in is_same_text x (reached all k name) ≡ true
    further from x there base declared =
        kept x declared (or_later (is_in is_same_text x (bases_of all k name)) (list_any (λ y. is_in is_same_text x (bases_of all k y)) (reached all k name))
        (holds_there (λ y. is_in is_same_text x (bases_of all k y)) from (reached all k name) base there))
      where
        holds_there : (f : List ℕ → Bool) (y : List ℕ) (t : List (List ℕ)) → f y ≡ true → is_in is_same_text y t ≡ true → list_any f t ≡ true
        holds_there f y [] h there = absurd (false≢true there)
        holds_there f y (z ∷ zs) h there =
            ⊎_elim (λ same. ap (λ b. b || list_any f zs) (ap f (sym (text_exact y z same)) ∙ h))
            (λ later. or_later (f z) (list_any f zs) (holds_there f y zs h later))
            (split_or (is_same_text y z) (is_in is_same_text y zs) there)

    first : (x : List ℕ) → is_in is_same_text x (bases_of all k name) ≡ true → is_in is_same_text x names ≡ true → is_in is_same_text x (reached all k name) ≡ true
    first x base declared = kept x declared (ap (λ b. b || list_any (λ y. is_in is_same_text x (bases_of all k y)) (reached all k name)) base)

    -- a path from a reached name ends at one
    led_on : (path : List (List ℕ)) (from to : List ℕ) → is_in is_same_text from (reached all k name) ≡ true → is_in is_same_text to names ≡ true → leads all k path from to ≡ true → is_in is_same_text to (reached all k name) ≡ true
    led_on [] from to there declared h = further from to there h declared
    led_on (step ∷ path) from to there declared h =
        let parts = split_and (is_in is_same_text step (bases_of all k from) && is_in is_same_text step names) (leads all k path step to) h in
        let known = split_and (is_in is_same_text step (bases_of all k from)) (is_in is_same_text step names) parts.0 in
        led_on path step to (further from step there known.0 known.1) declared parts.1

    -- and so does one from the name itself
    led : (path : List (List ℕ)) (to : List ℕ) → is_in is_same_text to names ≡ true → leads all k path name to ≡ true → is_in is_same_text to (reached all k name) ≡ true
    led [] to declared h = first to h declared
    led (step ∷ path) to declared h =
        let parts = split_and (is_in is_same_text step (bases_of all k name) && is_in is_same_text step names) (leads all k path step to) h in
        let known = split_and (is_in is_same_text step (bases_of all k name)) (is_in is_same_text step names) parts.0 in
        led_on path step to (first step known.0 known.1) declared parts.1

-- a name whose number falls stands on no cycle
pub not_on_cycle : (all : List Declaration) (k : Kind) (names : List (List ℕ)) (ranks : List ℕ) (name : List ℕ) → names ≡ declared_names all k
    → do_keep_down all k names ranks names ≡ true → descends names ranks name (bases_of all k name) ≡ true → is_on_cycle all k name ≡ false
not_on_cycle all k names ranks name e =
    subst (λ z. do_keep_down all k z ranks z ≡ true → descends z ranks name (bases_of all k name) ≡ true → is_on_cycle all k name ≡ false) (sym e)
    (λ down falls. off_cycle all k ranks down name falls)

-- a name from which a path leads back stands on one
pub on_cycle : (all : List Declaration) (k : Kind) (names : List (List ℕ)) (path : List (List ℕ)) (name : List ℕ) → names ≡ declared_names all k
    → is_in is_same_text name names ≡ true → leads all k path name name ≡ true → is_on_cycle all k name ≡ true
on_cycle all k names path name e there h = led all k name path name (subst (λ z. is_in is_same_text name z ≡ true) e there) h
