-- Where each name's number is above those of its bases, no object extends itself.
use Rattle.std.proofs.Common.{◌≡◌, ◌∙◌, ℕ, zero, suc, Bool, true, false, ◌&&◌, ◌||◌, ◌⊎◌, inl, inr, ⊎_elim, List, [], ◌∷◌, length, Option, Some, None, refl, sym, ap, subst, arith}
use Rattle.std.specs.Prelude.{filter, find, option_and_then}
use Rattle.std.specs.List.{list_any, list_all}
use Rattle.std.proofs.lemmas.Bool.{false≢true}
use Rattle.std.proofs.lemmas.Bool.Decides.{nat_tests}
use Rattle.std.proofs.lemmas.Map.Views.{any-filter_same}
use Rattle.lk_val.specs.Least.{is_in, grown_times}
use Rattle.lk_val.specs.Texts.{is_same_text}
use Rattle.lk_params.proofs.Steps.{text_exact}
use Rattle.lk_overlay.proofs.TextLaws.{same_itself}
use Rattle.lk_overlay.specs.declared.kind.Kind.{Kind}
use Rattle.lk_merge.specs.declared.declaration.Declaration.{Declaration}
use Rattle.lk_merge.specs.Objects.{bases_of, declared_names, declaration_of}
use Rattle.lk_merge.specs.MergeFaults.{reaches, is_on_cycle, cycle_line, extends_itself}
use Rattle.lk_merge.specs.Ranks.{rank_in, is_below, descends, do_descend}

pub split_and : (a b : Bool) → (a && b) ≡ true → (a ≡ true) × (b ≡ true)
split_and true b h = (refl, h)
split_and false b h = absurd (false≢true h)

pub split_or : (a b : Bool) → (a || b) ≡ true → (a ≡ true) ⊎ (b ≡ true)
split_or true b h = inl refl
split_or false b h = inr h

pub or_later : (a b : Bool) → b ≡ true → (a || b) ≡ true
or_later true b h = refl
or_later false b h = h

-- a test of some text passes one that is there
pub some_of : (test : List ℕ → Bool) (texts : List (List ℕ)) → list_any test texts ≡ true
    → (x : List ℕ) × (is_in is_same_text x texts ≡ true) × (test x ≡ true)
some_of test [] h = absurd (false≢true h)
some_of test (y ∷ ys) h = ⊎_elim
    (λ now. (y, ap (λ b. b || is_in is_same_text y ys) (same_itself y), now))
    (λ later. let one = some_of test ys later in
    (one.0, or_later (is_same_text one.0 y) (is_in is_same_text one.0 ys) one.1, one.2))
    (split_or (test y) (list_any test ys) h)

-- a test of all texts passes each that is there
pub all_of : (test : List ℕ → Bool) (texts : List (List ℕ)) → list_all test texts ≡ true
    → (x : List ℕ) → is_in is_same_text x texts ≡ true → test x ≡ true
all_of test [] h x there = absurd (false≢true there)
all_of test (y ∷ ys) h x there =
    let parts = split_and (test y) (list_all test ys) h in
    ⊎_elim (λ same. subst (λ z. test z ≡ true) (sym (text_exact x y same)) parts.0)
    (λ later. all_of test ys parts.1 x later) (split_or (is_same_text x y) (is_in is_same_text x ys) there)

below_both : (a b c : Option ℕ) → is_below a b ≡ true → is_below b c ≡ true → is_below a c ≡ true
below_both (Some a) (Some b) (Some c) h k = grind (arith, nat_tests)
below_both (Some a) (Some b) None h k = absurd (false≢true k)
below_both (Some a) None c h k = absurd (false≢true h)
below_both None b c h k = absurd (false≢true h)

pub never_below : (a : Option ℕ) → is_below a a ≡ false
never_below (Some a) = grind (arith, nat_tests)
never_below None = refl

none_found : (test : List ℕ → Bool) (texts : List (List ℕ)) → ((x : List ℕ) → is_in is_same_text x texts ≡ true → test x ≡ false)
    → find test texts ≡ None
none_found test [] h = refl
none_found test (y ∷ ys) h = rw (h y (first_there y ys)) (none_found test ys (λ x there. h x (or_later (is_same_text x y) (is_in is_same_text x ys) there)))
  where
    first_there : (x : List ℕ) (xs : List (List ℕ)) → is_in is_same_text x (x ∷ xs) ≡ true
    first_there x xs = ap (λ b. b || is_in is_same_text x xs) (same_itself x)

module _ (all : List Declaration) (k : Kind) (ranks : List ℕ) where
  abbrev names : List (List ℕ)
  names = declared_names all k

  abbrev rank : List ℕ → Option ℕ
  rank = rank_in names ranks

  abbrev round : List ℕ → ℕ → List (List ℕ)
  round name n = grown_times is_same_text names (reaches all k name) n

  in_filter : (test : List ℕ → Bool) (x : List ℕ) → is_in is_same_text x (filter test names) ≡ (test x && is_in is_same_text x names)
  in_filter test x = any-filter_same (is_same_text x) test (test x) (λ y t. ap test (sym (text_exact x y t))) names

  module _ (h : do_descend all k names ranks names ≡ true) where
    -- a base's number is below the name's
    base_below : (from : List ℕ) → is_in is_same_text from names ≡ true → (base : List ℕ)
        → is_in is_same_text base (bases_of all k from) ≡ true → is_below (rank base) (rank from) ≡ true
    base_below from there base listed =
        all_of (λ b. is_below (rank b) (rank from)) (bases_of all k from)
        (all_of (λ name. descends names ranks name (bases_of all k name)) names h from there) base listed

    -- what a name reaches is declared, and its number is below the name's
    reached_below : (name : List ℕ) → is_in is_same_text name names ≡ true → (n : ℕ) (x : List ℕ)
        → is_in is_same_text x (round name n) ≡ true → (is_in is_same_text x names ≡ true) × (is_below (rank x) (rank name) ≡ true)
    reached_below name there zero x h = absurd (false≢true h)
    reached_below name there (suc n) x in_next =
        let parts = split_and (is_in is_same_text x (round name n) || reaches all k name (round name n) x) (is_in is_same_text x names)
        (sym (in_filter (λ y. is_in is_same_text y (round name n) || reaches all k name (round name n) y) x) ∙ in_next) in (
          parts.1,
          ⊎_elim
              (λ before. (reached_below name there n x before).1)
              (λ added. ⊎_elim
              (λ by_name. base_below name there x by_name)
              (λ by_some.
              let one = some_of (λ from. is_in is_same_text x (bases_of all k from)) (round name n) by_some in
              let known = reached_below name there n one.0 one.1 in
              below_both (rank x) (rank one.0) (rank name) (base_below one.0 known.0 x one.2) known.1)
              (split_or (is_in is_same_text x (bases_of all k name)) (list_any (λ from. is_in is_same_text x (bases_of all k from)) (round name n)) added))
              (split_or (is_in is_same_text x (round name n)) (reaches all k name (round name n) x) parts.0),
        )

    not_on_cycle : (name : List ℕ) → is_in is_same_text name names ≡ true → is_on_cycle all k name ≡ false
    not_on_cycle name there =
        elim (is_on_cycle all k name) as (λ b. is_on_cycle all k name ≡ b → b ≡ false) [
          | true ↦ λ on. absurd (false≢true (sym (never_below (rank name)) ∙ (reached_below name there (length names) name on).1))
          | false ↦ λ off. refl
        ] refl

  pub none_extends_itself : do_descend all k (declared_names all k) ranks (declared_names all k) ≡ true → extends_itself all k ≡ None
  none_extends_itself h =
      ap (option_and_then (λ name. cycle_line (declaration_of all k name)))
      (none_found (is_on_cycle all k) (declared_names all k) (not_on_cycle h))
