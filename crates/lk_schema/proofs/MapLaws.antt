-- A map that keeps a list at each name, an item further.
use Rattle.std.proofs.Common.{◌≡◌, ◌∙◌, ◌+◌, ℕ, suc, Bool, true, false, not, cond, List, [], ◌∷◌, ◌++◌, length, map, refl, sym, ap, append-nil}
use Rattle.std.specs.Prelude.{Option, Some, None, nat_lt, if◌then◌else◌}
use Rattle.std.specs.Borrow.{Bor}
use Rattle.std.specs.List.{position, prefix_len}
use Rattle.std.specs.Ordering.{is_eq, nat_cmp}
use Rattle.std.specs.Cmp.Lexicographic.{same_text, slice_cmp, texts_ties}
use Rattle.lk_val.specs.Texts.{is_same_text}
use Rattle.lk_schema.specs.declared.schema.Declared.{Declared}

pub text_tied : (x y : List ℕ) → is_eq (slice_cmp nat_cmp x y) ≡ is_same_text x y
text_tied x y = sym (texts_ties x y)

-- what is put behind what a name had
pub put_behind : {V D : Type 0} (view : Option V → List D) (m : List ℕ → Option V) (got : Option V) (key q : List ℕ) (old : Option V) (w : V) (news : List D)
    → got ≡ cond (is_eq (slice_cmp nat_cmp key q)) (Some w) (m q) → m key ≡ old → view (Some w) ≡ view old ++ news
    → view got ≡ view (m q) ++ (if is_same_text key q then news else [])
put_behind view m got key q old w news e at f =
    elim (is_eq (slice_cmp nat_cmp key q)) as (λ b. is_eq (slice_cmp nat_cmp key q) ≡ b → got ≡ cond b (Some w) (m q) → view got ≡ view (m q) ++ (if b then news else [])) [
      | true ↦ λ s g. ap view g ∙ f ∙ ap (λ t. view t ++ news) (sym at ∙ ap m (same_text key q (sym (texts_ties key q ∙ s))))
      | false ↦ λ s g. ap view g ∙ sym (append-nil (view (m q)))
    ] refl e
    ∙ ap (λ b. view (m q) ++ (if b then news else [])) (text_tied key q)

length_mapped : {A B : Type 0} (f : A → B) (xs : List A) → length (map f xs) ≡ length xs
length_mapped f [] = refl
length_mapped f (x ∷ xs) = ap suc (length_mapped f xs)

prefix_mapped : {A B : Type 0} (test : B → Bool) (f : A → B) (xs : List A) → prefix_len test (map f xs) ≡ prefix_len (λ x. test (f x)) xs
prefix_mapped test f [] = refl
prefix_mapped test f (x ∷ xs) = ap (λ n. cond (test (f x)) (1 + n) 0) (prefix_mapped test f xs)

-- the place of a table's key among its rows
pub key_place : (rows : List (Bor Declared)) → position (λ row. row.now.is_key) rows ≡ position (λ row. row.is_key) (map (λ row. row.now) rows)
key_place rows =
    let before = prefix_mapped (λ (row : Declared). not row.is_key) (λ (row : Bor Declared). row.now) rows in
    let count = length_mapped (λ (row : Bor Declared). row.now) rows in
    sym (λ i. cond (nat_lt (before i) (count i)) (Some (before i)) None)
