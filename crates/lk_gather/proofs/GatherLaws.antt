-- One more row that passes, or that does not.
use Rattle.std.proofs.Common.{◌≡◌, ◌+◌, ℕ, suc, true, false, cond, List, [], ◌∷◌, ◌++◌, map, length, refl, sym, ap, ◌∙◌, append-nil, length-append, arith}
use Rattle.std.specs.Prelude.{filter}
use Rattle.std.specs.List.{enumerate_from}
use Rattle.std.proofs.lemmas.List.{map-append}
use Rattle.std.proofs.lemmas.List.Elements.{filter-append}
use Rattle.lk_types.specs.declared.answer.GivenRow.{GivenRow}
use Rattle.lk_types.specs.declared.bound.Plan.{Plan}
use Rattle.lk_types.specs.declared.explore.Explore.{Explore}
use Rattle.lk_types.specs.declared.rows.Joined.{Joined}
use Rattle.lk_semantics.specs.Answers.{dims_of, given_row, query_components}
use Rattle.lk_semantics.specs.Rows.{tuple_of}
use Rattle.lk_gather.specs.Asked.{does_pass, given_of}

enumerate-append : {A : Type 0} (n : ℕ) (xs : List A) (x : A) → enumerate_from n (xs ++ x ∷ []) ≡ enumerate_from n xs ++ (n + length xs, x) ∷ []
enumerate-append n [] x = ap (λ k. (k, x) ∷ []) (omega arith)
enumerate-append n (y ∷ xs) x =
    ap (λ rest. (n, y) ∷ rest) (enumerate-append (n + 1) xs x)
    ∙ ap (λ k. (n, y) ∷ (enumerate_from (n + 1) xs ++ (k, x) ∷ [])) (omega arith)

module _ (x : Explore) (plan : Plan) where
  abbrev row_given : ℕ × Joined → GivenRow
  row_given = given_row x (dims_of plan.bound.picks) (query_components x plan.bound)

  pub filter_other : (seen : List Joined) (row : Joined) → does_pass plan row ≡ false → filter (does_pass plan) (seen ++ row ∷ []) ≡ filter (does_pass plan) seen
  filter_other seen row e =
      filter-append (does_pass plan) seen (row ∷ []) ∙ ap (λ b. filter (does_pass plan) seen ++ cond b (row ∷ []) []) e ∙ append-nil (filter (does_pass plan) seen)

  pub filter_more : (seen : List Joined) (row : Joined) → does_pass plan row ≡ true → filter (does_pass plan) (seen ++ row ∷ []) ≡ filter (does_pass plan) seen ++ row ∷ []
  filter_more seen row e =
      filter-append (does_pass plan) seen (row ∷ []) ∙ ap (λ b. filter (does_pass plan) seen ++ cond b (row ∷ []) []) e

  pub given_other : (seen : List Joined) (row : Joined) → does_pass plan row ≡ false → given_of x plan (seen ++ row ∷ []) ≡ given_of x plan seen
  given_other seen row e = ap (λ rows. map row_given (enumerate_from 0 rows)) (filter_other seen row e)

  pub given_more : (seen : List Joined) (row : Joined) (count : ℕ) → does_pass plan row ≡ true → count ≡ length (filter (does_pass plan) seen)
      → given_of x plan (seen ++ row ∷ []) ≡ given_of x plan seen ++ given_row x (dims_of plan.bound.picks) (query_components x plan.bound) (count, row) ∷ []
  given_more seen row count e at =
      let place : 0 + length (filter (does_pass plan) seen) ≡ count = omega (arith, at) in
      ap (λ rows. map row_given (enumerate_from 0 rows)) (filter_more seen row e)
      ∙ ap (map row_given) (enumerate-append 0 (filter (does_pass plan) seen) row)
      ∙ map-append row_given (enumerate_from 0 (filter (does_pass plan) seen)) ((0 + length (filter (does_pass plan) seen), row) ∷ [])
      ∙ ap (λ n. given_of x plan seen ++ row_given (n, row) ∷ []) place

  pub count_more : (seen : List Joined) (row : Joined) (count : ℕ) → does_pass plan row ≡ true → count ≡ length (filter (does_pass plan) seen)
      → count + 1 ≡ length (filter (does_pass plan) (seen ++ row ∷ []))
  count_more seen row count e at =
      let more : length (filter (does_pass plan) (seen ++ row ∷ [])) ≡ length (filter (does_pass plan) seen ++ row ∷ []) = ap length (filter_more seen row e) in
      omega (arith, at, more, length-append (filter (does_pass plan) seen) (row ∷ []))

  pub count_other : (seen : List Joined) (row : Joined) → does_pass plan row ≡ false → length (filter (does_pass plan) seen) ≡ length (filter (does_pass plan) (seen ++ row ∷ []))
  count_other seen row e = sym (ap length (filter_other seen row e))

pub group_length : (x : Explore) (row : Joined) (dims : List ℕ) → length (tuple_of x dims row) ≡ length dims
group_length x row [] = refl
group_length x row (f ∷ dims) = ap suc (group_length x row dims)
