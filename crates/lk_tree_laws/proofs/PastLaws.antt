-- What a joined row was before and behind each join that made it.
use Rattle.std.proofs.Common.{◌≡◌, ℕ, zero, suc, ◌+◌, ◌<◌, ◌≤◌, Bool, true, false, ◌||◌, List, [], ◌∷◌, ◌++◌, map, length, refl, sym, ap, ◌∙◌, subst, arith, inl, inr, Some, None, append-nil}
use Rattle.std.specs.Prelude.{◌⊎◌, Option, filter, if◌then◌else◌, nat_eq, slice_get, replicate}
use Rattle.std.proofs.lemmas.Bool.{cases_eq, false≢true, eqb-true}
use Rattle.std.proofs.lemmas.List.Elements.{filter-append}
use Rattle.lk_types.specs.Formula.{Formula}
use Rattle.lk_types.specs.Expressions.{has_number}
use Rattle.lk_types.specs.Tables.{Cells, Rows}
use Rattle.lk_types.specs.declared.explore.Explore.{Explore}
use Rattle.lk_types.specs.declared.explore.JoinKind.{JoinKind}
use Rattle.lk_types.specs.declared.explore.JoinKind.TheVariants.{Left, Full, Inner, Cross}
use Rattle.lk_types.specs.declared.rows.Joined.{Joined}
use Rattle.lk_types.specs.declared.rows.Sources.{Sources}
use Rattle.lk_semantics.specs.Joins.{base_rows, is_met, join_at, join_rows, joined_after, joined_by, null_row, numbers_below, or_alone, partners, with_part}
use Rattle.lk_semantics.specs.Rollups.{has_full, is_full}
use Rattle.lk_tree_laws.proofs.Among.{Among, among-filter, among-flat_map, among-map}
use Rattle.lk_tree_laws.proofs.PartsLaws.{get-set_other, length-set}
use Rattle.lk_tree_laws.proofs.TableLaws.{rights_of}

-- ---- what a join makes of a row

-- the row with a partner
pub record HasMet (l : Joined) (on : Option Formula) (p : ℕ) (rights : Rows) (r : Joined) : Type 0 where
  pub cells : Cells
  pub there : Among rights cells
  pub is : with_part p l cells ≡ r
  pub met : is_met on r ≡ true

-- the row alone, since it has none
pub record IsAlone (l : Joined) (on : Option Formula) (p : ℕ) (rights : Rows) (r : Joined) : Type 0 where
  pub is : l ≡ r
  pub none : partners on p rights l ≡ []

-- what a join of a kind, but for a full one, makes of a row
abbrev pub Becomes : JoinKind → Joined → Option Formula → ℕ → Rows → Joined → Type 0
Becomes Inner l on p rights r = HasMet l on p rights r
Becomes Left l on p rights r = HasMet l on p rights r ⊎ IsAlone l on p rights r
Becomes Cross l on p rights r = HasMet l None p rights r
Becomes Full l on p rights r = ⊥

met : (on : Option Formula) (p : ℕ) (rights : Rows) (l r : Joined) → Among (partners on p rights l) r → HasMet l on p rights r
met on p rights l r h =
    let kept = among-filter (is_met on) (map (with_part p l) rights) r h in
    let made = among-map (with_part p l) rights r kept.0 in
    record { cells = made.0; there = made.1; is = made.2; met = kept.1 }

met_or_alone : (on : Option Formula) (p : ℕ) (rights : Rows) (l r : Joined) (found : List Joined) → partners on p rights l ≡ found → Among (or_alone l found) r → HasMet l on p rights r ⊎ IsAlone l on p rights r
met_or_alone on p rights l r [] is (inl same) = inr (record { is = same; none = is })
met_or_alone on p rights l r [] is (inr none) = absurd none
met_or_alone on p rights l r (f ∷ fs) is h = inl (met on p rights l r (subst (λ rows. Among rows r) (sym is) h))

pub made_by : (k : JoinKind) → is_full k ≡ false → (x : Explore) (on : Option Formula) (p : ℕ) (left : List Joined) (rights : Rows) (r : Joined) → Among (joined_by k x on p left rights) r
    → (l : Joined) × Among left l × Becomes k l on p rights r
made_by Inner streams x on p left rights r h =
    let found = among-flat_map (partners on p rights) left r h in (found.0, found.1, met on p rights found.0 r found.2)
made_by Cross streams x on p left rights r h =
    let found = among-flat_map (partners None p rights) left r h in (found.0, found.1, met None p rights found.0 r found.2)
made_by Left streams x on p left rights r h =
    let found = among-flat_map (λ row. or_alone row (partners on p rights row)) left r h in
    (found.0, found.1, met_or_alone on p rights found.0 r (partners on p rights found.0) refl found.2)
made_by Full streams x on p left rights r h = absurd (false≢true (sym streams))

-- the parts but for the joined one are as they were, and that was written or left
abbrev pub IsWithPart : Joined → ℕ → Rows → Joined → Type 0
IsWithPart l p rights r = ((cells : Cells) × Among rights cells × (with_part p l cells ≡ r)) ⊎ (l ≡ r)

pub becomes-with_part : (k : JoinKind) (l : Joined) (on : Option Formula) (p : ℕ) (rights : Rows) (r : Joined) → Becomes k l on p rights r → IsWithPart l p rights r
becomes-with_part Inner l on p rights r b = inl (b.cells, b.there, b.is)
becomes-with_part Cross l on p rights r b = inl (b.cells, b.there, b.is)
becomes-with_part Left l on p rights r (inl b) = inl (b.cells, b.there, b.is)
becomes-with_part Left l on p rights r (inr b) = inr b.is
becomes-with_part Full l on p rights r b = absurd b

-- ---- the rows after some joins

joined_after-append : (x : Explore) (s : Sources) (left : List Joined) (js ks : List ℕ) → joined_after x s left (js ++ ks) ≡ joined_after x s (joined_after x s left js) ks
joined_after-append x s left [] ks = refl
joined_after-append x s left (j ∷ js) ks = joined_after-append x s (join_rows x s left j) js ks

not_full : (x : Explore) (joins : List ℕ) (j : ℕ) → has_full x joins ≡ false → has_number j joins ≡ true → is_full (join_at x j).kind ≡ false
not_full x [] j streams taken = absurd (false≢true taken)
not_full x (i ∷ is) j streams taken =
    elim (nat_eq j i) as (λ b. nat_eq j i ≡ b → (b || has_number j is) ≡ true → is_full (join_at x j).kind ≡ false) [
      | true ↦ λ same _. ap (λ n. is_full (join_at x n).kind) (eqb-true j i same) ∙ first (is_full (join_at x i).kind) (has_full x is) streams
      | false ↦ λ _ there. not_full x is j (second (is_full (join_at x i).kind) (has_full x is) streams) there
    ] refl taken
  where
    first : (a b : Bool) → (a || b) ≡ false → a ≡ false
    first true b e = e
    first false b e = refl

    second : (a b : Bool) → (a || b) ≡ false → b ≡ false
    second true b e = absurd (false≢true (sym e))
    second false b e = e

module _ (x : Explore) (s : Sources) (joins : List ℕ) (streams : has_full x joins ≡ false) where
  abbrev pub is_taken : ℕ → Bool
  is_taken j = has_number j joins

  -- the rows after those of the joins that stand before one
  abbrev pub rows_before : ℕ → List Joined
  rows_before n = joined_after x s (base_rows x s) (filter is_taken (numbers_below n))

  abbrev rights : ℕ → Rows
  rights p = rights_of x s p

  -- a row behind a join, if the join is taken, and what it was before it
  pub record IsMade (j : ℕ) (l r : Joined) : Type 0 where
    pub before : Among (rows_before j) l
    pub makes : is_taken j ≡ true → Becomes (join_at x j).kind l (join_at x j).on (j + 1) (rights (j + 1)) r
    pub stays : is_taken j ≡ false → l ≡ r

  pub made : (j : ℕ) (r : Joined) → Among (rows_before (suc j)) r → (l : Joined) × IsMade j l r
  made j r h =
      elim (is_taken j) as (λ b. is_taken j ≡ b → Among (joined_after x s (base_rows x s) (filter is_taken (numbers_below j) ++ (if b then j ∷ [] else []))) r → (l : Joined) × IsMade j l r) [
        | true ↦ λ taken h.
            let step = made_by (join_at x j).kind (not_full x joins j streams taken) x (join_at x j).on (j + 1) (rows_before j) (rights (j + 1)) r
            (subst (λ rows. Among rows r) (joined_after-append x s (base_rows x s) (filter is_taken (numbers_below j)) (j ∷ [])) h) in
            (step.0, record { before = step.1; makes = λ _. step.2; stays = λ other. absurd (false≢true (sym other ∙ taken)) })
        | false ↦ λ other h.
            (r, record { before = subst (λ js. Among (joined_after x s (base_rows x s) js) r) (append-nil (filter is_taken (numbers_below j))) h; makes = λ taken. absurd (false≢true (sym other ∙ taken)); stays = λ _. refl })
      ] refl (subst (λ js. Among (joined_after x s (base_rows x s) js) r) (filter-append is_taken (numbers_below j) (j ∷ [])) h)

  is_with_part : (j : ℕ) (l r : Joined) → IsMade j l r → IsWithPart l (j + 1) (rights (j + 1)) r
  is_with_part j l r m =
      elim (is_taken j) as (λ b. is_taken j ≡ b → IsWithPart l (j + 1) (rights (j + 1)) r) [
        | true ↦ λ taken. becomes-with_part (join_at x j).kind l (join_at x j).on (j + 1) (rights (j + 1)) r (m.makes taken)
        | false ↦ λ other. inr (m.stays other)
      ] refl

  -- ---- what always holds of the rows before a join

  -- as many parts as views, and none of those that are to come
  pub record IsShaped (n : ℕ) (r : Joined) : Type 0 where
    pub size : length r.parts ≡ length x.parts
    pub later : (q : ℕ) → n < q → slice_get r.parts q ≡ slice_get (null_row x).parts q

  length-replicate : (n : ℕ) → length (replicate {A = Option Cells} n None) ≡ n
  length-replicate zero = refl
  length-replicate (suc n) = ap suc (length-replicate n)

  -- one more part
  with_more : (n m p : ℕ) (l : Joined) (cells : Cells) → IsShaped n l → n ≤ m → p ≤ m → IsShaped m (with_part p l cells)
  with_more n m p l cells shaped le below = record {
    size = length-set l.parts p (Some cells) ∙ shaped.size;
    later = λ q after. get-set_other l.parts p q (Some cells) (λ same. omega (arith, after, below, same)) ∙ shaped.later q (omega (arith, after, le));
  }

  pub shaped : (n : ℕ) (r : Joined) → Among (rows_before n) r → IsShaped n r
  shaped zero r h =
      let found = among-map (with_part 0 (null_row x)) (rights 0) r h in
      let no_parts : IsShaped 0 (null_row x) = record { size = length-replicate (length x.parts); later = λ q after. refl } in
      subst (IsShaped 0) found.2 (with_more 0 0 0 (null_row x) found.0 no_parts (omega arith) (omega arith))
  shaped (suc n) r h =
      let step = made n r h in
      let was = shaped n step.0 step.1.before in
      elim (is_with_part n step.0 r step.1) [
        | inl more ↦ subst (IsShaped (suc n)) more.2 (with_more n (suc n) (n + 1) step.0 more.0 was (omega arith) (omega arith))
        | inr same ↦ subst (IsShaped (suc n)) same (record { size = was.size; later = λ q after. was.later q (omega (arith, after)) })
      ]

  -- ---- what a row was before a join

  -- a row before join n with the same parts up to the one that the join before it brings
  pub record IsPast (n : ℕ) (r l : Joined) : Type 0 where
    pub before : Among (rows_before n) l
    pub earlier : (q : ℕ) → q ≤ n → slice_get l.parts q ≡ slice_get r.parts q

  pub made-earlier : (j : ℕ) (l r : Joined) → IsMade j l r → (q : ℕ) → q ≤ j → slice_get l.parts q ≡ slice_get r.parts q
  made-earlier j l r m q le =
      elim (is_with_part j l r m) [
        | inl more ↦ sym (get-set_other l.parts (j + 1) q (Some more.0) (λ same. omega (arith, le, same))) ∙ ap (λ (row : Joined). slice_get row.parts q) more.2
        | inr same ↦ ap (λ (row : Joined). slice_get row.parts q) same
      ]

  pub past : (n : ℕ) (r : Joined) → Among (rows_before n) r → (m : ℕ) → m ≤ n → (l : Joined) × IsPast m r l
  past n r h m le =
      elim (cases_eq m n) [
        | inl same ↦ (r, record { before = subst (λ k. Among (rows_before k) r) (sym same) h; earlier = λ q below. refl })
        | inr other ↦ by_steps n r h (omega (arith, le, other))
      ]
    where
      by_steps : (k : ℕ) (row : Joined) → Among (rows_before k) row → m < k → (l : Joined) × IsPast m row l
      by_steps zero row here less = absurd (omega (arith, less))
      by_steps (suc k) row here less =
          let step = made k row here in
          elim (cases_eq m k) [
            | inl same ↦ (step.0, record { before = subst (λ i. Among (rows_before i) step.0) (sym same) step.1.before; earlier = λ q below. made-earlier k step.0 row step.1 q (omega (arith, below, same)) })
            | inr other ↦
                let further = by_steps k step.0 step.1.before (omega (arith, less, other)) in
                (further.0, record { before = further.1.before; earlier = λ q below. further.1.earlier q below ∙ made-earlier k step.0 row step.1 q (omega (arith, below, less)) })
          ]
