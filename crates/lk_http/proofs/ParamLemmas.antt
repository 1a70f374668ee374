-- A walk over rows that go on with a parameter: it takes the first piece of the path, which has a byte or more.
use Rattle.std.proofs.Common.{◌≡◌, ◌∙◌, ℕ, suc, ◌+◌, ◌<◌, Bool, true, false, List, [], ◌∷◌, ◌++◌, length, drop, refl, sym, ap, subst, arith, cond, Option, Some, None, eqb-true, lt-ltb}
use Rattle.std.specs.Prelude.{⊤, ◌==◌, ◌-◌, ◌&&◌, ltb, nat_eq}
use Rattle.std.specs.Cmp.Lexicographic.{pointwise}
use Rattle.std.specs.List.{ends_with}
use Rattle.std.specs.Option.{is_some}
use Rattle.std.proofs.lemmas.Bool.{false≢true}
use Rattle.matchit.specs.Rows.{RowsOf, catch_all_token, param_token}
use Rattle.matchit.specs.Seek.{better, cuts, has_slash, longest_suffix, or_else, own, param_step, seek, segment, step, with_suffix}
use Rattle.lk_http.proofs.PieceLemmas.{behind, ending, first_piece}
use Rattle.lk_http.proofs.SeekLemmas.{by_byte, no_rows, over_none, skips_all, skips_front}
use Rattle.lk_http.proofs.WordLemmas.{at_end, further, under}

-- no byte is the token of a parameter
abbrev pub AreBytes : List ℕ → Type 0
AreBytes [] = ⊤
AreBytes (b ∷ path) = ((256 == b) ≡ false) × AreBytes path

-- ---- the first piece, and a segment

slash_is : (path : List ℕ) → has_slash path ≡ is_some (behind path)
slash_is [] = refl
slash_is (b ∷ path) = pick (b == 47) (slash_is path) where
  pick : (slash : Bool) → has_slash path ≡ is_some (behind path) → cond slash true (has_slash path) ≡ is_some (cond slash (Some path) (behind path))
  pick true is = refl
  pick false is = is

split_at : (path : List ℕ) → path ≡ first_piece path ++ ending (behind path)
split_at [] = refl
split_at (b ∷ path) = pick (b == 47) refl (split_at path) where
  pick : (slash : Bool) → (b == 47) ≡ slash → path ≡ first_piece path ++ ending (behind path)
      → b ∷ path ≡ cond slash [] (b ∷ first_piece path) ++ ending (cond slash (Some path) (behind path))
  pick true e is = ap (λ n. n ∷ path) (eqb-true b 47 e)
  pick false e is = ap (λ (p : List ℕ). b ∷ p) is

abbrev pub closing : Option (List ℕ) → List ℕ
closing None = []
closing (Some path) = 47 ∷ []

segment_is : (path : List ℕ) → segment path ≡ first_piece path ++ closing (behind path)
segment_is [] = refl
segment_is (b ∷ path) = pick (b == 47) refl (segment_is path) where
  pick : (slash : Bool) → (b == 47) ≡ slash → segment path ≡ first_piece path ++ closing (behind path)
      → cond slash (b ∷ []) (b ∷ segment path) ≡ cond slash [] (b ∷ first_piece path) ++ closing (cond slash (Some path) (behind path))
  pick true e is = ap (λ n. n ∷ []) (eqb-true b 47 e)
  pick false e is = ap (λ (p : List ℕ). b ∷ p) is

-- ---- a parameter at the end

less_one : (path : List ℕ) (b : ℕ) → length (b ∷ path) - 1 ≡ length path
less_one path b = omega arith

module _ {K : Type 0} where
  -- what comes of a piece that a parameter takes
  abbrev pub if_piece : List ℕ → Option K → Option K
  if_piece [] found = None
  if_piece (b ∷ piece) found = found

  abbrev pub last_rows : K → RowsOf K
  last_rows key = (param_token ∷ [], key) ∷ []

  pub takes_last : (key : K) (path : List ℕ) → AreBytes path → seek 0 (last_rows key) path ≡ if_piece (first_piece path) (at_end key (behind path))
  unfolding seek param_step
  takes_last key [] bytes = refl
  takes_last key (b ∷ path) bytes =
      ap (λ x. or_else (seek 0 (cond x (([], key) ∷ []) []) path) (after (param_step (([], key) ∷ []) (b ∷ path)))) bytes.0
      ∙ ap (λ o. or_else o (after (param_step (([], key) ∷ []) (b ∷ path)))) (over_none 0 path)
      ∙ pick (b == 47) (has_slash path) (behind path) refl (slash_is path)
    where
      after : ℕ × RowsOf K → Option K
      after x = or_else (seek (x.0 - 1) x.1 path) None

      pick : (slash more : Bool) (rest : Option (List ℕ)) → (b == 47) ≡ slash → more ≡ is_some rest
          → after (cond (cond slash true more) (0, no_rows) (length (b ∷ path), ([], key) ∷ []))
          ≡ if_piece (cond slash [] (b ∷ first_piece path)) (at_end key (cond slash (Some path) rest))
      pick true more rest e is = ap (λ o. or_else o None) (over_none 0 path)
      pick false true None e is = absurd (false≢true (sym is))
      pick false true (Some rest) e is = ap (λ o. or_else o None) (over_none 0 path)
      pick false false None e is = ap (λ n. or_else (seek n (([], key) ∷ []) path) None) (less_one path b) ∙ ap (λ o. or_else o None) (skips_all (([], key) ∷ []) path)
      pick false false (Some rest) e is = absurd (false≢true is)

-- ---- a parameter before a slash

last_not : (b : ℕ) (path : List ℕ) → behind (b ∷ path) ≡ None → pointwise nat_eq (47 ∷ []) (drop (length path) (b ∷ path)) ≡ false
last_not b [] none = pick (47 == b) (b == 47) refl refl none where
  pick : (x slash : Bool) → (47 == b) ≡ x → (b == 47) ≡ slash → cond {A = Option (List ℕ)} slash (Some []) None ≡ None → (x && true) ≡ false
  pick true true e s h = absurd (cc h)
  pick true false e s h = absurd (false≢true (sym s ∙ ap (λ n. n == 47) (sym (eqb-true 47 b e))))
  pick false slash e s h = refl
last_not b (c ∷ path) none = pick (b == 47) none (last_not c path) where
  pick : (slash : Bool) → cond slash (Some (c ∷ path)) (behind (c ∷ path)) ≡ None
      → (behind (c ∷ path) ≡ None → pointwise nat_eq (47 ∷ []) (drop (length path) (c ∷ path)) ≡ false)
      → pointwise nat_eq (47 ∷ []) (drop (length path) (c ∷ path)) ≡ false
  pick true h is = absurd (cc h)
  pick false h is = is h

-- a path without a slash does not end at one
no_cut : (b : ℕ) (path : List ℕ) → behind (b ∷ path) ≡ None → cuts (b ∷ path) (47 ∷ []) ≡ false
no_cut b path none =
    ap (λ n. ltb 1 (length (b ∷ path)) && pointwise nat_eq (47 ∷ []) (drop n (b ∷ path))) (less_one path b)
    ∙ ap (λ x. ltb 1 (length (b ∷ path)) && x) (last_not b path none) ∙ and_false (ltb 1 (length (b ∷ path)))
  where
    and_false : (x : Bool) → (x && false) ≡ false
    and_false true = refl
    and_false false = refl

drop_front : (piece rest : List ℕ) → drop (length piece) (piece ++ rest) ≡ rest
drop_front [] rest = refl
drop_front (b ∷ piece) rest = drop_front piece rest

abbrev slash : List ℕ
slash = 47 ∷ []

one_more : (piece : List ℕ) → length (piece ++ slash) ≡ length piece + 1
one_more [] = refl
one_more (b ∷ piece) = omega (arith, one_more piece)

length_more : (piece : List ℕ) → length (piece ++ slash) - 1 ≡ length piece
length_more piece = omega (arith, one_more piece)

-- a segment with a byte before its slash does
cut_is : (b : ℕ) (piece : List ℕ) → cuts (b ∷ (piece ++ 47 ∷ [])) (47 ∷ []) ≡ true
cut_is b piece =
    ap (λ n. ltb 1 (length (b ∷ (piece ++ 47 ∷ []))) && pointwise nat_eq (47 ∷ []) (drop n (b ∷ (piece ++ 47 ∷ [])))) (length_more (b ∷ piece))
    ∙ ap (λ (p : List ℕ). ltb 1 (length (b ∷ (piece ++ 47 ∷ []))) && pointwise nat_eq (47 ∷ []) p) (drop_front (b ∷ piece) (47 ∷ []))
    ∙ ap (λ x. x && true) (lt-ltb 1 (length (b ∷ (piece ++ slash))) (omega (arith, one_more piece)))

module _ {K : Type 0} (s t : List ℕ) (k l : K) where
  -- two rows behind a parameter and a slash
  abbrev pub inner : RowsOf K
  inner = (s, k) ∷ (t, l) ∷ []

  abbrev pub slashed : RowsOf K
  slashed = (47 ∷ s, k) ∷ (47 ∷ t, l) ∷ []

  abbrev pub middle : RowsOf K
  middle = (param_token ∷ 47 ∷ s, k) ∷ (param_token ∷ 47 ∷ t, l) ∷ []

  suffix_is : (seg : List ℕ) (cut : Bool) → cuts seg (47 ∷ []) ≡ cut → longest_suffix seg slashed ≡ cond cut slash []
  suffix_is seg cut is = ap (λ x. cond (ltb (length (cond x slash [])) 1 && x) (47 ∷ []) (cond x slash [])) is ∙ pick cut where
    pick : (x : Bool) → cond (ltb (length (cond x slash [])) 1 && x) (47 ∷ []) (cond x slash []) ≡ cond x slash []
    pick true = refl
    pick false = refl

  step_is : (path : List ℕ) (cut more : Bool) → cuts (segment path) (47 ∷ []) ≡ cut → has_slash path ≡ more
      → param_step slashed path ≡ cond cut (length (segment path) - 1, slashed) (cond more (0, no_rows) (length path, slashed))
  unfolding param_step
  step_is path cut more is has =
      ap (λ (suffix : List ℕ). cond {A = ℕ × RowsOf K} (ltb 0 (length suffix)) (length (segment path) - length suffix, with_suffix suffix slashed)
      (cond (has_slash path) (0, []) (length path, slashed))) (suffix_is (segment path) cut is)
      ∙ ap (λ x. cond {A = ℕ × RowsOf K} (ltb 0 (length (cond cut slash []))) (length (segment path) - length (cond cut slash []), with_suffix (cond cut slash []) slashed)
      (cond x (0, []) (length path, slashed))) has
      ∙ pick cut
    where
      pick : (x : Bool) → cond {A = ℕ × RowsOf K} (ltb 0 (length (cond x slash []))) (length (segment path) - length (cond x slash []), with_suffix (cond x slash []) slashed)
          (cond more (0, []) (length path, slashed))
          ≡ cond x (length (segment path) - 1, slashed) (cond more (0, no_rows) (length path, slashed))
      pick true = refl
      pick false = refl

  slashed_further : (path : List ℕ) → seek 0 slashed (47 ∷ path) ≡ seek 0 inner path
  slashed_further path = by_byte slashed 47 path refl refl

  abbrev after : List ℕ → ℕ × RowsOf K → Option K
  after path x = or_else (seek (x.0 - 1) x.1 path) None

  else_none : (o : Option K) → or_else o None ≡ o
  else_none None = refl
  else_none (Some key) = refl

  -- a path without a slash
  whole : (b : ℕ) (path : List ℕ) → behind (b ∷ path) ≡ None → after path (param_step slashed (b ∷ path)) ≡ None
  whole b path none =
      ap (after path) (step_is (b ∷ path) false false
      (ap (λ (p : List ℕ). cuts p (47 ∷ [])) (segment_is (b ∷ path) ∙ ap (λ (h : Option (List ℕ)). first_piece (b ∷ path) ++ closing h) none ∙ sym (split_at (b ∷ path) ∙ ap (λ (h : Option (List ℕ)). first_piece (b ∷ path) ++ ending h) none)) ∙ no_cut b path none)
      (slash_is (b ∷ path) ∙ ap is_some none))
      ∙ ap (λ n. or_else (seek n slashed path) None) (less_one path b)
      ∙ ap (λ o. or_else o None) (skips_all slashed path)

  -- a path that begins with a slash
  empty : (path : List ℕ) → after path (param_step slashed (47 ∷ path)) ≡ None
  empty path = ap (after path) (step_is (47 ∷ path) false true refl refl) ∙ ap (λ o. or_else o None) (over_none 0 path)

  -- a path with a piece before its slash
  cut : (b : ℕ) (piece rest : List ℕ) (path : List ℕ) → path ≡ piece ++ 47 ∷ rest → segment (b ∷ path) ≡ b ∷ (piece ++ 47 ∷ []) → has_slash (b ∷ path) ≡ true
      → after path (param_step slashed (b ∷ path)) ≡ seek 0 inner rest
  cut b piece rest path is segment has =
      ap (after path) (step_is (b ∷ path) true true (ap (λ (p : List ℕ). cuts p (47 ∷ [])) segment ∙ cut_is b piece) has)
      ∙ ap (λ (p : List ℕ). or_else (seek (length p - 1 - 1) slashed path) None) segment
      ∙ ap (λ n. or_else (seek n slashed path) None) (omega (arith, length_more piece))
      ∙ ap (λ (p : List ℕ). or_else (seek (length piece) slashed p) None) is
      ∙ else_none (seek (length piece) slashed (piece ++ 47 ∷ rest))
      ∙ skips_front slashed piece (47 ∷ rest) ∙ slashed_further rest

  takes_middle_by : (b : ℕ) (path : List ℕ) (slash : Bool) (more : Option (List ℕ)) → (b == 47) ≡ slash → behind path ≡ more
      → after path (param_step slashed (b ∷ path)) ≡ if_piece (cond slash [] (b ∷ first_piece path)) (further inner (cond slash (Some path) more))
  takes_middle_by b path true more e h = subst (λ n. after path (param_step slashed (n ∷ path)) ≡ None) (sym (eqb-true b 47 e)) (empty path)
  takes_middle_by b path false None e h = whole b path (ap (λ x. cond x (Some path) (behind path)) e ∙ h)
  takes_middle_by b path false (Some rest) e h =
      cut b (first_piece path) rest path (split_at path ∙ ap (λ (o : Option (List ℕ)). first_piece path ++ ending o) h)
      (ap (λ x. cond x (b ∷ []) (b ∷ segment path)) e ∙ ap (λ (p : List ℕ). b ∷ p) (segment_is path ∙ ap (λ (o : Option (List ℕ)). first_piece path ++ closing o) h))
      (ap (λ x. cond x true (has_slash path)) e ∙ slash_is path ∙ ap is_some h)

  pub takes_middle : (path : List ℕ) → AreBytes path → seek 0 middle path ≡ if_piece (first_piece path) (further inner (behind path))
  unfolding seek
  takes_middle [] bytes = refl
  takes_middle (b ∷ path) bytes =
      ap (λ x. or_else (seek 0 (cond x ((47 ∷ s, k) ∷ cond x ((47 ∷ t, l) ∷ []) []) (cond x ((47 ∷ t, l) ∷ []) [])) path) (after path (param_step slashed (b ∷ path)))) bytes.0
      ∙ ap (λ o. or_else o (after path (param_step slashed (b ∷ path)))) (over_none 0 path)
      ∙ takes_middle_by b path (b == 47) (behind path) refl refl
