-- A walk over rows that begin with a word without a slash.
use Rattle.std.proofs.Common.{◌≡◌, ◌∙◌, ℕ, Bool, true, false, List, [], ◌∷◌, ◌++◌, refl, sym, ap, cond, Option, Some, None, eqb-true}
use Rattle.std.specs.Prelude.{⊤, ◌==◌, ◌&&◌}
use Rattle.std.proofs.lemmas.Bool.{false≢true}
use Rattle.lk_val.specs.Texts.{is_same_text}
use Rattle.matchit.specs.Rows.{RowsOf, catch_all_token, param_token}
use Rattle.matchit.specs.Seek.{own, seek, step}
use Rattle.lk_http.proofs.PieceLemmas.{behind, first_piece}
use Rattle.lk_http.proofs.SeekLemmas.{by_byte, over_none}

-- each byte stands for itself, and none is a slash
abbrev pub IsPlain : List ℕ → Type 0
IsPlain [] = ⊤
IsPlain (c ∷ w) = ((c == param_token) ≡ false) × ((c == catch_all_token) ≡ false) × ((c == 47) ≡ false) × IsPlain w

module _ {K : Type 0} where
  -- rows with these tokens before them
  abbrev pub under : List ℕ → RowsOf K → RowsOf K
  under w [] = []
  under w ((t, key) ∷ rows) = (w ++ t, key) ∷ under w rows

  under_nothing : (rows : RowsOf K) → under [] rows ≡ rows
  under_nothing [] = refl
  under_nothing ((t, key) ∷ rows) = ap (λ (rest : RowsOf K). (t, key) ∷ rest) (under_nothing rows)

  pub step_under : (b c : ℕ) (w : List ℕ) (rows : RowsOf K) → step b (under (c ∷ w) rows) ≡ cond (c == b) (under w rows) []
  step_under b c w [] = pick (c == b) where
    pick : (x : Bool) → (λ (r : RowsOf K). r) [] ≡ cond x [] []
    pick true = refl
    pick false = refl
  step_under b c w ((t, key) ∷ rows) = pick (c == b) (step b (under (c ∷ w) rows)) (step_under b c w rows) where
    pick : (x : Bool) (rest : RowsOf K) → rest ≡ cond x (under w rows) [] → cond x ((w ++ t, key) ∷ rest) rest ≡ cond x ((w ++ t, key) ∷ under w rows) []
    pick true rest is = ap (λ (r : RowsOf K). (w ++ t, key) ∷ r) is
    pick false rest is = is

  pub own_under : (c : ℕ) (w : List ℕ) (rows : RowsOf K) → own (under (c ∷ w) rows) ≡ None
  own_under c w [] = refl
  own_under c w ((t, key) ∷ rows) = own_under c w rows

  -- rows, and what comes of them where a path's first piece is empty, by what is behind it
  module _ (rows : RowsOf K) (then : Option (List ℕ) → Option K)
      (is : (path : List ℕ) → seek 0 rows path ≡ cond (is_same_text [] (first_piece path)) (then (behind path)) None) where
    pub after_word : (w : List ℕ) → IsPlain w → (path : List ℕ)
        → seek 0 (under w rows) path ≡ cond (is_same_text w (first_piece path)) (then (behind path)) None
    unfolding seek
    after_word [] plain path = ap (λ (r : RowsOf K). seek 0 r path) (under_nothing rows) ∙ is path
    after_word (c ∷ w) plain [] = own_under c w rows
    after_word (c ∷ w) plain (b ∷ path) =
        by_byte (under (c ∷ w) rows) b path
        (step_under param_token c w rows ∙ ap (λ x. cond x (under w rows) []) plain.0)
        (step_under catch_all_token c w rows ∙ ap (λ x. cond x (under w rows) []) plain.1)
        ∙ ap (λ (r : RowsOf K). seek 0 r path) (step_under b c w rows)
        ∙ pick (after_word w plain.3 path) (c == b) (b == 47) refl refl
        ∙ ap (λ x. cond x (then (cond (b == 47) (Some path) (behind path))) None) (sym (same (b == 47)))
      where
        same : (slash : Bool) → is_same_text (c ∷ w) (cond slash [] (b ∷ first_piece path)) ≡ cond slash false ((c == b) && is_same_text w (first_piece path))
        same true = refl
        same false = refl

        pick : seek 0 (under w rows) path ≡ cond (is_same_text w (first_piece path)) (then (behind path)) None
            → (x slash : Bool) → (c == b) ≡ x → (b == 47) ≡ slash
            → seek 0 (cond x (under w rows) []) path
            ≡ cond (cond slash false (x && is_same_text w (first_piece path))) (then (cond slash (Some path) (behind path))) None
        pick more true true e s = absurd (false≢true (sym plain.2 ∙ ap (λ n. n == 47) (eqb-true c b e) ∙ s))
        pick more true false e s = more
        pick more false true e s = over_none 0 path
        pick more false false e s = over_none 0 path

  -- ---- at the end of a path, and before a slash

  abbrev pub at_end : K → Option (List ℕ) → Option K
  at_end key None = Some key
  at_end key (Some path) = None

  pub ends_path : (key : K) (path : List ℕ) → seek 0 (([], key) ∷ []) path ≡ cond (is_same_text [] (first_piece path)) (at_end key (behind path)) None
  unfolding seek
  ends_path key [] = refl
  ends_path key (b ∷ path) = by_byte (([], key) ∷ []) b path refl refl ∙ over_none 0 path ∙ pick (b == 47) where
    pick : (slash : Bool) → None ≡ cond (is_same_text [] (cond slash [] (b ∷ first_piece path))) (at_end key (cond slash (Some path) (behind path))) None
    pick true = refl
    pick false = refl

  abbrev pub further : RowsOf K → Option (List ℕ) → Option K
  further rows None = None
  further rows (Some path) = seek 0 rows path

  pub before_slash : (rows : RowsOf K) (path : List ℕ) → seek 0 (under (47 ∷ []) rows) path ≡ cond (is_same_text [] (first_piece path)) (further rows (behind path)) None
  unfolding seek
  before_slash rows [] = own_under 47 [] rows
  before_slash rows (b ∷ path) =
      by_byte (under (47 ∷ []) rows) b path (step_under param_token 47 [] rows) (step_under catch_all_token 47 [] rows)
      ∙ ap (λ (r : RowsOf K). seek 0 r path) (step_under b 47 [] rows)
      ∙ pick (47 == b) (b == 47) refl refl
    where
      pick : (x slash : Bool) → (47 == b) ≡ x → (b == 47) ≡ slash
          → seek 0 (cond x (under [] rows) []) path ≡ cond (is_same_text [] (cond slash [] (b ∷ first_piece path))) (further rows (cond slash (Some path) (behind path))) None
      pick true true e s = ap (λ (r : RowsOf K). seek 0 r path) (under_nothing rows)
      pick true false e s = absurd (false≢true (sym s ∙ ap (λ n. n == 47) (sym (eqb-true 47 b e))))
      pick false true e s = absurd (false≢true (sym e ∙ ap (λ n. 47 == n) (eqb-true b 47 s)))
      pick false false e s = over_none 0 path
