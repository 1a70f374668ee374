-- What a walk over rows comes to: over no rows, over rows that go on with one byte, and over a parameter.
use Rattle.std.proofs.Common.{◌≡◌, ◌∙◌, ℕ, zero, suc, ◌+◌, ◌<◌, Bool, true, false, List, [], ◌∷◌, ◌++◌, length, refl, sym, ap, arith, cond, Option, Some, None, eqb-true}
use Rattle.std.specs.Prelude.{◌==◌, ◌-◌, map, nat_eq}
use Rattle.std.specs.Option.{option_and_then}
use Rattle.std.proofs.lemmas.Bool.{false≢true, ne_eqb}
use Rattle.matchit.specs.Rows.{RowsOf, param_token, catch_all_token}
use Rattle.matchit.specs.Seek.{has_slash, longest_suffix, or_else, own, param_step, seek, segment, step, with_suffix}

module _ {K : Type 0} where
  -- ---- no rows

  abbrev pub no_rows : RowsOf K
  no_rows = []

  no_param : (path : List ℕ) → (param_step no_rows path).1 ≡ []
  unfolding param_step
  no_param path = pick (has_slash path) where
    pick : (b : Bool) → (cond {A = ℕ × RowsOf K} b (0, []) (length path, [])).1 ≡ []
    pick true = refl
    pick false = refl

  pub over_none : (skip : ℕ) (path : List ℕ) → seek skip no_rows path ≡ None
  unfolding seek
  over_none skip [] = refl
  over_none (suc skip) (b ∷ path) = over_none skip path
  over_none zero (b ∷ path) =
      ap (λ o. or_else o (or_else (seek ((param_step no_rows (b ∷ path)).0 - 1) (param_step no_rows (b ∷ path)).1 path) None)) (over_none 0 path)
      ∙ ap (λ (rs : RowsOf K). or_else (seek ((param_step no_rows (b ∷ path)).0 - 1) rs path) None) (no_param (b ∷ path))
      ∙ ap (λ o. or_else o None) (over_none ((param_step no_rows (b ∷ path)).0 - 1) path)

  else_none : (o : Option K) → or_else o None ≡ o
  else_none None = refl
  else_none (Some k) = refl

  -- ---- rows without a parameter here

  pub by_byte : (rs : RowsOf K) (b : ℕ) (path : List ℕ) → step param_token rs ≡ [] → step catch_all_token rs ≡ []
      → seek 0 rs (b ∷ path) ≡ seek 0 (step b rs) path
  unfolding seek
  by_byte rs b path no_parameter no_catch =
      let here = seek 0 (step b rs) path in
      ap (λ (ps : RowsOf K). or_else here (or_else (seek ((param_step ps (b ∷ path)).0 - 1) (param_step ps (b ∷ path)).1 path) (own (step catch_all_token rs)))) no_parameter
      ∙ ap (λ (cs : RowsOf K). or_else here (or_else (seek ((param_step no_rows (b ∷ path)).0 - 1) (param_step no_rows (b ∷ path)).1 path) (own cs))) no_catch
      ∙ ap (λ (ps : RowsOf K). or_else here (or_else (seek ((param_step no_rows (b ∷ path)).0 - 1) ps path) None)) (no_param (b ∷ path))
      ∙ ap (λ o. or_else here (or_else o None)) (over_none ((param_step no_rows (b ∷ path)).0 - 1) path)
      ∙ else_none here

  -- ---- skipping

  pub skips_all : (rs : RowsOf K) (path : List ℕ) → seek (length path) rs path ≡ own rs
  unfolding seek
  skips_all rs [] = refl
  skips_all rs (b ∷ path) = skips_all rs path

  pub skips_front : (rs : RowsOf K) (front path : List ℕ) → seek (length front) rs (front ++ path) ≡ seek 0 rs path
  unfolding seek
  skips_front rs [] path = refl
  skips_front rs (b ∷ front) path = skips_front rs front path
