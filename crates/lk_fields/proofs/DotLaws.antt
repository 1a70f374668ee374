-- A name with and without a dot.
use Rattle.std.proofs.Common.{◌≡◌, ◌∙◌, ℕ, ◌<◌, ◌≤◌, Bool, List, length, Option, Some, None, sym, ap, arith}
use Rattle.std.specs.Prelude.{if◌then◌else◌}
use Rattle.std.specs.List.{after_first, before_first, position_or_len}
use Rattle.std.proofs.lemmas.Bool.{lt-ltb, le-ltb}
use Rattle.lk_fields.specs.Scopes.{is_dot, split_name}

abbrev split_by : List ℕ → Bool → Option (List ℕ) × List ℕ
split_by whole dot = if dot then (Some (before_first is_dot whole), after_first is_dot whole) else (None, whole)

pub without_dot : (whole : List ℕ) → position_or_len is_dot whole ≡ length whole → (None, whole) ≡ split_name whole
without_dot whole at_end =
    let past : length whole ≤ position_or_len is_dot whole = omega (arith, at_end) in
    sym (ap (split_by whole) (le-ltb (position_or_len is_dot whole) (length whole) past))

pub with_dot : (whole view name : List ℕ) → view ≡ before_first is_dot whole → name ≡ after_first is_dot whole
    → position_or_len is_dot whole < length whole → (Some view, name) ≡ split_name whole
with_dot whole view name v n within =
    ap (λ t. (Some t, name)) v ∙ ap (λ t. (Some (before_first is_dot whole), t)) n
    ∙ sym (ap (split_by whole) (lt-ltb (position_or_len is_dot whole) (length whole) within))
