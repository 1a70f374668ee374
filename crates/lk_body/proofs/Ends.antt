-- What `strip_suffix` leaves of a text.
use Rattle.std.proofs.Common.{◌≡◌, ◌∙◌, ℕ, ◌-◌, ◌≤◌, true, false, List, length, take, Option, Some, None, Bor, MatchOption, option_map, ap, sym, subst, arith}
use Rattle.std.proofs.lemmas.Str.Pattern.{ends_text}
use Rattle.std.specs.Prelude.{if◌then◌else◌}
use Rattle.std.specs.Str.{IsCharBoundary}
use Rattle.std.specs.Str.Pattern.{FindsTextSuffix, StripsSuffix}
use Rattle.lk_body.specs.Sorts.{before_end}

pub stripped : (end text : List ℕ) (r : Option (Bor (List ℕ))) → MatchOption r (FindsTextSuffix end text None) (λ x. StripsSuffix (FindsTextSuffix end) text x.now)
    → option_map (λ name. name.now) r ≡ before_end end text
stripped end text None h = ap (λ b. if b then Some (take (length text - length end) text) else None) (ends_text false end text h)
stripped end text (Some x) h =
    let within : h.0 ≤ length text = omega (arith, h.3) in
    let cut = subst (λ k. IsCharBoundary text (length text - k)) (sym h.1.0) h.1.2 in
    ap Some (h.2 ∙ ap (λ k. take (length text - k) text) h.1.0)
    ∙ ap (λ b. if b then Some (take (length text - length end) text) else None) (ends_text true end text (h.0, h.1, within, cut))
