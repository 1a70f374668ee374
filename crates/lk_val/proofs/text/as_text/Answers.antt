use Rattle.std.proofs.Common.{◌≡◌, Bool, true, false, cond, refl, sym, ap, ◌∙◌, List, ℕ}
use Rattle.std.specs.Prelude.{Some, None, IsUtf8}
use Rattle.std.specs.Str.{is_utf8}
use Rattle.std.proofs.lemmas.Str.{is_utf8-from_IsUtf8, IsUtf8-from_is_utf8}
use Rattle.lk_val.proofs.text.as_text.Goals as goal

-- bytes that are no text fail the test
not_text : (bytes : List ℕ) → (IsUtf8 bytes → ⊥) → is_utf8 bytes ≡ false
not_text bytes refused = from (is_utf8 bytes) (λ yes. refused (IsUtf8-from_is_utf8 bytes yes))
  where
    from : (b : Bool) → (b ≡ true → ⊥) → b ≡ false
    from true f = absurd (f refl)
    from false f = refl

pub returns-in-Ok : goal.returns-in-Ok
returns-in-Ok c =
    let bytes = c.args.bytes.now in
    ap Some c.in-Ok.ensures.cases.0 ∙ sym (ap (λ b. cond b (Some bytes) None) (is_utf8-from_IsUtf8 bytes c.in-Ok.ensures.cases.1))

pub returns-in-Err : goal.returns-in-Err
returns-in-Err c =
    let bytes = c.args.bytes.now in
    sym (ap (λ b. cond b (Some bytes) None) (not_text bytes c.in-Err.ensures.cases.0))
