use Rattle.std.proofs.Common.{◌≡◌, ℕ, true, false, List, [], ◌∷◌, ◌++◌, refl, sym, ap, ◌∙◌}
use Rattle.lk_read.specs.Bytes.{is_space}
use Rattle.lk_read.specs.Grammar.{without_end, with_front}
use Rattle.lk_read.proofs.trim.without_end.Goals as goal

drops : (text : List ℕ) (b : ℕ) → is_space b ≡ true → without_end (text ++ b ∷ []) ≡ without_end text
drops [] b h = rw h
drops (c ∷ text) b h = ap (with_front c) (drops text b h)

with_front_of : (c : ℕ) (text : List ℕ) (b : ℕ) → with_front c (text ++ b ∷ []) ≡ c ∷ (text ++ b ∷ [])
with_front_of c [] b = refl
with_front_of c (d ∷ text) b = refl

keeps : (text : List ℕ) (b : ℕ) → is_space b ≡ false → without_end (text ++ b ∷ []) ≡ text ++ b ∷ []
keeps [] b h = rw h
keeps (c ∷ text) b h = ap (with_front c) (keeps text b h) ∙ with_front_of c text b

pub returns-then-not-is_space : goal.returns-then-not-is_space
returns-then-not-is_space c =
    let split = c.in-Some.ensures.cases.0 in
    split ∙ sym (keeps c.in-Some.before.now c.in-Some.last.now (sym c.is_space.ensures ∙ c.if-not-is_space.true))
    ∙ sym (ap without_end split) ∙ c.loop-last.invariant

pub loop-last-preserved : goal.loop-last-preserved
loop-last-preserved c =
    let split = c.in-Some.ensures.cases.0 in
    sym (drops c.in-Some.before.now c.in-Some.last.now (sym c.is_space.ensures ∙ c.if-not-is_space.false))
    ∙ sym (ap without_end split) ∙ c.loop-last.invariant
