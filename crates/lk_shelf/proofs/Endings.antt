-- A list ends in one value. For those who publish: what they know of the last value holds of each that the list ends in.
use Rattle.std.proofs.Common.{◌≡◌, List, [], ◌∷◌, ◌++◌, length, refl, sym, ◌∙◌, ap, arith, length-append}
use Rattle.lk_front.specs.Chains.{EndsIn}

-- two ways to write one list with its last value apart have the same one
same_last : {A : Type 0} (front others : List A) (last other : A) → front ++ last ∷ [] ≡ others ++ other ∷ [] → last ≡ other
same_last [] [] last other same = cc (same)
same_last [] (b ∷ others) last other same = absurd (omega (arith, ap length same, length-append others (other ∷ [])))
same_last (a ∷ front) [] last other same = absurd (omega (arith, ap length same, length-append front (last ∷ [])))
same_last (a ∷ front) (b ∷ others) last other same = same_last front others last other (cc (same))

pub ends_in_one : {A : Type 0} (values : List A) (last other : A) → EndsIn values last → EndsIn values other → last ≡ other
ends_in_one values last other this that = same_last this.0 that.0 last other (sym this.1 ∙ that.1)

-- a list with a value put behind ends in that one
pub ends_in_next : {A : Type 0} (values : List A) (next last : A) → EndsIn (values ++ next ∷ []) last → last ≡ next
ends_in_next values next last ends = ends_in_one (values ++ next ∷ []) last next ends (values, refl)
