-- Two beginnings of one list.
use Rattle.std.proofs.Common.{◌≡◌, ◌≤◌, List, [], ◌∷◌, ◌++◌, length, refl, arith}
use mathlib.Core.List.{IsPrefix}

-- where both go on to the same list, the one that is no longer begins the other
pub shorter_begins : {A : Type 0} (short long more rest : List A) → short ++ more ≡ long ++ rest → length short ≤ length long → IsPrefix short long
shorter_begins [] long more rest same less = (long, refl)
shorter_begins (a ∷ short) [] more rest same less = absurd (omega arith)
shorter_begins (a ∷ short) (b ∷ long) more rest same less =
    let deeper = shorter_begins short long more rest (cc (same)) (omega arith) in
    (deeper.0, cc (same, deeper.1))
