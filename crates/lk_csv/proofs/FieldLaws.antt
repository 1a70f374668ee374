-- The field at a place, and the fields from that place on.
use Rattle.std.proofs.Common.{◌≡◌, ◌+◌, ◌∷◌, [], ℕ, List, Some, None, zero, suc, drop, refl, add-one}
use Rattle.csv.specs.Records.{field_at}

field-next : (fields : List (List ℕ)) (i : ℕ) (field : List ℕ) → field_at fields i ≡ Some field → drop i fields ≡ field ∷ drop (suc i) fields
unfolding field_at
field-next [] i field e = cc e
field-next (x ∷ xs) zero field e = cc e
field-next (x ∷ xs) (suc i) field e = field-next xs i field e

pub field-first : (fields : List (List ℕ)) (i : ℕ) (field : List ℕ) → field_at fields i ≡ Some field → drop i fields ≡ field ∷ drop (i + 1) fields
field-first fields i field e = rw add-one (field-next fields i field e)

pub no-field : (fields : List (List ℕ)) (i : ℕ) → field_at fields i ≡ None → drop i fields ≡ []
unfolding field_at
no-field [] zero e = refl
no-field [] (suc i) e = refl
no-field (x ∷ xs) zero e = cc e
no-field (x ∷ xs) (suc i) e = no-field xs i e
