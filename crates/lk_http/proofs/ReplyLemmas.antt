-- The reason phrases of the statuses, and fronts of what is written piece by piece.
use Rattle.std.proofs.Common.{◌≡◌, ℕ, ◌+◌, ◌≤◌, Bool, true, false, List, [], ◌∷◌, ◌++◌, length, take, Some, Option, refl, sym, subst, ◌∙◌, arith, eqb-true, take_all, ⊎_elim, Result, Ok, Err}
use Rattle.std.proofs.lemmas.Bool.{cases_lt}
use Rattle.std.proofs.lemmas.Result.{on_err_weaker}
use Rattle.std.specs.Result.{OnErr}
use Rattle.std.specs.Prelude.{◌==◌, ◌||◌}
use Rattle.std.specs.Io.KnownBytes.{Appends}
use Rattle.std.specs.List.{list_any}
use Rattle.std.proofs.KnownBytes.{Appends-trans}
use Rattle.std.proofs.Math.Seq.{take-append_seam, take-append-add}
use Rattle.std.proofs.lemmas.List.{take-append-le}
use Rattle.http.specs.StatusCode.{reason_phrase}
use Rattle.lk_io.specs.Causes.{HasCause}
use Rattle.lk_io.specs.Streams.{AppendsFront}
use Rattle.lk_http.specs.Replies.{statuses, is_status, reason_of}
use Rattle.lk_http.proofs.ReadingLemmas.{rose_on}

-- what holds of each number of a list
abbrev Each : (ℕ → Type 0) → List ℕ → Type 0
Each P [] = Unit {0}
Each P (s ∷ rest) = P s × Each P rest

pick : (P : ℕ → Type 0) (status s : ℕ) (rest : List ℕ) → P s → (list_any (λ x. x == status) rest ≡ true → P status) → (same : Bool) → (s == status) ≡ same → (same || list_any (λ x. x == status) rest) ≡ true → P status
pick P status s rest here later true e h = subst P (eqb-true s status e) here
pick P status s rest here later false e h = later h

from_each : (P : ℕ → Type 0) (status : ℕ) (xs : List ℕ) → Each P xs → list_any (λ x. x == status) xs ≡ true → P status
from_each P status [] each h = cc
from_each P status (s ∷ rest) each h = pick P status s rest each.0 (from_each P status rest each.1) (s == status) refl h

-- the reason phrase of each status is the one of its definition
pub reason_is : (status : ℕ) → is_status status ≡ true → reason_phrase status ≡ Some (reason_of status)
reason_is status h = from_each (λ s. reason_phrase s ≡ Some (reason_of s)) status statuses (refl, (refl, (refl, (refl, (refl, (refl, (refl, (refl, (refl, (refl, (refl, tt))))))))))) h

-- a reason phrase has 31 bytes at most
pub reason_is_short : (status : ℕ) → is_status status ≡ true → length (reason_of status) ≤ 31
reason_is_short status h = from_each (λ s. length (reason_of s) ≤ 31) status statuses (omega arith, (omega arith, (omega arith, (omega arith, (omega arith, (omega arith, (omega arith, (omega arith, (omega arith, (omega arith, (omega arith, tt))))))))))) h

-- a front of the first bytes is a front of all
pub front_of_first : (a b : Option (List ℕ)) (xs ys : List ℕ) → AppendsFront a b xs → AppendsFront a b (xs ++ ys)
front_of_first a b xs ys (count, h) =
    ⊎_elim
    (λ l. (count, subst (Appends a b) (sym (take-append-le count xs ys (omega arith))) h))
    (λ l. (length xs, subst (Appends a b) (take_all count xs l ∙ sym (take-append_seam xs ys)) h))
    (cases_lt count (length xs))

-- all of the first bytes and a front of the others are a front of all
pub front_after_first : (a b c : Option (List ℕ)) (xs ys : List ℕ) → Appends a b xs → AppendsFront b c ys → AppendsFront a c (xs ++ ys)
front_after_first a b c xs ys h (count, k) =
    (length xs + count, subst (Appends a c) (sym (take-append-add xs ys count)) (Appends-trans a b c xs (take count ys) h k))

-- what holds anyway holds after an error
pub after_any : {T E : Type 0} (r : Result T E) {P : Type 0} → P → OnErr r P
after_any (Ok x) p = tt
after_any (Err e) p = p

-- a cause at a later step
pub cause_on : {T E : Type 0} (a b c : ℕ) (r : Result T E) → a ≤ b → HasCause b c r → HasCause a c r
cause_on a b c r later cause = record { later = omega (arith, later, cause.later); rose = on_err_weaker r (λ rose. rose_on a b c later rose) cause.rose }
