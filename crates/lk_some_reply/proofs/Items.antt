-- The bytes of a connection have a next item: their first bytes decide a head, or all of them leave it open.
use Rattle.std.proofs.Common.{◌≡◌, ◌∙◌, ◌⊎◌, inl, inr, ℕ, zero, suc, ◌+◌, ◌<◌, ◌≤◌, Bool, true, false, List, [], ◌∷◌, length, take, drop, refl, sym, ap, subst, append-nil, arith, length-append}
use Rattle.std.proofs.lemmas.Bool.{cases_lt}
use Rattle.std.proofs.lemmas.List.{length-take-le, take-take}
use Rattle.std.proofs.Math.Seq.{take-append_seam}
use Rattle.httparse.specs.Grammar.{HasNoRequest, ReadsRequest, RequestHead, print_request}
use Rattle.lk_http.specs.Heads.{AreOpenBefore, Decides, IsOpen, bad, is_over, over, whole}
use Rattle.lk_http.specs.Items.{IsNext, after, at_end}
use Rattle.lk_complete_laws.specs.Holding.{HoldsOfSome}
use Rattle.lk_complete_laws.proofs.NotNot.{Found, NotNot, and_then, excluded, of_found, so_is, there_is}

-- ---- the first bytes that are not open

-- before these bytes all are open, and these are not
record IsFirstDecided (bytes : List ℕ) (most count : ℕ) : Type 0 where
  within : count < most
  before : AreOpenBefore count bytes
  none : IsOpen (take count bytes) → ⊥

-- all of so many are open, or there are first ones that are not
abbrev OpenOrFirst : List ℕ → ℕ → Type 0
OpenOrFirst bytes most = AreOpenBefore most bytes ⊎ Found (IsFirstDecided bytes most)

module _ (bytes : List ℕ) (most : ℕ) where
  one_more : AreOpenBefore most bytes → IsOpen (take most bytes) → AreOpenBefore (suc most) bytes
  one_more before here n low =
      elim (cases_lt n most) [
        | inl below ↦ before n below
        | inr up ↦
            let same : most ≡ n = omega (arith, low, up) in
            subst (λ m. IsOpen (take m bytes)) same here
      ]

  later : Found (IsFirstDecided bytes most) → Found (IsFirstDecided bytes (suc most))
  later f = record { thing = f.thing; holds = record { within = omega (arith, f.holds.within); before = f.holds.before; none = f.holds.none } }

  goes_on : AreOpenBefore most bytes → IsOpen (take most bytes) ⊎ (IsOpen (take most bytes) → ⊥) → OpenOrFirst bytes (suc most)
  goes_on before (inl here) = inl (one_more before here)
  goes_on before (inr none) = inr (record { thing = most; holds = record { within = omega arith; before = before; none = none } })

  next : OpenOrFirst bytes most → NotNot (OpenOrFirst bytes (suc most))
  next (inl before) = so_is (excluded (IsOpen (take most bytes))) (goes_on before)
  next (inr f) = there_is {A = OpenOrFirst bytes (suc most)} (inr (later f))

none_before : (bytes : List ℕ) → AreOpenBefore zero bytes
none_before bytes n low = absurd (omega (arith, low))

open_or_first : (bytes : List ℕ) (most : ℕ) → NotNot (OpenOrFirst bytes most)
open_or_first bytes zero = there_is {A = OpenOrFirst bytes zero} (inl (none_before bytes))
open_or_first bytes (suc most) = and_then (open_or_first bytes most) (next bytes most)

-- ---- what is not open is decided

-- a head that bytes have at their front ends with them, where fewer of them have none
module _ (bytes : List ℕ) (count : ℕ) (within : count ≤ length bytes) (before : AreOpenBefore count bytes) where
  shorter_none : (h : RequestHead) (rest : List ℕ) → ReadsRequest (take count bytes) h rest → length (print_request h) < count → ⊥
  shorter_none h rest reads low =
      let front : take (length (print_request h)) (take count bytes) ≡ print_request h = ap (take (length (print_request h))) reads.1 ∙ take-append_seam (print_request h) rest in
      let short : take (length (print_request h)) bytes ≡ print_request h = sym (take-take (length (print_request h)) count bytes (omega (arith, low))) ∙ front in
      (before (length (print_request h)) low).none h [] (reads.0, short ∙ sym (append-nil (print_request h)))

  no_rest : (h : RequestHead) (rest : List ℕ) → ReadsRequest (take count bytes) h rest → ReadsRequest (take count bytes) h []
  no_rest h [] reads = reads
  no_rest h (b ∷ rest) reads =
      absurd (shorter_none h (b ∷ rest) reads
      (omega (arith, ap length reads.1, length-append (print_request h) (b ∷ rest), length-take-le count bytes within)))

  -- a head comes first, or none
  with_head : (HasNoRequest (take count bytes) → ⊥) → NotNot (Found (Decides (take count bytes)))
  with_head some none = some (λ h rest reads. none (record { thing = whole h; holds = no_rest h rest reads }))

  by_limit : HasNoRequest (take count bytes) → (IsOpen (take count bytes) → ⊥) → (b : Bool) → is_over (take count bytes) ≡ b → Found (Decides (take count bytes))
  by_limit no_head closed true is = record { thing = over; holds = (no_head, is) }
  by_limit no_head closed false is = record { thing = bad; holds = (no_head, is, λ may. closed (record { none = no_head; fits = is; may = may })) }

  decided : (IsOpen (take count bytes) → ⊥) → NotNot (Found (Decides (take count bytes)))
  decided closed =
      and_then (excluded (HasNoRequest (take count bytes))) (λ c.
      elim c [
        | inl no_head ↦ there_is (by_limit no_head closed (is_over (take count bytes)) refl)
        | inr some ↦ with_head some
      ])

-- ---- the next item

decided_step : (bytes : List ℕ) (f : Found (IsFirstDecided bytes (length bytes + 1))) (d : Found (Decides (take f.thing bytes))) → Found (IsNext bytes)
decided_step bytes f d = record {
  thing = after d.thing (drop f.thing bytes);
  holds = inl (f.thing, d.thing, record { within = omega (arith, f.holds.within); decides = d.holds; first = f.holds.before }, refl);
}

step_of : (bytes : List ℕ) → OpenOrFirst bytes (length bytes + 1) → NotNot (Found (IsNext bytes))
step_of bytes (inl before) = there_is {A = Found (IsNext bytes)} (record { thing = at_end bytes; holds = inr (before, refl) })
step_of bytes (inr f) =
    so_is (decided bytes f.thing (omega (arith, f.holds.within)) f.holds.before f.holds.none) (decided_step bytes f)

pub some_next : (bytes : List ℕ) → HoldsOfSome (IsNext bytes)
some_next bytes = of_found (and_then (open_or_first bytes (length bytes + 1)) (step_of bytes))
