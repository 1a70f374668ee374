-- Beginnings of lists, and of chains.
use Rattle.std.proofs.Common.{◌∙◌, ◌≤◌, ◌++◌, ℕ, zero, suc, List, [], ◌∷◌, length, sym, ap, subst, arith, append_assoc, length-append}
use Rattle.std.proofs.lemmas.List.{append-nil}
use mathlib.Core.List.{IsPrefix}
use Rattle.lk_front.specs.Chains.{Follow, IsChain}
use Rattle.lk_http.specs.Ways.{After, Comes}

pub begins_itself : {A : Type 0} (xs : List A) → IsPrefix xs xs
begins_itself xs = ([], append-nil xs)

pub begins_along : {A : Type 0} (xs ys zs : List A) → IsPrefix xs ys → IsPrefix ys zs → IsPrefix xs zs
begins_along xs ys zs p q = (p.0 ++ q.0, sym (append_assoc xs p.0 q.0) ∙ (ap (λ list. list ++ q.0) p.1 ∙ q.1))

pub begins_shorter : {A : Type 0} (xs ys : List A) → IsPrefix xs ys → length xs ≤ length ys
begins_shorter xs ys p = omega (arith, sym (ap length p.1) ∙ length-append xs p.0)

module _ {T : Type 0} (begins : T → Type 0) (follows : T → T → Type 0) where
  follow_front : (value : T) (xs rest : List T) → Follow begins follows value (xs ++ rest) → Follow begins follows value xs
  follow_front value [] rest follow = tt
  follow_front value (x ∷ xs) rest follow = (follow.0, follow_front x xs rest follow.1)

  chain_front : (xs rest : List T) → IsChain begins follows (xs ++ rest) → IsChain begins follows xs
  chain_front [] rest chain = tt
  chain_front (x ∷ xs) rest chain = (chain.0, follow_front x xs rest chain.1)

  pub chain_begins : (xs ys : List T) → IsChain begins follows ys → IsPrefix xs ys → IsChain begins follows xs
  chain_begins xs ys chain p = chain_front xs p.0 (subst (IsChain begins follows) (sym p.1) chain)

-- ---- steps by which a list only grows

module _ {S A : Type 0} (seen : S → List A) where
  after_grown : (count : ℕ) (a b : S) → After (λ x y. IsPrefix (seen x) (seen y)) count a b → IsPrefix (seen a) (seen b)
  after_grown zero a b same = subst (λ k. IsPrefix (seen a) (seen k)) (sym same) (begins_itself (seen a))
  after_grown (suc count) a b (m, before, last) = begins_along (seen a) (seen m) (seen b) (after_grown count a m before) last

  pub grown_along : (a b : S) → Comes (λ x y. IsPrefix (seen x) (seen y)) a b → IsPrefix (seen a) (seen b)
  grown_along a b (count, way) = after_grown count a b way
