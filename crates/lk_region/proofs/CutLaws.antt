-- Bytes that are cut into texts: where each text stands, and one text more.
use Rattle.std.proofs.Common.{◌≡◌, ◌<◌, ◌≤◌, ◌+◌, ◌-◌, ◌++◌, ◌∷◌, [], ℕ, zero, suc, List, length, take, drop, refl, sym, ap, arith, ◌∙◌, get_or, ap₂, take_all, length-append, le_refl}
use Rattle.std.proofs.lemmas.List.{take-append-le, drop-append-le, drop_at, length-drop, get_or_default}
use Rattle.std.specs.List.{slice_range}
use Rattle.lk_region.specs.Cuts.{cut, IsCut}

pub cut_length : (start : ℕ) (ends bytes : List ℕ) → length (cut start ends bytes) ≡ length ends
cut_length start [] bytes = refl
cut_length start (end ∷ ends) bytes = ap suc (cut_length end ends bytes)

-- a text begins where the one before it ends
cut_at : (start : ℕ) (ends bytes : List ℕ) (i : ℕ) → i < length ends
    → get_or (cut start ends bytes) i [] ≡ slice_range bytes (get_or (start ∷ ends) i 0) (get_or ends i 0)
cut_at start [] bytes i within = absurd (omega arith)
cut_at start (end ∷ ends) bytes zero within = refl
cut_at start (end ∷ ends) bytes (suc i) within = cut_at end ends bytes i (omega arith)

ordered : (start : ℕ) (ends : List ℕ) (size i : ℕ) → IsCut start ends size → i < length ends
    → get_or (start ∷ ends) i 0 ≤ get_or ends i 0
ordered start [] size i is_cut within = absurd (omega arith)
ordered start (end ∷ ends) size zero is_cut within = is_cut.0
ordered start (end ∷ ends) size (suc i) is_cut within = ordered end ends size i is_cut.1 (omega arith)

start_within : (start : ℕ) (ends : List ℕ) (size : ℕ) → IsCut start ends size → start ≤ size
start_within start [] size is_cut = omega (arith, is_cut)
start_within start (end ∷ ends) size is_cut =
    let here = is_cut.0 in
    let rest = start_within end ends size is_cut.1 in
    omega (arith, here, rest)

within : (start : ℕ) (ends : List ℕ) (size i : ℕ) → IsCut start ends size → i < length ends → get_or ends i 0 ≤ size
within start [] size i is_cut below = absurd (omega arith)
within start (end ∷ ends) size zero is_cut below = start_within end ends size is_cut.1
within start (end ∷ ends) size (suc i) is_cut below = within end ends size i is_cut.1 (omega arith)

pub in_ends : (ends bytes : List ℕ) (i : ℕ) → i < length (cut 0 ends bytes) → i < length ends
in_ends ends bytes i below = rw (sym (cut_length 0 ends bytes)) below

-- where a text stands: from the end of the one before it, the first from 0
module _ (ends bytes : List ℕ) (texts : List (List ℕ)) (view : cut 0 ends bytes ≡ texts)
    (is_cut : IsCut 0 ends (length bytes)) (i start end : ℕ) (below : i < length texts)
    (starts : start ≡ get_or (0 ∷ ends) i 0) (stops : end ≡ get_or ends i end) where
  inside : i < length ends
  inside = in_ends ends bytes i (rw view below)

  stop : end ≡ get_or ends i 0
  stop = stops ∙ get_or_default ends i end 0 inside

  pub part_ordered : start ≤ end
  part_ordered = rw (starts, stop) (ordered 0 ends (length bytes) i is_cut inside)

  pub part_within : end ≤ length bytes
  part_within = rw stop (within 0 ends (length bytes) i is_cut inside)

  pub part_text : slice_range bytes start end ≡ get_or texts i []
  part_text = rw (starts, stop, sym view) (sym (cut_at 0 ends bytes i inside))

-- ---- one text more

slice_kept : (bytes more : List ℕ) (start end : ℕ) → start ≤ end → end ≤ length bytes
    → slice_range (bytes ++ more) start end ≡ slice_range bytes start end
slice_kept bytes more start end ahead inside =
    let rest : end - start ≤ length (drop start bytes) = rw (length-drop start bytes) (omega arith) in
    ap (take (end - start)) (drop-append-le start bytes more (omega arith))
    ∙ take-append-le (end - start) (drop start bytes) more rest

slice_added : (bytes more : List ℕ) → slice_range (bytes ++ more) (length bytes) (length bytes + length more) ≡ more
slice_added bytes more =
    let size : length more ≡ length bytes + length more - length bytes = omega arith in
    ap (take (length bytes + length more - length bytes)) (drop_at bytes more (length bytes) refl)
    ∙ sym (ap (λ n. take n more) size) ∙ take_all (length more) more (le_refl _)

cut_added_from : (start : ℕ) (ends bytes more : List ℕ) → IsCut start ends (length bytes)
    → cut start (ends ++ (length bytes + length more) ∷ []) (bytes ++ more) ≡ cut start ends bytes ++ more ∷ []
cut_added_from start [] bytes more is_cut =
    ap (λ at. slice_range (bytes ++ more) at (length bytes + length more) ∷ []) is_cut
    ∙ ap (λ text. text ∷ []) (slice_added bytes more)
cut_added_from start (end ∷ ends) bytes more is_cut =
    ap₂ (λ text texts. text ∷ texts)
    (slice_kept bytes more start end is_cut.0 (start_within end ends (length bytes) is_cut.1))
    (cut_added_from end ends bytes more is_cut.1)

added_cut_from : (start : ℕ) (ends : List ℕ) (size more : ℕ) → IsCut start ends size
    → IsCut start (ends ++ (size + more) ∷ []) (size + more)
added_cut_from start [] size more is_cut = (omega (arith, is_cut), refl)
added_cut_from start (end ∷ ends) size more is_cut = (is_cut.0, added_cut_from end ends size more is_cut.1)

pub cut_added : (ends bytes more : List ℕ) → IsCut 0 ends (length bytes)
    → cut 0 (ends ++ length (bytes ++ more) ∷ []) (bytes ++ more) ≡ cut 0 ends bytes ++ more ∷ []
cut_added ends bytes more is_cut = rw (length-append bytes more) (cut_added_from 0 ends bytes more is_cut)

pub added_cut : (ends bytes more : List ℕ) → IsCut 0 ends (length bytes)
    → IsCut 0 (ends ++ length (bytes ++ more) ∷ []) (length (bytes ++ more))
added_cut ends bytes more is_cut = rw (length-append bytes more) (added_cut_from 0 ends (length bytes) (length more) is_cut)

-- ---- the same of a buffer with a text more behind it

module _ (ends bytes more : List ℕ) (texts : List (List ℕ)) (view : cut 0 ends bytes ≡ texts)
    (is_cut : IsCut 0 ends (length bytes)) (ends_after bytes_after : List ℕ) (size : ℕ)
    (bytes_grow : bytes_after ≡ bytes ++ more) (sized : size ≡ length bytes_after)
    (ends_grow : ends_after ≡ ends ++ size ∷ []) where
  pub push_text : cut 0 ends_after bytes_after ≡ texts ++ more ∷ []
  push_text = rw (ends_grow, sized, bytes_grow, sym view) (cut_added ends bytes more is_cut)

  pub push_cut : IsCut 0 ends_after (length bytes_after)
  push_cut = rw (ends_grow, sized, bytes_grow) (added_cut ends bytes more is_cut)
