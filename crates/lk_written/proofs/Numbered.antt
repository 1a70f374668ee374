-- Trees one after another, whose names are numbered from the left through all of them.
use Rattle.std.proofs.Common.{◌≡◌, ℕ, suc, ◌+◌, ◌-◌, ◌<◌, List, [], ◌∷◌, ◌++◌, length, refl, sym, ap, ◌∙◌, arith, length-append, append_assoc}
use Rattle.std.specs.Prelude.{reverse}
use Rattle.std.proofs.lemmas.List.{append-nil, reverse-append, reverse-reverse, length-reverse}
use Rattle.lk_postfix.specs.Postfix.{gathered}
use Rattle.lk_expr_tree.specs.Grammar.{Tree, Args, one, more, Branches, when, then_when}
use Rattle.lk_expr_tree.specs.RawNodes.{args_back, branches_back, args_among, branches_among}
use Rattle.lk_expr_tree.proofs.GatheredLaws.{args_among-gathered, branches_among-gathered}
use Rattle.lk_objects.specs.declared.code.Reference.{Reference}
use Rattle.lk_written.specs.References.{references_of, references_in, references_among, count, count_in, count_among}

pub references_assoc : (a b c : List Reference) → (a ++ b) ++ c ≡ a ++ (b ++ c)
references_assoc a b c = append_assoc a b c

pub references_left : (a : List Reference) → [] ++ a ≡ a
references_left a = refl

pub references_right : (a : List Reference) → a ++ [] ≡ a
references_right a = append-nil a

-- the names of some trees, from the left
abbrev pub all_references : List Tree → List Reference
all_references ts = gathered ◌++◌ [] references_of ts

abbrev pub total : List Tree → ℕ
total ts = length (all_references ts)

pub args_references : (ts : List Tree) → references_in (args_among ts) ≡ all_references ts
args_references ts = args_among-gathered ◌++◌ [] references_assoc references_left references_right references_of refl references_in (λ a. refl) (λ args a. refl) ts

pub branches_references : (ts : List Tree) → references_among (branches_among ts) ≡ all_references ts
branches_references ts = branches_among-gathered ◌++◌ [] references_assoc references_left references_right references_of refl references_among (λ c a. refl) (λ bs c a. refl) ts

back_args : (rs : List Tree) → references_in (args_back rs) ≡ all_references (reverse rs)
back_args rs = ap (λ xs. references_in (args_back xs)) (sym (reverse-reverse rs)) ∙ args_references (reverse rs)

back_branches : (rs : List Tree) → references_among (branches_back rs) ≡ all_references (reverse rs)
back_branches rs = ap (λ xs. references_among (branches_back xs)) (sym (reverse-reverse rs)) ∙ branches_references (reverse rs)

module _ {F : Type 0} (skeleton : ℕ → Tree → F) where
  -- the first name of all has this number
  abbrev pub numbered : ℕ → List Tree → List F
  numbered n [] = []
  numbered n (t ∷ ts) = skeleton n t ∷ numbered (n + count t) ts

  pub length-numbered : (n : ℕ) (ts : List Tree) → length (numbered n ts) ≡ length ts
  length-numbered n [] = refl
  length-numbered n (t ∷ ts) = ap suc (length-numbered (n + count t) ts)

  pub numbered-append : (n : ℕ) (ts us : List Tree) → numbered n (ts ++ us) ≡ numbered n ts ++ numbered (n + length (all_references ts)) us
  numbered-append n [] us = let same : n ≡ n + 0 = omega arith in ap (λ m. numbered m us) same
  numbered-append n (t ∷ ts) us =
      let same : n + count t + length (all_references ts) ≡ n + length (references_of t ++ all_references ts) = omega (arith, length-append (references_of t) (all_references ts)) in
      ap (λ fs. skeleton n t ∷ fs) (numbered-append (n + count t) ts us ∙ ap (λ m. numbered (n + count t) ts ++ numbered m us) same)

  module _ (skeletons : ℕ → Args → List F) (at_one : (n : ℕ) (a : Tree) → skeletons n (one a) ≡ skeleton n a ∷ []) (at_more : (n : ℕ) (args : Args) (a : Tree) → skeletons n (more args a) ≡ skeletons n args ++ skeleton (n + count_in args) a ∷ []) where
    args_back-numbered : (n : ℕ) (rs : List Tree) → 0 < length rs → skeletons n (args_back rs) ≡ numbered n (reverse rs)
    args_back-numbered n [] h = absurd (omega arith)
    args_back-numbered n (a ∷ []) h = at_one n a
    args_back-numbered n (a ∷ b ∷ rs) h =
        at_more n (args_back (b ∷ rs)) a
        ∙ (λ i. args_back-numbered n (b ∷ rs) (omega arith) i ++ skeleton (n + length (back_args (b ∷ rs) i)) a ∷ [])
        ∙ sym (numbered-append n (reverse (b ∷ rs)) (a ∷ []))
        ∙ ap (numbered n) (sym (reverse-append (a ∷ []) (b ∷ rs)))

    -- the arguments of a call or a list, of which there is one at least
    pub args-numbered : (n : ℕ) (ts : List Tree) → 0 < length ts → skeletons n (args_among ts) ≡ numbered n ts
    args-numbered n ts h =
        args_back-numbered n (reverse ts) (omega (arith, length-reverse ts)) ∙ ap (numbered n) (reverse-reverse ts)

  module _ (skeletons : ℕ → Branches → List F) (at_when : (n : ℕ) (c a : Tree) → skeletons n (when c a) ≡ skeleton n c ∷ skeleton (n + count c) a ∷ []) (at_then : (n : ℕ) (bs : Branches) (c a : Tree) → skeletons n (then_when bs c a) ≡ skeletons n bs ++ skeleton (n + count_among bs) c ∷ skeleton (n + count_among bs + count c) a ∷ []) where
    branches_back-numbered : (k n : ℕ) (rs : List Tree) → length rs ≡ k + k + 2 → skeletons n (branches_back rs) ≡ numbered n (reverse rs)
    branches_back-numbered k n [] h = absurd (omega arith)
    branches_back-numbered k n (a ∷ []) h = absurd (omega arith)
    branches_back-numbered k n (a ∷ c ∷ []) h = at_when n c a
    branches_back-numbered k n (a ∷ c ∷ b ∷ rs) h =
        let fewer : length (b ∷ rs) ≡ (k - 1) + (k - 1) + 2 = omega arith in
        at_then n (branches_back (b ∷ rs)) c a
        ∙ (λ i. branches_back-numbered (k - 1) n (b ∷ rs) fewer i ++ skeleton (n + length (back_branches (b ∷ rs) i)) c ∷ skeleton (n + length (back_branches (b ∷ rs) i) + count c) a ∷ [])
        ∙ sym (numbered-append n (reverse (b ∷ rs)) (c ∷ a ∷ []))
        ∙ ap (numbered n) (sym (reverse-append (a ∷ c ∷ []) (b ∷ rs)))

    -- one branch or more
    pub branches-numbered : (k n : ℕ) (ts : List Tree) → length ts ≡ k + k + 2 → skeletons n (branches_among ts) ≡ numbered n ts
    branches-numbered k n ts h =
        branches_back-numbered k n (reverse ts) (omega (arith, length-reverse ts)) ∙ ap (numbered n) (reverse-reverse ts)
