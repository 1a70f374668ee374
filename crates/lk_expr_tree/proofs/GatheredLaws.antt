-- What is gathered from the operands of a call, a list and a CASE is what a recursion over them gathers.
use Rattle.std.proofs.Common.{◌≡◌, ℕ, ◌-◌, ◌≤◌, List, [], ◌∷◌, ◌++◌, length, take, drop, get_or-drop, refl, sym, ap, ◌∙◌, arith}
use Rattle.std.specs.Prelude.{reverse}
use Rattle.std.proofs.lemmas.List.{reverse-append, reverse-reverse, length-drop, take-append-drop}
use Rattle.lk_postfix.specs.Postfix.{gathered}
use Rattle.lk_expr_tree.specs.Grammar.{Tree, Number, Args, one, more, Branches, when, then_when}
use Rattle.lk_expr_tree.specs.RawNodes.{operand, args_back, branches_back, args_among, branches_among}

module _ {M : Type 0} (op : M → M → M) (unit : M) (assoc : (a b c : M) → op (op a b) c ≡ op a (op b c)) (left : (a : M) → op unit a ≡ a) (right : (a : M) → op a unit ≡ a) (g : Tree → M) where
  pub gathered-append : (ts us : List Tree) → gathered op unit g (ts ++ us) ≡ op (gathered op unit g ts) (gathered op unit g us)
  gathered-append [] us = sym (left (gathered op unit g us))
  gathered-append (t ∷ ts) us = ap (op (g t)) (gathered-append ts us) ∙ sym (assoc (g t) (gathered op unit g ts) (gathered op unit g us))

  pub gathered-one : (t : Tree) → gathered op unit g (t ∷ []) ≡ g t
  gathered-one t = right (g t)

  gathered-last : (ts : List Tree) (t : Tree) → gathered op unit g (ts ++ t ∷ []) ≡ op (gathered op unit g ts) (g t)
  gathered-last ts t = gathered-append ts (t ∷ []) ∙ ap (op (gathered op unit g ts)) (gathered-one t)

  -- the last first
  gathered-reverse : (t : Tree) (rs : List Tree) → gathered op unit g (reverse (t ∷ rs)) ≡ op (gathered op unit g (reverse rs)) (g t)
  gathered-reverse t rs = ap (gathered op unit g) (reverse-append (t ∷ []) rs) ∙ gathered-last (reverse rs) t

  module _ (nothing : g (Number []) ≡ unit) where
    module _ (g_args : Args → M) (at_one : (a : Tree) → g_args (one a) ≡ g a) (at_more : (args : Args) (a : Tree) → g_args (more args a) ≡ op (g_args args) (g a)) where
      args_back-gathered : (rs : List Tree) → g_args (args_back rs) ≡ gathered op unit g (reverse rs)
      args_back-gathered [] = at_one (Number []) ∙ nothing
      args_back-gathered (a ∷ []) = at_one a ∙ sym (gathered-one a)
      args_back-gathered (a ∷ b ∷ rs) =
          at_more (args_back (b ∷ rs)) a ∙ ap (λ m. op m (g a)) (args_back-gathered (b ∷ rs)) ∙ sym (gathered-reverse a (b ∷ rs))

      pub args_among-gathered : (ts : List Tree) → g_args (args_among ts) ≡ gathered op unit g ts
      args_among-gathered ts = args_back-gathered (reverse ts) ∙ ap (gathered op unit g) (reverse-reverse ts)

    module _ (g_branches : Branches → M) (at_when : (c a : Tree) → g_branches (when c a) ≡ op (g c) (g a)) (at_then : (bs : Branches) (c a : Tree) → g_branches (then_when bs c a) ≡ op (g_branches bs) (op (g c) (g a))) where
      branches_back-gathered : (rs : List Tree) → g_branches (branches_back rs) ≡ gathered op unit g (reverse rs)
      branches_back-gathered [] = at_when (Number []) (Number []) ∙ ap (λ m. op m (g (Number []))) nothing ∙ left (g (Number [])) ∙ nothing
      branches_back-gathered (a ∷ []) = at_when a (Number []) ∙ ap (op (g a)) nothing
      branches_back-gathered (a ∷ c ∷ []) = at_when c a ∙ ap (op (g c)) (sym (right (g a)))
      branches_back-gathered (a ∷ c ∷ b ∷ rs) =
          at_then (branches_back (b ∷ rs)) c a
          ∙ ap (λ m. op m (op (g c) (g a))) (branches_back-gathered (b ∷ rs))
          ∙ sym (assoc (gathered op unit g (reverse (b ∷ rs))) (g c) (g a))
          ∙ ap (λ m. op m (g a)) (sym (gathered-reverse c (b ∷ rs)))
          ∙ sym (gathered-reverse a (c ∷ b ∷ rs))

      pub branches_among-gathered : (ts : List Tree) → g_branches (branches_among ts) ≡ gathered op unit g ts
      branches_among-gathered ts = branches_back-gathered (reverse ts) ∙ ap (gathered op unit g) (reverse-reverse ts)

-- ---- the last operand

pub alone : (ts : List Tree) → length ts ≡ 1 → ts ≡ operand ts 0 ∷ []
alone [] h = absurd (omega arith)
alone (t ∷ []) h = refl
alone (t ∷ u ∷ ts) h = absurd (omega arith)

pub last_of : (ts : List Tree) (count : ℕ) → length ts ≡ count → 1 ≤ count → take (count - 1) ts ++ operand ts (count - 1) ∷ [] ≡ ts
last_of ts count h some =
    let left : length (drop (count - 1) ts) ≡ 1 = omega (arith, length-drop (count - 1) ts, h) in
    let at : operand (drop (count - 1) ts) 0 ≡ operand ts (count - 1) = get_or-drop (count - 1) ts 0 (Number []) ∙ ap (operand ts) (omega arith) in
    ap (λ xs. take (count - 1) ts ++ xs) (ap (λ t. t ∷ []) (sym at) ∙ sym (alone (drop (count - 1) ts) left))
    ∙ take-append-drop (count - 1) ts
