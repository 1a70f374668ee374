-- A chain goes on by a value that may stand behind its last one.
use Rattle.std.proofs.Common.{◌<◌, List, [], ◌∷◌, ◌++◌, length, refl, ap, arith}
use Rattle.lk_front.specs.Chains.{EndsIn, Follow, IsChain}

module _ {T : Type 0} (begins : T → Type 0) (follows : T → T → Type 0) where
  follow_on : (value : T) (values : List T) (next : T) → Follow begins follows value values → ((last : T) → EndsIn (value ∷ values) last → follows last next)
      → Follow begins follows value (values ++ next ∷ [])
  follow_on value [] next chain fits = (fits value ([], refl), tt)
  follow_on value (second ∷ values) next chain fits =
      (chain.0, follow_on second values next chain.1 (λ last ends. fits last (value ∷ ends.0, ap (λ rest. value ∷ rest) ends.1)))

  pub chain_goes_on : (values : List T) (next : T) → IsChain begins follows values → 0 < length values → ((last : T) → EndsIn values last → follows last next)
      → IsChain begins follows (values ++ next ∷ [])
  chain_goes_on [] next chain some fits = absurd (omega arith)
  chain_goes_on (first ∷ values) next chain some fits = (chain.0, follow_on first values next chain.1 fits)
