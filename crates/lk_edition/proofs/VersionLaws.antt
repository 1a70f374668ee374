-- An edition in a list of editions is that of the history in the list.
use Rattle.std.proofs.Common.{◌≡◌, ◌+◌, ◌++◌, ◌∷◌, [], ℕ, ℤ, Bool, true, false, List, refl, sym, ap, subst, arith, inl, inr}
use Rattle.std.specs.Prelude.{Ok, if◌then◌else◌, nat_eq}
use Rattle.lk_semantics.proofs.JoinLaws.{numbers_equal}
use Rattle.lk_front.specs.Chains.{EndsIn, Follow, IsChain}
use Rattle.lk_state.specs.States.{State}
use Rattle.lk_edition.specs.Checks.{check_planned}
use Rattle.lk_edition.specs.Histories.{Stands}
use Rattle.lk_edition.specs.Loads.{load_planned}
use Rattle.lk_edition.specs.Offices.{IsPlanned}
use Rattle.lk_edition.specs.Plans.{Planned}
use Rattle.lk_edition.specs.Standings.{Standing}
use Rattle.lk_edition.specs.Versions.{Follows, Opens, past_after, past_along, past_of}
use Rattle.lk_edition.specs.declared.call.LoadCall.{LoadCall}
use Rattle.lk_edition.specs.declared.plan.CheckPlan.TheVariants.{New as new_check}
use Rattle.lk_edition.specs.declared.plan.LoadPlan.TheVariants.{New}

-- the edition of a history, and the one that takes its place, are of histories
abbrev StandsAfter : Standing → List State → Standing → Type 0
StandsAfter e past e' = Stands e' (past_after e e' past)

pub same_stands : (e : Standing) (past : List State) (e' : Standing) → e' ≡ e → Stands e past → StandsAfter e past e'
same_stands e past e' is stands =
    subst (StandsAfter e past) (sym is) (subst (Stands e) (sym (ap (λ b. if b then past else e.state ∷ past) (numbers_equal.itself e.state.number))) stands)

next_differs : (n k : ℕ) → k ≡ n + 1 → nat_eq k n ≡ false
next_differs n k h = grind (arith, h)

pub next_stands : (e : Standing) (past : List State) (e' : Standing) → Stands e' (e.state ∷ past) → StandsAfter e past e'
next_stands e past e' stands =
    subst (Stands e') (sym (ap (λ b. if b then past else e.state ∷ past) (next_differs e.state.number e'.state.number stands.numbers.0))) stands

module _ (loads : (e : Standing) (past : List State) (call : LoadCall) (p : Planned) → Stands e past → load_planned e call ≡ Ok (New p) → Stands p.standing (e.state ∷ past))
    (checks : (e : Standing) (past : List State) (user : List ℕ) (now : ℤ) (p : Planned) → Stands e past → check_planned e user now ≡ Ok (new_check p) → Stands p.standing (e.state ∷ past)) where
  pub planned_stands : (e : Standing) (past : List State) (p : Planned) → Stands e past → IsPlanned e p → Stands p.standing (e.state ∷ past)
  planned_stands e past p stands (inl load) = loads e past load.call p stands load.is
  planned_stands e past p stands (inr check) = checks e past check.user check.now p stands check.is

  pub follows_stands : (e : Standing) (past : List State) (e' : Standing) → Stands e past → Follows e e' → StandsAfter e past e'
  follows_stands e past e' stands (inl same) = same_stands e past e' same stands
  follows_stands e past e' stands (inr next) =
      subst (StandsAfter e past) (sym next.is) (next_stands e past next.plan.standing (planned_stands e past next.plan stands next.planned))

  along_stands : (e : Standing) (past : List State) (editions front : List Standing) (last : Standing) → Stands e past → Follow Opens Follows e editions
      → e ∷ editions ≡ front ++ last ∷ [] → Stands last (past_along e past editions)
  along_stands e past [] [] last stands follow ends = subst (λ (v : Standing). Stands v past) (cc ends) stands
  along_stands e past [] (f ∷ []) last stands follow ends = absurd (cc ends)
  along_stands e past [] (f ∷ (g ∷ front)) last stands follow ends = absurd (cc ends)
  along_stands e past (e' ∷ editions) [] last stands follow ends = absurd (cc ends)
  along_stands e past (e' ∷ editions) (f ∷ front) last stands follow ends =
      along_stands e' (past_after e e' past) editions front last (follows_stands e past e' stands follow.0) follow.1 (cc ends)

  pub list_stands : (list : List Standing) (e : Standing) → IsChain Opens Follows list → EndsIn list e → Stands e (past_of list)
  list_stands [] e chain ([], is) = absurd (cc is)
  list_stands [] e chain (f ∷ front, is) = absurd (cc is)
  list_stands (first ∷ editions) e chain ends = along_stands first [] editions ends.0 e chain.0 chain.1 ends.1
