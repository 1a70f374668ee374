-- What may be shown behind the present edition, and what a step comes to.
use Rattle.std.proofs.Common.{◌≡◌, ◌∙◌, ◌+◌, ◌≤◌, ◌++◌, ℕ, Bool, List, [], ◌∷◌, length, Option, Some, refl, sym, ap, subst, inr, arith, length-append}
use Rattle.std.proofs.lemmas.Bool.{false≢true}
use Rattle.std.specs.Prelude.{ℤ, false, true, IfOk, Result, Ok, Err, is_ok}
use Rattle.lk_val.specs.Memory.{Unless}
use Rattle.lk_types.specs.declared.answer.Reply.{Reply}
use Rattle.lk_ledger.specs.declared.kept.Kept.{Kept}
use Rattle.lk_command_reply.specs.Refusals.{check_refusal, load_refusal}
use Rattle.lk_command_reply.specs.declared.fault.CheckFault.{CheckFault}
use Rattle.lk_command_reply.specs.declared.fault.LoadFault.{LoadFault}
use Rattle.lk_front.specs.Chains.{EndsIn}
use Rattle.lk_shelf.proofs.Endings.{ends_in_one}
use Rattle.lk_edition.specs.Checks.{check_planned, is_no_memory}
use Rattle.lk_edition.specs.Loads.{load_planned}
use Rattle.lk_edition.specs.Offices.{IsPlanned}
use Rattle.lk_edition.specs.Plans.{Planned}
use Rattle.lk_edition.specs.Standings.{Standing}
use Rattle.lk_edition.specs.Versions.{Follows}
use Rattle.lk_edition.specs.declared.call.LoadCall.{LoadCall}
use Rattle.lk_edition.specs.declared.plan.CheckPlan.{CheckPlan}
use Rattle.lk_edition.specs.declared.plan.CheckPlan.TheVariants.{New as new_check, Nothing}
use Rattle.lk_edition.specs.declared.plan.LoadPlan.{LoadPlan}
use Rattle.lk_edition.specs.declared.plan.LoadPlan.TheVariants.{Kept as kept_plan, New}
use Rattle.lk_http.specs.declared.request.Target.{Target}
use Rattle.lk_http.specs.declared.request.Target.TheVariants.{Check, Load}
use Rattle.lk_bureau.specs.Holdings.{Held, IsPadded}
use Rattle.lk_bureau.specs.Outcomes.{CheckComes, ComesTo, LoadComes, Outcome, carried_out, load_call, unchanged}
use Rattle.lk_bureau.specs.Steps.{CheckShows, IsCarriedOut, LoadShows, Publishes, told_after_all}
use Rattle.lk_bureau.specs.Told.{IsTold}

-- what was planned on the last edition follows it
pub may_follow : (shown : List Standing) (e y : Standing) (plan : Planned) → EndsIn shown e → IsPlanned e plan → EndsIn shown y → Follows y plan.standing
may_follow shown e y plan last planned ends =
    inr (record { plan = plan; planned = subst (λ k. IsPlanned k plan) (ends_in_one shown e y last ends) planned; is = refl })

-- what was planned on the present edition may be published, once it is offered
pub may_publish : (shown : List Standing) (e edition : Standing) (plan : Planned) (now : List Standing × Option Standing) → now ≡ (shown, Some edition) → edition ≡ plan.standing
    → EndsIn shown e → IsPlanned e plan → (x : Standing) × (now.1 ≡ Some x) × ((y : Standing) → EndsIn now.0 y → Follows y x)
may_publish shown e edition plan now offered is last planned = (
  plan.standing,
  ap (λ p. p.1) offered ∙ ap Some is,
  λ y ends. may_follow shown e y plan last planned (subst (λ list. EndsIn list y) (ap (λ p. p.0) offered) ends),
)

-- ---- what a load or a check was planned as, it comes to

pub load_comes : {K : Type 0} (e : Standing) (plan : Result LoadPlan LoadFault) (reply : Reply) (note : List Standing) (before after : Held K) (told told' : Option Kept) → e ≡ before.standing
    → LoadShows plan reply note before after told told' → (outcome : Outcome) × LoadComes e plan outcome × Publishes outcome reply note before after told told'
load_comes e (Err fault) reply note before after told told' is shows =
    (unchanged before.standing (load_refusal fault), (shows.0, ap (λ k. unchanged k (load_refusal fault)) (sym is)), shows.1)
load_comes e (Ok (kept_plan kept)) reply note before after told told' is shows = (unchanged before.standing kept, ap (λ k. unchanged k kept) (sym is), shows)
load_comes e (Ok (New plan)) reply note before after told told' is shows = (carried_out plan, refl, shows)

pub check_comes : {K : Type 0} (e : Standing) (plan : Result CheckPlan CheckFault) (reply : Reply) (note : List Standing) (before after : Held K) (told told' : Option Kept) → e ≡ before.standing
    → CheckShows plan reply note before after told told' → (outcome : Outcome) × CheckComes e plan outcome × Publishes outcome reply note before after told told'
check_comes e (Err fault) reply note before after told told' is shows =
    (unchanged before.standing (check_refusal fault), (shows.0, ap (λ k. unchanged k (check_refusal fault)) (sym is)), shows.1)
check_comes e (Ok (Nothing unbuilt)) reply note before after told told' is shows = (unchanged before.standing unbuilt, ap (λ k. unchanged k unbuilt) (sym is), shows)
check_comes e (Ok (new_check plan)) reply note before after told told' is shows = (carried_out plan, refl, shows)

-- an accepted check was carried out
pub check_shown : {K : Type 0} (plan : Planned) (planned : Result CheckPlan CheckFault) (reply : Reply) (note : List Standing) (before after : Held K) (told told' : Option Kept)
    → Ok (new_check plan) ≡ planned → Publishes (carried_out plan) reply note before after told told' → CheckShows planned reply note before after told told'
check_shown plan planned reply note before after told told' is shows = subst (λ p. CheckShows p reply note before after told told') is shows

-- a check was refused, and its refusal was given
pub check_refused : {K E : Type 0} (fault : CheckFault) (planned : Result CheckPlan CheckFault) (refusal : Result Reply E) (reply : Reply) (note : List Standing) (before after : Held K)
    (told told' : Option Kept) → Unless (is_no_memory fault) (Err fault ≡ planned) → IfOk refusal (λ given. (is_no_memory fault ≡ false) × (given ≡ check_refusal fault))
    → IfOk refusal (λ given. Publishes (unchanged before.standing given) reply note before after told told') × (is_ok refusal ≡ true) → CheckShows planned reply note before after told told'
check_refused fault planned (Err other) reply note before after told told' is refused (shows, ok) = absurd (false≢true ok)
check_refused fault planned (Ok given) reply note before after told told' is (known, same) (shows, ok) =
    subst (λ p. CheckShows p reply note before after told told') (subst (λ b. Unless b (Err fault ≡ planned)) known is)
    (known, subst (λ r. Publishes (unchanged before.standing r) reply note before after told told') same shows)

-- ---- the whole step

module _ {K : Type 0} (least : ℕ) (user : List ℕ) (t : Target) (body : List ℕ) (now : ℤ) (reply : Reply) (note : List Standing) (first before after : Held K)
    (told0 told told' : Option Kept) (same : before.keeper ≡ first.keeper) (stood : before.standing ≡ first.standing) (padded : IsPadded first.standing first.shown before.shown)
    (kept : told ≡ told0) where
  -- behind a padded list an outcome was shown
  pub carried : (outcome : Outcome) → ComesTo before.standing user t body now outcome → Publishes outcome reply note before after told told'
      → IsCarriedOut user t body now reply note first after told0 told'
  carried outcome comes shows = record {
    outcome = outcome;
    comes = subst (λ e. ComesTo e user t body now outcome) stood comes;
    answers = shows.answers;
    stands = shows.stands;
    shows = record { between = before.shown; padded = padded; is = shows.shows };
    tells = shows.tells;
    saved = subst (λ k. told' ≡ told_after_all outcome.saves k) kept shows.saved;
  }

  -- and the connection knows of it
  pub told_so : EndsIn before.shown before.standing → least ≤ length before.shown → (outcome : Outcome) → ComesTo before.standing user t body now outcome
      → Publishes outcome reply note before after told told' → IsTold least user t body now reply note
  told_so last long outcome comes shows =
      let list : note ≡ (last.0 ++ before.standing ∷ []) ++ outcome.standing ∷ [] = shows.tells ∙ (shows.shows ∙ ap (λ xs. xs ++ outcome.standing ∷ []) last.1) in
      let count : length note ≡ length before.shown + 1 = ap length (shows.tells ∙ shows.shows) ∙ length-append before.shown (outcome.standing ∷ []) in
      record {
        front = last.0;
        before = before.standing;
        outcome = outcome;
        comes = comes;
        answers = shows.answers;
        list = list;
        longer = omega (arith, long, count);
      }

  -- ---- a load

  load_is : (table id : List ℕ) (replace : Bool) (call : LoadCall) (outcome : Outcome) → t ≡ Load table replace id → call ≡ load_call user table replace id body
      → LoadComes before.standing (load_planned before.standing call) outcome → ComesTo before.standing user t body now outcome
  load_is table id replace call outcome is same_call comes =
      subst (λ k. ComesTo before.standing user k body now outcome) (sym is)
      (subst (λ k. LoadComes before.standing (load_planned before.standing k) outcome) same_call comes)

  pub load_carried : (table id : List ℕ) (replace : Bool) (call : LoadCall) → t ≡ Load table replace id → call ≡ load_call user table replace id body
      → LoadShows (load_planned before.standing call) reply note before after told told' → IsCarriedOut user t body now reply note first after told0 told'
  load_carried table id replace call is same_call shows =
      let found = load_comes before.standing (load_planned before.standing call) reply note before after told told' refl shows in
      carried found.0 (load_is table id replace call found.0 is same_call found.1) found.2

  pub load_told : (table id : List ℕ) (replace : Bool) (call : LoadCall) → t ≡ Load table replace id → call ≡ load_call user table replace id body
      → EndsIn before.shown before.standing → least ≤ length before.shown → LoadShows (load_planned before.standing call) reply note before after told told'
      → IsTold least user t body now reply note
  load_told table id replace call is same_call last long shows =
      let found = load_comes before.standing (load_planned before.standing call) reply note before after told told' refl shows in
      told_so last long found.0 (load_is table id replace call found.0 is same_call found.1) found.2

  -- ---- a check

  check_is : (outcome : Outcome) → t ≡ Check → CheckComes before.standing (check_planned before.standing user now) outcome → ComesTo before.standing user t body now outcome
  check_is outcome is comes = subst (λ k. ComesTo before.standing user k body now outcome) (sym is) comes

  pub check_carried : t ≡ Check → CheckShows (check_planned before.standing user now) reply note before after told told' → IsCarriedOut user t body now reply note first after told0 told'
  check_carried is shows =
      let found = check_comes before.standing (check_planned before.standing user now) reply note before after told told' refl shows in
      carried found.0 (check_is found.0 is found.1) found.2

  pub check_told : t ≡ Check → EndsIn before.shown before.standing → least ≤ length before.shown
      → CheckShows (check_planned before.standing user now) reply note before after told told' → IsTold least user t body now reply note
  check_told is last long shows =
      let found = check_comes before.standing (check_planned before.standing user now) reply note before after told told' refl shows in
      told_so last long found.0 (check_is found.0 is found.1) found.2
