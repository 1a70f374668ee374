-- What holds of an edition after all datagroups are built, and after some are built anew.
use Rattle.std.proofs.Common.{◌≡◌, ◌<◌, ◌≤◌, ◌+◌, ◌||◌, ◌∷◌, [], ℕ, ℤ, Bool, true, false, List, length, map, refl, sym, ap, ◌∙◌, subst, arith}
use Rattle.std.specs.Prelude.{Result, Ok, Err, IfOk, IsOkAnd, if◌then◌else◌, nat_eq, nat_lt}
use Rattle.std.specs.List.{All}
use Rattle.std.proofs.lemmas.Bool.{false≢true}
use Rattle.std.proofs.lemmas.List.{get_or-map, length-map}
use Rattle.lk_val.specs.Years.{IsMomentInYears}
use Rattle.lk_types.specs.Expressions.{has_number}
use Rattle.lk_types.specs.Tables.{Rows, are_valid_tables}
use Rattle.lk_types.specs.declared.answer.Reply.{Reply}
use Rattle.lk_types.specs.declared.model.Datagroup.{Datagroup}
use Rattle.lk_types.specs.declared.model.Model.{Model}
use Rattle.lk_table.specs.Contents.{rows_of_each}
use Rattle.lk_trigger.specs.Builds.{build_at, built_at, datagroup_at, no_build, no_datagroup}
use Rattle.lk_trigger.specs.declared.build.Build.{Build}
use Rattle.lk_keeps.specs.Anew.{keeps_anew, kept_anew, unless_large}
use Rattle.lk_keeps.specs.Keeps.{AreKept, Keeps, keeps_of, sources_over}
use Rattle.lk_keeps.specs.Large.{large_builds}
use Rattle.lk_keeps.proofs.ListLaws.{at_below, length_below}
use Rattle.lk_ledger.specs.Saving.{check}
use Rattle.lk_command_reply.specs.Replies.{built_reply}
use Rattle.lk_command_reply.specs.declared.fault.CheckFault.TheVariants as fault
use Rattle.lk_state.specs.Limits.{are_large, is_over}
use Rattle.lk_state.specs.States.{State}
use Rattle.lk_edition.specs.Checks.{built, check_planned, checked, groups_triggered, names_of, over_keeps, over_triggered, rebuilt, state_checked}
use Rattle.lk_edition.specs.Loads.{is_loader}
use Rattle.lk_edition.specs.Plans.{Planned}
use Rattle.lk_edition.specs.Standings.{IsStanding, Standing}

-- ---- numbers of states

first_false : (a b : Bool) → (a || b) ≡ false → a ≡ false
first_false true b e = absurd (false≢true (sym e))
first_false false b e = refl

neither : (a b : Bool) → a ≡ false → b ≡ false → (a || b) ≡ false
neither true b p q = p
neither false b p q = q

within_limit : (n limit : ℕ) → n ≤ limit → nat_lt limit n ≡ false
within_limit n limit h = grind (arith, h)

-- the next state over the same tables and loads is within the limits
pub small_next : (s : State) → is_over s ≡ false → s.number + 1 ≤ 9223372036854775807 → is_over (state_checked s) ≡ false
small_next s small next =
    neither (are_large s.tables || nat_lt 100000 (length s.ids)) (nat_lt 9223372036854775807 (s.number + 1))
    (first_false (are_large s.tables || nat_lt 100000 (length s.ids)) (nat_lt 9223372036854775807 s.number) small)
    (within_limit (s.number + 1) 9223372036854775807 next)

-- ---- moments of builds

-- datagroups that are built at a moment have that moment
pub all_at : (stored : List Rows) (number : ℕ) (now : ℤ) (datagroups : List Datagroup) → IsMomentInYears now
    → All (λ build. IsMomentInYears build.moment) (map (built_at stored number now) datagroups)
all_at stored number now datagroups years k none below =
    let within : k < length datagroups = omega (arith, below, length-map datagroups (built_at stored number now)) in
    subst (λ (build : Build). IsMomentInYears build.moment) (sym (get_or-map (built_at stored number now) datagroups k no_datagroup none within)) years

module _ (e : Standing) (is : IsStanding e) (groups : List ℕ) (now : ℤ) (years : IsMomentInYears now) where
  abbrev stored : List Rows
  stored = rows_of_each e.state.tables

  abbrev rebuilt_at : ℕ → Build
  rebuilt_at g = if has_number g groups then built_at stored (e.state.number + 1) now (datagroup_at e.model.datagroups g) else build_at e.builds g

  rebuilt_long : length (rebuilt e groups now) ≡ length e.model.datagroups
  rebuilt_long = length-map _ rebuilt_at ∙ length_below (length e.model.datagroups)

  moment_at : (g : ℕ) → g < length e.model.datagroups → IsMomentInYears (rebuilt_at g).moment
  moment_at g within =
      elim (has_number g groups) as (λ b. IsMomentInYears (if b then built_at stored (e.state.number + 1) now (datagroup_at e.model.datagroups g) else build_at e.builds g).moment) [
        | true ↦ years
        | false ↦ is.years g no_build (omega (arith, within, is.each))
      ]

  rebuilt_years : All (λ build. IsMomentInYears build.moment) (rebuilt e groups now)
  rebuilt_years g none below =
      let within : g < length e.model.datagroups = omega (arith, below, rebuilt_long) in
      subst (λ (build : Build). IsMomentInYears build.moment) (sym (at_below rebuilt_at (length e.model.datagroups) g none within)) (moment_at g within)

  -- the edition after a check that built some datagroups
  pub checked_stands : (keeps : Keeps) → e.state.number + 1 ≤ 9223372036854775807 → AreKept e.model keeps → IsStanding (checked e groups now keeps)
  checked_stands keeps next kept = record {
    model = is.model;
    tables = is.tables;
    small = small_next e.state is.small next;
    each = rebuilt_long;
    years = rebuilt_years;
    kept = kept;
  }

-- ---- what is kept

-- a build that is not too large is kept
pub kept_is : (whole : Keeps) (names : List (List ℕ)) (keeps : Keeps) → Ok keeps ≡ unless_large whole names → keeps ≡ whole
kept_is whole [] keeps e = cc
kept_is whole (name ∷ names) keeps e = cc

-- where some datagroups are built anew over valid tables
pub anew_kept : (m : Model) (groups : List ℕ) (stored : List Rows) (before keeps : Keeps)
    → ((m : Model) (groups : List ℕ) (stored : List Rows) (built : ℕ → List Rows)
    → keeps_anew m groups stored (keeps_of m built) ≡ keeps_of m (λ g. if has_number g groups then stored else built g))
    → are_valid_tables m.schema.tables stored ≡ true → AreKept m before → Ok keeps ≡ kept_anew m groups stored before → AreKept m keeps
anew_kept m groups stored before keeps law valid was is = record {
  built = λ g. if has_number g groups then stored else was.built g;
  valid = λ g. elim (has_number g groups) as (λ b. are_valid_tables m.schema.tables (if b then stored else was.built g) ≡ true) [
    | true ↦ valid
    | false ↦ was.valid g
  ];
  is = kept_is (keeps_anew m groups stored before) (large_builds m groups (sources_over m stored)) keeps is
      ∙ ap (keeps_anew m groups stored) was.is ∙ law m groups stored was.built;
}

-- ---- plans

pub some_triggered : (e : Standing) (now : ℤ) (groups : List ℕ) → nat_eq (length groups) 0 ≡ false → e.state.number + 1 ≤ 9223372036854775807
    → over_triggered e now groups ≡ over_keeps e groups now (kept_anew e.model groups (rows_of_each e.state.tables) e.keeps)
some_triggered e now [] some next = absurd (false≢true (sym some))
some_triggered e now (g ∷ groups) some next =
    ap (λ b. if b then Err (fault.G2 []) else over_keeps e (g ∷ groups) now (kept_anew e.model (g ∷ groups) (rows_of_each e.state.tables) e.keeps))
    (within_limit (e.state.number + 1) 9223372036854775807 next)

pub may_check : (e : Standing) (user : List ℕ) (now : ℤ) (may : Bool) (groups : List ℕ) → may ≡ is_loader e.users user → may ≡ true
    → groups ≡ groups_triggered e now → over_triggered e now groups ≡ check_planned e user now
may_check e user now may groups asked so are =
    ap (over_triggered e now) are
    ∙ ap (λ b. if b then over_triggered e now (groups_triggered e now) else Err (fault.G1 user)) (sym so ∙ asked)

-- the parts of a check's plan
pub plan_is : {A E : Type 0} (value : A → Standing) (edition : Result A E) (number : ℕ) (reply : Result Reply E) (result : Result Planned E)
    (e : Standing) (groups : List ℕ) (now : ℤ) (keeps : Keeps) (names : List (List ℕ))
    → IfOk edition (λ next. value next ≡ checked e groups now keeps) → number ≡ e.state.number + 1 → names ≡ names_of e.model groups
    → IfOk reply (λ answer. answer ≡ built_reply names number)
    → IfOk result (λ planned. IsOkAnd edition (λ next. IsOkAnd reply (λ answer. planned ≡ record { standing = value next; save = check number; reply = answer })))
    → IfOk result (λ planned. planned ≡ built e groups now keeps)
plan_is value edition number reply (Err fault) e groups now keeps names next at named answers parts = tt
plan_is value (Err fault) number reply (Ok planned) e groups now keeps names next at named answers parts = absurd parts
plan_is value (Ok edition) number (Err fault) (Ok planned) e groups now keeps names next at named answers parts = absurd parts
plan_is value (Ok edition) number (Ok reply) (Ok planned) e groups now keeps names next at named answers parts =
    parts ∙ (λ i. record { standing = next i; save = check (at i); reply = (answers ∙ (λ j. built_reply (named j) (at j))) i })
