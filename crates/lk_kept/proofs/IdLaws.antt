-- What accepted loads and checks leave of the kept ids.
use Rattle.std.proofs.Common.{◌≡◌, ◌∙◌, ◌++◌, ◌∷◌, ◌+◌, [], ℕ, Bool, true, false, List, Option, Some, None, length, map, refl, sym, ap, subst, arith, append_assoc}
use Rattle.std.specs.List.{All, AllZip, list_any}
use Rattle.std.specs.Prelude.{ℤ, if◌then◌else◌}
use Rattle.std.specs.Option.{option_or}
use Rattle.std.proofs.lemmas.List.{append-nil}
use Rattle.std.proofs.lemmas.List.Elements.{All-cons, All-head, All-nil, All-tail, All-weaker}
use Rattle.std.proofs.lemmas.List.Folds.{find-append}
use Rattle.std.proofs.lemmas.Slice.Eq.{bytes_eq-Decides}
use Rattle.lk_val.specs.Texts.{are_different, is_same_text}
use Rattle.lk_ledger.specs.Saving.{Save, check, id_of, load}
use Rattle.lk_ledger.specs.declared.command.Command.{Command}
use Rattle.lk_ledger.specs.declared.kept.KeptId.{KeptId}
use Rattle.lk_edition.specs.Loads.{command_of, kept_id, kept_load}
use Rattle.lk_edition.specs.Plans.{Planned}
use Rattle.lk_edition.specs.Standings.{Standing}
use Rattle.lk_edition.specs.declared.call.LoadCall.{LoadCall}
use Rattle.lk_edition.proofs.PlanLaws.{IsBuilt, IsNew, is_built, is_new}
use Rattle.lk_kept.specs.Accepted.{AreAccepted, LeadsTo, Step, by_check, by_load, commands_of, loads_of}
use Rattle.lk_kept.proofs.DifferLaws.{differ_more}

-- ---- an id that is not among some and one more

or_none : (a b : Option KeptId) → option_or a b ≡ None → (a ≡ None) × (b ≡ None)
or_none None b e = (refl, e)
or_none (Some kept) b e = cc e

found_none : (b : Bool) (kept : KeptId) → (if b then Some kept else None) ≡ None → b ≡ false
found_none true kept e = cc e
found_none false kept e = refl

-- neither among those before, nor the one behind them
not_kept : (ids : List KeptId) (kept : KeptId) (id : List ℕ) → kept_load (ids ++ kept ∷ []) id ≡ None
    → (kept_load ids id ≡ None) × (is_same_text kept.id id ≡ false)
not_kept ids kept id e =
    let those = or_none (kept_load ids id) (kept_load (kept ∷ []) id)
    (sym (find-append (λ (kept : KeptId). is_same_text kept.id id) ids (kept ∷ [])) ∙ e) in
    (those.0, found_none (is_same_text kept.id id) kept those.1)

none_same : (id : List ℕ) (calls : List LoadCall) → All (λ (call : LoadCall). is_same_text id call.id ≡ false) calls
    → list_any (is_same_text id) (map (λ (call : LoadCall). call.id) calls) ≡ false
none_same id [] each = refl
none_same id (call ∷ calls) each =
    rw (All-head (λ (c : LoadCall). is_same_text id c.id ≡ false) call calls each)
    (none_same id calls (All-tail (λ (c : LoadCall). is_same_text id c.id ≡ false) call calls each))

-- an id behind others, of which none is the same
found_first : (ids : List KeptId) (kept : KeptId) (more : List KeptId) (id : List ℕ) → kept_load ids id ≡ None → kept.id ≡ id
    → kept_load (ids ++ kept ∷ more) id ≡ Some kept
found_first ids kept more id none same =
    find-append (λ (kept : KeptId). is_same_text kept.id id) ids (kept ∷ more)
    ∙ ap (λ (o : Option KeptId). option_or o (kept_load (kept ∷ more) id)) none
    ∙ ap (λ (b : Bool). if b then Some kept else kept_load more id) ((bytes_eq-Decides kept.id id).1 same)

-- ---- the steps

abbrev IsUnkept : Standing → LoadCall → Type 0
IsUnkept e call = kept_load e.state.ids call.id ≡ None

pub record LeavesIds (e : Standing) (steps : List Step) (saves : List Save) (last : Standing) : Type 0 where
  pub new : All (λ (call : LoadCall). kept_load e.state.ids call.id ≡ None) (loads_of steps)
  pub once : are_different (map (λ (call : LoadCall). call.id) (loads_of steps)) ≡ true
  pub ids : last.state.ids ≡ e.state.ids ++ map id_of (commands_of saves)
  pub kept : AllZip (λ (call : LoadCall) (command : Command). kept_load last.state.ids call.id ≡ Some (id_of command)) (loads_of steps) (commands_of saves)
  pub number : last.state.number ≡ e.state.number + length steps
  pub model : last.model ≡ e.model
  pub users : last.users ≡ e.users

load_more : (e : Standing) (call : LoadCall) (steps : List Step) (saves : List Save) (last : Standing)
    (p : Planned) (is : IsNew e call p) → LeavesIds p.standing steps saves last
    → LeavesIds e (by_load call ∷ steps) (load (command_of e.state call is.table) ∷ saves) last
load_more e call steps saves last p is rest =
    let calls = loads_of steps in
    let commands = commands_of saves in
    let kept : KeptId = kept_id e.state call is.table in
    let ids_are : p.standing.state.ids ≡ e.state.ids ++ kept ∷ [] = ap (λ (q : Planned). q.standing.state.ids) is.is in
    let number_is : p.standing.state.number ≡ e.state.number + 1 = ap (λ (q : Planned). q.standing.state.number) is.is in
    let apart : (c : LoadCall) → IsUnkept p.standing c → IsUnkept e c × (is_same_text call.id c.id ≡ false) =
    λ c unkept. not_kept e.state.ids kept c.id (ap (λ (ids : List KeptId). kept_load ids c.id) (sym ids_are) ∙ unkept) in
    let ids : last.state.ids ≡ e.state.ids ++ kept ∷ map id_of commands =
    rest.ids
    ∙ ap (λ (ids : List KeptId). ids ++ map id_of commands) ids_are
    ∙ append_assoc e.state.ids (kept ∷ []) (map id_of commands) in
    record {
      new = All-cons (IsUnkept e) call calls is.new (All-weaker (IsUnkept p.standing) (IsUnkept e) (λ c unkept. (apart c unkept).0) calls rest.new);
      once = differ_more (list_any (is_same_text call.id) (map (λ (c : LoadCall). c.id) calls))
          (are_different (map (λ (c : LoadCall). c.id) calls))
          (none_same call.id calls (All-weaker (IsUnkept p.standing) (λ (c : LoadCall). is_same_text call.id c.id ≡ false) (λ c unkept. (apart c unkept).1) calls rest.new))
          rest.once;
      ids = ids;
      kept = (
        ap (λ (ids : List KeptId). kept_load ids call.id) ids ∙ found_first e.state.ids kept (map id_of commands) call.id is.new refl,
        rest.kept,
      );
      number = omega (arith, rest.number, number_is);
      model = rest.model ∙ ap (λ (q : Planned). q.standing.model) is.is;
      users = rest.users ∙ ap (λ (q : Planned). q.standing.users) is.is;
    }

check_more : (e : Standing) (user : List ℕ) (now : ℤ) (steps : List Step) (saves : List Save) (last : Standing)
    (p : Planned) → IsBuilt e now p → LeavesIds p.standing steps saves last
    → LeavesIds e (by_check user now ∷ steps) (check (e.state.number + 1) ∷ saves) last
check_more e user now steps saves last p is rest =
    let ids_are : p.standing.state.ids ≡ e.state.ids = ap (λ (q : Planned). q.standing.state.ids) is.is in
    let number_is : p.standing.state.number ≡ e.state.number + 1 = ap (λ (q : Planned). q.standing.state.number) is.is in
    record {
      new = All-weaker (IsUnkept p.standing) (IsUnkept e) (λ c unkept. ap (λ (ids : List KeptId). kept_load ids c.id) (sym ids_are) ∙ unkept) (loads_of steps) rest.new;
      once = rest.once;
      ids = rest.ids ∙ ap (λ (ids : List KeptId). ids ++ map id_of (commands_of saves)) ids_are;
      kept = rest.kept;
      number = omega (arith, rest.number, number_is);
      model = rest.model ∙ ap (λ (q : Planned). q.standing.model) is.is;
      users = rest.users ∙ ap (λ (q : Planned). q.standing.users) is.is;
    }

step_more : (e : Standing) (step : Step) (save : Save) (steps : List Step) (saves : List Save) (last : Standing) (p : Planned)
    → LeadsTo e step p → save ≡ p.save → LeavesIds p.standing steps saves last → LeavesIds e (step ∷ steps) (save ∷ saves) last
step_more e (by_load call) save steps saves last p leads told rest =
    let is = is_new e call p leads in
    subst (λ s. LeavesIds e (by_load call ∷ steps) (s ∷ saves) last) (sym (told ∙ ap (λ (q : Planned). q.save) is.is)) (load_more e call steps saves last p is rest)
step_more e (by_check user now) save steps saves last p leads told rest =
    let is = is_built e user now p leads in
    subst (λ s. LeavesIds e (by_check user now ∷ steps) (s ∷ saves) last) (sym (told ∙ ap (λ (q : Planned). q.save) is.is)) (check_more e user now steps saves last p is rest)

pub steps_leave : (e : Standing) (steps : List Step) (saves : List Save) (last : Standing) → AreAccepted e steps saves last
    → LeavesIds e steps saves last
steps_leave e [] [] last accepted = record {
  new = All-nil (IsUnkept e);
  once = refl;
  ids = ap (λ (s : Standing). s.state.ids) accepted ∙ sym (append-nil e.state.ids);
  kept = tt;
  number = let same : last.state.number ≡ e.state.number = ap (λ (s : Standing). s.state.number) accepted in omega arith;
  model = ap (λ (s : Standing). s.model) accepted;
  users = ap (λ (s : Standing). s.users) accepted;
}
steps_leave e [] (save ∷ saves) last accepted = absurd accepted
steps_leave e (step ∷ steps) [] last accepted = absurd accepted
steps_leave e (step ∷ steps) (save ∷ saves) last accepted =
    step_more e step save steps saves last accepted.0 accepted.1 accepted.2 (steps_leave accepted.0.standing steps saves last accepted.3)
