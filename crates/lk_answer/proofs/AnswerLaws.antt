-- What is answered, from what is told.
use Rattle.std.proofs.Common.{◌≡◌, ◌||◌, ℕ, suc, ℤ, Bool, true, false, List, [], ◌∷◌, length, refl, sym, ap, subst, ◌∙◌, inl, arith}
use Rattle.std.specs.Prelude.{Option, None, Some, Result, Ok, Err, if◌then◌else◌, nat_eq, slice_index_or}
use Rattle.std.specs.List.{list_all}
use Rattle.std.proofs.lemmas.Bool.{false≢true}
use Rattle.lk_val.specs.Memory.{IsUnlessMemory, Unless, UnlessMemory}
use Rattle.lk_types.specs.Tables.{Rows}
use Rattle.lk_types.specs.declared.answer.Reply.{Reply}
use Rattle.lk_types.specs.declared.answer.RouteFrom.{RouteFrom}
use Rattle.lk_types.specs.declared.answer.RouteFrom.TheVariants as from
use Rattle.lk_types.specs.declared.bound.Bound.{Bound}
use Rattle.lk_types.specs.declared.explore.Explore.{Explore}
use Rattle.lk_types.specs.declared.model.Model.{Model}
use Rattle.lk_types.specs.declared.rows.Sources.{Sources}
use Rattle.lk_semantics.specs.Derived.{explore_at}
use Rattle.lk_semantics.specs.Resolved.{IsInModel}
use Rattle.lk_semantics.specs.Rollups.{best_rollup, fitting, reached_datagroups, route_or, route_to_build}
use Rattle.lk_semantics.proofs.EveryLaws.{Every, first}
use Rattle.lk_derived.specs.ReadRows.{HasRowsFor, whole}
use Rattle.lk_filter.specs.PlacedModel.{placed_model}
use Rattle.lk_fill.specs.Reads.{HasRowsOf}
use Rattle.lk_table.specs.Contents.{rows_of_each}
use Rattle.lk_route.specs.Routes.{built_numbers}
use Rattle.lk_keeps.specs.Keeps.{sources_over}
use Rattle.lk_body.specs.declared.fault.QueryFault.{QueryFault}
use Rattle.lk_query.specs.Bindings.{IsBodyBound}
use Rattle.lk_ask.specs.Asks.{is_no_memory, told_over}
use Rattle.lk_ask.specs.declared.fault.AskFault.{AskFault}
use Rattle.lk_ask.specs.declared.told.Told.{Told}
use Rattle.lk_reply.specs.Statuses.{answer_reply}
use Rattle.lk_state.specs.States.{State, sources_at}
use Rattle.lk_state.proofs.ContentLaws.{rows_valid}
use Rattle.lk_edition.specs.Histories.{Stands, states_of}
use Rattle.lk_edition.specs.Standings.{IsStanding, Standing}
use Rattle.lk_answer.specs.Answers.{IsAnswered, answered, named, told_at, told_where}
use Rattle.lk_answer.specs.Replies.{replied, tables_at, told_of}
use Rattle.lk_answer.specs.Routes.{LeadsTo, routed}
use Rattle.lk_answer.proofs.RollupLaws.{Alike, Timeless, rolled_is}
use Rattle.lk_answer.proofs.RouteLaws.{all_persist, built_is, chosen_fits, current_is, is_persisting}

-- ---- what is answered is what is replied on the history

module _ (alike : Alike) (timeless : Timeless) (e : Standing) (past : List State) (stands : Stands e past) (now : ℤ) (b : Bound) (within : IsInModel e.model b) where
  onward_is : (gs : List ℕ) → Every (is_persisting e.model stands.resolved) gs
      → told_where e now b (route_to_build (built_numbers e.builds) e.state.number gs).from
      ≡ told_of e.model now (tables_at (states_of e past) (route_to_build (built_numbers e.builds) e.state.number gs).number) b (route_to_build (built_numbers e.builds) e.state.number gs).from
  onward_is [] all = ap (λ stored. told_at e.model now stored b) (sym (current_is e past stands))
  onward_is (g ∷ gs) all =
      ap (λ stored. told_at e.model now stored b) (sym (built_is e past stands g (first (is_persisting e.model stands.resolved g) (list_all (is_persisting e.model stands.resolved) gs) all)))

  either_is : (gs : List ℕ) → Every (is_persisting e.model stands.resolved) gs → (chosen : Option ℕ) → ((r : ℕ) → chosen ≡ Some r → LeadsTo e.model b (from.Rollup r))
      → told_where e now b (route_or (explore_at e.model b.explore) (built_numbers e.builds) chosen (route_to_build (built_numbers e.builds) e.state.number gs)).from
      ≡ told_of e.model now (tables_at (states_of e past) (route_or (explore_at e.model b.explore) (built_numbers e.builds) chosen (route_to_build (built_numbers e.builds) e.state.number gs)).number) b
      (route_or (explore_at e.model b.explore) (built_numbers e.builds) chosen (route_to_build (built_numbers e.builds) e.state.number gs)).from
  either_is gs all None leads = onward_is gs all
  either_is gs all (Some r) leads = rolled_is alike timeless e past stands now b within r (leads r refl)

  told_is : told_where e now b (routed e b).from ≡ told_of e.model now (tables_at (states_of e past) (routed e b).number) b (routed e b).from
  told_is =
      let x = explore_at e.model b.explore in
      either_is (reached_datagroups e.model x b.joins) (all_persist e.model stands.resolved b.explore b.joins) (if b.fresh then None else best_rollup x (fitting x b)) (λ r is. chosen_fits x b r is)

pub answered_is : Alike → Timeless → (e : Standing) (past : List State) → Stands e past → (now : ℤ) (csv : Bool) (bound : Result Bound QueryFault)
    → ((b : Bound) → bound ≡ Ok b → IsInModel e.model b) → answered e now csv bound ≡ replied e past now csv bound
answered_is alike timeless e past stands now csv (Err fault) within = refl
answered_is alike timeless e past stands now csv (Ok b) within =
    ap (named e.model csv (routed e b).number) (told_is alike timeless e past stands now b (within b refl))

-- what is told where a route leads is told of the query
abbrev bound_in : Bound → Result Told AskFault → Bound
bound_in b (Ok told) = told.bound
bound_in b (Err fault) = b

pub told_bound : ((x : Explore) (s : Sources) (b : Bound) (told : Told) → Ok told ≡ told_over x s b → told.bound ≡ b)
    → (e : Standing) (now : ℤ) (b : Bound) (route : RouteFrom) (told : Told) → Ok told ≡ told_where e now b route → told.bound ≡ b
told_bound over e now b (from.Rollup r) told is = ap (bound_in b) is
told_bound over e now b (from.Build g) told is =
    over (explore_at (placed_model now e.model) b.explore) (sources_over e.model (slice_index_or e.keeps.tables g [])) b told is
told_bound over e now b from.Current told is =
    over (explore_at (placed_model now e.model) b.explore) (sources_over e.model (rows_of_each e.state.tables)) b told is

-- ---- what is told

-- the stored tables of an edition have what a query reads that reads no derived table
pub stored_alone : (e : Standing) → IsStanding e → HasRowsOf e.model (sources_at e.state) []
stored_alone e is = record {
  valid = rows_valid e.model.schema.tables e.state.tables is.tables;
  derived = λ d. inl refl;
  there = λ d h. absurd (false≢true h);
}

pub none_wanted : (wanted : List ℕ) → nat_eq (length wanted) 0 ≡ true → wanted ≡ []
none_wanted [] h = refl
none_wanted (d ∷ wanted) h =
    let some : nat_eq (suc (length wanted)) 0 ≡ false = grind arith in
    absurd (false≢true (sym some ∙ h))

-- what is told over tables that have what a query reads is told over all tables over the stored ones
pub told_over_all : ((m : Model) (now : ℤ) (s : Sources) (b : Bound) → HasRowsFor m s b
    → told_over (explore_at (placed_model now m) b.explore) s b ≡ told_over (explore_at (placed_model now m) b.explore) (whole m s) b)
    → (m n : Model) (at now : ℤ) (s : Sources) (stored : List Rows) (b : Bound) (result : Result Told AskFault) → m ≡ n → at ≡ now → s.stored ≡ stored → HasRowsFor m s b
    → IsUnlessMemory is_no_memory result (told_over (explore_at (placed_model at m) b.explore) s b) → IsUnlessMemory is_no_memory result (told_at n now stored b)
told_over_all decides m n at now s stored b result same moment are has told =
    subst (IsUnlessMemory is_no_memory result)
    (decides m at s b has ∙ (λ i. told_over (explore_at (placed_model (moment i) (same i)) b.explore) (sources_over (same i) (are i)) b)) told

-- ---- the reply

pub reply_is : (m : Model) (csv in_csv : Bool) (number : ℕ) (b : Bound) (x : Explore) (told : Told) (reply : Reply) (t : Result Told AskFault)
    → Ok told ≡ t → told.bound ≡ b → x ≡ explore_at m b.explore → in_csv ≡ (csv || told.bound.csv) → reply ≡ answer_reply in_csv x told number → Ok reply ≡ named m csv number t
reply_is m csv in_csv number b x told reply t is of here asked so =
    ap Ok (so ∙ (λ i. answer_reply (asked i) ((here ∙ ap (λ (c : Bound). explore_at m c.explore) (sym of)) i) told number)) ∙ ap (named m csv number) is

-- a refusal is no reply
pub refusal_is : (m : Model) (csv : Bool) (number : ℕ) (why : AskFault) (t : Result Told AskFault) (lost : Bool) → Unless lost (Err why ≡ t) → Unless lost (Err why ≡ named m csv number t)
refusal_is m csv number why t true is = tt
refusal_is m csv number why t false is = ap (named m csv number) is

-- a body that binds so is answered so
pub asked_is : (e : Standing) (user explore body : List ℕ) (at now : ℤ) (csv : Bool) (bound : Result Bound QueryFault) (result : Result Reply AskFault) → at ≡ now
    → IsBodyBound e.model e.users user explore body at bound → IsUnlessMemory is_no_memory result (answered e at csv bound)
    → UnlessMemory is_no_memory result (IsAnswered e user explore body now csv)
asked_is e user explore body at now csv bound result moment is told =
    subst (λ n. UnlessMemory is_no_memory result (IsAnswered e user explore body n csv)) moment (by_case result told)
  where
    by_fault : (fault : AskFault) (lost : Bool) → Unless lost (Err fault ≡ answered e at csv bound) → Unless lost (IsAnswered e user explore body at csv (Err fault))
    by_fault fault true h = tt
    by_fault fault false h = record { bound = bound; is_bound = is; is = h }

    by_case : (r : Result Reply AskFault) → IsUnlessMemory is_no_memory r (answered e at csv bound) → UnlessMemory is_no_memory r (IsAnswered e user explore body at csv)
    by_case (Ok reply) h = record { bound = bound; is_bound = is; is = h }
    by_case (Err fault) h = by_fault fault (is_no_memory fault) h
