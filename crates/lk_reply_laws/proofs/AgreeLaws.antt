-- What callers who see the same are replied is the same.
use Rattle.std.proofs.Common.{◌≡◌, ◌∙◌, ℕ, ℤ, Bool, true, false, List, length, refl, sym, ap, subst}
use Rattle.std.specs.Prelude.{Result, Ok, Err, if◌then◌else◌, nat_lt}
use Rattle.lk_types.specs.Tables.{Rows}
use Rattle.lk_types.specs.declared.answer.Answer.{Answer}
use Rattle.lk_types.specs.declared.answer.Answer.TheVariants as answer
use Rattle.lk_types.specs.declared.answer.Reply.{Reply}
use Rattle.lk_types.specs.declared.answer.Route.{Route}
use Rattle.lk_types.specs.declared.answer.RouteFrom.{RouteFrom}
use Rattle.lk_types.specs.declared.answer.RouteFrom.TheVariants as from
use Rattle.lk_types.specs.declared.bound.Bound.{Bound}
use Rattle.lk_types.specs.declared.explore.Explore.{Explore}
use Rattle.lk_types.specs.declared.filter.Filter.{Filter}
use Rattle.lk_types.specs.declared.model.Model.{Model}
use Rattle.lk_types.specs.declared.rows.Joined.{Joined}
use Rattle.lk_types.specs.declared.rows.Sources.{Sources}
use Rattle.lk_semantics.specs.Answers.{answer_over, filtered}
use Rattle.lk_semantics.specs.Derived.{explore_at}
use Rattle.lk_semantics.specs.Rollups.{route_of}
use Rattle.lk_semantics.specs.Rows.{passing_rows, visible_rows}
use Rattle.lk_filter.specs.PlacedModel.{placed_model}
use Rattle.lk_route.specs.Routes.{built_numbers}
use Rattle.lk_keeps.specs.Keeps.{sources_over}
use Rattle.lk_body.specs.declared.fault.QueryFault.{QueryFault}
use Rattle.lk_query.specs.Bindings.{IsBodyBound}
use Rattle.lk_ask.specs.Asks.{refused, told_by}
use Rattle.lk_ask.specs.declared.fault.AskFault.{AskFault}
use Rattle.lk_ask.specs.declared.fault.AskFault.TheVariants as fault
use Rattle.lk_ask.specs.declared.told.Told.{Told}
use Rattle.lk_reply.specs.Answers.{answer_text}
use Rattle.lk_reply.specs.JsonAnswers.{answer_json}
use Rattle.lk_state.specs.States.{State}
use Rattle.lk_edition.specs.Histories.{states_of}
use Rattle.lk_edition.specs.Standings.{Standing}
use Rattle.lk_answer.specs.Answers.{named, told_at}
use Rattle.lk_answer.specs.Replies.{replied, tables_at, told_of}
use Rattle.lk_reply_laws.specs.Agree.{Agree, SeeAlike, seen}
use Rattle.lk_reply_laws.proofs.CallerLaws.{DiffersInAccess, bodies_differ}

-- ---- what is replied does not show the access filters

module _ (m : Model) (csv : Bool) (number : ℕ) (x : Explore) (b : Bound) (access : List (ℕ × Filter)) where
  by_alike : (visited : ℕ) (a : Answer) → named m csv number (told_by x (record b { access = access }) visited a) ≡ named m csv number (told_by x b visited a)
  unfolding answer_text answer_json
  by_alike visited (answer.Table rows complete) = refl
  by_alike visited (answer.Duplicate measure key) = refl

  unless_alike : (many : Bool) (visited : ℕ) (a : Answer)
      → named m csv number (if many then Err fault.Q10 else told_by x (record b { access = access }) visited a) ≡ named m csv number (if many then Err fault.Q10 else told_by x b visited a)
  unless_alike true visited a = refl
  unless_alike false visited a = by_alike visited a

-- what is told of the rows that are seen
abbrev told_seen : Explore → Bound → List Joined → Result Told AskFault
told_seen x b rows = if nat_lt 1000000 (length rows) then Err fault.Q10 else told_by x b (length rows) (answer_over x b (passing_rows x b.rows rows))

module _ (visible : (m : Model) (now : ℤ) (s : Sources) (b : Bound) → visible_rows (explore_at (placed_model now m) b.explore) s b ≡ visible_rows (explore_at m b.explore) s b)
    (m : Model) (now : ℤ) (csv : Bool) (number : ℕ) (b : Bound) (access : List (ℕ × Filter)) (stored other : List Rows) where
  abbrev c : Bound
  c = record b { access = access }

  abbrev x : Explore
  x = explore_at (placed_model now m) b.explore

  module _ (same : visible_rows (explore_at m b.explore) (sources_over m other) c ≡ visible_rows (explore_at m b.explore) (sources_over m stored) b) where
    rows_same : visible_rows x (sources_over m other) c ≡ visible_rows x (sources_over m stored) b
    rows_same = visible m now (sources_over m other) c ∙ same ∙ sym (visible m now (sources_over m stored) b)

    over_alike : named m csv number (told_at m now other c) ≡ named m csv number (told_at m now stored b)
    over_alike =
        let rows = visible_rows x (sources_over m stored) b in
        ap (λ shown. named m csv number (told_seen x c shown)) rows_same
        ∙ unless_alike m csv number x b access (nat_lt 1000000 (length rows)) (length rows) (answer_over x b (passing_rows x b.rows rows))

    told_alike : (route : RouteFrom) → named m csv number (told_of m now other c route) ≡ named m csv number (told_of m now stored b route)
    told_alike (from.Rollup r) =
        ap (λ shown. named m csv number (told_by x c 0 (answer_over x c (passing_rows x c.rows shown)))) rows_same
        ∙ by_alike m csv number x b access 0 (answer_over x b (passing_rows x b.rows (visible_rows x (sources_over m stored) b)))
    told_alike (from.Build g) = over_alike
    told_alike from.Current = over_alike

-- ---- two callers

module _ (visible : (m : Model) (now : ℤ) (s : Sources) (b : Bound) → visible_rows (explore_at (placed_model now m) b.explore) s b ≡ visible_rows (explore_at m b.explore) s b)
    (alike : (m : Model) (builds : List ℕ) (number : ℕ) (b : Bound) (access : List (ℕ × Filter)) → filtered access ≡ filtered b.access
    → route_of m builds number (record b { access = access }) ≡ route_of m builds number b) where
  -- a route's reply over the tables of a history
  abbrev over : Model → ℤ → Bool → (ℕ → List Rows) → Bound → Route → Result Reply AskFault
  over m now csv tables b route = named m csv route.number (told_of m now (tables route.number) b route.from)

  abbrev sees : Model → (ℕ → List Rows) → Bound → Route → List Joined
  sees m tables b route = visible_rows (explore_at m b.explore) (sources_over m (tables route.number)) b

  module _ (m : Model) (builds : List ℕ) (last : ℕ) (now : ℤ) (csv : Bool) (tables others : ℕ → List Rows) where
    routed_alike : (b c : Bound) → DiffersInAccess b c → sees m others c (route_of m builds last c) ≡ sees m tables b (route_of m builds last b)
        → over m now csv others c (route_of m builds last c) ≡ over m now csv tables b (route_of m builds last b)
    routed_alike b c differs same =
        let route = route_of m builds last b in
        let to = ap (route_of m builds last) differs.0 ∙ alike m builds last b c.access differs.1 in
        let rows = sym (λ i. sees m others (differs.0 i) (to i)) ∙ same in
        (λ i. over m now csv others (differs.0 i) (to i))
        ∙ told_alike visible m now csv route.number b c.access (tables route.number) (others route.number) rows route.from

  module _ (e f : Standing) (past later : List State) (model : f.model ≡ e.model) (number : f.state.number ≡ e.state.number) (builds : built_numbers f.builds ≡ built_numbers e.builds)
      (now : ℤ) (csv : Bool) where
    bound_alike : (b c : Bound) → DiffersInAccess b c → seen f later c ≡ seen e past b → replied f later now csv (Ok c) ≡ replied e past now csv (Ok b)
    bound_alike b c differs same =
        let tables : ℕ → List Rows = tables_at (states_of e past) in
        let others : ℕ → List Rows = tables_at (states_of f later) in
        let rows = sym (λ i. sees (model i) others c (route_of (model i) (builds i) (number i) c)) ∙ same in
        (λ i. over (model i) now csv others c (route_of (model i) (builds i) (number i) c))
        ∙ routed_alike e.model (built_numbers e.builds) e.state.number now csv tables others b c differs rows

    either_alike : (user other explore body : List ℕ) (bound also : Result Bound QueryFault) → IsBodyBound e.model e.users user explore body now bound
        → IsBodyBound f.model f.users other explore body now also → SeeAlike e past bound f later also → replied f later now csv also ≡ replied e past now csv bound
    either_alike user other explore body (Err fault) (Err also) h k see = ap (λ why. Err (refused why)) see
    either_alike user other explore body (Err fault) (Ok c) h k see = absurd see
    either_alike user other explore body (Ok b) (Err fault) h k see = absurd see
    either_alike user other explore body (Ok b) (Ok c) h k see =
        bound_alike b c (bodies_differ e.model e.users f.users user other now b c explore body h (subst (λ (m : Model). IsBodyBound m f.users other explore body now (Ok c)) model k)) see

  pub isolated : (e f : Standing) (past later : List State) (user other explore body : List ℕ) (now : ℤ) (csv : Bool) (a : Agree e past user f later other explore body now)
      → replied f later now csv a.bound_other ≡ replied e past now csv a.bound
  isolated e f past later user other explore body now csv a =
      either_alike e f past later a.model a.number a.builds now csv user other explore body a.bound a.bound_other a.is_bound a.is_bound_other a.see
