-- The rows of a plan's conditions are those of its query at each moment, and its groups ascend.
use Rattle.std.proofs.Common.{◌≡◌, ◌∙◌, ℕ, ℤ, zero, suc, Bool, true, false, cond, ◌&&◌, arith, List, [], ◌∷◌, map, refl, sym, ap, subst}
use Rattle.std.specs.Option.{is_some}
use Rattle.std.specs.Prelude.{All, Option, filter}
use Rattle.std.specs.List.Sorted.{IsStrictlySortedBy}
use Rattle.lk_val.specs.Memory.{Unless}
use Rattle.lk_val.specs.Values.{tuple_cmp}
use Rattle.lk_val.specs.ValueOrder.{tuples_ordered}
use Rattle.lk_val.specs.declared.value.Value.{Value}
use Rattle.lk_val.proofs.SetLaws.{IsStrictlySortedBy-set_of}
use Rattle.lk_types.specs.declared.answer.GivenRow.{GivenRow}
use Rattle.lk_types.specs.declared.bound.Plan.{Plan}
use Rattle.lk_types.specs.declared.explore.Explore.{Explore}
use Rattle.lk_types.specs.declared.explore.Op.{Op}
use Rattle.lk_types.specs.declared.rows.Joined.{Joined}
use Rattle.lk_types.specs.declared.rows.Sources.{Sources}
use Rattle.lk_semantics.specs.Answers.{answer_of, answer_over}
use Rattle.lk_types.specs.Expressions.{is_true, value_of}
use Rattle.lk_semantics.specs.Joins.{is_met, joined_rows}
use Rattle.lk_semantics.specs.Measures.{group_row, group_rows, groups_of}
use Rattle.lk_semantics.specs.Rows.{passes_all, passing_rows, visible_rows}
use Rattle.lk_exec.specs.Visits.{rows_where}
use Rattle.lk_agg.specs.Finishing.{IsFaultOf}
use Rattle.lk_agg.specs.declared.fault.AggFault.{AggFault}
use Rattle.lk_agg.specs.declared.fault.AggFault.TheVariants as agg
use Rattle.lk_filter.specs.PlacedModel.{placed_explore}
use Rattle.lk_gather.specs.Asked.{IsPlan, does_pass}
use Rattle.lk_gather.specs.Groups.{fault_of, is_no_memory}
use Rattle.lk_placed_laws.proofs.PlacedLaws.{visible_are}

-- ---- groups

groups_ascend : (dims : ℕ) (rows : List GivenRow) → IsStrictlySortedBy tuple_cmp (groups_of dims rows)
unfolding IsStrictlySortedBy
groups_ascend zero rows = (tt, tt)
groups_ascend (suc n) rows = IsStrictlySortedBy-set_of tuples_ordered (map (λ row. row.group) rows)

map_groups : (ops : List Op) (rows : List GivenRow) (groups : List (List Value)) → map (λ row. row.group) (map (group_row ops rows) groups) ≡ groups
map_groups ops rows [] = refl
map_groups ops rows (g ∷ groups) = ap (λ gs. g ∷ gs) (map_groups ops rows groups)

pub rows_ascend : (dims : ℕ) (ops : List Op) (rows : List GivenRow) → IsStrictlySortedBy tuple_cmp (map (λ row. row.group) (group_rows dims ops rows))
rows_ascend dims ops rows = subst (IsStrictlySortedBy tuple_cmp) (sym (map_groups ops rows (groups_of dims rows))) (groups_ascend dims rows)

-- ---- rows

-- tests that agree on each of some rows keep the same
same_rows : (p q : Joined → Bool) (rows : List Joined) → All (λ row. p row ≡ q row) rows → filter p rows ≡ filter q rows
same_rows p q [] same = refl
same_rows p q (row ∷ rows) same =
    let here = same 0 row (omega arith) in
    let rest = same_rows p q rows (λ k d within. same (suc k) d (omega (arith, within))) in
    λ i. cond (here i) (row ∷ rest i) (rest i)

-- and on those that another test keeps
same_kept : (p q keep : Joined → Bool) (rows : List Joined) → All (λ row. p row ≡ q row) rows → filter p (filter keep rows) ≡ filter q (filter keep rows)
same_kept p q keep [] same = refl
same_kept p q keep (row ∷ rows) same =
    let here = same 0 row (omega arith) in
    let rest = same_kept p q keep rows (λ k d within. same (suc k) d (omega (arith, within))) in
    elim (keep row) as (λ b. filter p (cond b (row ∷ filter keep rows) (filter keep rows)) ≡ filter q (cond b (row ∷ filter keep rows) (filter keep rows))) [
      | true ↦ λ i. cond (here i) (row ∷ rest i) (rest i)
      | false ↦ rest
    ]

module _ (now : ℤ) (x : Explore) (s : Sources) (plan : Plan) (h : IsPlan x s plan) where
  abbrev y : Explore
  y = placed_explore now x

  pub seen_are : rows_where plan.visible (joined_rows x s plan.bound.joins) ≡ visible_rows y s plan.bound
  seen_are =
      same_rows (λ row. is_true (value_of plan.visible row)) (passes_all x plan.bound.access) (joined_rows x s plan.bound.joins) h.visible
      ∙ sym (visible_are now x s plan.bound)

  passing_are : filter (does_pass plan) (visible_rows x s plan.bound) ≡ passing_rows x plan.bound.rows (visible_rows x s plan.bound)
  passing_are =
      same_kept (does_pass plan) (λ row. is_met x.always_where row && passes_all x plan.bound.rows row) (passes_all x plan.bound.access)
      (joined_rows x s plan.bound.joins) h.passing

  -- the passing ones of the rows that were visited are those that the query counts
  pub counted_are : filter (does_pass plan) (rows_where plan.visible (joined_rows x s plan.bound.joins)) ≡ passing_rows y plan.bound.rows (visible_rows y s plan.bound)
  counted_are =
      ap (filter (does_pass plan)) (seen_are ∙ visible_are now x s plan.bound) ∙ passing_are
      ∙ ap (passing_rows x plan.bound.rows) (sym (visible_are now x s plan.bound))

  -- and the answer over them is that of the query
  pub answer_is : answer_over y plan.bound (filter (does_pass plan) (rows_where plan.visible (joined_rows x s plan.bound.joins))) ≡ answer_of y s plan.bound
  answer_is = ap (answer_over y plan.bound) counted_are

-- ---- faults

-- a fault of the accumulator tells that there is a conflict, unless memory is wanting
pub conflict_told : (fault : AggFault) (conflict : Option (ℕ × Value)) → IsFaultOf fault conflict → Unless (is_no_memory (fault_of fault)) (is_some conflict ≡ true)
conflict_told (agg.Conflict measure key) conflict is = ap is_some is
conflict_told agg.NoMemory conflict is = tt
