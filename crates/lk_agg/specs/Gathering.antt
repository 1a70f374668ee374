-- The groups of the rows that were taken, each with what it keeps for each measure.
use Rattle.std.specs.Prelude.{◌≡◌, ℕ, zero, suc, ◌+◌, List, [], ◌∷◌, map}
use Rattle.std.specs.Ordering.{match_ordering}
use Rattle.lk_val.specs.Values.{tuple_cmp}
use Rattle.lk_val.specs.declared.value.Value.{Value}
use Rattle.lk_semantics.specs.Measures.{entries_of, groups_of}
use Rattle.lk_types.specs.declared.answer.GivenRow.{GivenRow}
use Rattle.lk_types.specs.declared.explore.Op.{Op}
use Rattle.lk_agg.specs.declared.acc.Acc.{Acc}
use Rattle.lk_agg.specs.declared.columns.Column.{Column}
use Rattle.lk_agg.specs.Columns.{column_of, fresh}

-- a group's columns, from the measure at place i on
abbrev pub columns_at : ℕ → List Op → List GivenRow → List Value → List Column
columns_at i [] rows group = []
columns_at i (o ∷ ops) rows group = column_of o (entries_of i rows group) ∷ columns_at (i + 1) ops rows group

-- each group with its columns, ascending
abbrev pub gathered : ℕ → List Op → List GivenRow → List (List Value × List Column)
gathered dims ops rows = map (λ group. (group, columns_at 0 ops rows group)) (groups_of dims rows)

-- before any row there is the one empty group without dimensions, and else none
abbrev pub gathered_from_none : ℕ → List Op → List (List Value × List Column)
gathered_from_none zero ops = ([], map fresh ops) ∷ []
gathered_from_none (suc n) ops = []

-- the entries of a map with a step at a key, which is `new` before its first step
abbrev pub with_step : {S : Type 0} → S → (S → S) → List (List Value × S) → List Value → List (List Value × S)
with_step new step [] group = (group, step new) ∷ []
with_step new step (e ∷ es) group =
    match_ordering (tuple_cmp group e.0) ((group, step new) ∷ e ∷ es) ((e.0, step e.1) ∷ es) (e ∷ with_step new step es group)

-- the accumulator was given these rows, for groups of so many dimensions and these measures
pub record HasTaken (acc : Acc) (dims : ℕ) (ops : List Op) (rows : List GivenRow) : Type 0 where
  pub shape : acc.dims ≡ dims
  pub measures : acc.ops ≡ ops
  pub groups : acc.groups.entries ≡ gathered dims ops rows
