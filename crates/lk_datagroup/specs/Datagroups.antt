-- What a datagroup says, and its first fault. (Looker, LookML reference: datagroup)
use Rattle.std.specs.Prelude.{ℕ, Bool, pos, not, List, ◌++◌, Option, None, is_some, codes}
use Rattle.std.specs.Option.{option_and_then, option_map}
use Rattle.lk_read.specs.declared.tree.Item.{Item}
use Rattle.lk_read.specs.declared.tree.Node.{Node}
use Rattle.lk_types.specs.declared.schema.Schema.{Schema}
use Rattle.lk_types.specs.declared.model.Trigger.{Trigger}
use Rattle.lk_objects.specs.declared.datagroup.DeclaredDatagroup.{DeclaredDatagroup}
use Rattle.lk_params.specs.declared.owner.Owner.TheVariants as owner
use Rattle.lk_params.specs.declared.number.Order.TheVariants as order
use Rattle.lk_params.specs.declared.finding.Finding.{Finding}
use Rattle.lk_params.specs.Findings.{soonest}
use Rattle.lk_params.specs.Known.{block_findings}
use Rattle.lk_params.specs.Parameters.{last_named}
use Rattle.lk_params.specs.Values.{code, scalar}
use Rattle.lk_written.specs.Values.{is_wrong_at}
use Rattle.lk_written.specs.ValueFindings.{wrong}
use Rattle.lk_datagroup.specs.Intervals.{interval_of}
use Rattle.lk_datagroup.specs.Triggers.{trigger_of}

-- what the code of a trigger watches
abbrev pub watched_by : Schema → Node → Option Trigger
watched_by schema value = option_and_then (trigger_of schema) (code value)

-- the interval of a word or a string, in seconds
abbrev pub interval_in : Node → Option ℕ
interval_in value = option_and_then interval_of (scalar value)

abbrev pub trigger_at : Schema → List Item → Option Trigger
trigger_at schema items = option_and_then (λ item. watched_by schema item.value) (last_named (codes "sql_trigger") items)

abbrev pub interval_at : List Item → Option ℕ
interval_at items = option_and_then (λ item. interval_in item.value) (last_named (codes "interval_trigger") items)

-- a value outside the profile at a parameter of the datagroup
abbrev pub wrong_at : List ℕ → List ℕ → Bool → List Finding
wrong_at name parameter so = wrong order.Object name parameter parameter so

-- a parameter that may not stand there or not again, Liquid, and a trigger or an interval outside the profile; an interval
-- does not excuse a wrong trigger beside it
abbrev pub datagroup_findings : Schema → List ℕ → List Item → List Finding
datagroup_findings schema name items =
    block_findings order.Object owner.Datagroup name None items
    ++ wrong_at name (codes "sql_trigger") (is_wrong_at (λ value. not (is_some (watched_by schema value))) (codes "sql_trigger") items)
    ++ wrong_at name (codes "interval_trigger") (is_wrong_at (λ value. not (is_some (interval_in value))) (codes "interval_trigger") items)

abbrev pub datagroup_of : Schema → List ℕ → List Item → DeclaredDatagroup
datagroup_of schema name items = record {
  name = name;
  trigger = trigger_at schema items;
  interval = option_map pos (interval_at items);
  first = soonest (datagroup_findings schema name items);
}
