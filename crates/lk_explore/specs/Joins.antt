-- What a join of an explore says, and its first fault. (Looker, LookML reference: join)
use Rattle.std.specs.Prelude.{◌≡◌, ℕ, Bool, false, true, not, ◌&&◌, if◌then◌else◌, List, ◌++◌, [], Option, Some, None, is_some, codes}
use Rattle.std.specs.Option.{option_and_then}
use Rattle.lk_val.specs.Texts.{is_same_text}
use Rattle.lk_read.specs.declared.tree.Item.{Item}
use Rattle.lk_read.specs.declared.tree.Node.{Node}
use Rattle.lk_types.specs.declared.explore.JoinKind.{JoinKind}
use Rattle.lk_types.specs.declared.explore.JoinKind.TheVariants as join_kind
use Rattle.lk_types.specs.declared.explore.Relation.{Relation}
use Rattle.lk_types.specs.declared.explore.Relation.TheVariants as relation
use Rattle.lk_objects.specs.declared.code.Code.{Code}
use Rattle.lk_objects.specs.declared.explore.DeclaredJoin.{DeclaredJoin}
use Rattle.lk_params.specs.declared.owner.Owner.TheVariants as owner
use Rattle.lk_params.specs.declared.number.Order.TheVariants as order
use Rattle.lk_params.specs.declared.number.Number.TheVariants.{N8}
use Rattle.lk_params.specs.declared.finding.Finding.{Finding}
use Rattle.lk_params.specs.Findings.{finding, named_line, soonest}
use Rattle.lk_params.specs.Known.{block_findings, if_so}
use Rattle.lk_params.specs.Values.{scalar}
use Rattle.lk_written.specs.CodeFindings.{code_findings}
use Rattle.lk_written.specs.Codes.{IsCode}
use Rattle.lk_written.specs.Values.{code_at, is_missing, is_wrong_at, text_at}
use Rattle.lk_explore.specs.Values.{are_no_words, is_no_text, view_or, words_at, wrong_at}

-- ---- values

abbrev pub kind_named : List ℕ → Option JoinKind
kind_named name =
    if is_same_text name (codes "left_outer") then Some join_kind.Left
    else if is_same_text name (codes "full_outer") then Some join_kind.Full
    else if is_same_text name (codes "inner") then Some join_kind.Inner
    else if is_same_text name (codes "cross") then Some join_kind.Cross
    else None

abbrev pub or_left : Option JoinKind → JoinKind
or_left None = join_kind.Left
or_left (Some k) = k

-- `left_outer` where the type is missing or no type
abbrev pub kind_of : List Item → JoinKind
kind_of items = or_left (option_and_then kind_named (text_at (codes "type") items))

abbrev pub relation_named : List ℕ → Option Relation
relation_named name =
    if is_same_text name (codes "many_to_one") then Some relation.ManyToOne
    else if is_same_text name (codes "one_to_one") then Some relation.OneToOne
    else if is_same_text name (codes "one_to_many") then Some relation.OneToMany
    else if is_same_text name (codes "many_to_many") then Some relation.ManyToMany
    else None

abbrev pub or_many_to_one : Option Relation → Relation
or_many_to_one None = relation.ManyToOne
or_many_to_one (Some r) = r

-- `many_to_one` where the relationship is missing or none
abbrev pub relation_of : List Item → Relation
relation_of items = or_many_to_one (option_and_then relation_named (text_at (codes "relationship") items))

-- ---- faults

abbrev pub is_cross : JoinKind → Bool
is_cross join_kind.Cross = true
is_cross k = false

-- both of `sql_on` and `foreign_key`, or none
abbrev pub lacks_condition : List Item → Bool
lacks_condition items =
    if is_missing (codes "sql_on") items then is_missing (codes "foreign_key") items
    else not (is_missing (codes "foreign_key") items)

abbrev pub is_no_kind : Node → Bool
is_no_kind value = not (is_some (option_and_then kind_named (scalar value)))

abbrev pub is_no_relation : Node → Bool
is_no_relation value = not (is_some (option_and_then relation_named (scalar value)))

-- a view, a type and a relationship outside the profile
abbrev pub sort_findings : List ℕ → List Item → List Finding
sort_findings join items =
    wrong_at join (codes "from") (is_wrong_at is_no_text (codes "from") items)
    ++ wrong_at join (codes "type") (is_wrong_at is_no_kind (codes "type") items)
    ++ wrong_at join (codes "relationship") (is_wrong_at is_no_relation (codes "relationship") items)

-- a key and a list of joins outside the profile
abbrev pub name_findings : List ℕ → List Item → List Finding
name_findings join items =
    wrong_at join (codes "foreign_key") (is_wrong_at is_no_text (codes "foreign_key") items)
    ++ wrong_at join (codes "required_joins") (is_wrong_at are_no_words (codes "required_joins") items)

-- a join that is not a cross with both of its conditions, or with none
abbrev pub condition_findings : List ℕ → List Item → List Finding
condition_findings join items =
    if_so (not (is_cross (kind_of items)) && lacks_condition items) (finding order.Object N8 (codes "sql_on") (named_line N8 join []))

-- all that a join's own parameters show, given what its `sql_on` is read as
abbrev pub join_findings : List ℕ → List Item → Code → List Finding
join_findings join items on =
    block_findings order.Object owner.Join join None items
    ++ sort_findings join items
    ++ name_findings join items
    ++ condition_findings join items
    ++ code_findings order.Object join (codes "sql_on") on

-- ---- the join

-- the join is what its declaration says: its name and its parameters
pub record IsJoin (name : List ℕ) (items : List Item) (join : DeclaredJoin) : Type 0 where
  pub name_is : join.name ≡ name
  pub view_is : join.view ≡ view_or name items
  pub kind_is : join.kind ≡ kind_of items
  pub relation_is : join.relation ≡ relation_of items
  pub on_is : IsCode false (code_at (codes "sql_on") items) join.on
  pub key_is : join.foreign_key ≡ text_at (codes "foreign_key") items
  pub required_are : join.required ≡ words_at (codes "required_joins") items
  pub first_is : join.first ≡ soonest (join_findings name items join.on)
