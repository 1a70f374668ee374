-- What is looked at before a query's body, and what the caller brings to the access filters.
use Rattle.std.specs.Prelude.{ℕ, ⊤, if◌then◌else◌, List, position, Option, option_map, Result, Ok, Err}
use Rattle.lk_val.specs.Texts.{is_same_text}
use Rattle.lk_types.specs.declared.explore.Explore.{Explore}
use Rattle.lk_types.specs.declared.model.Model.{Model}
use Rattle.lk_types.specs.declared.model.Pick.TheVariants.{Dim}
use Rattle.lk_semantics.specs.Rows.{field_at}
use Rattle.lk_schema.specs.Users.{has_user, attribute_of}
use Rattle.lk_schema.specs.declared.users.Users.{Users}
use Rattle.lk_body.specs.declared.fault.QueryFault.{QueryFault}
use Rattle.lk_body.specs.declared.fault.QueryFault.TheVariants.{Q1, Q2, Q5}
use Rattle.lk_query.specs.Refusals.{found_or, each_found}
use Rattle.lk_query.specs.Names.{filter_on}
use Rattle.lk_query.specs.declared.texts.FilterText.{FilterText}

-- the user is known, or Q2
abbrev pub user_known : Users → List ℕ → Result ⊤ QueryFault
user_known users user = if has_user users user then Ok tt else Err (Q2 user)

-- the number of the explore of a name, or Q1
abbrev pub explore_named : Model → List ℕ → Result ℕ QueryFault
explore_named m name = found_or (Q1 name) (position (λ x. is_same_text name x.name) m.explores)

-- an access filter's text: the caller's value of its attribute, if the caller has it (Looker, LookML reference: access_filter)
abbrev pub access_text : Explore → Users → List ℕ → ℕ × List ℕ → Option FilterText
access_text x users user access = option_map (filter_on x (Dim access.0) (field_at x access.0).name) (attribute_of users user access.1)

-- the caller lacks the attribute
abbrev pub lacks : Explore → ℕ × List ℕ → QueryFault
lacks x access = Q5 (field_at x access.0).name access.1

-- the texts of an explore's access filters, as declared, or Q5 for the first whose attribute the caller lacks
abbrev pub access_texts : Explore → Users → List ℕ → Result (List FilterText) QueryFault
access_texts x users user = each_found (lacks x) (access_text x users user) x.access
