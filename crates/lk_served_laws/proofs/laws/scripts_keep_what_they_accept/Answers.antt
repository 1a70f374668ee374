use Rattle.lk_served_laws.proofs.ServedLaws.{scripts_keep}
use Rattle.lk_served_laws.proofs.laws.scripts_keep_what_they_accept.Goals as goal

pub returns : goal.returns
returns g c =
    scripts_keep c.sessions_accept_steps.ensures.accepted c.sessions_keep_a_ledger.ensures.ledger c.ids_append_at_most_once.ensures.same
    c.stores_hold_the_last_state.ensures c.schemas_name_their_columns.ensures c.words_have_one_reply.ensures.loads
    (g.K.Keeper.held c.args.store.now) (g.K.Keeper.handed c.args.store.now)
