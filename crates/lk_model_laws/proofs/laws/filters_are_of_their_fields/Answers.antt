use Rattle.lk_model_laws.proofs.FilterModelLaws.{have_times, have_typed_filters, have_typed_sources}
use Rattle.lk_model_laws.proofs.laws.filters_are_of_their_fields.Goals as goal

pub returns : goal.returns
returns c = record { explores = have_typed_filters; derived = have_typed_sources; times = have_times }
