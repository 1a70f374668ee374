use Rattle.std.proofs.Common.{◌∙◌, ap}
use Rattle.serde_json.specs.Written.{has_float}
use Rattle.lk_reply.proofs.JsonLaws.{answer_plain}
use Rattle.lk_reply.proofs.json_answer.print_answer_json.Goals as goal

pub print_value-requires : goal.print_value-requires
print_value-requires c = ap has_float c.in_ok-value.ensures ∙ answer_plain c.args.x.now c.args.told.now c.args.snapshot
