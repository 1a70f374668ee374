use Rattle.std.proofs.Common.{◌∙◌, ap}
use Rattle.serde_json.specs.Written.{compact_text, has_float}
use Rattle.lk_command_reply.specs.Replies.{built_text}
use Rattle.lk_command_reply.proofs.RefusalLaws.{built_plain}
use Rattle.lk_command_reply.proofs.replies.built_text.Goals as goal

pub returns : goal.returns
unfolding built_text
returns c =
    c.in_ok-text.ensures (ap has_float c.in_ok-value.ensures ∙ built_plain c.args.names c.args.snapshot) ∙ ap compact_text c.in_ok-value.ensures
