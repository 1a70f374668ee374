use Rattle.std.proofs.Common.{◌+◌, ◌*◌}
use Rattle.std.specs.List.{sum_by}
use Rattle.lk_grammar.specs.Forms.{form_size}
use Rattle.lk_grammar.proofs.steps.Search.+ways.Given as goal

abbrev pub decreases-ways : goal.decreases-ways
decreases-ways l = l.depth * sum_by form_size l.self.now.rules.now + form_size l.form.now
