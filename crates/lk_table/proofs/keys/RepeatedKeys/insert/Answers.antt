use Rattle.std.proofs.Common.{◌∙◌, ap, List}
use Rattle.std.specs.Prelude.{◌||◌}
use Rattle.lk_val.specs.Sets.{has}
use Rattle.lk_val.specs.Values.{is_same, value_cmp}
use Rattle.lk_val.specs.declared.value.Value.{Value}
use Rattle.lk_table.proofs.KeyLaws.{inserted}
use Rattle.lk_table.proofs.keys.RepeatedKeys.insert.Goals as goal

pub returns : goal.returns
returns c = λ k.
    inserted k c.args.key c.insert.new.self.keys c.self.inside.set.keys (c.in_ok-insert.ensures.updates.0 k)
    ∙ ap (λ (keys : List Value). is_same c.args.key k || has value_cmp k keys) c.self.view_is
