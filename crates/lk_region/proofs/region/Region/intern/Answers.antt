use Rattle.std.proofs.Common.{ℕ, Some, cond, nat_eq, ap, ap₂, ◌∙◌}
use Rattle.std.specs.HashMap.{get}
use Rattle.lk_region.proofs.RegionLaws.{added_once}
use Rattle.lk_region.proofs.ChainLaws.{added_chained, reserved_chained}
use Rattle.lk_region.proofs.region.Region.intern.Goals as goal

pub invariant_of-self-2 : goal.invariant_of-self-2
invariant_of-self-2 c =
    let texts = c.self.inside.texts in
    let text = c.args.text.now in
    let chained = reserved_chained texts c.self.inside.latest c.reserve-2.new.self c.self.inside.earlier.items
    c.reserve.new.self.items c.self.invariant.1 c.reserve-2.ensures.entries.2 c.reserve.ensures.items in
    rw c.in_ok-push.ensures.ok (
      added_once text texts c.self.invariant.0 (rw c.self.view_is c.in_default.ensures.absent),
      added_chained texts text c.reserve-2.new.self c.insert.new.self c.reserve.new.self.items
          c.push_reserved.new.self.items c.in_ok-earlier.earlier chained
          (λ hash. c.in_ok-earlier.ensures.updates.0 hash
          ∙ ap₂ (λ (key number : ℕ). cond (nat_eq key hash) (Some number) (get nat_eq c.reserve-2.new.self hash))
          c.hash_of.ensures c.len-number.ensures)
          (c.in_ok-earlier.ensures.old ∙ ap (get nat_eq c.reserve-2.new.self) c.hash_of.ensures)
          c.push_reserved.ensures.items,
    )
