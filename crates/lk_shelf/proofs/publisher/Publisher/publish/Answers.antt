use Rattle.std.proofs.Common.{◌≡◌, ap, sym, subst, ◌∙◌, Some}
use Rattle.std.specs.Arc.{arc_value}
use Rattle.lk_front.specs.Chains.{EndsIn}
use Rattle.lk_shelf.proofs.ChainGrowth.{chain_goes_on}
use Rattle.lk_shelf.proofs.Offers.{offered_is}
use Rattle.lk_shelf.proofs.publisher.Publisher.publish.Goals as goal

-- the offer may stand behind the last value, so the list with it is a chain
pub add-requires-clause-chain : goal.add-requires-clause-chain
add-requires-clause-chain g c =
    let inside = c.self.inside in
    let offer = c.requires.0 in
    let value = c.deref.result.now in
    let taken : inside.offered ≡ Some c.in-Some.next = sym c.take.ensures.value ∙ c.in-Some.is in
    let is_offer : offer ≡ value = offered_is arc_value inside.offered c.in-Some.next offer taken (ap (λ seen. seen.1) c.self.view_is ∙ c.requires.1) ∙ sym c.deref.ensures in
    let list : c.args.self.now.0 ≡ inside.front = sym (ap (λ seen. seen.0) c.self.view_is) in
    chain_goes_on g.T.Entry.begins g.T.Entry.follows inside.front value c.len.ensures.chain c.self.invariant.0
    (λ last ends. subst (λ next. g.T.Entry.follows last next) is_offer (c.requires.2 last (subst (λ values. EndsIn values last) (sym list) ends)))
