use Rattle.std.proofs.Common.{ap, sym, ◌∙◌}
use Rattle.lk_shelf.proofs.CountLaws.{counts}
use Rattle.lk_shelf.proofs.looks.Tally.add.Goals as goal

-- the word is that of the book, and the pen and the offer are as they come
pub compare_exchange-found-requires : goal.compare_exchange-found-requires
compare_exchange-found-requires c =
    let tally = c.args.self.now in
    let again = c.again-seen.ensures in
    let pen = c.no_pen-pen.ensures in
    let offer = c.plain-offer.ensures in
    let book = ap (λ seen. seen.book) again ∙ sym (ap (λ word. word.book) tally.word_is) in (
      ap (λ word. word.tracked) tally.word_is,
      book,
      pen.0 ∙ book,
      offer.0,
      rw (ap (λ word. word.key) tally.word_is, pen.1, offer.1, offer.3, ap (λ seen. seen.log) again) (counts tally.seen.log c.args.count c.args.number c.requires.0),
    )
