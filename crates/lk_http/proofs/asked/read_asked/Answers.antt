use Rattle.httparse.specs.Borrowed.{HoldsSomeRequest}
use Rattle.lk_http.proofs.HeadLemmas.{if_complete}
use Rattle.lk_http.proofs.ReadingLemmas.{whole_of_parse, value_is, number_is, asked_by}
use Rattle.lk_http.proofs.asked.read_asked.Goals as goal

pub returns : goal.returns
returns c =
    let request = c.parse.new.self in
    let found = if_complete (HoldsSomeRequest c.args.head.now request) c.in-Ok-Complete.field-0 c.in-Ok-Complete.field-0-0 c.in-Ok-Complete.field-0-is c.in-Ok-Complete.ensures.complete in
    let some = c.in-Some-Some-Some in (
      found.0,
      whole_of_parse c.args.head.now c.requires.whole found.0 _ found.1.reads,
      asked_by found.0 _ some.method.now some.path.now some.minor _
          (value_is request.method some.method found.0.method found.1.method some.is-0)
          (value_is request.path some.path found.0.target found.1.path some.is-1)
          (number_is request.version some.minor found.0.minor found.1.version some.is-2)
          found.1.fields
          c.eq-post.ensures c.closes.ensures c.body_length.ensures c.copy_parts.ensures,
    )
