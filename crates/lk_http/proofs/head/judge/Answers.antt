use Rattle.std.proofs.Common.{ap, Err}
use Rattle.httparse.specs.Spans.{IsRequestOf}
use Rattle.lk_http.proofs.HeadLemmas.{if_complete, whole_if, none_if_many, over_if_many}
use Rattle.lk_http.proofs.head.judge.Goals as goal

pub returns-in-Ok-Complete : goal.returns-in-Ok-Complete
returns-in-Ok-Complete c =
    whole_if c.args.head.now c.requires c.parse_request.new.headers c.in-Ok-Complete.field-0-0
    (if_complete (IsRequestOf c.args.head.now c.parse_request.new.headers) c.in-Ok-Complete.field-0 c.in-Ok-Complete.field-0-0 c.in-Ok-Complete.field-0-is c.in-Ok-Complete.ensures.complete) c.parse_request.auto.headers

pub returns-in-Err-TooManyHeaders : goal.returns-in-Err-TooManyHeaders
returns-in-Err-TooManyHeaders c = (
  none_if_many _ c.requires c.in-Err-TooManyHeaders.ensures.no_room,
  over_if_many _ (c.in-Err-TooManyHeaders.ensures.too_many (ap Err c.in-Err-TooManyHeaders.field-0-is)),
)
