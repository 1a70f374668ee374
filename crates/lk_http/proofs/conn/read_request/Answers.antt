use Rattle.lk_http.specs.declared.reading.Front.TheVariants.{Ended, Head}
use Rattle.lk_io.specs.Causes.{Rose}
use Rattle.lk_http.proofs.HeadLemmas.{open_at_first}
use Rattle.lk_http.proofs.AnswerLemmas.{at_border, front_is, head_fault, read_fault_of_body, request_next}
use Rattle.lk_http.proofs.ReadingLemmas.{only_reads_on, rose_on}
use Rattle.lk_http.proofs.WayLemmas.{way_behind}
use Rattle.lk_http.proofs.conn.read_request.Goals as goal

pub returns-in-Ok-Head-clause-next : goal.returns-in-Ok-Head-clause-next
returns-in-Ok-Head-clause-next g c =
    let left' = g.L.Source.left c.read_head.new.link in
    let head = c.read_head.new.head.items in
    request_next (g.L.Source.left c.args.link.now) left' (g.L.Source.left c.read_body-body.new.link) head c.as_slice.result.now c.read_asked-asked.result c.read_body-body.result c.route.result
    c.read_head.ensures.taken (front_is left' head c.in-Ok-Head.field-0 Head c.in-Ok-Head.field-0-is c.in-Ok-Head.ensures.read) c.as_slice.ensures.value c.read_asked-asked.ensures c.read_body-body.ensures.read c.route.ensures

pub returns-in-Ok-Head-clause-link : goal.returns-in-Ok-Head-clause-link
returns-in-Ok-Head-clause-link g c = only_reads_on c.read_head.ensures.link c.read_body-body.ensures.link

pub returns-in-Ok-Head-clause-cause : goal.returns-in-Ok-Head-clause-cause
returns-in-Ok-Head-clause-cause g c = λ failed.
    let before = g.L.Source.faults c.read_head.new.link in
    let after = g.L.Source.faults c.read_body-body.new.link in
    rose_on (g.L.Source.faults c.args.link.now) before after c.read_head.ensures.link.later
    (read_fault_of_body (g.L.Source.left c.read_head.new.link) (g.L.Source.left c.read_body-body.new.link) c.as_slice.result.now c.read_asked-asked.result c.read_body-body.result c.route.result (Rose before after)
    c.read_asked-asked.ensures c.read_body-body.ensures.read c.route.ensures c.read_body-body.ensures.cause failed)

pub returns-in-Ok-Head-clause-pulls : goal.returns-in-Ok-Head-clause-pulls
returns-in-Ok-Head-clause-pulls g c = way_behind g.L.Source.keeps_at_pull c.args.link.now c.read_head.new.link c.read_body-body.new.link c.read_head.ensures.pulls c.read_body-body.ensures.pulls

pub returns-in-Ok-Ended-clause-next : goal.returns-in-Ok-Ended-clause-next
returns-in-Ok-Ended-clause-next g c =
    let left' = g.L.Source.left c.read_head.new.link in
    at_border (g.L.Source.left c.args.link.now) left' c.read_head.new.head.items c.conn.inside.close c.read_head.ensures.taken
    (front_is left' c.read_head.new.head.items c.in-Ok-Ended.field-0 Ended c.in-Ok-Ended.field-0-is c.in-Ok-Ended.ensures.read) open_at_first

pub returns-in-Err-clause-next : goal.returns-in-Err-clause-next
returns-in-Err-clause-next g c =
    head_fault (g.L.Source.left c.args.link.now) (g.L.Source.left c.read_head.new.link) c.read_head.new.head.items c.conn.inside.close c.in-Err.fault c.read_head.ensures.taken c.in-Err.ensures.read
