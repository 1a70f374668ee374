-- The pieces are those of the printed head.
use Rattle.std.proofs.Common.{◌∙◌, ◌++◌, codes}
use Rattle.lk_http.specs.Replies.{printed_head, line_end}
use Rattle.lk_http.proofs.reply.print_head.Goals as goal

pub returns : goal.returns
unfolding printed_head
returns c =
    let code = c.as_bytes.ensures.value ∙ c.format.ensures.text in
    let reason = c.as_bytes-2.ensures.value ∙ c.reason_of.ensures in
    let count = c.as_bytes-3.ensures.value ∙ c.format-2.ensures.text in
    c.gather.ensures
    ∙ (λ i. codes "HTTP/1.1 " ++ (code i ++ (codes " " ++ (reason i ++ (line_end ++ (c.type_line.ensures i ++ (codes "Content-Length: " ++ (count i ++ (line_end ++ (c.allow_line.ensures i ++ (c.close_line.ensures i ++ line_end)))))))))))
