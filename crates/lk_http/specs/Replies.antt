-- The bytes of a reply. (RFC 9112, section 4; lookd)
use Rattle.std.specs.Prelude.{ℕ, ◌==◌, Bool, false, if◌then◌else◌, List, [], ◌∷◌, ◌++◌, codes, decimal, length}
use Rattle.std.specs.List.{list_any}
use Rattle.lk_types.specs.declared.answer.Reply.{Reply}

-- the statuses of replies
abbrev pub statuses : List ℕ
statuses = 200 ∷ 400 ∷ 403 ∷ 404 ∷ 405 ∷ 409 ∷ 411 ∷ 413 ∷ 431 ∷ 503 ∷ 507 ∷ []

abbrev pub is_status : ℕ → Bool
is_status status = list_any (λ s. s == status) statuses

-- the reason phrase of each (RFC 9110, section 15; RFC 6585, section 5; RFC 4918, section 11.5)
abbrev pub reason_of : ℕ → List ℕ
reason_of status =
    if status == 200 then codes "OK"
    else if status == 400 then codes "Bad Request"
    else if status == 403 then codes "Forbidden"
    else if status == 404 then codes "Not Found"
    else if status == 405 then codes "Method Not Allowed"
    else if status == 409 then codes "Conflict"
    else if status == 411 then codes "Length Required"
    else if status == 413 then codes "Payload Too Large"
    else if status == 431 then codes "Request Header Fields Too Large"
    else if status == 503 then codes "Service Unavailable"
    else if status == 507 then codes "Insufficient Storage"
    else []

abbrev pub line_end : List ℕ
line_end = 13 ∷ 10 ∷ []

abbrev pub type_line : Bool → List ℕ
type_line csv =
    if csv then codes "Content-Type: text/csv" ++ line_end
    else codes "Content-Type: application/json" ++ line_end

-- the method that the routes have, where a request had another
abbrev pub allow_line : ℕ → List ℕ
allow_line status = if status == 405 then codes "Allow: POST" ++ line_end else []

abbrev pub close_line : Bool → List ℕ
close_line close = if close then codes "Connection: close" ++ line_end else []

-- the head of a reply with a body of so many bytes, and whether the connection closes after it
unfoldable pub printed_head : ℕ → Bool → ℕ → Bool → List ℕ
printed_head status csv count close =
    codes "HTTP/1.1 " ++ (decimal status ++ (codes " " ++ (reason_of status ++ (line_end
    ++ (type_line csv
    ++ (codes "Content-Length: " ++ (decimal count ++ (line_end
    ++ (allow_line status
    ++ (close_line close
    ++ line_end))))))))))

-- the bytes of a reply
abbrev pub printed_reply : Reply → Bool → List ℕ
printed_reply reply close = printed_head reply.status reply.csv (length reply.body) close ++ reply.body

-- the reply where an allocation was refused
abbrev pub memory_reply : Reply
memory_reply = record { status = 507; csv = false; body = codes "{\"error\":\"memory\"}" }
