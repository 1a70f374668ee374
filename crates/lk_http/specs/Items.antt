-- The requests and refusals in a stream of bytes. (RFC 9112; lookd)
use Rattle.std.specs.Prelude.{ℕ, ◌≡◌, ◌+◌, ◌≤◌, ◌⊎◌, Bool, true, nat_lt, MatchBool, if◌then◌else◌, List, [], ◌∷◌, Option, Some, None, Result, Ok, Err, codes, length, take, drop, map}
use Rattle.lk_val.specs.Texts.{is_same_text}
use Rattle.httparse.specs.Grammar.{RequestHead}
use Rattle.httparse.specs.Spans.{name_and_value}
use Rattle.lk_http.specs.Fields.{Pair, body_length, user_of, closes}
use Rattle.lk_http.specs.Heads.{Decided, whole, over, bad, Decides, AreOpenBefore}
use Rattle.lk_http.specs.Routes.{target_of}
use Rattle.lk_http.specs.declared.request.Target.{Target}
use Rattle.lk_http.specs.declared.request.Got.{Got}
use Rattle.lk_http.specs.declared.request.Got.TheVariants.{End, Req}
use Rattle.lk_http.specs.declared.faults.HttpFault.{HttpFault}
use Rattle.lk_http.specs.declared.faults.HttpFault.TheVariants.{H1, H2, H3, H4, H5, H6, Truncated, ReadFault, NoMemory}

-- an item of a stream: a request, a refusal, the clean end, or a cut
abbrev pub Item : Type 0
Item = Result Got HttpFault

-- an item, and the bytes after it
abbrev pub Step : Type 0
Step = Item × List ℕ

-- ---- after the head

abbrev pub fields_of : RequestHead → List Pair
fields_of head = map name_and_value head.fields

abbrev pub is_post : RequestHead → Bool
is_post head = is_same_text head.method (codes "POST")

-- whether the request asks to close
abbrev pub asks_close : RequestHead → Bool
asks_close head = closes head.minor (fields_of head)

-- a whole request: its target has a route, and its method is POST
abbrev pub routed : RequestHead → List ℕ → Option Target → Item
routed head body None = Err (H4 (asks_close head))
routed head body (Some target) =
    if is_post head
    then Ok (Req (record { user = user_of (fields_of head); target = target; body = body; close = asks_close head }))
    else Err (H5 (asks_close head))

abbrev pub request_of : RequestHead → List ℕ → Item
request_of head body = routed head body (target_of head.target)

-- the body of the stated length, or a cut within it
abbrev pub with_body : RequestHead → List ℕ → Result ℕ HttpFault → Step
with_body head rest (Err fault) = (Err fault, rest)
with_body head rest (Ok count) =
    if nat_lt (length rest) count then (Err Truncated, [])
    else (request_of head (take count rest), drop count rest)

-- what follows from a decided head
abbrev pub after : Decided → List ℕ → Step
after over rest = (Err H6, rest)
after bad rest = (Err H1, rest)
after (whole head) rest = with_body head rest (body_length (is_post head) (fields_of head))

-- ---- the stream

-- the first bytes decide the head, and none before them do
pub record IsDecided (bytes : List ℕ) (count : ℕ) (decided : Decided) : Type 0 where
  pub within : count ≤ length bytes
  pub decides : Decides (take count bytes) decided
  pub first : AreOpenBefore count bytes

-- the bytes end before a head is decided: cleanly where there are none
abbrev pub at_end : List ℕ → Step
at_end [] = (Ok End, [])
at_end (b ∷ bytes) = (Err Truncated, [])

-- the next item of the bytes, and the bytes after it
abbrev pub IsNext : List ℕ → Step → Type 0
IsNext bytes step =
    ((count : ℕ) × (decided : Decided) × IsDecided bytes count decided × (step ≡ after decided (drop count bytes)))
    ⊎ (AreOpenBefore (length bytes + 1) bytes × (step ≡ at_end bytes))

-- nothing is read after the item
abbrev pub ends : Item → Bool
ends (Ok End) = true
ends (Ok (Req request)) = request.close
ends (Err H1) = true
ends (Err H2) = true
ends (Err (H3 n)) = true
ends (Err (H4 close)) = close
ends (Err (H5 close)) = close
ends (Err H6) = true
ends (Err Truncated) = true
ends (Err ReadFault) = true
ends (Err NoMemory) = true

-- the items of a stream, to the first that ends it
abbrev pub AreItems : List ℕ → List Item → Type 0
AreItems bytes [] = ⊥
AreItems bytes (item ∷ items) =
    (rest : List ℕ) × IsNext bytes (item, rest) × MatchBool (ends item) (items ≡ []) (AreItems rest items)
