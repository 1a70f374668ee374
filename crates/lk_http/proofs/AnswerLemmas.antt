-- From the steps of reading to the next item.
use Rattle.std.proofs.Common.{◌≡◌, ℕ, ◌+◌, ◌<◌, Bool, true, false, List, [], ◌∷◌, ◌++◌, length, Option, Some, None, Result, Ok, Err, refl, sym, subst, ap, ◌∙◌, arith, take, drop, inl, inr, cond, nat_lt}
use Rattle.std.specs.Prelude.{IfOk, IfSome, not, ◌⊎◌}
use Rattle.std.specs.Io.KnownBytes.{Consumes}
use Rattle.std.proofs.Math.Seq.{take-append_seam, drop-append_seam}
use Rattle.std.proofs.lemmas.List.{append_assoc, length-append, take-append-le}
use Rattle.std.proofs.lemmas.Bool.{lt-ltb, le-ltb}
use Rattle.httparse.specs.Grammar.{RequestHead, ReadsRequest}
use Rattle.lk_http.specs.Fields.{Pair, body_length, do_lengths_agree, is_coded, length_or_fault, stated_length, body_limit, user_of}
use Rattle.lk_http.specs.Heads.{Decided, whole, over, bad, Decides, AreOpenBefore, IsOpen}
use Rattle.lk_http.specs.Items.{Item, IsDecided, IsNext, after, at_end, with_body, request_of, routed, fields_of, is_post, asks_close}
use Rattle.lk_http.specs.Answers.{IsAnswer, IsDropped}
use Rattle.lk_http.specs.Reading.{IsHeadRead, IsAsked, IsBodyRead, IsStatedRead, request_after, request_with, routed_with}
use Rattle.lk_http.specs.Routes.{target_of}
use Rattle.lk_http.specs.declared.asked.Asked.{Asked}
use Rattle.lk_http.specs.declared.asked.Parts.{Parts}
use Rattle.lk_http.specs.declared.reading.Front.{Front}
use Rattle.lk_http.specs.declared.reading.Front.TheVariants.{Ended, Head}
use Rattle.lk_http.specs.declared.request.Target.{Target}
use Rattle.lk_http.specs.declared.request.Got.TheVariants.{End, Req}
use Rattle.lk_http.specs.declared.faults.HttpFault.{HttpFault}
use Rattle.lk_http.specs.declared.faults.HttpFault.TheVariants.{H1, H2, H3, H4, H5, H6, Truncated, ReadFault, NoMemory}
use Rattle.lk_http.proofs.HeadLemmas.{append_nil, open_at_first}
use Rattle.lk_val.specs.declared.memory.NoMemory.{NoMemory as memory}

-- ---- the head

decided : (bytes head rest : List ℕ) (d : Decided) → bytes ≡ head ++ rest → AreOpenBefore (length head) head → Decides head d → IsDecided bytes (length head) d
decided bytes head rest d e early decides = record {
  within = omega (arith, ap length e, length-append head rest);
  decides = subst (λ x. Decides x d) (sym (ap (take (length head)) e ∙ take-append_seam head rest)) decides;
  first = λ n l. subst IsOpen (sym (ap (take n) e ∙ take-append-le n head rest (omega arith))) (early n l);
}

after_head : (bytes head rest : List ℕ) → bytes ≡ head ++ rest → drop (length head) bytes ≡ rest
after_head bytes head rest e = ap (drop (length head)) e ∙ drop-append_seam head rest

next_decided : (bytes head rest : List ℕ) (d : Decided) (step : Item × List ℕ) → bytes ≡ head ++ rest → AreOpenBefore (length head) head → Decides head d → step ≡ after d rest → IsNext bytes step
next_decided bytes head rest d step e early decides is =
    inl (length head, d, decided bytes head rest d e early decides, is ∙ ap (after d) (sym (after_head bytes head rest e)))

-- the bytes end with the head's
ended : (bytes head : List ℕ) (step : Item × List ℕ) → bytes ≡ head ++ [] → AreOpenBefore (length head + 1) head → step ≡ at_end head → IsNext bytes step
ended bytes head step e early is =
    let all = e ∙ append_nil head in
    inr (subst (λ x. AreOpenBefore (length x + 1) x) (sym all) early, is ∙ ap at_end (sym all))

cut_off : (head : List ℕ) → 0 < length head → (Err Truncated, []) ≡ at_end head
cut_off [] some = absurd (omega arith)
cut_off (b ∷ head) some = refl

-- a fault before the head is decided, or by it
pub head_fault : (left left' : Option (List ℕ)) (head : List ℕ) (close : Bool) (fault : HttpFault) → Consumes left left' head → IsHeadRead left' head (Err fault) → IfSome left (λ bytes. IsAnswer bytes left' close (Err fault))
head_fault None left' head close fault taken read = tt
head_fault (Some bytes) None head close fault taken read = absurd taken
head_fault (Some bytes) (Some rest) head close H1 taken read = (rest, next_decided bytes head rest bad (Err H1, rest) taken read.0 read.1 refl, refl, tt)
head_fault (Some bytes) (Some rest) head close H6 taken read = (rest, next_decided bytes head rest over (Err H6, rest) taken read.0 read.1 refl, refl, tt)
head_fault (Some bytes) (Some rest) head close Truncated taken read =
    let none : rest ≡ [] = read.2 in
    (rest, ended bytes head (Err Truncated, rest) (taken ∙ ap (λ r. head ++ r) none) read.0 (ap (λ r. (Err Truncated, r)) none ∙ cut_off head read.1), refl, tt)
head_fault (Some bytes) (Some rest) head close ReadFault taken read = (head, rest, taken, refl, inr (read, refl))
head_fault (Some bytes) (Some rest) head close H2 taken read = absurd read
head_fault (Some bytes) (Some rest) head close (H3 n) taken read = absurd read
head_fault (Some bytes) (Some rest) head close (H4 c) taken read = absurd read
head_fault (Some bytes) (Some rest) head close (H5 c) taken read = absurd read
head_fault (Some bytes) (Some rest) head close NoMemory taken read = absurd read

pub at_border : (left left' : Option (List ℕ)) (head : List ℕ) (close : Bool) → Consumes left left' head → IsHeadRead left' head (Ok Ended) → (early : AreOpenBefore 1 []) → IfSome left (λ bytes. IsAnswer bytes left' close (Ok End))
at_border None left' head close taken read early = tt
at_border (Some bytes) None head close taken read early = absurd taken
at_border (Some bytes) (Some rest) head close taken read early =
    let none : rest ≡ [] = read.1 in
    let nothing : bytes ≡ [] ++ [] = taken ∙ (λ i. read.0 i ++ none i) in
    (rest, ended bytes [] (Ok End, rest) nothing early (ap (λ r. (Ok End, r)) none), refl, tt)

-- ---- the body

-- faults of a body's length
abbrev IsLengthFault : HttpFault → Type 0
IsLengthFault H1 = Unit {0}
IsLengthFault H2 = Unit {0}
IsLengthFault (H3 n) = Unit {0}
IsLengthFault fault = ⊥

abbrev IfLengthFault : Result ℕ HttpFault → Type 0
IfLengthFault (Ok n) = Unit {0}
IfLengthFault (Err fault) = IsLengthFault fault

within_limit : (n : ℕ) (large : Bool) → IfLengthFault (cond large (Err (H3 n)) (Ok n))
within_limit n true = tt
within_limit n false = tt

length_fault : (post : Bool) (stated : Option ℕ) → IfLengthFault (length_or_fault post stated)
length_fault true None = tt
length_fault false None = tt
length_fault post (Some n) = within_limit n (nat_lt body_limit n)

by_fields : (agree coded : Bool) (r : Result ℕ HttpFault) → IfLengthFault r → IfLengthFault (cond (not agree) (Err H1) (cond coded (Err H2) r))
by_fields false coded r h = tt
by_fields true true r h = tt
by_fields true false r h = h

is_length_fault : (post : Bool) (fields : List Pair) → IfLengthFault (body_length post fields)
is_length_fault post fields = by_fields (do_lengths_agree fields) (is_coded fields) (length_or_fault post (stated_length fields)) (length_fault post (stated_length fields))

-- an answer that is an item
answer : (bytes rest : List ℕ) (close : Bool) (fault : HttpFault) → IsLengthFault fault → IsNext bytes (Err fault, rest) → IsAnswer bytes (Some rest) close (Err fault)
answer bytes rest close H1 is next = (rest, next, refl, tt)
answer bytes rest close H2 is next = (rest, next, refl, tt)
answer bytes rest close (H3 n) is next = (rest, next, refl, tt)
answer bytes rest close (H4 c) is next = absurd is
answer bytes rest close (H5 c) is next = absurd is
answer bytes rest close H6 is next = absurd is
answer bytes rest close Truncated is next = absurd is
answer bytes rest close ReadFault is next = absurd is
answer bytes rest close NoMemory is next = absurd is

-- the length of the body is refused
refused_length : (left left' : Option (List ℕ)) (head : List ℕ) (close : Bool) (fault : HttpFault) (asked : Asked) → Consumes left left' head → IsHeadRead left' head (Ok Head) → IsAsked head asked
    → asked.length ≡ Err fault → IfSome left (λ bytes. IsAnswer bytes left' close (Err fault))
refused_length None left' head close fault asked taken read of is = tt
refused_length (Some bytes) None head close fault asked taken read of is = absurd taken
refused_length (Some bytes) (Some rest) head close fault asked taken read (h, reads, by) is =
    let length_is = sym by.count ∙ is in
    answer bytes rest close fault (subst IfLengthFault length_is (is_length_fault (is_post h) (fields_of h)))
    (next_decided bytes head rest (whole h) (Err fault, rest) taken read.0 reads (sym (ap (with_body h rest) length_is)))

-- ---- the request

cut_in_body : (h : RequestHead) (rest : List ℕ) (count : ℕ) → length rest < count → (Err Truncated, []) ≡ with_body h rest (Ok count)
cut_in_body h rest count short = ap (λ b. cond b (Err Truncated, []) (request_of h (take count rest), drop count rest)) (sym (lt-ltb (length rest) count short))

whole_body : (h : RequestHead) (body rest : List ℕ) → (request_of h body, rest) ≡ with_body h (body ++ rest) (Ok (length body))
whole_body h body rest =
    let enough : nat_lt (length (body ++ rest)) (length body) ≡ false = le-ltb (length (body ++ rest)) (length body) (omega (arith, length-append body rest)) in
    (λ i. (request_of h (sym (take-append_seam body rest) i), sym (drop-append_seam body rest) i))
    ∙ ap (λ b. cond b (Err Truncated, []) (request_of h (take (length body) (body ++ rest)), drop (length body) (body ++ rest))) (sym enough)

-- a whole head, and what was taken behind it, are a cut
cut_whole : (head got : List ℕ) (h : RequestHead) → ReadsRequest head h [] → (Err Truncated, []) ≡ at_end (head ++ got)
cut_whole [] got h reads = absurd ((open_at_first 0 (omega arith)).none h [] reads)
cut_whole (b ∷ head) got h reads = refl

-- a fault in the body
body_fault : (left left' left'' : Option (List ℕ)) (head : List ℕ) (close : Bool) (fault : HttpFault) (asked : Asked) (count : ℕ) → Consumes left left' head → IsHeadRead left' head (Ok Head) → IsAsked head asked
    → asked.length ≡ Ok count → IsBodyRead left' left'' count (Err fault) → IfSome left (λ bytes. IsAnswer bytes left'' close (Err fault))
body_fault None left' left'' head close fault asked count taken read of is body = tt
body_fault (Some bytes) None left'' head close fault asked count taken read of is body = absurd taken
body_fault (Some bytes) (Some rest) None head close ReadFault asked count taken read of is (got, short, consumed) = absurd consumed
body_fault (Some bytes) (Some rest) (Some last) head close ReadFault asked count taken read (h, reads, by) is (got, short, consumed) =
    let length_is = sym by.count ∙ is in (
      head ++ got,
      last,
      taken ∙ ap (λ r. head ++ r) consumed ∙ sym (append_assoc head got last),
      refl,
      next_decided (head ++ got) head got (whole h) (at_end (head ++ got)) refl read.0 reads
          (sym (cut_whole head got h reads) ∙ cut_in_body h got count short ∙ sym (ap (with_body h got) length_is)),
    )
body_fault (Some bytes) (Some rest) None head close Truncated asked count taken read of is (got, short, consumed, end) = absurd consumed
body_fault (Some bytes) (Some rest) (Some last) head close Truncated asked count taken read (h, reads, by) is (got, short, consumed, end) =
    let length_is = sym by.count ∙ is in
    let few : length rest < count = omega (arith, ap length consumed, length-append got last, ap length end, short) in (
      last,
      next_decided bytes head rest (whole h) (Err Truncated, last) taken read.0 reads
          (ap (λ r. (Err Truncated, r)) end ∙ cut_in_body h rest count few ∙ sym (ap (with_body h rest) length_is)),
      refl,
      tt,
    )
body_fault (Some bytes) (Some rest) left'' head close H1 asked count taken read of is body = absurd body
body_fault (Some bytes) (Some rest) left'' head close H2 asked count taken read of is body = absurd body
body_fault (Some bytes) (Some rest) left'' head close (H3 n) asked count taken read of is body = absurd body
body_fault (Some bytes) (Some rest) left'' head close (H4 c) asked count taken read of is body = absurd body
body_fault (Some bytes) (Some rest) left'' head close (H5 c) asked count taken read of is body = absurd body
body_fault (Some bytes) (Some rest) left'' head close H6 asked count taken read of is body = absurd body
body_fault (Some bytes) (Some rest) left'' head close NoMemory asked count taken read of is body = absurd body

-- the item of a whole request, from what its head says
abbrev item_with : Bool → Bool → List ℕ → List ℕ → Option Target → Item
item_with post close user body None = Err (H4 close)
item_with post close user body (Some target) =
    cond post (Ok (Req (record { user = user; target = target; body = body; close = close }))) (Err (H5 close))

item_is : (h : RequestHead) (body : List ℕ) (target : Option Target) → routed h body target ≡ item_with (is_post h) (asks_close h) (user_of (fields_of h)) body target
item_is h body None = refl
item_is h body (Some target) = refl

-- what a whole request gives, with memory or without
abbrev Gives : Item → Bool → Item → Type 0
Gives item close result = ((result ≡ item) × IsDropped item close) ⊎ ((result ≡ Err NoMemory) × IsDropped item close)

gives_target : (post close : Bool) (user body : List ℕ) (kept : Option (List ℕ)) (target : Option Target) → IfSome kept (λ k. k ≡ body) → Gives (item_with post close user body target) close (routed_with post close user kept target)
gives_target post close user body kept None same = inl (refl, refl)
gives_target false close user body kept (Some target) same = inl (refl, refl)
gives_target true close user body None (Some target) same = inr (refl, refl)
gives_target true close user body (Some k) (Some target) same = inl (ap (λ b. Ok (Req (record { user = user; target = target; body = b; close = close }))) same, refl)

drops_target : (post close : Bool) (user body : List ℕ) (target : Option Target) → IsDropped (item_with post close user body target) close
drops_target post close user body None = refl
drops_target false close user body (Some target) = refl
drops_target true close user body (Some target) = refl

gives : (post close : Bool) (parts : Result Parts memory) (user body : List ℕ) (target : Option Target) (kept : Option (List ℕ)) → IfSome kept (λ k. k ≡ body)
    → IfOk parts (λ p. (p.user ≡ user) × (p.target ≡ target)) → Gives (item_with post close user body target) close (request_with post close kept parts)
gives post close (Err e) user body target kept same of = inr (refl, drops_target post close user body target)
gives post close (Ok parts) user body target kept same of =
    subst (λ r. Gives (item_with post close user body target) close r) (λ i. routed_with post close (sym of.0 i) kept (sym of.1 i)) (gives_target post close user body kept target same)

plain_answer : (bytes rest : List ℕ) (close : Bool) (item : Item) → IsDropped item close → IsNext bytes (item, rest) → IsAnswer bytes (Some rest) close item
plain_answer bytes rest close (Ok (Req request)) is next = (rest, next, refl, is)
plain_answer bytes rest close (Ok End) is next = absurd is
plain_answer bytes rest close (Err (H4 c)) is next = (rest, next, refl, is)
plain_answer bytes rest close (Err (H5 c)) is next = (rest, next, refl, is)
plain_answer bytes rest close (Err H1) is next = absurd is
plain_answer bytes rest close (Err H2) is next = absurd is
plain_answer bytes rest close (Err (H3 n)) is next = absurd is
plain_answer bytes rest close (Err H6) is next = absurd is
plain_answer bytes rest close (Err Truncated) is next = absurd is
plain_answer bytes rest close (Err ReadFault) is next = absurd is
plain_answer bytes rest close (Err NoMemory) is next = absurd is

given : (bytes rest : List ℕ) (close : Bool) (item result : Item) → Gives item close result → IsNext bytes (item, rest) → IsAnswer bytes (Some rest) close result
given bytes rest close item result (inl (same, plain)) next = subst (IsAnswer bytes (Some rest) close) (sym same) (plain_answer bytes rest close item plain next)
given bytes rest close item result (inr (none, dropped)) next = subst (IsAnswer bytes (Some rest) close) (sym none) (item, rest, next, refl, dropped)

-- a whole request
whole_request : (left left' left'' : Option (List ℕ)) (head : List ℕ) (asked : Asked) (count : ℕ) (kept : Option (List ℕ)) (result : Item) → Consumes left left' head → IsHeadRead left' head (Ok Head) → IsAsked head asked
    → asked.length ≡ Ok count → IsBodyRead left' left'' count (Ok kept) → result ≡ request_with asked.post asked.close kept asked.parts → IfSome left (λ bytes. IsAnswer bytes left'' asked.close result)
whole_request None left' left'' head asked count kept result taken read of is body gave = tt
whole_request (Some bytes) None left'' head asked count kept result taken read of is body gave = absurd taken
whole_request (Some bytes) (Some rest) None head asked count kept result taken read of is (got, all, consumed, same) gave = absurd consumed
whole_request (Some bytes) (Some rest) (Some last) head asked count kept result taken read (h, reads, by) is (got, all, consumed, same) gave =
    let length_is = sym by.count ∙ is ∙ ap Ok (sym all) in
    let item = item_with asked.post asked.close (user_of (fields_of h)) got (target_of h.target) in
    let item_of : item ≡ request_of h got = (λ i. item_with (by.post i) (by.close i) (user_of (fields_of h)) got (target_of h.target)) ∙ sym (item_is h got (target_of h.target)) in
    given bytes last asked.close item result
    (subst (Gives item asked.close) (sym gave) (gives asked.post asked.close asked.parts (user_of (fields_of h)) got (target_of h.target) kept same by.parts))
    (next_decided bytes head rest (whole h) (item, last) taken read.0 reads
    (ap (λ x. (x, last)) item_of ∙ whole_body h got last ∙ (λ i. with_body h (sym consumed i) (sym length_is i))))

-- what is answered of a whole head, by what became of its body
pub request_next : (left left' left'' : Option (List ℕ)) (head slice : List ℕ) (asked : Asked) (body : Result (Option (List ℕ)) HttpFault) (result : Item) → Consumes left left' head → IsHeadRead left' head (Ok Head) → slice ≡ head → IsAsked slice asked
    → IsStatedRead left' left'' asked.length body → result ≡ request_after asked.post asked.close body asked.parts → IfSome left (λ bytes. IsAnswer bytes left'' asked.close result)
request_next left left' left'' head slice asked body result taken read same asks stated gave =
    subst (λ r. IfSome left (λ bytes. IsAnswer bytes left'' asked.close r)) (sym gave) (by_length asked.length body refl stated) where
      of : IsAsked head asked
      of = subst (λ bytes. IsAsked bytes asked) same asks

      by_length : (length : Result ℕ HttpFault) (b : Result (Option (List ℕ)) HttpFault) → asked.length ≡ length → IsStatedRead left' left'' length b
          → IfSome left (λ bytes. IsAnswer bytes left'' asked.close (request_after asked.post asked.close b asked.parts))
      by_length (Err fault) b is (none, last) =
          subst (λ x. IfSome left (λ bytes. IsAnswer bytes left'' asked.close (request_after asked.post asked.close x asked.parts))) (sym none)
          (subst (λ l. IfSome left (λ bytes. IsAnswer bytes l asked.close (Err fault))) (sym last) (refused_length left left' head asked.close fault asked taken read of is))
      by_length (Ok count) (Err fault) is s = body_fault left left' left'' head asked.close fault asked count taken read of is s
      by_length (Ok count) (Ok kept) is s = whole_request left left' left'' head asked count kept (request_with asked.post asked.close kept asked.parts) taken read of is s refl

-- no failed read
abbrev IsOther : Item → Type 0
IsOther (Err ReadFault) = ⊥
IsOther item = Unit {0}

other_length : (fault : HttpFault) → IsLengthFault fault → IsOther (Err fault)
other_length H1 is = tt
other_length H2 is = tt
other_length (H3 n) is = tt
other_length (H4 c) is = absurd is
other_length (H5 c) is = absurd is
other_length H6 is = absurd is
other_length Truncated is = absurd is
other_length ReadFault is = absurd is
other_length NoMemory is = absurd is

other_request : (post close : Bool) (kept : Option (List ℕ)) (parts : Result Parts memory) → IsOther (request_with post close kept parts)
other_request post close kept (Err none) = tt
other_request post close kept (Ok parts) = by_target parts.target post kept where
  by_target : (target : Option Target) (p : Bool) (k : Option (List ℕ)) → IsOther (routed_with p close parts.user k target)
  by_target None p k = tt
  by_target (Some target) false k = tt
  by_target (Some target) true None = tt
  by_target (Some target) true (Some k) = tt

abbrev fault_in : Item → Result (Option (List ℕ)) HttpFault
fault_in (Ok got) = Ok None
fault_in (Err fault) = Err fault

-- a failed read behind a whole head is one of its body
pub read_fault_of_body : (left left' : Option (List ℕ)) (slice : List ℕ) (asked : Asked) (body : Result (Option (List ℕ)) HttpFault) (result : Item) (R : Type 0) → IsAsked slice asked → IsStatedRead left left' asked.length body
    → result ≡ request_after asked.post asked.close body asked.parts → IfOk asked.length (λ _. body ≡ Err ReadFault → R) → result ≡ Err ReadFault → R
read_fault_of_body left left' slice asked body result R (h, reads, by) stated gave may failed =
    by_length asked.length body (subst IfLengthFault (sym by.count) (is_length_fault (is_post h) (fields_of h))) stated may (sym gave ∙ failed) where
      by_length : (length : Result ℕ HttpFault) (b : Result (Option (List ℕ)) HttpFault) → IfLengthFault length → IsStatedRead left left' length b → IfOk length (λ _. b ≡ Err ReadFault → R)
          → request_after asked.post asked.close b asked.parts ≡ Err ReadFault → R
      by_length (Err fault) b if (none, last) m is = absurd (subst IsOther (ap (λ x. request_after asked.post asked.close x asked.parts) (sym none) ∙ is) (other_length fault if))
      by_length (Ok count) (Err fault) if s m is = m (ap fault_in is)
      by_length (Ok count) (Ok kept) if s m is = absurd (subst IsOther is (other_request asked.post asked.close kept asked.parts))

-- ---- what a call gave

pub front_is : (left' : Option (List ℕ)) (head : List ℕ) (front is : Front) → front ≡ is → IsHeadRead left' head (Ok front) → IsHeadRead left' head (Ok is)
front_is left' head front is e h = subst (λ f. IsHeadRead left' head (Ok f)) e h
