-- From the steps of reading to the next item.
use Rattle.std.proofs.Common.{◌≡◌, ℕ, ◌≤◌, ◌<◌, List, [], ◌∷◌, ◌++◌, Option, Some, None, Result, Ok, Err, length, ◌+◌, ◌-◌, refl, sym, subst, ap, ◌∙◌, arith, unwrap_or, take, get_or, zero, suc}
use Rattle.std.proofs.lemmas.List.{length-append}
use Rattle.std.specs.Prelude.{IfOk, IfSome, codes}
use Rattle.std.specs.Option.{option_copied}
use Rattle.std.specs.Borrow.{Bor}
use Rattle.std.specs.Io.KnownBytes.{Consumes, IsAtEnd}
use Rattle.std.proofs.KnownBytes.{Consumes-trans}
use Rattle.httparse.specs.Grammar.{RequestHead, ReadsRequest}
use Rattle.httparse.proofs.GrammarLemmas.{request_unique}
use Rattle.lk_io.specs.Causes.{Rose}
use Rattle.lk_val.specs.Texts.{is_same_text}
use Rattle.lk_http.specs.Fields.{Pair, body_length, closes, user_of}
use Rattle.lk_http.specs.Items.{fields_of, is_post}
use Rattle.lk_http.specs.Judged.{IsWhole}
use Rattle.lk_http.specs.Answers.{OnlyReads}
use Rattle.lk_http.specs.Heads.{AreOpenBefore, Decides, IsOpen, bad, over}
use Rattle.lk_http.specs.Places.{IsAt}
use Rattle.lk_http.specs.Reading.{IsAnsweredBy, IsAskedBy, IsByteRead, IsHeadRead, IsStatedRead, StaysOpen, taken_by}
use Rattle.lk_http.specs.Routes.{target_of}
use Rattle.lk_http.specs.declared.asked.Asked.{Asked}
use Rattle.lk_http.specs.declared.faults.HttpFault.{HttpFault}
use Rattle.lk_http.specs.declared.faults.HttpFault.TheVariants.{H1, H2, H3, H4, H5, H6, Truncated, ReadFault, NoMemory}
use Rattle.lk_http.specs.declared.place.Place.{Place}
use Rattle.lk_http.specs.declared.reading.Front.TheVariants.{Head}
use Rattle.lk_http.proofs.HeadLemmas.{open_before_next, open_to_here}

-- ---- what a head asks for

-- a parse of a whole head is of that head
pub whole_of_parse : (bytes : List ℕ) → IsWhole bytes → (k : RequestHead) (rest : List ℕ) → ReadsRequest bytes k rest → ReadsRequest bytes k []
whole_of_parse bytes (h, reads, few) k rest parsed = subst (ReadsRequest bytes k) (sym (request_unique bytes h k [] rest reads parsed).1) parsed

pub value_is : (copied : Option (Bor (List ℕ))) (value : Bor (List ℕ)) (given : List ℕ) → option_copied copied ≡ Some given → copied ≡ Some value → value.now ≡ given
value_is copied value given e is = ap (λ (o : Option (List ℕ)). unwrap_or o []) (sym (ap option_copied is) ∙ e)

pub number_is : (copied : Option ℕ) (value given : ℕ) → copied ≡ Some given → copied ≡ Some value → value ≡ given
number_is copied value given e is = ap (λ (o : Option ℕ). unwrap_or o 0) (sym is ∙ e)

pub asked_by : (k : RequestHead) (asked : Asked) (method path : List ℕ) (minor : ℕ) (fields : List Pair) → method ≡ k.method → path ≡ k.target → minor ≡ k.minor → fields ≡ fields_of k
    → asked.post ≡ is_same_text method (codes "POST") → asked.close ≡ closes minor fields → asked.length ≡ body_length asked.post fields
    → IfOk asked.parts (λ parts. (parts.user ≡ user_of fields) × (parts.target ≡ target_of path)) → IsAskedBy k asked
asked_by k asked method path minor fields m t n f post close count parts =
    let is : asked.post ≡ is_post k = post ∙ ap (λ x. is_same_text x (codes "POST")) m in
    record {
      post = is;
      close = close ∙ (λ i. closes (n i) (f i));
      count = count ∙ (λ i. body_length (is i) (f i));
      parts = subst (λ fs. IfOk asked.parts (λ p. (p.user ≡ user_of fs) × (p.target ≡ target_of k.target))) f
          (subst (λ x. IfOk asked.parts (λ p. (p.user ≡ user_of fields) × (p.target ≡ target_of x))) t parts);
    }

-- ---- links

pub only_reads_none : {held : Option (List ℕ)} {writes reads : ℕ} → OnlyReads held held writes writes reads reads
only_reads_none = record { same_held = refl; same_writes = refl; later = omega arith }

pub only_reads_on : {a b c : Option (List ℕ)} {u v w x y z : ℕ} → OnlyReads a b u v x y → OnlyReads b c v w y z → OnlyReads a c u w x z
only_reads_on p q = record { same_held = q.same_held ∙ p.same_held; same_writes = q.same_writes ∙ p.same_writes; later = omega (arith, p.later, q.later) }

-- what rose at a later step rose
pub rose_on : (a b c : ℕ) → a ≤ b → Rose b c → Rose a c
rose_on a b c later rose = omega (arith, later, rose)

-- what a pull of the next byte took
pulled : (left left' : Option (List ℕ)) (next : Result (Option ℕ) HttpFault) → IsByteRead left left' next → Consumes left left' (taken_by next)
pulled left left' (Ok None) read = read.0
pulled left left' (Ok (Some b)) read = read
pulled left left' (Err ReadFault) read = read
pulled left left' (Err H1) read = absurd read
pulled left left' (Err H2) read = absurd read
pulled left left' (Err (H3 n)) read = absurd read
pulled left left' (Err (H4 c)) read = absurd read
pulled left left' (Err (H5 c)) read = absurd read
pulled left left' (Err H6) read = absurd read
pulled left left' (Err Truncated) read = absurd read
pulled left left' (Err NoMemory) read = absurd read

-- the one byte that a pull took into the room for one
pub one_taken : (left left' : Option (List ℕ)) (into : List ℕ) (count : ℕ) → Consumes left left' (take count into) → count ≤ length into → length into ≡ 1 → (count ≡ 0 → ⊥) → Consumes left left' (get_or into 0 0 ∷ [])
one_taken left left' [] count took within one some = absurd (omega (arith, one))
one_taken left left' (b ∷ c ∷ into) count took within one some = absurd (omega (arith, one))
one_taken left left' (b ∷ []) zero took within one some = absurd (some refl)
one_taken left left' (b ∷ []) (suc zero) took within one some = took
one_taken left left' (b ∷ []) (suc (suc count)) took within one some = absurd (omega (arith, within))

-- that behind the bytes of a head
pub pulled_more : (first left left' : Option (List ℕ)) (head more : List ℕ) (next : Result (Option ℕ) HttpFault) → Consumes first left head → IsByteRead left left' next → more ≡ head ++ taken_by next
    → Consumes first left' more
pulled_more first left left' head more next taken read is =
    subst (Consumes first left') (sym is) (Consumes-trans first left left' head (taken_by next) taken (pulled left left' next read))

-- with a byte more, all shorter fronts of a head still want more
pub early_more : (head more : List ℕ) (b : ℕ) → AreOpenBefore (length head + 1) head → more ≡ head ++ b ∷ [] → AreOpenBefore (length more) more
early_more head more b early is = subst (λ x. AreOpenBefore (length x) x) (sym is) (open_before_next head b early)

-- a head that is still open with a byte more
pub stays_open : (head more shown : List ℕ) (b : ℕ) (place : Place) → AreOpenBefore (length head + 1) head → more ≡ head ++ b ∷ [] → shown ≡ more → IsOpen shown → IsAt shown place → StaysOpen head more place
stays_open head more shown b place early is same here at = record {
  longer = omega (arith, ap length is, length-append head (b ∷ []));
  early = open_to_here more (early_more head more b early is) (subst IsOpen same here);
  at = subst (λ x. IsAt x place) same at;
}

-- what is answered of a head that its last byte decided

pub answered_whole : (head more shown : List ℕ) (b : ℕ) (next : Result (Option ℕ) HttpFault) → AreOpenBefore (length head + 1) head → more ≡ head ++ b ∷ [] → shown ≡ more → IsWhole shown → IsAnsweredBy next more (Ok Head)
answered_whole head more shown b next early is same here left left' read = (early_more head more b early is, subst IsWhole same here)

pub answered_over : (head more shown : List ℕ) (b : ℕ) (next : Result (Option ℕ) HttpFault) → AreOpenBefore (length head + 1) head → more ≡ head ++ b ∷ [] → shown ≡ more → Decides shown over → IsAnsweredBy next more (Err H6)
answered_over head more shown b next early is same here left left' read = (early_more head more b early is, subst (λ x. Decides x over) same here)

pub answered_bad : (head more shown : List ℕ) (b : ℕ) (next : Result (Option ℕ) HttpFault) → AreOpenBefore (length head + 1) head → more ≡ head ++ b ∷ [] → shown ≡ more → Decides shown bad → IsAnsweredBy next more (Err H1)
answered_bad head more shown b next early is same here left left' read = (early_more head more b early is, subst (λ x. Decides x bad) same here)

-- ---- a body

-- the body so far, of which some bytes are missing, and a piece of it
pub body_more : (stated : Result ℕ HttpFault) (taken piece : List ℕ) (missing got : ℕ) → stated ≡ Ok (length taken + missing) → length piece ≡ got → got ≤ missing → stated ≡ Ok (length (taken ++ piece) + (missing - got))
body_more stated taken piece missing got is long few = is ∙ ap Ok (omega (arith, length-append taken piece, long, few))

-- it is whole
pub body_whole : (first left : Option (List ℕ)) (stated : Result ℕ HttpFault) (taken : List ℕ) (missing : ℕ) (body : Option (List ℕ)) → stated ≡ Ok (length taken + missing) → missing ≡ 0 → Consumes first left taken
    → IfSome body (λ kept. kept ≡ taken) → IsStatedRead first left stated (Ok body)
body_whole first left stated taken missing body is none consumed kept =
    subst (λ s. IsStatedRead first left s (Ok body)) (sym is) (taken, omega (arith, none), consumed, kept)

-- the link failed in it
pub body_unread : (first left left' : Option (List ℕ)) (stated : Result ℕ HttpFault) (taken : List ℕ) (missing : ℕ) (result : Result (Option (List ℕ)) HttpFault) → stated ≡ Ok (length taken + missing) → 0 < missing → Consumes first left taken → Consumes left left' []
    → result ≡ Err ReadFault → IsStatedRead first left' stated result
body_unread first left left' stated taken missing result is some consumed none failed =
    subst (IsStatedRead first left' stated) (sym failed)
    (subst (λ s. IsStatedRead first left' s (Err ReadFault)) (sym is)
    (taken ++ [], omega (arith, some, length-append taken []), Consumes-trans first left left' taken [] consumed none))

-- the input ended in it
pub body_cut : (first left left' : Option (List ℕ)) (stated : Result ℕ HttpFault) (taken piece : List ℕ) (missing : ℕ) → stated ≡ Ok (length taken + missing) → length piece < missing → Consumes first left taken → Consumes left left' piece → IsAtEnd left'
    → IsStatedRead first left' stated (Err Truncated)
body_cut first left left' stated taken piece missing is some consumed more end =
    subst (λ s. IsStatedRead first left' s (Err Truncated)) (sym is)
    (taken ++ piece, omega (arith, some, length-append taken piece), Consumes-trans first left left' taken piece consumed more, end)

-- a longer body is kept, or none is
pub kept_more : (body more : Option (List ℕ)) (taken piece : List ℕ) → IfSome body (λ b. b ≡ taken) → IfSome more (λ l. IfSome body (λ b. l ≡ b ++ piece)) → (body ≡ None → more ≡ None) → IfSome more (λ l. l ≡ taken ++ piece)
kept_more None None taken piece kept longer none = tt
kept_more None (Some l) taken piece kept longer none = cc (none refl)
kept_more (Some b) None taken piece kept longer none = tt
kept_more (Some b) (Some l) taken piece kept longer none = longer ∙ ap (λ x. x ++ piece) kept

-- a fault of the link before the head is decided
head_unread : (left left' left'' : Option (List ℕ)) (head : List ℕ) (fault : HttpFault) → IsByteRead left left' (Err fault) → AreOpenBefore (length head + 1) head
    → IsHeadRead left'' head (Err fault)
head_unread left left' left'' head ReadFault read early = early
head_unread left left' left'' head H1 read early = absurd read
head_unread left left' left'' head H2 read early = absurd read
head_unread left left' left'' head (H3 n) read early = absurd read
head_unread left left' left'' head (H4 c) read early = absurd read
head_unread left left' left'' head (H5 c) read early = absurd read
head_unread left left' left'' head H6 read early = absurd read
head_unread left left' left'' head Truncated read early = absurd read
head_unread left left' left'' head NoMemory read early = absurd read

pub answered_fault : (head : List ℕ) (next : Result (Option ℕ) HttpFault) (fault : HttpFault) → next ≡ Err fault → AreOpenBefore (length head + 1) head → IsAnsweredBy next head (Err fault)
answered_fault head next fault is early left left' read = head_unread left left' left' head fault (subst (IsByteRead left left') is read) early
