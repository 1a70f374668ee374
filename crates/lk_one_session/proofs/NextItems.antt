-- Bytes have one next item.
use Rattle.std.proofs.Common.{◌≡◌, ◌≢◌, ◌∙◌, ◌+◌, ◌<◌, ◌≤◌, ◌++◌, ℕ, Bool, true, false, List, [], ◌∷◌, length, take, drop, refl, sym, ap, subst, arith, inl, inr, le-ltb, length-append, ltb-false}
use Rattle.std.specs.Prelude.{if◌then◌else◌, nat_lt, Result, Ok, Err}
use Rattle.std.proofs.lemmas.List.{drop-append-le, take-append-le}
use Rattle.std.proofs.lemmas.Bool.{false≢true}
use Rattle.httparse.proofs.GrammarLemmas.{request_unique}
use Rattle.httparse.specs.Grammar.{RequestHead}
use Rattle.lk_http.specs.Fields.{body_length}
use Rattle.lk_http.specs.Heads.{AreOpenBefore, Decided, Decides, IsOpen, bad, over, whole}
use Rattle.lk_http.specs.Items.{IsDecided, IsNext, Item, Step, after, at_end, fields_of, is_post, request_of, with_body}
use Rattle.lk_http.specs.declared.faults.HttpFault.{HttpFault}
use Rattle.lk_http.specs.declared.faults.HttpFault.TheVariants.{Truncated}
use Rattle.lk_http.specs.declared.request.Got.TheVariants.{End}

-- what decides a head leaves nothing open
open_or_decided : (bytes : List ℕ) (decided : Decided) → IsOpen bytes → Decides bytes decided → ⊥
open_or_decided bytes (whole head) may reads = may.none head [] reads
open_or_decided bytes over may is = false≢true (sym may.fits ∙ is.1)
open_or_decided bytes bad may is = is.2 may.may

one_decision : (bytes : List ℕ) (d e : Decided) → Decides bytes d → Decides bytes e → d ≡ e
one_decision bytes (whole h) (whole k) p q = ap (λ head. whole head) (request_unique bytes h k [] [] p q).0
one_decision bytes (whole h) over p q = absurd (q.0 h [] p)
one_decision bytes (whole h) bad p q = absurd (q.0 h [] p)
one_decision bytes over (whole k) p q = absurd (p.0 k [] q)
one_decision bytes over over p q = refl
one_decision bytes over bad p q = absurd (false≢true (sym q.1 ∙ p.1))
one_decision bytes bad (whole k) p q = absurd (p.0 k [] q)
one_decision bytes bad over p q = absurd (false≢true (sym p.1 ∙ q.1))
one_decision bytes bad bad p q = refl

-- a head is decided at one place
not_before : (bytes : List ℕ) (m n : ℕ) (d e : Decided) → IsDecided bytes m d → IsDecided bytes n e → ¬ (m < n)
not_before bytes m n d e p q early = open_or_decided (take m bytes) d (q.first m early) p.decides

one_place : (bytes : List ℕ) (m n : ℕ) (d e : Decided) → IsDecided bytes m d → IsDecided bytes n e → m ≡ n
one_place bytes m n d e p q =
    let least = not_before bytes m n d e p q in
    let most = not_before bytes n m e d q p in
    omega arith

never_decided : (bytes : List ℕ) (n : ℕ) (d : Decided) → AreOpenBefore (length bytes + 1) bytes → IsDecided bytes n d → ⊥
never_decided bytes n d early p = open_or_decided (take n bytes) d (early n (omega (arith, p.within))) p.decides

pub one_next : (bytes : List ℕ) (x y : Step) → IsNext bytes x → IsNext bytes y → x ≡ y
one_next bytes x y (inl (m, d, p, is)) (inl (n, e, q, so)) =
    let place : m ≡ n = one_place bytes m n d e p q in
    let decided : d ≡ e = one_decision (take n bytes) d e (subst (λ c. Decides (take c bytes) d) place p.decides) q.decides in
    let both : after d (drop m bytes) ≡ after e (drop n bytes) = (λ i. after (decided i) (drop (place i) bytes)) in
    is ∙ both ∙ sym so
one_next bytes x y (inl (m, d, p, is)) (inr (early, so)) = absurd (never_decided bytes m d early p)
one_next bytes x y (inr (early, is)) (inl (n, e, q, so)) = absurd (never_decided bytes n e early q)
one_next bytes x y (inr (early, is)) (inr (other, so)) = is ∙ sym so

-- ---- what comes behind an item

-- a step and the bytes behind its rest
abbrev with_more : List ℕ → Step → Step
with_more more step = (step.0, step.1 ++ more)

-- an item and its rest are those of a step
abbrev Gives : Item → List ℕ → Step → Type 0
Gives item rest step = ◌≡◌ {A = Step} (item, rest) step

-- a cut in the body, or what is asked
abbrev cut_or_asked : RequestHead → ℕ → List ℕ → Bool → Step
cut_or_asked head count left cut = if cut then (Err Truncated, []) else (request_of head (take count left), drop count left)

body_ahead : (head : RequestHead) (left rest more : List ℕ) (item : Item) (count : ℕ) (cut : Bool) → nat_lt (length left) count ≡ cut → item ≢ Err Truncated
    → Gives item rest (cut_or_asked head count left cut) → Gives item (rest ++ more) (with_body head (left ++ more) (Ok count))
body_ahead head left rest more item count true within apart is = absurd (apart (ap (λ (step : Step). step.0) is))
body_ahead head left rest more item count false within apart is =
    let fits : count ≤ length left = ltb-false (length left) count within in
    let reaches : nat_lt (length (left ++ more)) count ≡ false = le-ltb (length (left ++ more)) count (omega (arith, fits, length-append left more)) in
    let front : take count (left ++ more) ≡ take count left = take-append-le count left more fits in
    let behind : drop count (left ++ more) ≡ drop count left ++ more = drop-append-le count left more fits in
    let here : Gives item (rest ++ more) (request_of head (take count left), drop count left ++ more) = ap (with_more more) is in
    let there : Gives (request_of head (take count left)) (drop count left ++ more) (cut_or_asked head count (left ++ more) false) =
    (λ i. (request_of head (sym front i), sym behind i)) in
    here ∙ there ∙ ap (cut_or_asked head count (left ++ more)) (sym reaches)

length_ahead : (head : RequestHead) (left rest more : List ℕ) (item : Item) (stated : Result ℕ HttpFault) → item ≢ Err Truncated → Gives item rest (with_body head left stated)
    → Gives item (rest ++ more) (with_body head (left ++ more) stated)
length_ahead head left rest more item (Err fault) apart is = ap (with_more more) is
length_ahead head left rest more item (Ok count) apart is = body_ahead head left rest more item count (nat_lt (length left) count) refl apart is

after_ahead : (decided : Decided) (left rest more : List ℕ) (item : Item) → item ≢ Err Truncated → Gives item rest (after decided left)
    → Gives item (rest ++ more) (after decided (left ++ more))
after_ahead (whole head) left rest more item apart is = length_ahead head left rest more item (body_length (is_post head) (fields_of head)) apart is
after_ahead over left rest more item apart is = ap (with_more more) is
after_ahead bad left rest more item apart is = ap (with_more more) is

not_at_end : (bytes rest : List ℕ) (item : Item) → item ≢ Ok End → item ≢ Err Truncated → Gives item rest (at_end bytes) → ⊥
not_at_end [] rest item goes apart is = goes (ap (λ (step : Step). step.0) is)
not_at_end (b ∷ bytes) rest item goes apart is = apart (ap (λ (step : Step). step.0) is)

decided_ahead : (bytes more : List ℕ) (count : ℕ) (decided : Decided) → IsDecided bytes count decided → IsDecided (bytes ++ more) count decided
decided_ahead bytes more count decided p = record {
  within = omega (arith, p.within, length-append bytes more);
  decides = subst (λ front. Decides front decided) (sym (take-append-le count bytes more p.within)) p.decides;
  first = λ n early. subst IsOpen (sym (take-append-le n bytes more (omega (arith, early, p.within)))) (p.first n early);
}

pub next_ahead : (bytes more rest : List ℕ) (item : Item) → item ≢ Ok End → item ≢ Err Truncated → IsNext bytes (item, rest) → IsNext (bytes ++ more) (item, rest ++ more)
next_ahead bytes more rest item goes apart (inl (count, decided, p, is)) =
    inl (
      count,
      decided,
      decided_ahead bytes more count decided p,
      after_ahead decided (drop count bytes) rest more item apart is ∙ ap (after decided) (sym (drop-append-le count bytes more p.within)),
    )
next_ahead bytes more rest item goes apart (inr (early, is)) = absurd (not_at_end bytes rest item goes apart is)
