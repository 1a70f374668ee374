-- How a byte behind a place leaves a head open, and where it then stands.
use Rattle.std.proofs.Common.{◌≡◌, ℕ, ◌+◌, ◌-◌, ◌<◌, ◌≤◌, Bool, true, false, eqb-true, List, [], ◌∷◌, ◌++◌, length, take, drop, refl, sym, subst, ap, ◌∙◌, arith, nat_lt, nat_le, count_by, append_assoc, inl, inr, ⊎_elim}
use Rattle.std.specs.Prelude.{◌==◌, ◌&&◌, not}
use Rattle.std.specs.List.{list_all, onto_first}
use Rattle.std.proofs.Math.Seq.{take-append_seam}
use Rattle.std.proofs.lemmas.Bool.{false≢true, and_parts, or_parts, or_from}
use Rattle.std.proofs.lemmas.Bool.Decides.{nat_tests}
use Rattle.std.proofs.lemmas.List.{length_push, same_from_push}
use Rattle.std.proofs.lemmas.List.Elements.{All-push, All-nil}
use Rattle.std.proofs.lemmas.List.Sums.{AllPass-from_list_all}
use Rattle.std.proofs.lemmas.List.Splits.{slice_split-cons_yes, slice_split-cons_no, length-slice_split}
use Rattle.std.proofs.lemmas.List.Folds.{list_all-append}
use Rattle.httparse.specs.Ascii.{line_feed, carriage_return, colon, space}
use Rattle.httparse.specs.Grammar.{is_token_byte, is_uri_byte, is_value_byte, AllPass, IsToken, LineEnd, crlf, lf, print_end, print_blank, print_version, print_section, Field, IsField, RequestHead, print_request, ReadsRequest, HasNoRequest, MayBecomeRequest, EndsInTarget}
use Rattle.httparse.specs.Pieces.{Completes, Stops, is_newline, Word, Text, FieldLine}
use Rattle.httparse.proofs.RunLemmas.{run_unique}
use Rattle.httparse.proofs.PieceLemmas.{Blank_deterministic, Method_deterministic, Name_deterministic, RequestStart_deterministic, FieldLines-append, FieldLines_push, Stops_token}
use Rattle.httparse.proofs.ReadLemmas.{blank_more, FieldLine_done}
use Rattle.httparse.proofs.GrammarLemmas.{print_request-append, cons-append, request_tree}
use Rattle.httparse.proofs.OpenLemmas.{Completes_first, Completes_next, some_newline, some_text, Newline_after_cr, BlankLines_after, Word_cut, letter_is_token, FieldLine_of_row, Section_of_line, Section_after_lines, line_blank, line_method, request_may, request_may_from_line}
use Rattle.lk_http.specs.Heads.{lines_of, is_empty_line, is_over, has_field_over, IsOpen, AreOpenBefore}
use Rattle.lk_http.specs.Places.{is_within, HasBegun, IsValuePart, IsAt, IsStep, IsMove, IsBehind}
use Rattle.lk_http.specs.declared.place.Place.{Place}
use Rattle.lk_http.specs.declared.place.Place.TheVariants.{Blank, BlankReturn, Method, Target, Version, Line, Name, Value, ValueReturn, Other}
use Rattle.lk_http.proofs.HeadLemmas.{append_nil, lines_in, blank_counts, before_last, head_parts, within_append, version_within, front_of_parts, class_within}

-- ---- the last byte

last_of : (x : ℕ) (xs : List ℕ) → (init : List ℕ) × (last : ℕ) × (x ∷ xs ≡ init ++ last ∷ [])
last_of x [] = ([], x, refl)
last_of x (y ∷ xs) = let more = last_of y xs in (x ∷ more.0, more.1, ap (λ l. x ∷ l) more.2)

-- a byte of a class without the line feed
not_feed : (test : ℕ → Bool) → test line_feed ≡ false → (b : ℕ) → test b ≡ true → (b == line_feed) ≡ false
not_feed test lacks b is = pick (b == line_feed) refl where
  pick : (same : Bool) → (b == line_feed) ≡ same → (b == line_feed) ≡ false
  pick false e = e
  pick true e = absurd (false≢true (sym lacks ∙ ap test (sym (eqb-true b line_feed e)) ∙ is))

token_lacks : is_token_byte line_feed ≡ false
unfolding is_token_byte
token_lacks = refl

-- ---- no head ends with another byte than a line feed

ends_in_feed : (front : List ℕ) (last : LineEnd) → (init : List ℕ) × (front ++ print_end last ≡ init ++ line_feed ∷ [])
ends_in_feed front lf = (front, refl)
ends_in_feed front crlf = (front ++ carriage_return ∷ [], sym (append_assoc front (carriage_return ∷ []) (line_feed ∷ [])))

none_more : (bytes : List ℕ) (b : ℕ) → (b == line_feed) ≡ false → HasNoRequest bytes → HasNoRequest (bytes ++ b ∷ [])
none_more bytes b other none h [] reads =
    let front = ends_in_feed (before_last h) h.last in
    let same : b ≡ line_feed = (same_from_push bytes front.0 b line_feed (reads.1 ∙ append_nil (print_request h) ∙ head_parts h ∙ front.1)).1 in
    false≢true (sym other ∙ ap (λ x. x == line_feed) same)
none_more bytes b other none h (x ∷ rest) reads =
    let ending = last_of x rest in
    let e : bytes ++ b ∷ [] ≡ (print_request h ++ ending.0) ++ ending.1 ∷ [] =
    reads.1 ∙ ap (λ r. print_request h ++ r) ending.2 ∙ sym (append_assoc (print_request h) ending.0 (ending.1 ∷ [])) in
    none h ending.0 (reads.0, (same_from_push bytes (print_request h ++ ending.0) b ending.1 e).0)

-- ---- another byte than a line feed ends no line

-- the last part has the byte more
abbrev grow : ℕ → List (List ℕ) → List (List ℕ)
grow b [] = []
grow b (part ∷ []) = (part ++ b ∷ []) ∷ []
grow b (part ∷ next ∷ parts) = part ∷ grow b (next ∷ parts)

grow_is_some : (b : ℕ) (part : List ℕ) (parts : List (List ℕ)) → 0 < length (grow b (part ∷ parts))
grow_is_some b part [] = omega arith
grow_is_some b part (next ∷ parts) = omega arith

ended_grow : (b : ℕ) (parts : List (List ℕ)) → take (length (grow b parts) - 1) (grow b parts) ≡ take (length parts - 1) parts
ended_grow b [] = refl
ended_grow b (part ∷ []) = refl
ended_grow b (part ∷ next ∷ parts) =
    front_of_parts part (grow b (next ∷ parts)) (grow_is_some b next parts)
    ∙ ap (λ l. part ∷ l) (ended_grow b (next ∷ parts)) ∙ sym (front_of_parts part (next ∷ parts) (omega arith))

grow_after : (b : ℕ) (parts : List (List ℕ)) → 0 < length parts → [] ∷ grow b parts ≡ grow b ([] ∷ parts)
grow_after b [] some = absurd (omega arith)
grow_after b (part ∷ parts) some = refl

grow_onto : (b x : ℕ) (parts : List (List ℕ)) → 0 < length parts → onto_first x (grow b parts) ≡ grow b (onto_first x parts)
grow_onto b x [] some = absurd (omega arith)
grow_onto b x (part ∷ []) some = refl
grow_onto b x (part ∷ next ∷ parts) some = refl

some_lines : (bytes : List ℕ) → 0 < length (lines_of bytes)
some_lines bytes = omega (arith, length-slice_split (λ b. b == line_feed) bytes)

grow_by : (x : ℕ) (bytes : List ℕ) (b : ℕ) (same : Bool) → (x == line_feed) ≡ same → lines_of (bytes ++ b ∷ []) ≡ grow b (lines_of bytes) → lines_of ((x ∷ bytes) ++ b ∷ []) ≡ grow b (lines_of (x ∷ bytes))
grow_by x bytes b true e behind =
    slice_split-cons_yes (λ y. y == line_feed) x (bytes ++ b ∷ []) e ∙ ap (λ l. [] ∷ l) behind
    ∙ grow_after b (lines_of bytes) (some_lines bytes) ∙ ap (grow b) (sym (slice_split-cons_yes (λ y. y == line_feed) x bytes e))
grow_by x bytes b false e behind =
    slice_split-cons_no (λ y. y == line_feed) x (bytes ++ b ∷ []) e ∙ ap (onto_first x) behind
    ∙ grow_onto b x (lines_of bytes) (some_lines bytes) ∙ ap (grow b) (sym (slice_split-cons_no (λ y. y == line_feed) x bytes e))

lines_grow : (bytes : List ℕ) (b : ℕ) → (b == line_feed) ≡ false → lines_of (bytes ++ b ∷ []) ≡ grow b (lines_of bytes)
lines_grow [] b other = slice_split-cons_no (λ x. x == line_feed) b [] other
lines_grow (x ∷ bytes) b other = grow_by x bytes b (x == line_feed) refl (lines_grow bytes b other)

lines_more : (bytes : List ℕ) (b : ℕ) → (b == line_feed) ≡ false → lines_in (bytes ++ b ∷ []) ≡ lines_in bytes
lines_more bytes b other =
    ap (λ parts. count_by (λ l. not (is_empty_line l)) (take (length parts - 1) parts)) (lines_grow bytes b other)
    ∙ ap (count_by (λ l. not (is_empty_line l))) (ended_grow b (lines_of bytes))

short : (bytes : List ℕ) → length bytes < 16384 → nat_le 16384 (length bytes) ≡ false
short bytes l = grind (arith, nat_tests, l)

fits_more : (bytes : List ℕ) (b : ℕ) → (b == line_feed) ≡ false → length bytes + 1 < 16384 → is_over bytes ≡ false → is_over (bytes ++ b ∷ []) ≡ false
fits_more bytes b other l fits =
    or_from (nat_le 16384 (length (bytes ++ b ∷ []))) (has_field_over (bytes ++ b ∷ [])) (short (bytes ++ b ∷ []) (omega (arith, length_push bytes b, l)))
    (ap (nat_lt 65) (lines_more bytes b other) ∙ (or_parts (nat_le 16384 (length bytes)) (has_field_over bytes) fits).1)

open_more : (bytes : List ℕ) (b : ℕ) → (b == line_feed) ≡ false → length bytes + 1 < 16384 → IsOpen bytes → MayBecomeRequest (bytes ++ b ∷ []) → IsOpen (bytes ++ b ∷ [])
open_more bytes b other l wants may = record {
  none = none_more bytes b other wants.none;
  fits = fits_more bytes b other l wants.fits;
  may = may;
}

-- ---- empty lines

blank_has_no_space : (ends : List LineEnd) → list_all is_newline (print_blank ends) ≡ true
blank_has_no_space [] = refl
blank_has_no_space (lf ∷ ends) = blank_has_no_space ends
blank_has_no_space (crlf ∷ ends) = blank_has_no_space ends

blank_is_none : (ends : List LineEnd) → HasNoRequest (print_blank ends)
blank_is_none ends h rest reads =
    let after = h.target ++ 32 ∷ (print_version h.minor ++ (print_end h.line_end ++ (print_section h.fields h.last ++ rest))) in
    let all : list_all is_newline (print_blank h.blank ++ (h.method ++ 32 ∷ after)) ≡ true =
    ap (list_all is_newline) (sym (reads.1 ∙ print_request-append h rest)) ∙ blank_has_no_space ends in
    let behind = and_parts (list_all is_newline (print_blank h.blank)) (list_all is_newline (h.method ++ 32 ∷ after)) (sym (list_all-append is_newline (print_blank h.blank) (h.method ++ 32 ∷ after)) ∙ all) in
    let last = and_parts (list_all is_newline h.method) (list_all is_newline (32 ∷ after)) (sym (list_all-append is_newline h.method (32 ∷ after)) ∙ behind.1) in
    false≢true last.1

blank_is_open : (bytes : List ℕ) (ends : List LineEnd) → length bytes < 16384 → bytes ≡ print_blank ends → IsOpen bytes
blank_is_open bytes ends l e =
    let none_ended : lines_in (print_blank ends) ≡ 0 = ap lines_in (sym (append_nil (print_blank ends))) ∙ blank_counts ends [] in
    record {
      none = subst HasNoRequest (sym e) (blank_is_none ends);
      fits = or_from (nat_le 16384 (length bytes)) (has_field_over bytes) (short bytes l) (ap (nat_lt 65) (ap lines_in e ∙ none_ended));
      may = request_may_from_line (inl (line_blank (BlankLines_after ends (e ∙ sym (append_nil (print_blank ends))) some_newline)));
    }

-- ---- what can follow at a place

begun_more : (bytes rest more : List ℕ) → HasBegun bytes rest → HasBegun (bytes ++ more) (rest ++ more)
begun_more bytes rest more begun =
    let read = begun.1 in (
      begun.0,
      (read.0 ++ more, RequestStart_deterministic.append begun.0.0 bytes read.0 more read.1, FieldLines-append begun.0.1 read.0 rest more read.2),
    )

may_field : (bytes rest : List ℕ) → HasBegun bytes rest → Completes FieldLine rest → MayBecomeRequest bytes
may_field bytes rest begun line =
    let read = begun.1 in
    request_may (Completes_next RequestStart_deterministic {a = begun.0.0} read.1 (Section_after_lines begun.0.1 read.2 (Section_of_line (inr line))))

may_method : (bytes : List ℕ) (ends : List LineEnd) (method : List ℕ) → IsToken method → bytes ≡ print_blank ends ++ method → MayBecomeRequest bytes
may_method bytes ends method token e =
    let stops : Stops is_newline method = subst (Stops is_newline) (append_nil method) (Stops_token method [] token.0 token.1) in
    request_may_from_line (inl (line_method ends (e, stops) (Word_cut is_token_byte 32 65 letter_is_token token.1)))

name_open : (name : List ℕ) → AllPass is_token_byte name → Completes FieldLine name
name_open name all = FieldLine_of_row (Completes_first (Word_cut is_token_byte 58 65 letter_is_token all) some_text)

text_open : (raw : List ℕ) → AllPass is_value_byte raw → Completes Text raw
text_open raw all = record { more = 10 ∷ []; tree = (raw, lf); reads = λ rest. (all, refl) }

text_returned : (raw : List ℕ) → AllPass is_value_byte raw → Completes Text (raw ++ carriage_return ∷ [])
text_returned raw all =
    record { more = 10 ∷ []; tree = (raw, crlf); reads = λ rest. (all, append_assoc raw (13 ∷ []) (10 ∷ rest)) }

named : (part : List ℕ) (p : IsValuePart part) → Word is_token_byte 58 p.name part p.raw
named part p = (p.token.0, p.token.1, p.parted)

value_open : (part : List ℕ) → IsValuePart part → Completes FieldLine part
value_open part p = FieldLine_of_row (Completes_next Name_deterministic {a = p.name} (named part p) (text_open p.raw p.value))

value_returned : (part : List ℕ) → IsValuePart part → Completes FieldLine (part ++ carriage_return ∷ [])
value_returned part p =
    FieldLine_of_row
    (Completes_next Name_deterministic {a = p.name} (Name_deterministic.append p.name part p.raw (carriage_return ∷ []) (named part p)) (text_returned p.raw p.value))

token_more : (name : List ℕ) (b : ℕ) → AllPass is_token_byte name → is_token_byte b ≡ true → IsToken (name ++ b ∷ [])
token_more name b all is = (omega (arith, length_push name b), All-push (λ x. is_token_byte x ≡ true) name b all is)

value_more : (part : List ℕ) (b : ℕ) → IsValuePart part → is_value_byte b ≡ true → IsValuePart (part ++ b ∷ [])
value_more part b p is = record {
  name = p.name;
  raw = p.raw ++ b ∷ [];
  token = p.token;
  value = All-push (λ x. is_value_byte x ≡ true) p.raw b p.value is;
  parted = ap (λ x. x ++ b ∷ []) p.parted ∙ append_assoc p.name (colon ∷ p.raw) (b ∷ []);
}

value_begun : (name : List ℕ) (b : ℕ) → IsToken name → b ≡ colon → IsValuePart (name ++ b ∷ [])
value_begun name b token e =
    record { name = name; raw = []; token = token; value = All-nil (λ x. is_value_byte x ≡ true); parted = ap (λ x. name ++ x ∷ []) e }

-- ---- a byte that decides nothing

-- the head is open with the byte, which stands there
abbrev Stands : List ℕ → ℕ → Place → Type 0
Stands bytes b next = IsOpen (bytes ++ b ∷ []) × IsAt (bytes ++ b ∷ []) next

blank_feed : (bytes : List ℕ) (b : ℕ) (before : List ℕ) (ends : List LineEnd) (end : LineEnd) → length bytes + 1 < 16384 → bytes ++ b ∷ [] ≡ print_blank ends ++ before → before ≡ print_end end → Stands bytes b Blank
blank_feed bytes b before ends end l e f =
    let all : bytes ++ b ∷ [] ≡ print_blank (ends ++ end ∷ []) =
    blank_more ends end (bytes ++ b ∷ []) before [] e (f ∙ sym (append_nil (print_end end))) ∙ append_nil (print_blank (ends ++ end ∷ [])) in
    (blank_is_open (bytes ++ b ∷ []) (ends ++ end ∷ []) (omega (arith, length_push bytes b, l)) all, (ends ++ end ∷ [], all))

pushed : (bytes front rest : List ℕ) (b : ℕ) → bytes ≡ front ++ rest → bytes ++ b ∷ [] ≡ front ++ (rest ++ b ∷ [])
pushed bytes front rest b e = ap (λ x. x ++ b ∷ []) e ∙ append_assoc front rest (b ∷ [])

at_method : (bytes : List ℕ) (b : ℕ) (ends : List LineEnd) (method : List ℕ) → IsOpen bytes → length bytes + 1 < 16384 → is_token_byte b ≡ true → AllPass is_token_byte method → bytes ≡ print_blank ends ++ method → Stands bytes b Method
at_method bytes b ends method wants l is all e =
    let longer = token_more method b all is in
    let parted = pushed bytes (print_blank ends) method b e in
    (open_more bytes b (not_feed is_token_byte token_lacks b is) l wants (may_method (bytes ++ b ∷ []) ends (method ++ b ∷ []) longer parted), (ends, method ++ b ∷ [], longer, parted))

at_target : (bytes : List ℕ) (b : ℕ) → IsOpen bytes → length bytes + 1 < 16384 → (b == line_feed) ≡ false → EndsInTarget (bytes ++ b ∷ []) → Stands bytes b Target
at_target bytes b wants l other ends = (open_more bytes b other l wants (inr ends), ends)

at_name : (bytes : List ℕ) (b : ℕ) (name : List ℕ) → IsOpen bytes → length bytes + 1 < 16384 → is_token_byte b ≡ true → AllPass is_token_byte name → HasBegun bytes name → Stands bytes b Name
at_name bytes b name wants l is all begun =
    let longer = token_more name b all is in
    let more = begun_more bytes name (b ∷ []) begun in
    (open_more bytes b (not_feed is_token_byte token_lacks b is) l wants (may_field (bytes ++ b ∷ []) (name ++ b ∷ []) more (name_open (name ++ b ∷ []) longer.1)), (name ++ b ∷ [], longer, more))

at_value : (bytes : List ℕ) (b : ℕ) (part : List ℕ) → IsOpen bytes → length bytes + 1 < 16384 → (b == line_feed) ≡ false → IsValuePart (part ++ b ∷ []) → HasBegun bytes part → Stands bytes b Value
at_value bytes b part wants l other longer begun =
    let more = begun_more bytes part (b ∷ []) begun in
    (open_more bytes b other l wants (may_field (bytes ++ b ∷ []) (part ++ b ∷ []) more (value_open (part ++ b ∷ []) longer)), (part ++ b ∷ [], longer, more))

from_blank : (bytes : List ℕ) (b : ℕ) (next : Place) → IsOpen bytes → IsAt bytes Blank → length bytes + 1 < 16384 → IsStep Blank b next → Stands bytes b next
from_blank bytes b next wants (ends, e) l (inl (is, n)) =
    subst (Stands bytes b) (sym n) (blank_feed bytes b (b ∷ []) ends lf l (ap (λ x. x ++ b ∷ []) e) (ap (λ x. x ∷ []) is))
from_blank bytes b next wants (ends, e) l (inr (inl (is, n))) =
    let all : bytes ++ b ∷ [] ≡ print_blank ends ++ carriage_return ∷ [] = λ i. e i ++ is i ∷ [] in
    let may : MayBecomeRequest (bytes ++ b ∷ []) = request_may_from_line (inl (line_blank (BlankLines_after ends all (Newline_after_cr refl)))) in
    subst (Stands bytes b) (sym n) (open_more bytes b (ap (λ x. x == line_feed) is) l wants may, (ends, all))
from_blank bytes b next wants (ends, e) l (inr (inr (is, n))) =
    subst (Stands bytes b) (sym n) (at_method bytes b ends [] wants l is (All-nil (λ x. is_token_byte x ≡ true)) (e ∙ sym (append_nil (print_blank ends))))

from_blank_return : (bytes : List ℕ) (b : ℕ) (next : Place) → IsAt bytes BlankReturn → length bytes + 1 < 16384 → IsStep BlankReturn b next → Stands bytes b next
from_blank_return bytes b next (ends, e) l (is, n) =
    subst (Stands bytes b) (sym n) (blank_feed bytes b (carriage_return ∷ b ∷ []) ends crlf l (pushed bytes (print_blank ends) (carriage_return ∷ []) b e) (ap (λ x. carriage_return ∷ x ∷ []) is))

from_method : (bytes : List ℕ) (b : ℕ) (next : Place) → IsOpen bytes → IsAt bytes Method → length bytes + 1 < 16384 → IsStep Method b next → Stands bytes b next
from_method bytes b next wants (ends, method, token, e) l (inl (is, n)) =
    let all : bytes ++ b ∷ [] ≡ (print_blank ends ++ method) ++ space ∷ [] = λ i. e i ++ is i ∷ [] in
    subst (Stands bytes b) (sym n) (at_target bytes b wants l (ap (λ x. x == line_feed) is) (ends, method, [], token, All-nil (λ x. is_uri_byte x ≡ true), all))
from_method bytes b next wants (ends, method, token, e) l (inr (is, n)) =
    subst (Stands bytes b) (sym n) (at_method bytes b ends method wants l is token.1 e)

from_target : (bytes : List ℕ) (b : ℕ) (next : Place) → IsOpen bytes → IsAt bytes Target → length bytes + 1 < 16384 → IsStep Target b next → Stands bytes b next
from_target bytes b next wants (ends, method, target, token, uri, e) l (is, n) =
    let all : bytes ++ b ∷ [] ≡ (print_blank ends ++ method) ++ space ∷ (target ++ b ∷ []) = pushed bytes (print_blank ends ++ method) (space ∷ target) b e in
    subst (Stands bytes b) (sym n)
    (at_target bytes b wants l (not_feed is_uri_byte refl b is) (ends, method, target ++ b ∷ [], token, All-push (λ x. is_uri_byte x ≡ true) target b uri is, all))

from_line : (bytes : List ℕ) (b : ℕ) (next : Place) → IsOpen bytes → IsAt bytes Line → length bytes + 1 < 16384 → IsStep Line b next → Stands bytes b next
from_line bytes b next wants begun l (is, n) =
    subst (Stands bytes b) (sym n) (at_name bytes b [] wants l is (All-nil (λ x. is_token_byte x ≡ true)) begun)

from_name : (bytes : List ℕ) (b : ℕ) (next : Place) → IsOpen bytes → IsAt bytes Name → length bytes + 1 < 16384 → IsStep Name b next → Stands bytes b next
from_name bytes b next wants (name, token, begun) l (inl (is, n)) =
    subst (Stands bytes b) (sym n) (at_value bytes b name wants l (ap (λ x. x == line_feed) is) (value_begun name b token is) begun)
from_name bytes b next wants (name, token, begun) l (inr (is, n)) =
    subst (Stands bytes b) (sym n) (at_name bytes b name wants l is token.1 begun)

from_value : (bytes : List ℕ) (b : ℕ) (next : Place) → IsOpen bytes → IsAt bytes Value → length bytes + 1 < 16384 → IsStep Value b next → Stands bytes b next
from_value bytes b next wants (part, p, begun) l (inl (is, n)) =
    let more = subst (λ x. HasBegun (bytes ++ b ∷ []) (part ++ x ∷ [])) is (begun_more bytes part (b ∷ []) begun) in
    subst (Stands bytes b) (sym n)
    (open_more bytes b (ap (λ x. x == line_feed) is) l wants (may_field (bytes ++ b ∷ []) (part ++ carriage_return ∷ []) more (value_returned part p)), (part, p, more))
from_value bytes b next wants (part, p, begun) l (inr (is, n)) =
    subst (Stands bytes b) (sym n) (at_value bytes b part wants l (not_feed is_value_byte refl b is) (value_more part b p is) begun)

step_stands : (bytes : List ℕ) (b : ℕ) (place next : Place) → IsOpen bytes → IsAt bytes place → length bytes + 1 < 16384 → IsStep place b next → Stands bytes b next
step_stands bytes b Blank next wants at l is = from_blank bytes b next wants at l is
step_stands bytes b BlankReturn next wants at l is = from_blank_return bytes b next at l is
step_stands bytes b Method next wants at l is = from_method bytes b next wants at l is
step_stands bytes b Target next wants at l is = from_target bytes b next wants at l is
step_stands bytes b Version next wants at l is = absurd is
step_stands bytes b Line next wants at l is = from_line bytes b next wants at l is
step_stands bytes b Name next wants at l is = from_name bytes b next wants at l is
step_stands bytes b Value next wants at l is = from_value bytes b next wants at l is
step_stands bytes b ValueReturn next wants at l is = absurd is
step_stands bytes b Other next wants at l is = absurd is

-- ---- the end of the request line

-- a target does not end with a line feed
no_target_feed : (bytes : List ℕ) → EndsInTarget (bytes ++ line_feed ∷ []) → ⊥
no_target_feed bytes (ends, method, target, token, uri, e) =
    let front = print_blank ends ++ method in
    let ending = last_of space target in
    let parted : bytes ++ line_feed ∷ [] ≡ (front ++ ending.0) ++ ending.1 ∷ [] =
    e ∙ ap (λ x. front ++ x) ending.2 ∙ sym (append_assoc front ending.0 (ending.1 ∷ [])) in
    let same : line_feed ≡ ending.1 = (same_from_push bytes (front ++ ending.0) line_feed ending.1 parted).1 in
    let within : is_within (ending.0 ++ line_feed ∷ []) ≡ true =
    ap (λ x. is_within (ending.0 ++ x ∷ [])) same ∙ ap is_within (sym ending.2) ∙ class_within is_uri_byte refl target uri in
    false≢true (and_parts (is_within ending.0) (is_within (line_feed ∷ [])) (sym (list_all-append (λ x. not (x == line_feed)) ending.0 (line_feed ∷ [])) ∙ within)).1

within_all : (bytes : List ℕ) → is_within bytes ≡ true → AllPass (λ x. not (x == line_feed)) bytes
within_all bytes w = AllPass-from_list_all (λ x. not (x == line_feed)) bytes w

-- what stands before the first line feed
feed_parts : (version : List ℕ) (minor : ℕ) (end : LineEnd) (more rest : List ℕ) → is_within version ≡ true → minor ≤ 1
    → version ++ line_feed ∷ more ≡ print_version minor ++ (print_end end ++ rest) → version ++ line_feed ∷ [] ≡ print_version minor ++ print_end end
feed_parts version minor lf more rest within small e =
    ap (λ x. x ++ line_feed ∷ [])
    (run_unique (λ x. not (x == line_feed)) version (print_version minor) (line_feed ∷ more) (line_feed ∷ rest) (within_all version within) (within_all (print_version minor) (version_within minor small)) refl refl e).0
feed_parts version minor crlf more rest within small e =
    let returned = print_version minor ++ carriage_return ∷ [] in
    let same : version ≡ returned =
    (run_unique (λ x. not (x == line_feed)) version returned (line_feed ∷ more) (line_feed ∷ rest) (within_all version within)
    (within_all returned (within_append (print_version minor) (carriage_return ∷ []) (version_within minor small) refl)) refl refl (e ∙ sym (append_assoc (print_version minor) (carriage_return ∷ []) (line_feed ∷ rest)))).0 in
    ap (λ x. x ++ line_feed ∷ []) same ∙ append_assoc (print_version minor) (carriage_return ∷ []) (line_feed ∷ [])

spread : (blank method target version more : List ℕ) (bytes front : List ℕ) → front ≡ (blank ++ method) ++ space ∷ target → bytes ≡ front ++ space ∷ version
    → (bytes ++ line_feed ∷ []) ++ more ≡ blank ++ (method ++ space ∷ (target ++ space ∷ (version ++ line_feed ∷ more)))
spread blank method target version more bytes front f e =
    ap (λ x. (x ++ line_feed ∷ []) ++ more) (e ∙ ap (λ x. x ++ space ∷ version) f) ∙ simp (append_assoc, cons-append)

line_begun : (bytes front version more : List ℕ) (h : RequestHead) → EndsInTarget front → is_within version ≡ true → bytes ≡ front ++ space ∷ version
    → ReadsRequest ((bytes ++ line_feed ∷ []) ++ more) h [] → HasBegun (bytes ++ line_feed ∷ []) []
line_begun bytes front version more h (ends, method, target, token, uri, f) within e reads =
    let theirs = reads.1 ∙ print_request-append h [] in
    let ours = spread (print_blank ends) method target version more bytes front f e in
    let behind = target ++ space ∷ (version ++ line_feed ∷ more) in
    let line = print_version h.minor ++ (print_end h.line_end ++ (print_section h.fields h.last ++ [])) in
    let blank = Blank_deterministic.unique ends h.blank ((bytes ++ line_feed ∷ []) ++ more) (method ++ space ∷ behind) (h.method ++ space ∷ (h.target ++ space ∷ line))
    (ours, Stops_token method (space ∷ behind) token.0 token.1) (theirs, Stops_token h.method (space ∷ (h.target ++ space ∷ line)) reads.0.method.0 reads.0.method.1) in
    let named = Method_deterministic.unique method h.method (method ++ space ∷ behind) behind (h.target ++ space ∷ line) (token.0, token.1, refl) (reads.0.method.0, reads.0.method.1, blank.1) in
    let asked = run_unique is_uri_byte target h.target (space ∷ (version ++ line_feed ∷ more)) (space ∷ line) uri reads.0.target.1 refl refl named.1 in
    let ended = feed_parts version h.minor h.line_end more (print_section h.fields h.last ++ []) within reads.0.minor (ap (drop 1) asked.1) in
    let all : bytes ++ line_feed ∷ [] ≡ print_blank h.blank ++ (h.method ++ space ∷ (h.target ++ space ∷ (print_version h.minor ++ (print_end h.line_end ++ [])))) =
    sym (append_nil (bytes ++ line_feed ∷ [])) ∙ spread (print_blank ends) method target version [] bytes front f e
    ∙ (λ i. print_blank (blank.0 i) ++ (named.0 i ++ space ∷ (asked.0 i ++ space ∷ ended i))) ∙ ap (λ x. print_blank h.blank ++ (h.method ++ space ∷ (h.target ++ space ∷ (print_version h.minor ++ x)))) (sym (append_nil (print_end h.line_end))) in (
      ((request_tree h).0, []),
      (
        [],
        (
          _,
          (all, Stops_token h.method _ reads.0.method.0 reads.0.method.1),
          (_, (reads.0.method.0, reads.0.method.1, refl), (_, ((reads.0.target.0, reads.0.target.1, refl), reads.0.target_text), (_, (reads.0.minor, refl), refl))),
        ),
        (All-nil IsField, refl),
      ),
    )

-- ---- the end of a field

field_ended : (bytes : List ℕ) (part ending : List ℕ) (end : LineEnd) → IsValuePart part → HasBegun bytes (part ++ ending) → ending ≡ print_end end → HasBegun bytes []
field_ended bytes part ending end p begun e =
    let read = begun.1 in
    let word = Name_deterministic.append p.name part p.raw ending (named part p) in
    let field = FieldLine_done p.name p.raw end (part ++ ending) (p.raw ++ ending) [] word (p.value, ap (λ x. p.raw ++ x) (e ∙ sym (append_nil (print_end end)))) in
    let f : Field = record { name = p.name; raw = p.raw; end = end } in
    ((begun.0.0, begun.0.1 ++ f ∷ []), (read.0, read.1, FieldLines_push begun.0.1 f read.0 (part ++ ending) [] read.2 field))

-- ---- a byte with which the head is open

version_more : (bytes : List ℕ) (b : ℕ) → IsAt bytes Version → (b == line_feed) ≡ false → IsAt (bytes ++ b ∷ []) Version
version_more bytes b (front, version, ends, within, e) other =
    (front, version ++ b ∷ [], ends, within_append version (b ∷ []) within (ap (λ x. not x && true) other), pushed bytes front (space ∷ version) b e)

version_ended : (bytes : List ℕ) (b : ℕ) → IsAt bytes Version → b ≡ line_feed → MayBecomeRequest (bytes ++ b ∷ []) → HasBegun (bytes ++ b ∷ []) []
version_ended bytes b (front, version, ends, within, e) is may =
    let begun : MayBecomeRequest (bytes ++ line_feed ∷ []) → HasBegun (bytes ++ line_feed ∷ []) [] =
    λ m. ⊎_elim (λ some. line_begun bytes front version some.0 some.1 ends within e some.2) (λ target. absurd (no_target_feed bytes target)) m in
    subst (λ x. MayBecomeRequest (bytes ++ x ∷ []) → HasBegun (bytes ++ x ∷ []) []) (sym is) begun may

value_ended : (bytes : List ℕ) (b : ℕ) → IsAt bytes Value → b ≡ line_feed → HasBegun (bytes ++ b ∷ []) []
value_ended bytes b (part, p, begun) is = field_ended (bytes ++ b ∷ []) part (b ∷ []) lf p (begun_more bytes part (b ∷ []) begun) (ap (λ x. x ∷ []) is)

return_ended : (bytes : List ℕ) (b : ℕ) → IsAt bytes ValueReturn → b ≡ line_feed → HasBegun (bytes ++ b ∷ []) []
return_ended bytes b (part, p, begun) is =
    let more = subst (HasBegun (bytes ++ b ∷ [])) (append_assoc part (carriage_return ∷ []) (b ∷ [])) (begun_more bytes (part ++ carriage_return ∷ []) (b ∷ []) begun) in
    field_ended (bytes ++ b ∷ []) part (carriage_return ∷ b ∷ []) crlf p more (ap (λ x. carriage_return ∷ x ∷ []) is)

elsewhere : (bytes : List ℕ) (next : Place) → next ≡ Other → IsAt bytes next
elsewhere bytes next n = subst (IsAt bytes) (sym n) tt

moved : (bytes : List ℕ) (b : ℕ) (place next : Place) → IsAt bytes place → MayBecomeRequest (bytes ++ b ∷ []) → IsMove place b next → IsAt (bytes ++ b ∷ []) next
moved bytes b Target next at may (inl (is, n)) = subst (IsAt (bytes ++ b ∷ [])) (sym n) (bytes, [], at, refl, ap (λ x. bytes ++ x ∷ []) is)
moved bytes b Target next at may (inr n) = elsewhere (bytes ++ b ∷ []) next n
moved bytes b Version next at may (inl (other, n)) = subst (IsAt (bytes ++ b ∷ [])) (sym n) (version_more bytes b at other)
moved bytes b Version next at may (inr (is, n)) = subst (IsAt (bytes ++ b ∷ [])) (sym n) (version_ended bytes b at is may)
moved bytes b Value next at may (inl (is, n)) = subst (IsAt (bytes ++ b ∷ [])) (sym n) (value_ended bytes b at is)
moved bytes b Value next at may (inr n) = elsewhere (bytes ++ b ∷ []) next n
moved bytes b ValueReturn next at may (inl (is, n)) = subst (IsAt (bytes ++ b ∷ [])) (sym n) (return_ended bytes b at is)
moved bytes b ValueReturn next at may (inr n) = elsewhere (bytes ++ b ∷ []) next n
moved bytes b Blank next at may n = elsewhere (bytes ++ b ∷ []) next n
moved bytes b BlankReturn next at may n = elsewhere (bytes ++ b ∷ []) next n
moved bytes b Method next at may n = elsewhere (bytes ++ b ∷ []) next n
moved bytes b Line next at may n = elsewhere (bytes ++ b ∷ []) next n
moved bytes b Name next at may n = elsewhere (bytes ++ b ∷ []) next n
moved bytes b Other next at may n = elsewhere (bytes ++ b ∷ []) next n

-- ---- the same of bytes that end with the byte

-- the bytes before the last are open
open_front : (bytes front : List ℕ) (b : ℕ) → AreOpenBefore (length bytes) bytes → bytes ≡ front ++ b ∷ [] → IsOpen front
open_front bytes front b early e =
    subst IsOpen (ap (take (length front)) e ∙ take-append_seam front (b ∷ [])) (early (length front) (omega (arith, ap length e, length_push front b)))

pub stands_at : (bytes : List ℕ) (b : ℕ) (place next : Place) → AreOpenBefore (length bytes) bytes → length bytes < 16384 → IsBehind bytes b place → IsStep place b next → IsOpen bytes × IsAt bytes next
stands_at bytes b place next early l (front, e, at) is =
    subst (λ x. IsOpen x × IsAt x next) (sym e) (step_stands front b place next (open_front bytes front b early e) at (omega (arith, ap length e, length_push front b, l)) is)

pub moves_to : (bytes : List ℕ) (b : ℕ) (place next : Place) → IsBehind bytes b place → IsOpen bytes → IsMove place b next → IsAt bytes next
moves_to bytes b place next (front, e, at) wants is =
    subst (λ x. IsAt x next) (sym e) (moved front b place next at (subst MayBecomeRequest e wants.may) is)
