-- How the bytes of a head stand to the lines in them.
use Rattle.std.proofs.Common.{◌≡◌, ℕ, ◌+◌, ◌-◌, ◌<◌, ◌≤◌, Bool, true, false, List, [], ◌∷◌, ◌++◌, length, take, refl, sym, subst, ap, ◌∙◌, arith, eqb-true, zero, suc, cond, nat_lt, nat_eq, count_by, append_assoc, get_or, Some, None, Option, unwrap_or, Ok, inl, take_all, ⊎_elim, length-drop, ltb-true, ltb-false}
use Rattle.std.specs.Prelude.{◌==◌, ◌&&◌, not, All}
use Rattle.std.specs.List.{list_all, flat_map, position_or_len, before_first, after_first}
use Rattle.std.specs.Option.{option_map}
use Rattle.std.proofs.Math.Seq.{take-append_seam}
use Rattle.std.proofs.lemmas.Bool.Decides.{nat_tests}
use Rattle.std.proofs.lemmas.List.{length-append, length-map, length-take, take-append-le}
use Rattle.std.proofs.lemmas.Bool.{cases_lt}
use Rattle.std.proofs.lemmas.Str.{IsUtf8-from_ascii}
use Rattle.std.specs.Str.{IsAscii}
use Rattle.std.proofs.lemmas.List.Elements.{All-head, All-tail, All-cons, All-nil}
use Rattle.std.proofs.lemmas.List.Sums.{sum_by-cons, AllPass-from_list_all, fails_before_first}
use Rattle.std.proofs.lemmas.List.Splits.{slice_split_none, slice_split_at, slice_split_first, length-slice_split}
use Rattle.std.proofs.lemmas.List.Folds.{list_all-append}
use Rattle.httparse.specs.Ascii.{line_feed, carriage_return, colon}
use Rattle.httparse.specs.Grammar.{is_token_byte, is_uri_byte, is_value_byte, AllPass, LineEnd, crlf, lf, print_end, print_blank, print_version, Field, IsField, print_field, print_section, RequestHead, IsRequestHead, print_request, ReadsRequest, HasNoRequest, NeverHasRequest}
use Rattle.httparse.specs.Spans.{RequestOverflows, RequestExceeds, AreFieldsAt, IsRequestOf, header_bytes, name_and_value}
use Rattle.httparse.specs.declared.spans.RequestSpans.{RequestSpans}
use Rattle.httparse.specs.declared.Error.{Error}
use Rattle.httparse.specs.declared.Status.{Status}
use Rattle.httparse.specs.declared.Status.TheVariants.{Complete}
use Rattle.httparse.specs.Outcome.{IfComplete}
use Rattle.lk_http.specs.Judged.{IsWhole}
use Rattle.httparse.specs.declared.spans.HeaderSpan.{HeaderSpan}
use Rattle.httparse.proofs.GrammarLemmas.{print_request-append, cons-append}
use Rattle.lk_http.specs.Targets.{cut_line}
use Rattle.lk_http.specs.Heads.{lines_of, ended_lines, is_empty_line, is_over, IsOpen, AreOpenBefore}

pub append_nil : (a : List ℕ) → a ++ [] ≡ a
append_nil [] = refl
append_nil (x ∷ a) = ap (λ b. x ∷ b) (append_nil a)

-- ---- what is whole

-- a head at the front of bytes of which no shorter prefix is a head is all of them
pub all_is_head : (bytes : List ℕ) → AreOpenBefore (length bytes) bytes → (h : RequestHead) (rest : List ℕ) → ReadsRequest bytes h rest → rest ≡ []
all_is_head bytes early h [] reads = refl
all_is_head bytes early h (b ∷ rest) reads =
    let shorter : length (print_request h) < length bytes = omega (arith, ap length reads.1, length-append (print_request h) (b ∷ rest)) in
    let front : take (length (print_request h)) bytes ≡ print_request h = ap (take (length (print_request h))) reads.1 ∙ take-append_seam (print_request h) (b ∷ rest) in
    absurd ((early (length (print_request h)) shorter).none h [] (reads.0, front ∙ sym (append_nil (print_request h))))

pub never_is_none : (bytes : List ℕ) → NeverHasRequest bytes → HasNoRequest bytes
never_is_none bytes never h rest reads = never [] h rest (reads.0, append_nil bytes ∙ reads.1)

-- ---- lines

-- no byte is a line feed
abbrev is_within : List ℕ → Bool
is_within line = list_all (λ b. not (b == line_feed)) line

no_feed : (line : List ℕ) → is_within line ≡ true → All (λ b. (b == line_feed) ≡ false) line
no_feed line w = λ k d l. from_not (get_or line k d == line_feed) (AllPass-from_list_all (λ b. not (b == line_feed)) line w k d l) where
  from_not : (same : Bool) → not same ≡ true → same ≡ false
  from_not false e = refl
  from_not true e = cc

-- how many of the ended lines are not empty
abbrev pub lines_in : List ℕ → ℕ
lines_in bytes = count_by (λ line. not (is_empty_line line)) (ended_lines bytes)

pub front_of_parts : (part : List ℕ) (parts : List (List ℕ)) → 0 < length parts → take (length (part ∷ parts) - 1) (part ∷ parts) ≡ part ∷ take (length parts - 1) parts
front_of_parts part [] some = absurd (omega arith)
front_of_parts part (next ∷ parts) some =
    let one_more : length (part ∷ next ∷ parts) - 1 ≡ suc (length (next ∷ parts) - 1) = omega arith in
    ap (λ n. take n (part ∷ next ∷ parts)) one_more

lines_after : (line rest : List ℕ) → is_within line ≡ true → lines_in (line ++ line_feed ∷ rest) ≡ count_by (λ l. not (is_empty_line l)) (line ∷ ended_lines rest)
lines_after line rest within =
    ap (λ parts. count_by (λ l. not (is_empty_line l)) (take (length parts - 1) parts)) (slice_split_at (λ b. b == line_feed) line line_feed rest (no_feed line within) refl)
    ∙ ap (count_by (λ l. not (is_empty_line l))) (front_of_parts line (lines_of rest) (omega (arith, length-slice_split (λ b. b == line_feed) rest)))

long_is_given : (line : List ℕ) → 2 ≤ length line → is_empty_line line ≡ false
long_is_given [] l = absurd (omega arith)
long_is_given (x ∷ []) l = absurd (omega arith)
long_is_given (x ∷ y ∷ line) l = either (nat_eq x carriage_return) where
  either : (same : Bool) → (same && false) ≡ false
  either true = refl
  either false = refl

counted : (line : List ℕ) (lines : List (List ℕ)) → is_empty_line line ≡ false → count_by (λ l. not (is_empty_line l)) (line ∷ lines) ≡ 1 + count_by (λ l. not (is_empty_line l)) lines
counted line lines e =
    sum_by-cons (λ l. cond (not (is_empty_line l)) 1 0) line lines
    ∙ ap (λ b. cond (not b) 1 0 + count_by (λ l. not (is_empty_line l)) lines) e

pub within_append : (a b : List ℕ) → is_within a ≡ true → is_within b ≡ true → is_within (a ++ b) ≡ true
within_append a b v w = list_all-append (λ x. not (x == line_feed)) a b ∙ (λ i. v i && w i)

-- a line of two bytes or more counts
line_counts : (line : List ℕ) (end : LineEnd) (rest : List ℕ) → is_within line ≡ true → 2 ≤ length line → lines_in (line ++ (print_end end ++ rest)) ≡ 1 + lines_in rest
line_counts line lf rest w l = lines_after line rest w ∙ counted line (ended_lines rest) (long_is_given line l)
line_counts line crlf rest w l =
    let returned = line ++ carriage_return ∷ [] in
    let long : 2 ≤ length returned = omega (arith, length-append line (carriage_return ∷ [])) in
    ap lines_in (sym (append_assoc line (carriage_return ∷ []) (line_feed ∷ rest)))
    ∙ lines_after returned rest (within_append line (carriage_return ∷ []) w refl) ∙ counted returned (ended_lines rest) (long_is_given returned long)

-- empty lines do not
pub blank_counts : (ends : List LineEnd) (rest : List ℕ) → lines_in (print_blank ends ++ rest) ≡ lines_in rest
blank_counts [] rest = refl
blank_counts (lf ∷ ends) rest = lines_after [] (print_blank ends ++ rest) refl ∙ blank_counts ends rest
blank_counts (crlf ∷ ends) rest = lines_after (carriage_return ∷ []) (print_blank ends ++ rest) refl ∙ blank_counts ends rest

-- the first line, and the others
lines_of_split : (bytes line more : List ℕ) → lines_of bytes ≡ line ∷ lines_of more → lines_in bytes ≡ cond (is_empty_line line) 0 1 + lines_in more
lines_of_split bytes line more e =
    ap (λ parts. count_by (λ l. not (is_empty_line l)) (take (length parts - 1) parts)) e
    ∙ ap (count_by (λ l. not (is_empty_line l))) (front_of_parts line (lines_of more) (omega (arith, length-slice_split (λ b. b == line_feed) more)))
    ∙ sum_by-cons (λ l. cond (not (is_empty_line l)) 1 0) line (ended_lines more)
    ∙ ap (λ n. n + lines_in more) (turned (is_empty_line line))
  where
    turned : (b : Bool) → ◌≡◌ {A = ℕ} (cond (not b) 1 0) (cond b 0 1)
    turned true = refl
    turned false = refl

Cut : List ℕ → List ℕ → List ℕ → Type 0
Cut bytes line more = (lines_in bytes ≡ cond (is_empty_line line) 0 1 + lines_in more) × (length more < length bytes)

cut_at : (bytes line more : List ℕ) → position_or_len (λ b. b == line_feed) bytes < length bytes → line ≡ before_first (λ b. b == line_feed) bytes → more ≡ after_first (λ b. b == line_feed) bytes → Cut bytes line more
unfolding Cut
cut_at bytes line more within a b = (
  lines_of_split bytes line more (slice_split_first (λ b. b == line_feed) bytes 0 within ∙ (λ i. sym a i ∷ lines_of (sym b i))),
  omega (arith, ap length b, length-drop (position_or_len (λ b. b == line_feed) bytes + 1) bytes),
)

cut_by : (bytes line more : List ℕ) (within : Bool) → nat_lt (position_or_len (λ b. b == line_feed) bytes) (length bytes) ≡ within
    → ◌≡◌ {A = Option (List ℕ × List ℕ)} (Some (line, more)) (option_map (λ _. (before_first (λ b. b == line_feed) bytes, after_first (λ b. b == line_feed) bytes)) (cond within (Some (position_or_len (λ b. b == line_feed) bytes)) None)) → Cut bytes line more
cut_by bytes line more true within e =
    let pair = ap (λ (o : Option (List ℕ × List ℕ)). unwrap_or o ([], [])) e in
    cut_at bytes line more (ltb-true _ _ within) (ap (λ p. p.0) pair) (ap (λ p. p.1) pair)
cut_by bytes line more false within e = cc

pub lines_cut : (bytes line more : List ℕ) → Some (line, more) ≡ cut_line bytes → (lines_in bytes ≡ cond (is_empty_line line) 0 1 + lines_in more) × (length more < length bytes)
unfolding Cut
lines_cut bytes line more e = cut_by bytes line more (nat_lt (position_or_len (λ b. b == line_feed) bytes) (length bytes)) refl e

uncut_by : (bytes : List ℕ) (within : Bool) → nat_lt (position_or_len (λ b. b == line_feed) bytes) (length bytes) ≡ within
    → ◌≡◌ {A = Option (List ℕ × List ℕ)} None (option_map (λ _. (before_first (λ b. b == line_feed) bytes, after_first (λ b. b == line_feed) bytes)) (cond within (Some (position_or_len (λ b. b == line_feed) bytes)) None)) → lines_in bytes ≡ 0
uncut_by bytes true within e = cc
uncut_by bytes false within e = ap (λ parts. count_by (λ l. not (is_empty_line l)) (take (length parts - 1) parts)) (slice_split_none (λ b. b == line_feed) bytes (λ k d l. fails_before_first (λ b. b == line_feed) bytes k d (omega (arith, l, ltb-false _ _ within))))

pub lines_uncut : (bytes : List ℕ) → None ≡ cut_line bytes → lines_in bytes ≡ 0
lines_uncut bytes e = uncut_by bytes (nat_lt (position_or_len (λ b. b == line_feed) bytes) (length bytes)) refl e

pub line_more : (bytes line more : List ℕ) → Some (line, more) ≡ cut_line bytes → is_empty_line line ≡ false → lines_in bytes ≡ 1 + lines_in more
line_more bytes line more e given = (lines_cut bytes line more e).0 ∙ ap (λ b. cond b 0 1 + lines_in more) given

pub line_same : (bytes line more : List ℕ) → Some (line, more) ≡ cut_line bytes → is_empty_line line ≡ true → lines_in bytes ≡ lines_in more
line_same bytes line more e empty = omega (arith, (lines_cut bytes line more e).0 ∙ ap (λ b. cond b 0 1 + lines_in more) empty)

-- ---- the lines of a head

-- bytes of a class without the line feed
pub class_within : (test : ℕ → Bool) → test line_feed ≡ false → (bytes : List ℕ) → AllPass test bytes → is_within bytes ≡ true
class_within test lacks [] all = refl
class_within test lacks (b ∷ bytes) all = (λ i. not (other (b == line_feed) refl i) && class_within test lacks bytes (All-tail (λ x. test x ≡ true) b bytes all) i) where
  other : (same : Bool) → (b == line_feed) ≡ same → (b == line_feed) ≡ false
  other false e = e
  other true e = cc (All-head (λ x. test x ≡ true) b bytes all, ap test (eqb-true b line_feed e), lacks)

pub version_within : (minor : ℕ) → minor ≤ 1 → is_within (print_version minor) ≡ true
version_within zero l = refl
version_within (suc zero) l = refl
version_within (suc (suc minor)) l = absurd (omega arith)

token_within : (bytes : List ℕ) → AllPass is_token_byte bytes → is_within bytes ≡ true
unfolding is_token_byte
token_within bytes all = class_within is_token_byte refl bytes all

-- each field is a line
field_counts : (f : Field) (rest : List ℕ) → IsField f → lines_in (print_field f ++ rest) ≡ 1 + lines_in rest
field_counts f rest is =
    let line = f.name ++ colon ∷ f.raw in
    let parted : print_field f ++ rest ≡ line ++ (print_end f.end ++ rest) = simp (append_assoc, cons-append) in
    let within : is_within line ≡ true = within_append f.name (colon ∷ f.raw) (token_within f.name is.name.1) (class_within is_value_byte refl f.raw is.raw) in
    ap lines_in parted ∙ line_counts line f.end rest within (omega (arith, length-append f.name (colon ∷ f.raw), is.name.0))

fields_count : (fields : List Field) (rest : List ℕ) → All IsField fields → lines_in (flat_map print_field fields ++ rest) ≡ length fields + lines_in rest
fields_count [] rest all = omega arith
fields_count (f ∷ fields) rest all =
    ap lines_in (append_assoc (print_field f) (flat_map print_field fields) rest)
    ∙ field_counts f (flat_map print_field fields ++ rest) (All-head IsField f fields all)
    ∙ ap (λ n. 1 + n) (fields_count fields rest (All-tail IsField f fields all))
    ∙ (omega arith)

-- the bytes of a head before its last line
abbrev pub before_last : RequestHead → List ℕ
before_last h =
    print_blank h.blank ++ (h.method ++ 32 ∷ (h.target ++ 32 ∷ (print_version h.minor
    ++ (print_end h.line_end ++ flat_map print_field h.fields))))

pub head_parts : (h : RequestHead) → print_request h ≡ before_last h ++ print_end h.last
head_parts h = sym (append_nil (print_request h)) ∙ print_request-append h [] ∙ simp (append_assoc, cons-append, append_nil)

-- the request line and each field are lines
pub head_lines : (h : RequestHead) (rest : List ℕ) → IsRequestHead h → lines_in (before_last h ++ rest) ≡ 1 + (length h.fields + lines_in rest)
head_lines h rest is =
    let line = h.method ++ 32 ∷ (h.target ++ 32 ∷ print_version h.minor) in
    let parted : before_last h ++ rest ≡ print_blank h.blank ++ (line ++ (print_end h.line_end ++ (flat_map print_field h.fields ++ rest))) = simp (append_assoc, cons-append) in
    let within : is_within line ≡ true =
    within_append h.method (32 ∷ (h.target ++ 32 ∷ print_version h.minor)) (token_within h.method is.method.1)
    (within_append h.target (32 ∷ print_version h.minor) (class_within is_uri_byte refl h.target is.target.1) (version_within h.minor is.minor)) in
    ap lines_in parted
    ∙ blank_counts h.blank (line ++ (print_end h.line_end ++ (flat_map print_field h.fields ++ rest)))
    ∙ line_counts line h.line_end (flat_map print_field h.fields ++ rest) within (omega (arith, length-append h.method (32 ∷ (h.target ++ 32 ∷ print_version h.minor)), is.method.0))
    ∙ ap (λ n. 1 + n) (fields_count h.fields rest is.fields)

-- ---- heads that are too long

over_by_lines : (bytes : List ℕ) → 66 ≤ lines_in bytes → is_over bytes ≡ true
over_by_lines bytes many = grind (arith, nat_tests, many)

last_off : (a b : List ℕ) (x y : ℕ) → a ++ x ∷ [] ≡ b ++ y ∷ [] → a ≡ b
last_off a b x y e =
    let same : length a ≡ length b = omega (arith, ap length e, length-append a (x ∷ []), length-append b (y ∷ [])) in
    sym (take-append_seam a (x ∷ [])) ∙ ap (take (length a)) e ∙ ap (λ n. take n (b ++ y ∷ [])) same ∙ take-append_seam b (y ∷ [])

-- bytes that a line feed makes a head begin with all but its last line
front_is : (front : List ℕ) (h : RequestHead) (last : LineEnd) → front ++ line_feed ∷ [] ≡ before_last h ++ print_end last → (ending : List ℕ) × (front ≡ before_last h ++ ending)
front_is front h lf e = ([], last_off front (before_last h) line_feed line_feed e ∙ sym (append_nil (before_last h)))
front_is front h crlf e =
    (carriage_return ∷ [], last_off front (before_last h ++ carriage_return ∷ []) line_feed line_feed (e ∙ sym (append_assoc (before_last h) (carriage_return ∷ []) (line_feed ∷ []))))

pub over_if_many : (bytes : List ℕ) → RequestExceeds 64 bytes → is_over bytes ≡ true
over_if_many bytes (front, rest, e, h, reads, many) =
    let begins = front_is front h h.last (reads.1 ∙ append_nil (print_request h) ∙ head_parts h) in
    let all : bytes ≡ before_last h ++ (begins.0 ++ rest) = e ∙ ap (λ f. f ++ rest) begins.1 ∙ append_assoc (before_last h) begins.0 rest in
    over_by_lines bytes (omega (arith, ap lines_in all, head_lines h (begins.0 ++ rest) reads.0, many))

pub none_if_many : (bytes : List ℕ) → AreOpenBefore (length bytes) bytes → RequestOverflows 64 bytes → HasNoRequest bytes
none_if_many bytes early overflows h rest reads =
    let many : 64 < length h.fields = overflows [] h rest (reads.0, append_nil bytes ∙ reads.1) in
    let all : bytes ≡ before_last h ++ (print_end h.last ++ rest) = reads.1 ∙ ap (λ x. x ++ rest) (head_parts h) ∙ append_assoc (before_last h) (print_end h.last) rest in
    let front : take (length (before_last h)) bytes ≡ before_last h = ap (take (length (before_last h))) all ∙ take-append_seam (before_last h) (print_end h.last ++ rest) in
    let shorter : length (before_last h) < length bytes = omega (arith, ap length all, length-append (before_last h) (print_end h.last ++ rest), length-append (print_end h.last) rest, end_is_some h.last) in
    let lines : 66 ≤ lines_in (before_last h) = omega (arith, ap lines_in (append_nil (before_last h)), head_lines h [] reads.0, many) in
    let fits : is_over (take (length (before_last h)) bytes) ≡ false = (early (length (before_last h)) shorter).fits in
    cc (ap is_over front, over_by_lines (before_last h) lines, fits)
  where
    end_is_some : (last : LineEnd) → 1 ≤ length (print_end last)
    end_is_some lf = omega arith
    end_is_some crlf = omega arith

-- fields that are shown by at most 64 headers
pub few_fields : (buf : List ℕ) (headers : List HeaderSpan) (count : ℕ) (fields : List Field) → AreFieldsAt buf headers count fields → length headers ≡ 64 → length fields ≤ 64
few_fields buf headers count fields e l =
    omega (arith, l, ap length e, length-map (take count headers) (header_bytes buf), length-map fields name_and_value, length-take count headers)

pub whole_if : (bytes : List ℕ) → AreOpenBefore (length bytes) bytes → (headers : List HeaderSpan) (r : RequestSpans) → IsRequestOf bytes headers r → length headers ≡ 64 → IsWhole bytes
whole_if bytes early headers r (h, found) l =
    let rest = all_is_head bytes early h _ found.reads in (
      h,
      (found.reads.0, found.reads.1 ∙ ap (λ x. print_request h ++ x) rest),
      few_fields bytes headers r.headers h.fields found.fields l,
    )

-- what holds of a complete answer
pub if_complete : {A : Type 0} (P : A → Type 0) (status : Status A) (a : A) → status ≡ Complete a → IfComplete {A = A} {E = Error} (Ok status) P → P a
if_complete {A} P status a e h = subst (λ s. IfComplete {A = A} {E = Error} (Ok s) P) e h

-- ---- what is open

-- bytes with nothing in them want more
some_head : RequestHead
some_head = record { blank = []; method = 65 ∷ []; target = 47 ∷ []; minor = 1; line_end = lf; fields = []; last = lf }

one_ascii : IsAscii (47 ∷ [])
one_ascii zero = omega arith
one_ascii (suc i) = omega arith

is_some_head : IsRequestHead some_head
unfolding some_head is_token_byte
is_some_head = record {
  method = (omega arith, All-cons (λ b. is_token_byte b ≡ true) 65 [] refl (All-nil (λ b. is_token_byte b ≡ true)));
  target = (omega arith, All-cons (λ b. is_uri_byte b ≡ true) 47 [] refl (All-nil (λ b. is_uri_byte b ≡ true)));
  target_text = IsUtf8-from_ascii (47 ∷ []) one_ascii;
  minor = omega arith;
  fields = All-nil IsField;
}

nothing_is_none : HasNoRequest []
nothing_is_none h rest reads =
    let more = h.target ++ 32 ∷ (print_version h.minor ++ (print_end h.line_end ++ (print_section h.fields h.last ++ rest))) in
    absurd (omega (arith, ap length (reads.1 ∙ print_request-append h rest), length-append (print_blank h.blank) (h.method ++ 32 ∷ more), length-append h.method (32 ∷ more)))

nothing_is_open : IsOpen []
nothing_is_open = record {
  none = nothing_is_none;
  fits = refl;
  may = inl (print_request some_head, some_head, (is_some_head, sym (append_nil (print_request some_head))));
}

pub open_at_first : AreOpenBefore 1 []
open_at_first zero l = nothing_is_open
open_at_first (suc n) l = absurd (omega arith)

-- with one byte more, all shorter fronts still want more
pub open_before_next : (bytes : List ℕ) (b : ℕ) → AreOpenBefore (length bytes + 1) bytes → AreOpenBefore (length (bytes ++ b ∷ [])) (bytes ++ b ∷ [])
open_before_next bytes b early n l =
    let within : n < length bytes + 1 = omega (arith, l, length-append bytes (b ∷ [])) in
    subst IsOpen (sym (take-append-le n bytes (b ∷ []) (omega arith))) (early n within)

-- and so do all fronts where the bytes do
pub open_to_here : (bytes : List ℕ) → AreOpenBefore (length bytes) bytes → IsOpen bytes → AreOpenBefore (length bytes + 1) bytes
open_to_here bytes early here n l =
    ⊎_elim (λ shorter. early n shorter) (λ all. subst IsOpen (sym (take_all n bytes all)) here) (cases_lt n (length bytes))
