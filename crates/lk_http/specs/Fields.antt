-- What the fields of a request's head say. A field is its name and its value without the white space around it.
use Rattle.std.specs.Prelude.{ℕ, ◌==◌, Bool, not, ◌&&◌, ◌||◌, nat_eq, nat_le, nat_lt, if◌then◌else◌, List, [], Option, Some, None, Result, Ok, Err, false, codes, count_by, length, unwrap_or, take, drop}
use Rattle.std.specs.Char.{is_ascii_digit}
use Rattle.std.specs.List.{list_all, list_any, find, slice_split}
use Rattle.std.specs.Option.{option_and_then, option_map}
use Rattle.std.specs.Str.{str_eq_ignore_ascii_case}
use Rattle.std.specs.Str.Parse.{digits_value}
use Rattle.httparse.specs.Ascii.{comma}
use Rattle.httparse.specs.Grammar.{is_ows, skip_ows}
use Rattle.lk_val.specs.Texts.{text_of}
use Rattle.lk_http.specs.declared.faults.HttpFault.{HttpFault}
use Rattle.lk_http.specs.declared.faults.HttpFault.TheVariants.{H1, H2, H3}

abbrev pub Pair : Type 0
Pair = List ℕ × List ℕ

-- the field has this name, in any case
abbrev pub is_named : List ℕ → Pair → Bool
is_named name field = str_eq_ignore_ascii_case field.0 name

-- the value of the first field of the name
abbrev pub value_of : List ℕ → List Pair → Option (List ℕ)
value_of name fields = option_map (λ field. field.1) (find (is_named name) fields)

-- ---- Content-Length (RFC 9112, section 6.3) and Transfer-Encoding (section 6.1)

-- the length that a value of 1 to 10 digits states
abbrev pub length_in : List ℕ → Option ℕ
length_in value =
    if not (nat_eq (length value) 0) && nat_le (length value) 10 && list_all is_ascii_digit value
    then Some (digits_value 10 value) else None

abbrev pub is_length_field : Pair → Bool
is_length_field = is_named (codes "content-length")

-- the length that the first such field states
abbrev pub stated_length : List Pair → Option ℕ
stated_length fields = option_and_then length_in (value_of (codes "content-length") fields)

-- both are the same number
abbrev pub is_same_length : Option ℕ → Option ℕ → Bool
is_same_length None other = false
is_same_length (Some n) None = false
is_same_length (Some n) (Some m) = m == n

-- each such field is 1 to 10 digits, and all are the same number
abbrev pub do_lengths_agree : List Pair → Bool
do_lengths_agree fields =
    list_all (λ field. not (is_length_field field) || is_same_length (stated_length fields) (length_in field.1)) fields

abbrev pub is_coded : List Pair → Bool
is_coded fields = list_any (is_named (codes "transfer-encoding")) fields

-- the most bytes of a body
abbrev pub body_limit : ℕ
body_limit = 16777216

-- the refusal for the length, which a POST must state, or the body's length
abbrev pub length_or_fault : Bool → Option ℕ → Result ℕ HttpFault
length_or_fault is_post None = if is_post then Err H2 else Ok 0
length_or_fault is_post (Some n) = if nat_lt body_limit n then Err (H3 n) else Ok n

abbrev pub body_length : Bool → List Pair → Result ℕ HttpFault
body_length is_post fields =
    if not (do_lengths_agree fields) then Err H1
    else if is_coded fields then Err H2
    else length_or_fault is_post (stated_length fields)

-- ---- the caller

-- the value of the only `X-User`, where it is text, and else the empty text
abbrev pub user_of : List Pair → List ℕ
user_of fields =
    if count_by (is_named (codes "x-user")) fields == 1
    then unwrap_or (option_and_then text_of (value_of (codes "x-user") fields)) []
    else []

-- ---- whether the request asks to close (RFC 9112, section 9.6; RFC 9110, section 7.6.1)

-- the option is `close`, in any case, and blanks around it
abbrev pub is_close : List ℕ → Bool
is_close option =
    str_eq_ignore_ascii_case (take 5 (skip_ows option)) (codes "close") && list_all is_ows (drop 5 (skip_ows option))

-- one of the options between commas is so
abbrev pub has_close : List ℕ → Bool
has_close value = list_any is_close (slice_split (λ b. b == comma) value)

abbrev pub is_close_field : Pair → Bool
is_close_field field = is_named (codes "connection") field && has_close field.1

abbrev pub closes : ℕ → List Pair → Bool
closes minor fields =
    minor == 0 || list_any is_close_field fields
