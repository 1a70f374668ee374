-- The query that a body in JSON is, if it is one. (lookd; RFC 8259)
use Rattle.std.specs.Prelude.{ℕ, ◌&&◌, nat_le, Bool, true, false, if◌then◌else◌, ℤ, pos, List, [], ◌∷◌, map, length, Option, Some, None, option_map, option_and_then, Result, Ok, Err, codes}
use Rattle.std.specs.List.{list_any}
use Rattle.serde_json.specs.Data.{Data, Items, no_items, item, Members, no_members, member}
use Rattle.serde_json.specs.Find.{get_member, as_array, as_bool, as_i64, as_number, as_object, as_str}
use Rattle.serde_json.specs.Read.{read}
use Rattle.lk_val.specs.Texts.{text_of, is_same_text, are_different}
use Rattle.lk_types.specs.declared.bound.Query.{Query}
use Rattle.lk_body.specs.Sorts.{sort_of}
use Rattle.lk_body.specs.declared.fault.QueryFault.{QueryFault}
use Rattle.lk_body.specs.declared.fault.QueryFault.TheVariants.{Q3}

-- ---- strings

-- one and those that follow, if all are there
abbrev pub first_and_rest : {A : Type 0} → Option A → Option (List A) → Option (List A)
first_and_rest None rest = None
first_and_rest (Some first) None = None
first_and_rest (Some first) (Some rest) = Some (first ∷ rest)

-- the strings of a list that holds nothing else
abbrev pub strings_of : Items → Option (List (List ℕ))
strings_of no_items = Some []
strings_of (item d ds) = first_and_rest (as_str d) (strings_of ds)

-- the keys and strings of an object that holds nothing else; `serde_json` keeps the last pair of a repeated key
abbrev pub pairs_of : Members → Option (List (List ℕ × List ℕ))
pairs_of no_members = Some []
pairs_of (member k d ms) = first_and_rest (option_map (λ text. (k, text)) (as_str d)) (pairs_of ms)

-- a list, where it has at most 64 items
abbrev pub if_few : {A : Type 0} → List A → Option (List A)
if_few items = if nat_le (length items) 64 then Some items else None

-- ---- keys

-- 1 to 64 names, none of them twice
abbrev pub if_asked : List (List ℕ) → Option (List (List ℕ))
if_asked names = if nat_le 1 (length names) && nat_le (length names) 64 && are_different names then Some names else None

-- the value of `fields`, which has to be there
abbrev pub fields_in : Option Data → Option (List (List ℕ))
fields_in None = None
fields_in (Some d) = option_and_then if_asked (option_and_then strings_of (as_array d))

-- the value of `filters`: none where it is left out
abbrev pub filters_in : Option Data → Option (List (List ℕ × List ℕ))
filters_in None = Some []
filters_in (Some d) = option_and_then if_few (option_and_then pairs_of (as_object d))

-- the value of `sorts`: none where it is left out
abbrev pub sorts_in : Option Data → Option (List (List ℕ × Bool))
sorts_in None = Some []
sorts_in (Some d) = option_map (map sort_of) (option_and_then if_few (option_and_then strings_of (as_array d)))

-- the value of `limit`, a whole number of 64 bits: 500 where it is left out
abbrev pub limit_in : Option Data → Option ℤ
limit_in None = Some (pos 500)
limit_in (Some d) = option_and_then as_i64 (as_number d)

-- the value of `fresh`: no where it is left out
abbrev pub fresh_in : Option Data → Option Bool
fresh_in None = Some false
fresh_in (Some d) = as_bool d

-- whether a word for a format is `csv`; `json` is the other one
abbrev pub csv_of : List ℕ → Option Bool
csv_of word = if is_same_text word (codes "json") then Some false else if is_same_text word (codes "csv") then Some true else None

-- the value of `format`: JSON where it is left out
abbrev pub csv_in : Option Data → Option Bool
csv_in None = Some false
csv_in (Some d) = option_and_then csv_of (as_str d)

-- ---- the body

-- the keys that a body may have
abbrev pub known_keys : List (List ℕ)
known_keys = codes "fields" ∷ codes "filters" ∷ codes "sorts" ∷ codes "limit" ∷ codes "fresh" ∷ codes "format" ∷ []

-- each key is a known one
abbrev pub has_known_keys : Members → Bool
has_known_keys no_members = true
has_known_keys (member k d ms) = list_any (is_same_text k) known_keys && has_known_keys ms

-- the query of these parts, if all are there
abbrev pub query_from : Option (List (List ℕ)) → Option (List (List ℕ × List ℕ)) → Option (List (List ℕ × Bool))
    → Option ℤ → Option Bool → Option Bool → Option Query
query_from (Some fields) (Some filters) (Some sorts) (Some limit) (Some fresh) (Some csv) =
    Some (record { fields = fields; filters = filters; sorts = sorts; limit = limit; fresh = fresh; csv = csv })
query_from fields filters sorts limit fresh csv = None

-- the query of an object
abbrev pub query_at : Members → Option Query
query_at ms =
    query_from
    (fields_in (get_member (codes "fields") ms))
    (filters_in (get_member (codes "filters") ms))
    (sorts_in (get_member (codes "sorts") ms))
    (limit_in (get_member (codes "limit") ms))
    (fresh_in (get_member (codes "fresh") ms))
    (csv_in (get_member (codes "format") ms))

-- the query of an object without other keys
unfoldable pub query_in : Members → Option Query
query_in ms = if has_known_keys ms then query_at ms else None

-- the query, or Q3
abbrev pub query_or_fault : Option Query → Result Query QueryFault
query_or_fault None = Err Q3
query_or_fault (Some q) = Ok q

-- the query that a body is, or Q3 where it is no text in JSON of this shape
unfoldable pub query_of : List ℕ → Result Query QueryFault
query_of body = query_or_fault (option_and_then query_in (option_and_then as_object (option_and_then read (text_of body))))
