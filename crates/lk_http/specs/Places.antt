-- Where in a head its last byte stands, and what a further byte does there.
use Rattle.std.specs.Prelude.{ℕ, ◌≡◌, ◌==◌, Bool, true, false, not, List, [], ◌∷◌, ◌++◌, ◌⊎◌, ⊤}
use Rattle.std.specs.List.{list_all}
use Rattle.httparse.specs.Ascii.{line_feed, carriage_return, space, colon}
use Rattle.httparse.specs.Grammar.{is_token_byte, is_uri_byte, is_value_byte, AllPass, IsToken, LineEnd, Field, print_blank, EndsInTarget}
use Rattle.httparse.specs.Pieces.{Then, FieldLines, RequestStart}
use Rattle.lk_http.specs.declared.place.Place.{Place}
use Rattle.lk_http.specs.declared.place.Place.TheVariants.{Blank, BlankReturn, Method, Target, Version, Line, Name, Value, ValueReturn, Other}

-- no byte is a line feed
abbrev pub is_within : List ℕ → Bool
is_within bytes = list_all (λ b. not (b == line_feed)) bytes

-- the request line and some whole fields, and then the rest
abbrev pub HasBegun : List ℕ → List ℕ → Type 0
HasBegun bytes rest =
    (parts : (List LineEnd × (List ℕ × (List ℕ × (ℕ × LineEnd)))) × List Field) × Then RequestStart FieldLines parts bytes rest

-- the name of a field, a colon, and the value so far
pub record IsValuePart (part : List ℕ) : Type 0 where
  pub name : List ℕ
  pub raw : List ℕ
  pub token : IsToken name
  pub value : AllPass is_value_byte raw
  pub parted : part ≡ name ++ colon ∷ raw

-- the last byte stands there
abbrev pub IsAt : List ℕ → Place → Type 0
IsAt bytes Blank = (ends : List LineEnd) × (bytes ≡ print_blank ends)
IsAt bytes BlankReturn = (ends : List LineEnd) × (bytes ≡ print_blank ends ++ carriage_return ∷ [])
IsAt bytes Method = (ends : List LineEnd) × (method : List ℕ) × IsToken method × (bytes ≡ print_blank ends ++ method)
IsAt bytes Target = EndsInTarget bytes
IsAt bytes Version =
    (front : List ℕ) × (version : List ℕ) × EndsInTarget front × (is_within version ≡ true) × (bytes ≡ front ++ space ∷ version)
IsAt bytes Line = HasBegun bytes []
IsAt bytes Name = (name : List ℕ) × IsToken name × HasBegun bytes name
IsAt bytes Value = (part : List ℕ) × IsValuePart part × HasBegun bytes part
IsAt bytes ValueReturn = (part : List ℕ) × IsValuePart part × HasBegun bytes (part ++ carriage_return ∷ [])
IsAt bytes Other = ⊤

-- the byte may stand behind the place, decides nothing, and stands at the next one
abbrev pub IsStep : Place → ℕ → Place → Type 0
IsStep Blank b next =
    ((b ≡ line_feed) × (next ≡ Blank)) ⊎ ((b ≡ carriage_return) × (next ≡ BlankReturn)) ⊎ ((is_token_byte b ≡ true) × (next ≡ Method))
IsStep BlankReturn b next = (b ≡ line_feed) × (next ≡ Blank)
IsStep Method b next = ((b ≡ space) × (next ≡ Target)) ⊎ ((is_token_byte b ≡ true) × (next ≡ Method))
IsStep Target b next = (is_uri_byte b ≡ true) × (next ≡ Target)
IsStep Line b next = (is_token_byte b ≡ true) × (next ≡ Name)
IsStep Name b next = ((b ≡ colon) × (next ≡ Value)) ⊎ ((is_token_byte b ≡ true) × (next ≡ Name))
IsStep Value b next = ((b ≡ carriage_return) × (next ≡ ValueReturn)) ⊎ ((is_value_byte b ≡ true) × (next ≡ Value))
IsStep place b next = ⊥

-- where the head is open with the byte behind the place, it stands at the next one
abbrev pub IsMove : Place → ℕ → Place → Type 0
IsMove Target b next = ((b ≡ space) × (next ≡ Version)) ⊎ (next ≡ Other)
IsMove Version b next = (((b == line_feed) ≡ false) × (next ≡ Version)) ⊎ ((b ≡ line_feed) × (next ≡ Line))
IsMove Value b next = ((b ≡ line_feed) × (next ≡ Line)) ⊎ (next ≡ Other)
IsMove ValueReturn b next = ((b ≡ line_feed) × (next ≡ Line)) ⊎ (next ≡ Other)
IsMove place b next = next ≡ Other

-- the bytes end with the byte, which follows the place
abbrev pub IsBehind : List ℕ → ℕ → Place → Type 0
IsBehind bytes b place = (front : List ℕ) × (bytes ≡ front ++ b ∷ []) × IsAt front place
