-- What the steps of reading a request promise.
use Rattle.std.specs.Prelude.{ℕ, ◌≡◌, ◌<◌, ◌+◌, Bool, if◌then◌else◌, List, [], ◌∷◌, Option, Some, None, Result, Ok, Err, IfOk, IfSome, length}
use Rattle.std.specs.Io.KnownBytes.{Consumes, IsAtEnd}
use Rattle.httparse.specs.Grammar.{RequestHead, ReadsRequest}
use Rattle.lk_http.specs.Fields.{body_length, user_of}
use Rattle.lk_http.specs.Heads.{AreOpenBefore, Decides, over, bad}
use Rattle.lk_http.specs.Items.{Item, fields_of, is_post, asks_close}
use Rattle.lk_http.specs.Judged.{IsWhole}
use Rattle.lk_http.specs.Places.{IsAt}
use Rattle.lk_http.specs.Routes.{target_of}
use Rattle.lk_http.specs.declared.asked.Asked.{Asked}
use Rattle.lk_http.specs.declared.asked.Parts.{Parts}
use Rattle.lk_http.specs.declared.place.Place.{Place}
use Rattle.lk_http.specs.declared.reading.Front.{Front}
use Rattle.lk_http.specs.declared.reading.Front.TheVariants.{Ended, Head}
use Rattle.lk_http.specs.declared.request.Target.{Target}
use Rattle.lk_val.specs.declared.memory.NoMemory.{NoMemory as memory}
use Rattle.lk_http.specs.declared.request.Got.TheVariants.{Req}
use Rattle.lk_http.specs.declared.faults.HttpFault.{HttpFault}
use Rattle.lk_http.specs.declared.faults.HttpFault.TheVariants.{H1, H4, H5, H6, Truncated, ReadFault, NoMemory}

-- the next byte, or the end
abbrev pub IsByteRead : Option (List ℕ) → Option (List ℕ) → Result (Option ℕ) HttpFault → Type 0
IsByteRead left left' (Ok None) = Consumes left left' [] × IsAtEnd left'
IsByteRead left left' (Ok (Some b)) = Consumes left left' (b ∷ [])
IsByteRead left left' (Err ReadFault) = Consumes left left' []
IsByteRead left left' (Err fault) = ⊥

-- the bytes of a head, as far as it is decided or the input goes
abbrev pub IsHeadRead : Option (List ℕ) → List ℕ → Result Front HttpFault → Type 0
IsHeadRead left' head (Ok Ended) = (head ≡ []) × IsAtEnd left'
IsHeadRead left' head (Ok Head) = AreOpenBefore (length head) head × IsWhole head
IsHeadRead left' head (Err H6) = AreOpenBefore (length head) head × Decides head over
IsHeadRead left' head (Err H1) = AreOpenBefore (length head) head × Decides head bad
IsHeadRead left' head (Err Truncated) = AreOpenBefore (length head + 1) head × (0 < length head) × IsAtEnd left'
IsHeadRead left' head (Err ReadFault) = AreOpenBefore (length head + 1) head
IsHeadRead left' head (Err fault) = ⊥

-- the bytes that a pull of the next byte took
abbrev pub taken_by : Result (Option ℕ) HttpFault → List ℕ
taken_by (Ok (Some b)) = b ∷ []
taken_by next = []

-- the bytes of a head, of which the last pull gave this, are answered so, whatever the input
abbrev pub IsAnsweredBy : Result (Option ℕ) HttpFault → List ℕ → Result Front HttpFault → Type 0
IsAnsweredBy next head answer = (left left' : Option (List ℕ)) → IsByteRead left left' next → IsHeadRead left' head answer

-- with a byte more they still want more, and the last byte stands there
pub record StaysOpen (head more : List ℕ) (place : Place) : Type 0 where
  pub longer : length head < length more
  pub early : AreOpenBefore (length more + 1) more
  pub at : IsAt more place

-- what a whole head asks for
pub record IsAskedBy (head : RequestHead) (asked : Asked) : Type 0 where
  pub post : asked.post ≡ is_post head
  pub close : asked.close ≡ asks_close head
  pub count : asked.length ≡ body_length (is_post head) (fields_of head)
  pub parts : IfOk asked.parts (λ parts. (parts.user ≡ user_of (fields_of head)) × (parts.target ≡ target_of head.target))

abbrev pub IsAsked : List ℕ → Asked → Type 0
IsAsked bytes asked = (head : RequestHead) × ReadsRequest bytes head [] × IsAskedBy head asked

-- the request of a head and its body, where there was memory for them
abbrev pub with_kept : Bool → List ℕ → Target → Option (List ℕ) → Item
with_kept close user target None = Err NoMemory
with_kept close user target (Some body) = Ok (Req (record { user = user; target = target; body = body; close = close }))

abbrev pub routed_with : Bool → Bool → List ℕ → Option (List ℕ) → Option Target → Item
routed_with post close user body None = Err (H4 close)
routed_with post close user body (Some target) = if post then with_kept close user target body else Err (H5 close)

abbrev pub request_with : Bool → Bool → Option (List ℕ) → Result Parts memory → Item
request_with post close body (Ok parts) = routed_with post close parts.user body parts.target
request_with post close body (Err _) = Err NoMemory

-- the request of a head and its body, or why that was not read
abbrev pub request_after : Bool → Bool → Result (Option (List ℕ)) HttpFault → Result Parts memory → Item
request_after post close (Ok body) parts = request_with post close body parts
request_after post close (Err fault) parts = Err fault

-- so many bytes, which may have been dropped, or a cut within them
abbrev pub IsBodyRead : Option (List ℕ) → Option (List ℕ) → ℕ → Result (Option (List ℕ)) HttpFault → Type 0
IsBodyRead left left' count (Ok body) =
    (bytes : List ℕ) × (length bytes ≡ count) × Consumes left left' bytes × IfSome body (λ kept. kept ≡ bytes)
IsBodyRead left left' count (Err Truncated) =
    (bytes : List ℕ) × (length bytes < count) × Consumes left left' bytes × IsAtEnd left'
IsBodyRead left left' count (Err ReadFault) = (bytes : List ℕ) × (length bytes < count) × Consumes left left' bytes
IsBodyRead left left' count (Err fault) = ⊥

-- a body of the length that is stated, or why that is refused, and then nothing is read
abbrev pub IsStatedRead : Option (List ℕ) → Option (List ℕ) → Result ℕ HttpFault → Result (Option (List ℕ)) HttpFault → Type 0
IsStatedRead left left' (Ok count) result = IsBodyRead left left' count result
IsStatedRead left left' (Err fault) result = (result ≡ Err fault) × (left' ≡ left)
