-- When the head of a request is decided, as its bytes come. (RFC 9112, sections 2 and 3; lookd)
use Rattle.std.specs.Prelude.{ℕ, ◌≡◌, ◌+◌, ◌-◌, ◌<◌, ◌==◌, Bool, true, false, not, ◌||◌, nat_le, nat_lt, List, [], ◌∷◌, count_by, length, take}
use Rattle.std.specs.List.{slice_split}
use Rattle.lk_val.specs.Texts.{is_same_text}
use Rattle.httparse.specs.Ascii.{line_feed, carriage_return}
use Rattle.httparse.specs.Grammar.{RequestHead, ReadsRequest, HasNoRequest, MayBecomeRequest}

-- the most bytes and the most fields of a head
abbrev pub head_limit : ℕ
head_limit = 16384

abbrev pub field_limit : ℕ
field_limit = 64

-- what stands between the line feeds
abbrev pub lines_of : List ℕ → List (List ℕ)
lines_of bytes = slice_split (λ b. b == line_feed) bytes

-- the lines that have ended: all but the last
abbrev pub ended_lines : List ℕ → List (List ℕ)
ended_lines bytes = take (length (lines_of bytes) - 1) (lines_of bytes)

-- the line has nothing but a carriage return
abbrev pub is_empty_line : List ℕ → Bool
is_empty_line line = is_same_text line [] || is_same_text line (carriage_return ∷ [])

-- a 65th field is there: that many lines after the request line that are not empty
abbrev pub has_field_over : List ℕ → Bool
has_field_over bytes = nat_lt (field_limit + 1) (count_by (λ line. not (is_empty_line line)) (ended_lines bytes))

-- no head may go on after these bytes
abbrev pub is_over : List ℕ → Bool
is_over bytes = nat_le head_limit (length bytes) || has_field_over bytes

-- the bytes are no head, and more of them can make one; a prefix that ends within the target counts as such
pub record IsOpen (bytes : List ℕ) : Type 0 where
  pub none : HasNoRequest bytes
  pub fits : is_over bytes ≡ false
  pub may : MayBecomeRequest bytes

-- what the bytes of a head are once they are decided
pub data Decided : Type 0 where
  whole : RequestHead → Decided
  over bad : Decided

-- these bytes decide it so
abbrev pub Decides : List ℕ → Decided → Type 0
Decides bytes (whole head) = ReadsRequest bytes head []
Decides bytes over = HasNoRequest bytes × (is_over bytes ≡ true)
Decides bytes bad = HasNoRequest bytes × (is_over bytes ≡ false) × (MayBecomeRequest bytes → ⊥)

-- none of the first bytes decides it
abbrev pub AreOpenBefore : ℕ → List ℕ → Type 0
AreOpenBefore count bytes = (n : ℕ) → n < count → IsOpen (take n bytes)
