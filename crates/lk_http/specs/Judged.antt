-- What the bytes of a head are so far.
use Rattle.std.specs.Prelude.{ℕ, ◌≤◌, List, [], length}
use Rattle.httparse.specs.Grammar.{RequestHead, ReadsRequest}
use Rattle.lk_http.specs.Heads.{IsOpen, Decides, over, bad}
use Rattle.lk_http.specs.declared.head.Seen.{Seen}
use Rattle.lk_http.specs.declared.head.Seen.TheVariants.{Open, Whole, TooLong, Invalid}

-- a whole head with 64 fields at most
abbrev pub IsWhole : List ℕ → Type 0
IsWhole bytes = (head : RequestHead) × ReadsRequest bytes head [] × (length head.fields ≤ 64)

-- the bytes are so
abbrev pub IsSeen : List ℕ → Seen → Type 0
IsSeen bytes Open = IsOpen bytes
IsSeen bytes Whole = IsWhole bytes
IsSeen bytes TooLong = Decides bytes over
IsSeen bytes Invalid = Decides bytes bad
