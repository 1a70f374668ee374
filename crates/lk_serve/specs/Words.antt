-- The words that the program was given, and what they ask for.
use Rattle.std.specs.Prelude.{ℕ, ◌==◌, ◌&&◌, ◌||◌, ◌-◌, nat_le, not, Bool, false, true, if◌then◌else◌, List, [], ◌∷◌, Option, None, Some, codes}
use Rattle.std.specs.List.{list_any}
use Rattle.std.specs.Option.{is_some}
use Rattle.lk_val.specs.Texts.{is_same_text}
use Rattle.lk_serve.specs.declared.words.Command.{Command}
use Rattle.lk_serve.specs.declared.words.Command.TheVariants as command

-- what words ask for: nothing that is known, the folder's first fault, the answer to a caller's query on an explore, that the
-- requests of the input are served, or that those of connections are by so many workers
pub data Asked : Type 0 where
  unknown : Asked
  check : Asked
  query : List ℕ → List ℕ → Asked
  script : Asked
  serve : ℕ → Asked

abbrev pub has_dash : List ℕ → Bool
has_dash [] = false
has_dash (c ∷ cs) = c == 45

-- 1 to 16, in decimal without a sign or a leading zero
abbrev pub workers_of : List ℕ → Option ℕ
workers_of (digit ∷ []) = if nat_le 49 digit && nat_le digit 57 then Some (digit - 48) else None
workers_of (ten ∷ digit ∷ []) = if ten == 49 && (nat_le 48 digit && nat_le digit 54) then Some (digit - 38) else None
workers_of text = None

abbrev pub served_by : Option ℕ → Asked
served_by None = unknown
served_by (Some workers) = serve workers

-- `check DIR` and `script DIR`, `query DIR USER EXPLORE` and `serve DIR ADDRESS WORKERS`
abbrev pub plain_words : List (List ℕ) → Asked
plain_words (word ∷ folder ∷ []) =
    if is_same_text word (codes "check") then check else if is_same_text word (codes "script") then script else unknown
plain_words (word ∷ folder ∷ user ∷ explore ∷ []) =
    if is_same_text word (codes "query") then query user explore
    else if is_same_text word (codes "serve") then served_by (workers_of explore) else unknown
plain_words words = unknown

-- words of which one begins with `-` ask for nothing that is known
abbrev pub asked_by : List (List ℕ) → Asked
asked_by words = if list_any has_dash words then unknown else plain_words words

-- what a command that was read asks for
abbrev pub meaning : Command → Asked
meaning command.Unknown = unknown
meaning command.Check = check
meaning (command.Query user explore) = query user.now explore.now
meaning command.Script = script
meaning (command.Serve folder workers) = serve workers.count

-- nothing of the input is asked for
abbrev pub IsUnasked : Asked → Type 0
IsUnasked unknown = Unit {0}
IsUnasked check = Unit {0}
IsUnasked (query user explore) = ⊥
IsUnasked script = ⊥
IsUnasked (serve workers) = ⊥

-- a query is asked for
abbrev pub IsQuery : Asked → Type 0
IsQuery unknown = ⊥
IsQuery check = ⊥
IsQuery (query user explore) = Unit {0}
IsQuery script = ⊥
IsQuery (serve workers) = ⊥

-- the requests of the input are to be served
abbrev pub is_script : Asked → Bool
is_script unknown = false
is_script check = false
is_script (query user explore) = false
is_script script = true
is_script (serve workers) = false

-- those of connections are, by so many workers
abbrev pub workers_in : Asked → Option ℕ
workers_in unknown = None
workers_in check = None
workers_in (query user explore) = None
workers_in script = None
workers_in (serve workers) = Some workers

-- one reply is asked for
abbrev pub is_one : Asked → Bool
is_one asked = not (is_script asked || is_some (workers_in asked))
