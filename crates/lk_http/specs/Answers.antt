-- What is answered of a connection's bytes.
use Rattle.std.specs.Prelude.{ℕ, ◌≡◌, ◌≤◌, ◌++◌, Bool, List, Option, Some, Ok, Err, ⊤}
use Rattle.lk_http.specs.Items.{Item, IsNext, at_end}
use Rattle.lk_http.specs.declared.request.Got.TheVariants.{Req}
use Rattle.lk_http.specs.declared.faults.HttpFault.TheVariants.{H4, H5, ReadFault, NoMemory}

-- a link is only read: what went out stays, and so do the puts that failed; the pulls that failed never fall
pub record OnlyReads (held held' : Option (List ℕ)) (writes writes' reads reads' : ℕ) : Type 0 where
  pub same_held : held' ≡ held
  pub same_writes : writes' ≡ writes
  pub later : reads ≤ reads'

-- a request that was read and dropped, and what is kept of it: whether it asked to close
abbrev pub IsDropped : Item → Bool → Type 0
IsDropped (Ok (Req request)) close = close ≡ request.close
IsDropped (Err (H4 asked)) close = close ≡ asked
IsDropped (Err (H5 asked)) close = close ≡ asked
IsDropped item close = ⊥

-- of a whole request it is kept whether it asked to close
abbrev pub KeepsClose : Item → Bool → Type 0
KeepsClose (Ok (Req request)) close = close ≡ request.close
KeepsClose (Err (H4 asked)) close = close ≡ asked
KeepsClose (Err (H5 asked)) close = close ≡ asked
KeepsClose item close = ⊤

-- what is answered of the bytes of a link, and what is left of them: the next item; where the link failed, what was taken is no whole item
abbrev pub IsAnswer : List ℕ → Option (List ℕ) → Bool → Item → Type 0
IsAnswer bytes left' close (Err ReadFault) =
    (taken rest : List ℕ) × (bytes ≡ taken ++ rest) × (left' ≡ Some rest) × IsNext taken (at_end taken)
IsAnswer bytes left' close (Err NoMemory) =
    (item : Item) × (rest : List ℕ) × IsNext bytes (item, rest) × (left' ≡ Some rest) × IsDropped item close
IsAnswer bytes left' close item = (rest : List ℕ) × IsNext bytes (item, rest) × (left' ≡ Some rest) × KeepsClose item close
