-- What is written of a server that did not open.
use Rattle.std.specs.Prelude.{◌≡◌, ◌⊎◌, ℕ, List, Option}
use Rattle.std.specs.Io.KnownBytes.{Appends}
use Rattle.lk_io.specs.Streams.{AppendsFront}
use Rattle.lk_serve.specs.declared.opening.Why.{Why}
use Rattle.lk_serve.specs.declared.opening.Why.TheVariants as why

-- the line goes out (1), or a front of it (4); the store, memory and the files have none
abbrev pub IsTelling : Option (List ℕ) → Option (List ℕ) → Why → ℕ → Type 0
IsTelling old new (why.Told reply) status =
    ((status ≡ 1) × Appends old new reply.body) ⊎ ((status ≡ 4) × AppendsFront old new reply.body)
IsTelling old new why.Store status = (status ≡ 5) × (new ≡ old)
IsTelling old new why.Memory status = (status ≡ 6) × (new ≡ old)
IsTelling old new why.Files status = (status ≡ 7) × (new ≡ old)
