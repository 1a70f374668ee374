-- The first fault of a text that spells no tree, from its front.
use Rattle.std.specs.Prelude.{◌≡◌, ℕ, List, [], ◌∷◌, ◌++◌, ◌⊎◌, length}
use Rattle.lk_read.specs.declared.read_fault.ReadFault.{ReadFault}
use Rattle.lk_read.specs.declared.read_fault.ReadFault.TheVariants as fault
use Rattle.lk_read.specs.Outline.{Outline}
use Rattle.lk_read.specs.Grammar.{IsFile}
use Rattle.lk_read.specs.BreaksOff.{BreaksOff}

-- the front begins a text that spells a tree, with at most so many blocks and lists open at once
abbrev pub Begins : ℕ → List ℕ → Type 0
Begins most front = (rest : List ℕ) × (tree : Outline) × IsFile most (front ++ rest) tree

-- the front begins a text that spells a tree, however many are open
abbrev pub BeginsDeep : List ℕ → Type 0
BeginsDeep front = (most : ℕ) × Begins most front

-- the text goes on from a front that begins a text of the grammar with a byte behind which none goes on; Deep says
-- whether one would, if more blocks and lists might be open
abbrev pub StopsAt : ℕ → List ℕ → ℕ → (List ℕ → Type 0) → Type 0
StopsAt most text place Deep =
    (front rest : List ℕ) × (b : ℕ) × (text ≡ front ++ b ∷ rest) × (place ≡ length front) × Begins most front
    × (Begins most (front ++ b ∷ []) → ⊥) × Deep (front ++ b ∷ [])

-- the text begins a text of the grammar, and breaks off
abbrev pub Ends : ℕ → List ℕ → ReadFault → Type 0
Ends most text why = Begins most text × BreaksOff most text why

-- a text that is no file has this fault: a byte that no text has there (R4), a bracket where too many are open (R5),
-- or an end within a string (R1), a block or a list (R2), code (R3) or a parameter (R4)
abbrev pub IsFaultOf : ℕ → List ℕ → ReadFault → Type 0
IsFaultOf most text (fault.R1 place) = Ends most text (fault.R1 place)
IsFaultOf most text (fault.R2 place) = Ends most text (fault.R2 place)
IsFaultOf most text (fault.R3 place) = Ends most text (fault.R3 place)
IsFaultOf most text (fault.R4 place) =
    StopsAt most text place (λ front. BeginsDeep front → ⊥) ⊎ Ends most text (fault.R4 place)
IsFaultOf most text (fault.R5 place) = StopsAt most text place BeginsDeep
IsFaultOf most text fault.NoMemory = ⊥

-- the text spells no tree, and this is its first fault
pub record IsFirstFault (most : ℕ) (text : List ℕ) (why : ReadFault) : Type 0 where
  pub refused : (tree : Outline) → IsFile most text tree → ⊥
  pub first : IsFaultOf most text why

-- unless memory ran out, the answer is the text's first fault
abbrev pub AsFault : ℕ → List ℕ → ReadFault → Type 0
AsFault most text fault.NoMemory = Unit {0}
AsFault most text why = IsFirstFault most text why
