-- Places: where a text stops being the beginning of some text of a grammar. A grammar is any set of texts.
use Rattle.std.specs.Prelude.{◌≡◌, ℕ, zero, suc, ◌≤◌, Bool, List, [], ◌∷◌, ◌++◌, length, take, Option, Some, None, option_map, if◌then◌else◌}

-- the front begins some text of the grammar
abbrev pub IsViable : (List ℕ → Type 0) → List ℕ → Type 0
IsViable Grammar front = (rest : List ℕ) × Grammar (front ++ rest)

-- the place is the length of the longest prefix of the text that begins some text of the grammar
pub record IsPlace (Grammar : List ℕ → Type 0) (text : List ℕ) (place : ℕ) : Type 0 where
  pub within : place ≤ length text
  pub begins : IsViable Grammar (take place text)
  pub longest : (m : ℕ) → m ≤ length text → IsViable Grammar (take m text) → m ≤ place

-- the text is not of the grammar, and this is its place
pub record IsRefusedAt (Grammar : List ℕ → Type 0) (text : List ℕ) (place : ℕ) : Type 0 where
  pub refused : Grammar text → ⊥
  pub at_place : IsPlace Grammar text place

-- no place where the text is of the grammar, and its place where it is not
abbrev pub Judges : (List ℕ → Type 0) → List ℕ → Option ℕ → Type 0
Judges Grammar text None = Grammar text
Judges Grammar text (Some place) = IsRefusedAt Grammar text place

-- the bytes that a machine goes on over: none where it stops, and one more than from the next state
abbrev pub place_after : {S : Type 0} → Option S → (S → ℕ) → ℕ
place_after None place_of = zero
place_after (Some next) place_of = suc (place_of next)

-- the number of bytes of the text that a step machine goes on over before it stops
abbrev pub place_from : {S : Type 0} → (S → ℕ → Option S) → S → List ℕ → ℕ
place_from step state [] = zero
place_from step state (byte ∷ text) = place_after (step state byte) (λ next. place_from step next text)

-- the state before the machine stops, or else what comes further
abbrev pub last_after : {S : Type 0} → S → Option S → (S → S) → S
last_after state None further = state
last_after state (Some next) further = further next

-- the last state of a step machine over the text: the one in which it stops, or ends
abbrev pub last_from : {S : Type 0} → (S → ℕ → Option S) → S → List ℕ → S
last_from step state [] = state
last_from step state (byte ∷ text) = last_after state (step state byte) (λ next. last_from step next text)

-- none where the machine stops, and one more than from the next state
abbrev pub judge_after : {S : Type 0} → Option S → (S → Option ℕ) → Option ℕ
judge_after None judge = Some zero
judge_after (Some next) judge = option_map suc (judge next)

-- none where the machine goes over the whole text into a state that may end, and else the number of bytes before it stops
abbrev pub judge_from : {S : Type 0} → (S → ℕ → Option S) → (S → Bool) → S → List ℕ → Option ℕ
judge_from step may_end state [] = if may_end state then None else Some zero
judge_from step may_end state (byte ∷ text) = judge_after (step state byte) (λ next. judge_from step may_end next text)

-- a machine follows the texts of its states: it goes on with exactly what may follow a byte, and stops where nothing may
pub record Follows {S : Type 0} (step : S → ℕ → Option S) (Texts : S → List ℕ → Type 0) : Type 0 where
  pub onward : (state next : S) (byte : ℕ) (text : List ℕ) → step state byte ≡ Some next → Texts state (byte ∷ text) → Texts next text
  pub back : (state next : S) (byte : ℕ) (text : List ℕ) → step state byte ≡ Some next → Texts next text → Texts state (byte ∷ text)
  pub dead : (state : S) (byte : ℕ) (text : List ℕ) → step state byte ≡ None → Texts state (byte ∷ text) → ⊥
  pub alive : (state next : S) (byte : ℕ) → step state byte ≡ Some next → IsViable (Texts next) []

-- the same from each state of a kind, in which the machine stays
pub record FollowsAmong {S : Type 0} (IsOne : S → Type 0) (step : S → ℕ → Option S) (Texts : S → List ℕ → Type 0) : Type 0 where
  pub stays : (state next : S) (byte : ℕ) → IsOne state → step state byte ≡ Some next → IsOne next
  pub onward : (state next : S) (byte : ℕ) (text : List ℕ) → IsOne state → step state byte ≡ Some next → Texts state (byte ∷ text) → Texts next text
  pub back : (state next : S) (byte : ℕ) (text : List ℕ) → IsOne state → step state byte ≡ Some next → Texts next text → Texts state (byte ∷ text)
  pub dead : (state : S) (byte : ℕ) (text : List ℕ) → IsOne state → step state byte ≡ None → Texts state (byte ∷ text) → ⊥
  pub alive : (state next : S) (byte : ℕ) → IsOne state → step state byte ≡ Some next → IsViable (Texts next) []
