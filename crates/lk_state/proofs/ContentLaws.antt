-- What the tables of a schema hold, one by one.
use Rattle.std.proofs.Common.{◌≡◌, ◌<◌, ◌≤◌, ◌+◌, ◌++◌, ◌∷◌, [], ℕ, Bool, false, zero, suc, true, List, length, map, refl, ap, arith, get_or, subst, take}
use Rattle.std.specs.Prelude.{slice_set, nat_lt, ◌||◌}
use Rattle.std.proofs.lemmas.Bool.{ltb-false}
use Rattle.lk_val.proofs.FractionSteps.{together}
use Rattle.lk_types.specs.Tables.{are_valid_tables}
use Rattle.lk_types.specs.declared.schema.TableDef.{TableDef}
use Rattle.lk_table.specs.Contents.{Content, content_of}
use Rattle.lk_load.specs.Loading.{IsTable}
use Rattle.lk_state.specs.Limits.{are_large, is_over}
use Rattle.lk_state.specs.Openings.{empty_tables}
use Rattle.lk_state.specs.States.{AreTables, State}
use Rattle.lk_state.specs.Tables.{content_at, def_at}

pub tables_long : (defs : List TableDef) (contents : List Content) → AreTables defs contents → length contents ≡ length defs
tables_long [] [] are = refl
tables_long [] (content ∷ contents) are = absurd are
tables_long (def ∷ defs) [] are = absurd are
tables_long (def ∷ defs) (content ∷ contents) are = ap suc (tables_long defs contents are.1)

pub table_there : (defs : List TableDef) (contents : List Content) (number : ℕ) → AreTables defs contents → number < length defs
    → IsTable (def_at defs number) (content_at contents number)
table_there [] contents number are below = absurd (omega (arith, below))
table_there (def ∷ defs) [] number are below = absurd are
table_there (def ∷ defs) (content ∷ contents) zero are below = are.0
table_there (def ∷ defs) (content ∷ contents) (suc number) are below = table_there defs contents number are.1 (omega (arith, below))

pub tables_set : (defs : List TableDef) (contents : List Content) (number : ℕ) (content : Content) → AreTables defs contents
    → IsTable (def_at defs number) content → AreTables defs (slice_set contents number content)
tables_set [] [] number new are is = are
tables_set [] (content ∷ contents) number new are is = absurd are
tables_set (def ∷ defs) [] number new are is = absurd are
tables_set (def ∷ defs) (content ∷ contents) zero new are is = (is, are.1)
tables_set (def ∷ defs) (content ∷ contents) (suc number) new are is = (are.0, tables_set defs contents number new are.1 is)

-- an item at a place, whatever stands for none
pub same_there : {X : Type 0} (xs : List X) (i : ℕ) (x d : X) → i < length xs → x ≡ get_or xs i x → x ≡ get_or xs i d
same_there [] i x d below is = absurd (omega (arith, below))
same_there (y ∷ xs) zero x d below is = is
same_there (y ∷ xs) (suc i) x d below is = same_there xs i x d (omega (arith, below)) is

-- one more table without rows
empty_next : (defs : List TableDef) (contents : List Content) (i : ℕ) (def : TableDef) (content : Content) → i < length defs
    → def ≡ get_or defs i def → AreTables (take i defs) contents → IsTable def content
    → AreTables (take (suc i) defs) (contents ++ content ∷ [])
empty_next [] contents i def content below is are new = absurd (omega (arith, below))
empty_next (d ∷ defs) [] zero def content below is are new = (subst (λ (e : TableDef). IsTable e content) is new, tt)
empty_next (d ∷ defs) (c ∷ contents) zero def content below is are new = absurd are
empty_next (d ∷ defs) [] (suc i) def content below is are new = absurd are
empty_next (d ∷ defs) (c ∷ contents) (suc i) def content below is are new =
    (are.0, empty_next defs contents i def content (omega (arith, below)) is are.1 new)

pub empty_more : (defs : List TableDef) (contents : List Content) (i : ℕ) (def : TableDef) (content : Content) → i < length defs
    → def ≡ get_or defs i def → AreTables (take i defs) contents → IsTable def content
    → AreTables (take (i + 1) defs) (contents ++ content ∷ [])
empty_more defs contents i def content below is are new =
    let further : suc i ≡ i + 1 = omega arith in
    subst (λ n. AreTables (take n defs) (contents ++ content ∷ [])) further (empty_next defs contents i def content below is are new)

pub empty_are : (defs : List TableDef) → ((def : TableDef) → IsTable def (content_of def [])) → AreTables defs (empty_tables defs)
empty_are [] nothing = tt
empty_are (def ∷ defs) nothing = (nothing def, empty_are defs nothing)

-- the rows of the tables are valid
pub rows_valid : (defs : List TableDef) (contents : List Content) → AreTables defs contents
    → are_valid_tables defs (map (λ content. content.rows) contents) ≡ true
rows_valid [] [] are = refl
rows_valid [] (content ∷ contents) are = absurd are
rows_valid (def ∷ defs) [] are = absurd are
rows_valid (def ∷ defs) (content ∷ contents) are = together are.0.valid (rows_valid defs contents are.1)

-- ---- limits

second_false : (a b : Bool) → (a || b) ≡ false → b ≡ false
second_false true b e = cc e
second_false false b e = e

-- the number of a state within the limits
pub number_small : (s : State) → is_over s ≡ false → s.number ≤ 9223372036854775807
number_small s small =
    ltb-false 9223372036854775807 s.number
    (second_false (are_large s.tables || nat_lt 100000 (length s.ids)) (nat_lt 9223372036854775807 s.number) small)
