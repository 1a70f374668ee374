-- No step of the writer or of a reader lets one of them know of more values than the shown list has.
use Rattle.std.proofs.Common.{◌≡◌, ℕ, zero, suc, ◌≤◌, List, [], ◌∷◌, ◌++◌, set, refl, sym, subst, le_refl, le_trans, zero-le}
use mathlib.Core.Option.{some, some-injective, some-ne-none}
use lib.ListN.{get_elem?}
use Rattle.std.specs.List.{All}
use Rattle.std.proofs.lemmas.List.Elements.{All-nil, All-cons, All-head, All-tail, All-set, All-append}
use Rattle.atomic_table.proofs.Lists.{set_else}
use Rattle.lk_shelf.specs.Knowing.{NoneKnowsMore, Looks}

-- what holds of all holds of the one that stands there
one_of : {A : Type 0} (P : A → Type 0) (values : List A) (place : ℕ) (value : A) → All P values → get_elem? values place ≡ some value → P value
one_of P [] place value all there = absurd (some-ne-none value (sym there))
one_of P (first ∷ values) zero value all there = subst P (some-injective first value there) (All-head P first values all)
one_of P (first ∷ values) (suc place) value all there = one_of P values place value (All-tail P first values all) there

-- what none knows to be passed before, none does after the list grew
still : (before after : ℕ) (knowing : List ℕ) → before ≤ after → NoneKnowsMore before knowing → NoneKnowsMore after knowing
still before after knowing grew all = λ k other within. le_trans (all k other within) grew

-- one more takes part, who knows no more than the list has
pub joins : (shown known : ℕ) (knowing : List ℕ) → NoneKnowsMore shown knowing → known ≤ shown → NoneKnowsMore shown (knowing ++ known ∷ [])
joins shown known knowing all few = All-append (λ other. other ≤ shown) knowing (known ∷ []) all (All-cons (λ other. other ≤ shown) known [] few (All-nil (λ other. other ≤ shown)))

-- one looks while the list does not get shorter
pub looks : (before after place known : ℕ) (knowing : List ℕ) → before ≤ after → NoneKnowsMore before knowing → get_elem? knowing place ≡ some known
    → (knows : ℕ) × NoneKnowsMore after (set knowing place knows) × Looks known before after knows
looks before after place known knowing grew all there =
    (after, All-set (λ other. other ≤ after) knowing place after (le_refl after) (still before after knowing grew all), (one_of (λ other. other ≤ before) knowing place known all there, refl))

-- one tells another, who comes anew, what it knows
pub tells : (shown place known : ℕ) (knowing : List ℕ) → NoneKnowsMore shown knowing → get_elem? knowing place ≡ some known
    → NoneKnowsMore shown (set knowing place known ++ known ∷ [])
tells shown place known knowing all there =
    let few : known ≤ shown = one_of (λ other. other ≤ shown) knowing place known all there in
    joins shown known (set knowing place known) (All-set (λ other. other ≤ shown) knowing place known few all) few

-- one takes over what another knows, who knows nothing then
pub takes_over : (shown place other told : ℕ) (knowing : List ℕ) → NoneKnowsMore shown knowing → ¬ (other ≡ place) → get_elem? (set knowing place told) other ≡ some told
    → NoneKnowsMore shown (set (set knowing place told) other 0)
takes_over shown place other told knowing all apart there =
    let few : told ≤ shown = one_of (λ known. known ≤ shown) knowing other told all (subst (λ found. found ≡ some told) (set_else knowing place other told apart) there) in
    All-set (λ known. known ≤ shown) (set knowing place told) other 0 zero-le (All-set (λ known. known ≤ shown) knowing place told few all)
