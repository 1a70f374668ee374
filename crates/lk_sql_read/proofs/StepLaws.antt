-- The machine ends where an operand is whole and nothing stands open, and else goes on by a token.
use Rattle.std.proofs.Common.{◌≡◌, ◌<◌, ◌≤◌, ℕ, zero, suc, true, false, List, [], ◌∷◌, length, drop, Option, Some, None, refl, ap, ◌∙◌, arith}
use Rattle.std.specs.Prelude.{if◌then◌else◌}
use Rattle.lk_sql_tree.specs.declared.node.SqlNode.{SqlNode}
use Rattle.lk_sql_read.specs.Tokens.{first_token}
use Rattle.lk_sql_read.specs.Machine.{State, read, go_on, next_by, is_done}

pub done : (fuel : List ℕ) (s : State) (text : List ℕ) → is_done s ≡ true → read fuel s text ≡ Some (s.nodes, text)
done [] s text h = rw h refl
done (f ∷ fuel) s text h = rw h refl

undone : (f : ℕ) (fuel : List ℕ) (s : State) (text : List ℕ) → is_done s ≡ false → read (f ∷ fuel) s text ≡ go_on (read fuel) (next_by s (first_token text))
undone f fuel s text h = rw h refl

-- an item more
record HasMore (i : ℕ) (xs : List ℕ) : Type 0 where
  first : ℕ
  same : drop i xs ≡ first ∷ drop (suc i) xs

more : (i : ℕ) (xs : List ℕ) → i < length xs → HasMore i xs
more i [] h = absurd (omega (arith, h))
more zero (x ∷ xs) h = record { first = x; same = refl }
more (suc i) (x ∷ xs) h = let is = more i xs (omega (arith, h)) in record { first = is.first; same = is.same }

pub one_step : (i : ℕ) (xs : List ℕ) (s : State) (text : List ℕ) → i < length xs → is_done s ≡ false
    → read (drop i xs) s text ≡ go_on (read (drop (suc i) xs)) (next_by s (first_token text))
one_step i xs s text h u =
    let is = more i xs h in
    ap (λ fuel. read fuel s text) is.same ∙ undone is.first (drop (suc i) xs) s text u

-- ---- more steps lead no further

go_more : (fuel more : List ℕ) (o : Option (State × List ℕ)) (x : List SqlNode × List ℕ) → ((s : State) (t : List ℕ) → read fuel s t ≡ Some x → read more s t ≡ Some x)
    → go_on (read fuel) o ≡ Some x → go_on (read more) o ≡ Some x
go_more fuel more None x k h = cc h
go_more fuel more (Some n) x k h = k n.0 n.1 h

pub read_more : (fuel more : List ℕ) (s : State) (text : List ℕ) (x : List SqlNode × List ℕ) → length fuel ≤ length more → read fuel s text ≡ Some x → read more s text ≡ Some x
read_more [] more s text x e h =
    elim (is_done s) as (λ b. is_done s ≡ b → (if b then Some (s.nodes, text) else None) ≡ Some x → read more s text ≡ Some x) [
      | true ↦ λ d h. done more s text d ∙ h
      | false ↦ λ d h. cc h
    ] refl h
read_more (f ∷ fuel) [] s text x e h = absurd (omega (arith, e))
read_more (f ∷ fuel) (g ∷ more) s text x e h =
    elim (is_done s) as (λ b. (if b then Some (s.nodes, text) else go_on (read fuel) (next_by s (first_token text))) ≡ Some x → (if b then Some (s.nodes, text) else go_on (read more) (next_by s (first_token text))) ≡ Some x) [
      | true ↦ λ h. h
      | false ↦ λ h. go_more fuel more (next_by s (first_token text)) x (λ s t. read_more fuel more s t x (omega (arith, e))) h
    ] h
