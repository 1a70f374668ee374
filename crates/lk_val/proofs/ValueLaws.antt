-- Orders that are exact, made of exact orders: turned round, of pairs, and of values with null last.
use Rattle.std.proofs.Common.{◌≡◌, refl, sym}
use Rattle.std.specs.Ordering.{bool_cmp, ordering_then, then_cmp, flip_args, on}
use Rattle.std.specs.declared.cmp.Ordering.{Ordering}
use Rattle.std.specs.declared.cmp.Ordering.TheVariants.{Less, Equal, Greater}
use Rattle.std.specs.Cmp.{then_total, bool_cmp_total}
use Rattle.std.proofs.lemmas.Cmp.{on_total, back_total}
use Rattle.lk_val.specs.Sets.{IsExactOrder}
use Rattle.lk_val.specs.Values.{value_cmp, null_last_cmp, is_null}
use Rattle.lk_val.specs.ValueOrder.{values_ordered}

-- ---- one comparison, and another where it ties

pub first_tie : (a b : Ordering) → ordering_then a b ≡ Equal → a ≡ Equal
first_tie Equal b e = refl
first_tie Less b e = cc
first_tie Greater b e = cc

pub second_tie : (a b : Ordering) → ordering_then a b ≡ Equal → b ≡ Equal
second_tie Equal b e = e
second_tie Less b e = cc
second_tie Greater b e = cc

-- the order of pairs, by the first and then by the second
pub pairs_in_order : {A B : Type 0} {first : A → A → Ordering} {second : B → B → Ordering} → IsExactOrder first → IsExactOrder second
    → IsExactOrder (then_cmp (on (λ (p : A × B). p.0) first) (on (λ (p : A × B). p.1) second))
pairs_in_order {A} {B} {first} {second} a b = record {
  total = then_total (on_total (λ (p : A × B). p.0) a.total) (on_total (λ (p : A × B). p.1) b.total);
  exact = λ p q e.
      let one : p.0 ≡ q.0 = a.exact p.0 q.0 (first_tie (first p.0 q.0) (second p.1 q.1) e) in
      let two : p.1 ≡ q.1 = b.exact p.1 q.1 (second_tie (first p.0 q.0) (second p.1 q.1) e) in
      λ i. (one i, two i);
}

-- an order turned round
pub turned_ordered : {A : Type 0} {cmp : A → A → Ordering} → IsExactOrder cmp → IsExactOrder (flip_args cmp)
turned_ordered o = record { total = back_total o.total; exact = λ a b e. sym (o.exact b a e) }

-- ---- of values

pub null_last_ordered : IsExactOrder null_last_cmp
null_last_ordered = record {
  total = then_total (on_total is_null bool_cmp_total) values_ordered.total;
  exact = λ a b e. values_ordered.exact a b (second_tie (bool_cmp (is_null a) (is_null b)) (value_cmp a b) e);
}

pub values_turned : IsExactOrder (flip_args value_cmp)
values_turned = turned_ordered values_ordered
