-- How the kinds of several operands are joined one by one.
use Rattle.std.proofs.Common.{◌≡◌, ℕ, ◌+◌, ◌<◌, Bool, true, false, ◌&&◌, List, length, drop, get_or, refl, sym, ap, ◌∙◌}
use Rattle.std.proofs.lemmas.List.{at_drop_more}
use Rattle.lk_types.specs.Kinds.{shared, kinds_if, no_kind}
use Rattle.lk_types.specs.declared.kind_set.KindSet.{KindSet}
use Rattle.lk_eval.specs.NodeKinds.{all_shared}
use Rattle.lk_eval.proofs.NodeLaws.{and_assoc}

and_no : (a : Bool) → (a && false) ≡ false
and_no true = refl
and_no false = refl

pub shared-assoc : (a b c : KindSet) → shared (shared a b) c ≡ shared a (shared b c)
shared-assoc a b c = λ i. record {
  text = and_assoc a.text b.text c.text i;
  number = and_assoc a.number b.number c.number i;
  truth = and_assoc a.truth b.truth c.truth i;
  day = and_assoc a.day b.day c.day i;
  moment = and_assoc a.moment b.moment c.moment i;
}

shared-none : (a b : KindSet) → shared a no_kind ≡ shared no_kind b
shared-none a b = λ i. record {
  text = and_no a.text i;
  number = and_no a.number i;
  truth = and_no a.truth i;
  day = and_no a.day i;
  moment = and_no a.moment i;
}

-- one more set
pub all_more : (s d : KindSet) (all : List KindSet) (i : ℕ) → i < length all → shared (shared s (get_or all i d)) (all_shared (drop (i + 1) all)) ≡ shared s (all_shared (drop i all))
all_more s d all i h =
    shared-assoc s (get_or all i d) (all_shared (drop (i + 1) all)) ∙ ap (shared s) (sym (at_drop_more all_shared all i d h))

-- one more branch
pub branch_more : (t : Bool) (a s r : KindSet) → shared (kinds_if t (shared a s)) r ≡ shared a (kinds_if t (shared s r))
branch_more true a s r = shared-assoc a s r
branch_more false a s r = sym (shared-none a r)
