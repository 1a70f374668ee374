use Rattle.std.proofs.Common.{◌∙◌, sym}
use Rattle.lk_val.specs.Sets.{IsExactOrder, set_of}
use Rattle.lk_val.proofs.SetLaws.{has-set_of, same_sets, IsStrictlySortedBy-set_of}
use Rattle.lk_val.proofs.sets.set_is_unique.Goals as goal

pub returns : goal.returns
returns g c exact xs ys ascends same =
    let order : IsExactOrder g.T.Ord.cmp = record { total = g.met.T.Ord.total; exact = exact } in
    same_sets order ys (set_of g.T.Ord.cmp xs) ascends (IsStrictlySortedBy-set_of order xs) (λ x. same x ∙ sym (has-set_of order x xs))
