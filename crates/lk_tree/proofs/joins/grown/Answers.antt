use Rattle.std.proofs.Common.{◌≡◌, ℕ, suc, ◌+◌, ◌∙◌, ◌++◌, ◌∷◌, ◌||◌, [], Bool, ap, arith}
use Rattle.std.specs.Prelude.{filter, if◌then◌else◌}
use Rattle.lk_types.specs.Expressions.{has_number}
use Rattle.lk_semantics.specs.Joins.{is_asked, numbers_below}
use Rattle.lk_tree.proofs.RoundLaws.{kept_more, marks_are}
use Rattle.lk_tree.proofs.joins.grown.Goals as goal

pub loop-j-preserved : goal.loop-j-preserved
loop-j-preserved c = λ parts is.
    let x = c.args.x.now in
    let joins = c.args.joins.now in
    let j = c.loop-j.j in
    let test : ℕ → Bool = λ n. has_number n joins || is_asked x parts joins n in
    let next : suc j ≡ j + 1 = omega arith in
    c.in_ok-add_if.ensures
    ∙ (λ i. c.loop-j.invariant parts is i ++ (if (c.is_needed-is_needed.ensures ∙ ap (λ b. has_number j joins || b) (marks_are x parts c.args.asked.now c.args.asking.now is j (omega (arith, c.loop-j-test.true, c.len-j-end.ensures)) joins)) i then j ∷ [] else []))
    ∙ kept_more test j
    ∙ ap (λ n. filter test (numbers_below n)) next
