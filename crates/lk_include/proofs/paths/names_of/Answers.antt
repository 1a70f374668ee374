use Rattle.std.proofs.Common.{rules, arith}
use Rattle.std.proofs.lemmas.Grind.{common_steps}
use Rattle.lk_include.proofs.NameSteps.{slash_further, letter_further}
use Rattle.lk_include.proofs.paths.names_of.Goals.{then-byte-eq47+in_ok-push, else-byte-eq47+in_ok-append}
use Rattle.lk_include.proofs.paths.names_of.Goals as goal

pub loop-byte-preserved : goal.loop-byte-preserved
loop-byte-preserved c =
    elim c.if-byte-eq47.branch [
      | then-byte-eq47+in_ok-push w ↦ slash_further c.args.path.now c.loop-byte.byte-index c.loop-byte.names c.loop-byte.name
          c.if-byte-eq47.names c.if-byte-eq47.name c.loop-byte-test.true (search rules) (first_of (search rules, grind (arith, common_steps))) (first_of (search rules, grind (arith, common_steps))) c.loop-byte.invariant
      | else-byte-eq47+in_ok-append w ↦ letter_further c.args.path.now c.loop-byte.byte-index c.loop-byte.names c.loop-byte.name
          c.if-byte-eq47.names c.if-byte-eq47.name c.loop-byte-test.true (search rules) (first_of (search rules, grind (arith, common_steps))) (first_of (search rules, grind (arith, common_steps))) c.loop-byte.invariant
    ]
