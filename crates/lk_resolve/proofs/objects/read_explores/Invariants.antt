use Rattle.std.proofs.Common.{List, ◌++◌, drop}
use Rattle.lk_objects.specs.declared.explore.DeclaredExplore.{DeclaredExplore}
use Rattle.lk_resolve.specs.Objects.{AreExplores}
use Rattle.lk_resolve.proofs.objects.read_explores.Given as goal

abbrev pub invariant-loop-object : goal.invariant-loop-object
invariant-loop-object l =
    (more : List DeclaredExplore) → AreExplores (drop l.object-index l.objects) more → AreExplores l.objects (l.explores ++ more)
