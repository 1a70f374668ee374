use Rattle.std.proofs.Common.{List, ◌++◌, drop}
use Rattle.lk_objects.specs.declared.view.DeclaredView.{DeclaredView}
use Rattle.lk_resolve.specs.Objects.{AreViews}
use Rattle.lk_resolve.proofs.objects.read_views.Given as goal

abbrev pub invariant-loop-object : goal.invariant-loop-object
invariant-loop-object l =
    (more : List DeclaredView) → AreViews l.schema (drop l.object-index l.objects) more → AreViews l.schema l.objects (l.views ++ more)
