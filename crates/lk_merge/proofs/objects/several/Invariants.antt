use Rattle.std.proofs.Common.{◌≡◌, drop}
use Rattle.std.specs.Prelude.{map}
use Rattle.lk_params.specs.Picking.{last_given, or_list}
use Rattle.lk_merge.specs.Objects.{extends_in, if_several}
use Rattle.lk_merge.proofs.objects.several.Given as goal

abbrev pub invariant-loop-d : goal.invariant-loop-d
invariant-loop-d l = or_list (last_given (map (λ d. if_several (extends_in d)) (map (λ d. d.now) (drop l.d-index l.ds)))) l.last ≡ last_given (map (λ d. if_several (extends_in d)) (map (λ d. d.now) l.ds))
