use Rattle.std.proofs.Common.{◌≡◌, drop}
use Rattle.std.specs.List.{list_all}
use Rattle.lk_formulas.specs.Referents.{is_certain_referent}
use Rattle.lk_formulas.proofs.stand_in.are_certain.Given as goal

abbrev pub invariant-loop-referent : goal.invariant-loop-referent
invariant-loop-referent l =
    list_all (is_certain_referent l.columns l.fields) (drop l.referent-index l.referents)
    ≡ list_all (is_certain_referent l.columns l.fields) l.referents
