-- Rounds that change nothing, and lists that are alike place by place.
use Rattle.std.proofs.Common.{◌≡◌, ◌∙◌, ℕ, zero, suc, refl, ap}
use Rattle.lk_types.specs.declared.schema.Schema.{Schema}
use Rattle.lk_objects.specs.declared.view.Declared.{Declared}
use Rattle.lk_model.specs.declared.view_kinds.ViewKinds.{ViewKinds}
use Rattle.lk_model.specs.ViewKinds.{round, rounds}

-- where one round changes nothing, no number of rounds does
pub settled : (schema : Schema) (declared : Declared) (kinds : ViewKinds) (n : ℕ)
    → round schema declared kinds ≡ kinds → rounds schema declared n kinds ≡ kinds
settled schema declared kinds zero e = refl
settled schema declared kinds (suc n) e = ap (rounds schema declared n) e ∙ settled schema declared kinds n e
