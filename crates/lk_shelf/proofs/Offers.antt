-- What is taken off an offer is the value that was offered.
use Rattle.std.proofs.Common.{◌≡◌, Option, Some, None}
use Rattle.std.specs.Option.{option_map}

pub offered_is : {A T : Type 0} (value_of : A → T) (offered : Option A) (taken : A) (value : T) → offered ≡ Some taken → option_map value_of offered ≡ Some value → value ≡ value_of taken
offered_is value_of None taken value is was = absurd (cc (is))
offered_is value_of (Some other) taken value is was = cc (is, was)
