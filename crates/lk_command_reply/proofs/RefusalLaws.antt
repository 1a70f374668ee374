-- The bodies of refusals and of checks have no floats.
use Rattle.std.proofs.Common.{◌≡◌, ◌||◌, false, refl}
use Rattle.std.specs.Prelude.{ℕ, List, [], ◌∷◌, map}
use Rattle.serde_json.specs.Data.{string}
use Rattle.serde_json.specs.View.{items_of}
use Rattle.serde_json.specs.Written.{has_float, items_have_float}
use Rattle.lk_command_reply.specs.Refusals.{load_refusal_data}
use Rattle.lk_command_reply.specs.Replies.{built_data}
use Rattle.lk_command_reply.specs.declared.fault.LoadFault.{LoadFault}
use Rattle.lk_command_reply.specs.declared.fault.LoadFault.TheVariants as load

pub load_plain : (f : LoadFault) → has_float (load_refusal_data f) ≡ false
load_plain (load.L1 user) = refl
load_plain (load.L2 table) = refl
load_plain (load.L3 row column) = refl
load_plain (load.L4 key) = refl
load_plain (load.L5 row) = refl
load_plain load.L6 = refl
load_plain load.NoMemory = refl

names_plain : (names : List (List ℕ)) → items_have_float (items_of (map string names)) ≡ false
names_plain [] = refl
names_plain (name ∷ names) = names_plain names

pub built_plain : (names : List (List ℕ)) (snapshot : ℕ) → has_float (built_data names snapshot) ≡ false
built_plain names snapshot = λ i. names_plain names i || false
