-- The replies to loads and checks that are accepted, in compact JSON with the keys in the order of their bytes. (lookd)
use Rattle.std.specs.Prelude.{ℕ, false, List, map, codes}
use Rattle.serde_json.specs.Data.{Data, array, member, no_members, number, object, string, unsigned}
use Rattle.serde_json.specs.View.{items_of}
use Rattle.serde_json.specs.Written.{compact_text}
use Rattle.lk_types.specs.declared.answer.Reply.{Reply}

-- ---- loads

-- how many rows the batch of a load has, and the number of the state that it made
abbrev pub load_data : ℕ → ℕ → Data
load_data rows snapshot =
    object (member (codes "rows") (number (unsigned rows)) (member (codes "snapshot") (number (unsigned snapshot)) no_members))

unfoldable pub load_text : ℕ → ℕ → List ℕ
load_text rows snapshot = compact_text (load_data rows snapshot)

abbrev pub load_reply : ℕ → ℕ → Reply
load_reply rows snapshot = record { status = 200; csv = false; body = load_text rows snapshot }

-- ---- checks

-- the names of the datagroups that a check built, and the number of the last state
abbrev pub built_data : List (List ℕ) → ℕ → Data
built_data names snapshot =
    object (member (codes "built") (array (items_of (map string names))) (member (codes "snapshot") (number (unsigned snapshot)) no_members))

unfoldable pub built_text : List (List ℕ) → ℕ → List ℕ
built_text names snapshot = compact_text (built_data names snapshot)

abbrev pub built_reply : List (List ℕ) → ℕ → Reply
built_reply names snapshot = record { status = 200; csv = false; body = built_text names snapshot }
