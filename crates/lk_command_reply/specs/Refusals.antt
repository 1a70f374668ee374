-- The replies to loads and checks that are refused, with the keys in the order of their bytes. (RFC 9110, section 15; lookd)
use Rattle.std.specs.Prelude.{ℕ, false, List, codes}
use Rattle.serde_json.specs.Data.{Data, Members, member, no_members, number, object, string, unsigned}
use Rattle.serde_json.specs.Written.{compact_text}
use Rattle.lk_types.specs.Printing.{value_text}
use Rattle.lk_types.specs.declared.answer.Reply.{Reply}
use Rattle.lk_command_reply.specs.declared.fault.CheckFault.{CheckFault}
use Rattle.lk_command_reply.specs.declared.fault.CheckFault.TheVariants as check
use Rattle.lk_command_reply.specs.declared.fault.LoadFault.{LoadFault}
use Rattle.lk_command_reply.specs.declared.fault.LoadFault.TheVariants as load

-- a member whose value is a text
abbrev pub text_member : List ℕ → List ℕ → Members → Members
text_member key text rest = member key (string text) rest

abbrev pub row_member : ℕ → Members → Members
row_member row rest = member (codes "row") (number (unsigned row)) rest

abbrev pub error_member : List ℕ → Members → Members
error_member code rest = text_member (codes "error") code rest

-- a code alone
abbrev pub bare_data : List ℕ → Data
bare_data code = object (error_member code no_members)

-- a code, and a text whose key comes behind `error`
abbrev pub named_data : List ℕ → List ℕ → List ℕ → Data
named_data code key text = object (error_member code (text_member key text no_members))

-- a row and a column that do not read
abbrev pub cell_data : ℕ → List ℕ → Data
cell_data row column =
    object (text_member (codes "column") column (error_member (codes "L3") (row_member row no_members)))

abbrev pub row_data : ℕ → Data
row_data row = object (error_member (codes "L5") (row_member row no_members))

-- ---- loads

abbrev pub load_refusal_data : LoadFault → Data
load_refusal_data (load.L1 user) = named_data (codes "L1") (codes "user") user
load_refusal_data (load.L2 table) = named_data (codes "L2") (codes "table") table
load_refusal_data (load.L3 row column) = cell_data row column
load_refusal_data (load.L4 key) = named_data (codes "L4") (codes "key") (value_text key)
load_refusal_data (load.L5 row) = row_data row
load_refusal_data load.L6 = bare_data (codes "L6")
load_refusal_data load.NoMemory = bare_data (codes "memory")

abbrev pub load_status : LoadFault → ℕ
load_status (load.L1 user) = 403
load_status (load.L2 table) = 404
load_status (load.L3 row column) = 400
load_status (load.L4 key) = 409
load_status (load.L5 row) = 400
load_status load.L6 = 413
load_status load.NoMemory = 507

unfoldable pub refusal_text : Data → List ℕ
refusal_text body = compact_text body

abbrev pub refusal_reply : ℕ → Data → Reply
refusal_reply status body = record { status = status; csv = false; body = refusal_text body }

abbrev pub load_refusal : LoadFault → Reply
load_refusal f = refusal_reply (load_status f) (load_refusal_data f)

-- the store could not save the load or the check (K1)
abbrev pub unsaved_reply : Reply
unsaved_reply = refusal_reply 503 (bare_data (codes "K1"))

-- ---- checks

abbrev pub check_refusal_data : CheckFault → Data
check_refusal_data (check.G1 user) = named_data (codes "G1") (codes "user") user
check_refusal_data (check.G2 table) = named_data (codes "G2") (codes "table") table
check_refusal_data check.NoMemory = bare_data (codes "memory")

abbrev pub check_status : CheckFault → ℕ
check_status (check.G1 user) = 403
check_status (check.G2 table) = 413
check_status check.NoMemory = 507

abbrev pub check_refusal : CheckFault → Reply
check_refusal f = refusal_reply (check_status f) (check_refusal_data f)
