-- The body in JSON that tells why a query is refused: the code, and what it is about, with the keys in the order of their bytes. (lookd)
use Rattle.std.specs.Prelude.{ℕ, ℤ, List, codes}
use Rattle.serde_json.specs.Data.{Data, Members, string, number, object, member, no_members, unsigned}
use Rattle.serde_json.specs.Find.{of_integer}
use Rattle.serde_json.specs.Written.{compact_text}
use Rattle.lk_types.specs.Printing.{value_text}
use Rattle.lk_ask.specs.declared.fault.AskFault.{AskFault}
use Rattle.lk_ask.specs.declared.fault.AskFault.TheVariants as fault

-- a member whose value is a text
abbrev pub text_member : List ℕ → List ℕ → Members → Members
text_member key text rest = member key (string text) rest

abbrev pub error_member : List ℕ → Members → Members
error_member code rest = text_member (codes "error") code rest

-- a code and the one name that it is about, whose key comes behind `error`
abbrev pub named_refusal : List ℕ → List ℕ → List ℕ → Data
named_refusal code key name = object (error_member code (text_member key name no_members))

abbrev pub bare_refusal : List ℕ → Data
bare_refusal code = object (error_member code no_members)

-- a measure and the key that has two values for it, as it is printed
abbrev pub conflict_refusal : List ℕ → List ℕ → Data
conflict_refusal measure key =
    object (error_member (codes "Q9") (text_member (codes "key") key (text_member (codes "measure") measure no_members)))

abbrev pub access_refusal : List ℕ → List ℕ → Data
access_refusal field attribute =
    object (text_member (codes "attribute") attribute (error_member (codes "Q5") (text_member (codes "field") field no_members)))

-- a field and the byte of its filter's text from which it is no filter
abbrev pub filter_refusal : List ℕ → ℕ → Data
filter_refusal field place =
    object (error_member (codes "Q6") (text_member (codes "field") field (member (codes "place") (number (unsigned place)) no_members)))

abbrev pub limit_refusal : ℤ → Data
limit_refusal limit = object (error_member (codes "Q8") (member (codes "limit") (number (of_integer limit)) no_members))

abbrev pub refusal_of : AskFault → Data
refusal_of (fault.Q1 explore) = named_refusal (codes "Q1") (codes "explore") explore
refusal_of (fault.Q2 user) = named_refusal (codes "Q2") (codes "user") user
refusal_of fault.Q3 = bare_refusal (codes "Q3")
refusal_of (fault.Q4 field) = named_refusal (codes "Q4") (codes "field") field
refusal_of (fault.Q5 field attribute) = access_refusal field attribute
refusal_of (fault.Q6 field place) = filter_refusal field place
refusal_of (fault.Q7 measure) = named_refusal (codes "Q7") (codes "measure") measure
refusal_of (fault.Q8 limit) = limit_refusal limit
refusal_of (fault.Q9 measure key) = conflict_refusal measure (value_text key)
refusal_of fault.Q10 = bare_refusal (codes "Q10")
refusal_of fault.NoMemory = bare_refusal (codes "memory")

-- without a space between
unfoldable pub refusal_text : AskFault → List ℕ
refusal_text fault = compact_text (refusal_of fault)
