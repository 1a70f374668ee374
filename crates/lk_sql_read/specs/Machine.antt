-- A machine that reads the tokens of an expression, and keeps its nodes: what stands open is a stack.
use Rattle.std.specs.Prelude.{ℕ, suc, ◌-◌, nat_eq, Bool, true, false, ◌&&◌, if◌then◌else◌, List, [], ◌∷◌, ◌++◌, length, take, slice_index_or, Option, Some, None}
use Rattle.lk_val.specs.declared.value.Value.{Value}
use Rattle.lk_val.specs.declared.value.Value.TheVariants as value
use Rattle.lk_sql_tree.specs.declared.node.Fold.TheVariants as fold
use Rattle.lk_sql_tree.specs.declared.node.SqlNode.{SqlNode}
use Rattle.lk_sql_tree.specs.declared.node.SqlNode.TheVariants as node
use Rattle.lk_sql_read.specs.declared.word.Word.{Word}
use Rattle.lk_sql_read.specs.declared.word.Word.TheVariants as word
use Rattle.lk_sql_read.specs.declared.token.Token.{Token}
use Rattle.lk_sql_read.specs.declared.token.Token.TheVariants as token
use Rattle.lk_sql_read.specs.declared.open.Open.{Open}
use Rattle.lk_sql_read.specs.declared.open.Open.TheVariants as opens
use Rattle.lk_sql_read.specs.Tokens.{Found, first_token}

-- the nodes so far, what stands open below the innermost, the innermost, and whether an operand has just ended
pub record State : Type 0 where
  pub nodes : List SqlNode
  pub below : List Open
  pub top : Open
  pub behind : Bool

abbrev pub start : State
start = record { nodes = []; below = []; top = opens.Outer; behind = false }

-- a whole operand more
abbrev pub behind_node : SqlNode → State → State
behind_node n s = record { nodes = s.nodes ++ n ∷ []; below = s.below; top = s.top; behind = true }

-- something opens
abbrev pub opened : Open → State → State
opened o s = record { nodes = s.nodes; below = s.below ++ s.top ∷ []; top = o; behind = false }

-- what stands open goes on, with an operand or behind one
abbrev pub turned : Open → Bool → State → State
turned o behind s = record { nodes = s.nodes; below = s.below; top = o; behind = behind }

-- what stands open closes, and is a node
abbrev pub closed : SqlNode → State → Option State
closed n s =
    if nat_eq (length s.below) 0 then None
    else Some (record { nodes = s.nodes ++ n ∷ []; below = take (length s.below - 1) s.below; top = slice_index_or s.below (length s.below - 1) opens.Outer; behind = true })

-- the node of a word with one operand or two
abbrev pub node_of : Word → SqlNode
node_of word.And = node.And
node_of word.Or = node.Or
node_of (word.Compare c) = node.Compare c
node_of (word.Number op) = node.Number op
node_of word.Concat = node.Concat
node_of word.IsNull = node.IsNull
node_of word.Minus = node.Negate
node_of word.Lower = node.Lower
node_of word.Upper = node.Upper
node_of (word.Framed f) = node.Framed f
node_of (word.Folded f) = node.Folded f
node_of (word.ByKey f) = node.ByKey f
node_of word.NullIf = node.NullIf
node_of w = node.Not

abbrev pub denied : Word → Open → State → Option State
denied w opens.Opened s = Some (turned (opens.Closing w) false s)
denied w o s = None

-- a word where an operand begins
abbrev pub begun_word : Word → State → Option State
begun_word word.Open s = Some (opened opens.Opened s)
begun_word word.Not s = denied word.Not s.top s
begun_word word.Minus s = denied word.Minus s.top s
begun_word word.Null s = Some (behind_node (node.Literal value.Null) s)
begun_word word.True s = Some (behind_node (node.Literal (value.Truth true)) s)
begun_word word.False s = Some (behind_node (node.Literal (value.Truth false)) s)
begun_word word.CountRows s = Some (behind_node node.CountRows s)
begun_word word.Case s = Some (opened (opens.When 0) s)
begun_word word.Coalesce s = Some (opened (opens.Listing 0) s)
begun_word word.NullIf s = Some (opened (opens.First word.NullIf) s)
begun_word (word.ByKey f) s = Some (opened (opens.First (word.ByKey f)) s)
begun_word (word.Folded fold.Sum) s = Some (opened opens.Summing s)
begun_word (word.Folded f) s = Some (opened (opens.Closing (word.Folded f)) s)
begun_word (word.Framed f) s = Some (opened (opens.Closing (word.Framed f)) s)
begun_word word.Lower s = Some (opened (opens.Closing word.Lower) s)
begun_word word.Upper s = Some (opened (opens.Closing word.Upper) s)
begun_word w s = None

-- a literal; the 0 of a sum is no operand
abbrev pub literal : Value → Open → State → State
literal v opens.Zero s = turned opens.Zeroed true s
literal v o s = behind_node (node.Literal v) s

-- a token where an operand begins
abbrev pub begun : Token → State → Option State
begun (token.Word w) s = begun_word w s
begun (token.Column part name) s = Some (behind_node (node.Column part name) s)
begun (token.Literal v) s = Some (literal v s.top s)
begun (token.Like pieces) s = None

-- behind the first operand in brackets
abbrev pub then_sign : Word → State → Option State
then_sign word.And s = Some (turned (opens.Closing word.And) false s)
then_sign word.Or s = Some (turned (opens.Closing word.Or) false s)
then_sign (word.Compare c) s = Some (turned (opens.Closing (word.Compare c)) false s)
then_sign (word.Number op) s = Some (turned (opens.Closing (word.Number op)) false s)
then_sign word.Concat s = Some (turned (opens.Closing word.Concat) false s)
then_sign word.IsNull s = Some (turned (opens.Closing word.IsNull) true s)
then_sign word.In s = Some (turned (opens.Among 1) false s)
then_sign w s = None

abbrev pub then_close : SqlNode → Word → State → Option State
then_close n word.Close s = closed n s
then_close n w s = None

abbrev pub then_comma : Open → Word → State → Option State
then_comma o word.Comma s = Some (turned o false s)
then_comma o w s = None

abbrev pub then_among : ℕ → Word → State → Option State
then_among count word.Comma s = Some (turned (opens.Among count) false s)
then_among count word.Close s = Some (turned (opens.Listed count) true s)
then_among count w s = None

abbrev pub then_listing : ℕ → Word → State → Option State
then_listing count word.Comma s = Some (turned (opens.Listing count) false s)
then_listing count word.Close s = closed (node.Coalesce count) s
then_listing count w s = None

abbrev pub then_summed : Word → State → Option State
then_summed word.Close s = Some (turned opens.Summed true s)
then_summed w s = None

-- behind the condition of a branch, its value, and the value of ELSE
abbrev pub then_value : ℕ → Word → State → Option State
then_value count word.Then s = Some (turned (opens.Then count) false s)
then_value count w s = None

abbrev pub then_branch : ℕ → Word → State → Option State
then_branch count word.When s = Some (turned (opens.When count) false s)
then_branch count word.Else s = Some (turned (opens.Else count) false s)
then_branch count word.End s = closed (node.Case count) s
then_branch count w s = None

abbrev pub then_end : ℕ → Word → State → Option State
then_end count word.End s = closed (node.Case count) s
then_end count w s = None

-- a word behind an operand
abbrev pub gone_on : Word → Open → State → Option State
gone_on w opens.Outer s = None
gone_on w opens.Opened s = then_sign w s
gone_on w (opens.Closing v) s = then_close (node_of v) w s
gone_on w (opens.First v) s = then_comma (opens.Closing v) w s
gone_on w (opens.Among count) s = then_among (suc count) w s
gone_on w (opens.Listed count) s = then_close (node.In count) w s
gone_on w (opens.Listing count) s = then_listing (suc count) w s
gone_on w opens.Summing s = then_summed w s
gone_on w opens.Summed s = then_comma opens.Zero w s
gone_on w opens.Zero s = None
gone_on w opens.Zeroed s = then_close (node.Folded fold.Sum) w s
gone_on w (opens.When count) s = then_value (suc count) w s
gone_on w (opens.Then count) s = then_branch (suc count) w s
gone_on w (opens.Else count) s = then_end (suc count) w s

abbrev pub is_opened : Open → Bool
is_opened opens.Opened = true
is_opened o = false

-- a token behind an operand
abbrev pub behind_operand : Token → State → Option State
behind_operand (token.Word w) s = gone_on w s.top s
behind_operand (token.Like pieces) s = if is_opened s.top then closed (node.Like pieces) s else None
behind_operand t s = None

abbrev pub step : Token → State → Option State
step t s = if s.behind then behind_operand t s else begun t s

abbrev pub is_outer : Open → Bool
is_outer opens.Outer = true
is_outer o = false

-- an operand is whole, and nothing stands open
abbrev pub is_done : State → Bool
is_done s = s.behind && is_outer s.top

-- the nodes of an expression, and what is behind it
abbrev pub Read : Type 0
Read = Option (List SqlNode × List ℕ)

-- the state behind a token, and what is behind the token
abbrev pub with_rest : List ℕ → Option State → Option (State × List ℕ)
with_rest rest None = None
with_rest rest (Some s) = Some (s, rest)

abbrev pub next_by : State → Found → Option (State × List ℕ)
next_by s None = None
next_by s (Some found) = with_rest found.1 (step found.0 s)

abbrev pub go_on : (State → List ℕ → Read) → Option (State × List ℕ) → Read
go_on further None = None
go_on further (Some next) = further next.0 next.1

-- the expression in front of a text, where it has no more tokens than there are items
abbrev pub read : List ℕ → State → List ℕ → Read
read [] s text = if is_done s then Some (s.nodes, text) else None
read (f ∷ fuel) s text = if is_done s then Some (s.nodes, text) else go_on (read fuel) (next_by s (first_token text))
