-- Steps: what may follow a byte in a form, as stacks of forms that are still to come.
use Rattle.std.specs.Prelude.{◌≡◌, ◌⊎◌, ℕ, zero, suc, Bool, true, false, ◌&&◌, ◌||◌, nat_eq, nat_le, List, [], ◌∷◌, ◌++◌, length, Option, Some, None, if◌then◌else◌}
use Rattle.std.specs.List.{list_any, list_all}
use Rattle.lk_grammar.specs.Forms.{Form, nothing, empty, byte, seq, either, many, nested, IsJoined, IsTextAt, rule_at, may_end, is_live, is_same_form}
use Rattle.lk_grammar.specs.Places.{judge_from}

-- the forms that are still to come, the next one first, each with the depth to which rules may stand in it
abbrev pub Stack : Type 0
Stack = List (ℕ × Form)

-- a text of each form of the stack, one behind the other
abbrev pub IsStackText : List Form → Stack → List ℕ → Type 0
IsStackText rules [] text = text ≡ []
IsStackText rules (part ∷ rest) text = IsJoined (IsTextAt rules part.0 part.1) (IsStackText rules rest) text

-- a text of one of the stacks
abbrev pub IsStateText : List Form → List Stack → List ℕ → Type 0
IsStateText rules [] text = ⊥
IsStateText rules (stack ∷ stacks) text = IsStackText rules stack text ⊎ IsStateText rules stacks text

-- the stacks are written alike
abbrev pub is_same_stack : Stack → Stack → Bool
is_same_stack [] [] = true
is_same_stack (part ∷ rest) (other ∷ others) = nat_eq part.0 other.0 && is_same_form part.1 other.1 && is_same_stack rest others
is_same_stack _ _ = false

-- the stacks with one more, unless it is among them
abbrev pub with_stack : Stack → List Stack → List Stack
with_stack stack found = if list_any (is_same_stack stack) found then found else found ++ stack ∷ []

-- a text of the form may begin with the byte, as far as the form shows it without its rules
abbrev pub may_begin : ℕ → Form → Bool
may_begin b nothing = false
may_begin b empty = false
may_begin b (byte low high) = nat_le low b && nat_le b high
may_begin b (seq first second) = may_begin b first || (may_end first && may_begin b second)
may_begin b (either one other) = may_begin b one || may_begin b other
may_begin b (many form) = may_begin b form
may_begin b (nested rule) = true

-- the stacks found so far, with those that may follow the byte in the form before the rest; rules are opened by a function
abbrev pub ways_in : (ℕ → Stack → List Stack → List Stack) → ℕ → ℕ → ℕ → Form → Stack → List Stack → List Stack
ways_in open_rule count depth b nothing rest found = found
ways_in open_rule count depth b empty rest found = found
ways_in open_rule count depth b (byte low high) rest found = if nat_le low b && nat_le b high then with_stack rest found else found
ways_in open_rule count depth b (seq first second) rest found =
    let begun = if is_live depth count second then ways_in open_rule count depth b first ((depth, second) ∷ rest) found else found in
    if may_end first then ways_in open_rule count depth b second rest begun else begun
ways_in open_rule count depth b (either one other) rest found =
    ways_in open_rule count depth b other rest (ways_in open_rule count depth b one rest found)
ways_in open_rule count depth b (many form) rest found = ways_in open_rule count depth b form ((depth, many form) ∷ rest) found
ways_in open_rule count depth b (nested rule) rest found = open_rule rule rest found

-- a rule is opened one level deeper, and not at all where the depth is 0
unfoldable pub open_rule : List Form → ℕ → ℕ → ℕ → Stack → List Stack → List Stack
open_rule rules b zero rule rest found = found
open_rule rules b (suc depth) rule rest found = ways_in (open_rule rules b depth) (length rules) depth b (rule_at rules rule) rest found

-- the stacks found so far, with those that may follow the byte in the form before the rest
abbrev pub ways : List Form → ℕ → ℕ → Form → Stack → List Stack → List Stack
ways rules b depth form rest found = ways_in (open_rule rules b depth) (length rules) depth b form rest found

-- the stacks found so far, with those that may follow the byte in the stack
abbrev pub stack_ways : List Form → ℕ → Stack → List Stack → List Stack
stack_ways rules b [] found = found
stack_ways rules b (part ∷ rest) found =
    let begun = ways rules b part.0 part.1 rest found in
    if may_end part.1 then stack_ways rules b rest begun else begun

-- the stacks found so far, with those that may follow the byte in each stack
abbrev pub state_ways : List Form → ℕ → List Stack → List Stack → List Stack
state_ways rules b [] found = found
state_ways rules b (stack ∷ stacks) found = state_ways rules b stacks (stack_ways rules b stack found)

-- none where there is no stack
abbrev pub if_any : List Stack → Option (List Stack)
if_any [] = None
if_any (stack ∷ stacks) = Some (stack ∷ stacks)

-- the machine: what may follow a byte, and none where nothing may
abbrev pub step : List Form → List Stack → ℕ → Option (List Stack)
step rules stacks b = if_any (state_ways rules b stacks [])

-- the empty text is of the stack
abbrev pub may_stack_end : Stack → Bool
may_stack_end stack = list_all (λ part. may_end part.1) stack

-- the empty text is of one of the stacks
abbrev pub may_state_end : List Stack → Bool
may_state_end stacks = list_any may_stack_end stacks

-- the machine at its start: the form alone, unless it has no text
abbrev pub start : List Form → ℕ → Form → List Stack
start rules depth form = if is_live depth (length rules) form then ((depth, form) ∷ []) ∷ [] else []

-- what the machine says of a text
abbrev pub judge_of : List Form → ℕ → Form → List ℕ → Option ℕ
judge_of rules depth form text = judge_from (step rules) may_state_end (start rules depth form) text
