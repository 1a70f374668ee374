-- The machine goes over the text of an expression to the expression's nodes, whatever stands open and whatever comes behind.
use Rattle.std.proofs.Common.{◌≡◌, ℕ, zero, suc, ◌<◌, ◌⊎◌, inl, inr, ℤ, int_lt, FitsSigned, w64, ◌+◌, ◌-◌, Bool, true, false, List, [], ◌∷◌, ◌++◌, length, take, Some, None, refl, sym, ap, ◌∙◌, arith, length-append, codes}
use Rattle.std.specs.Prelude.{nat_eq, if◌then◌else◌, slice_index_or, ◌==◌}
use Rattle.std.specs.Str.{is_utf8}
use Rattle.std.proofs.Math.Seq.{take-append_seam, get_or-append_seam}
use Rattle.std.proofs.lemmas.Bool.{false≢true}
use Rattle.std.proofs.lemmas.Bool.Decides.{nat_tests}
use Rattle.lk_val.specs.declared.value.Value.{Value}
use Rattle.lk_val.specs.declared.value.Value.TheVariants as value
use Rattle.lk_types.specs.declared.expr.Comparison.{Comparison}
use Rattle.lk_types.specs.declared.expr.Comparison.TheVariants as comparison
use Rattle.lk_types.specs.declared.expr.Arithmetic.{Arithmetic}
use Rattle.lk_types.specs.declared.expr.Arithmetic.TheVariants as arithmetic
use Rattle.lk_types.specs.declared.schema.Frame.{Frame}
use Rattle.lk_types.specs.declared.schema.Frame.TheVariants as frame
use Rattle.lk_types.specs.declared.expr.Piece.{Piece}
use Rattle.lk_sql_tree.specs.declared.node.Fold.{Fold}
use Rattle.lk_sql_tree.specs.declared.node.Fold.TheVariants as fold
use Rattle.lk_sql_tree.specs.declared.node.KeyFold.{KeyFold}
use Rattle.lk_sql_tree.specs.declared.node.KeyFold.TheVariants as key_fold
use Rattle.lk_sql_tree.specs.declared.node.SqlNode.{SqlNode}
use Rattle.lk_sql_tree.specs.declared.node.SqlNode.TheVariants as node
use Rattle.lk_sql_tree.specs.Trees.{Sql, Column, Literal, Framed, Not, And, Or, Compare, IsNull, In, Like, Number, Negate, Concat, Lower, Upper, Case, Coalesce, NullIf, CountRows, Folded, ByKey, Sqls, no_more, more, Branches, no_else, otherwise, when}
use Rattle.lk_sql_tree.specs.Texts.{text_then, list_then, branches_then, name_text, quoted_text, pattern_text, literal_text, comparison_text, arithmetic_text, frame_name, fold_front, fold_back, key_front}
use Rattle.lk_sql_tree.specs.Forms.{is_literal}
use Rattle.lk_sql_read.proofs.DateTokens.{day_reads, moment_reads}
use Rattle.lk_sql_read.specs.Expressions.{ends_operand, is_clear, IsRead, AreRead, AreBranchesRead}
use Rattle.lk_sql_read.specs.declared.word.Word.TheVariants as word
use Rattle.lk_sql_read.specs.declared.token.Token.TheVariants as token
use Rattle.lk_sql_read.specs.declared.open.Open.{Open}
use Rattle.lk_sql_read.specs.declared.open.Open.TheVariants as opens
use Rattle.lk_sql_read.specs.Words.{begins}
use Rattle.lk_val.specs.Numbers.{num_of, number_text}
use Rattle.std.specs.Prelude.{pos}
use Rattle.lk_sql_read.proofs.WordLaws.{reads_coalesce, reads_count, reads_null}
use Rattle.lk_sql_read.proofs.NumberLaws.{IsDigits, body_is, body_text, text_is, fits, is_unnumbered, number_reads}
use Rattle.lk_sql_read.proofs.QuotingLaws.{is_unquoted, quoted_reads, text_reads, pattern_reads}
use Rattle.lk_sql_read.specs.Tokens.{first_token, by_word, column_token, is_of_number, named_column, pattern_token, text_token}
use Rattle.lk_sql_read.specs.Machine.{State, closed, read, go_on, next_by, with_rest, literal, behind_node}

abbrev at : List SqlNode → List Open → Open → Bool → State
at ns below top behind = record { nodes = ns; below = below; top = top; behind = behind }

-- what was opened closes to what stood open below
closes : (ns : List SqlNode) (below : List Open) (top o : Open) (n : SqlNode) → closed n (at ns (below ++ top ∷ []) o true) ≡ Some (at (ns ++ n ∷ []) below top true)
closes ns below top o n =
    let many : length (below ++ top ∷ []) ≡ suc (length below) = omega (arith, length-append below (top ∷ [])) in
    let one_less : length (below ++ top ∷ []) - 1 ≡ length below = omega (arith, many) in
    let deep : nat_eq (length (below ++ top ∷ [])) 0 ≡ false = grind (arith, many) in
    ap (λ b. if b then None else Some (at (ns ++ n ∷ []) (take (length (below ++ top ∷ []) - 1) (below ++ top ∷ []))
    (slice_index_or (below ++ top ∷ []) (length (below ++ top ∷ []) - 1) opens.Outer) true)) deep
    ∙ ap (λ m. Some (at (ns ++ n ∷ []) (take m (below ++ top ∷ [])) (slice_index_or (below ++ top ∷ []) m opens.Outer) true)) one_less
    ∙ ap (λ os. Some (at (ns ++ n ∷ []) os (slice_index_or (below ++ top ∷ []) (length below) opens.Outer) true)) (take-append_seam below (top ∷ []))
    ∙ ap (λ g. Some (at (ns ++ n ∷ []) below g true)) (get_or-append_seam below top [] opens.Outer)

-- then the machine goes on behind it
then_closes : (ns : List SqlNode) (below : List Open) (top o : Open) (n : SqlNode) (fuel rest : List ℕ)
    → go_on (read fuel) (with_rest rest (closed n (at ns (below ++ top ∷ []) o true))) ≡ read fuel (at (ns ++ n ∷ []) below top true) rest
then_closes ns below top o n fuel rest = ap (λ s. go_on (read fuel) (with_rest rest s)) (closes ns below top o n)

-- ---- what stands behind an operand

clear_comparison : (c : Comparison) (rest : List ℕ) → is_clear (comparison_text c ++ rest) ≡ true
clear_comparison comparison.Equal rest = refl
clear_comparison comparison.NotEqual rest = refl
clear_comparison comparison.Less rest = refl
clear_comparison comparison.AtMost rest = refl
clear_comparison comparison.Greater rest = refl
clear_comparison comparison.AtLeast rest = refl

clear_arithmetic : (op : Arithmetic) (rest : List ℕ) → is_clear (arithmetic_text op ++ rest) ≡ true
clear_arithmetic arithmetic.Plus rest = refl
clear_arithmetic arithmetic.Minus rest = refl
clear_arithmetic arithmetic.Times rest = refl
clear_arithmetic arithmetic.Over rest = refl

clear_fold : (f : Fold) (rest : List ℕ) → is_clear (fold_back f ++ rest) ≡ true
clear_fold fold.Count rest = refl
clear_fold fold.Distinct rest = refl
clear_fold fold.Sum rest = refl
clear_fold fold.Average rest = refl
clear_fold fold.Least rest = refl
clear_fold fold.Greatest rest = refl

clear_list : (xs : Sqls) (rest : List ℕ) → is_clear rest ≡ true → is_clear (list_then xs rest) ≡ true
clear_list no_more rest h = h
clear_list (more a xs) rest h = refl

clear_branches : (bs : Branches) (rest : List ℕ) → is_clear (branches_then bs rest) ≡ true
clear_branches no_else rest = refl
clear_branches (otherwise e) rest = refl
clear_branches (when c a bs) rest = refl

-- ---- the nodes of an expression, and how many tokens it has

abbrev mutual
  -- the nodes of an expression behind some others
  pub nodes_after : List SqlNode → Sql → List SqlNode
  nodes_after ns (Column part name) = ns ++ node.Column part name ∷ []
  nodes_after ns (Literal v) = ns ++ node.Literal v ∷ []
  nodes_after ns (Framed f a) = nodes_after ns a ++ node.Framed f ∷ []
  nodes_after ns (Not a) = nodes_after ns a ++ node.Not ∷ []
  nodes_after ns (And a b) = nodes_after (nodes_after ns a) b ++ node.And ∷ []
  nodes_after ns (Or a b) = nodes_after (nodes_after ns a) b ++ node.Or ∷ []
  nodes_after ns (Compare c a b) = nodes_after (nodes_after ns a) b ++ node.Compare c ∷ []
  nodes_after ns (IsNull a) = nodes_after ns a ++ node.IsNull ∷ []
  nodes_after ns (In a b xs) = list_after (nodes_after (nodes_after ns a) b) xs ++ node.In (count_from 2 xs) ∷ []
  nodes_after ns (Like a pieces) = nodes_after ns a ++ node.Like pieces ∷ []
  nodes_after ns (Number op a b) = nodes_after (nodes_after ns a) b ++ node.Number op ∷ []
  nodes_after ns (Negate a) = nodes_after ns a ++ node.Negate ∷ []
  nodes_after ns (Concat a b) = nodes_after (nodes_after ns a) b ++ node.Concat ∷ []
  nodes_after ns (Lower a) = nodes_after ns a ++ node.Lower ∷ []
  nodes_after ns (Upper a) = nodes_after ns a ++ node.Upper ∷ []
  nodes_after ns (Case c a bs) = branches_after (nodes_after (nodes_after ns c) a) bs ++ node.Case (branches_from 2 bs) ∷ []
  nodes_after ns (Coalesce a xs) = list_after (nodes_after ns a) xs ++ node.Coalesce (count_from 1 xs) ∷ []
  nodes_after ns (NullIf a b) = nodes_after (nodes_after ns a) b ++ node.NullIf ∷ []
  nodes_after ns CountRows = ns ++ node.CountRows ∷ []
  nodes_after ns (Folded f a) = nodes_after ns a ++ node.Folded f ∷ []
  nodes_after ns (ByKey f k a) = nodes_after (nodes_after ns k) a ++ node.ByKey f ∷ []

  pub list_after : List SqlNode → Sqls → List SqlNode
  list_after ns no_more = ns
  list_after ns (more a xs) = list_after (nodes_after ns a) xs

  pub branches_after : List SqlNode → Branches → List SqlNode
  branches_after ns no_else = ns
  branches_after ns (otherwise e) = nodes_after ns e
  branches_after ns (when c a bs) = branches_after (nodes_after (nodes_after ns c) a) bs

  -- so many before, and those of a list or of branches
  pub count_from : ℕ → Sqls → ℕ
  count_from n no_more = n
  count_from n (more a xs) = count_from (suc n) xs

  pub branches_from : ℕ → Branches → ℕ
  branches_from n no_else = n
  branches_from n (otherwise e) = suc n
  branches_from n (when c a bs) = branches_from (suc (suc n)) bs

-- an item for each token behind the expression of an aggregate, and others behind them
abbrev pub fold_steps : Fold → List ℕ → List ℕ
fold_steps fold.Sum fuel = 0 ∷ 0 ∷ 0 ∷ 0 ∷ fuel
fold_steps f fuel = 0 ∷ fuel

abbrev mutual
  -- an item for each token, and others behind them
  pub steps : Sql → List ℕ → List ℕ
  steps (Column part name) fuel = 0 ∷ fuel
  steps (Literal v) fuel = 0 ∷ fuel
  steps (Framed f a) fuel = 0 ∷ steps a (0 ∷ fuel)
  steps (Not a) fuel = 0 ∷ 0 ∷ steps a (0 ∷ fuel)
  steps (And a b) fuel = 0 ∷ steps a (0 ∷ steps b (0 ∷ fuel))
  steps (Or a b) fuel = 0 ∷ steps a (0 ∷ steps b (0 ∷ fuel))
  steps (Compare c a b) fuel = 0 ∷ steps a (0 ∷ steps b (0 ∷ fuel))
  steps (IsNull a) fuel = 0 ∷ steps a (0 ∷ 0 ∷ fuel)
  steps (In a b xs) fuel = 0 ∷ steps a (0 ∷ steps b (list_steps xs (0 ∷ 0 ∷ fuel)))
  steps (Like a pieces) fuel = 0 ∷ steps a (0 ∷ fuel)
  steps (Number op a b) fuel = 0 ∷ steps a (0 ∷ steps b (0 ∷ fuel))
  steps (Negate a) fuel = 0 ∷ 0 ∷ steps a (0 ∷ fuel)
  steps (Concat a b) fuel = 0 ∷ steps a (0 ∷ steps b (0 ∷ fuel))
  steps (Lower a) fuel = 0 ∷ steps a (0 ∷ fuel)
  steps (Upper a) fuel = 0 ∷ steps a (0 ∷ fuel)
  steps (Case c a bs) fuel = 0 ∷ steps c (0 ∷ steps a (branches_steps bs fuel))
  steps (Coalesce a xs) fuel = 0 ∷ steps a (list_steps xs (0 ∷ fuel))
  steps (NullIf a b) fuel = 0 ∷ steps a (0 ∷ steps b (0 ∷ fuel))
  steps CountRows fuel = 0 ∷ fuel
  steps (Folded f a) fuel = 0 ∷ steps a (fold_steps f fuel)
  steps (ByKey f k a) fuel = 0 ∷ steps k (0 ∷ steps a (0 ∷ fuel))

  pub list_steps : Sqls → List ℕ → List ℕ
  list_steps no_more fuel = fuel
  list_steps (more a xs) fuel = 0 ∷ steps a (list_steps xs fuel)

  pub branches_steps : Branches → List ℕ → List ℕ
  branches_steps no_else fuel = 0 ∷ fuel
  branches_steps (otherwise e) fuel = 0 ∷ steps e (0 ∷ fuel)
  branches_steps (when c a bs) fuel = 0 ∷ steps c (0 ∷ steps a (branches_steps bs fuel))

-- ---- the texts with which operands begin

-- what a word that another begins with must not have behind it
pub record IsOwn (text : List ℕ) : Type 0 where
  pub sum : begins (codes "SUM(") text ≡ false
  pub rows : begins (codes "*)") text ≡ false
  pub distinct : begins (codes "DISTINCT ") text ≡ false

abbrev own : {text : List ℕ} → begins (codes "SUM(") text ≡ false → begins (codes "*)") text ≡ false → begins (codes "DISTINCT ") text ≡ false → IsOwn text
own s r d = record { sum = s; rows = r; distinct = d }

-- ---- the machine goes over an expression

compare_step : (c : Comparison) (rest fuel : List ℕ) (ns : List SqlNode) (below : List Open)
    → read (0 ∷ fuel) (at ns below opens.Opened true) (comparison_text c ++ rest) ≡ read fuel (at ns below (opens.Closing (word.Compare c)) false) rest
compare_step comparison.Equal rest fuel ns below = refl
compare_step comparison.NotEqual rest fuel ns below = refl
compare_step comparison.Less rest fuel ns below = refl
compare_step comparison.AtMost rest fuel ns below = refl
compare_step comparison.Greater rest fuel ns below = refl
compare_step comparison.AtLeast rest fuel ns below = refl

number_step : (op : Arithmetic) (rest fuel : List ℕ) (ns : List SqlNode) (below : List Open)
    → read (0 ∷ fuel) (at ns below opens.Opened true) (arithmetic_text op ++ rest) ≡ read fuel (at ns below (opens.Closing (word.Number op)) false) rest
number_step arithmetic.Plus rest fuel ns below = refl
number_step arithmetic.Minus rest fuel ns below = refl
number_step arithmetic.Times rest fuel ns below = refl
number_step arithmetic.Over rest fuel ns below = refl

frame_step : (f : Frame) (rest fuel : List ℕ) (ns : List SqlNode) (below : List Open) (top : Open)
    → read (0 ∷ fuel) (at ns below top false) (codes "DATE_FRAME('" ++ (frame_name f ++ (codes "', " ++ rest))) ≡ read fuel (at ns (below ++ top ∷ []) (opens.Closing (word.Framed f)) false) rest
frame_step frame.Raw rest fuel ns below top = refl
frame_step frame.Time rest fuel ns below top = refl
frame_step frame.Date rest fuel ns below top = refl
frame_step frame.Week rest fuel ns below top = refl
frame_step frame.Month rest fuel ns below top = refl
frame_step frame.Quarter rest fuel ns below top = refl
frame_step frame.Year rest fuel ns below top = refl
frame_step frame.HourOfDay rest fuel ns below top = refl
frame_step frame.DayOfWeek rest fuel ns below top = refl
frame_step frame.DayOfMonth rest fuel ns below top = refl
frame_step frame.MonthNum rest fuel ns below top = refl

key_step : (f : KeyFold) (rest fuel : List ℕ) (ns : List SqlNode) (below : List Open) (top : Open)
    → read (0 ∷ fuel) (at ns below top false) (key_front f ++ rest) ≡ read fuel (at ns (below ++ top ∷ []) (opens.First (word.ByKey f)) false) rest
key_step key_fold.SumByKey rest fuel ns below top = refl
key_step key_fold.AverageByKey rest fuel ns below top = refl

abbrev fold_open : Fold → Open
fold_open fold.Sum = opens.Summing
fold_open f = opens.Closing (word.Folded f)

count_step : (rest fuel : List ℕ) (ns : List SqlNode) (below : List Open) (top : Open) → IsOwn rest
    → read (0 ∷ fuel) (at ns below top false) (codes "COUNT(" ++ rest) ≡ read fuel (at ns (below ++ top ∷ []) (opens.Closing (word.Folded fold.Count)) false) rest
count_step rest fuel ns below top is =
    ap (λ found. go_on (read fuel) (next_by (at ns below top false) (by_word (codes "COUNT(" ++ rest) found))) (reads_count rest is.rows is.distinct)

fold_step : (f : Fold) (rest fuel : List ℕ) (ns : List SqlNode) (below : List Open) (top : Open) → IsOwn rest
    → read (0 ∷ fuel) (at ns below top false) (fold_front f ++ rest) ≡ read fuel (at ns (below ++ top ∷ []) (fold_open f) false) rest
fold_step fold.Count rest fuel ns below top is = count_step rest fuel ns below top is
fold_step fold.Distinct rest fuel ns below top is = refl
fold_step fold.Sum rest fuel ns below top is = refl
fold_step fold.Average rest fuel ns below top is = refl
fold_step fold.Least rest fuel ns below top is = refl
fold_step fold.Greatest rest fuel ns below top is = refl

coalesce_step : (rest fuel : List ℕ) (ns : List SqlNode) (below : List Open) (top : Open) → IsOwn rest
    → read (0 ∷ fuel) (at ns below top false) (codes "COALESCE(" ++ rest) ≡ read fuel (at ns (below ++ top ∷ []) (opens.Listing 0) false) rest
coalesce_step rest fuel ns below top is =
    ap (λ found. go_on (read fuel) (next_by (at ns below top false) (by_word (codes "COALESCE(" ++ rest) found))) (reads_coalesce rest is.sum)

-- the 0 that a sum over no values is
zero_token : (rest : List ℕ) → first_token (48 ∷ 41 ∷ rest) ≡ Some (token.Literal (value.Num (record { 0 = pos 0 })), 41 ∷ rest)
unfolding num_of
zero_token rest = refl

sum_ends : (rest fuel : List ℕ) (ns : List SqlNode) (below : List Open) (top : Open)
    → read (0 ∷ 0 ∷ 0 ∷ 0 ∷ fuel) (at ns (below ++ top ∷ []) opens.Summing true) (codes "), 0)" ++ rest) ≡ read fuel (at (ns ++ node.Folded fold.Sum ∷ []) below top true) rest
sum_ends rest fuel ns below top =
    ap (λ found. go_on (read (0 ∷ fuel)) (next_by (at ns (below ++ top ∷ []) opens.Zero false) found)) (zero_token rest)
    ∙ then_closes ns below top opens.Zeroed (node.Folded fold.Sum) fuel rest

fold_ends : (f : Fold) (rest fuel : List ℕ) (ns : List SqlNode) (below : List Open) (top : Open)
    → read (fold_steps f fuel) (at ns (below ++ top ∷ []) (fold_open f) true) (fold_back f ++ rest) ≡ read fuel (at (ns ++ node.Folded f ∷ []) below top true) rest
fold_ends fold.Count rest fuel ns below top = then_closes ns below top (opens.Closing (word.Folded fold.Count)) (node.Folded fold.Count) fuel rest
fold_ends fold.Distinct rest fuel ns below top = then_closes ns below top (opens.Closing (word.Folded fold.Distinct)) (node.Folded fold.Distinct) fuel rest
fold_ends fold.Sum rest fuel ns below top = sum_ends rest fuel ns below top
fold_ends fold.Average rest fuel ns below top = then_closes ns below top (opens.Closing (word.Folded fold.Average)) (node.Folded fold.Average) fuel rest
fold_ends fold.Least rest fuel ns below top = then_closes ns below top (opens.Closing (word.Folded fold.Least)) (node.Folded fold.Least) fuel rest
fold_ends fold.Greatest rest fuel ns below top = then_closes ns below top (opens.Closing (word.Folded fold.Greatest)) (node.Folded fold.Greatest) fuel rest

-- ---- the texts with which operands begin, case by case

own_digit : (d : ℕ) (text : List ℕ) → d < 10 → IsOwn ((48 + d) ∷ text)
own_digit zero text h = own refl refl refl
own_digit (suc zero) text h = own refl refl refl
own_digit (suc (suc zero)) text h = own refl refl refl
own_digit (suc (suc (suc zero))) text h = own refl refl refl
own_digit (suc (suc (suc (suc zero)))) text h = own refl refl refl
own_digit (suc (suc (suc (suc (suc zero))))) text h = own refl refl refl
own_digit (suc (suc (suc (suc (suc (suc zero)))))) text h = own refl refl refl
own_digit (suc (suc (suc (suc (suc (suc (suc zero))))))) text h = own refl refl refl
own_digit (suc (suc (suc (suc (suc (suc (suc (suc zero)))))))) text h = own refl refl refl
own_digit (suc (suc (suc (suc (suc (suc (suc (suc (suc zero))))))))) text h = own refl refl refl
own_digit (suc (suc (suc (suc (suc (suc (suc (suc (suc (suc d)))))))))) text h = absurd (omega (arith, h))

own_signed : (negative : Bool) (body rest : List ℕ) → IsDigits body → IsOwn (((if negative then codes "-" else []) ++ body) ++ rest)
own_signed true body rest is = own refl refl refl
own_signed false body rest is = rw is.same (own_digit is.first (is.further ++ rest) is.small)

own_number : (z : ℤ) (rest : List ℕ) → FitsSigned w64 z → IsOwn (number_text z ++ rest)
own_number z rest f = let same = text_is z in rw same (own_signed (int_lt z (pos 0)) (body_text z) rest (body_is z f))

own_literal : (v : Value) (rest : List ℕ) → is_literal v ≡ true → IsOwn (literal_text v ++ rest)
own_literal value.Null rest h = own refl refl refl
own_literal (value.Text t) rest h = own refl refl refl
own_literal (value.Num n) rest h = own_number n.0 rest (fits n.0 h)
own_literal (value.Truth true) rest h = own refl refl refl
own_literal (value.Truth false) rest h = own refl refl refl
own_literal (value.Day d) rest h = own refl refl refl
own_literal (value.Moment m) rest h = own refl refl refl

own_fold : (f : Fold) (rest : List ℕ) → IsOwn (fold_front f ++ rest)
own_fold fold.Count rest = own refl refl refl
own_fold fold.Distinct rest = own refl refl refl
own_fold fold.Sum rest = own refl refl refl
own_fold fold.Average rest = own refl refl refl
own_fold fold.Least rest = own refl refl refl
own_fold fold.Greatest rest = own refl refl refl

own_key : (f : KeyFold) (rest : List ℕ) → IsOwn (key_front f ++ rest)
own_key key_fold.SumByKey rest = own refl refl refl
own_key key_fold.AverageByKey rest = own refl refl refl

own_text : (e : Sql) (rest : List ℕ) → IsRead e → IsOwn (text_then e rest)
own_text (Column part name) rest h = own refl refl refl
own_text (Literal v) rest h = own_literal v rest h
own_text (Framed f a) rest h = own refl refl refl
own_text (Not a) rest h = own refl refl refl
own_text (And a b) rest h = own refl refl refl
own_text (Or a b) rest h = own refl refl refl
own_text (Compare c a b) rest h = own refl refl refl
own_text (IsNull a) rest h = own refl refl refl
own_text (In a b xs) rest h = own refl refl refl
own_text (Like a pieces) rest h = own refl refl refl
own_text (Number op a b) rest h = own refl refl refl
own_text (Negate a) rest h = own refl refl refl
own_text (Concat a b) rest h = own refl refl refl
own_text (Lower a) rest h = own refl refl refl
own_text (Upper a) rest h = own refl refl refl
own_text (Case c a bs) rest h = own refl refl refl
own_text (Coalesce a xs) rest h = own refl refl refl
own_text (NullIf a b) rest h = own refl refl refl
own_text CountRows rest h = own refl refl refl
own_text (Folded f a) rest h = own_fold f (text_then a (fold_back f ++ rest))
own_text (ByKey f k a) rest h = own_key f (text_then k (codes ", " ++ text_then a (41 ∷ rest)))

-- ---- tokens with a name or a value

clear_unquoted : (quote : ℕ) (rest : List ℕ) → (quote ≡ 34) ⊎ (quote ≡ 39) → is_clear rest ≡ true → is_unquoted quote rest ≡ true
clear_unquoted quote [] which h = refl
clear_unquoted quote (b ∷ rest) (inl is) h = rw is (name_quote b h)
  where
    name_quote : (b : ℕ) → ends_operand b ≡ true → (if b == 34 then false else true) ≡ true
    name_quote b h = grind (arith, nat_tests)
clear_unquoted quote (b ∷ rest) (inr is) h = rw is (text_quote b h)
  where
    text_quote : (b : ℕ) → ends_operand b ≡ true → (if b == 39 then false else true) ≡ true
    text_quote b h = grind (arith, nat_tests)

clear_unnumbered : (rest : List ℕ) → is_clear rest ≡ true → is_unnumbered rest ≡ true
clear_unnumbered [] h = refl
clear_unnumbered (b ∷ rest) h = by b h
  where
    by : (b : ℕ) → ends_operand b ≡ true → (if is_of_number b then false else true) ≡ true
    by b h = grind (arith, nat_tests)

clear_null : (rest : List ℕ) → is_clear rest ≡ true → begins (codes "IF(") rest ≡ false
clear_null [] h = refl
clear_null (b ∷ rest) h = let other : nat_eq b 73 ≡ false = by b h in rw other refl
  where
    by : (b : ℕ) → ends_operand b ≡ true → nat_eq b 73 ≡ false
    by b h = grind (arith, nat_tests)

column_reads : (part name rest : List ℕ) → is_utf8 part ≡ true → is_utf8 name ≡ true → is_clear rest ≡ true
    → first_token (name_text part ++ 46 ∷ (name_text name ++ rest)) ≡ Some (token.Column part name, rest)
column_reads part name rest u w h =
    ap column_token (text_reads 34 part (46 ∷ (name_text name ++ rest)) u refl)
    ∙ ap (named_column part) (text_reads 34 name rest w (clear_unquoted 34 rest (inl refl) h))

string_reads : (text rest : List ℕ) → is_utf8 text ≡ true → is_clear rest ≡ true → first_token (quoted_text text ++ rest) ≡ Some (token.Literal (value.Text text), rest)
string_reads text rest u h = ap text_token (text_reads 39 text rest u (clear_unquoted 39 rest (inr refl) h))

like_reads : (pieces : List Piece) (rest : List ℕ) → first_token (codes " LIKE " ++ (quoted_text (pattern_text pieces) ++ 41 ∷ rest)) ≡ Some (token.Like pieces, rest)
like_reads pieces rest =
    ap pattern_token (quoted_reads 39 (pattern_text pieces) (41 ∷ rest) refl) ∙ ap (λ ps. Some (token.Like ps, rest)) (pattern_reads pieces)

-- ---- the machine goes over an expression

abbrev pub is_zero : Open → Bool
is_zero opens.Zero = true
is_zero o = false

literal_is : (v : Value) (top : Open) (s : State) → is_zero top ≡ false → literal v top s ≡ behind_node (node.Literal v) s
literal_is v opens.Zero s z = absurd (false≢true (sym z))
literal_is v opens.Outer s z = refl
literal_is v opens.Opened s z = refl
literal_is v (opens.Closing w) s z = refl
literal_is v (opens.First w) s z = refl
literal_is v (opens.Among n) s z = refl
literal_is v (opens.Listed n) s z = refl
literal_is v (opens.Listing n) s z = refl
literal_is v opens.Summing s z = refl
literal_is v opens.Summed s z = refl
literal_is v opens.Zeroed s z = refl
literal_is v (opens.When n) s z = refl
literal_is v (opens.Then n) s z = refl
literal_is v (opens.Else n) s z = refl

value_step : (v : Value) (rest fuel : List ℕ) (ns : List SqlNode) (below : List Open) (top : Open) → first_token (literal_text v ++ rest) ≡ Some (token.Literal v, rest) → is_zero top ≡ false
    → read (0 ∷ fuel) (at ns below top false) (literal_text v ++ rest) ≡ read fuel (at (ns ++ node.Literal v ∷ []) below top true) rest
value_step v rest fuel ns below top is z =
    ap (λ found. go_on (read fuel) (next_by (at ns below top false) found)) is
    ∙ ap (λ s. read fuel s rest) (literal_is v top (at ns below top false) z)

fold_zero : (f : Fold) → is_zero (fold_open f) ≡ false
fold_zero fold.Count = refl
fold_zero fold.Distinct = refl
fold_zero fold.Sum = refl
fold_zero fold.Average = refl
fold_zero fold.Least = refl
fold_zero fold.Greatest = refl

literal_step : (v : Value) (rest fuel : List ℕ) (ns : List SqlNode) (below : List Open) (top : Open) → is_literal v ≡ true → is_clear rest ≡ true → is_zero top ≡ false
    → read (0 ∷ fuel) (at ns below top false) (literal_text v ++ rest) ≡ read fuel (at (ns ++ node.Literal v ∷ []) below top true) rest
literal_step value.Null rest fuel ns below top h c z =
    ap (λ found. go_on (read fuel) (next_by (at ns below top false) (by_word (codes "NULL" ++ rest) found))) (reads_null rest (clear_null rest c))
literal_step (value.Truth true) rest fuel ns below top h c z = refl
literal_step (value.Truth false) rest fuel ns below top h c z = refl
literal_step (value.Text t) rest fuel ns below top h c z = value_step (value.Text t) rest fuel ns below top (string_reads t rest h c) z
literal_step (value.Num n) rest fuel ns below top h c z = value_step (value.Num n) rest fuel ns below top (number_reads n rest h (clear_unnumbered rest c)) z
literal_step (value.Day d) rest fuel ns below top h c z = value_step (value.Day d) rest fuel ns below top (day_reads d rest h) z
literal_step (value.Moment m) rest fuel ns below top h c z = value_step (value.Moment m) rest fuel ns below top (moment_reads m rest h) z

mutual
  pub reads : (e : Sql) (rest fuel : List ℕ) (ns : List SqlNode) (below : List Open) (top : Open) → IsRead e → is_clear rest ≡ true → is_zero top ≡ false
      → read (steps e fuel) (at ns below top false) (text_then e rest) ≡ read fuel (at (nodes_after ns e) below top true) rest
  reads (Column part name) rest fuel ns below top h c z =
      ap (λ found. go_on (read fuel) (next_by (at ns below top false) found)) (column_reads part name rest h.0 h.1 c)
  reads (Literal v) rest fuel ns below top h c z = literal_step v rest fuel ns below top h c z
  reads CountRows rest fuel ns below top h c z = refl
  reads (Framed f a) rest fuel ns below top h c z =
      frame_step f (text_then a (41 ∷ rest)) (steps a (0 ∷ fuel)) ns below top
      ∙ reads a (41 ∷ rest) (0 ∷ fuel) ns (below ++ top ∷ []) (opens.Closing (word.Framed f)) h refl refl
      ∙ then_closes (nodes_after ns a) below top (opens.Closing (word.Framed f)) (node.Framed f) fuel rest
  reads (Not a) rest fuel ns below top h c z =
      reads a (41 ∷ rest) (0 ∷ fuel) ns (below ++ top ∷ []) (opens.Closing word.Not) h refl refl
      ∙ then_closes (nodes_after ns a) below top (opens.Closing word.Not) node.Not fuel rest
  reads (Negate a) rest fuel ns below top h c z =
      reads a (41 ∷ rest) (0 ∷ fuel) ns (below ++ top ∷ []) (opens.Closing word.Minus) h refl refl
      ∙ then_closes (nodes_after ns a) below top (opens.Closing word.Minus) node.Negate fuel rest
  reads (Lower a) rest fuel ns below top h c z =
      reads a (41 ∷ rest) (0 ∷ fuel) ns (below ++ top ∷ []) (opens.Closing word.Lower) h refl refl
      ∙ then_closes (nodes_after ns a) below top (opens.Closing word.Lower) node.Lower fuel rest
  reads (Upper a) rest fuel ns below top h c z =
      reads a (41 ∷ rest) (0 ∷ fuel) ns (below ++ top ∷ []) (opens.Closing word.Upper) h refl refl
      ∙ then_closes (nodes_after ns a) below top (opens.Closing word.Upper) node.Upper fuel rest
  reads (And a b) rest fuel ns below top h c z =
      reads a (codes " AND " ++ text_then b (41 ∷ rest)) (0 ∷ steps b (0 ∷ fuel)) ns (below ++ top ∷ []) opens.Opened h.0 refl refl
      ∙ reads b (41 ∷ rest) (0 ∷ fuel) (nodes_after ns a) (below ++ top ∷ []) (opens.Closing word.And) h.1 refl refl
      ∙ then_closes (nodes_after (nodes_after ns a) b) below top (opens.Closing word.And) node.And fuel rest
  reads (Or a b) rest fuel ns below top h c z =
      reads a (codes " OR " ++ text_then b (41 ∷ rest)) (0 ∷ steps b (0 ∷ fuel)) ns (below ++ top ∷ []) opens.Opened h.0 refl refl
      ∙ reads b (41 ∷ rest) (0 ∷ fuel) (nodes_after ns a) (below ++ top ∷ []) (opens.Closing word.Or) h.1 refl refl
      ∙ then_closes (nodes_after (nodes_after ns a) b) below top (opens.Closing word.Or) node.Or fuel rest
  reads (Concat a b) rest fuel ns below top h c z =
      reads a (codes " || " ++ text_then b (41 ∷ rest)) (0 ∷ steps b (0 ∷ fuel)) ns (below ++ top ∷ []) opens.Opened h.0 refl refl
      ∙ reads b (41 ∷ rest) (0 ∷ fuel) (nodes_after ns a) (below ++ top ∷ []) (opens.Closing word.Concat) h.1 refl refl
      ∙ then_closes (nodes_after (nodes_after ns a) b) below top (opens.Closing word.Concat) node.Concat fuel rest
  reads (Compare k a b) rest fuel ns below top h c z =
      reads a (comparison_text k ++ text_then b (41 ∷ rest)) (0 ∷ steps b (0 ∷ fuel)) ns (below ++ top ∷ []) opens.Opened h.0 (clear_comparison k (text_then b (41 ∷ rest))) refl
      ∙ compare_step k (text_then b (41 ∷ rest)) (steps b (0 ∷ fuel)) (nodes_after ns a) (below ++ top ∷ [])
      ∙ reads b (41 ∷ rest) (0 ∷ fuel) (nodes_after ns a) (below ++ top ∷ []) (opens.Closing (word.Compare k)) h.1 refl refl
      ∙ then_closes (nodes_after (nodes_after ns a) b) below top (opens.Closing (word.Compare k)) (node.Compare k) fuel rest
  reads (Number op a b) rest fuel ns below top h c z =
      reads a (arithmetic_text op ++ text_then b (41 ∷ rest)) (0 ∷ steps b (0 ∷ fuel)) ns (below ++ top ∷ []) opens.Opened h.0 (clear_arithmetic op (text_then b (41 ∷ rest))) refl
      ∙ number_step op (text_then b (41 ∷ rest)) (steps b (0 ∷ fuel)) (nodes_after ns a) (below ++ top ∷ [])
      ∙ reads b (41 ∷ rest) (0 ∷ fuel) (nodes_after ns a) (below ++ top ∷ []) (opens.Closing (word.Number op)) h.1 refl refl
      ∙ then_closes (nodes_after (nodes_after ns a) b) below top (opens.Closing (word.Number op)) (node.Number op) fuel rest
  reads (IsNull a) rest fuel ns below top h c z =
      reads a (codes " IS NULL)" ++ rest) (0 ∷ 0 ∷ fuel) ns (below ++ top ∷ []) opens.Opened h refl refl
      ∙ then_closes (nodes_after ns a) below top (opens.Closing word.IsNull) node.IsNull fuel rest
  reads (Like a pieces) rest fuel ns below top h c z =
      reads a (codes " LIKE " ++ (quoted_text (pattern_text pieces) ++ 41 ∷ rest)) (0 ∷ fuel) ns (below ++ top ∷ []) opens.Opened h refl refl
      ∙ ap (λ found. go_on (read fuel) (next_by (at (nodes_after ns a) (below ++ top ∷ []) opens.Opened true) found)) (like_reads pieces rest)
      ∙ then_closes (nodes_after ns a) below top opens.Opened (node.Like pieces) fuel rest
  reads (In a b xs) rest fuel ns below top h c z =
      reads a (codes " IN (" ++ text_then b (list_then xs (codes "))" ++ rest))) (0 ∷ steps b (list_steps xs (0 ∷ 0 ∷ fuel))) ns (below ++ top ∷ []) opens.Opened h.0 refl refl
      ∙ reads b (list_then xs (codes "))" ++ rest)) (list_steps xs (0 ∷ 0 ∷ fuel)) (nodes_after ns a) (below ++ top ∷ []) (opens.Among 1) h.1.0 (clear_list xs (codes "))" ++ rest) refl) refl
      ∙ among xs 1 rest fuel (nodes_after (nodes_after ns a) b) below top h.1.1
  reads (Case k a bs) rest fuel ns below top h c z =
      reads k (codes " THEN " ++ text_then a (branches_then bs rest)) (0 ∷ steps a (branches_steps bs fuel)) ns (below ++ top ∷ []) (opens.When 0) h.0 refl refl
      ∙ reads a (branches_then bs rest) (branches_steps bs fuel) (nodes_after ns k) (below ++ top ∷ []) (opens.Then 1) h.1.0 (clear_branches bs rest) refl
      ∙ branches bs 1 rest fuel (nodes_after (nodes_after ns k) a) below top h.1.1
  reads (Coalesce a xs) rest fuel ns below top h c z =
      coalesce_step (text_then a (list_then xs (41 ∷ rest))) (steps a (list_steps xs (0 ∷ fuel))) ns below top (own_text a (list_then xs (41 ∷ rest)) h.0)
      ∙ reads a (list_then xs (41 ∷ rest)) (list_steps xs (0 ∷ fuel)) ns (below ++ top ∷ []) (opens.Listing 0) h.0 (clear_list xs (41 ∷ rest) refl) refl
      ∙ listing xs 0 rest fuel (nodes_after ns a) below top h.1
  reads (NullIf a b) rest fuel ns below top h c z =
      reads a (codes ", " ++ text_then b (41 ∷ rest)) (0 ∷ steps b (0 ∷ fuel)) ns (below ++ top ∷ []) (opens.First word.NullIf) h.0 refl refl
      ∙ reads b (41 ∷ rest) (0 ∷ fuel) (nodes_after ns a) (below ++ top ∷ []) (opens.Closing word.NullIf) h.1 refl refl
      ∙ then_closes (nodes_after (nodes_after ns a) b) below top (opens.Closing word.NullIf) node.NullIf fuel rest
  reads (Folded f a) rest fuel ns below top h c z =
      fold_step f (text_then a (fold_back f ++ rest)) (steps a (fold_steps f fuel)) ns below top (own_text a (fold_back f ++ rest) h)
      ∙ reads a (fold_back f ++ rest) (fold_steps f fuel) ns (below ++ top ∷ []) (fold_open f) h (clear_fold f rest) (fold_zero f)
      ∙ fold_ends f rest fuel (nodes_after ns a) below top
  reads (ByKey f k a) rest fuel ns below top h c z =
      key_step f (text_then k (codes ", " ++ text_then a (41 ∷ rest))) (steps k (0 ∷ steps a (0 ∷ fuel))) ns below top
      ∙ reads k (codes ", " ++ text_then a (41 ∷ rest)) (0 ∷ steps a (0 ∷ fuel)) ns (below ++ top ∷ []) (opens.First (word.ByKey f)) h.0 refl refl
      ∙ reads a (41 ∷ rest) (0 ∷ fuel) (nodes_after ns k) (below ++ top ∷ []) (opens.Closing (word.ByKey f)) h.1 refl refl
      ∙ then_closes (nodes_after (nodes_after ns k) a) below top (opens.Closing (word.ByKey f)) (node.ByKey f) fuel rest

  -- behind an item of IN
  among : (xs : Sqls) (count : ℕ) (rest fuel : List ℕ) (ns : List SqlNode) (below : List Open) (top : Open) → AreRead xs
      → read (list_steps xs (0 ∷ 0 ∷ fuel)) (at ns (below ++ top ∷ []) (opens.Among count) true) (list_then xs (codes "))" ++ rest))
      ≡ read fuel (at (list_after ns xs ++ node.In (count_from (suc count) xs) ∷ []) below top true) rest
  among no_more count rest fuel ns below top h = then_closes ns below top (opens.Listed (suc count)) (node.In (suc count)) fuel rest
  among (more a xs) count rest fuel ns below top h =
      reads a (list_then xs (codes "))" ++ rest)) (list_steps xs (0 ∷ 0 ∷ fuel)) ns (below ++ top ∷ []) (opens.Among (suc count)) h.0 (clear_list xs (codes "))" ++ rest) refl) refl
      ∙ among xs (suc count) rest fuel (nodes_after ns a) below top h.1

  -- behind an item of COALESCE
  listing : (xs : Sqls) (count : ℕ) (rest fuel : List ℕ) (ns : List SqlNode) (below : List Open) (top : Open) → AreRead xs
      → read (list_steps xs (0 ∷ fuel)) (at ns (below ++ top ∷ []) (opens.Listing count) true) (list_then xs (41 ∷ rest))
      ≡ read fuel (at (list_after ns xs ++ node.Coalesce (count_from (suc count) xs) ∷ []) below top true) rest
  listing no_more count rest fuel ns below top h = then_closes ns below top (opens.Listing count) (node.Coalesce (suc count)) fuel rest
  listing (more a xs) count rest fuel ns below top h =
      reads a (list_then xs (41 ∷ rest)) (list_steps xs (0 ∷ fuel)) ns (below ++ top ∷ []) (opens.Listing (suc count)) h.0 (clear_list xs (41 ∷ rest) refl) refl
      ∙ listing xs (suc count) rest fuel (nodes_after ns a) below top h.1

  -- behind the value of a branch
  branches : (bs : Branches) (count : ℕ) (rest fuel : List ℕ) (ns : List SqlNode) (below : List Open) (top : Open) → AreBranchesRead bs
      → read (branches_steps bs fuel) (at ns (below ++ top ∷ []) (opens.Then count) true) (branches_then bs rest)
      ≡ read fuel (at (branches_after ns bs ++ node.Case (branches_from (suc count) bs) ∷ []) below top true) rest
  branches no_else count rest fuel ns below top h = then_closes ns below top (opens.Then count) (node.Case (suc count)) fuel rest
  branches (otherwise e) count rest fuel ns below top h =
      reads e (codes " END" ++ rest) (0 ∷ fuel) ns (below ++ top ∷ []) (opens.Else (suc count)) h refl refl
      ∙ then_closes (nodes_after ns e) below top (opens.Else (suc count)) (node.Case (suc (suc count))) fuel rest
  branches (when k a bs) count rest fuel ns below top h =
      reads k (codes " THEN " ++ text_then a (branches_then bs rest)) (0 ∷ steps a (branches_steps bs fuel)) ns (below ++ top ∷ []) (opens.When (suc count)) h.0 refl refl
      ∙ reads a (branches_then bs rest) (branches_steps bs fuel) (nodes_after ns k) (below ++ top ∷ []) (opens.Then (suc (suc count))) h.1.0 (clear_branches bs rest) refl
      ∙ branches bs (suc (suc count)) rest fuel (nodes_after (nodes_after ns k) a) below top h.1.1
