-- A text has no fewer bytes than the machine takes steps over it.
use Rattle.std.proofs.Common.{◌≡◌, ℕ, suc, ◌≤◌, ◌<◌, true, false, List, [], ◌∷◌, ◌++◌, length, ap, arith, length-append, codes, ℤ, pos, int_lt, FitsSigned, w64}
use Rattle.std.specs.Prelude.{if◌then◌else◌}
use Rattle.lk_val.specs.Numbers.{number_text}
use Rattle.lk_val.specs.declared.value.Value.{Value}
use Rattle.lk_val.specs.declared.value.Value.TheVariants as value
use Rattle.lk_types.specs.declared.expr.Comparison.{Comparison}
use Rattle.lk_types.specs.declared.expr.Comparison.TheVariants as comparison
use Rattle.lk_types.specs.declared.expr.Arithmetic.{Arithmetic}
use Rattle.lk_types.specs.declared.expr.Arithmetic.TheVariants as arithmetic
use Rattle.lk_sql_tree.specs.declared.node.Fold.{Fold}
use Rattle.lk_sql_tree.specs.declared.node.Fold.TheVariants as fold
use Rattle.lk_sql_tree.specs.declared.node.KeyFold.{KeyFold}
use Rattle.lk_sql_tree.specs.declared.node.KeyFold.TheVariants as key_fold
use Rattle.lk_sql_tree.specs.Trees.{Sql, Column, Literal, Framed, Not, And, Or, Compare, IsNull, In, Like, Number, Negate, Concat, Lower, Upper, Case, Coalesce, NullIf, CountRows, Folded, ByKey, Sqls, no_more, more, Branches, no_else, otherwise, when}
use Rattle.lk_sql_tree.specs.Texts.{text_then, list_then, branches_then, name_text, doubled, quoted_text, pattern_text, literal_text, comparison_text, arithmetic_text, frame_name, fold_front, fold_back, key_front}
use Rattle.lk_sql_tree.specs.Forms.{is_literal}
use Rattle.lk_sql_read.specs.Expressions.{IsRead, AreRead, AreBranchesRead}
use Rattle.lk_sql_read.proofs.NumberLaws.{body_is, body_text, text_is, fits}
use Rattle.lk_sql_read.proofs.ReadLaws.{steps, list_steps, branches_steps, fold_steps}

pub record Fit (fuel text : List ℕ) : Type 0 where
  pub few : length fuel ≤ length text

any : (front : List ℕ) {fuel rest : List ℕ} → Fit fuel rest → Fit fuel (front ++ rest)
any front {fuel} {rest} h = record { few = omega (arith, h.few, length-append front rest) }

one : (front : List ℕ) {fuel rest : List ℕ} → 0 < length front → Fit fuel rest → Fit (0 ∷ fuel) (front ++ rest)
one front {fuel} {rest} some h = record { few = omega (arith, h.few, some, length-append front rest) }

byte : (b : ℕ) {fuel rest : List ℕ} → Fit fuel rest → Fit (0 ∷ fuel) (b ∷ rest)
byte b h = record { few = omega (arith, h.few) }

long_comparison : (c : Comparison) → 0 < length (comparison_text c)
long_comparison comparison.Equal = omega arith
long_comparison comparison.NotEqual = omega arith
long_comparison comparison.Less = omega arith
long_comparison comparison.AtMost = omega arith
long_comparison comparison.Greater = omega arith
long_comparison comparison.AtLeast = omega arith

long_arithmetic : (op : Arithmetic) → 0 < length (arithmetic_text op)
long_arithmetic arithmetic.Plus = omega arith
long_arithmetic arithmetic.Minus = omega arith
long_arithmetic arithmetic.Times = omega arith
long_arithmetic arithmetic.Over = omega arith

long_fold : (f : Fold) → 0 < length (fold_front f)
long_fold fold.Count = omega arith
long_fold fold.Distinct = omega arith
long_fold fold.Sum = omega arith
long_fold fold.Average = omega arith
long_fold fold.Least = omega arith
long_fold fold.Greatest = omega arith

long_key : (f : KeyFold) → 0 < length (key_front f)
long_key key_fold.SumByKey = omega arith
long_key key_fold.AverageByKey = omega arith

fold_fits : (f : Fold) (rest fuel : List ℕ) → Fit fuel rest → Fit (fold_steps f fuel) (fold_back f ++ rest)
fold_fits fold.Count rest fuel h = record { few = omega (arith, h.few) }
fold_fits fold.Distinct rest fuel h = record { few = omega (arith, h.few) }
fold_fits fold.Sum rest fuel h = record { few = omega (arith, h.few) }
fold_fits fold.Average rest fuel h = record { few = omega (arith, h.few) }
fold_fits fold.Least rest fuel h = record { few = omega (arith, h.few) }
fold_fits fold.Greatest rest fuel h = record { few = omega (arith, h.few) }

long_number : (z : ℤ) → FitsSigned w64 z → 0 < length (number_text z)
long_number z f =
    let is = body_is z f in
    let body : length (body_text z) ≡ suc (length is.further) = ap length is.same in
    let all : length (number_text z) ≡ length ((if int_lt z (pos 0) then codes "-" else []) ++ body_text z) = ap length (text_is z) in
    omega (arith, body, all, length-append (if int_lt z (pos 0) then codes "-" else []) (body_text z))

long_literal : (v : Value) → is_literal v ≡ true → 0 < length (literal_text v)
long_literal value.Null h = omega arith
long_literal (value.Text t) h = omega arith
long_literal (value.Num n) h = long_number n.0 (fits n.0 h)
long_literal (value.Truth true) h = omega arith
long_literal (value.Truth false) h = omega arith
long_literal (value.Day d) h = omega arith
long_literal (value.Moment m) h = omega arith

mutual
  pub text_fits : (e : Sql) {rest fuel : List ℕ} → IsRead e → Fit fuel rest → Fit (steps e fuel) (text_then e rest)
  text_fits (Column part name) r h = byte 34 (any (doubled 34 part ++ 34 ∷ []) (any (46 ∷ name_text name) h))
  text_fits (Literal v) r h = one (literal_text v) (long_literal v r) h
  text_fits (Framed f a) r h = one (codes "DATE_FRAME('") (omega arith) (any (frame_name f) (any (codes "', ") (text_fits a r (byte 41 h))))
  text_fits (Not a) r h = byte 40 (one (codes "NOT ") (omega arith) (text_fits a r (byte 41 h)))
  text_fits (Negate a) r h = byte 40 (one (codes "- ") (omega arith) (text_fits a r (byte 41 h)))
  text_fits (And a b) r h = byte 40 (text_fits a r.0 (one (codes " AND ") (omega arith) (text_fits b r.1 (byte 41 h))))
  text_fits (Or a b) r h = byte 40 (text_fits a r.0 (one (codes " OR ") (omega arith) (text_fits b r.1 (byte 41 h))))
  text_fits (Concat a b) r h = byte 40 (text_fits a r.0 (one (codes " || ") (omega arith) (text_fits b r.1 (byte 41 h))))
  text_fits (Compare c a b) r h = byte 40 (text_fits a r.0 (one (comparison_text c) (long_comparison c) (text_fits b r.1 (byte 41 h))))
  text_fits (Number op a b) r h = byte 40 (text_fits a r.0 (one (arithmetic_text op) (long_arithmetic op) (text_fits b r.1 (byte 41 h))))
  text_fits (IsNull a) r h = byte 40 (text_fits a r (one (codes " IS NULL") (omega arith) (byte 41 h)))
  text_fits (Like a pieces) r h = byte 40 (text_fits a r (one (codes " LIKE ") (omega arith) (any (quoted_text (pattern_text pieces)) (any (41 ∷ []) h))))
  text_fits (In a b xs) r h = byte 40 (text_fits a r.0 (one (codes " IN (") (omega arith) (text_fits b r.1.0 (list_fits xs r.1.1 (byte 41 (byte 41 h))))))
  text_fits (Lower a) r h = one (codes "LOWER(") (omega arith) (text_fits a r (byte 41 h))
  text_fits (Upper a) r h = one (codes "UPPER(") (omega arith) (text_fits a r (byte 41 h))
  text_fits (Case c a bs) r h = one (codes "CASE WHEN ") (omega arith) (text_fits c r.0 (one (codes " THEN ") (omega arith) (text_fits a r.1.0 (branches_fit bs r.1.1 h))))
  text_fits (Coalesce a xs) r h = one (codes "COALESCE(") (omega arith) (text_fits a r.0 (list_fits xs r.1 (byte 41 h)))
  text_fits (NullIf a b) r h = one (codes "NULLIF(") (omega arith) (text_fits a r.0 (one (codes ", ") (omega arith) (text_fits b r.1 (byte 41 h))))
  text_fits CountRows r h = one (codes "COUNT(*)") (omega arith) h
  text_fits (Folded f a) {rest} {fuel} r h = one (fold_front f) (long_fold f) (text_fits a r (fold_fits f rest fuel h))
  text_fits (ByKey f k a) r h = one (key_front f) (long_key f) (text_fits k r.0 (one (codes ", ") (omega arith) (text_fits a r.1 (byte 41 h))))

  list_fits : (xs : Sqls) {rest fuel : List ℕ} → AreRead xs → Fit fuel rest → Fit (list_steps xs fuel) (list_then xs rest)
  list_fits no_more r h = h
  list_fits (more a xs) r h = one (codes ", ") (omega arith) (text_fits a r.0 (list_fits xs r.1 h))

  branches_fit : (bs : Branches) {rest fuel : List ℕ} → AreBranchesRead bs → Fit fuel rest → Fit (branches_steps bs fuel) (branches_then bs rest)
  branches_fit no_else r h = one (codes " END") (omega arith) h
  branches_fit (otherwise e) r h = one (codes " ELSE ") (omega arith) (text_fits e r (one (codes " END") (omega arith) h))
  branches_fit (when c a bs) r h = one (codes " WHEN ") (omega arith) (text_fits c r.0 (one (codes " THEN ") (omega arith) (text_fits a r.1.0 (branches_fit bs r.1.1 h))))
