-- A text literal that is read: its kinds are those that are told of it, and what is no text literal stays.
use Rattle.std.proofs.Common.{◌≡◌, ℕ, Bool, true, false, List, [], ◌∷◌, map, drop, Option, Some, None, refl, ap, ◌∙◌, ℤ}
use Rattle.std.specs.Prelude.{if◌then◌else◌, is_some, option_map, slice_index_or, zero, suc}
use Rattle.lk_val.specs.declared.value.Value.{Value}
use Rattle.lk_val.specs.declared.value.Value.TheVariants as value
use Rattle.lk_types.specs.Formula.{Formula, Formulas, Literal, Or, In, Between, NullIf}
use Rattle.lk_types.specs.FormulaNodes.{operand}
use Rattle.lk_types.specs.Kinds.{kinds_of_value, only}
use Rattle.lk_types.specs.Unfolded.{Sides, any_equal, compared_each, equation, from_to, is_text_literal, listed, null_if, null_where_equal, or_equal, others, ranged}
use Rattle.lk_types.specs.declared.kind_set.KindSet.{KindSet}
use Rattle.lk_types.specs.declared.schema.Kind.TheVariants as kind
use Rattle.lk_cell.specs.Days.{day_cell}
use Rattle.lk_cell.specs.Moments.{moment_cell}
use Rattle.lk_dated.specs.declared.side.Side.{Side}
use Rattle.lk_dated.specs.Dated.{is_time, or_text, read_beside, text_of}
use Rattle.lk_dated.specs.FormulaKinds.{kinds_by}
use Rattle.lk_dated.specs.Sides.{kind_where, kinds_beside, or_own, read_kinds, readings_of_text, side_at, side_of}

pub map_at : {A B : Type 0} (f : A → B) (xs : List A) (i : ℕ) (d : A) → slice_index_or (map f xs) i (f d) ≡ f (slice_index_or xs i d)
map_at f [] i d = refl
map_at f (x ∷ xs) zero d = refl
map_at f (x ∷ xs) (suc i) d = map_at f xs i d

pub map_drop_one : {A B : Type 0} (f : A → B) (xs : List A) → drop 1 (map f xs) ≡ map f (drop 1 xs)
map_drop_one f [] = refl
map_drop_one f (x ∷ xs) = refl

-- ---- text literals

literal_value : (v : Value) → is_text_literal (Literal v) ≡ is_some (text_of (Literal v))
literal_value (value.Text t) = refl
literal_value v = refl

pub is_literal : (e : Formula) → is_text_literal e ≡ is_some (text_of e)
is_literal (Literal v) = literal_value v
is_literal e = refl

plain_value : (s : KindSet) (v : Value) → text_of (Literal v) ≡ None → read_beside s (Literal v) ≡ Literal v
plain_value s (value.Text t) h = cc
plain_value s v h = refl

-- what is no text literal stays
pub plain : (s : KindSet) (e : Formula) → text_of e ≡ None → read_beside s e ≡ e
plain s (Literal v) h = plain_value s v h
plain s e h = refl

unread_value : (v : Value) → read_beside (only kind.Text) (Literal v) ≡ Literal v
unread_value (value.Text t) = refl
unread_value v = refl

-- beside a text everything stays
pub unread : (e : Formula) → read_beside (only kind.Text) e ≡ e
unread (Literal v) = unread_value v
unread e = refl

or_text_none : (acc : Formula) (all : List Sides) → text_of acc ≡ None → text_of (or_equal acc all) ≡ None
or_text_none acc [] h = h
or_text_none acc (sides ∷ all) h = or_text_none (Or acc (equation sides)) all refl

either : (b : Bool) (x y : Formula) → text_of x ≡ None → text_of y ≡ None → text_of (if b then x else y) ≡ None
either true x y p q = p
either false x y p q = q

module _ (cmp : Formula → Formula → Sides) where
  -- a comparison is no text literal
  pub listed_text : (a : Formula) (xs : Formulas) → text_of (listed cmp a xs) ≡ None
  listed_text a xs =
      either (is_text_literal a) (any_equal (compared_each cmp a xs)) (In a (others (compared_each cmp a xs)))
      (or_text_none (Literal (value.Truth false)) (compared_each cmp a xs) refl) refl

  pub ranged_text : (a low high : Formula) → text_of (ranged cmp a low high) ≡ None
  ranged_text a low high = either (is_text_literal a) (from_to (cmp a low) (cmp a high)) (Between a (cmp a low).1 (cmp a high).1) refl refl

  pub null_if_text : (a b : Formula) → text_of (null_if cmp a b) ≡ None
  null_if_text a b = either (is_text_literal a) (null_where_equal a (cmp a b)) (NullIf a (cmp a b).1) refl refl

text_does : (b m : Bool) (d n : Option ℤ) (t : List ℕ)
    → or_own (only kind.Text) (if b then (if m then kind_where (is_some n) kind.Moment else kind_where (is_some d) kind.Day) else None)
    ≡ kinds_of_value (or_text t (if b then (if m then option_map value.Moment n else option_map value.Day d) else None))
text_does false m d n t = refl
text_does true true d None t = refl
text_does true true d (Some m) t = refl
text_does true false None n t = refl
text_does true false (Some m) n t = refl

module _ (leaf : ℕ → ℕ → KindSet) where
  abbrev k : Formula → KindSet
  k e = kinds_by leaf e

  abbrev side : Formula → Side
  side e = side_of leaf e

  pub at : (xs : List Formula) (i : ℕ) → side_at (map side xs) i ≡ side (operand xs i)
  at xs i = map_at side xs i (Literal value.Null)

  value_does : (s : KindSet) (v : Value) → kinds_beside s (side (Literal v)) ≡ k (read_beside s (Literal v))
  value_does s (value.Text t) = text_does (is_time s) s.moment (day_cell t) (moment_cell t) t
  value_does s v = refl

  -- the kinds that are told of a side beside some kinds are those of the side as it is read
  pub beside_does : (s : KindSet) (e : Formula) → kinds_beside s (side e) ≡ k (read_beside s e)
  beside_does s (Literal v) = value_does s v
  beside_does s e = refl

  own_value : (v : Value) → read_beside (k (Literal v)) (Literal v) ≡ Literal v
  own_value (value.Text t) = refl
  own_value v = refl

  -- beside its own kinds an expression stays
  pub own : (e : Formula) → read_beside (k e) e ≡ e
  own (Literal v) = own_value v
  own e = refl

  kinds_of_text : (v : Value) (t : List ℕ) → text_of (Literal v) ≡ Some t → k (Literal v) ≡ only kind.Text
  kinds_of_text (value.Text u) t h = refl
  kinds_of_text v t h = cc

  pub kinds_text : (e : Formula) (t : List ℕ) → text_of e ≡ Some t → k e ≡ only kind.Text
  kinds_text (Literal v) t h = kinds_of_text v t h
  kinds_text e t h = cc

  -- beside a text literal an expression stays
  pub beside_text : (a b : Formula) (t : List ℕ) → text_of a ≡ Some t → read_beside (k a) b ≡ b
  beside_text a b t h = ap (λ s. read_beside s b) (kinds_text a t h) ∙ unread b

  pub plain_kinds : (s : KindSet) (e : Formula) → text_of e ≡ None → kinds_beside s (side e) ≡ k e
  plain_kinds s e h = ap (λ o. read_kinds s (k e) (option_map readings_of_text o)) h
