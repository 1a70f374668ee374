-- When conditions that are joined to the left are true, and when they are known.
use Rattle.std.proofs.Common.{◌≡◌, Bool, true, false, not, ◌&&◌, ◌||◌, List, [], ◌∷◌, ◌++◌, Option, Some, None, refl, sym, ap, ◌∙◌}
use Rattle.std.specs.Prelude.{if◌then◌else◌}
use Rattle.std.specs.List.{fold, list_any, list_all}
use Rattle.std.proofs.lemmas.Bool.{false≢true}
use Rattle.lk_val.specs.Values.{is_null}
use Rattle.lk_val.specs.declared.value.Value.{Value}
use Rattle.lk_val.specs.declared.value.Value.TheVariants as value
use Rattle.lk_types.specs.Expressions.{value_of, is_true, is_true_truth, value_of_truth, and_of, or_of, not_of, truth_of}
use Rattle.lk_types.specs.Formula.{Formula, Not, And, Or}
use Rattle.lk_types.specs.declared.rows.Joined.{Joined}
use Rattle.lk_plan.specs.Joining.{no, with_next, all_of, known_with}

-- the value is yes or no
abbrev pub is_truth : Value → Bool
is_truth (value.Truth b) = true
is_truth v = false

pub and_assoc : (a b c : Bool) → ((a && b) && c) ≡ (a && (b && c))
and_assoc true b c = refl
and_assoc false b c = refl

pub or_assoc : (a b c : Bool) → ((a || b) || c) ≡ (a || (b || c))
or_assoc true b c = refl
or_assoc false b c = refl

pub and_true : (a : Bool) → (a && true) ≡ a
and_true true = refl
and_true false = refl

pub and_false : (a : Bool) → (a && false) ≡ false
and_false true = refl
and_false false = refl

pub left : (a b : Bool) → (a && b) ≡ true → a ≡ true
left true b p = refl
left false b p = p

pub right : (a b : Bool) → (a && b) ≡ true → b ≡ true
right true b p = p
right false b p = absurd (false≢true p)

pub both : (a b : Bool) → a ≡ true → b ≡ true → (a && b) ≡ true
both true b p q = q
both false b p q = absurd (false≢true p)

or_false : (a : Bool) → a ≡ (a || false)
or_false true = refl
or_false false = refl

pub alone : (a b : Bool) → a ≡ b → (a && true) ≡ b
alone true b h = h
alone false b h = h

-- ---- lists of conditions

or_no : (a b c : Bool) → (a || b) ≡ false → (b ≡ false → c ≡ false) → (a || c) ≡ false
or_no true b c p step = p
or_no false b c p step = step p

pub any-append : {A : Type 0} (t : A → Bool) (xs ys : List A) → list_any t xs ≡ false → list_any t ys ≡ false → list_any t (xs ++ ys) ≡ false
any-append t [] ys h k = k
any-append t (x ∷ xs) ys h k = or_no (t x) (list_any t xs) (list_any t (xs ++ ys)) h (λ p. any-append t xs ys p k)

pub all-append : {A : Type 0} (t : A → Bool) (xs ys : List A) → list_all t (xs ++ ys) ≡ (list_all t xs && list_all t ys)
all-append t [] ys = refl
all-append t (x ∷ xs) ys = ap (λ b. t x && b) (all-append t xs ys) ∙ step (t x) (list_all t xs) (list_all t ys)
  where
    step : (a b c : Bool) → (a && (b && c)) ≡ ((a && b) && c)
    step true b c = refl
    step false b c = refl

-- ---- the truth values of one condition, and of two

true_of : (v : Value) → is_true v ≡ is_true_truth (truth_of v)
true_of (value.Truth b) = refl
true_of value.Null = refl
true_of (value.Text t) = refl
true_of (value.Num n) = refl
true_of (value.Day d) = refl
true_of (value.Moment m) = refl

true_and : (a b : Option Bool) → is_true (value_of_truth (and_of a b)) ≡ (is_true_truth a && is_true_truth b)
true_and (Some true) (Some b) = refl
true_and (Some true) None = refl
true_and (Some false) b = refl
true_and None (Some true) = refl
true_and None (Some false) = refl
true_and None None = refl

true_or : (a b : Option Bool) → is_true (value_of_truth (or_of a b)) ≡ (is_true_truth a || is_true_truth b)
true_or (Some true) (Some true) = refl
true_or (Some true) (Some false) = refl
true_or (Some true) None = refl
true_or (Some false) (Some true) = refl
true_or (Some false) (Some false) = refl
true_or (Some false) None = refl
true_or None (Some true) = refl
true_or None (Some false) = refl
true_or None None = refl

truth_and : (v w : Value) → is_truth v ≡ true → is_truth w ≡ true → is_truth (value_of_truth (and_of (truth_of v) (truth_of w))) ≡ true
truth_and (value.Truth true) (value.Truth b) h k = refl
truth_and (value.Truth false) (value.Truth b) h k = refl
truth_and v w h k = cc

truth_or : (v w : Value) → is_truth v ≡ true → is_truth w ≡ true → is_truth (value_of_truth (or_of (truth_of v) (truth_of w))) ≡ true
truth_or (value.Truth true) (value.Truth b) h k = refl
truth_or (value.Truth false) (value.Truth b) h k = refl
truth_or v w h k = cc

truth_not : (v : Value) → is_truth v ≡ true → is_true (value_of_truth (not_of (truth_of v))) ≡ not (is_true v)
truth_not (value.Truth b) h = refl
truth_not v h = cc

-- ---- on a row

-- conditions behind a first one
pub joined_to : (op : Formula → Formula → Formula) (e : Formula) (es : List Formula) → fold (with_next op) (Some e) es ≡ Some (fold op e es)
joined_to op e [] = refl
joined_to op e (f ∷ es) = joined_to op (op e f) es

module _ (row : Joined) where
  -- the condition is true, and it is yes or no
  abbrev pub holds_of : Formula → Bool
  holds_of e = is_true (value_of e row)

  abbrev pub is_known : Formula → Bool
  is_known e = is_truth (value_of e row)

  pub holds_and : (e f : Formula) → holds_of (And e f) ≡ (holds_of e && holds_of f)
  holds_and e f = true_and (truth_of (value_of e row)) (truth_of (value_of f row)) ∙ (λ i. sym (true_of (value_of e row)) i && sym (true_of (value_of f row)) i)

  pub holds_or : (e f : Formula) → holds_of (Or e f) ≡ (holds_of e || holds_of f)
  holds_or e f = true_or (truth_of (value_of e row)) (truth_of (value_of f row)) ∙ (λ i. sym (true_of (value_of e row)) i || sym (true_of (value_of f row)) i)

  pub holds_not : (e : Formula) → is_known e ≡ true → holds_of (Not e) ≡ not (holds_of e)
  holds_not e h = truth_not (value_of e row) h

  pub known_and : (e f : Formula) → is_known e ≡ true → is_known f ≡ true → is_known (And e f) ≡ true
  known_and e f h k = truth_and (value_of e row) (value_of f row) h k

  pub known_or : (e f : Formula) → is_known e ≡ true → is_known f ≡ true → is_known (Or e f) ≡ true
  known_or e f h k = truth_or (value_of e row) (value_of f row) h k

  -- joined to the left
  pub holds_ands : (e : Formula) (es : List Formula) → holds_of (fold And e es) ≡ (holds_of e && list_all holds_of es)
  holds_ands e [] = sym (and_true (holds_of e))
  holds_ands e (f ∷ es) =
      holds_ands (And e f) es ∙ ap (λ b. b && list_all holds_of es) (holds_and e f) ∙ and_assoc (holds_of e) (holds_of f) (list_all holds_of es)

  pub holds_ors : (e : Formula) (es : List Formula) → holds_of (fold Or e es) ≡ (holds_of e || list_any holds_of es)
  holds_ors e [] = or_false (holds_of e)
  holds_ors e (f ∷ es) =
      holds_ors (Or e f) es ∙ ap (λ b. b || list_any holds_of es) (holds_or e f) ∙ or_assoc (holds_of e) (holds_of f) (list_any holds_of es)

  pub known_ands : (e : Formula) (es : List Formula) → is_known e ≡ true → list_all is_known es ≡ true → is_known (fold And e es) ≡ true
  known_ands e [] h k = h
  known_ands e (f ∷ es) h k = known_ands (And e f) es (known_and e f h (left (is_known f) (list_all is_known es) k)) (right (is_known f) (list_all is_known es) k)

  pub holds_all : (es : List Formula) → holds_of (all_of es) ≡ list_all holds_of es
  holds_all [] = refl
  holds_all (e ∷ es) = rw (joined_to And e es) (holds_ands e es)

  -- a known value, and null
  pub holds_with : (x : Formula) (es : List Formula) → is_null (value_of x row) ≡ false → holds_of (known_with x es) ≡ list_all holds_of es
  holds_with x [] h = rw h refl
  holds_with x (e ∷ es) h = rw (joined_to And e es) (holds_ands e es)

  pub holds_without : (x : Formula) (es : List Formula) → is_null (value_of x row) ≡ true → list_any holds_of es ≡ false → holds_of (known_with x es) ≡ false
  holds_without x [] h k = rw h refl
  holds_without x (e ∷ es) h k = rw (joined_to And e es) (holds_ands e es ∙ ap (λ b. b && list_all holds_of es) (none (holds_of e) (list_any holds_of es) k))
    where
      none : (a b : Bool) → (a || b) ≡ false → a ≡ false
      none true b p = p
      none false b p = refl

  pub known_known_with : (x : Formula) (es : List Formula) → list_all is_known es ≡ true → is_known (known_with x es) ≡ true
  known_known_with x [] h = refl
  known_known_with x (e ∷ es) h = rw (joined_to And e es) (known_ands e es (left (is_known e) (list_all is_known es) h) (right (is_known e) (list_all is_known es) h))

  -- a condition, unless a test says that it can't be true
  pub no_if : (b : Bool) (e : Formula) → holds_of e ≡ false → holds_of (if b then no else e) ≡ false
  no_if true e h = refl
  no_if false e h = h

  pub known_if : (b : Bool) (e : Formula) → is_known e ≡ true → is_known (if b then no else e) ≡ true
  known_if true e k = refl
  known_if false e k = k

  pub all_known : (es fs : List Formula) → list_all is_known es ≡ true → list_all is_known fs ≡ true → list_all is_known (es ++ fs) ≡ true
  all_known es fs k l = all-append is_known es fs ∙ both (list_all is_known es) (list_all is_known fs) k l
