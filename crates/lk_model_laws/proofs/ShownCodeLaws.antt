-- Each reference of an expression that is read from a text stands in the expression.
use Rattle.std.proofs.Common.{◌≡◌, ℕ, ◌+◌, Bool, true, false, List, [], ◌∷◌, ◌++◌, length, subst, Option, Some, None, arith}
use Rattle.std.specs.List.{AllByRecursion}
use Rattle.lk_types.specs.Expressions.{mentions, mentions_all, mentions_cases}
use Rattle.lk_types.specs.Formula as formula
use Rattle.lk_types.specs.Formula.{Formula}
use Rattle.lk_types.specs.FormulaNodes.{cases_of, formulas_of}
use Rattle.lk_types.specs.declared.kind_set.KindSet.{KindSet}
use Rattle.lk_expr_token.specs.declared.functions.Function.{Function}
use Rattle.lk_expr_token.specs.declared.functions.Function.TheVariants as function
use Rattle.lk_expr_token.specs.Functions.{function_of}
use Rattle.lk_expr_tree.specs.declared.raw.Joint.{Joint}
use Rattle.lk_expr_tree.specs.declared.raw.Joint.TheVariants as joint
use Rattle.lk_expr_tree.specs.Grammar.{Tree, Number, Text, Name, Column, Field, FieldOf, Truth, Null, Group, Call, Case, CaseElse, Negate, Chain, Compare, IsNull, In, Between, Like, Not, Args, one, more, Branches, when, then_when}
use Rattle.lk_objects.specs.declared.code.Reference.{Reference}
use Rattle.lk_dated.specs.Dated.{all_dated_by, cases_dated_by, dated_by}
use Rattle.lk_semantics.proofs.EveryLaws.{Every}
use Rattle.lk_written.specs.References.{count, count_among, count_in, references_among, references_in, references_of}
use Rattle.lk_written.specs.Skeletons.{branch_skeletons, called, joined, skeleton, skeletons, unless, written_of}
use Rattle.lk_model_laws.proofs.DependLaws.{AreOverFrom, IsShown}
use Rattle.lk_model_laws.proofs.ListLaws.{all_behind, all_front}
use Rattle.lk_model_laws.proofs.MentionedLaws.{IsOver, behind, compare_over, in_front, listed_over, null_over, ranged_over}

module _ (t : ℕ → Bool) (kinds : Formula → KindSet) (leaf : ℕ → ℕ → Formula) where
  abbrev d : Formula → Formula
  d e = dated_by kinds leaf e

  -- the expression, with what stands for its columns, mentions only parts that pass
  abbrev Passes : Formula → Type 0
  Passes e = IsOver t (d e)

  abbrev Shows : ℕ → List Reference → Type 0
  Shows n rs = AreOverFrom t leaf n rs

  moved : (n m : ℕ) (rs : List Reference) → n ≡ m → Shows n rs → Shows m rs
  moved n m rs is h = subst (λ k. Shows k rs) is h

  two : (n : ℕ) (rs qs : List Reference) → Shows n rs → Shows (n + length rs) qs → Shows n (rs ++ qs)
  two n [] qs h k = moved (n + length {A = Reference} []) n qs (omega arith) k
  two n (r ∷ rs) qs h k = (h.0, two (n + 1) rs qs h.1 (moved (n + length (r ∷ rs)) (n + 1 + length rs) qs (omega arith) k))

  -- ---- what stands in a list of expressions

  all_pass : (xs : List Formula) → Every t (mentions_all (all_dated_by kinds leaf (formulas_of xs))) → AllByRecursion Passes xs
  all_pass [] h = tt
  all_pass (a ∷ xs) h =
      let rest = mentions_all (all_dated_by kinds leaf (formulas_of xs)) in (in_front t (mentions (d a)) rest h, all_pass xs (behind t (mentions (d a)) rest h))

  cases_pass : (xs : List Formula) → Every t (mentions_cases (cases_dated_by kinds leaf (cases_of xs))) → AllByRecursion Passes xs
  cases_pass [] h = tt
  cases_pass (a ∷ []) h = (h, tt)
  cases_pass (c ∷ a ∷ xs) h =
      let rest = mentions_cases (cases_dated_by kinds leaf (cases_of xs)) in
      let front = in_front t (mentions (d c) ++ mentions (d a)) rest h in
      (in_front t (mentions (d c)) (mentions (d a)) front, (behind t (mentions (d c)) (mentions (d a)) front, cases_pass xs (behind t (mentions (d c) ++ mentions (d a)) rest h)))

  called_pass : (f : Option Function) (xs : List Formula) → Passes (called f xs) → AllByRecursion Passes xs
  called_pass None xs h = all_pass xs h
  called_pass (Some function.Coalesce) xs h = all_pass xs h
  called_pass (Some function.NullIf) [] h = tt
  called_pass (Some function.NullIf) (a ∷ []) h = all_pass (a ∷ []) h
  called_pass (Some function.NullIf) (a ∷ b ∷ []) h = let over = null_over t kinds (d a) (d b) h in (over.0, (over.1, tt))
  called_pass (Some function.NullIf) (a ∷ b ∷ c ∷ xs) h = all_pass (a ∷ b ∷ c ∷ xs) h
  called_pass (Some function.Lower) [] h = tt
  called_pass (Some function.Lower) (a ∷ []) h = (h, tt)
  called_pass (Some function.Lower) (a ∷ b ∷ xs) h = all_pass (a ∷ b ∷ xs) h
  called_pass (Some function.Upper) [] h = tt
  called_pass (Some function.Upper) (a ∷ []) h = (h, tt)
  called_pass (Some function.Upper) (a ∷ b ∷ xs) h = all_pass (a ∷ b ∷ xs) h

  unless_pass : (negated : Bool) (e : Formula) → Passes (unless negated e) → Passes e
  unless_pass true e h = h
  unless_pass false e h = h

  joined_pass : (j : Joint) (a b : Formula) → Passes (joined j a b) → Passes a × Passes b
  joined_pass joint.Or a b h = (in_front t (mentions (d a)) (mentions (d b)) h, behind t (mentions (d a)) (mentions (d b)) h)
  joined_pass joint.And a b h = (in_front t (mentions (d a)) (mentions (d b)) h, behind t (mentions (d a)) (mentions (d b)) h)
  joined_pass joint.Plus a b h = (in_front t (mentions (d a)) (mentions (d b)) h, behind t (mentions (d a)) (mentions (d b)) h)
  joined_pass joint.Minus a b h = (in_front t (mentions (d a)) (mentions (d b)) h, behind t (mentions (d a)) (mentions (d b)) h)
  joined_pass joint.Concat a b h = (in_front t (mentions (d a)) (mentions (d b)) h, behind t (mentions (d a)) (mentions (d b)) h)
  joined_pass joint.Times a b h = (in_front t (mentions (d a)) (mentions (d b)) h, behind t (mentions (d a)) (mentions (d b)) h)
  joined_pass joint.Over a b h = (in_front t (mentions (d a)) (mentions (d b)) h, behind t (mentions (d a)) (mentions (d b)) h)

  -- ---- trees

  mutual
    shows : (n : ℕ) (e : Tree) → Passes (skeleton n e) → Shows n (references_of e)
    shows n (Number text) h = tt
    shows n (Text text) h = tt
    shows n (Column name) h = (h, tt)
    shows n (Name name place) h = (h, tt)
    shows n (Field name) h = (h, tt)
    shows n (FieldOf view name) h = (h, tt)
    shows n (Truth b) h = tt
    shows n Null h = tt
    shows n (Group a) h = shows n a h
    shows n (Call name place args) h = shows_args n args (called_pass (function_of name) (skeletons n args) h)
    shows n (Case branches) h = shows_branches n branches (cases_pass (branch_skeletons n branches) h)
    shows n (CaseElse branches a) h =
        let last = skeleton (n + count_among branches) a in
        let each = cases_pass (branch_skeletons n branches ++ last ∷ []) h in
        two n (references_among branches) (references_of a) (shows_branches n branches (all_front Passes (branch_skeletons n branches) (last ∷ []) each))
        (shows (n + count_among branches) a (all_behind Passes (branch_skeletons n branches) (last ∷ []) each).0)
    shows n (Negate a) h = shows n a h
    shows n (Chain j a b) h =
        let over = joined_pass j (skeleton n a) (skeleton (n + count a) b) h in two n (references_of a) (references_of b) (shows n a over.0) (shows (n + count a) b over.1)
    shows n (Compare c a b) h =
        let over = compare_over t kinds (d (skeleton n a)) (d (skeleton (n + count a) b)) h in two n (references_of a) (references_of b) (shows n a over.0) (shows (n + count a) b over.1)
    shows n (IsNull negated a) h = shows n a (unless_pass negated (formula.IsNull (skeleton n a)) h)
    shows n (In negated a args) h =
        let xs = formulas_of (skeletons (n + count a) args) in
        let over = listed_over t kinds (d (skeleton n a)) (all_dated_by kinds leaf xs) (unless_pass negated (formula.In (skeleton n a) xs) h) in
        two n (references_of a) (references_in args) (shows n a over.0) (shows_args (n + count a) args (all_pass (skeletons (n + count a) args) over.1))
    shows n (Between negated a low high) h =
        let l = skeleton (n + count a) low in
        let u = skeleton (n + count a + count low) high in
        let over = ranged_over t kinds (d (skeleton n a)) (d l) (d u) (unless_pass negated (formula.Between (skeleton n a) l u) h) in
        two n (references_of a) (references_of low ++ references_of high) (shows n a over.0)
        (two (n + count a) (references_of low) (references_of high) (shows (n + count a) low over.1) (shows (n + count a + count low) high over.2))
    shows n (Like negated a pattern) h = shows n a (unless_pass negated (formula.Like (skeleton n a) _) h)
    shows n (Not a) h = shows n a h

    shows_args : (n : ℕ) (args : Args) → AllByRecursion Passes (skeletons n args) → Shows n (references_in args)
    shows_args n (one a) h = shows n a h.0
    shows_args n (more args a) h =
        let last = skeleton (n + count_in args) a in
        two n (references_in args) (references_of a) (shows_args n args (all_front Passes (skeletons n args) (last ∷ []) h)) (shows (n + count_in args) a (all_behind Passes (skeletons n args) (last ∷ []) h).0)

    shows_branches : (n : ℕ) (branches : Branches) → AllByRecursion Passes (branch_skeletons n branches) → Shows n (references_among branches)
    shows_branches n (when c a) h = two n (references_of c) (references_of a) (shows n c h.0) (shows (n + count c) a h.1.0)
    shows_branches n (then_when branches c a) h =
        let m = n + count_among branches in
        let lasts = skeleton m c ∷ skeleton (m + count c) a ∷ [] in
        let ends = all_behind Passes (branch_skeletons n branches) lasts h in
        two n (references_among branches) (references_of c ++ references_of a) (shows_branches n branches (all_front Passes (branch_skeletons n branches) lasts h))
        (two m (references_of c) (references_of a) (shows m c ends.0) (shows (m + count c) a ends.1.0))

pub tree_shown : (e : Tree) → IsShown (written_of e)
tree_shown e = λ t kinds leaf h. shows t kinds leaf 0 e h
