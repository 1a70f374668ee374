-- What a filter of numbers or of truth values spells is of its kind.
use Rattle.std.proofs.Common.{◌≡◌, ℕ, Bool, true, false, List, [], ◌∷◌, Option, Some, None, option_map, map, refl, subst, arith, rules}
use Rattle.std.specs.Prelude.{if◌then◌else◌, IfSome}
use Rattle.std.specs.Option.{option_and_then}
use Rattle.std.specs.List.{list_all}
use Rattle.std.proofs.lemmas.Bool.{and_from, false≢true}
use Rattle.lk_val.specs.declared.num.Num.{Num}
use Rattle.lk_grammar.specs.Listed.{with_own}
use Rattle.lk_types.specs.Filters.{are_bounds, is_bound, is_exclude_of, is_filter_of, is_number_test, is_relative, is_same_truth, is_truth_test}
use Rattle.lk_types.specs.declared.expr.Comparison.{Comparison}
use Rattle.lk_types.specs.declared.filter.Filter.{Filter}
use Rattle.lk_types.specs.declared.filter.Test.{Test}
use Rattle.lk_types.specs.declared.filter.Test.TheVariants as test
use Rattle.lk_types.specs.declared.schema.Kind.TheVariants as kind
use Rattle.lk_filter_number.specs.Numbers.{IsNumberFilter, begins_with_not, comparison_of, compares_of, further_tests, is_exclude, item_test, number_filter, own_test, range_test, side_tests}
use Rattle.lk_filter_number.specs.Truths.{IsTruthFilter, truth_filter}
use Rattle.lk_query.proofs.KindSteps.{not_some, plain_filter, some_same}
use Rattle.lk_query.proofs.PlacedKindLaws.{number_plain, truth_plain}

-- ---- numbers

abbrev Are : Option (List Test) → Type 0
Are o = IfSome o (λ ts. list_all is_number_test ts ≡ true)

abbrev pub IsOne : Test → Type 0
IsOne t = is_number_test t ≡ true

abbrev are_all_bounds : List (Comparison × Num) → Bool
are_all_bounds bs = list_all (λ b. is_bound b.0) bs

bound_of : (o : _) → is_bound (comparison_of o) ≡ true
bound_of o = grind arith

bounds_made : (c : Comparison) (o : Option Num) (rest : Option (List (Comparison × Num))) → is_bound c ≡ true → IfSome rest (λ bs. are_all_bounds bs ≡ true)
    → IfSome (option_and_then (λ n. option_map (λ bs. (c, n) ∷ bs) rest) o) (λ bs. are_bounds bs ≡ true)
bounds_made c None rest is h = tt
bounds_made c (Some n) None is h = tt
bounds_made c (Some n) (Some bs) is h = and_from (is_bound c) (are_all_bounds bs) is h

as_all : (bs : List (Comparison × Num)) → are_bounds bs ≡ true → are_all_bounds bs ≡ true
as_all [] h = refl
as_all (b ∷ bs) h = h

if_all : (o : Option (List (Comparison × Num))) → IfSome o (λ bs. are_bounds bs ≡ true) → IfSome o (λ bs. are_all_bounds bs ≡ true)
if_all None h = tt
if_all (Some bs) h = as_all bs h

all_bounds : (cs : List _) → IfSome (compares_of cs) (λ bs. are_all_bounds bs ≡ true)
all_bounds [] = refl
all_bounds (c ∷ more) = if_all (compares_of (c ∷ more)) (bounds_made _ _ (compares_of more) (bound_of _) (all_bounds more))

some_bounds : (c : _) (more : List _) → IfSome (compares_of (c ∷ more)) (λ bs. are_bounds bs ≡ true)
some_bounds c more = bounds_made _ _ (compares_of more) (bound_of _) (all_bounds more)

compared : (o : Option (List (Comparison × Num))) → IfSome o (λ bs. are_bounds bs ≡ true) → IfSome (option_map test.Compare o) IsOne
compared None h = tt
compared (Some bs) h = h

comparing : (c : _) (more : List _) → IfSome (option_map test.Compare (compares_of (c ∷ more))) IsOne
comparing c more = compared (compares_of (c ∷ more)) (some_bounds c more)

range_good : (r : _) → IfSome (range_test r) IsOne
range_good r = search (rules, comparing)

item_good : (x : _) → IfSome (item_test x) IsOne
item_good x = search (rules, range_good)

own_from : (b : Bool) (o : Option Test) → IfSome o IsOne → IfSome (if b then option_map (λ t. Some t) o else Some None) (λ own. IfSome own IsOne)
own_from true None h = tt
own_from true (Some t) h = h
own_from false o h = tt

own_before : (own : Option (Option Test)) (others : Option (List Test)) → IfSome own (λ o. IfSome o IsOne) → Are others → Are (with_own own others)
own_before None others h k = tt
own_before (Some o) None h k = tt
own_before (Some None) (Some ts) h k = k
own_before (Some (Some t)) (Some ts) h k = and_from (is_number_test t) (list_all is_number_test ts) h k

own_good : (plain side : Bool) (x : _) → IfSome (own_test plain side x) (λ o. IfSome o IsOne)
own_good plain side x = own_from (is_same_truth side (is_exclude plain x)) (item_test x) (item_good x)

further_good : (plain side : Bool) (more : List _) → Are (further_tests plain side more)
further_good plain side [] = refl
further_good plain side (x ∷ more) = own_before (own_test plain side x.item) (further_tests plain side more) (own_good plain side x.item) (further_good plain side more)

side_good : (side : Bool) (items : _) → Are (side_tests side items)
side_good side items =
    own_before (own_test (begins_with_not items.first) side items.first) (further_tests (begins_with_not items.first) side items.more)
    (own_good (begins_with_not items.first) side items.first) (further_good (begins_with_not items.first) side items.more)

sides_good : (include exclude : Option (List Test)) (f : Filter) → Are include → Are exclude
    → option_and_then (λ ts. option_map (λ es. record { include = ts; exclude = es; relative = false }) exclude) include ≡ Some f → is_filter_of kind.Number f ≡ true
sides_good None exclude f h k e = not_some f e
sides_good (Some ts) None f h k e = not_some f e
sides_good (Some ts) (Some es) f h k e = subst (λ g. is_filter_of kind.Number g ≡ true) (some_same _ f e) (plain_filter kind.Number number_plain number_plain ts es h k)

items_good : (items : Option _) (f : Filter) → number_filter items ≡ Some f → is_filter_of kind.Number f ≡ true
items_good None f e = subst (λ g. is_filter_of kind.Number g ≡ true) (some_same _ f e) refl
items_good (Some items) f e = sides_good (side_tests false items) (side_tests true items) f (side_good false items) (side_good true items) e

pub number_kind : (f : Filter) (text : List ℕ) → IsNumberFilter f text → is_filter_of kind.Number f ≡ true
number_kind f text h = items_good h.0 f h.2

-- ---- truth values

truths_good : (values : List Bool) → list_all is_truth_test (map test.Truth values) ≡ true
truths_good [] = refl
truths_good (b ∷ values) = truths_good values

no_exclude : (t : Test) → is_exclude_of kind.Truth t ≡ true → is_relative t ≡ false
no_exclude t h = absurd (false≢true h)

pub truth_kind : (f : Filter) (text : List ℕ) → IsTruthFilter f text → is_filter_of kind.Truth f ≡ true
truth_kind f text h =
    subst (λ g. is_filter_of kind.Truth g ≡ true) (some_same (truth_filter h.0) f h.2)
    (plain_filter kind.Truth truth_plain no_exclude (map test.Truth h.0) [] (truths_good h.0) refl)
