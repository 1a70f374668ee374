-- The best of the aggregate tables that fit is found from the end; and where a query is routed.
use Rattle.std.proofs.Common.{◌≡◌, ◌<◌, ◌≤◌, ℕ, zero, suc, ◌+◌, Bool, true, false, List, [], ◌∷◌, drop, length, refl, sym, ap, ◌∙◌, arith}
use Rattle.std.specs.Prelude.{Option, None, Some, filter, if◌then◌else◌, slice_index}
use Rattle.std.proofs.lemmas.List.{drop_more}
use Rattle.lk_types.specs.declared.answer.Route.{Route}
use Rattle.lk_types.specs.declared.answer.RouteFrom.TheVariants as from
use Rattle.lk_types.specs.declared.bound.Bound.{Bound}
use Rattle.lk_types.specs.declared.explore.Explore.{Explore}
use Rattle.lk_types.specs.declared.model.Model.{Model}
use Rattle.lk_semantics.specs.Derived.{explore_at}
use Rattle.lk_semantics.specs.Joins.{numbers_below}
use Rattle.lk_semantics.specs.Resolved.{IsResolved}
use Rattle.lk_semantics.specs.Rollups.{best_rollup, better, fits, fitting, reached_datagroups, rollup_at, route_of, route_or, route_to_build}
use Rattle.lk_fill.specs.Reached.{first_of, first_reached, groups_reached}
use Rattle.lk_fill.specs.Reads.{tables_read}
use Rattle.lk_fill.proofs.ReachedLaws.{reached_is}
use Rattle.lk_route.specs.Routes.{best_with, chosen, fitting_from, route_to}
use Rattle.lk_route.proofs.NumberLaws.{length_below, number_at}

drop_past : {A : Type 0} (xs : List A) (n : ℕ) → length xs ≤ n → drop n xs ≡ []
drop_past [] zero past = refl
drop_past [] (suc n) past = refl
drop_past (x ∷ xs) zero past = absurd (omega (arith, past))
drop_past (x ∷ xs) (suc n) past = drop_past xs n (omega (arith, past))

-- none is found past the end
pub best_past : (x : Explore) (b : Bound) (n : ℕ) → length x.rollups ≡ n → None ≡ best_rollup x (fitting_from x b n)
best_past x b n is =
    let long = length_below (length x.rollups) in
    ap (λ rs. best_rollup x (filter (λ r. fits x (rollup_at x r) b) rs)) (sym (drop_past (numbers_below (length x.rollups)) n (omega (arith, long, is))))

-- one number more
next_from : (x : Explore) (b : Bound) (k : ℕ) → k < length x.rollups
    → best_with x b k (best_rollup x (fitting_from x b (k + 1))) ≡ best_rollup x (fitting_from x b k)
unfolding best_with
next_from x b k less =
    let ns = numbers_below (length x.rollups) in
    let long = length_below (length x.rollups) in
    let test : ℕ → Bool = λ r. fits x (rollup_at x r) b in
    let here : drop k ns ≡ k ∷ drop (k + 1) ns = drop_more ns k 0 (omega (arith, long, less)) ∙ ap (λ n. n ∷ drop (k + 1) ns) (number_at (length x.rollups) k less) in
    of_test (test k) (filter test (drop (k + 1) ns)) ∙ ap (λ rs. best_rollup x (filter test rs)) (sym here)
  where
    of_test : (b : Bool) (rs : List ℕ) → (if b then better x k (best_rollup x rs) else best_rollup x rs) ≡ best_rollup x (if b then k ∷ rs else rs)
    of_test true rs = refl
    of_test false rs = refl

pub best_next : (x : Explore) (b : Bound) (k n : ℕ) (best next : Option ℕ) → k + 1 ≡ n → k < length x.rollups → best ≡ best_rollup x (fitting_from x b n)
    → next ≡ best_with x b k best → next ≡ best_rollup x (fitting_from x b k)
best_next x b k n best next one less is made =
    made ∙ ap (best_with x b k) (is ∙ ap (λ j. best_rollup x (fitting_from x b j)) (sym one)) ∙ next_from x b k less

-- a query that no aggregate table answers goes to the first datagroup that it reaches
pub routed_to : (builds : List ℕ) (now : ℕ) (groups : List ℕ) → route_to builds now (first_of groups) ≡ route_to_build builds now groups
routed_to builds now [] = refl
routed_to builds now (g ∷ groups) = refl

-- the number itself, or the best of the later ones
pub left_as_it_is : (x : Explore) (b : Bound) (r : ℕ) (best : Option ℕ) (found : Bool) → found ≡ fits x (rollup_at x r) b → found ≡ false → best ≡ best_with x b r best
unfolding best_with
left_as_it_is x b r best found is unfit = ap (λ t. if t then better x r best else best) (sym unfit ∙ is)

pub bettered : (x y : Explore) (b : Bound) (r : ℕ) (best next : Option ℕ) (found : Bool) → found ≡ fits x (rollup_at x r) b → found ≡ true → y ≡ x → next ≡ better y r best
    → next ≡ best_with x b r best
unfolding best_with
bettered x y b r best next found is fit same made = made ∙ ap (λ z. better z r best) same ∙ ap (λ t. if t then better x r best else best) (sym fit ∙ is)

pub none_chosen : (x : Explore) (b : Bound) → b.fresh ≡ true → None ≡ chosen x b
unfolding chosen
none_chosen x b fresh = ap (λ t. if t then None else best_rollup x (fitting x b)) (sym fresh)

pub best_chosen : (x : Explore) (b : Bound) (best : Option ℕ) → b.fresh ≡ false → best ≡ best_rollup x (fitting x b) → best ≡ chosen x b
unfolding chosen
best_chosen x b best current is = is ∙ ap (λ t. if t then None else best_rollup x (fitting x b)) (sym current)

-- where a query is routed, from which aggregate table it is answered
pub rollup_routed : (m : Model) (builds : List ℕ) (now : ℕ) (b : Bound) (x : Explore) (r : ℕ) (found : Option ℕ) (route : Route) → x ≡ explore_at m b.explore
    → found ≡ chosen (explore_at m b.explore) b → found ≡ Some r → route ≡ record { number = slice_index builds (rollup_at x r).datagroup; from = from.Rollup r }
    → route ≡ route_of m builds now b
unfolding chosen
rollup_routed m builds now b x r found route own is some made =
    let y = explore_at m b.explore in
    made ∙ (λ i. record { number = slice_index builds (rollup_at (own i) r).datagroup; from = from.Rollup r })
    ∙ ap (λ o. route_or y builds o (route_to_build builds now (reached_datagroups m y b.joins))) (sym some ∙ is)

pub build_routed : (m : Model) (builds : List ℕ) (now : ℕ) (b : Bound) (x : Explore) (found group : Option ℕ) (groups : List (Option ℕ)) (joins : List ℕ) (route : Route) → IsResolved m
    → x ≡ explore_at m b.explore → found ≡ chosen (explore_at m b.explore) b → found ≡ None → groups ≡ groups_reached m → joins ≡ b.joins
    → group ≡ first_reached groups (tables_read x joins) → route ≡ route_to builds now group → route ≡ route_of m builds now b
unfolding chosen
build_routed m builds now b x found group groups joins route resolved own is none all same reached made =
    let y = explore_at m b.explore in
    made
    ∙ ap (route_to builds now) (reached ∙ (λ i. first_reached (all i) (tables_read (own i) (same i))) ∙ sym (reached_is m resolved b.explore b.joins))
    ∙ routed_to builds now (reached_datagroups m y b.joins)
    ∙ ap (λ o. route_or y builds o (route_to_build builds now (reached_datagroups m y b.joins))) (sym none ∙ is)
