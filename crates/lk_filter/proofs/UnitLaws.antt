-- Each day lies in the unit that has its number.
use Rattle.std.proofs.Common.{◌≡◌, ◌∙◌, ℕ, zero, suc, ◌+◌, ◌-◌, ◌*◌, ◌/◌, ◌%◌, ◌<◌, ◌≤◌, refl, sym, ap, subst, arith, ⊎_elim}
use Rattle.std.specs.Prelude.{if◌then◌else◌}
use Rattle.std.proofs.lemmas.Bool.{cases_lt}
use Rattle.std.proofs.lemmas.Bool.Decides.{nat_tests}
use Rattle.lk_types.specs.Calendar.{year_start, year_of, month_start, month_of, is_leap}
use Rattle.lk_types.specs.Filters.{unit_start, month_number}
use Rattle.lk_filter.proofs.Steps.{trans-le, trans-lt}
use Rattle.lk_filter.specs.Placing.{IsInItsUnit}
use Rattle.lk_types.specs.declared.filter.Period.{Period}
use Rattle.lk_types.specs.declared.filter.Period.TheVariants.{Day, Week, Month, Quarter, Year}

-- ---- years

year_from : (n : ℕ) → year_start (year_of n) ≤ n
unfolding year_of
year_from n = grind (arith, nat_tests)

year_before : (n : ℕ) → n < year_start (year_of n + 1)
unfolding year_of
year_before n = grind (arith, nat_tests)

year_has_days : (k : ℕ) → year_start (k + 1 + 1) ≡ year_start (k + 1) + 365 + (if is_leap (k + 1) then 1 else 0)
year_has_days k = grind (arith, nat_tests)

year_positive : (n : ℕ) → year_of n ≡ year_of n - 1 + 1
year_positive n = omega (arith, year_before n)

-- ---- months, numbered from the first of year 1

month_at : (k r : ℕ) → r < 12 → unit_start Month (12 * k + r) ≡ month_start (k + 1) (r + 1)
month_at k r h =
    let quotient : (12 * k + r) / 12 ≡ k = omega arith in
    let rest : (12 * k + r) % 12 ≡ r = omega arith in
    rw (quotient, rest) refl

year_at : (k : ℕ) → unit_start Month (12 * k + 11 + 1) ≡ year_start (k + 1 + 1)
year_at k =
    let quotient : (12 * k + 11 + 1) / 12 ≡ k + 1 = omega arith in
    let rest : (12 * k + 11 + 1) % 12 ≡ 0 = omega arith in
    rw (quotient, rest) (grind (arith, nat_tests))

-- what holds of each month but the last
each_month : (P : ℕ → Type 0) → P 0 → P 1 → P 2 → P 3 → P 4 → P 5 → P 6 → P 7 → P 8 → P 9 → P 10 → (r : ℕ) → r < 11 → P r
each_month P p0 p1 p2 p3 p4 p5 p6 p7 p8 p9 p10 zero h = p0
each_month P p0 p1 p2 p3 p4 p5 p6 p7 p8 p9 p10 (suc zero) h = p1
each_month P p0 p1 p2 p3 p4 p5 p6 p7 p8 p9 p10 (suc (suc zero)) h = p2
each_month P p0 p1 p2 p3 p4 p5 p6 p7 p8 p9 p10 (suc (suc (suc zero))) h = p3
each_month P p0 p1 p2 p3 p4 p5 p6 p7 p8 p9 p10 (suc (suc (suc (suc zero)))) h = p4
each_month P p0 p1 p2 p3 p4 p5 p6 p7 p8 p9 p10 (suc (suc (suc (suc (suc zero))))) h = p5
each_month P p0 p1 p2 p3 p4 p5 p6 p7 p8 p9 p10 (suc (suc (suc (suc (suc (suc zero)))))) h = p6
each_month P p0 p1 p2 p3 p4 p5 p6 p7 p8 p9 p10 (suc (suc (suc (suc (suc (suc (suc zero))))))) h = p7
each_month P p0 p1 p2 p3 p4 p5 p6 p7 p8 p9 p10 (suc (suc (suc (suc (suc (suc (suc (suc zero)))))))) h = p8
each_month P p0 p1 p2 p3 p4 p5 p6 p7 p8 p9 p10 (suc (suc (suc (suc (suc (suc (suc (suc (suc zero))))))))) h = p9
each_month P p0 p1 p2 p3 p4 p5 p6 p7 p8 p9 p10 (suc (suc (suc (suc (suc (suc (suc (suc (suc (suc zero)))))))))) h = p10
each_month P p0 p1 p2 p3 p4 p5 p6 p7 p8 p9 p10 (suc (suc (suc (suc (suc (suc (suc (suc (suc (suc (suc r))))))))))) h = absurd (omega arith)

-- a month's first day is before the next one's
month_grows : (k r : ℕ) → r < 11 → month_start (k + 1) (r + 1) < month_start (k + 1) (r + 1 + 1)
month_grows k = each_month (λ r. month_start (k + 1) (r + 1) < month_start (k + 1) (r + 1 + 1)) (grind (arith, nat_tests)) (grind (arith, nat_tests)) (grind (arith, nat_tests)) (grind (arith, nat_tests)) (grind (arith, nat_tests)) (grind (arith, nat_tests)) (grind (arith, nat_tests)) (grind (arith, nat_tests)) (grind (arith, nat_tests)) (grind (arith, nat_tests)) (grind (arith, nat_tests))

-- the month of a day is the one that has it
month_is : (y n r : ℕ) → r < 11 → month_start y (r + 1) ≤ n → n < month_start y (r + 1 + 1) → month_of y n ≡ r + 1
unfolding month_of
month_is y n = each_month (λ r. month_start y (r + 1) ≤ n → n < month_start y (r + 1 + 1) → month_of y n ≡ r + 1) (λ from before. grind (arith, nat_tests)) (λ from before. grind (arith, nat_tests)) (λ from before. grind (arith, nat_tests)) (λ from before. grind (arith, nat_tests)) (λ from before. grind (arith, nat_tests)) (λ from before. grind (arith, nat_tests)) (λ from before. grind (arith, nat_tests)) (λ from before. grind (arith, nat_tests)) (λ from before. grind (arith, nat_tests)) (λ from before. grind (arith, nat_tests)) (λ from before. grind (arith, nat_tests))

last_month_is : (y n : ℕ) → month_start y 12 ≤ n → month_of y n ≡ 12
unfolding month_of
last_month_is y n from = grind (arith, nat_tests)

-- the first day of the next month of the year
next_month : (k r : ℕ) → r < 11 → unit_start Month (12 * k + r + 1) ≡ month_start (k + 1) (r + 1 + 1)
next_month k r h =
    let same : 12 * k + r + 1 ≡ 12 * k + (r + 1) = omega arith in
    ap (unit_start Month) same ∙ month_at k (r + 1) (omega arith)

-- ---- months grow

last_grows : (k : ℕ) → month_start (k + 1) 12 < year_start (k + 1 + 1)
last_grows k = grind (arith, nat_tests)

month_step : (k r : ℕ) → r < 12 → unit_start Month (12 * k + r) < unit_start Month (12 * k + r + 1)
month_step k r h = ⊎_elim
    (λ less. subst (λ d. d < unit_start Month (12 * k + r + 1)) (sym (month_at k r h)) (subst (λ d. month_start (k + 1) (r + 1) < d) (sym (next_month k r less)) (month_grows k r less)))
    (λ last.
    let is : 11 ≡ r = omega arith in
    subst (λ m. unit_start Month (12 * k + m) < unit_start Month (12 * k + m + 1)) is
    (subst (λ d. d < unit_start Month (12 * k + 11 + 1)) (sym (month_at k 11 (omega arith))) (subst (λ d. month_start (k + 1) 12 < d) (sym (year_at k)) (last_grows k))))
    (cases_lt r 11)

months_grow : (i : ℕ) → unit_start Month i < unit_start Month (i + 1)
months_grow i =
    let parts : 12 * (i / 12) + i % 12 ≡ i = omega arith in
    subst (λ j. unit_start Month j < unit_start Month (j + 1)) parts (month_step (i / 12) (i % 12) (omega arith))

-- what grows at each step grows over all
climbed : (f : ℕ → ℕ) → ((i : ℕ) → f i < f (i + 1)) → (i d : ℕ) → f i ≤ f (i + d)
climbed f grows i zero = let same : i ≡ i + 0 = omega arith in subst (λ j. f i ≤ f j) same (omega arith)
climbed f grows i (suc d) =
    let same : i + d + 1 ≡ i + suc d = omega arith in
    subst (λ j. f i ≤ f j) same (trans-le (f i) (f (i + d)) (f (i + d + 1)) (climbed f grows i d) (omega (arith, grows (i + d))))

pub climbs : (f : ℕ → ℕ) → ((i : ℕ) → f i < f (i + 1)) → (i j : ℕ) → i ≤ j → f i ≤ f j
climbs f grows i j h = let same : i + (j - i) ≡ j = omega arith in subst (λ m. f i ≤ f m) same (climbed f grows i (j - i))

-- ---- the month of a day

month_found : (n k r : ℕ) → year_of n ≡ k + 1 → month_of (k + 1) n ≡ r + 1 → r < 12 → month_start (k + 1) (r + 1) ≤ n → n < unit_start Month (12 * k + r + 1) → IsInItsUnit Month n
month_found n k r year month h from before =
    let number : month_number n ≡ 12 * k + r = (λ i. 12 * (year i - 1) + (month_of (year i) n - 1)) ∙ (λ i. 12 * (k + 1 - 1) + (month i - 1)) ∙ omega arith in
    record {
      from = subst (λ u. unit_start Month u ≤ n) (sym number) (subst (λ d. d ≤ n) (sym (month_at k r h)) from);
      before = subst (λ u. n < unit_start Month (u + 1)) (sym number) before;
    }

walk : (n k r : ℕ) → year_of n ≡ k + 1 → r < 11 → (month_start (k + 1) (r + 1 + 1) ≤ n → IsInItsUnit Month n) → month_start (k + 1) (r + 1) ≤ n → IsInItsUnit Month n
walk n k r year h further from = ⊎_elim
    (λ less. month_found n k r year (month_is (k + 1) n r h from less) (omega arith) from (subst (λ d. n < d) (sym (next_month k r h)) less))
    further
    (cases_lt n (month_start (k + 1) (r + 1 + 1)))

last_walk : (n k : ℕ) → year_of n ≡ k + 1 → n < year_start (k + 1 + 1) → month_start (k + 1) 12 ≤ n → IsInItsUnit Month n
last_walk n k year before from = month_found n k 11 year (last_month_is (k + 1) n from) (omega arith) from (subst (λ d. n < d) (sym (year_at k)) before)

first_month : (y n : ℕ) → year_start y ≤ n → month_start y 1 ≤ n
first_month y n h = grind (arith, nat_tests)

month_has : (n : ℕ) → IsInItsUnit Month n
month_has n =
    let k = year_of n - 1 in
    let year = year_positive n in
    let from : year_start (k + 1) ≤ n = subst (λ y. year_start y ≤ n) year (year_from n) in
    let before : n < year_start (k + 1 + 1) = subst (λ y. n < year_start (y + 1)) year (year_before n) in
    walk n k 0 year (omega arith) (walk n k 1 year (omega arith) (walk n k 2 year (omega arith) (walk n k 3 year (omega arith)
    (walk n k 4 year (omega arith) (walk n k 5 year (omega arith) (walk n k 6 year (omega arith) (walk n k 7 year (omega arith)
    (walk n k 8 year (omega arith) (walk n k 9 year (omega arith) (walk n k 10 year (omega arith) (last_walk n k year before)))))))))))
    (first_month (k + 1) n from)

-- ---- each unit

quarter_has : (n : ℕ) → IsInItsUnit Quarter n
quarter_has n =
    let i = month_number n in
    let is = month_has n in
    record {
      from = trans-le (unit_start Month (3 * (i / 3))) (unit_start Month i) n (climbs (unit_start Month) months_grow (3 * (i / 3)) i (omega arith)) is.from;
      before = trans-lt n (unit_start Month (i + 1)) (unit_start Month (3 * (i / 3 + 1))) is.before (climbs (unit_start Month) months_grow (i + 1) (3 * (i / 3 + 1)) (omega arith));
    }

year_has : (n : ℕ) → IsInItsUnit Year n
year_has n = record {
  from = subst (λ y. year_start y ≤ n) (year_positive n) (year_from n);
  before = subst (λ y. n < year_start (y + 1)) (year_positive n) (year_before n);
}

pub unit_has : (p : Period) (n : ℕ) → IsInItsUnit p n
unit_has Day n = record { from = omega arith; before = omega arith }
unit_has Week n = record { from = omega arith; before = omega arith }
unit_has Month n = month_has n
unit_has Quarter n = quarter_has n
unit_has Year n = year_has n

-- a unit begins before the next one
pub unit_grows : (p : Period) (i : ℕ) → unit_start p i < unit_start p (i + 1)
unit_grows Day i = omega arith
unit_grows Week i = omega arith
unit_grows Month i = months_grow i
unit_grows Quarter i = trans-lt (unit_start Month (3 * i)) (unit_start Month (3 * i + 1)) (unit_start Month (3 * (i + 1))) (months_grow (3 * i)) (climbs (unit_start Month) months_grow (3 * i + 1) (3 * (i + 1)) (omega arith))
unit_grows Year i = grind (arith, nat_tests)
