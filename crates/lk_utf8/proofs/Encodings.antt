-- The bytes of a character, and the character of its bytes.
use Rattle.std.proofs.Common.{◌≡◌, ℕ, true, false, nat_lt, ◌+◌, ◌-◌, ◌*◌, ◌/◌, ◌%◌, ◌<◌, ◌≤◌, [], ◌∷◌, ◌⊎◌, inl, inr, refl, arith}
use Rattle.std.proofs.lemmas.Bool.Decides.{nat_tests}
use lib.Utf8.{scalar, encode, low_scalar}

-- a byte within bounds
abbrev pub Within : ℕ → ℕ → ℕ → Type 0
Within low high b = (low ≤ b) × (b ≤ high)

pub encode_two : (c a b : ℕ) → 194 ≤ a → a ≤ 223 → 128 ≤ b → b ≤ 191 → c ≡ 64 * (a - 192) + (b - 128) → encode c ≡ a ∷ b ∷ []
unfolding encode
encode_two c a b la ha lb hb e =
    let big : nat_lt c 128 ≡ false = grind (arith, nat_tests) in
    let small : nat_lt c 2048 ≡ true = grind (arith, nat_tests) in
    let first : 192 + c / 64 ≡ a = omega arith in
    let second : 128 + c % 64 ≡ b = omega arith in
    rw (big, small, first, second) refl

pub encode_three : (c a b d : ℕ) → 224 ≤ a → a ≤ 239 → 128 ≤ b → b ≤ 191 → 128 ≤ d → d ≤ 191 → 2048 ≤ c → c ≡ 4096 * (a - 224) + 64 * (b - 128) + (d - 128) → encode c ≡ a ∷ b ∷ d ∷ []
unfolding encode
encode_three c a b d la ha lb hb ld hd lc e =
    let t1 : nat_lt c 128 ≡ false = grind (arith, nat_tests) in
    let t2 : nat_lt c 2048 ≡ false = grind (arith, nat_tests) in
    let t3 : nat_lt c 65536 ≡ true = grind (arith, nat_tests) in
    let q : c / 64 ≡ 64 * (a - 224) + (b - 128) = omega arith in
    let first : 224 + c / 4096 ≡ a = omega arith in
    let second : 128 + c / 64 % 64 ≡ b = omega arith in
    let third : 128 + c % 64 ≡ d = omega arith in
    rw (t1, t2, t3, first, second, third) refl

pub encode_four : (c a b d f : ℕ) → 240 ≤ a → a ≤ 244 → 128 ≤ b → b ≤ 191 → 128 ≤ d → d ≤ 191 → 128 ≤ f → f ≤ 191 → 65536 ≤ c → c ≡ 262144 * (a - 240) + 4096 * (b - 128) + 64 * (d - 128) + (f - 128) → encode c ≡ a ∷ b ∷ d ∷ f ∷ []
unfolding encode
encode_four c a b d f la ha lb hb ld hd lf hf lc e =
    let t1 : nat_lt c 128 ≡ false = grind (arith, nat_tests) in
    let t2 : nat_lt c 2048 ≡ false = grind (arith, nat_tests) in
    let t3 : nat_lt c 65536 ≡ false = grind (arith, nat_tests) in
    let q1 : c / 64 ≡ 4096 * (a - 240) + 64 * (b - 128) + (d - 128) = omega arith in
    let q2 : c / 4096 ≡ 64 * (a - 240) + (b - 128) = omega arith in
    let first : 240 + c / 262144 ≡ a = omega arith in
    let second : 128 + c / 4096 % 64 ≡ b = omega arith in
    let third : 128 + c / 64 % 64 ≡ d = omega arith in
    let fourth : 128 + c % 64 ≡ f = omega arith in
    rw (t1, t2, t3, first, second, third, fourth) refl

pub scalar_three : (c : ℕ) → c < 55296 ⊎ ((57344 ≤ c) × (c < 1114112)) → scalar c ≡ true
scalar_three c (inl h) = low_scalar c h
scalar_three c (inr h) = grind (arith, nat_tests)
