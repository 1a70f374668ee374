-- The index of interned texts: what is left to be compared, and one text more.
use Rattle.std.proofs.Common.{◌≡◌, ◌<◌, ◌≤◌, ◌+◌, ◌++◌, ◌∷◌, ◌||◌, ◌⊎◌, [], ℕ, zero, suc, Bool, true, false, cond, nat_eq, List, length, Option, None, Some, refl, sym, ap, ap₂, arith, ◌∙◌, get_or, true≢false, inl, inr, eq-or-lt_of_le, length-append}
use Rattle.std.specs.List.{list_any}
use Rattle.std.specs.HashMap.{HashMap, get}
use Rattle.std.proofs.lemmas.Bool.Decides.{Decides-eqb}
use Rattle.std.proofs.lemmas.Slice.Eq.{bytes_eq-Decides}
use Rattle.std.proofs.lemmas.List.{get_or_append_left, get_or_push, get_or_default}
use Rattle.lk_val.specs.Texts.{is_same_text}
use Rattle.lk_region.specs.Regions.{text_at}
use Rattle.lk_region.specs.Chains.{hash_of, last_of, IsChained}

-- how many texts stand up to this one
abbrev pub above : Option ℕ → ℕ
above None = 0
above (Some number) = suc number

-- ---- the last text of a hash

below_last : (texts : List (List ℕ)) (hash count n : ℕ) → n < count → hash_of (text_at texts n) ≡ hash
    → n < above (last_of texts hash count)
below_last texts hash zero n below same = absurd (omega arith)
below_last texts hash (suc count) n below same =
    by_test (λ before. below_last texts hash count n before same) (nat_eq (hash_of (text_at texts count)) hash) refl
  where
    older : (n < count → n < above (last_of texts hash count)) → (n ≡ count) ⊎ (n < count)
        → nat_eq (hash_of (text_at texts count)) hash ≡ false → n < above (last_of texts hash count)
    older rest (inl here) other =
        absurd (true≢false (sym ((Decides-eqb _ _).1 (ap (λ k. hash_of (text_at texts k)) (sym here) ∙ same)) ∙ other))
    older rest (inr before) other = rest before

    by_test : (n < count → n < above (last_of texts hash count)) → (b : Bool)
        → nat_eq (hash_of (text_at texts count)) hash ≡ b
        → n < above (cond b (Some count) (last_of texts hash count))
    by_test rest true test = below
    by_test rest false test = older rest (eq-or-lt_of_le (omega arith)) test

last_is : (texts : List (List ℕ)) (hash count k : ℕ) → last_of texts hash count ≡ Some k
    → (k < count) × (hash_of (text_at texts k) ≡ hash)
last_is texts hash zero k is = let no : 0 ≡ suc k = ap above is in absurd (omega (arith, no))
last_is texts hash (suc count) k is =
    by_test (λ there. last_is texts hash count k there) (nat_eq (hash_of (text_at texts count)) hash) refl is
  where
    by_test : (last_of texts hash count ≡ Some k → (k < count) × (hash_of (text_at texts k) ≡ hash))
        → (b : Bool) → nat_eq (hash_of (text_at texts count)) hash ≡ b
        → cond b (Some count) (last_of texts hash count) ≡ Some k
        → (k < suc count) × (hash_of (text_at texts k) ≡ hash)
    by_test older true test here =
        let same : suc count ≡ suc k = ap above here in
        let number : count ≡ k = omega (arith, same) in
        (omega (arith, number), ap (λ n. hash_of (text_at texts n)) (sym number) ∙ (Decides-eqb _ _).0 test)
    by_test older false test there =
        let rest = older there in
        let less = rest.0 in
        (omega (arith, less), rest.1)

above_last : (texts : List (List ℕ)) (hash count : ℕ) → above (last_of texts hash count) ≤ count
above_last texts hash zero = omega arith
above_last texts hash (suc count) =
    by_test (above_last texts hash count) (nat_eq (hash_of (text_at texts count)) hash)
  where
    by_test : above (last_of texts hash count) ≤ count
        → (b : Bool) → above (cond b (Some count) (last_of texts hash count)) ≤ suc count
    by_test rest true = omega arith
    by_test rest false = omega (arith, rest)

-- ---- what is left to be compared

-- the text, if it stands anywhere, stands up to the candidate, which has its hash
pub record AreLeft (texts : List (List ℕ)) (text : List ℕ) (candidate : Option ℕ) : Type 0 where
  pub left : (n : ℕ) → n < length texts → text_at texts n ≡ text → n < above candidate
  pub found : (k : ℕ) → candidate ≡ Some k → (k < length texts) × (hash_of (text_at texts k) ≡ hash_of text)

module _ {S : Type 0} (texts : List (List ℕ)) (text : List ℕ) (latest : HashMap ℕ ℕ S) (earlier : List (Option ℕ))
    (chained : IsChained texts latest earlier) where
  -- at first
  pub left_first : (candidate : Option ℕ) → candidate ≡ get nat_eq latest (hash_of text) → AreLeft texts text candidate
  left_first candidate is = record {
    left = λ n within same.
        rw (is, chained.last (hash_of text)) (below_last texts (hash_of text) (length texts) n within (ap hash_of same));
    found = λ k at.
        last_is texts (hash_of text) (length texts) k (sym (is ∙ chained.last (hash_of text)) ∙ at);
  }

  module _ (candidate : Option ℕ) (k : ℕ) (at : candidate ≡ Some k) (now : AreLeft texts text candidate)
      (next : Option ℕ) (is : next ≡ get_or earlier k next) where
    pub number_within : k < length texts
    number_within = (now.found k at).0

    next_is : next ≡ last_of texts (hash_of (text_at texts k)) k
    next_is =
        is ∙ get_or_default earlier k next None (rw chained.one_each number_within) ∙ chained.before k number_within

    pub next_smaller : above next < above candidate
    next_smaller = let less = above_last texts (hash_of (text_at texts k)) k in rw (at, next_is) (omega (arith, less))

    module _ (other : is_same_text text (text_at texts k) ≡ false) where
      apart : (n : ℕ) → text_at texts n ≡ text → n < above candidate → n < k
      apart n same up_to = by_cases (eq-or-lt_of_le (omega (arith, ahead)))
        where
          ahead : n < suc k
          ahead = rw (ap above (sym at)) up_to

          by_cases : (n ≡ k) ⊎ (n < k) → n < k
          by_cases (inl here) =
              absurd (true≢false (sym ((bytes_eq-Decides text (text_at texts k)).1 (sym same ∙ ap (text_at texts) here)) ∙ other))
          by_cases (inr before) = before

      pub left_next : AreLeft texts text next
      left_next = record {
        left = λ n within same.
            rw next_is (below_last texts (hash_of (text_at texts k)) k n (apart n same (now.left n within same))
            (ap hash_of same ∙ sym (now.found k at).1));
        found = λ j then.
            let last = last_is texts (hash_of (text_at texts k)) k j (sym next_is ∙ then) in
            let less = last.0 in
            let inside = number_within in
            (omega (arith, less, inside), last.1 ∙ (now.found k at).1);
      }

-- at the end
none_any : (text : List ℕ) (texts : List (List ℕ)) → ((n : ℕ) → n < length texts → text_at texts n ≡ text → ⊥)
    → list_any (is_same_text text) texts ≡ false
none_any text [] none = refl
none_any text (x ∷ xs) none =
    by_test (none_any text xs (λ n within same. none (suc n) (omega (arith, within)) same)) (is_same_text text x) refl
  where
    by_test : list_any (is_same_text text) xs ≡ false
        → (b : Bool) → is_same_text text x ≡ b → (b || list_any (is_same_text text) xs) ≡ false
    by_test rest true test = absurd (none 0 (omega arith) (sym ((bytes_eq-Decides text x).0 test)))
    by_test rest false test = rest

pub left_none : (text : List ℕ) (texts : List (List ℕ)) (candidate : Option ℕ) → candidate ≡ None
    → AreLeft texts text candidate → list_any (is_same_text text) texts ≡ false
left_none text texts candidate is now =
    none_any text texts (λ n within same.
    let past : n < 0 = rw (ap above (sym is)) (now.left n within same) in absurd (omega (arith, past)))

-- ---- one text more

last_kept : (texts more : List (List ℕ)) (hash count : ℕ) → count ≤ length texts
    → last_of (texts ++ more) hash count ≡ last_of texts hash count
last_kept texts more hash zero within = refl
last_kept texts more hash (suc count) within =
    ap₂ (λ (text : List ℕ) (last : Option ℕ). cond (nat_eq (hash_of text) hash) (Some count) last)
    (get_or_append_left texts more [] count (omega (arith, within)))
    (last_kept texts more hash count (omega (arith, within)))

module _ {S : Type 0} (texts : List (List ℕ)) (text : List ℕ) (latest latest_after : HashMap ℕ ℕ S)
    (earlier earlier_after : List (Option ℕ)) (before : Option ℕ) (chained : IsChained texts latest earlier)
    (updates : (hash : ℕ) → get nat_eq latest_after hash
    ≡ cond (nat_eq (hash_of text) hash) (Some (length texts)) (get nat_eq latest hash))
    (before_is : before ≡ get nat_eq latest (hash_of text)) (grows : earlier_after ≡ earlier ++ before ∷ []) where
  after : List (List ℕ)
  after = texts ++ text ∷ []

  one_more : length after ≡ suc (length texts)
  unfolding after
  one_more = length-append texts (text ∷ []) ∙ omega arith

  text_is : text_at after (length texts) ≡ text
  unfolding after
  text_is = get_or_push texts text [] (length texts) refl

  kept : (hash count : ℕ) → count ≤ length texts → last_of after hash count ≡ last_of texts hash count
  unfolding after
  kept hash count within = last_kept texts (text ∷ []) hash count within

  last_after : (hash : ℕ) → get nat_eq latest_after hash ≡ last_of after hash (suc (length texts))
  last_after hash =
      updates hash
      ∙ ap₂ (λ (at : List ℕ) (last : Option ℕ). cond (nat_eq (hash_of at) hash) (Some (length texts)) last)
      (sym text_is) (chained.last hash ∙ sym (kept hash (length texts) (omega arith)))

  same_at : (n : ℕ) → n < length texts → text_at after n ≡ text_at texts n
  unfolding after
  same_at n within = get_or_append_left texts (text ∷ []) [] n within

  before_old : (n : ℕ) → n < length texts → get_or earlier_after n None ≡ last_of after (hash_of (text_at after n)) n
  before_old n within =
      ap (λ list. get_or list n None) grows
      ∙ get_or_append_left earlier (before ∷ []) None n (rw chained.one_each within)
      ∙ chained.before n within
      ∙ sym (kept (hash_of (text_at texts n)) n (omega (arith, within)))
      ∙ ap (λ at. last_of after (hash_of at) n) (sym (same_at n within))

  before_new : get_or earlier_after (length texts) None ≡ last_of after (hash_of (text_at after (length texts))) (length texts)
  before_new =
      ap (λ list. get_or list (length texts) None) grows
      ∙ get_or_push earlier before None (length texts) chained.one_each
      ∙ before_is ∙ chained.last (hash_of text)
      ∙ sym (kept (hash_of text) (length texts) (omega arith))
      ∙ ap (λ at. last_of after (hash_of at) (length texts)) (sym text_is)

  before_each : (n : ℕ) → (n ≡ length texts) ⊎ (n < length texts)
      → get_or earlier_after n None ≡ last_of after (hash_of (text_at after n)) n
  before_each n (inl here) = rw here before_new
  before_each n (inr within) = before_old n within

  pub added_chained : IsChained (texts ++ text ∷ []) latest_after earlier_after
  unfolding after
  added_chained = record {
    last = λ hash. last_after hash ∙ ap (last_of after hash) (sym one_more);
    before = λ n within.
        let up_to : n < suc (length texts) = rw (sym one_more) within in
        before_each n (eq-or-lt_of_le (omega (arith, up_to)));
    one_each =
        ap length grows ∙ length-append earlier (before ∷ []) ∙ ap (λ n. n + 1) chained.one_each
        ∙ sym (length-append texts (text ∷ []));
  }

-- room for one more changes nothing
pub reserved_chained : {S : Type 0} (texts : List (List ℕ)) (latest latest_after : HashMap ℕ ℕ S)
    (earlier earlier_after : List (Option ℕ)) → IsChained texts latest earlier
    → ((hash : ℕ) → get nat_eq latest_after hash ≡ get nat_eq latest hash) → earlier_after ≡ earlier
    → IsChained texts latest_after earlier_after
reserved_chained texts latest latest_after earlier earlier_after chained same_last same = record {
  last = λ hash. same_last hash ∙ chained.last hash;
  before = λ n within. ap (λ list. get_or list n None) same ∙ chained.before n within;
  one_each = ap length same ∙ chained.one_each;
}
