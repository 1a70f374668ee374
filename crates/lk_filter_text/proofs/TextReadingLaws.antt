-- Filters of texts: the tokens of items are read as their patterns, and what is read of tokens are the patterns of some items.
use Rattle.std.proofs.Common.{◌≡◌, ◌⊎◌, inl, inr, ℕ, zero, suc, Bool, true, false, not, List, [], ◌∷◌, ◌++◌, map, Option, Some, None, if◌then◌else◌, refl, sym, ap, subst, ◌∙◌, append_assoc, append-nil}
use Rattle.std.specs.List.{AllByRecursion}
use Rattle.std.proofs.lemmas.Bool.{false≢true}
use Rattle.std.proofs.lemmas.Bool.Decides.{Decides-eqb}
use Rattle.lk_grammar.specs.declared.literals.Token.TheVariants.{Word, Literal}
use Rattle.lk_grammar.proofs.FormLaws.{both, and_both, no_cons}
use Rattle.lk_grammar.specs.Listed.{further_tokens}
use Rattle.lk_filter_text.specs.declared.words.TextWord.TheVariants.{Comma}
use Rattle.lk_filter_text.specs.Texts.{TextToken, space, minus, is_character, is_space, is_minus, is_comma, TextItem, spaces, minus_tokens, item_tokens, begins_solid, ends_solid, has_no_comma, IsTextItem, TextItems, more_tokens, text_tokens, AreTextItems, Part, is_some_number, part_of, parts_of, blank, items}
use Rattle.lk_filter_text.specs.TextReading.{without_front, with_front, without_end, pattern_of, solid_part, read_part, between_commas, with_part, read_parts, are_spaces, read_all}
use Rattle.lk_grammar.proofs.ReadingLaws.{none_some, some_is}

turned : (b : Bool) → not b ≡ true → b ≡ false
turned true h = absurd (false≢true h)
turned false h = refl

-- ---- spaces around

front_skipped : (n : ℕ) (tokens : List TextToken) → without_front (spaces n ++ tokens) ≡ without_front tokens
front_skipped zero tokens = refl
front_skipped (suc n) tokens = front_skipped n tokens

front_stays : (t : TextToken) (tokens : List TextToken) → is_space t ≡ false → without_front (t ∷ tokens) ≡ t ∷ tokens
front_stays t tokens h = rw h refl

end_skipped : (n : ℕ) → without_end (spaces n) ≡ []
end_skipped zero = refl
end_skipped (suc n) = rw (end_skipped n) refl

-- what ends with no space keeps its end
end_stays : (tokens : List TextToken) (n : ℕ) → ends_solid tokens ≡ true → without_end (tokens ++ spaces n) ≡ tokens
end_stays [] n h = absurd (false≢true h)
end_stays (t ∷ []) n h = rw (end_skipped n, turned (is_space t) h) refl
end_stays (t ∷ u ∷ tokens) n h = rw (end_stays (u ∷ tokens) n h) refl

-- what ends with no space ends so behind others
ends_behind : (front tokens : List TextToken) → ends_solid tokens ≡ true → ends_solid (front ++ tokens) ≡ true
ends_behind [] tokens h = h
ends_behind (t ∷ []) [] h = absurd (false≢true h)
ends_behind (t ∷ []) (u ∷ tokens) h = h
ends_behind (t ∷ u ∷ front) tokens h = ends_behind (u ∷ front) tokens h

-- ---- an item is read

-- a pattern's tokens, from its first one
solid_first : (excluded : Option ℕ) (content : List TextToken) → begins_solid excluded content ≡ true → (t : TextToken) × ((tokens : List TextToken) × (content ≡ t ∷ tokens) × (is_space t ≡ false))
solid_first None [] h = absurd (false≢true h)
solid_first (Some n) [] h = absurd (false≢true h)
solid_first None (t ∷ tokens) h = (t, (tokens, refl, turned (is_space t) (both (not (is_space t)) (not (is_minus t)) h).0))
solid_first (Some n) (t ∷ tokens) h = (t, (tokens, refl, turned (is_space t) h))

include_read : (n : ℕ) (content : List TextToken) (m : ℕ) → begins_solid None content ≡ true → ends_solid content ≡ true → read_part (spaces n ++ (content ++ spaces m)) ≡ Some (false, content)
include_read n [] m b e = absurd (false≢true b)
include_read n (t ∷ tokens) m b e =
    let solid = both (not (is_space t)) (not (is_minus t)) b in
    let trimmed : without_end (without_front (spaces n ++ (t ∷ (tokens ++ spaces m)))) ≡ t ∷ tokens =
    ap without_end (front_skipped n (t ∷ (tokens ++ spaces m)) ∙ front_stays t (tokens ++ spaces m) (turned (is_space t) solid.0)) ∙ end_stays (t ∷ tokens) m e in
    ap solid_part trimmed ∙ rw (turned (is_minus t) solid.1) refl

exclude_read : (n k : ℕ) (content : List TextToken) (m : ℕ) → begins_solid (Some k) content ≡ true → ends_solid content ≡ true → read_part (spaces n ++ (minus ∷ (spaces k ++ (content ++ spaces m)))) ≡ Some (true, content)
exclude_read n k [] m b e = absurd (false≢true b)
exclude_read n k (t ∷ tokens) m b e =
    let behind = minus ∷ (spaces k ++ (t ∷ tokens)) in
    let same : minus ∷ (spaces k ++ ((t ∷ tokens) ++ spaces m)) ≡ behind ++ spaces m = ap (λ z. minus ∷ z) (sym (append_assoc (spaces k) (t ∷ tokens) (spaces m))) in
    let trimmed : without_end (without_front (spaces n ++ (minus ∷ (spaces k ++ ((t ∷ tokens) ++ spaces m))))) ≡ behind =
    ap without_end (front_skipped n (minus ∷ (spaces k ++ ((t ∷ tokens) ++ spaces m))) ∙ same) ∙ end_stays behind m (ends_behind (minus ∷ spaces k) (t ∷ tokens) e) in
    let content : without_front (spaces k ++ (t ∷ tokens)) ≡ t ∷ tokens = front_skipped k (t ∷ tokens) ∙ front_stays t tokens (turned (is_space t) b) in
    ap solid_part trimmed ∙ ap (pattern_of true) content

item_read : (x : TextItem) → IsTextItem x → read_part (item_tokens x) ≡ Some (part_of x)
item_read x is = by_excluded x.before x.excluded x.content x.behind is.begins is.ends
  where
    by_excluded : (n : ℕ) (excluded : Option ℕ) (content : List TextToken) (m : ℕ) → begins_solid excluded content ≡ true → ends_solid content ≡ true → read_part (spaces n ++ (minus_tokens excluded ++ (content ++ spaces m))) ≡ Some (is_some_number excluded, content)
    by_excluded n None content m b e = include_read n content m b e
    by_excluded n (Some k) content m b e = exclude_read n k content m b e

-- ---- commas

no_comma_joined : (xs ys : List TextToken) → has_no_comma xs ≡ true → has_no_comma ys ≡ true → has_no_comma (xs ++ ys) ≡ true
no_comma_joined [] ys p q = q
no_comma_joined (x ∷ xs) ys p q =
    let h = both (not (is_comma x)) (has_no_comma xs) p in
    and_both (not (is_comma x)) (has_no_comma (xs ++ ys)) h.0 (no_comma_joined xs ys h.1 q)

no_comma_spaces : (n : ℕ) → has_no_comma (spaces n) ≡ true
no_comma_spaces zero = refl
no_comma_spaces (suc n) = no_comma_spaces n

no_comma_item : (x : TextItem) → IsTextItem x → has_no_comma (item_tokens x) ≡ true
no_comma_item x is =
    no_comma_joined (spaces x.before) (minus_tokens x.excluded ++ (x.content ++ spaces x.behind)) (no_comma_spaces x.before)
    (no_comma_joined (minus_tokens x.excluded) (x.content ++ spaces x.behind) (no_comma_minus x.excluded)
    (no_comma_joined x.content (spaces x.behind) is.no_comma (no_comma_spaces x.behind)))
  where
    no_comma_minus : (excluded : Option ℕ) → has_no_comma (minus_tokens excluded) ≡ true
    no_comma_minus None = refl
    no_comma_minus (Some k) = no_comma_spaces k

alone : (tokens : List TextToken) → has_no_comma tokens ≡ true → between_commas tokens ≡ tokens ∷ []
alone [] h = refl
alone (t ∷ tokens) h =
    let p = both (not (is_comma t)) (has_no_comma tokens) h in
    rw (turned (is_comma t) p.0, alone tokens p.1) refl

before_others : (tokens rest : List TextToken) → has_no_comma tokens ≡ true → between_commas (tokens ++ Word Comma ∷ rest) ≡ tokens ∷ between_commas rest
before_others [] rest h = refl
before_others (t ∷ tokens) rest h =
    let p = both (not (is_comma t)) (has_no_comma tokens) h in
    rw (turned (is_comma t) p.0, before_others tokens rest p.1) refl

list_read : (x : TextItem) (more : List TextItem) → IsTextItem x → AllByRecursion IsTextItem more → read_parts (between_commas (item_tokens x ++ further_tokens more_tokens more)) ≡ Some (part_of x ∷ map part_of more)
list_read x [] is are =
    ap (λ z. read_parts (between_commas z)) (append-nil (item_tokens x)) ∙ ap read_parts (alone (item_tokens x) (no_comma_item x is)) ∙ rw (item_read x is) refl
list_read x (y ∷ more) is are =
    ap read_parts (before_others (item_tokens x) (item_tokens y ++ further_tokens more_tokens more) (no_comma_item x is))
    ∙ rw (item_read x is, list_read y more are.0 are.1) refl

-- ---- spaces alone

all_spaces : (n : ℕ) → are_spaces (spaces n) ≡ true
all_spaces zero = refl
all_spaces (suc n) = all_spaces n

spaces_front : (xs ys : List TextToken) → are_spaces (xs ++ ys) ≡ true → are_spaces ys ≡ true
spaces_front [] ys h = h
spaces_front (x ∷ xs) ys h = spaces_front xs ys (both (is_space x) (are_spaces (xs ++ ys)) h).1

not_spaces : (x : TextItem) (rest : List TextToken) → IsTextItem x → are_spaces (item_tokens x ++ rest) ≡ false
not_spaces x rest is =
    elim (are_spaces (item_tokens x ++ rest)) as (λ b. are_spaces (item_tokens x ++ rest) ≡ b → b ≡ false) [
      | true ↦ λ h.
          let first = solid_first x.excluded x.content is.begins in
          let whole : item_tokens x ++ rest ≡ spaces x.before ++ (minus_tokens x.excluded ++ (x.content ++ (spaces x.behind ++ rest))) =
          append_assoc (spaces x.before) (minus_tokens x.excluded ++ (x.content ++ spaces x.behind)) rest
          ∙ ap (λ z. spaces x.before ++ z) (append_assoc (minus_tokens x.excluded) (x.content ++ spaces x.behind) rest ∙ ap (λ z. minus_tokens x.excluded ++ z) (append_assoc x.content (spaces x.behind) rest)) in
          let all : are_spaces (x.content ++ (spaces x.behind ++ rest)) ≡ true = spaces_front (minus_tokens x.excluded) _ (spaces_front (spaces x.before) _ (subst (λ z. are_spaces z ≡ true) whole h)) in
          let at : are_spaces ((first.0 ∷ first.1.0) ++ (spaces x.behind ++ rest)) ≡ true = subst (λ z. are_spaces (z ++ (spaces x.behind ++ rest)) ≡ true) first.1.1 all in
          absurd (false≢true (sym first.1.2 ∙ (both (is_space first.0) (are_spaces (first.1.0 ++ (spaces x.behind ++ rest))) at).0))
      | false ↦ λ _. refl
    ] refl

pub all_read : (all : TextItems) → AreTextItems all → read_all (text_tokens all) ≡ Some (parts_of all)
all_read (blank n) are = rw (all_spaces n) refl
all_read (items x more) are = rw (not_spaces x (further_tokens more_tokens more) are.0) (list_read x more are.0 are.1)

-- ---- what is read are the patterns of some items

character_is : (c : ℕ) (t : TextToken) → is_character c t ≡ true → t ≡ Literal (c ∷ [])
character_is c (Word w) h = absurd (false≢true h)
character_is c (Literal []) h = absurd (false≢true h)
character_is c (Literal (b ∷ [])) h = ap (λ z. Literal (z ∷ [])) ((Decides-eqb b c).0 h)
character_is c (Literal (b ∷ d ∷ text)) h = absurd (false≢true h)

comma_is : (t : TextToken) → is_comma t ≡ true → t ≡ Word Comma
comma_is (Word Comma) h = refl
comma_is (Word w) h = absurd (false≢true h)
comma_is (Literal text) h = absurd (false≢true h)

spaces_are : (tokens : List TextToken) → are_spaces tokens ≡ true → (n : ℕ) × (tokens ≡ spaces n)
spaces_are [] h = (zero, refl)
spaces_are (t ∷ tokens) h =
    let p = both (is_space t) (are_spaces tokens) h in
    let rest = spaces_are tokens p.1 in
    (suc rest.0, ap (λ z. z ∷ tokens) (character_is 32 t p.0) ∙ ap (λ z. space ∷ z) rest.1)

-- tokens that begin with no space
abbrev NoSpaceFirst : List TextToken → Type 0
NoSpaceFirst [] = Unit {0}
NoSpaceFirst (t ∷ tokens) = is_space t ≡ false

record IsSkipped (tokens rest : List TextToken) : Type 0 where
  count : ℕ
  joined : tokens ≡ spaces count ++ rest
  first : NoSpaceFirst rest

skipped : (tokens : List TextToken) → IsSkipped tokens (without_front tokens)
skipped [] = record { count = zero; joined = refl; first = tt }
skipped (t ∷ tokens) =
    elim (is_space t) as (λ s. is_space t ≡ s → IsSkipped (t ∷ tokens) (if s then without_front tokens else t ∷ tokens)) [
      | true ↦ λ s.
          let rest = skipped tokens in
          record { count = suc rest.count; joined = ap (λ z. z ∷ tokens) (character_is 32 t s) ∙ ap (λ z. space ∷ z) rest.joined; first = rest.first }
      | false ↦ λ s. record { count = zero; joined = refl; first = s }
    ] refl

record IsCut (tokens front : List TextToken) : Type 0 where
  count : ℕ
  joined : tokens ≡ front ++ spaces count
  last : (front ≡ []) ⊎ (ends_solid front ≡ true)

cut_end : (tokens : List TextToken) → IsCut tokens (without_end tokens)
cut_end [] = record { count = zero; joined = refl; last = inl refl }
cut_end (t ∷ tokens) = by_rest (without_end tokens) (cut_end tokens)
  where
    by_rest : (rest : List TextToken) → IsCut tokens rest → IsCut (t ∷ tokens) (with_front t rest)
    by_rest [] cut =
        elim (is_space t) as (λ s. is_space t ≡ s → IsCut (t ∷ tokens) (if s then [] else t ∷ [])) [
          | true ↦ λ s. record { count = suc cut.count; joined = ap (λ z. z ∷ tokens) (character_is 32 t s) ∙ ap (λ z. space ∷ z) cut.joined; last = inl refl }
          | false ↦ λ s. record { count = cut.count; joined = ap (λ z. t ∷ z) cut.joined; last = inr (ap not s) }
        ] refl
    by_rest (u ∷ rest) cut =
        record {
          count = cut.count;
          joined = ap (λ z. t ∷ z) cut.joined;
          last = elim cut.last [ inl none ↦ absurd (no_cons (sym none)) | inr ends ↦ inr ends ];
        }

no_comma_back : (xs ys : List TextToken) → has_no_comma (xs ++ ys) ≡ true → has_no_comma ys ≡ true
no_comma_back [] ys h = h
no_comma_back (x ∷ xs) ys h = no_comma_back xs ys (both (not (is_comma x)) (has_no_comma (xs ++ ys)) h).1

no_comma_front : (xs ys : List TextToken) → has_no_comma (xs ++ ys) ≡ true → has_no_comma xs ≡ true
no_comma_front [] ys h = refl
no_comma_front (x ∷ xs) ys h =
    let p = both (not (is_comma x)) (has_no_comma (xs ++ ys)) h in
    and_both (not (is_comma x)) (has_no_comma xs) p.0 (no_comma_front xs ys p.1)

-- an end of what ends with no space ends so too
ends_last : (front : List TextToken) (t : TextToken) (tokens : List TextToken) → ends_solid (front ++ t ∷ tokens) ≡ true → ends_solid (t ∷ tokens) ≡ true
ends_last [] t tokens h = h
ends_last (u ∷ []) t tokens h = h
ends_last (u ∷ v ∷ front) t tokens h = ends_last (v ∷ front) t tokens h

-- an item that is spelled and gives the part
record IsItemOf (tokens : List TextToken) (p : Part) : Type 0 where
  x : TextItem
  is : IsTextItem x
  spelled : tokens ≡ item_tokens x
  same : part_of x ≡ p

solid_found : (n : ℕ) (solid : List TextToken) (m : ℕ) (p : Part) → NoSpaceFirst solid → ((solid ≡ []) ⊎ (ends_solid solid ≡ true)) → has_no_comma solid ≡ true → solid_part solid ≡ Some p → IsItemOf (spaces n ++ (solid ++ spaces m)) p
solid_found n [] m p first last none e = absurd (none_some e)
solid_found n (t ∷ tokens) m p first last none e =
    elim (is_minus t) as (λ b. is_minus t ≡ b → (if b then pattern_of true (without_front tokens) else Some (false, t ∷ tokens)) ≡ Some p → IsItemOf (spaces n ++ ((t ∷ tokens) ++ spaces m)) p) [
      | true ↦ λ is e. excluded (without_front tokens) (skipped tokens) (character_is 45 t is) e
      | false ↦ λ is e.
          record {
            x = record { before = n; excluded = None; content = t ∷ tokens; behind = m };
            is = record { begins = and_both (not (is_space t)) (not (is_minus t)) (ap not first) (ap not is); ends = ends; no_comma = none };
            spelled = refl;
            same = some_is (false, t ∷ tokens) p e;
          }
    ] refl e
  where
    ends : ends_solid (t ∷ tokens) ≡ true
    ends = elim last [ inl empty ↦ absurd (no_cons (sym empty)) | inr h ↦ h ]

    excluded : (rest : List TextToken) → IsSkipped tokens rest → t ≡ minus → pattern_of true rest ≡ Some p → IsItemOf (spaces n ++ ((t ∷ tokens) ++ spaces m)) p
    excluded [] cut is e = absurd (none_some e)
    excluded (u ∷ rest) cut is e =
        let whole : t ∷ tokens ≡ (t ∷ spaces cut.count) ++ u ∷ rest = ap (λ z. t ∷ z) cut.joined in
        record {
          x = record { before = n; excluded = Some cut.count; content = u ∷ rest; behind = m };
          is = record {
            begins = ap not cut.first;
            ends = ends_last (t ∷ spaces cut.count) u rest (subst (λ z. ends_solid z ≡ true) whole ends);
            no_comma = no_comma_back (t ∷ spaces cut.count) (u ∷ rest) (subst (λ z. has_no_comma z ≡ true) whole none);
          };
          spelled = ap (λ z. spaces n ++ (z ++ spaces m)) (whole ∙ ap (λ z. z ∷ (spaces cut.count ++ u ∷ rest)) is) ∙ ap (λ z. spaces n ++ (minus ∷ z)) (append_assoc (spaces cut.count) (u ∷ rest) (spaces m));
          same = some_is (true, u ∷ rest) p e;
        }

part_found : (tokens : List TextToken) (p : Part) → has_no_comma tokens ≡ true → read_part tokens ≡ Some p → IsItemOf tokens p
part_found tokens p none e =
    let front = skipped tokens in
    let end = cut_end (without_front tokens) in
    let whole : tokens ≡ spaces front.count ++ (without_end (without_front tokens) ++ spaces end.count) = front.joined ∙ ap (λ z. spaces front.count ++ z) end.joined in
    let inner = no_comma_back (spaces front.count) (without_end (without_front tokens) ++ spaces end.count) (subst (λ z. has_no_comma z ≡ true) whole none) in
    subst (λ z. IsItemOf z p) (sym whole)
    (solid_found front.count (without_end (without_front tokens)) end.count p (first_of_front (without_front tokens) front.first end) end.last (no_comma_front (without_end (without_front tokens)) (spaces end.count) inner) e)
  where
    first_of : (xs ys : List TextToken) → NoSpaceFirst (xs ++ ys) → NoSpaceFirst xs
    first_of [] ys h = tt
    first_of (x ∷ xs) ys h = h

    first_of_front : (rest : List TextToken) → NoSpaceFirst rest → IsCut rest (without_end rest) → NoSpaceFirst (without_end rest)
    first_of_front rest first cut = first_of (without_end rest) (spaces cut.count) (subst NoSpaceFirst cut.joined first)

-- tokens with a comma before each
abbrev tails : List (List TextToken) → List TextToken
tails [] = []
tails (tokens ∷ others) = (Word Comma ∷ tokens) ++ tails others

record AreBetween (tokens : List TextToken) : Type 0 where
  first : List TextToken
  others : List (List TextToken)
  is : between_commas tokens ≡ first ∷ others
  joined : tokens ≡ first ++ tails others
  none : has_no_comma first ≡ true
  each : AllByRecursion (λ z. has_no_comma z ≡ true) others

are_between : (tokens : List TextToken) → AreBetween tokens
are_between [] = record { first = []; others = []; is = refl; joined = refl; none = refl; each = tt }
are_between (t ∷ tokens) = by_comma (are_between tokens)
  where
    by_comma : AreBetween tokens → AreBetween (t ∷ tokens)
    by_comma rest =
        elim (is_comma t) as (λ c. is_comma t ≡ c → AreBetween (t ∷ tokens)) [
          | true ↦ λ c.
              record { first = []; others = rest.first ∷ rest.others; is = rw (c, rest.is) refl; joined = ap (λ z. z ∷ tokens) (comma_is t c) ∙ ap (λ z. Word Comma ∷ z) rest.joined; none = refl; each = (rest.none, rest.each) }
          | false ↦ λ c.
              record { first = t ∷ rest.first; others = rest.others; is = rw (c, rest.is) refl; joined = ap (λ z. t ∷ z) rest.joined; none = and_both (not (is_comma t)) (has_no_comma rest.first) (ap not c) rest.none; each = rest.each }
        ] refl

-- further items that are spelled and give the parts
record AreItemsOf (tokens : List TextToken) (parts : List Part) : Type 0 where
  more : List TextItem
  are : AllByRecursion IsTextItem more
  spelled : tokens ≡ further_tokens more_tokens more
  same : map part_of more ≡ parts

with_before : (o : Option Part) (rest : Option (List Part)) (parts : List Part) → with_part o rest ≡ Some parts → (p : Part) × ((more : List Part) × (o ≡ Some p) × (rest ≡ Some more) × (p ∷ more ≡ parts))
with_before None rest parts e = absurd (none_some e)
with_before (Some p) None parts e = absurd (none_some e)
with_before (Some p) (Some more) parts e = (p, (more, refl, refl, some_is (p ∷ more) parts e))

rest_found : (segments : List (List TextToken)) (parts : List Part) → AllByRecursion (λ z. has_no_comma z ≡ true) segments → read_parts segments ≡ Some parts → AreItemsOf (tails segments) parts
rest_found [] parts none e = record { more = []; are = tt; spelled = refl; same = some_is [] parts e }
rest_found (tokens ∷ segments) parts none e =
    let w = with_before (read_part tokens) (read_parts segments) parts e in
    let first = part_found tokens w.0 none.0 w.1.1 in
    let rest = rest_found segments w.1.0 none.1 w.1.2 in
    record {
      more = first.x ∷ rest.more;
      are = (first.is, rest.are);
      spelled = ap (λ z. Word Comma ∷ (z ++ tails segments)) first.spelled ∙ ap (λ z. Word Comma ∷ (item_tokens first.x ++ z)) rest.spelled;
      same = (λ i. first.same i ∷ rest.same i) ∙ w.1.3;
    }

pub record AreFound (tokens : List TextToken) (parts : List Part) : Type 0 where
  pub all : TextItems
  pub are : AreTextItems all
  pub spelled : tokens ≡ text_tokens all
  pub same : parts_of all ≡ parts

pub all_found : (tokens : List TextToken) (parts : List Part) → read_all tokens ≡ Some parts → AreFound tokens parts
all_found tokens parts e =
    elim (are_spaces tokens) as (λ b. are_spaces tokens ≡ b → (if b then Some [] else read_parts (between_commas tokens)) ≡ Some parts → AreFound tokens parts) [
      | true ↦ λ spaces e.
          let n = spaces_are tokens spaces in
          record { all = blank n.0; are = tt; spelled = n.1; same = some_is [] parts e }
      | false ↦ λ _ e.
          let b = are_between tokens in
          let w = with_before (read_part b.first) (read_parts b.others) parts (sym (ap read_parts b.is) ∙ e) in
          let first = part_found b.first w.0 b.none w.1.1 in
          let rest = rest_found b.others w.1.0 b.each w.1.2 in
          record {
            all = items first.x rest.more;
            are = (first.is, rest.are);
            spelled = b.joined ∙ ap (λ z. z ++ tails b.others) first.spelled ∙ ap (λ z. item_tokens first.x ++ z) rest.spelled;
            same = (λ i. first.same i ∷ rest.same i) ∙ w.1.3;
          }
    ] refl e
