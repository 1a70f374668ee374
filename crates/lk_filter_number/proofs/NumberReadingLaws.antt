-- Filters of numbers: the tokens of items are read as these items, and what is read of tokens are their items.
use Rattle.std.proofs.Common.{◌≡◌, ◌⊎◌, inl, inr, ℕ, ◌≤◌, Bool, true, false, List, [], ◌∷◌, ◌++◌, length, Option, Some, None, option_map, if◌then◌else◌, refl, sym, ap, ◌∙◌, length-append, arith}
use Rattle.std.specs.Option.{option_and_then, option_or}
use Rattle.std.proofs.lemmas.Bool.{false≢true}
use Rattle.lk_grammar.specs.declared.literals.Token.TheVariants.{Word, Literal}
use Rattle.lk_grammar.specs.Listed.{further_tokens}
use Rattle.lk_filter_number.specs.Numbers.{NumberToken, order_word, open_word, close_word, unlike_word, end_token, and_tokens, range_tokens, item_tokens, between_word, more_tokens, number_tokens}
use Rattle.lk_filter_number.specs.NumberReading.{is_same_word, behind_word, first_number, order_of, first_order, first_compared, and_compared, with_compared, further_compared, after_to, after_number, range_from_number, range_up_to, range_compared, one_word, first_end, interval_end, range_interval, range_of, tested, differing, item_of, further_item, then_further, further_from, items_of}
use Rattle.lk_filter_number.specs.declared.number.words.NumberWord.{NumberWord}
use Rattle.lk_filter_number.specs.declared.number.words.NumberWord.TheVariants as word
use Rattle.lk_filter_number.specs.declared.number.items.WrittenEnd.{WrittenEnd}
use Rattle.lk_filter_number.specs.declared.number.items.WrittenEnd.TheVariants as end
use Rattle.lk_filter_number.specs.declared.number.items.Compared.{Compared}
use Rattle.lk_filter_number.specs.declared.number.items.Order.{Order}
use Rattle.lk_filter_number.specs.declared.number.items.Order.TheVariants as order
use Rattle.lk_filter_number.specs.declared.number.items.Bracket.{Bracket}
use Rattle.lk_filter_number.specs.declared.number.items.Bracket.TheVariants.{Square, Round}
use Rattle.lk_filter_number.specs.declared.number.items.UnlikeSign.TheVariants.{Angles, Exclamation}
use Rattle.lk_filter_number.specs.declared.number.items.Separator.{Separator}
use Rattle.lk_filter_number.specs.declared.number.items.Separator.TheVariants as separator
use Rattle.lk_filter_number.specs.declared.number.items.NumberRange.{NumberRange}
use Rattle.lk_filter_number.specs.declared.number.items.NumberRange.TheVariants.{Is, From, UpTo, Between, Compare, Interval}
use Rattle.lk_filter_number.specs.declared.number.items.NumberItem.{NumberItem}
use Rattle.lk_filter_number.specs.declared.number.items.NumberItem.TheVariants.{Range, Null, Unlike}
use Rattle.lk_filter_number.specs.declared.number.items.FurtherItem.{FurtherItem}
use Rattle.lk_filter_number.specs.declared.number.items.NumberItems.{NumberItems}
use Rattle.lk_grammar.proofs.ReadingLaws.{none_some, some_is, or_before, map_before, then_before}

-- ---- the tokens of an item are read as it

-- nothing comes, or what stands between items
abbrev pub Ends : List NumberToken → Type 0
Ends [] = Unit {0}
Ends (Word word.Comma ∷ tokens) = Unit {0}
Ends (Word word.Or ∷ tokens) = Unit {0}
Ends tokens = ⊥

no_number : (rest : List NumberToken) → Ends rest → first_number rest ≡ None
no_number [] h = refl
no_number (Word w ∷ rest) h = refl
no_number (Literal n ∷ rest) h = absurd h

no_to : (rest : List NumberToken) → Ends rest → behind_word word.To rest ≡ None
no_to [] h = refl
no_to (Word word.Comma ∷ rest) h = refl
no_to (Word word.Or ∷ rest) h = refl
no_to (t ∷ rest) h = absurd h

and_none : (w : NumberWord) (u v : NumberToken) → is_same_word word.And w ≡ false → and_compared (Word w) u v ≡ None
and_none w (Word x) (Word y) h = refl
and_none w (Word x) (Literal n) h = rw h refl
and_none w (Literal m) v h = refl

no_and : (rest : List NumberToken) → Ends rest → further_compared rest ≡ ([], rest)
no_and [] h = refl
no_and (t ∷ []) h = refl
no_and (t ∷ u ∷ []) h = refl
no_and (Word word.Comma ∷ u ∷ v ∷ rest) h = rw (and_none word.Comma u v refl) refl
no_and (Word word.Or ∷ u ∷ v ∷ rest) h = rw (and_none word.Or u v refl) refl
no_and (t ∷ u ∷ v ∷ rest) h = absurd h

further_again : (more : List Compared) (rest : List NumberToken) → Ends rest → further_compared (and_tokens more ++ rest) ≡ (more, rest)
further_again [] rest h = no_and rest h
further_again (c ∷ more) rest h = with_order c.comparison c.number (further_again more rest h)
  where
    with_order : (o : Order) (n : List ℕ) → further_compared (and_tokens more ++ rest) ≡ (more, rest) → further_compared (Word word.And ∷ Word (order_word o) ∷ Literal n ∷ (and_tokens more ++ rest)) ≡ (record { comparison = o; number = n } ∷ more, rest)
    with_order order.Less n e = rw e refl
    with_order order.AtMost n e = rw e refl
    with_order order.Greater n e = rw e refl
    with_order order.AtLeast n e = rw e refl

end_again : (e : WrittenEnd) (rest : List NumberToken) → first_end (end_token e ∷ rest) ≡ Some (e, rest)
end_again (end.Number n) rest = refl
end_again end.Inf rest = refl
end_again end.MinusInf rest = refl

close_again : (close : Bracket) (rest : List NumberToken) → one_word word.CloseSquare Square word.CloseRound Round (Word (close_word close) ∷ rest) ≡ Some (close, rest)
close_again Square rest = refl
close_again Round rest = refl

interval_again : (bracket : Bracket) (low high : WrittenEnd) (close : Bracket) (rest : List NumberToken) → range_of (range_tokens (Interval bracket low high close) ++ rest) ≡ Some (Interval bracket low high close, rest)
interval_again Square low high close rest = rw (end_again low (Word word.Comma ∷ end_token high ∷ Word (close_word close) ∷ rest), end_again high (Word (close_word close) ∷ rest), close_again close rest) refl
interval_again Round low high close rest = rw (end_again low (Word word.Comma ∷ end_token high ∷ Word (close_word close) ∷ rest), end_again high (Word (close_word close) ∷ rest), close_again close rest) refl

compare_again : (o : Order) (n : List ℕ) (more : List Compared) (rest : List NumberToken) → Ends rest → range_of (Word (order_word o) ∷ Literal n ∷ (and_tokens more ++ rest)) ≡ Some (Compare (record { comparison = o; number = n }) more, rest)
compare_again order.Less n more rest h = rw (further_again more rest h) refl
compare_again order.AtMost n more rest h = rw (further_again more rest h) refl
compare_again order.Greater n more rest h = rw (further_again more rest h) refl
compare_again order.AtLeast n more rest h = rw (further_again more rest h) refl

range_again : (r : NumberRange) (rest : List NumberToken) → Ends rest → range_of (range_tokens r ++ rest) ≡ Some (r, rest)
range_again (Is n) rest h = rw (no_to rest h) refl
range_again (From n) rest h = rw (no_number rest h) refl
range_again (UpTo n) rest h = refl
range_again (Between m n) rest h = refl
range_again (Compare c more) rest h = compare_again c.comparison c.number more rest h
range_again (Interval bracket low high close) rest h = interval_again bracket low high close rest

-- no range begins with `NOT` or `NULL`
no_word : (w : NumberWord) (r : NumberRange) (rest : List NumberToken) → (w ≡ word.Not) ⊎ (w ≡ word.Null) → behind_word w (range_tokens r ++ rest) ≡ None
no_word w (Is n) rest h = refl
no_word w (From n) rest h = refl
no_word w (Between m n) rest h = refl
no_word w (UpTo n) rest (inl e) = rw e refl
no_word w (UpTo n) rest (inr e) = rw e refl
no_word w (Compare c more) rest h = by_order c.comparison h
  where
    by_order : (o : Order) → (w ≡ word.Not) ⊎ (w ≡ word.Null) → behind_word w (Word (order_word o) ∷ Literal c.number ∷ (and_tokens more ++ rest)) ≡ None
    by_order order.Less (inl e) = rw e refl
    by_order order.Less (inr e) = rw e refl
    by_order order.AtMost (inl e) = rw e refl
    by_order order.AtMost (inr e) = rw e refl
    by_order order.Greater (inl e) = rw e refl
    by_order order.Greater (inr e) = rw e refl
    by_order order.AtLeast (inl e) = rw e refl
    by_order order.AtLeast (inr e) = rw e refl
no_word w (Interval Square low high close) rest (inl e) = rw e refl
no_word w (Interval Square low high close) rest (inr e) = rw e refl
no_word w (Interval Round low high close) rest (inl e) = rw e refl
no_word w (Interval Round low high close) rest (inr e) = rw e refl

tested_again : (negated : Bool) (r : NumberRange) (rest : List NumberToken) → Ends rest → tested negated (range_tokens r ++ rest) ≡ Some (Range negated r, rest)
tested_again negated r rest h = rw (no_word word.Null r rest (inr refl), range_again r rest h) refl

item_again : (x : NumberItem) (rest : List NumberToken) → Ends rest → item_of (item_tokens x ++ rest) ≡ Some (x, rest)
item_again (Range true r) rest h = rw (tested_again true r rest h) refl
item_again (Range false r) rest h = rw (no_word word.Not r rest (inl refl), tested_again false r rest h) refl
item_again (Null true) rest h = refl
item_again (Null false) rest h = refl
item_again (Unlike Exclamation n) rest h = refl
item_again (Unlike Angles n) rest h = refl

further_item_again : (x : FurtherItem) (rest : List NumberToken) → Ends rest → further_item (more_tokens x ++ rest) ≡ Some (x, rest)
further_item_again x rest h = by_word x.separator x.item (item_again x.item rest h)
  where
    by_word : (b : Separator) (item : NumberItem) → item_of (item_tokens item ++ rest) ≡ Some (item, rest) → further_item (Word (between_word b) ∷ (item_tokens item ++ rest)) ≡ Some (record { separator = b; item = item }, rest)
    by_word separator.Or item e = rw e refl
    by_word separator.Comma item e = rw e refl

pub further_ends : (more : List FurtherItem) → Ends (further_tokens more_tokens more)
further_ends [] = tt
further_ends (x ∷ more) = by_word x.separator
  where
    by_word : (b : Separator) → Ends (Word (between_word b) ∷ (item_tokens x.item ++ further_tokens more_tokens more))
    by_word separator.Or = tt
    by_word separator.Comma = tt

list_again : (more : List FurtherItem) (fuel : List NumberToken) → length (further_tokens more_tokens more) ≤ length fuel → further_from fuel (further_tokens more_tokens more) ≡ Some more
list_again [] [] h = refl
list_again [] (f ∷ fuel) h = refl
list_again (x ∷ more) [] h = absurd (omega (arith, h))
list_again (x ∷ more) (f ∷ fuel) h =
    let rest = further_tokens more_tokens more in
    let first = further_item_again x rest (further_ends more) in
    let fits : length rest ≤ length fuel = omega (arith, h, length-append (item_tokens x.item) rest) in
    rw first (ap (option_map (λ items. x ∷ items)) (list_again more fuel fits))

-- an item has a token
record IsBegun (tokens : List NumberToken) : Type 0 where
  head : NumberToken
  tail : List NumberToken
  is : tokens ≡ head ∷ tail

range_begun : (r : NumberRange) (rest : List NumberToken) → IsBegun (range_tokens r ++ rest)
range_begun (Is n) rest = record { head = Literal n; tail = rest; is = refl }
range_begun (From n) rest = record { head = Literal n; tail = Word word.To ∷ rest; is = refl }
range_begun (UpTo n) rest = record { head = Word word.To; tail = Literal n ∷ rest; is = refl }
range_begun (Between m n) rest = record { head = Literal m; tail = Word word.To ∷ Literal n ∷ rest; is = refl }
range_begun (Compare c more) rest = record { head = Word (order_word c.comparison); tail = Literal c.number ∷ (and_tokens more ++ rest); is = refl }
range_begun (Interval bracket low high close) rest = record { head = Word (open_word bracket); tail = end_token low ∷ Word word.Comma ∷ end_token high ∷ Word (close_word close) ∷ rest; is = refl }

item_begun : (x : NumberItem) (rest : List NumberToken) → IsBegun (item_tokens x ++ rest)
item_begun (Range true r) rest = record { head = Word word.Not; tail = range_tokens r ++ rest; is = refl }
item_begun (Range false r) rest = range_begun r rest
item_begun (Null true) rest = record { head = Word word.Not; tail = Word word.Null ∷ rest; is = refl }
item_begun (Null false) rest = record { head = Word word.Null; tail = rest; is = refl }
item_begun (Unlike sign n) rest = record { head = Word (unlike_word sign); tail = Literal n ∷ rest; is = refl }

abbrev items_from : List NumberToken → Option (Option NumberItems)
items_from tokens = option_and_then (λ x. option_map (λ more. Some (record { first = x.0; more = more })) (further_from tokens x.1)) (item_of tokens)

begun_items : (tokens : List NumberToken) → IsBegun tokens → items_of tokens ≡ items_from tokens
begun_items tokens b = ap items_of b.is ∙ ap items_from (sym b.is)

pub items_again : (items : Option NumberItems) → items_of (number_tokens items) ≡ Some items
items_again None = refl
items_again (Some items) =
    let rest = further_tokens more_tokens items.more in
    let tokens = item_tokens items.first ++ rest in
    let first = item_again items.first rest (further_ends items.more) in
    let fits : length rest ≤ length tokens = omega (arith, length-append (item_tokens items.first) rest) in
    begun_items tokens (item_begun items.first rest) ∙ rw first (ap (option_map (λ more. Some (record { first = items.first; more = more }))) (list_again items.more tokens fits))

-- ---- what is read of tokens are their items

same_word : (w v : NumberWord) → is_same_word w v ≡ true → w ≡ v
same_word word.AtMost word.AtMost h = refl
same_word word.AtLeast word.AtLeast h = refl
same_word word.Unlike word.Unlike h = refl
same_word word.Unequal word.Unequal h = refl
same_word word.Less word.Less h = refl
same_word word.Greater word.Greater h = refl
same_word word.Comma word.Comma h = refl
same_word word.Or word.Or h = refl
same_word word.And word.And h = refl
same_word word.Not word.Not h = refl
same_word word.Null word.Null h = refl
same_word word.To word.To h = refl
same_word word.OpenSquare word.OpenSquare h = refl
same_word word.OpenRound word.OpenRound h = refl
same_word word.CloseSquare word.CloseSquare h = refl
same_word word.CloseRound word.CloseRound h = refl
same_word word.Inf word.Inf h = refl
same_word word.MinusInf word.MinusInf h = refl
same_word w v h = absurd (false≢true h)

word_before : (w : NumberWord) (tokens rest : List NumberToken) → behind_word w tokens ≡ Some rest → tokens ≡ Word w ∷ rest
word_before w [] rest e = absurd (none_some e)
word_before w (Literal n ∷ tokens) rest e = absurd (none_some e)
word_before w (Word v ∷ tokens) rest e =
    elim (is_same_word w v) as (λ b. is_same_word w v ≡ b → (if b then Some tokens else None) ≡ Some rest → Word v ∷ tokens ≡ Word w ∷ rest) [
      | true ↦ λ same e. ap (λ x. Word x ∷ tokens) (sym (same_word w v same)) ∙ ap (λ x. Word w ∷ x) (some_is tokens rest e)
      | false ↦ λ _ e. absurd (none_some e)
    ] refl e

number_before : (tokens : List NumberToken) (n : List ℕ × List NumberToken) → first_number tokens ≡ Some n → tokens ≡ Literal n.0 ∷ n.1
number_before [] n e = absurd (none_some e)
number_before (Word w ∷ tokens) n e = absurd (none_some e)
number_before (Literal m ∷ tokens) n e = ap (λ p. Literal p.0 ∷ p.1) (some_is (m, tokens) n e)

order_is : (w : NumberWord) (o : Order) → order_of w ≡ Some o → w ≡ order_word o
order_is word.Less o e = ap order_word (some_is order.Less o e)
order_is word.AtMost o e = ap order_word (some_is order.AtMost o e)
order_is word.Greater o e = ap order_word (some_is order.Greater o e)
order_is word.AtLeast o e = ap order_word (some_is order.AtLeast o e)
order_is w o e = absurd (none_some e)

order_before : (tokens : List NumberToken) (o : Order × List NumberToken) → first_order tokens ≡ Some o → tokens ≡ Word (order_word o.0) ∷ o.1
order_before [] o e = absurd (none_some e)
order_before (Literal n ∷ tokens) o e = absurd (none_some e)
order_before (Word w ∷ tokens) o e =
    map_before (λ c. (c, tokens)) (order_of w) o e (λ c is same. ap (λ x. Word x ∷ tokens) (order_is w c is) ∙ ap (λ p. Word (order_word p.0) ∷ p.1) same)

compared_before : (tokens : List NumberToken) (c : Compared × List NumberToken) → first_compared tokens ≡ Some c → tokens ≡ Word (order_word c.0.comparison) ∷ Literal c.0.number ∷ c.1
compared_before tokens c e =
    then_before (λ o. option_map (λ n. (record { comparison = o.0; number = n.0 }, n.1)) (first_number o.1)) (first_order tokens) c e (λ o is e.
    map_before (λ n. (record { comparison = o.0; number = n.0 }, n.1)) (first_number o.1) c e (λ n found same.
    order_before tokens o is ∙ ap (λ z. Word (order_word o.0) ∷ z) (number_before o.1 n found) ∙ ap (λ p. Word (order_word p.0.comparison) ∷ Literal p.0.number ∷ p.1) same))

and_before : (t u v : NumberToken) (c : Compared) (tokens : List NumberToken) → and_compared t u v ≡ Some c → t ∷ u ∷ v ∷ tokens ≡ Word word.And ∷ Word (order_word c.comparison) ∷ Literal c.number ∷ tokens
and_before (Word w) (Word x) (Literal n) c tokens e =
    elim (is_same_word word.And w) as (λ b. is_same_word word.And w ≡ b → (if b then option_map (λ o. record { comparison = o; number = n }) (order_of x) else None) ≡ Some c → Word w ∷ Word x ∷ Literal n ∷ tokens ≡ Word word.And ∷ Word (order_word c.comparison) ∷ Literal c.number ∷ tokens) [
      | true ↦ λ same e.
          map_before (λ o. record { comparison = o; number = n }) (order_of x) c e (λ o is made.
          ap (λ z. Word z ∷ Word x ∷ Literal n ∷ tokens) (sym (same_word word.And w same)) ∙ ap (λ z. Word word.And ∷ Word z ∷ Literal n ∷ tokens) (order_is x o is) ∙ ap (λ z. Word word.And ∷ Word (order_word z.comparison) ∷ Literal z.number ∷ tokens) made)
      | false ↦ λ _ e. absurd (none_some e)
    ] refl e
and_before (Word w) (Word x) (Word y) c tokens e = absurd (none_some e)
and_before (Word w) (Literal m) v c tokens e = absurd (none_some e)
and_before (Literal m) u v c tokens e = absurd (none_some e)

further_before : (tokens : List NumberToken) → tokens ≡ and_tokens (further_compared tokens).0 ++ (further_compared tokens).1
further_before [] = refl
further_before (t ∷ []) = refl
further_before (t ∷ u ∷ []) = refl
further_before (t ∷ u ∷ v ∷ tokens) =
    by_compared (further_before tokens)
  where
    by_compared : tokens ≡ and_tokens (further_compared tokens).0 ++ (further_compared tokens).1 → t ∷ u ∷ v ∷ tokens ≡ and_tokens (further_compared (t ∷ u ∷ v ∷ tokens)).0 ++ (further_compared (t ∷ u ∷ v ∷ tokens)).1
    by_compared rest =
        elim (and_compared t u v) as (λ o. and_compared t u v ≡ o → t ∷ u ∷ v ∷ tokens ≡ and_tokens (with_compared o (further_compared tokens) (t ∷ u ∷ v ∷ tokens)).0 ++ (with_compared o (further_compared tokens) (t ∷ u ∷ v ∷ tokens)).1) [
          | None ↦ λ _. refl
          | Some c ↦ λ is. and_before t u v c tokens is ∙ ap (λ z. Word word.And ∷ Word (order_word c.comparison) ∷ Literal c.number ∷ z) rest
        ] refl

one_before : {A : Type 0} (word_of : A → NumberWord) (a b : A) (tokens : List NumberToken) (x : A × List NumberToken) → one_word (word_of a) a (word_of b) b tokens ≡ Some x → tokens ≡ Word (word_of x.0) ∷ x.1
one_before word_of a b tokens x e =
    or_before (option_map (λ rest. (a, rest)) (behind_word (word_of a) tokens)) (option_map (λ rest. (b, rest)) (behind_word (word_of b) tokens)) x e
    (λ e. map_before (λ rest. (a, rest)) (behind_word (word_of a) tokens) x e (λ rest is same. word_before (word_of a) tokens rest is ∙ ap (λ p. Word (word_of p.0) ∷ p.1) same))
    (λ e. map_before (λ rest. (b, rest)) (behind_word (word_of b) tokens) x e (λ rest is same. word_before (word_of b) tokens rest is ∙ ap (λ p. Word (word_of p.0) ∷ p.1) same))

end_before : (tokens : List NumberToken) (x : WrittenEnd × List NumberToken) → first_end tokens ≡ Some x → tokens ≡ end_token x.0 ∷ x.1
end_before tokens x e =
    or_before (option_map (λ n. (end.Number n.0, n.1)) (first_number tokens)) (option_or (option_map (λ rest. (end.Inf, rest)) (behind_word word.Inf tokens)) (option_map (λ rest. (end.MinusInf, rest)) (behind_word word.MinusInf tokens))) x e
    (λ e. map_before (λ n. (end.Number n.0, n.1)) (first_number tokens) x e (λ n is same. number_before tokens n is ∙ ap (λ p. end_token p.0 ∷ p.1) same))
    (λ e. or_before (option_map (λ rest. (end.Inf, rest)) (behind_word word.Inf tokens)) (option_map (λ rest. (end.MinusInf, rest)) (behind_word word.MinusInf tokens)) x e
    (λ e. map_before (λ rest. (end.Inf, rest)) (behind_word word.Inf tokens) x e (λ rest is same. word_before word.Inf tokens rest is ∙ ap (λ p. end_token p.0 ∷ p.1) same))
    (λ e. map_before (λ rest. (end.MinusInf, rest)) (behind_word word.MinusInf tokens) x e (λ rest is same. word_before word.MinusInf tokens rest is ∙ ap (λ p. end_token p.0 ∷ p.1) same)))

after_before : (n : List ℕ) (tokens : List NumberToken) (r : NumberRange × List NumberToken) → after_number n tokens (behind_word word.To tokens) ≡ r → Literal n ∷ tokens ≡ range_tokens r.0 ++ r.1
after_before n tokens r e =
    elim (behind_word word.To tokens) as (λ o. behind_word word.To tokens ≡ o → after_number n tokens o ≡ r → Literal n ∷ tokens ≡ range_tokens r.0 ++ r.1) [
      | None ↦ λ _ e. ap (λ p. range_tokens p.0 ++ p.1) e
      | Some rest ↦ λ to e.
          elim (first_number rest) as (λ o. first_number rest ≡ o → after_to n rest o ≡ r → Literal n ∷ tokens ≡ range_tokens r.0 ++ r.1) [
            | None ↦ λ _ e. ap (λ z. Literal n ∷ z) (word_before word.To tokens rest to) ∙ ap (λ p. range_tokens p.0 ++ p.1) e
            | Some m ↦ λ is e. ap (λ z. Literal n ∷ z) (word_before word.To tokens rest to) ∙ ap (λ z. Literal n ∷ Word word.To ∷ z) (number_before rest m is) ∙ ap (λ p. range_tokens p.0 ++ p.1) e
          ] refl e
    ] refl e

interval_before : (tokens : List NumberToken) (r : NumberRange × List NumberToken) → range_interval tokens ≡ Some r → tokens ≡ range_tokens r.0 ++ r.1
interval_before tokens r e =
    then_before (λ left. option_and_then (λ low. interval_end left.0 low.0 low.1) (first_end left.1)) (one_word word.OpenSquare Square word.OpenRound Round tokens) r e (λ left opened e.
    then_before (λ low. interval_end left.0 low.0 low.1) (first_end left.1) r e (λ low first e.
    then_before (λ rest. option_and_then (λ high. option_map (λ close. (Interval left.0 low.0 high.0 close.0, close.1)) (one_word word.CloseSquare Square word.CloseRound Round high.1)) (first_end rest)) (behind_word word.Comma low.1) r e (λ rest comma e.
    then_before (λ high. option_map (λ close. (Interval left.0 low.0 high.0 close.0, close.1)) (one_word word.CloseSquare Square word.CloseRound Round high.1)) (first_end rest) r e (λ high second e.
    map_before (λ close. (Interval left.0 low.0 high.0 close.0, close.1)) (one_word word.CloseSquare Square word.CloseRound Round high.1) r e (λ close closed same.
    one_before open_word Square Round tokens left opened
    ∙ ap (λ z. Word (open_word left.0) ∷ z) (end_before left.1 low first)
    ∙ ap (λ z. Word (open_word left.0) ∷ end_token low.0 ∷ z) (word_before word.Comma low.1 rest comma)
    ∙ ap (λ z. Word (open_word left.0) ∷ end_token low.0 ∷ Word word.Comma ∷ z) (end_before rest high second)
    ∙ ap (λ z. Word (open_word left.0) ∷ end_token low.0 ∷ Word word.Comma ∷ end_token high.0 ∷ z) (one_before close_word Square Round high.1 close closed)
    ∙ ap (λ p. range_tokens p.0 ++ p.1) same)))))

range_before : (tokens : List NumberToken) (r : NumberRange × List NumberToken) → range_of tokens ≡ Some r → tokens ≡ range_tokens r.0 ++ r.1
range_before tokens r e =
    or_before (range_from_number tokens) (option_or (range_up_to tokens) (option_or (range_compared tokens) (range_interval tokens))) r e
    (λ e. map_before (λ n. after_number n.0 n.1 (behind_word word.To n.1)) (first_number tokens) r e (λ n is same. number_before tokens n is ∙ after_before n.0 n.1 r same))
    (λ e. or_before (range_up_to tokens) (option_or (range_compared tokens) (range_interval tokens)) r e
    (λ e. then_before (λ rest. option_map (λ n. (UpTo n.0, n.1)) (first_number rest)) (behind_word word.To tokens) r e (λ rest to e.
    map_before (λ n. (UpTo n.0, n.1)) (first_number rest) r e (λ n is same. word_before word.To tokens rest to ∙ ap (λ z. Word word.To ∷ z) (number_before rest n is) ∙ ap (λ p. range_tokens p.0 ++ p.1) same)))
    (λ e. or_before (range_compared tokens) (range_interval tokens) r e
    (λ e. map_before (λ c. (Compare c.0 (further_compared c.1).0, (further_compared c.1).1)) (first_compared tokens) r e (λ c is same.
    compared_before tokens c is ∙ ap (λ z. Word (order_word c.0.comparison) ∷ Literal c.0.number ∷ z) (further_before c.1) ∙ ap (λ p. range_tokens p.0 ++ p.1) same))
    (λ e. interval_before tokens r e)))

null_is : (negated : Bool) (rest : List NumberToken) → (if negated then Word word.Not ∷ Word word.Null ∷ rest else Word word.Null ∷ rest) ≡ item_tokens (Null negated) ++ rest
null_is true rest = refl
null_is false rest = refl

range_is : (negated : Bool) (r : NumberRange) (rest : List NumberToken) → (if negated then Word word.Not ∷ (range_tokens r ++ rest) else range_tokens r ++ rest) ≡ item_tokens (Range negated r) ++ rest
range_is true r rest = refl
range_is false r rest = refl

abbrev with_not : Bool → List NumberToken → List NumberToken
with_not negated tokens = if negated then Word word.Not ∷ tokens else tokens

tested_before : (negated : Bool) (tokens : List NumberToken) (x : NumberItem × List NumberToken) → tested negated tokens ≡ Some x → with_not negated tokens ≡ item_tokens x.0 ++ x.1
tested_before negated tokens x e =
    or_before (option_map (λ rest. (Null negated, rest)) (behind_word word.Null tokens)) (option_map (λ r. (Range negated r.0, r.1)) (range_of tokens)) x e
    (λ e. map_before (λ rest. (Null negated, rest)) (behind_word word.Null tokens) x e (λ rest is same. ap (with_not negated) (word_before word.Null tokens rest is) ∙ null_is negated rest ∙ ap (λ p. item_tokens p.0 ++ p.1) same))
    (λ e. map_before (λ r. (Range negated r.0, r.1)) (range_of tokens) x e (λ r is same. ap (with_not negated) (range_before tokens r is) ∙ range_is negated r.0 r.1 ∙ ap (λ p. item_tokens p.0 ++ p.1) same))

differing_before : (tokens : List NumberToken) (x : NumberItem × List NumberToken) → differing tokens ≡ Some x → tokens ≡ item_tokens x.0 ++ x.1
differing_before tokens x e =
    then_before (λ sign. option_map (λ n. (Unlike sign.0 n.0, n.1)) (first_number sign.1)) (one_word word.Unequal Exclamation word.Unlike Angles tokens) x e (λ sign is e.
    map_before (λ n. (Unlike sign.0 n.0, n.1)) (first_number sign.1) x e (λ n found same.
    one_before unlike_word Exclamation Angles tokens sign is ∙ ap (λ z. Word (unlike_word sign.0) ∷ z) (number_before sign.1 n found) ∙ ap (λ p. item_tokens p.0 ++ p.1) same))

item_before : (tokens : List NumberToken) (x : NumberItem × List NumberToken) → item_of tokens ≡ Some x → tokens ≡ item_tokens x.0 ++ x.1
item_before tokens x e =
    or_before (option_and_then (tested true) (behind_word word.Not tokens)) (option_or (tested false tokens) (differing tokens)) x e
    (λ e. then_before (tested true) (behind_word word.Not tokens) x e (λ rest is e. word_before word.Not tokens rest is ∙ tested_before true rest x e))
    (λ e. or_before (tested false tokens) (differing tokens) x e (λ e. tested_before false tokens x e) (λ e. differing_before tokens x e))

further_item_before : (tokens : List NumberToken) (x : FurtherItem × List NumberToken) → further_item tokens ≡ Some x → tokens ≡ more_tokens x.0 ++ x.1
further_item_before tokens x e =
    then_before (λ before. option_map (λ i. (record { separator = before.0; item = i.0 }, i.1)) (item_of before.1)) (one_word word.Or separator.Or word.Comma separator.Comma tokens) x e (λ before is e.
    map_before (λ i. (record { separator = before.0; item = i.0 }, i.1)) (item_of before.1) x e (λ i found same.
    one_before between_word separator.Or separator.Comma tokens before is ∙ ap (λ z. Word (between_word before.0) ∷ z) (item_before before.1 i found) ∙ ap (λ p. more_tokens p.0 ++ p.1) same))

list_before : (fuel tokens : List NumberToken) (more : List FurtherItem) → further_from fuel tokens ≡ Some more → tokens ≡ further_tokens more_tokens more
list_before [] [] more e = ap (further_tokens more_tokens) (some_is [] more e)
list_before [] (t ∷ tokens) more e = absurd (none_some e)
list_before (f ∷ fuel) [] more e = ap (further_tokens more_tokens) (some_is [] more e)
list_before (f ∷ fuel) (t ∷ tokens) more e =
    elim (further_item (t ∷ tokens)) as (λ o. further_item (t ∷ tokens) ≡ o → then_further o (further_from fuel) ≡ Some more → t ∷ tokens ≡ further_tokens more_tokens more) [
      | None ↦ λ _ e. absurd (none_some e)
      | Some x ↦ λ is e.
          map_before (λ items. x.0 ∷ items) (further_from fuel x.1) more e (λ items found same.
          further_item_before (t ∷ tokens) x is ∙ ap (λ z. more_tokens x.0 ++ z) (list_before fuel x.1 items found) ∙ ap (further_tokens more_tokens) same)
    ] refl e

pub items_before : (tokens : List NumberToken) (items : Option NumberItems) → items_of tokens ≡ Some items → tokens ≡ number_tokens items
items_before [] items e = ap number_tokens (some_is None items e)
items_before (t ∷ tokens) items e =
    then_before (λ x. option_map (λ more. Some (record { first = x.0; more = more })) (further_from (t ∷ tokens) x.1)) (item_of (t ∷ tokens)) items e (λ x first e.
    map_before (λ more. Some (record { first = x.0; more = more })) (further_from (t ∷ tokens) x.1) items e (λ more found same.
    item_before (t ∷ tokens) x first ∙ ap (λ z. item_tokens x.0 ++ z) (list_before (t ∷ tokens) x.1 more found) ∙ ap number_tokens same))
