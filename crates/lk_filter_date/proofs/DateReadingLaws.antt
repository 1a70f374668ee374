-- Filters of dates: the tokens of items are read as these items, and what is read of tokens are their items.
use Rattle.std.proofs.Common.{◌≡◌, ℕ, ◌≤◌, true, false, List, [], ◌∷◌, ◌++◌, length, Option, Some, None, option_map, refl, sym, ap, ◌∙◌, length-append, arith}
use Rattle.lk_grammar.specs.declared.literals.Token.TheVariants.{Word, Literal}
use Rattle.lk_grammar.specs.Listed.{further_tokens}
use Rattle.lk_filter_date.specs.Dates.{DateToken, item_tokens, more_tokens, date_tokens}
use Rattle.lk_filter_date.specs.DateReading.{item_of_literal, item_of_word, item_of, further_item, then_further, further_from, items_of}
use Rattle.lk_filter_date.specs.declared.words.DateWord.{DateWord}
use Rattle.lk_filter_date.specs.declared.words.Plurality.TheVariants.{Singular}
use Rattle.lk_filter_date.specs.declared.words.DateWord.TheVariants as word
use Rattle.lk_filter_date.specs.declared.items.DateItem.{DateItem}
use Rattle.lk_filter_date.specs.declared.items.DateItem.TheVariants as item
use Rattle.lk_grammar.proofs.ReadingLaws.{none_some, some_is, map_before}

-- ---- the tokens of an item are read as it

-- nothing comes, or a comma
abbrev pub Ends : List DateToken → Type 0
Ends [] = Unit {0}
Ends (Word word.Comma ∷ tokens) = Unit {0}
Ends tokens = ⊥

item_again : (x : DateItem) (rest : List DateToken) → Ends rest → item_of (item_tokens x ++ rest) ≡ Some (x, rest)
item_again (item.In date) [] h = refl
item_again (item.In date) (Word word.Comma ∷ rest) h = refl
item_again (item.In date) (t ∷ rest) h = absurd h
item_again (item.Before date) rest h = refl
item_again (item.After date) rest h = refl
item_again (item.FromTo from upto) rest h = refl
item_again item.Today rest h = refl
item_again item.Yesterday rest h = refl
item_again (item.This period) rest h = refl
item_again (item.Last period) rest h = refl
item_again (item.Recent count period plurality) [] h = refl
item_again (item.Recent count period plurality) (Word word.Comma ∷ rest) h = refl
item_again (item.Recent count period plurality) (t ∷ rest) h = absurd h
item_again (item.Ago count period plurality) rest h = refl
item_again (item.Null true) rest h = refl
item_again (item.Null false) rest h = refl

pub further_ends : (more : List DateItem) → Ends (further_tokens more_tokens more)
further_ends [] = tt
further_ends (x ∷ more) = tt

list_again : (more : List DateItem) (fuel : List DateToken) → length (further_tokens more_tokens more) ≤ length fuel → further_from fuel (further_tokens more_tokens more) ≡ Some more
list_again [] [] h = refl
list_again [] (f ∷ fuel) h = refl
list_again (x ∷ more) [] h = absurd (omega (arith, h))
list_again (x ∷ more) (f ∷ fuel) h =
    let rest = further_tokens more_tokens more in
    let first = item_again x rest (further_ends more) in
    let fits : length rest ≤ length fuel = omega (arith, h, length-append (item_tokens x) rest) in
    rw first (ap (option_map (λ items. x ∷ items)) (list_again more fuel fits))

-- an item has a token
record IsBegun (tokens : List DateToken) : Type 0 where
  head : DateToken
  tail : List DateToken
  is : tokens ≡ head ∷ tail

item_begun : (x : DateItem) (rest : List DateToken) → IsBegun (item_tokens x ++ rest)
item_begun (item.In date) rest = record { head = _; tail = _; is = refl }
item_begun (item.Before date) rest = record { head = _; tail = _; is = refl }
item_begun (item.After date) rest = record { head = _; tail = _; is = refl }
item_begun (item.FromTo from upto) rest = record { head = _; tail = _; is = refl }
item_begun item.Today rest = record { head = _; tail = _; is = refl }
item_begun item.Yesterday rest = record { head = _; tail = _; is = refl }
item_begun (item.This period) rest = record { head = _; tail = _; is = refl }
item_begun (item.Last period) rest = record { head = _; tail = _; is = refl }
item_begun (item.Recent count period plurality) rest = record { head = _; tail = _; is = refl }
item_begun (item.Ago count period plurality) rest = record { head = _; tail = _; is = refl }
item_begun (item.Null true) rest = record { head = _; tail = _; is = refl }
item_begun (item.Null false) rest = record { head = _; tail = _; is = refl }

abbrev items_from : List DateToken → Option (List DateItem)
items_from tokens = then_further (item_of tokens) (further_from tokens)

begun_items : (tokens : List DateToken) → IsBegun tokens → items_of tokens ≡ items_from tokens
begun_items tokens b = ap items_of b.is ∙ ap items_from (sym b.is)

pub items_again : (items : List DateItem) → items_of (date_tokens items) ≡ Some items
items_again [] = refl
items_again (x ∷ more) =
    let rest = further_tokens more_tokens more in
    let tokens = item_tokens x ++ rest in
    let first = item_again x rest (further_ends more) in
    let fits : length rest ≤ length tokens = omega (arith, length-append (item_tokens x) rest) in
    begun_items tokens (item_begun x rest) ∙ rw first (ap (option_map (λ items. x ∷ items)) (list_again more tokens fits))

pub items_behind : (tokens : List DateToken) (x : DateItem × List DateToken) → item_of tokens ≡ Some x → items_of tokens ≡ option_map (λ more. x.0 ∷ more) (further_from tokens x.1)
items_behind [] x e = absurd (none_some e)
items_behind (t ∷ tokens) x e = rw e refl

-- ---- what is read of tokens are their items

abbrev spelled_by : DateItem × List DateToken → List DateToken
spelled_by x = item_tokens x.0 ++ x.1

literal_before : (text : List ℕ) (tokens : List DateToken) → Literal text ∷ tokens ≡ spelled_by (item_of_literal text tokens)
literal_before text (Word word.To ∷ Literal upto ∷ tokens) = refl
literal_before text (Word (word.Unit period plurality) ∷ Word word.Ago ∷ tokens) = refl
literal_before text (Word (word.Unit period plurality) ∷ tokens) = refl
literal_before text tokens = refl

word_before : (w : DateWord) (tokens : List DateToken) (x : DateItem × List DateToken) → item_of_word w tokens ≡ Some x → Word w ∷ tokens ≡ spelled_by x
word_before word.Today tokens x e = ap spelled_by (some_is (item.Today, tokens) x e)
word_before word.Yesterday tokens x e = ap spelled_by (some_is (item.Yesterday, tokens) x e)
word_before word.Null tokens x e = ap spelled_by (some_is (item.Null false, tokens) x e)
word_before word.Before (Literal date ∷ tokens) x e = ap spelled_by (some_is (item.Before date, tokens) x e)
word_before word.After (Literal date ∷ tokens) x e = ap spelled_by (some_is (item.After date, tokens) x e)
word_before word.This (Word (word.Unit period Singular) ∷ tokens) x e = ap spelled_by (some_is (item.This period, tokens) x e)
word_before word.Last (Word (word.Unit period Singular) ∷ tokens) x e = ap spelled_by (some_is (item.Last period, tokens) x e)
word_before word.Not (Word word.Null ∷ tokens) x e = ap spelled_by (some_is (item.Null true, tokens) x e)
word_before w tokens x e = absurd (none_some e)

item_before : (tokens : List DateToken) (x : DateItem × List DateToken) → item_of tokens ≡ Some x → tokens ≡ spelled_by x
item_before [] x e = absurd (none_some e)
item_before (Literal text ∷ tokens) x e = literal_before text tokens ∙ ap spelled_by (some_is (item_of_literal text tokens) x e)
item_before (Word w ∷ tokens) x e = word_before w tokens x e

further_item_before : (tokens : List DateToken) (x : DateItem × List DateToken) → further_item tokens ≡ Some x → tokens ≡ Word word.Comma ∷ spelled_by x
further_item_before (Word word.Comma ∷ tokens) x e = ap (λ z. Word word.Comma ∷ z) (item_before tokens x e)
further_item_before tokens x e = absurd (none_some e)

list_before : (fuel tokens : List DateToken) (more : List DateItem) → further_from fuel tokens ≡ Some more → tokens ≡ further_tokens more_tokens more
list_before [] [] more e = ap (further_tokens more_tokens) (some_is [] more e)
list_before [] (t ∷ tokens) more e = absurd (none_some e)
list_before (f ∷ fuel) [] more e = ap (further_tokens more_tokens) (some_is [] more e)
list_before (f ∷ fuel) (t ∷ tokens) more e =
    elim (further_item (t ∷ tokens)) as (λ o. further_item (t ∷ tokens) ≡ o → then_further o (further_from fuel) ≡ Some more → t ∷ tokens ≡ further_tokens more_tokens more) [
      | None ↦ λ _ e. absurd (none_some e)
      | Some x ↦ λ is e.
          map_before (λ items. x.0 ∷ items) (further_from fuel x.1) more e (λ items found same.
          further_item_before (t ∷ tokens) x is ∙ ap (λ z. more_tokens x.0 ++ z) (list_before fuel x.1 items found) ∙ ap (further_tokens more_tokens) same)
    ] refl e

pub items_before : (tokens : List DateToken) (items : List DateItem) → items_of tokens ≡ Some items → tokens ≡ date_tokens items
items_before [] items e = ap date_tokens (some_is [] items e)
items_before (t ∷ tokens) items e =
    elim (item_of (t ∷ tokens)) as (λ o. item_of (t ∷ tokens) ≡ o → then_further o (further_from (t ∷ tokens)) ≡ Some items → t ∷ tokens ≡ date_tokens items) [
      | None ↦ λ _ e. absurd (none_some e)
      | Some x ↦ λ is e.
          map_before (λ more. x.0 ∷ more) (further_from (t ∷ tokens) x.1) items e (λ more found same.
          item_before (t ∷ tokens) x is ∙ ap (λ z. item_tokens x.0 ++ z) (list_before (t ∷ tokens) x.1 more found) ∙ ap date_tokens same)
    ] refl e
