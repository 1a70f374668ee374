-- What a filter of texts spells is of its kind.
use Rattle.std.proofs.Common.{◌≡◌, ℕ, Bool, true, false, List, [], ◌∷◌, ◌++◌, Option, Some, None, map, refl, ap, subst}
use Rattle.std.specs.Prelude.{if◌then◌else◌, codes}
use Rattle.std.specs.List.{AllByRecursion, list_all}
use Rattle.std.proofs.lemmas.Bool.{and_from, false≢true}
use Rattle.lk_grammar.specs.Listed.{further_tokens}
use Rattle.lk_grammar.specs.Literals.{IsLiteralOf}
use Rattle.lk_grammar.specs.Tokens.{IsBegun}
use Rattle.lk_grammar.specs.declared.literals.Token.TheVariants.{Word, Literal}
use Rattle.lk_types.specs.Filters.{is_filter_of, is_pattern, is_text_test}
use Rattle.lk_types.specs.declared.expr.Piece.{Piece}
use Rattle.lk_types.specs.declared.filter.Filter.{Filter}
use Rattle.lk_types.specs.declared.filter.Test.TheVariants as test
use Rattle.lk_types.specs.declared.schema.Kind.TheVariants as kind
use Rattle.lk_filter_text.specs.Characters.{plain_form}
use Rattle.lk_filter_text.specs.Texts.{IsTextFilter, IsTextItem, AreTextItems, Part, TextItem, TextItems, TextToken, blank, items, begins_solid, excludes, includes, is_keyword, item_tokens, minus_tokens, more_tokens, part_of, parts_of, pieces_of, spaces, text_test, text_tokens}
use Rattle.lk_filter_text.proofs.CharacterLaws.{character_reader}
use Rattle.lk_query.proofs.PlacedKindLaws.{text_plain}
use Rattle.lk_query.proofs.KindSteps.{plain_filter}

behind : {A : Type 0} (P : A → Type 0) (xs ys : List A) → AllByRecursion P (xs ++ ys) → AllByRecursion P ys
behind P [] ys h = h
behind P (x ∷ xs) ys h = behind P xs ys h.1

before : {A : Type 0} (P : A → Type 0) (xs ys : List A) → AllByRecursion P (xs ++ ys) → AllByRecursion P xs
before P [] ys h = tt
before P (x ∷ xs) ys h = (h.0, before P xs ys h.1)

-- ---- tests

test_from : (null empty : Bool) (pieces : List Piece) → is_pattern pieces ≡ true → is_text_test (if null then test.Null else (if empty then test.Empty else test.Like pieces)) ≡ true
test_from true empty pieces h = refl
test_from false true pieces h = refl
test_from false false pieces h = h

-- the pattern of some tokens has a character
abbrev HasCharacter : List TextToken → Type 0
HasCharacter content = is_pattern (pieces_of content) ≡ true

test_good : (content : List TextToken) → HasCharacter content → is_text_test (text_test content) ≡ true
test_good content h = test_from (is_keyword (codes "null") content) (is_keyword (codes "empty") content) (pieces_of content) h

abbrev ArePatterns : List Part → Type 0
ArePatterns parts = AllByRecursion (λ part. HasCharacter part.1) parts

includes_good : (parts : List Part) → ArePatterns parts → list_all is_text_test (includes parts) ≡ true
includes_good [] h = refl
includes_good ((true, content) ∷ parts) h = includes_good parts h.1
includes_good ((false, content) ∷ parts) h = and_from (is_text_test (text_test content)) (list_all is_text_test (includes parts)) (test_good content h.0) (includes_good parts h.1)

excludes_good : (parts : List Part) → ArePatterns parts → list_all is_text_test (excludes parts) ≡ true
excludes_good [] h = refl
excludes_good ((false, content) ∷ parts) h = excludes_good parts h.1
excludes_good ((true, content) ∷ parts) h = and_from (is_text_test (text_test content)) (list_all is_text_test (excludes parts)) (test_good content h.0) (excludes_good parts h.1)

-- ---- items

abbrev AreCharacters : List TextToken → Type 0
AreCharacters tokens = AllByRecursion (IsLiteralOf plain_form) tokens

some_character : {P : Type 0} → IsBegun [] [] → P
some_character h = absurd (false≢true (ap (λ (bytes : List ℕ). has_some bytes) h.is))
  where
    has_some : List ℕ → Bool
    has_some [] = false
    has_some (b ∷ bytes) = true

content_good : (excluded : Option ℕ) (content : List TextToken) → begins_solid excluded content ≡ true → AreCharacters content → HasCharacter content
content_good None [] begins characters = absurd (false≢true begins)
content_good (Some n) [] begins characters = absurd (false≢true begins)
content_good excluded (Word w ∷ tokens) begins characters = refl
content_good excluded (Literal [] ∷ tokens) begins characters = some_character (character_reader.begun [] characters.0)
content_good excluded (Literal (b ∷ text) ∷ tokens) begins characters = refl

part_good : (x : TextItem) → IsTextItem x → AreCharacters (item_tokens x) → HasCharacter x.content
part_good x is characters =
    let marked = behind (IsLiteralOf plain_form) (spaces x.before) _ characters in
    let solid = behind (IsLiteralOf plain_form) (minus_tokens x.excluded) _ marked in
    content_good x.excluded x.content is.begins (before (IsLiteralOf plain_form) x.content (spaces x.behind) solid)

more_good : (xs : List TextItem) → AllByRecursion IsTextItem xs → AreCharacters (further_tokens more_tokens xs) → ArePatterns (map part_of xs)
more_good [] are characters = tt
more_good (x ∷ xs) are characters = (
  part_good x are.0 (before (IsLiteralOf plain_form) (item_tokens x) (further_tokens more_tokens xs) characters.1),
  more_good xs are.1 (behind (IsLiteralOf plain_form) (item_tokens x) (further_tokens more_tokens xs) characters.1),
)

parts_good : (all : TextItems) → AreTextItems all → AreCharacters (text_tokens all) → ArePatterns (parts_of all)
parts_good (blank n) are characters = tt
parts_good (items x more) are characters = (
  part_good x are.0 (before (IsLiteralOf plain_form) (item_tokens x) (further_tokens more_tokens more) characters),
  more_good more are.1 (behind (IsLiteralOf plain_form) (item_tokens x) (further_tokens more_tokens more) characters),
)

pub text_kind : (f : Filter) (text : List ℕ) → IsTextFilter f text → is_filter_of kind.Text f ≡ true
text_kind f text h =
    let all = h.0 in
    let good = parts_good all h.1.are_items h.1.characters in
    subst (λ g. is_filter_of kind.Text g ≡ true) h.2 (plain_filter kind.Text text_plain text_plain (includes (parts_of all)) (excludes (parts_of all)) (includes_good (parts_of all) good) (excludes_good (parts_of all) good))
