-- Patterns between commas.
use Rattle.std.proofs.Common.{◌≡◌, ℕ, zero, suc, ◌<◌, arith, Bool, true, false, List, [], ◌∷◌, ◌++◌, length, Option, Some, None, option_map, if◌then◌else◌, refl, ap, ◌∙◌, append_assoc}
use Rattle.lk_types.specs.declared.filter.Filter.{Filter}
use Rattle.lk_types.specs.declared.filter.Test.{Test}
use Rattle.lk_filter_text.specs.Texts.{TextToken, Part, text_test, includes, excludes, is_comma}
use Rattle.lk_filter_text.specs.TextReading.{before_comma, behind_comma, with_first, between_commas, read_part, with_part, read_parts, parts_left}

-- a filter that has tests already
abbrev pub grown_filter : List Test → List Test → List Part → Filter
grown_filter include exclude parts = record { include = include ++ includes parts; exclude = exclude ++ excludes parts; relative = false }

abbrev pub size_left : Option (List TextToken) → ℕ
size_left None = zero
size_left (Some tokens) = suc (length tokens)

-- what stands between the commas is what is before the first one, and what stands between those behind it
abbrev pub others : Option (List TextToken) → List (List TextToken)
others None = []
others (Some tokens) = between_commas tokens

pub cut : (tokens : List TextToken) → between_commas tokens ≡ before_comma tokens ∷ others (behind_comma tokens)
cut [] = refl
cut (t ∷ tokens) =
    elim (is_comma t) as (λ c. (if c then [] ∷ between_commas tokens else with_first t (between_commas tokens)) ≡ (if c then [] else t ∷ before_comma tokens) ∷ others (if c then Some tokens else behind_comma tokens)) [
      | true ↦ refl
      | false ↦ ap (with_first t) (cut tokens)
    ]

left_others : (left : Option (List TextToken)) → read_parts (others left) ≡ parts_left left
left_others None = refl
left_others (Some tokens) = refl

-- the parts of tokens are the one before the first comma, and those behind it
pub left_is : (tokens : List TextToken) → parts_left (Some tokens) ≡ with_part (read_part (before_comma tokens)) (parts_left (behind_comma tokens))
left_is tokens = ap read_parts (cut tokens) ∙ ap (with_part (read_part (before_comma tokens))) (left_others (behind_comma tokens))

-- less is left behind a comma
pub less_left : (tokens : List TextToken) → size_left (behind_comma tokens) < suc (length tokens)
less_left [] = omega arith
less_left (t ∷ tokens) =
    elim (is_comma t) as (λ c. size_left (if c then Some tokens else behind_comma tokens) < suc (suc (length tokens))) [
      | true ↦ omega arith
      | false ↦ let less = less_left tokens in omega arith
    ]

-- the loop goes on with one test more
pub one_more : (include exclude : List Test) (excluded : Bool) (content : List TextToken) (more : Option (List Part)) →
    option_map (grown_filter (if excluded then include else include ++ text_test content ∷ []) (if excluded then exclude ++ text_test content ∷ [] else exclude)) more
    ≡ option_map (grown_filter include exclude) (with_part (Some (excluded, content)) more)
one_more include exclude excluded content None = refl
one_more include exclude true content (Some more) = ap (λ z. Some (record { include = include ++ includes more; exclude = z; relative = false })) (append_assoc exclude (text_test content ∷ []) (excludes more))
one_more include exclude false content (Some more) = ap (λ z. Some (record { include = z; exclude = exclude ++ excludes more; relative = false })) (append_assoc include (text_test content ∷ []) (includes more))

pub none_left : (include exclude : List Test) (tokens : List TextToken) → read_part (before_comma tokens) ≡ None → option_map (grown_filter include exclude) (parts_left (Some tokens)) ≡ None
none_left include exclude tokens none = ap (option_map (grown_filter include exclude)) (left_is tokens ∙ ap (λ z. with_part z (parts_left (behind_comma tokens))) none)
