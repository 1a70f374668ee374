-- Reading by tokens: where a parser turns the tokens of each thing back into it, and takes no others, what is read is spelled and what is spelled is read.
use Rattle.std.proofs.Common.{◌≡◌, ℕ, length, take, append-nil, arith, List, [], ◌∷◌, Option, Some, None, option_map, IfSome, refl, sym, ap, subst, ◌∙◌}
use Rattle.std.specs.List.{AllByRecursion}
use Rattle.std.specs.Option.{option_and_then, option_or, unwrap_or}
use Rattle.std.proofs.Math.Seq.{take-length}
use Rattle.lk_grammar.specs.Places.{IsPlace, Judges}

pub none_some : {A : Type 0} {x : A} → None ≡ Some x → ⊥
none_some e = cc

pub some_is : {A : Type 0} (x y : A) → Some x ≡ Some y → x ≡ y
some_is x y e = cc

module _ {T X F : Type 0} (tokens_of : X → List T) (parse : List T → Option X) (again : (x : X) → parse (tokens_of x) ≡ Some x) (before : (tokens : List T) (x : X) → parse tokens ≡ Some x → tokens ≡ tokens_of x) (filter_of : X → Option F) (IsSpelled : List T → Type 0) where
  -- the text spells the tokens of something that gives the filter
  abbrev pub Gives : F → Type 0
  Gives f = (x : X) × IsSpelled (tokens_of x) × (filter_of x ≡ Some f)

  pub read_is_spelled : (tokens : List T) → IsSpelled tokens → (found : Option F) → found ≡ option_and_then filter_of (parse tokens) → IfSome found Gives
  read_is_spelled tokens spelled found e =
      subst (λ o. IfSome o Gives) (sym e)
      (elim (parse tokens) as (λ o. parse tokens ≡ o → IfSome (option_and_then filter_of o) Gives) [
        | None ↦ λ _. tt
        | Some x ↦ λ is.
            elim (filter_of x) as (λ o. filter_of x ≡ o → IfSome o Gives) [
              | None ↦ λ _. tt
              | Some f ↦ λ given. (x, subst IsSpelled (before tokens x is) spelled, given)
            ] refl
      ] refl)

  pub spelled_is_read : (tokens : List T) → ((others : List T) → IsSpelled others → tokens ≡ others) → (found : Option F) → found ≡ option_and_then filter_of (parse tokens) → (f : F) → Gives f → found ≡ Some f
  spelled_is_read tokens only found e f h =
      e ∙ ap (λ z. option_and_then filter_of (parse z)) (only (tokens_of h.0) h.1) ∙ ap (option_and_then filter_of) (again h.0) ∙ h.2

-- ---- what an option was made of

pub or_before : {A P : Type 0} (a b : Option A) (y : A) → option_or a b ≡ Some y → (a ≡ Some y → P) → (b ≡ Some y → P) → P
or_before None b y e f g = g e
or_before (Some x) b y e f g = f e

pub map_before : {A B P : Type 0} (f : A → B) (o : Option A) (y : B) → option_map f o ≡ Some y → ((x : A) → o ≡ Some x → f x ≡ y → P) → P
map_before f None y e g = absurd (none_some e)
map_before f (Some x) y e g = g x refl (some_is (f x) y e)

pub then_before : {A B P : Type 0} (f : A → Option B) (o : Option A) (y : B) → option_and_then f o ≡ Some y → ((x : A) → o ≡ Some x → f x ≡ Some y → P) → P
then_before f None y e g = absurd (none_some e)
then_before f (Some x) y e g = g x refl e

-- what holds of each thing holds of each of a list
pub of_each : {A : Type 0} {P : A → Type 0} (xs : List A) → ((x : A) → P x) → AllByRecursion P xs
of_each [] f = tt
of_each (x ∷ xs) f = (f x, of_each xs f)

-- ---- places

-- a text of a grammar is viable to its end
pub whole_place : (G : List ℕ → Type 0) (text : List ℕ) → G text → IsPlace G text (length text)
whole_place G text h = record {
  within = omega arith;
  begins = ([], subst G (sym (append-nil (take (length text) text) ∙ take-length text)) h);
  longest = λ m fits more. fits;
}

-- the place of a text, where it is judged
pub place_of_judged : (G : List ℕ → Type 0) (text : List ℕ) (o : Option ℕ) → Judges G text o → IsPlace G text (unwrap_or o (length text))
place_of_judged G text None h = whole_place G text h
place_of_judged G text (Some n) h = h.at_place
