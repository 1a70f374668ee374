-- How far a text goes, and what is kept of it.
use Rattle.std.specs.Prelude.{◌≡◌, ℕ, Bool, true, List, length, take}
use Rattle.std.specs.Option.{unwrap_or}
use Rattle.lk_grammar.specs.declared.reaching.Reached.{Reached}
use Rattle.lk_grammar.specs.Forms.{Form}
use Rattle.lk_grammar.specs.Places.{last_from}
use Rattle.lk_grammar.specs.Steps.{judge_of, start, step}

-- it is kept what the machine of the form has of the text where it stops or ends
pub record HasReached (rules : List Form) (depth : ℕ) (form : Form) (text : List ℕ) (reached : Reached) : Type 0 where
  pub rules_are : reached.rules.now ≡ rules
  pub place_is : reached.place ≡ judge_of rules depth form text
  pub stacks_are : reached.stacks.items ≡ last_from (step rules) (start rules depth form) text

-- the front of the text that goes on to some text of the form: up to the place, or all of it
abbrev pub reached_front : Reached → List ℕ → List ℕ
reached_front reached text = take (unwrap_or reached.place (length text)) text

-- the answer is yes exactly where this holds
abbrev pub Tells : Type 0 → Bool → Type 0
Tells P answer = (answer ≡ true → P) × (P → answer ≡ true)
