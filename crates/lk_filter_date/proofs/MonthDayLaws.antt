-- The days of a month, of which the form was made before.
use Rattle.std.proofs.Common.{◌≡◌, ◌∙◌, ℕ, ap, sym}
use Rattle.std.specs.Prelude.{Result, Ok, Err, IfOk}
use Rattle.lk_val.specs.declared.memory.NoMemory.{NoMemory}
use Rattle.lk_grammar.specs.Forms.{Form}
use Rattle.lk_filter_date.specs.DateTexts.{numerals}

pub shared_days : (made : Result Form NoMemory) (form : Form) (n length : ℕ)
    → IfOk made (λ f. f ≡ form) → form ≡ numerals n → length ≡ n → IfOk made (λ f. f ≡ numerals length)
shared_days (Ok f) form n length e days is = e ∙ days ∙ ap numerals (sym is)
shared_days (Err memory) form n length e days is = tt
