-- Coding: a form as a list of numbers, by which a proof tells forms apart.
use Rattle.std.specs.Prelude.{◌≡◌, ℕ, zero, suc, List, [], ◌∷◌, ◌++◌, refl}
use Rattle.std.specs.Coded.{Coded, code_by, coded×, coded_list, coded_ℕ}
use Rattle.std.proofs.Common.{append_assoc, ap, sym, ◌∙◌}
use Rattle.std.proofs.lemmas.List.{append-nil}
use Rattle.lk_grammar.specs.Forms.{Form, nothing, empty, byte, seq, either, many, nested}

abbrev pub Sign : Type 0
Sign = ℕ × (ℕ × ℕ)

-- the signs of the parts of a form, and then its own
abbrev pub signs_of : Form → List Sign
signs_of nothing = (0, (0, 0)) ∷ []
signs_of empty = (1, (0, 0)) ∷ []
signs_of (byte low high) = (2, (low, high)) ∷ []
signs_of (seq first second) = signs_of first ++ (signs_of second ++ (3, (0, 0)) ∷ [])
signs_of (either one other) = signs_of one ++ (signs_of other ++ (4, (0, 0)) ∷ [])
signs_of (many form) = signs_of form ++ (5, (0, 0)) ∷ []
signs_of (nested rule) = (6, (rule, 0)) ∷ []

abbrev pub of_two : (Form → Form → Form) → List Form → List Form
of_two make (second ∷ first ∷ forms) = make first second ∷ forms
of_two make forms = forms

abbrev pub of_one : (Form → Form) → List Form → List Form
of_one make (form ∷ forms) = make form ∷ forms
of_one make [] = []

-- a sign puts a form on those that were read, made of the last of them where it has parts
abbrev pub signed : ℕ → ℕ → ℕ → List Form → List Form
signed zero a b forms = nothing ∷ forms
signed (suc zero) a b forms = empty ∷ forms
signed (suc (suc zero)) a b forms = byte a b ∷ forms
signed (suc (suc (suc zero))) a b forms = of_two seq forms
signed (suc (suc (suc (suc zero)))) a b forms = of_two either forms
signed (suc (suc (suc (suc (suc zero))))) a b forms = of_one many forms
signed (suc (suc (suc (suc (suc (suc kind)))))) a b forms = nested a ∷ forms

abbrev pub forms_of : List Sign → List Form → List Form
forms_of [] forms = forms
forms_of (sign ∷ signs) forms = forms_of signs (signed sign.0 sign.1.0 sign.1.1 forms)

abbrev pub first_of_forms : List Form → Form
first_of_forms [] = nothing
first_of_forms (form ∷ forms) = form

pub forms_of-signs_of : (form : Form) (signs : List Sign) (forms : List Form) → forms_of (signs_of form ++ signs) forms ≡ forms_of signs (form ∷ forms)
forms_of-signs_of nothing signs forms = refl
forms_of-signs_of empty signs forms = refl
forms_of-signs_of (byte low high) signs forms = refl
forms_of-signs_of (seq first second) signs forms =
    simp (append_assoc, forms_of-signs_of first, forms_of-signs_of second)
forms_of-signs_of (either one other) signs forms =
    simp (append_assoc, forms_of-signs_of one, forms_of-signs_of other)
forms_of-signs_of (many form) signs forms = simp (append_assoc, forms_of-signs_of form)
forms_of-signs_of (nested rule) signs forms = refl

pub read_back : (form : Form) → first_of_forms (forms_of (signs_of form) []) ≡ form
read_back form =
    ap (λ signs. first_of_forms (forms_of signs [])) (sym (append-nil (signs_of form))) ∙ ap first_of_forms (forms_of-signs_of form [] [])

abbrev pub form_code : Coded Form
form_code =
    code_by (List Sign) (coded_list (coded× coded_ℕ (coded× coded_ℕ coded_ℕ))) signs_of (λ signs. first_of_forms (forms_of signs [])) read_back
