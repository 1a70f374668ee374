-- Findings that are looked through one list after another.
use Rattle.std.proofs.Common.{◌≡◌, ◌∙◌, Bool, true, false, not, List, ◌++◌, ap, sym}
use Rattle.std.specs.List.{fold}
use Rattle.std.proofs.lemmas.List.Sums.{fold-append}

pub three : {A B : Type 0} (f : B → A → B) (x : B) (one two last : List A) → fold f (fold f (fold f x one) two) last ≡ fold f x (one ++ two ++ last)
three f x one two last = sym (fold-append f x (one ++ two) last ∙ ap (λ y. fold f y last) (fold-append f x one two))

pub four : {A B : Type 0} (f : B → A → B) (x : B) (one two third last : List A)
    → fold f (fold f (fold f (fold f x one) two) third) last ≡ fold f x (one ++ two ++ third ++ last)
four f x one two third last =
    ap (λ y. fold f y last) (three f x one two third) ∙ sym (fold-append f x (one ++ two ++ third) last)

-- a test by what it is not
pub from_not : (b c : Bool) → not b ≡ c → b ≡ not c
from_not true c e = ap not e
from_not false c e = ap not e
