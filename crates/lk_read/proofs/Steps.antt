-- Tests on bytes, and what a step's tests decide.
use Rattle.std.proofs.Common.{◌≡◌, ℕ, Bool, true, false, ◌&&◌, ◌||◌, ◌==◌, cond, List, [], ◌∷◌, ◌++◌, Option, Some, None, refl, ap, sym, subst, Ok, Err}
use Rattle.std.proofs.lemmas.Bool.{eqb-true}
use Rattle.lk_read.specs.declared.read_fault.ReadFault.TheVariants as fault
use Rattle.lk_read.specs.declared.reader.Reader.{Reader}
use Rattle.lk_read.specs.declared.phase.Phase.{Phase}
use Rattle.lk_utf8.specs.declared.utf8.Utf8.{Utf8}
use Rattle.lk_utf8.specs.declared.utf8.Utf8.TheVariants as utf
use Rattle.lk_read.specs.Built.{Built}
use Rattle.lk_read.specs.Bytes.{is_space, is_name_byte, is_word_byte}
use Rattle.lk_utf8.specs.Utf8.{completes, utf8_after, is_whole}
use Rattle.lk_utf8.proofs.CompletionLaws.{whole_is, completes_more, whole_at}
use Rattle.lk_read.specs.Grammar.{is_escaped, unescaped}
use Rattle.lk_read.specs.Reading.{Step, in_phase, goes_to}

-- a test is decided on both sides
pub by_test : (P : Step → Type 0) (c : Bool) (x y : Step) → (c ≡ true → P x) → (c ≡ false → P y) → P (cond c x y)
by_test P true x y f g = f refl
by_test P false x y f g = g refl

-- if the step goes on, then what finishes the next reader finishes the text here
abbrev pub Back : (Reader → Type 0) → Type 0 → Step → Type 0
Back Rest Goal (Ok next) = Rest next → Goal
Back Rest Goal (Err why) = Unit {0}

pub both : (a b : Bool) → (a && b) ≡ true → (a ≡ true) × (b ≡ true)
both true b h = (refl, h)
both false b h = cc

-- a text that begins with this byte
pub headed : (b c : ℕ) (text : List ℕ) → (b == c) ≡ true → b ∷ text ≡ c ∷ text
headed b c text h = ap (λ x. x ∷ text) (eqb-true b c h)

pub back_by : {Goal Other : Type 0} (Rest : Reader → Type 0) (s : Step) → (Goal → Other) → Back Rest Goal s → Back Rest Other s
back_by Rest (Ok next) f h = λ r. f (h r)
back_by Rest (Err why) f h = tt

-- the next byte of a character is decided on both sides
pub by_next : (P : Step → Type 0) (built : Built) (next : Option Utf8) (now : Utf8 → Phase) (place : ℕ) → P (Err (fault.R4 place)) → ((v : Utf8) → next ≡ Some v → P (in_phase built (now v))) → P (goes_to built next now place)
by_next P built None now place stop go = stop
by_next P built (Some v) now place stop go = go v refl

pub no_quote : (x : Utf8) → is_whole x ≡ false → utf8_after x 34 ≡ None
no_quote utf.Whole h = cc
no_quote utf.One h = refl
no_quote utf.Two h = refl
no_quote utf.Three h = refl
no_quote utf.BehindE0 h = refl
no_quote utf.BehindEd h = refl
no_quote utf.BehindF0 h = refl
no_quote utf.BehindF4 h = refl

pub no_backslash : (x : Utf8) → is_whole x ≡ false → utf8_after x 92 ≡ None
no_backslash utf.Whole h = cc
no_backslash utf.One h = refl
no_backslash utf.Two h = refl
no_backslash utf.Three h = refl
no_backslash utf.BehindE0 h = refl
no_backslash utf.BehindEd h = refl
no_backslash utf.BehindF0 h = refl
no_backslash utf.BehindF4 h = refl

pub no_semicolon : (x : Utf8) → is_whole x ≡ false → utf8_after x 59 ≡ None
no_semicolon utf.Whole h = cc
no_semicolon utf.One h = refl
no_semicolon utf.Two h = refl
no_semicolon utf.Three h = refl
no_semicolon utf.BehindE0 h = refl
no_semicolon utf.BehindEd h = refl
no_semicolon utf.BehindF0 h = refl
no_semicolon utf.BehindF4 h = refl

pub neither : (a b : Bool) → a ≡ false → b ≡ false → (a || b) ≡ false
neither false false p q = refl
neither true b p q = p
neither false true p q = q

pub completes_unescaped : (v : Utf8) (b : ℕ) (text : List ℕ) → utf8_after utf.Whole b ≡ Some v → completes v text ≡ true → completes utf.Whole (unescaped b ++ text) ≡ true
completes_unescaped v b text e h = by_escape (is_escaped b)
  where
    by_escape : (c : Bool) → completes utf.Whole (cond c (b ∷ []) (92 ∷ b ∷ []) ++ text) ≡ true
    by_escape true = completes_more utf.Whole v b text e h
    by_escape false = completes_more utf.Whole v b text e h

-- the step goes on, and then this holds
abbrev pub On : (Reader → Type 0) → Step → Type 0
On Rest (Ok next) = Rest next
On Rest (Err why) = ⊥

pub on_true : (Rest : Reader → Type 0) (c : Bool) (x y : Step) → c ≡ true → On Rest x → On Rest (cond c x y)
on_true Rest true x y h r = r
on_true Rest false x y h r = cc

pub on_false : (Rest : Reader → Type 0) (c : Bool) (x y : Step) → c ≡ false → On Rest y → On Rest (cond c x y)
on_false Rest false x y h r = r
on_false Rest true x y h r = cc

-- a byte of a kind is none that is not of the kind
pub differs : (is_kind : ℕ → Bool) (b c : ℕ) → is_kind b ≡ true → is_kind c ≡ false → (b == c) ≡ false
differs is_kind b c is isnt = by_equal (b == c) refl
  where
    by_equal : (e : Bool) → (b == c) ≡ e → e ≡ false
    by_equal false h = refl
    by_equal true h = let same : is_kind c ≡ true = subst (λ x. is_kind x ≡ true) (eqb-true b c h) is in cc

pub not_both : (a b : Bool) → a ≡ false → (a && b) ≡ false
not_both false b h = refl
not_both true b h = cc

pub not_both_right : (a b : Bool) → b ≡ false → (a && b) ≡ false
not_both_right false b h = refl
not_both_right true b h = h

pub both_true : (a b : Bool) → a ≡ true → b ≡ true → (a && b) ≡ true
both_true true true p q = refl
both_true false b p q = p
both_true true false p q = q

pub either_false : (a b : Bool) → (a || b) ≡ false → (a ≡ false) × (b ≡ false)
either_false false b h = (refl, h)
either_false true b h = cc

-- the first byte of a piece: no white space, and no comment's beginning
abbrev pub BeginsPiece : ℕ → Type 0
BeginsPiece b = (is_space b ≡ false) × ((b == 35) ≡ false)

pub word_begins : (b : ℕ) → is_word_byte b ≡ true → BeginsPiece b
word_begins b h =
    let d : (c : ℕ) → is_word_byte c ≡ false → (b == c) ≡ false = λ c no. differs is_word_byte b c h no in
    (neither (b == 32 || b == 9 || b == 13) (b == 10) (neither (b == 32 || b == 9) (b == 13) (neither (b == 32) (b == 9) (d 32 refl) (d 9 refl)) (d 13 refl)) (d 10 refl), d 35 refl)

pub name_is_word : (b : ℕ) → is_name_byte b ≡ true → is_word_byte b ≡ true
name_is_word b h = rw h

pub begins_at : (b c : ℕ) → b ≡ c → BeginsPiece c → BeginsPiece b
begins_at b c e h = subst BeginsPiece (sym e) h

pub on_next : (Rest : Reader → Type 0) (built : Built) (next : Option Utf8) (v : Utf8) (now : Utf8 → Phase) (place : ℕ) → next ≡ Some v → On Rest (in_phase built (now v)) → On Rest (goes_to built next now place)
on_next Rest built next v now place e r = subst (λ o. On Rest (goes_to built o now place)) (sym e) r

-- what a backslash and a byte stand for, taken apart
pub unescaped_parts : (u : Utf8) (b : ℕ) (text : List ℕ) → completes u (unescaped b ++ text) ≡ true → (is_whole u ≡ true) × (completes utf.Whole (b ∷ text) ≡ true)
unescaped_parts u b text h = by_escape (is_escaped b) refl h
  where
    quote_or : (q s : Bool) → (b == 34) ≡ q → (b == 92) ≡ s → (q || s) ≡ true → completes u (b ∷ text) ≡ true → is_whole u ≡ true
    quote_or true s hq hs either c = whole_at u 34 text no_quote (subst (λ x. completes u (x ∷ text) ≡ true) (eqb-true b 34 hq) c)
    quote_or false true hq hs either c = whole_at u 92 text no_backslash (subst (λ x. completes u (x ∷ text) ≡ true) (eqb-true b 92 hs) c)
    quote_or false false hq hs either c = cc

    by_escape : (c : Bool) → is_escaped b ≡ c → completes u (cond c (b ∷ []) (92 ∷ b ∷ []) ++ text) ≡ true → (is_whole u ≡ true) × (completes utf.Whole (b ∷ text) ≡ true)
    by_escape true e c =
        let w = quote_or (b == 34) (b == 92) refl refl e c in
        (w, subst (λ x. completes x (b ∷ text) ≡ true) (whole_is u w) c)
    by_escape false e c =
        let w = whole_at u 92 (b ∷ text) no_backslash c in
        (w, subst (λ x. completes x (92 ∷ b ∷ text) ≡ true) (whole_is u w) c)
