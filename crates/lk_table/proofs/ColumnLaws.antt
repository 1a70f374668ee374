-- A column's values stay as its region gets more texts, and it gets a value more.
use Rattle.std.proofs.Common.{◌≡◌, ◌++◌, ◌∷◌, [], ℕ, zero, suc, Bool, true, false, List, Option, Some, None, length, refl, ap, ap₂, arith, ◌∙◌}
use Rattle.std.specs.List.{All, list_any}
use Rattle.std.specs.Prelude.{map, if◌then◌else◌, Result, Ok, Err, OnOk, OnErr}
use Rattle.std.specs.Str.{is_utf8}
use Rattle.std.proofs.lemmas.List.{map-append}
use Rattle.std.proofs.lemmas.List.Elements.{All-push}
use Rattle.lk_val.specs.Texts.{is_same_text}
use Rattle.lk_val.specs.declared.value.Value.{Value}
use Rattle.lk_val.specs.declared.value.Value.TheVariants as value
use Rattle.lk_region.specs.Regions.{KeepsTexts, with_text}
use Rattle.lk_region.specs.declared.mark.Mark.{Mark}
use Rattle.lk_table.specs.declared.column.Column.{Column}
use Rattle.lk_table.specs.declared.column.Column.TheVariants as column
use Rattle.lk_table.specs.Columns.{AreText, IsMark, IsMarked, text_value, values_in}

-- what holds of each item holds of each item behind the first
pub all_behind : {X : Type 0} (P : X → Type 0) (x : X) (xs : List X) → All P (x ∷ xs) → All P xs
all_behind P x xs all k d below = all (suc k) d (omega (arith, below))

pub all_first : {X : Type 0} (P : X → Type 0) (x : X) (xs : List X) → All P (x ∷ xs) → P x
all_first P x xs all = all 0 x (omega arith)

pub all_cons : {X : Type 0} (P : X → Type 0) (x : X) (xs : List X) → P x → All P xs → All P (x ∷ xs)
all_cons P x xs p all zero d below = p
all_cons P x xs p all (suc k) d below = all k d (omega (arith, below))

-- ---- texts

texts_grow_by : (text : List ℕ) (texts : List (List ℕ)) (b : Bool) → is_utf8 text ≡ true → AreText texts
    → AreText (if b then texts else (texts ++ text ∷ []))
texts_grow_by text texts true is all = all
texts_grow_by text texts false is all = All-push (λ t. is_utf8 t ≡ true) texts text all is

pub texts_grow : (text : List ℕ) (texts : List (List ℕ)) → is_utf8 text ≡ true → AreText texts
    → AreText (with_text text texts)
texts_grow text texts = texts_grow_by text texts (list_any (is_same_text text) texts)

-- ---- marks

mark_kept : (old new : List (List ℕ)) → KeepsTexts old new → (cell : Option Mark) → IsMark (length old) cell
    → IsMark (length new) cell
mark_kept old new kept None is = tt
mark_kept old new kept (Some mark) is = (kept mark.0 is).0

pub marks_kept : (old new : List (List ℕ)) → KeepsTexts old new → (cells : List (Option Mark))
    → All (IsMark (length old)) cells → All (IsMark (length new)) cells
marks_kept old new kept cells all k d below = mark_kept old new kept _ (all k d below)

pub marked_kept : (old new : List (List ℕ)) → KeepsTexts old new → (c : Column) → IsMarked (length old) c
    → IsMarked (length new) c
marked_kept old new kept (column.Text cells) all = marks_kept old new kept cells all
marked_kept old new kept (column.Number cells) all = tt
marked_kept old new kept (column.Truth cells) all = tt
marked_kept old new kept (column.Day cells) all = tt
marked_kept old new kept (column.Moment cells) all = tt

-- ---- values

text_value_kept : (old new : List (List ℕ)) → KeepsTexts old new → (cell : Option Mark) → IsMark (length old) cell
    → text_value new cell ≡ text_value old cell
text_value_kept old new kept None is = refl
text_value_kept old new kept (Some mark) is = ap value.Text (kept mark.0 is).1

text_values_kept : (old new : List (List ℕ)) → KeepsTexts old new → (cells : List (Option Mark))
    → All (IsMark (length old)) cells → map (text_value new) cells ≡ map (text_value old) cells
text_values_kept old new kept [] all = refl
text_values_kept old new kept (cell ∷ cells) all =
    ap₂ (λ (v : Value) (vs : List Value). v ∷ vs)
    (text_value_kept old new kept cell (all_first (IsMark (length old)) cell cells all))
    (text_values_kept old new kept cells (all_behind (IsMark (length old)) cell cells all))

pub values_kept : (old new : List (List ℕ)) → KeepsTexts old new → (c : Column) → IsMarked (length old) c
    → values_in new c ≡ values_in old c
values_kept old new kept (column.Text cells) all = text_values_kept old new kept cells all
values_kept old new kept (column.Number cells) all = refl
values_kept old new kept (column.Truth cells) all = refl
values_kept old new kept (column.Day cells) all = refl
values_kept old new kept (column.Moment cells) all = refl

-- a text cell more
pub text_pushed : (old new : List (List ℕ)) → KeepsTexts old new → (cells : List (Option Mark)) (cell : Option Mark) (v : Value)
    → All (IsMark (length old)) cells → text_value new cell ≡ v
    → map (text_value new) (cells ++ cell ∷ []) ≡ map (text_value old) cells ++ v ∷ []
text_pushed old new kept cells cell v all is =
    map-append (text_value new) cells (cell ∷ [])
    ∙ ap₂ (λ (vs : List Value) (w : Value). vs ++ w ∷ []) (text_values_kept old new kept cells all) is

pub mark_pushed : (old new : List (List ℕ)) → KeepsTexts old new → (cells : List (Option Mark)) (cell : Option Mark)
    → All (IsMark (length old)) cells → IsMark (length new) cell → All (IsMark (length new)) (cells ++ cell ∷ [])
mark_pushed old new kept cells cell all is =
    All-push (IsMark (length new)) cells cell (marks_kept old new kept cells all) is

-- what holds of the list after a push, whether it was pushed or not
pub either_way : {A X E : Type 0} (P : List A → Type 0) (r : Result X E) (before after : List A) (x : A)
    → OnOk r (after ≡ before ++ x ∷ []) → OnErr r (after ≡ before) → P before → P (before ++ x ∷ []) → P after
either_way P (Ok ok) before after x grown same p q = rw grown q
either_way P (Err e) before after x grown same p q = rw same p

pub columns_kept : (old new : List (List ℕ)) → KeepsTexts old new → (columns : List Column) → All (IsMarked (length old)) columns
    → map (values_in new) columns ≡ map (values_in old) columns
columns_kept old new kept [] all = refl
columns_kept old new kept (c ∷ columns) all =
    ap₂ (λ (cells : List Value) (rest : List (List Value)). cells ∷ rest)
    (values_kept old new kept c (all_first (IsMarked (length old)) c columns all))
    (columns_kept old new kept columns (all_behind (IsMarked (length old)) c columns all))
