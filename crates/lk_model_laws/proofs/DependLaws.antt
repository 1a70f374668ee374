-- The formula of a field, and whether all in it is known, hang only on the columns of the parts that the formula mentions.
use Rattle.std.proofs.Common.{◌≡◌, ◌∙◌, ℕ, zero, suc, ◌+◌, Bool, true, false, ◌&&◌, List, [], ◌∷◌, map, length, refl, ap, sym, subst, Option, Some, None, arith}
use Rattle.std.specs.Prelude.{if◌then◌else◌, is_none, is_some, slice_get}
use Rattle.std.specs.List.{AllByRecursion, list_all}
use Rattle.std.proofs.lemmas.Bool.{false≢true}
use Rattle.lk_types.specs.Expressions.{mentions}
use Rattle.lk_types.specs.Formula.{Formula, Column}
use Rattle.lk_types.specs.Kinds.{kinds_of_column}
use Rattle.lk_types.specs.declared.kind_set.KindSet.{KindSet}
use Rattle.lk_types.specs.declared.schema.Frame.{Frame}
use Rattle.lk_types.specs.declared.schema.Kind.{Kind}
use Rattle.lk_types.specs.declared.schema.Schema.{Schema}
use Rattle.lk_objects.specs.declared.code.Code.{Code}
use Rattle.lk_objects.specs.declared.code.Code.TheVariants as code
use Rattle.lk_objects.specs.declared.code.Reference.{Reference}
use Rattle.lk_objects.specs.declared.code.Reference.TheVariants as reference
use Rattle.lk_objects.specs.declared.code.Written.{Written}
use Rattle.lk_objects.specs.declared.field.DeclaredField.{DeclaredField}
use Rattle.lk_objects.specs.declared.view.DeclaredView.{DeclaredView}
use Rattle.lk_fields.specs.declared.scope.Found.{Found}
use Rattle.lk_fields.specs.declared.scope.Place.{Place}
use Rattle.lk_fields.specs.declared.scope.Scope.{Scope}
use Rattle.lk_fields.specs.declared.scope.Sort.TheVariants as sort
use Rattle.lk_fields.specs.declared.scope.Writer.{Writer}
use Rattle.lk_fields.specs.declared.scope.Writer.TheVariants as writer
use Rattle.lk_fields.specs.Existing.{all_places, field_at}
use Rattle.lk_dated.specs.Dated.{dated_by, stands_at}
use Rattle.lk_formulas.specs.declared.columns.ColumnKinds.{ColumnKinds}
use Rattle.lk_formulas.specs.declared.columns.UnknownColumn.{UnknownColumn}
use Rattle.lk_formulas.specs.declared.columns.UnknownColumn.TheVariants.{Kept, Null}
use Rattle.lk_formulas.specs.Columns.{column_named, known_kind}
use Rattle.lk_formulas.specs.FormulaKinds.{kinds_at, kinds_in}
use Rattle.lk_formulas.specs.Formulas.{as_read, certain_within, column_at, column_formula, dated_of, ends, expanded, expanded_field, field_named, formula_within, framed, is_certain, is_known, knows, knows_all, knows_field, knows_through, meaning, null, part_of, read_in, through, where_known}
use Rattle.lk_semantics.proofs.EveryLaws.{Every, both, first, second}
use Rattle.lk_model_laws.proofs.MentionedLaws.{IsOver, same_dated_by, same_kinds_by}
use Rattle.lk_model_laws.proofs.PieceLaws.{some_none}

-- ---- codes each of whose references stands in the expression

module _ (t : ℕ → Bool) (leaf : ℕ → ℕ → Formula) where
  -- what stands for some references, by their numbers from one on, mentions only parts that pass
  abbrev pub AreOverFrom : ℕ → List Reference → Type 0
  AreOverFrom n [] = Unit {0}
  AreOverFrom n (r ∷ rs) = IsOver t (leaf 0 n) × AreOverFrom (n + 1) rs

-- where the whole expression mentions only such parts, each of its references does
abbrev pub IsShown : Written → Type 0
IsShown written = (t : ℕ → Bool) (kinds : Formula → KindSet) (leaf : ℕ → ℕ → Formula) → IsOver t (dated_by kinds leaf written.expr) → AreOverFrom t leaf 0 written.references

abbrev pub IsShownCode : Code → Type 0
IsShownCode (code.Expr written) = IsShown written
IsShownCode c = Unit {0}

meant_from : (t : ℕ → Bool) (by : List Formula) (P : Reference → Formula) (n : ℕ) (rs : List Reference) → ((j : ℕ) (r : Reference) → slice_get rs j ≡ Some r → stands_at by 0 (n + j) ≡ P r)
    → AreOverFrom t (stands_at by) n rs → AllByRecursion (λ r. IsOver t (P r)) rs
meant_from t by P n [] at h = tt
meant_from t by P n (r ∷ rs) at h = (
  subst (IsOver t) (subst (λ m. stands_at by 0 m ≡ P r) (omega arith) (at zero r refl)) h.0,
  meant_from t by P (n + 1) rs (λ j q got. subst (λ m. stands_at by 0 m ≡ P q) (omega arith) (at (suc j) q got)) h.1,
)

stands_for : (P : Reference → Formula) (rs : List Reference) (j : ℕ) (r : Reference) → slice_get rs j ≡ Some r → stands_at (map P rs) 0 j ≡ P r
stands_for P [] j r at = absurd (some_none (sym at))
stands_for P (q ∷ rs) zero r at = let same : q ≡ r = cc in ap P same
stands_for P (q ∷ rs) (suc j) r at = stands_for P rs j r at

-- each reference of a shown expression
each_over : (t : ℕ → Bool) (kinds : Formula → KindSet) (P : Reference → Formula) (written : Written) → IsShown written → IsOver t (dated_by kinds (stands_at (map P written.references)) written.expr)
    → AllByRecursion (λ r. IsOver t (P r)) written.references
each_over t kinds P written shown h =
    meant_from t (map P written.references) P 0 written.references (λ j r at. subst (λ m. stands_at (map P written.references) 0 m ≡ P r) (omega arith) (stands_for P written.references j r at)) (shown t kinds (stands_at (map P written.references)) h)

framed_mentions : (f : Option Frame) (e : Formula) → mentions (framed f e) ≡ mentions e
framed_mentions None e = refl
framed_mentions (Some f) e = refl

column_of : (u : UnknownColumn) (k : Kind) (p c : ℕ) → column_formula u (Some k) p c ≡ Column p c
column_of Null k p c = refl
column_of Kept k p c = refl

-- ---- two readings that agree on the parts that pass

module _ (schema : Schema) (views : List DeclaredView) (scope : Scope) (t : ℕ → Bool)
    (shown : (place : Place) (field : DeclaredField) → field_at views scope place ≡ Some field → IsShownCode field.sql) where
  -- each column of a part that passes, if a name means it, has a known kind
  abbrev pub HasKnown : ColumnKinds → Type 0
  HasKnown columns = (p : ℕ) → t p ≡ true → (name : List ℕ) (c : ℕ) → column_named schema views scope p name ≡ Some c → (k : Kind) × (known_kind columns p c ≡ Some k)

  -- the second keeps columns of unknown kind, as the model does
  module _ (j k : ColumnKinds) (u : UnknownColumn) (same : (p c : ℕ) → t p ≡ true → known_kind j p c ≡ known_kind k p c) (known : HasKnown k) where
    pub same_kinds_in : (e : Formula) → IsOver t e → kinds_in j e ≡ kinds_in k e
    same_kinds_in e h = same_kinds_by t (kinds_at j) (kinds_at k) (λ p c passes. ap kinds_of_column (same p c passes)) e h

    same_column : (p : ℕ) (name : List ℕ) (o : Option ℕ) → column_named schema views scope p name ≡ o → IsOver t (column_at k Kept p o) → column_at j u p o ≡ column_at k Kept p o
    same_column p name None is h = refl
    same_column p name (Some c) is h =
        let passes = first (t p) true h in
        let at = known p passes name c is in
        ap (λ o. column_formula u o p c) (same p c passes ∙ at.1) ∙ column_of u at.0 p c

    module _ (f g : Place → Formula) (further : (place : Place) → IsOver t (g place) → f place ≡ g place) where
      same_through : (o : Option Found) → IsOver t (through schema views scope k Kept g o) → through schema views scope j u f o ≡ through schema views scope k Kept g o
      same_through None h = refl
      same_through (Some found) h =
          elim (ends views scope found.place) as (λ b. IsOver t (if b then framed found.frame (g found.place) else null) → (if b then framed found.frame (f found.place) else null) ≡ (if b then framed found.frame (g found.place) else null)) [
            | true ↦ λ h. ap (framed found.frame) (further found.place (subst (Every t) (framed_mentions found.frame (g found.place)) h))
            | false ↦ λ h. refl
          ] h

      same_meaning : (w : Writer) (r : Reference) → IsOver t (meaning schema views scope k Kept g w r) → meaning schema views scope j u f w r ≡ meaning schema views scope k Kept g w r
      same_meaning w (reference.Column name) h = same_column (part_of w) name (column_named schema views scope (part_of w) name) refl h
      same_meaning w (reference.Own name) h = same_through (field_named views scope w sort.Dimension (reference.Own name)) h
      same_meaning w (reference.Of view name) h = same_through (field_named views scope w sort.Dimension (reference.Of view name)) h

      same_meanings : (w : Writer) (rs : List Reference) → AllByRecursion (λ r. IsOver t (meaning schema views scope k Kept g w r)) rs → map (meaning schema views scope j u f w) rs ≡ map (meaning schema views scope k Kept g w) rs
      same_meanings w [] h = refl
      same_meanings w (r ∷ rs) h = let p = same_meaning w r h.0 in let q = same_meanings w rs h.1 in λ i. p i ∷ q i

      same_where_known : (o : Option ℕ) (a b : Formula) → (IsOver t b → a ≡ b) → IsOver t (where_known o b) → where_known o a ≡ where_known o b
      same_where_known None a b is h = is h
      same_where_known (Some place) a b is h = refl

      same_code : (w : Writer) (c : Code) → IsShownCode c → IsOver t (expanded schema views scope k Kept (as_read k) g w c) → expanded schema views scope j u (as_read j) f w c ≡ expanded schema views scope k Kept (as_read k) g w c
      same_code w (code.Expr written) shows h =
          let by = map (meaning schema views scope k Kept g w) written.references in
          same_where_known written.unknown_call (read_in j (map (meaning schema views scope j u f w) written.references) written.expr) (read_in k by written.expr)
          (λ over. ap (λ xs. read_in j xs written.expr) (same_meanings w written.references (each_over t (kinds_in k) (meaning schema views scope k Kept g w) written shows over))
          ∙ same_dated_by t (kinds_in j) (kinds_in k) same_kinds_in (stands_at by) written.expr over) h
      same_code w (code.Number written) shows h = refl
      same_code w code.Absent shows h = refl
      same_code w code.Liquid shows h = refl
      same_code w (code.Syntax place) shows h = refl

    same_field : (f g : Place → Formula) → ((place : Place) → IsOver t (g place) → f place ≡ g place) → (place : Place) (o : Option DeclaredField) → field_at views scope place ≡ o
        → IsOver t (expanded_field schema views scope k Kept (as_read k) g place.part o) → expanded_field schema views scope j u (as_read j) f place.part o ≡ expanded_field schema views scope k Kept (as_read k) g place.part o
    same_field f g further place None at h = refl
    same_field f g further place (Some field) at h = same_code f g further (writer.Field place.part) field.sql (shown place field at) h

    same_within : (n : ℕ) (place : Place) → IsOver t (formula_within schema views scope k Kept (as_read k) n place)
        → formula_within schema views scope j u (as_read j) n place ≡ formula_within schema views scope k Kept (as_read k) n place
    same_within zero place h = refl
    same_within (suc n) place h =
        same_field (formula_within schema views scope j u (as_read j) n) (formula_within schema views scope k Kept (as_read k) n) (same_within n) place (field_at views scope place) refl h

    -- the formula of a field with its text literals read
    pub same_dated_of : (place : Place) → IsOver t (dated_of schema views scope k Kept place) → dated_of schema views scope j u place ≡ dated_of schema views scope k Kept place
    same_dated_of place h = same_within (length (all_places views scope)) place h

    -- ---- whether all that stands in it is known, where it is so with the kinds of other columns known

    module _ (all : ColumnKinds) (w : UnknownColumn) where
      knows_column : (p : ℕ) (name : List ℕ) (o : Option ℕ) → column_named schema views scope p name ≡ o → IsOver t (column_at k Kept p o) → is_known all p o ≡ true → is_known j p o ≡ true
      knows_column p name None is h there = absurd (false≢true there)
      knows_column p name (Some c) is h there =
          let passes = first (t p) true h in ap is_some (same p c passes ∙ (known p passes name c is).1)

      module _ (a b : Place → Bool) (g : Place → Formula) (further : (place : Place) → IsOver t (g place) → a place ≡ true → b place ≡ true) where
        knows_named : (o : Option Found) → IsOver t (through schema views scope k Kept g o) → knows_through schema views scope all w a o ≡ true → knows_through schema views scope j u b o ≡ true
        knows_named None h there = absurd (false≢true there)
        knows_named (Some found) h there =
            elim (ends views scope found.place) as (λ e. IsOver t (if e then framed found.frame (g found.place) else null) → (e && a found.place) ≡ true → (e && b found.place) ≡ true) [
              | true ↦ λ h there. further found.place (subst (Every t) (framed_mentions found.frame (g found.place)) h) there
              | false ↦ λ h there. there
            ] h there

        knows_one : (s : Writer) (r : Reference) → IsOver t (meaning schema views scope k Kept g s r) → knows schema views scope all w a s r ≡ true → knows schema views scope j u b s r ≡ true
        knows_one s (reference.Column name) h there = knows_column (part_of s) name (column_named schema views scope (part_of s) name) refl h there
        knows_one s (reference.Own name) h there = knows_named (field_named views scope s sort.Dimension (reference.Own name)) h there
        knows_one s (reference.Of view name) h there = knows_named (field_named views scope s sort.Dimension (reference.Of view name)) h there

        knows_each : (s : Writer) (rs : List Reference) → AllByRecursion (λ r. IsOver t (meaning schema views scope k Kept g s r)) rs → list_all (knows schema views scope all w a s) rs ≡ true → list_all (knows schema views scope j u b s) rs ≡ true
        knows_each s [] h there = refl
        knows_each s (r ∷ rs) h there =
            both (knows schema views scope j u b s r) (list_all (knows schema views scope j u b s) rs)
            (knows_one s r h.0 (first (knows schema views scope all w a s r) (list_all (knows schema views scope all w a s) rs) there))
            (knows_each s rs h.1 (second (knows schema views scope all w a s r) (list_all (knows schema views scope all w a s) rs) there))

        known_call : (o : Option ℕ) (x y : Bool) (e : Formula) → (IsOver t e → x ≡ true → y ≡ true) → IsOver t (where_known o e) → (is_none o && x) ≡ true → (is_none o && y) ≡ true
        known_call None x y e is h there = is h there
        known_call (Some place) x y e is h there = there

        knows_code : (s : Writer) (c : Code) → IsShownCode c → IsOver t (expanded schema views scope k Kept (as_read k) g s c) → knows_all schema views scope all w a s c ≡ true → knows_all schema views scope j u b s c ≡ true
        knows_code s (code.Expr written) shows h there =
            known_call written.unknown_call (list_all (knows schema views scope all w a s) written.references) (list_all (knows schema views scope j u b s) written.references)
            (read_in k (map (meaning schema views scope k Kept g s) written.references) written.expr)
            (λ over every. knows_each s written.references (each_over t (kinds_in k) (meaning schema views scope k Kept g s) written shows over) every) h there
        knows_code s (code.Number written) shows h there = there
        knows_code s code.Absent shows h there = there
        knows_code s code.Liquid shows h there = there
        knows_code s (code.Syntax place) shows h there = there

        knows_placed : (place : Place) (o : Option DeclaredField) → field_at views scope place ≡ o → IsOver t (expanded_field schema views scope k Kept (as_read k) g place.part o)
            → knows_field schema views scope all w a place.part o ≡ true → knows_field schema views scope j u b place.part o ≡ true
        knows_placed place None at h there = there
        knows_placed place (Some field) at h there = knows_code (writer.Field place.part) field.sql (shown place field at) h there

      certain_from : (n : ℕ) (place : Place) → IsOver t (formula_within schema views scope k Kept (as_read k) n place) → certain_within schema views scope all w n place ≡ true → certain_within schema views scope j u n place ≡ true
      certain_from zero place h there = there
      certain_from (suc n) place h there =
          knows_placed (certain_within schema views scope all w n) (certain_within schema views scope j u n) (formula_within schema views scope k Kept (as_read k) n) (certain_from n) place (field_at views scope place) refl h there

      pub certain_of : (place : Place) → IsOver t (dated_of schema views scope k Kept place) → is_certain schema views scope all w place ≡ true → is_certain schema views scope j u place ≡ true
      certain_of place h there = certain_from (length (all_places views scope)) place h there
