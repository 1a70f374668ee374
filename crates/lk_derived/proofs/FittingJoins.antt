-- The joined rows of tables that fit their kinds fit them, and so do the values of expressions over them.
use Rattle.std.proofs.Common.{◌≡◌, ℕ, ◌+◌, zero, suc, Bool, true, false, ◌&&◌, List, [], ◌∷◌, map, length, refl, sym, subst, ◌∙◌}
use Rattle.std.specs.Prelude.{Option, Some, None, not, unwrap_or, replicate, slice_get, slice_index_or, slice_set}
use Rattle.std.proofs.lemmas.Bool.{false≢true}
use Rattle.lk_val.specs.declared.value.Value.{Value}
use Rattle.lk_val.specs.declared.value.Value.TheVariants as value
use Rattle.lk_types.specs.Formula.{Formula}
use Rattle.lk_types.specs.Expressions.{value_of, value_in}
use Rattle.lk_types.specs.Tables.{Cells, Rows, is_of_kind}
use Rattle.lk_types.specs.Kinds.{HasKinds, kind_among, kinds_of, has_kind, is_same_kind, is_empty, single}
use Rattle.lk_types.specs.Dates.{are_literals_dated}
use Rattle.lk_types.specs.Shapes.{shaped, shaped_kind}
use Rattle.lk_types.proofs.ShapeLaws.{shaped_kinds}
use Rattle.lk_eval.proofs.KindLaws.{value_of-fits, of_single, of_several}
use Rattle.lk_semantics.specs.Joins.{rows_from, no_part, part_at, join_at, null_row, with_part, partners, or_alone, left_joined, lone_rights, is_lone, is_met, joined_by, join_rows, joined_after, base_rows, in_declared_order, joined_rows}
use Rattle.lk_semantics.specs.Reading.{origin_kinds}
use Rattle.lk_semantics.specs.Resolved.{is_typed, is_settled, settled_kind}
use Rattle.lk_semantics.proofs.EveryLaws.{Every, both, first, second, every-append, every-filter, every-map, every-flat_map}
use Rattle.lk_derived.specs.FittingRows.{fits_cells, fits_at, fits_rows, fits_parts}
use Rattle.lk_types.specs.declared.schema.Kind.{Kind}
use Rattle.lk_types.specs.declared.schema.Kind.TheVariants as kind
use Rattle.lk_types.specs.declared.kind_set.KindSet.{KindSet}
use Rattle.lk_types.specs.declared.kind_set.Leaves.{Leaves}
use Rattle.lk_types.specs.declared.rows.Joined.{Joined}
use Rattle.lk_types.specs.declared.rows.Sources.{Sources}
use Rattle.lk_types.specs.declared.explore.Shape.{Shape}
use Rattle.lk_types.specs.declared.explore.Shape.TheVariants as shape
use Rattle.lk_types.specs.declared.explore.Part.{Part}
use Rattle.lk_types.specs.declared.explore.Origin.{Origin}
use Rattle.lk_types.specs.declared.explore.Explore.{Explore}
use Rattle.lk_types.specs.declared.explore.JoinKind.{JoinKind}
use Rattle.lk_types.specs.declared.explore.JoinKind.TheVariants.{Left, Full, Inner, Cross}
use Rattle.lk_types.specs.declared.model.Model.{Model}

-- ---- rows by their parts

no_parts : (kss : List (List Kind)) (n : ℕ) → fits_parts kss (replicate n None) ≡ true
no_parts [] n = refl
no_parts (ks ∷ kss) zero = refl
no_parts (ks ∷ kss) (suc n) = no_parts kss n

set_part : (kss : List (List Kind)) (parts : List (Option Cells)) (p : ℕ) (cells : Cells) → fits_parts kss parts ≡ true → fits_at kss p cells ≡ true → fits_parts kss (slice_set parts p (Some cells)) ≡ true
set_part [] parts p cells h c = refl
set_part (ks ∷ kss) [] p cells h c = h
set_part (ks ∷ kss) (None ∷ parts) zero cells h c = both (fits_cells ks cells) (fits_parts kss parts) c h
set_part (ks ∷ kss) (Some old ∷ parts) zero cells h c = both (fits_cells ks cells) (fits_parts kss parts) c (second (fits_cells ks old) (fits_parts kss parts) h)
set_part (ks ∷ kss) (None ∷ parts) (suc p) cells h c = set_part kss parts p cells h c
set_part (ks ∷ kss) (Some old ∷ parts) (suc p) cells h c =
    both (fits_cells ks old) (fits_parts kss (slice_set parts p (Some cells))) (first (fits_cells ks old) (fits_parts kss parts) h) (set_part kss parts p cells (second (fits_cells ks old) (fits_parts kss parts) h) c)

-- rows fit the kinds of the view at a place, where they fit those of its origin
at_part : (f : Part → List Kind) (parts : List Part) (p : ℕ) (rows : Rows) → fits_rows (f (slice_index_or parts p no_part)) rows ≡ true → Every (fits_at (map f parts) p) rows
at_part f [] p rows h = nothing rows
  where
    nothing : (rows : Rows) → Every (fits_at [] p) rows
    nothing [] = refl
    nothing (r ∷ rs) = nothing rs
at_part f (part ∷ parts) zero rows h = h
at_part f (part ∷ parts) (suc p) rows h = at_part f parts p rows h

-- a joined row fits
abbrev pub fits_row : List (List Kind) → Joined → Bool
fits_row kss row = fits_parts kss row.parts

module _ (kss : List (List Kind)) where
  with_part-fits : (p : ℕ) (row : Joined) (cells : Cells) → fits_row kss row ≡ true → fits_at kss p cells ≡ true → fits_row kss (with_part p row cells) ≡ true
  with_part-fits p row cells h c = set_part kss row.parts p cells h c

  module _ (on : Option Formula) (p : ℕ) (rights : Rows) (fit : Every (fits_at kss p) rights) where
    with_each-fits : (row : Joined) → fits_row kss row ≡ true → Every (fits_row kss) (map (with_part p row) rights)
    with_each-fits row h = every-map (fits_row kss) (fits_at kss p) (with_part p row) (λ cells c. with_part-fits p row cells h c) rights fit

    partners-fits : (row : Joined) → fits_row kss row ≡ true → Every (fits_row kss) (partners on p rights row)
    partners-fits row h = every-filter (fits_row kss) (is_met on) (map (with_part p row) rights) (with_each-fits row h)

    alone-fits : (row : Joined) → fits_row kss row ≡ true → (found : List Joined) → Every (fits_row kss) found → Every (fits_row kss) (or_alone row found)
    alone-fits row h [] f = both (fits_row kss row) true h refl
    alone-fits row h (r ∷ rs) f = f

    left_joined-fits : (left : List Joined) → Every (fits_row kss) left → Every (fits_row kss) (left_joined on p left rights)
    left_joined-fits left h = every-flat_map (fits_row kss) (fits_row kss) (λ row. or_alone row (partners on p rights row)) (λ row d. alone-fits row d (partners on p rights row) (partners-fits row d)) left h

  joined_by-fits : (x : Explore) (p : ℕ) (rights : Rows) → Every (fits_at kss p) rights → (k : JoinKind) (on : Option Formula) (left : List Joined) → Every (fits_row kss) left → Every (fits_row kss) (joined_by k x on p left rights)
  joined_by-fits x p rights fit Inner on left h = every-flat_map (fits_row kss) (fits_row kss) (partners on p rights) (partners-fits on p rights fit) left h
  joined_by-fits x p rights fit Cross on left h = every-flat_map (fits_row kss) (fits_row kss) (partners None p rights) (partners-fits None p rights fit) left h
  joined_by-fits x p rights fit Left on left h = left_joined-fits on p rights fit left h
  joined_by-fits x p rights fit Full on left h =
      every-append (fits_row kss) (left_joined on p left rights) (map (with_part p (null_row x)) (lone_rights on p left rights))
      (left_joined-fits on p rights fit left h)
      (every-map (fits_row kss) (fits_at kss p) (with_part p (null_row x)) (λ cells c. with_part-fits p (null_row x) cells (no_parts kss (length x.parts)) c)
      (lone_rights on p left rights) (every-filter (fits_at kss p) (is_lone on p left) rights fit))

-- the tables of a model's views fit
abbrev pub FitsSources : Model → Sources → Type 0
FitsSources m s = (o : Origin) → fits_rows (origin_kinds m o) (rows_from s o) ≡ true

module _ (m : Model) (x : Explore) (s : Sources) (fit : FitsSources m s) where
  abbrev kinds : List (List Kind)
  kinds = map (λ part. origin_kinds m part.origin) x.parts

  part_fits : (p : ℕ) → Every (fits_at kinds p) (rows_from s (part_at x p).origin)
  part_fits p = at_part (λ part. origin_kinds m part.origin) x.parts p (rows_from s (part_at x p).origin) (fit (part_at x p).origin)

  after-fits : (joins : List ℕ) (left : List Joined) → Every (fits_row kinds) left → Every (fits_row kinds) (joined_after x s left joins)
  after-fits [] left h = h
  after-fits (j ∷ js) left h =
      after-fits js (join_rows x s left j) (joined_by-fits kinds x (j + 1) (rows_from s (part_at x (j + 1)).origin) (part_fits (j + 1)) (join_at x j).kind (join_at x j).on left h)

  pub joined_rows-fits : (joins : List ℕ) → Every (fits_row kinds) (joined_rows x s joins)
  joined_rows-fits joins =
      after-fits (in_declared_order x joins) (base_rows x s)
      (with_each-fits kinds None 0 (rows_from s (part_at x 0).origin) (part_fits 0) (null_row x) (no_parts kinds (length x.parts)))

-- ---- the columns of a row that fits have their kinds

cell_kind : (ks : List Kind) (cells : Cells) (c : ℕ) (k : Kind) → fits_cells ks cells ≡ true → slice_get ks c ≡ Some k → is_of_kind k (slice_index_or cells c value.Null) ≡ true
cell_kind [] cells c k h is = cc
cell_kind (j ∷ ks) [] c k h is = absurd (false≢true h)
cell_kind (j ∷ ks) (v ∷ cells) zero k h is = subst (λ l. is_of_kind l v ≡ true) (same_some is) (first (is_of_kind j v) (fits_cells ks cells) h)
  where
    same_some : Some j ≡ Some k → j ≡ k
    same_some e = cc
cell_kind (j ∷ ks) (v ∷ cells) (suc c) k h is = cell_kind ks cells c k (second (is_of_kind j v) (fits_cells ks cells) h) is

part_kind : (kss : List (List Kind)) (parts : List (Option Cells)) (p c : ℕ) (k : Kind) → fits_parts kss parts ≡ true → kind_among (slice_get kss p) c ≡ Some k → is_of_kind k (value_in (slice_get parts p) c) ≡ true
part_kind [] parts p c k h is = cc
part_kind (ks ∷ kss) [] p c k h is = refl
part_kind (ks ∷ kss) (None ∷ parts) zero c k h is = refl
part_kind (ks ∷ kss) (Some cells ∷ parts) zero c k h is = cell_kind ks cells c k (first (fits_cells ks cells) (fits_parts kss parts) h) is
part_kind (ks ∷ kss) (None ∷ parts) (suc p) c k h is = part_kind kss parts p c k h is
part_kind (ks ∷ kss) (Some cells ∷ parts) (suc p) c k h is = part_kind kss parts p c k (second (fits_cells ks cells) (fits_parts kss parts) h) is

pub has_kinds : (leaves : Leaves) (row : Joined) → fits_parts leaves.kinds row.parts ≡ true → HasKinds leaves row
has_kinds leaves row h = λ part column k is. part_kind leaves.kinds row.parts part column k h is

-- ---- values

-- the set of kinds allows the value
abbrev fits_set : KindSet → Value → Type 0
fits_set s value.Null = Unit {0}
fits_set s (value.Text t) = (s.number ≡ false) × (s.truth ≡ false) × (s.day ≡ false) × (s.moment ≡ false)
fits_set s (value.Num n) = (s.text ≡ false) × (s.truth ≡ false) × (s.day ≡ false) × (s.moment ≡ false)
fits_set s (value.Truth b) = (s.text ≡ false) × (s.number ≡ false) × (s.day ≡ false) × (s.moment ≡ false)
fits_set s (value.Day d) = (s.text ≡ false) × (s.number ≡ false) × (s.truth ≡ false) × (s.moment ≡ false)
fits_set s (value.Moment m) = (s.text ≡ false) × (s.number ≡ false) × (s.truth ≡ false) × (s.day ≡ false)

-- a value that a set of kinds allows is of each kind that is in the set
of_kind_in : (s : KindSet) (v : Value) (k : Kind) → fits_set s v → has_kind k s ≡ true → is_of_kind k v ≡ true
of_kind_in s value.Null k f h = refl
of_kind_in s (value.Text x) kind.Text f h = refl
of_kind_in s (value.Text x) kind.Number f h = absurd (false≢true (sym f.0 ∙ h))
of_kind_in s (value.Text x) kind.Truth f h = absurd (false≢true (sym f.1 ∙ h))
of_kind_in s (value.Text x) kind.Day f h = absurd (false≢true (sym f.2 ∙ h))
of_kind_in s (value.Text x) kind.Moment f h = absurd (false≢true (sym f.3 ∙ h))
of_kind_in s (value.Num x) kind.Number f h = refl
of_kind_in s (value.Num x) kind.Text f h = absurd (false≢true (sym f.0 ∙ h))
of_kind_in s (value.Num x) kind.Truth f h = absurd (false≢true (sym f.1 ∙ h))
of_kind_in s (value.Num x) kind.Day f h = absurd (false≢true (sym f.2 ∙ h))
of_kind_in s (value.Num x) kind.Moment f h = absurd (false≢true (sym f.3 ∙ h))
of_kind_in s (value.Truth x) kind.Truth f h = refl
of_kind_in s (value.Truth x) kind.Text f h = absurd (false≢true (sym f.0 ∙ h))
of_kind_in s (value.Truth x) kind.Number f h = absurd (false≢true (sym f.1 ∙ h))
of_kind_in s (value.Truth x) kind.Day f h = absurd (false≢true (sym f.2 ∙ h))
of_kind_in s (value.Truth x) kind.Moment f h = absurd (false≢true (sym f.3 ∙ h))
of_kind_in s (value.Day x) kind.Day f h = refl
of_kind_in s (value.Day x) kind.Text f h = absurd (false≢true (sym f.0 ∙ h))
of_kind_in s (value.Day x) kind.Number f h = absurd (false≢true (sym f.1 ∙ h))
of_kind_in s (value.Day x) kind.Truth f h = absurd (false≢true (sym f.2 ∙ h))
of_kind_in s (value.Day x) kind.Moment f h = absurd (false≢true (sym f.3 ∙ h))
of_kind_in s (value.Moment x) kind.Moment f h = refl
of_kind_in s (value.Moment x) kind.Text f h = absurd (false≢true (sym f.0 ∙ h))
of_kind_in s (value.Moment x) kind.Number f h = absurd (false≢true (sym f.1 ∙ h))
of_kind_in s (value.Moment x) kind.Truth f h = absurd (false≢true (sym f.2 ∙ h))
of_kind_in s (value.Moment x) kind.Day f h = absurd (false≢true (sym f.3 ∙ h))

pub typed-kind : (leaves : Leaves) (row : Joined) → HasKinds leaves row → (k : Kind) (e : Formula) → is_typed leaves k e ≡ true → is_of_kind k (value_of e row) ≡ true
typed-kind leaves row has k e h = of_kind_in (kinds_of leaves e) (value_of e row) k (value_of-fits leaves e row has) (first (has_kind k (kinds_of leaves e)) (are_literals_dated e) h)

pub same_kind : (j k : Kind) → is_same_kind j k ≡ true → j ≡ k
same_kind kind.Text kind.Text h = refl
same_kind kind.Number kind.Number h = refl
same_kind kind.Truth kind.Truth h = refl
same_kind kind.Day kind.Day h = refl
same_kind kind.Moment kind.Moment h = refl
same_kind j k h = cc

-- what is settled is of its kind: where the kind is left open, the value is null
pub settled-kind : (leaves : Leaves) (row : Joined) → HasKinds leaves row → (default k : Kind) (e : Formula) → is_settled leaves default k e ≡ true → is_of_kind k (value_of e row) ≡ true
settled-kind leaves row has default k e h =
    let s = kinds_of leaves e in
    let some = first (not (is_empty s)) (is_same_kind k (settled_kind leaves default e)) (first (not (is_empty s) && is_same_kind k (settled_kind leaves default e)) (are_literals_dated e) h) in
    let same = second (not (is_empty s)) (is_same_kind k (settled_kind leaves default e)) (first (not (is_empty s) && is_same_kind k (settled_kind leaves default e)) (are_literals_dated e) h) in
    subst (λ j. is_of_kind j (value_of e row) ≡ true) (sym (same_kind k (settled_kind leaves default e) same))
    (elim (single s) as (λ o. single s ≡ o → is_of_kind (unwrap_or o default) (value_of e row) ≡ true) [
      | Some j ↦ λ is. of_single s (value_of e row) j (value_of-fits leaves e row has) is
      | None ↦ λ is. subst (λ v. is_of_kind default v ≡ true) (sym (of_several s (value_of e row) (value_of-fits leaves e row has) (not_false (is_empty s) some) is)) refl
    ] refl)
  where
    not_false : (b : Bool) → not b ≡ true → b ≡ false
    not_false true p = absurd (false≢true p)
    not_false false p = refl

-- what is grouped of a typed field is of the field's kind
pub shaped_by : (s : Shape) (j k : Kind) (v : Value) → j ≡ shaped_kind s k → is_of_kind k v ≡ true → is_of_kind j (shaped s j v) ≡ true
shaped_by shape.Plain j k v is h = subst (λ l. is_of_kind l (shaped shape.Plain l v) ≡ true) (sym is) (shaped_kinds shape.Plain k v h)
shaped_by (shape.Tier bounds) j k v is h = subst (λ l. is_of_kind l (shaped (shape.Tier bounds) k v) ≡ true) (sym is) (shaped_kinds (shape.Tier bounds) k v h)
shaped_by (shape.Frame group f) j k v is h = subst (λ l. is_of_kind l (shaped (shape.Frame group f) k v) ≡ true) (sym is) (shaped_kinds (shape.Frame group f) k v h)
