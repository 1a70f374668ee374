-- The order in which lines are sorted is total, only equal lines tie, and on lines of different groups it is that of the definition.
use Rattle.std.proofs.Common.{◌≡◌, ℕ, zero, suc, ◌+◌, Bool, true, false, pos, ◌<ℤ◌, List, [], ◌∷◌, length, map, refl, sym, ap, ◌∙◌, subst, arith, Ordering, Less, Equal, Greater, int_lt}
use Rattle.std.specs.Prelude.{slice_index_or, All, filter, IsPermutation, if◌then◌else◌}
use Rattle.std.specs.List.{AllByRecursion}
use Rattle.std.specs.List.Sorted.{IsSorted, IsStrictlySortedBy}
use Rattle.std.proofs.lemmas.Bool.{false≢true}
use Rattle.std.proofs.lemmas.List.{length-map}
use Rattle.std.proofs.lemmas.List.Sorted.{IsPermutation-map, length_permutation}
use Rattle.lk_val.proofs.SetLaws.{set_of-IsPermutation, set_of-ascending}
use Rattle.std.specs.Ordering.{is_eq, is_lt, ordering_then}
use Rattle.std.specs.Cmp.{IsTotalOrder, then_total, back_total}
use Rattle.std.specs.Cmp.Lexicographic.{slice_cmp, lists_total}
use Rattle.std.specs.FinMap.{slice_cmp-IsAntisymmetric}
use Rattle.std.proofs.lemmas.Cmp.{on_total}
use Rattle.lk_val.specs.Cells.{cell_cmp}
use Rattle.lk_val.specs.Fractions.{Fraction, frac_cmp}
use Rattle.lk_val.specs.Sets.{IsExactOrder, set_of}
use Rattle.lk_val.specs.Values.{tuple_cmp}
use Rattle.lk_val.specs.ValueOrder.{tuples_ordered}
use Rattle.lk_val.specs.declared.value.Value.{Value as TableValue}
use Rattle.lk_val.specs.declared.cell.Cell.{Cell}
use Rattle.lk_val.specs.declared.cell.Cell.TheVariants.{Value, Count, Sum, Frac}
use Rattle.lk_val.proofs.CellOrder.{cell_order, cell_order-cell_cmp, cells_in_order}
use Rattle.lk_val.proofs.FractionLaws.{cmp-value}
use Rattle.lk_val.proofs.FractionSteps.{lt-true, reduced-is}
use Rattle.lk_val.proofs.ValueLaws.{first_tie, second_tie}
use Rattle.lk_types.specs.declared.answer.GroupRow.{GroupRow}
use Rattle.lk_types.specs.declared.bound.Sort.{Sort}
use Rattle.lk_semantics.specs.Answers.{cell_at, cells_cmp, directed, line_cmp}
use Rattle.lk_lines.specs.Lines.{IsPositiveCell, IsPositiveLine, cell_value_order, cells_order, line_order, lowest, lowest_terms, positive}
use Rattle.lk_lines.proofs.SetLaws.{AllPairs, IsApart, all_back, next_differs, sorted_is_set}

positive-is : (f : Fraction) → pos 0 <ℤ f.d → positive (int_lt (pos 0) f.d) f ≡ f
positive-is f h = ap (λ b. positive b f) (lt-true (pos 0) f.d h)

-- of cells whose denominators are above 0 it is the order of cells
pub fractions-lowest : (a b : Fraction) → pos 0 <ℤ a.d → pos 0 <ℤ b.d → cell_value_order (Frac a) (Frac b) ≡ frac_cmp a b
fractions-lowest a b pa pb =
    (λ i. cell_order (Frac (lowest_terms (positive-is a pa i))) (Frac (lowest_terms (positive-is b pb i))))
    ∙ cell_order-cell_cmp (Frac (lowest_terms a)) (Frac (lowest_terms b)) (reduced-is a.n a.d pa) (reduced-is b.n b.d pb)
    ∙ cmp-value a.n a.d b.n b.d pa pb

pub cells-lowest : (a b : Cell) → IsPositiveCell a → IsPositiveCell b → cell_value_order a b ≡ cell_cmp a b
cells-lowest (Value a) (Value b) pa pb = refl
cells-lowest (Count a) (Count b) pa pb = refl
cells-lowest (Sum a) (Sum b) pa pb = refl
cells-lowest (Frac a) (Frac b) pa pb = fractions-lowest a b pa pb
cells-lowest a b pa pb = refl

-- ---- of lines

reversed : {A : Type 0} {R : A → A → Ordering} → IsTotalOrder R → (down : Bool) → IsTotalOrder (λ a b. directed down (R a b))
reversed t false = t
reversed {R = R} t true = subst (λ S. IsTotalOrder S) (λ i a b. t.antisymm b a i) (back_total t)

cells_total : (sorts : List Sort) → IsTotalOrder (cells_order sorts)
cells_total [] = record { antisymm = λ a b. refl; trans = λ a b c p q. p; congr = λ a b c e. refl }
cells_total (s ∷ sorts) =
    then_total (reversed (on_total (λ (cells : List Cell). lowest (cell_at cells s.place)) cells_in_order.total) s.down) (cells_total sorts)

pub lines_total : (sorts : List Sort) → IsTotalOrder (line_order sorts)
lines_total sorts = then_total (on_total (λ (l : GroupRow). l.cells) (cells_total sorts)) (on_total (λ (l : GroupRow). l.group) tuples_ordered.total)

-- and then by all cells, so that only equal lines tie
abbrev full_order : List Sort → GroupRow → GroupRow → Ordering
full_order sorts a b = ordering_then (line_order sorts a b) (slice_cmp cell_order a.cells b.cells)

lines_in_order : (sorts : List Sort) → IsExactOrder (full_order sorts)
lines_in_order sorts = record {
  total = then_total (lines_total sorts) (on_total (λ (l : GroupRow). l.cells) (lists_total cells_in_order.total));
  exact = λ a b e.
      let by_lines : line_order sorts a b ≡ Equal = first_tie (line_order sorts a b) (slice_cmp cell_order a.cells b.cells) e in
      let group : a.group ≡ b.group = tuples_ordered.exact a.group b.group (second_tie (cells_order sorts a.cells b.cells) (tuple_cmp a.group b.group) by_lines) in
      let cells : a.cells ≡ b.cells = slice_cmp-IsAntisymmetric cells_in_order.exact a.cells b.cells (second_tie (line_order sorts a b) (slice_cmp cell_order a.cells b.cells) e) in
      λ i. record { group = group i; cells = cells i };
}

-- what was compared decides where it is no tie
then_less : (c t w : Ordering) → t ≡ Less → (ordering_then c t ≡ ordering_then (ordering_then c t) w) × (is_eq (ordering_then (ordering_then c t) w) ≡ false)
then_less Less t w e = (refl, refl)
then_less Equal Less w e = (refl, refl)
then_less Equal Equal w e = cc
then_less Equal Greater w e = cc
then_less Greater t w e = (refl, refl)

then_not_less : (c t w : Ordering) → is_lt (ordering_then c t) ≡ false → is_eq t ≡ false → is_lt (ordering_then (ordering_then c t) w) ≡ false
then_not_less Less t w l e = absurd (false≢true (sym l))
then_not_less Equal Less w l e = absurd (false≢true (sym l))
then_not_less Equal Equal w l e = absurd (false≢true (sym e))
then_not_less Equal Greater w l e = refl
then_not_less Greater t w l e = refl

at-positive : (cells : List Cell) (place : ℕ) → AllByRecursion IsPositiveCell cells → IsPositiveCell (cell_at cells place)
at-positive [] place h = tt
at-positive (c ∷ cells) zero h = h.0
at-positive (c ∷ cells) (suc place) h = at-positive cells place h.1

cells-agree : (sorts : List Sort) (a b : List Cell) → AllByRecursion IsPositiveCell a → AllByRecursion IsPositiveCell b → cells_cmp sorts a b ≡ cells_order sorts a b
cells-agree [] a b pa pb = refl
cells-agree (s ∷ sorts) a b pa pb = λ i.
    ordering_then (directed s.down (sym (cells-lowest (cell_at a s.place) (cell_at b s.place) (at-positive a s.place pa) (at-positive b s.place pb)) i)) (cells-agree sorts a b pa pb i)

apart : (sorts : List Sort) (a b : GroupRow) → IsPositiveLine a → IsPositiveLine b → tuple_cmp a.group b.group ≡ Less → IsApart (line_cmp sorts) (full_order sorts) a b
apart sorts a b pa pb before =
    let less = then_less (cells_order sorts a.cells b.cells) (tuple_cmp a.group b.group) (slice_cmp cell_order a.cells b.cells) before in
    (ap (λ o. ordering_then o (tuple_cmp a.group b.group)) (cells-agree sorts a.cells b.cells (all_back IsPositiveCell a.cells pa) (all_back IsPositiveCell b.cells pb)) ∙ less.0, less.1)

all-apart : (sorts : List Sort) (a : GroupRow) (lines : List GroupRow) → IsPositiveLine a → AllByRecursion IsPositiveLine lines
    → AllByRecursion (λ g. tuple_cmp a.group g ≡ Less) (map (λ line. line.group) lines) → AllByRecursion (IsApart (line_cmp sorts) (full_order sorts) a) lines
all-apart sorts a [] pa ps h = tt
all-apart sorts a (b ∷ lines) pa ps h = (apart sorts a b pa ps.0 h.0, all-apart sorts a lines pa ps.1 h.1)

pairs-apart : (sorts : List Sort) (lines : List GroupRow) → AllByRecursion IsPositiveLine lines → IsStrictlySortedBy tuple_cmp (map (λ line. line.group) lines)
    → AllPairs (IsApart (line_cmp sorts) (full_order sorts)) lines
unfolding IsStrictlySortedBy
pairs-apart sorts [] ps h = tt
pairs-apart sorts (a ∷ lines) ps h = (all-apart sorts a lines ps.0 ps.1 h.0, pairs-apart sorts lines ps.1 h.1)

abbrev groups_of_lines : List GroupRow → List (List TableValue)
groups_of_lines lines = map (λ line. line.group) lines

group_at : (lines : List GroupRow) (k : ℕ) (d : GroupRow) → slice_index_or (groups_of_lines lines) k d.group ≡ (slice_index_or lines k d).group
group_at [] k d = refl
group_at (l ∷ lines) zero d = refl
group_at (l ∷ lines) (suc k) d = group_at lines k d

-- where the groups of sorted lines differ, they are sorted by all cells too
full_sorted : (sorts : List Sort) (ys : List GroupRow) → length (set_of tuple_cmp (groups_of_lines ys)) ≡ length (groups_of_lines ys) → IsSorted (line_order sorts) ys → IsSorted (full_order sorts) ys
full_sorted sorts ys many s = λ k d low high.
    let next : suc k ≡ k + 1 = omega arith in
    let a = slice_index_or ys (k + 1) d in
    let b = slice_index_or ys k d in
    let differ : is_eq (tuple_cmp (slice_index_or (groups_of_lines ys) (suc k) d.group) (slice_index_or (groups_of_lines ys) k d.group)) ≡ false =
    next_differs tuples_ordered (groups_of_lines ys) k d.group (omega (arith, high, length-map ys (λ (line : GroupRow). line.group))) many in
    let first : slice_index_or (groups_of_lines ys) (suc k) d.group ≡ a.group = group_at ys (suc k) d ∙ ap (λ n. (slice_index_or ys n d).group) next in
    then_not_less (cells_order sorts a.cells b.cells) (tuple_cmp a.group b.group) (slice_cmp cell_order a.cells b.cells) (s k d low high)
    (ap is_eq (sym (λ i. tuple_cmp (first i) (group_at ys k d i))) ∙ differ)

-- sorted lines of different groups are the set of the definition
pub sorted_lines : (sorts : List Sort) (lines ys : List GroupRow) → IsStrictlySortedBy tuple_cmp (map (λ line. line.group) lines) → All IsPositiveLine lines
    → IsPermutation lines ys → IsSorted (line_order sorts) ys → ys ≡ set_of (line_cmp sorts) lines
sorted_lines sorts lines ys ascends positive moved s =
    let one : set_of tuple_cmp (groups_of_lines lines) ≡ groups_of_lines lines = set_of-ascending tuples_ordered (groups_of_lines lines) ascends in
    let same : set_of tuple_cmp (groups_of_lines lines) ≡ set_of tuple_cmp (groups_of_lines ys) =
    set_of-IsPermutation tuples_ordered (groups_of_lines lines) (groups_of_lines ys) (IsPermutation-map (λ (line : GroupRow). line.group) lines ys moved) in
    let many : length (set_of tuple_cmp (groups_of_lines ys)) ≡ length (groups_of_lines ys) =
    ap length (sym same ∙ one) ∙ length-map lines (λ (line : GroupRow). line.group) ∙ sym (length_permutation lines ys moved) ∙ sym (length-map ys (λ (line : GroupRow). line.group)) in
    sorted_is_set (line_cmp sorts) (full_order sorts) (lines_in_order sorts) lines ys (pairs-apart sorts lines (all_back IsPositiveLine lines positive) ascends) moved
    (full_sorted sorts ys many s)

-- ---- the groups of lines

all-filtered : (P : List TableValue → Type 0) (p : GroupRow → Bool) (rows : List GroupRow) → AllByRecursion P (map (λ row. row.group) rows) → AllByRecursion P (map (λ row. row.group) (filter p rows))
all-filtered P p [] h = tt
all-filtered P p (r ∷ rows) h =
    elim (p r) as (λ b. AllByRecursion P (map (λ row. row.group) (if b then r ∷ filter p rows else filter p rows))) [
      | true ↦ (h.0, all-filtered P p rows h.1)
      | false ↦ all-filtered P p rows h.1
    ]

pub ascends-filtered : (p : GroupRow → Bool) (rows : List GroupRow) → IsStrictlySortedBy tuple_cmp (map (λ row. row.group) rows) → IsStrictlySortedBy tuple_cmp (map (λ row. row.group) (filter p rows))
unfolding IsStrictlySortedBy
ascends-filtered p [] h = tt
ascends-filtered p (r ∷ rows) h =
    elim (p r) as (λ b. IsStrictlySortedBy tuple_cmp (map (λ row. row.group) (if b then r ∷ filter p rows else filter p rows))) [
      | true ↦ (all-filtered _ p rows h.0, ascends-filtered p rows h.1)
      | false ↦ ascends-filtered p rows h.1
    ]
