-- What is refused spells no tree, and the answer is its first fault.
use Rattle.std.proofs.Common.{◌≡◌, ℕ, nat_lt, zero, suc, pred, Bool, true, false, cond, ◌+◌, ◌<◌, ◌≤◌, List, [], ◌∷◌, ◌++◌, ◌⊎◌, inl, inr, Option, Some, None, length, Result, Ok, Err, refl, sym, ap, ◌∙◌, subst, arith, append_assoc}
use Rattle.std.proofs.lemmas.Bool.{ltb-true, lt-ltb}
use Rattle.lk_read.specs.declared.read_fault.ReadFault.{ReadFault}
use Rattle.lk_read.specs.declared.read_fault.ReadFault.TheVariants as fault
use Rattle.lk_read.specs.declared.phase.Slot.TheVariants as slot
use Rattle.lk_read.specs.declared.phase.Phase.{Phase}
use Rattle.lk_read.specs.declared.phase.Phase.TheVariants as phase
use Rattle.lk_read.specs.declared.reader.Reader.{Reader}
use Rattle.lk_read.specs.Outline.{Plain, word, Outline, no_more, leaf, branch}
use Rattle.lk_read.specs.Lines.{Line, lines, plain, block, closing}
use Rattle.lk_read.specs.Built.{Built, first_of}
use Rattle.lk_read.specs.Grammar.{AreLines, SpellsLines, IsFile}
use Rattle.lk_read.specs.BreaksOff.{BreaksOff}
use Rattle.lk_read.specs.Faults.{Begins, Ends, IsFaultOf, IsFirstFault}
use Rattle.lk_read.specs.Reading.{Step, read_lines, read_from, then_read, start_of_file, whole, missing, end_at, step, with_plain}
use Rattle.lk_read.proofs.Cuts.{IsCut}
use Rattle.lk_read.proofs.Steps.{Back}
use Rattle.lk_read.proofs.Alive.{alive}
use Rattle.lk_read.proofs.Stops.{Kind, step_kind}
use Rattle.lk_read.proofs.Found.{found}
use Rattle.lk_read.proofs.Complete.{complete, complete_from}
use Rattle.lk_read.proofs.Broken.{step_back, ended, with_comment}

-- ---- lines that are spelled are those of a tree

-- the lines of open blocks, each up to its end, and then those of a tree
abbrev Closed : ℕ → List Line → Type 0
Closed zero all = (tree : Outline) × (lines tree ≡ all)
Closed (suc depth) all = (tree : Outline) × (rest : List Line) × (lines tree ++ closing ∷ rest ≡ all) × Closed depth rest

with_leaf : (depth : ℕ) (name : List ℕ) (place : ℕ) (value : Plain) (all : List Line) → Closed depth all → Closed depth (plain name place value ∷ all)
with_leaf zero name place value all (tree, e) = (leaf name place value tree, ap (λ x. plain name place value ∷ x) e)
with_leaf (suc depth) name place value all (tree, rest, e, c) = (leaf name place value tree, rest, ap (λ x. plain name place value ∷ x) e, c)

with_branch : (depth : ℕ) (name : List ℕ) (place : ℕ) (title : Option (List ℕ)) (all : List Line) → Closed (suc depth) all → Closed depth (block name place title ∷ all)
with_branch zero name place title all (inner, rest, e, (outer, f)) =
    (branch name place title inner outer, ap (λ x. block name place title ∷ x) (ap (λ x. lines inner ++ closing ∷ x) f ∙ e))
with_branch (suc depth) name place title all (inner, rest, e, (outer, behind, f, c)) = (
  branch name place title inner outer,
  behind,
  ap (λ x. block name place title ∷ x) (append_assoc (lines inner) (closing ∷ lines outer) (closing ∷ behind) ∙ ap (λ x. lines inner ++ closing ∷ x) f ∙ e),
  c,
)

with_end : (depth : ℕ) (all : List Line) → 0 < depth → Closed (pred depth) all → Closed depth (closing ∷ all)
with_end zero all h c = absurd (omega arith)
with_end (suc depth) all h c = (no_more, all, refl, c)

closed_lines : (most size depth : ℕ) (text : List ℕ) (all : List Line) → AreLines most size depth text all → Closed depth all
closed_lines most size depth text [] w = subst (λ d. Closed d []) (sym w.0) (no_more, refl)
closed_lines most size depth text (plain name place value ∷ all) w = with_leaf depth name place value all (closed_lines most size depth w.1 all w.4)
closed_lines most size depth text (block name place title ∷ all) w = with_branch depth name place title all (closed_lines most size (suc depth) w.1 all w.4)
closed_lines most size depth text (closing ∷ all) w = with_end depth all w.2.0 (closed_lines most size (pred depth) w.1 all w.4)

pub tree_of : (most : ℕ) (text : List ℕ) (all : List Line) → SpellsLines most text all → (tree : Outline) × IsFile most text tree
tree_of most text all w =
    let c = closed_lines most (length text) 0 w.0 all w.2 in
    (c.0, subst (SpellsLines most text) (sym c.1) w)

-- ---- runs

abbrev pub then_step : Step → (Reader → Step) → Step
then_step (Ok reader) rest = rest reader
then_step (Err why) rest = Err why

-- the reader behind a text
abbrev pub run_to : ℕ → ℕ → Reader → List ℕ → Step
run_to most place reader [] = Ok reader
run_to most place reader (b ∷ text) = then_step (step most reader place b) (λ next. run_to most (place + 1) next text)

pub ok_step : (s : Step) (f : Reader → Step) (last : Reader) → then_step s f ≡ Ok last → (next : Reader) × (s ≡ Ok next) × (f next ≡ Ok last)
ok_step (Ok next) f last h = (next, refl, h)
ok_step (Err why) f last h = cc

pub ok_read : (s : Step) (f : Reader → Result (List Line) ReadFault) (all : List Line) → then_read s f ≡ Ok all → (next : Reader) × (s ≡ Ok next) × (f next ≡ Ok all)
ok_read (Ok next) f all h = (next, refl, h)
ok_read (Err why) f all h = cc

pub ok_same : (x y : Reader) (s : Step) → s ≡ Ok x → s ≡ Ok y → x ≡ y
ok_same x y s p q = cc

never : (x : Reader) (why : ReadFault) (s : Step) → s ≡ Ok x → s ≡ Err why → ⊥
never x why s p q = cc

pub never_read : (x : List Line) (why : ReadFault) (s : Result (List Line) ReadFault) → s ≡ Ok x → s ≡ Err why → ⊥
never_read x why s p q = cc

opens_ok : (n m : ℕ) (x next : Reader) (why : ReadFault) → cond (nat_lt n m) (Ok x) (Err why) ≡ Ok next → (nat_lt n m ≡ true) × (x ≡ next)
opens_ok n m x next why h = by_test (nat_lt n m) h
  where
    by_test : (c : Bool) → cond c (Ok x) (Err why) ≡ Ok next → (c ≡ true) × (x ≡ next)
    by_test true e = (refl, cc)
    by_test false e = cc

opens_err : (n m : ℕ) (x : Reader) (why other : ReadFault) → cond (nat_lt n m) (Ok x) (Err why) ≡ Err other → (nat_lt n m ≡ false) × (other ≡ why)
opens_err n m x why other h = by_test (nat_lt n m) h
  where
    by_test : (c : Bool) → cond c (Ok x) (Err why) ≡ Err other → (c ≡ false) × (other ≡ why)
    by_test true e = cc
    by_test false e = (refl, cc)

-- a step that goes on does so where more may be open
step_more : (place most more : ℕ) (f : ℕ → Step) (next : Reader) → Kind place f → most ≤ more → f most ≡ Ok next → f more ≡ Ok next
step_more place most more f next (inl (x, all)) le h = all more ∙ sym (all most) ∙ h
step_more place most more f next (inr (inl all)) le h = absurd (never next (fault.R4 place) (f most) h (all most))
step_more place most more f next (inr (inr (x, n, all))) le h =
    let w = opens_ok n most x next (fault.R5 place) (sym (all most) ∙ h) in
    let lt : n < more = omega (arith, ltb-true n most w.0) in
    all more ∙ ap (λ c. cond c (Ok x) (Err (fault.R5 place))) (lt-ltb n more lt) ∙ ap Ok w.1

-- where two bounds both let a step go on, it goes on alike
step_same : (place most other : ℕ) (f : ℕ → Step) (next there : Reader) → Kind place f → f most ≡ Ok next → f other ≡ Ok there → there ≡ next
step_same place most other f next there (inl (x, all)) h g = ok_same there next (f other) g (all other ∙ sym (all most) ∙ h)
step_same place most other f next there (inr (inl all)) h g = absurd (never next (fault.R4 place) (f most) h (all most))
step_same place most other f next there (inr (inr (x, n, all))) h g =
    let p = opens_ok n most x next (fault.R5 place) (sym (all most) ∙ h) in
    let q = opens_ok n other x there (fault.R5 place) (sym (all other) ∙ g) in
    sym q.1 ∙ p.1

kind_of : (reader : Reader) (place b : ℕ) → Kind place (λ most. step most reader place b)
kind_of reader place b = step_kind place b reader.builder reader.phase reader.comment

run_more : (most more place : ℕ) (reader last : Reader) (text : List ℕ) → most ≤ more → run_to most place reader text ≡ Ok last → run_to more place reader text ≡ Ok last
run_more most more place reader last [] le h = h
run_more most more place reader last (b ∷ text) le h =
    let w = ok_step (step most reader place b) (λ next. run_to most (place + 1) next text) last h in
    let s = step_more place most more (λ m. step m reader place b) w.0 (kind_of reader place b) le w.1 in
    ap (λ x. then_step x (λ next. run_to more (place + 1) next text)) s ∙ run_more most more (place + 1) w.0 last text le w.2

-- the rest is read from the reader behind the front
pub read_after : (most place here : ℕ) (reader last : Reader) (front rest : List ℕ) → here ≡ place + length front → run_to most place reader front ≡ Ok last → read_from most place reader (front ++ rest) ≡ read_from most here last rest
read_after most place here reader last [] rest at h =
    let same : reader ≡ last = ok_same reader last (Ok reader) refl h in
    let spot : place ≡ here = omega arith in
    λ i. read_from most (spot i) (same i) rest
read_after most place here reader last (b ∷ front) rest at h =
    let w = ok_step (step most reader place b) (λ next. run_to most (place + 1) next front) last h in
    ap (λ x. then_read x (λ next. read_from most (place + 1) next (front ++ rest))) w.1
    ∙ read_after most (place + 1) here w.0 last front rest (omega arith) w.2

-- so it is where another bound lets it be read
read_same : (most other place here : ℕ) (reader last : Reader) (front rest : List ℕ) (all : List Line) → here ≡ place + length front → run_to most place reader front ≡ Ok last → read_from other place reader (front ++ rest) ≡ Ok all → read_from other here last rest ≡ Ok all
read_same most other place here reader last [] rest all at h g =
    let same : reader ≡ last = ok_same reader last (Ok reader) refl h in
    let spot : place ≡ here = omega arith in
    sym (λ i. read_from other (spot i) (same i) rest) ∙ g
read_same most other place here reader last (b ∷ front) rest all at h g =
    let w = ok_step (step most reader place b) (λ next. run_to most (place + 1) next front) last h in
    let v = ok_read (step other reader place b) (λ next. read_from other (place + 1) next (front ++ rest)) all g in
    let same = step_same place most other (λ m. step m reader place b) w.0 v.0 (kind_of reader place b) w.1 v.1 in
    read_same most other (place + 1) here w.0 last front rest all (omega arith) w.2
    (subst (λ x. read_from other (place + 1) x (front ++ rest) ≡ Ok all) same v.2)

-- one more byte
run_one : (most place here : ℕ) (reader last next : Reader) (front : List ℕ) (b : ℕ) → here ≡ place + length front → run_to most place reader front ≡ Ok last → step most last here b ≡ Ok next → run_to most place reader (front ++ b ∷ []) ≡ Ok next
run_one most place here reader last next [] b at h g =
    let same : reader ≡ last = ok_same reader last (Ok reader) refl h in
    let spot : place ≡ here = omega arith in
    ap (λ x. then_step x (λ r. Ok r)) ((λ i. step most (same i) (spot i) b) ∙ g)
run_one most place here reader last next (c ∷ front) b at h g =
    let w = ok_step (step most reader place c) (λ r. run_to most (place + 1) r front) last h in
    ap (λ x. then_step x (λ r. run_to most (place + 1) r (front ++ b ∷ []))) w.1
    ∙ run_one most (place + 1) here w.0 last next front b (omega arith) w.2 g

-- ---- where a text stops

-- what has been read begins a text of the grammar
begins : (most : ℕ) (front : List ℕ) (last : Reader) → run_to most 0 start_of_file front ≡ Ok last → Begins most front
unfolding read_lines
begins most front last h =
    let a = alive most last in
    let size : ℕ = length front + length a.0 in
    let behind = complete_from most size a.0 (length front) last a.1 refl (a.2 size) in
    let at : length front ≡ 0 + length front = omega arith in
    let spelled = found most (front ++ a.0) a.1 (read_after most 0 (length front) start_of_file last front a.0 at h ∙ behind) in
    let tree = tree_of most (front ++ a.0) a.1 spelled in
    (a.0, tree.0, tree.1)

-- a text of the grammar that begins so is read on from there
reads_on : (most other : ℕ) (front rest : List ℕ) (last : Reader) (tree : Outline) → run_to most 0 start_of_file front ≡ Ok last → IsFile other (front ++ rest) tree → read_from other (length front) last rest ≡ Ok (lines tree)
unfolding read_lines
reads_on most other front rest last tree h is =
    let at : length front ≡ 0 + length front = omega arith in
    read_same most other 0 (length front) start_of_file last front rest (lines tree) at h (complete other (front ++ rest) (lines tree) is)

-- behind the byte no text of the grammar goes on, where the step refuses it
stuck : (most other : ℕ) (front : List ℕ) (b : ℕ) (last : Reader) (why : ReadFault) → run_to most 0 start_of_file front ≡ Ok last → step other last (length front) b ≡ Err why → Begins other (front ++ b ∷ []) → ⊥
stuck most other front b last why h e (rest, tree, is) =
    let there = subst (λ x. IsFile other x tree) (append_assoc front (b ∷ []) rest) is in
    let v = ok_read (step other last (length front) b) (λ next. read_from other (length front + 1) next rest) (lines tree) (reads_on most other front (b ∷ rest) last tree h there) in
    never v.0 why (step other last (length front) b) v.1 e

stops : (most : ℕ) (front rest : List ℕ) (b : ℕ) (last : Reader) (why : ReadFault) → run_to most 0 start_of_file front ≡ Ok last → step most last (length front) b ≡ Err why → Kind (length front) (λ m. step m last (length front) b) → IsFaultOf most (front ++ b ∷ rest) why
stops most front rest b last why h e (inl (x, all)) = absurd (never x why (step most last (length front) b) (all most) e)
stops most front rest b last why h e (inr (inl all)) =
    let is : fault.R4 (length front) ≡ why = err_same (fault.R4 (length front)) why (step most last (length front) b) (all most) e in
    subst (IsFaultOf most (front ++ b ∷ rest)) is
    (inl (
      front,
      rest,
      b,
      refl,
      refl,
      begins most front last h,
      stuck most most front b last why h e,
      λ (other, deep). stuck most other front b last (fault.R4 (length front)) h (all other) deep,
    ))
  where
    err_same : (x y : ReadFault) (s : Step) → s ≡ Err x → s ≡ Err y → x ≡ y
    err_same x y s p q = cc
stops most front rest b last why h e (inr (inr (x, n, all))) =
    let w = opens_err n most x (fault.R5 (length front)) why (sym (all most) ∙ e) in
    let more : ℕ = most + n + 1 in
    let lt : n < more = omega arith in
    let le : most ≤ more = omega arith in
    let next = all more ∙ ap (λ c. cond c (Ok x) (Err (fault.R5 (length front)))) (lt-ltb n more lt) in
    let at : length front ≡ 0 + length front = omega arith in
    let one = run_one more 0 (length front) start_of_file last x front b at (run_more most more 0 start_of_file last front le h) next in
    subst (IsFaultOf most (front ++ b ∷ rest)) (sym w.1)
    (front, rest, b, refl, refl, begins most front last h, stuck most most front b last why h e, (more, begins more (front ++ b ∷ []) x one))

-- ---- where a text ends

back_at : (most size : ℕ) (why : ReadFault) (text : List ℕ) (s : Step) (next : Reader) (Goal : Type 0) → s ≡ Ok next → Back (λ r. IsCut most size why r text) Goal s → IsCut most size why next text → Goal
back_at most size why text s next Goal e back cut = (subst (Back (λ r. IsCut most size why r text) Goal) e back) cut

cut_from : (most size place : ℕ) (why : ReadFault) (text : List ℕ) (reader last : Reader) → place + length text ≡ size → run_to most place reader text ≡ Ok last → end_at last.builder last.phase size ≡ Err why → IsCut most size why reader text
cut_from most size place why [] reader last at h e =
    let same : last ≡ reader = sym (ok_same reader last (Ok reader) refl h) in
    let here : end_at reader.builder reader.phase size ≡ Err why = subst (λ r. end_at r.builder r.phase size ≡ Err why) same e in
    with_comment most size why reader.builder reader.phase reader.comment (ended most size why reader.builder reader.phase size refl here)
cut_from most size place why (b ∷ text) reader last at h e =
    let w = ok_step (step most reader place b) (λ next. run_to most (place + 1) next text) last h in
    back_at most size why text (step most reader place b) w.0 (IsCut most size why reader (b ∷ text)) w.1
    (step_back most size why text reader.builder reader.phase reader.comment place b at)
    (cut_from most size (place + 1) why text w.0 last (omega arith) w.2 e)

breaks : (most : ℕ) (why : ReadFault) (text : List ℕ) (last : Reader) → run_to most 0 start_of_file text ≡ Ok last → end_at last.builder last.phase (length text) ≡ Err why → BreaksOff most text why
breaks most why text last h e =
    let c = cut_from most (length text) 0 why text start_of_file last (omega arith) h e in
    (c.0, c.1, c.2.0, c.2.1, c.2.2, c.2.3, c.2.4)

-- ---- the faults of an end

abbrev IsEnd : ReadFault → Type 0
IsEnd (fault.R5 place) = ⊥
IsEnd fault.NoMemory = ⊥
IsEnd why = Unit {0}

abbrev EndsWell : Result (List Line) ReadFault → Type 0
EndsWell (Ok all) = Unit {0}
EndsWell (Err why) = IsEnd why

missing_ends : (brace : Option ℕ) (place : ℕ) → EndsWell (missing brace place)
missing_ends None place = tt
missing_ends (Some brace) place = tt

whole_ends : (built : Built) (brace : Option ℕ) → EndsWell (whole built brace)
whole_ends built None = tt
whole_ends built (Some brace) = tt

end_ends : (built : Built) (now : Phase) (place : ℕ) → EndsWell (end_at built now place)
end_ends built phase.Between place = whole_ends built (first_of built.open_braces)
end_ends built (phase.Name name start) place = missing_ends (first_of built.open_braces) place
end_ends built (phase.Colon param) place = missing_ends (first_of built.open_braces) place
end_ends built (phase.Start param slot.Value) place = missing_ends (first_of built.open_braces) place
end_ends built (phase.Start param (slot.Entry open_list)) place = tt
end_ends built (phase.Start param (slot.Pair open_list key)) place = tt
end_ends built (phase.Word param slot.Value text) place = whole_ends (with_plain built param (word text)) (first_of built.open_braces)
end_ends built (phase.Word param (slot.Entry open_list) text) place = tt
end_ends built (phase.Word param (slot.Pair open_list key) text) place = tt
end_ends built (phase.Behind param slot.Value text) place = whole_ends (with_plain built param (word text)) (first_of built.open_braces)
end_ends built (phase.Behind param (slot.Entry open_list) text) place = tt
end_ends built (phase.Behind param (slot.Pair open_list key) text) place = tt
end_ends built (phase.Comma param open_list) place = tt
end_ends built (phase.Quoted param spot quote text utf8) place = tt
end_ends built (phase.Escape param spot quote text) place = tt
end_ends built (phase.Code param raw utf8) place = tt
end_ends built (phase.Semicolon param raw) place = tt

at_end : (most : ℕ) (text : List ℕ) (why : ReadFault) → IsEnd why → Ends most text why → IsFaultOf most text why
at_end most text (fault.R1 place) is e = e
at_end most text (fault.R2 place) is e = e
at_end most text (fault.R3 place) is e = e
at_end most text (fault.R4 place) is e = inr e
at_end most text (fault.R5 place) is e = absurd is
at_end most text fault.NoMemory is e = absurd is

-- ---- the fault

-- a refused text stops at a byte, or is read to its end
abbrev Stopped : ℕ → ℕ → Reader → List ℕ → ReadFault → Type 0
Stopped most place reader text why =
    ((front rest : List ℕ) × (b here : ℕ) × (last : Reader) × (text ≡ front ++ b ∷ rest) × (here ≡ place + length front)
    × (run_to most place reader front ≡ Ok last) × (step most last here b ≡ Err why))
    ⊎ ((last : Reader) × (here : ℕ) × (here ≡ place + length text) × (run_to most place reader text ≡ Ok last)
    × (end_at last.builder last.phase here ≡ Err why))

one_more : (most place b : ℕ) (reader next : Reader) (text : List ℕ) (why : ReadFault) → step most reader place b ≡ Ok next → Stopped most (place + 1) next text why → Stopped most place reader (b ∷ text) why
one_more most place b reader next text why e (inl (front, rest, c, here, last, f, at, h, s)) =
    inl (b ∷ front, rest, c, here, last, ap (λ x. b ∷ x) f, omega arith, ap (λ x. then_step x (λ r. run_to most (place + 1) r front)) e ∙ h, s)
one_more most place b reader next text why e (inr (last, here, at, h, s)) =
    inr (last, here, omega arith, ap (λ x. then_step x (λ r. run_to most (place + 1) r text)) e ∙ h, s)

stopped : (most place : ℕ) (reader : Reader) (text : List ℕ) (why : ReadFault) → read_from most place reader text ≡ Err why → Stopped most place reader text why
stopped most place reader [] why h = inr (reader, place, omega arith, refl, h)
stopped most place reader (b ∷ text) why h =
    by_step (step most reader place b) refl h (λ next g. stopped most (place + 1) next text why g)
  where
    by_step : (s : Step) → step most reader place b ≡ s → then_read s (λ next. read_from most (place + 1) next text) ≡ Err why → ((next : Reader) → read_from most (place + 1) next text ≡ Err why → Stopped most (place + 1) next text why) → Stopped most place reader (b ∷ text) why
    by_step (Ok next) e g again = one_more most place b reader next text why e (again next g)
    by_step (Err other) e g again =
        let same : other ≡ why = cc in
        inl ([], text, b, place, reader, refl, omega arith, refl, e ∙ ap Err same)

first_fault : (most : ℕ) (text : List ℕ) (why : ReadFault) → Stopped most 0 start_of_file text why → IsFaultOf most text why
first_fault most text why (inl (front, rest, b, here, last, f, at, h, s)) =
    let spot : here ≡ length front = omega arith in
    let there : step most last (length front) b ≡ Err why = subst (λ x. step most last x b ≡ Err why) spot s in
    subst (λ x. IsFaultOf most x why) (sym f) (stops most front rest b last why h there (kind_of last (length front) b))
first_fault most text why (inr (last, here, at, h, s)) =
    let spot : here ≡ length text = omega arith in
    let there : end_at last.builder last.phase (length text) ≡ Err why = subst (λ x. end_at last.builder last.phase x ≡ Err why) spot s in
    let is : IsEnd why = subst EndsWell there (end_ends last.builder last.phase (length text)) in
    at_end most text why is (begins most text last h, breaks most why text last h there)

-- what is refused spells no tree, and this is its first fault
pub refused : (most : ℕ) (text : List ℕ) (why : ReadFault) → read_lines most text ≡ Err why → IsFirstFault most text why
unfolding read_lines
refused most text why h = record {
  refused = λ tree is. never_read (lines tree) why (read_lines most text) (complete most text (lines tree) is) h;
  first = first_fault most text why (stopped most 0 start_of_file text why h);
}
