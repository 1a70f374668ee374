-- A text spells a tree or has one fault.
use Rattle.std.proofs.Common.{◌≡◌, ℕ, ◌+◌, ◌⊎◌, inl, inr, List, [], ◌∷◌, ◌++◌, length, Result, Ok, Err, refl, sym, ap, ◌∙◌, subst, arith, append_assoc}
use Rattle.std.proofs.lemmas.List.{append-nil}
use Rattle.lk_read.specs.declared.read_fault.ReadFault.{ReadFault}
use Rattle.lk_read.specs.declared.read_fault.ReadFault.TheVariants as fault
use Rattle.lk_read.specs.declared.reader.Reader.{Reader}
use Rattle.lk_read.specs.Outline.{Outline}
use Rattle.lk_read.specs.Lines.{Line, lines}
use Rattle.lk_read.specs.Grammar.{IsFile}
use Rattle.lk_read.specs.BreaksOff.{BreaksOff}
use Rattle.lk_read.specs.Faults.{Begins, BeginsDeep, StopsAt, Ends, IsFaultOf}
use Rattle.lk_read.specs.Reading.{Step, read_lines, read_from, start_of_file, end_at, step}
use Rattle.lk_read.proofs.Cuts.{IsCut}
use Rattle.lk_read.proofs.Complete.{complete}
use Rattle.lk_read.proofs.Found.{found}
use Rattle.lk_read.proofs.Onward.{Then, step_on, end_on, without_comment}
use Rattle.lk_read.proofs.Refused.{run_to, then_step, ok_step, ok_same, ok_read, never_read, tree_of, read_after, refused}

-- ---- where a text breaks off, the fault is the one that the reader names

then_at : (Rest : Reader → Type 0) (s : Step) (next : Reader) → s ≡ Ok next → Then Rest s → Rest next
then_at Rest s next e h = subst (Then Rest) e h

cut_on : (most size place : ℕ) (why : ReadFault) (text : List ℕ) (reader last : Reader) → place + length text ≡ size → run_to most place reader text ≡ Ok last → IsCut most size why reader text → end_at last.builder last.phase size ≡ Err why
cut_on most size place why [] reader last at h cut =
    let same : reader ≡ last = ok_same reader last (Ok reader) refl h in
    subst (λ r. end_at r.builder r.phase size ≡ Err why) same
    (end_on most size why reader.builder reader.phase (without_comment most size why reader.builder reader.phase reader.comment cut))
cut_on most size place why (b ∷ text) reader last at h cut =
    let w = ok_step (step most reader place b) (λ next. run_to most (place + 1) next text) last h in
    cut_on most size (place + 1) why text w.0 last (omega arith) w.2
    (then_at (λ next. IsCut most size why next text) (step most reader place b) w.0 w.1
    (step_on most size why text reader.builder reader.phase reader.comment place b at cut))

breaks_as : (most : ℕ) (text : List ℕ) (why : ReadFault) (last : Reader) → run_to most 0 start_of_file text ≡ Ok last → BreaksOff most text why → end_at last.builder last.phase (length text) ≡ Err why
breaks_as most text why last h w =
    cut_on most (length text) 0 why text start_of_file last (omega arith) h (w.0, w.1, (w.2, w.3, w.4, w.5, w.6))

-- the reader goes on over a front of a text that is read
run_of : (most place : ℕ) (reader : Reader) (front rest : List ℕ) (all : List Line) → read_from most place reader (front ++ rest) ≡ Ok all → (last : Reader) × (run_to most place reader front ≡ Ok last)
run_of most place reader [] rest all h = (reader, refl)
run_of most place reader (b ∷ front) rest all h =
    let w = ok_read (step most reader place b) (λ next. read_from most (place + 1) next (front ++ rest)) all h in
    let r = run_of most (place + 1) w.0 front rest all w.2 in
    (r.0, ap (λ x. then_step x (λ next. run_to most (place + 1) next front)) w.1 ∙ r.1)

begun_run : (most : ℕ) (front : List ℕ) → Begins most front → (last : Reader) × (run_to most 0 start_of_file front ≡ Ok last)
unfolding read_lines
begun_run most front (rest, tree, is) = run_of most 0 start_of_file front rest (lines tree) (complete most (front ++ rest) (lines tree) is)

ends_same : (most : ℕ) (text : List ℕ) (one other : ReadFault) → Ends most text one → Ends most text other → one ≡ other
ends_same most text one other p q =
    let run = begun_run most text p.0 in
    err_same one other (end_at run.0.builder run.0.phase (length text)) (breaks_as most text one run.0 run.1 p.1) (breaks_as most text other run.0 run.1 q.1)
  where
    err_same : (x y : ReadFault) (z : Result (List Line) ReadFault) → z ≡ Err x → z ≡ Err y → x ≡ y
    err_same x y z p q = cc

-- ---- where a text stops, no other place is one

begins_less : (most : ℕ) (front more : List ℕ) → Begins most (front ++ more) → Begins most front
begins_less most front more (rest, tree, is) = (more ++ rest, tree, subst (λ x. IsFile most x tree) (append_assoc front more rest) is)

-- a front that stops is none that another goes beyond
abbrev Beyond : List ℕ → List ℕ → Type 0
Beyond front other = (b : ℕ) (rest there : List ℕ) (c : ℕ) → front ++ b ∷ rest ≡ other ++ c ∷ there → ((more : List ℕ) × (other ≡ front ++ b ∷ more)) ⊎ (((more : List ℕ) × (front ≡ other ++ c ∷ more)) ⊎ ((front ≡ other) × (b ≡ c)))

parted : (front other : List ℕ) → Beyond front other
parted [] [] b rest there c e = let same : b ≡ c = cc in inr (inr (refl, same))
parted [] (y ∷ other) b rest there c e = let same : y ≡ b = cc in inl (other, ap (λ x. x ∷ other) same)
parted (x ∷ front) [] b rest there c e = let same : x ≡ c = cc in inr (inl (front, ap (λ z. z ∷ front) same))
parted (x ∷ front) (y ∷ other) b rest there c e =
    let same : x ≡ y = cc in
    let tails : front ++ b ∷ rest ≡ other ++ c ∷ there = cc in
    with_first x y same (parted front other b rest there c tails)
  where
    with_first : (x y : ℕ) → x ≡ y
        → ((more : List ℕ) × (other ≡ front ++ b ∷ more)) ⊎ (((more : List ℕ) × (front ≡ other ++ c ∷ more)) ⊎ ((front ≡ other) × (b ≡ c)))
        → ((more : List ℕ) × (y ∷ other ≡ x ∷ (front ++ b ∷ more))) ⊎ (((more : List ℕ) × (x ∷ front ≡ y ∷ (other ++ c ∷ more))) ⊎ ((x ∷ front ≡ y ∷ other) × (b ≡ c)))
    with_first x y s (inl (more, f)) = inl (more, λ i. sym s i ∷ f i)
    with_first x y s (inr (inl (more, f))) = inr (inl (more, λ i. s i ∷ f i))
    with_first x y s (inr (inr (f, g))) = inr (inr (λ i. s i ∷ f i, g))

-- a front and the byte behind it begin each longer front
begins_past : (most : ℕ) (front more other : List ℕ) (b : ℕ) → other ≡ front ++ b ∷ more → Begins most other → Begins most (front ++ b ∷ [])
begins_past most front more other b e is =
    begins_less most (front ++ b ∷ []) more (subst (Begins most) (e ∙ sym (append_assoc front (b ∷ []) more)) is)

-- the fronts and bytes where a text stops are the same
stops_same : (most : ℕ) (text : List ℕ) (place other : ℕ) (Deep Shallow : List ℕ → Type 0) → StopsAt most text place Deep → StopsAt most text other Shallow → (place ≡ other) × ((front : List ℕ) × Deep front × Shallow front)
stops_same most text place other Deep Shallow (front, rest, b, e, at, is, not_, deep) (front2, rest2, b2, e2, at2, is2, not2, shallow) =
    by_part (parted front front2 b rest rest2 b2 (sym e ∙ e2))
  where
    by_part : ((more : List ℕ) × (front2 ≡ front ++ b ∷ more)) ⊎ (((more : List ℕ) × (front ≡ front2 ++ b2 ∷ more)) ⊎ ((front ≡ front2) × (b ≡ b2))) → (place ≡ other) × ((front : List ℕ) × Deep front × Shallow front)
    by_part (inl (more, f)) = absurd (not_ (begins_past most front more front2 b f is2))
    by_part (inr (inl (more, f))) = absurd (not2 (begins_past most front2 more front b2 f is))
    by_part (inr (inr (f, g))) = (at ∙ ap length f ∙ sym at2, (front ++ b ∷ [], deep, subst (λ (x : List ℕ × ℕ). Shallow (x.0 ++ x.1 ∷ [])) (λ i. (sym f i, sym g i)) shallow))

-- a text that stops begins no text of the grammar
stops_end : (most : ℕ) (text : List ℕ) (place : ℕ) (Deep : List ℕ → Type 0) → StopsAt most text place Deep → Begins most text → ⊥
stops_end most text place Deep (front, rest, b, e, at, is, not_, deep) all = not_ (begins_past most front rest text b e all)

-- ---- faults

-- no text of the grammar begins so
abbrev TooFar : List ℕ → Type 0
TooFar front = BeginsDeep front → ⊥

-- a fault of a text: it stops there in one of two ways, or it breaks off
abbrev Kinds : ℕ → List ℕ → ReadFault → Type 0
Kinds most text why =
    ((place : ℕ) × (why ≡ fault.R4 place) × StopsAt most text place TooFar)
    ⊎ (((place : ℕ) × (why ≡ fault.R5 place) × StopsAt most text place BeginsDeep)
    ⊎ Ends most text why)

kinds : (most : ℕ) (text : List ℕ) (why : ReadFault) → IsFaultOf most text why → Kinds most text why
kinds most text (fault.R1 place) w = inr (inr w)
kinds most text (fault.R2 place) w = inr (inr w)
kinds most text (fault.R3 place) w = inr (inr w)
kinds most text (fault.R4 place) (inl w) = inl (place, refl, w)
kinds most text (fault.R4 place) (inr w) = inr (inr w)
kinds most text (fault.R5 place) w = inr (inl (place, refl, w))
kinds most text fault.NoMemory w = absurd w

kinds_same : (most : ℕ) (text : List ℕ) (one other : ReadFault) → Kinds most text one → Kinds most text other → one ≡ other
kinds_same most text one other (inl (p, f, w)) (inl (q, g, v)) =
    let same = stops_same most text p q TooFar TooFar w v in f ∙ ap (λ x. fault.R4 x) same.0 ∙ sym g
kinds_same most text one other (inl (p, f, w)) (inr (inl (q, g, v))) =
    let same = stops_same most text p q TooFar BeginsDeep w v in absurd (same.1.1 same.1.2)
kinds_same most text one other (inl (p, f, w)) (inr (inr v)) = absurd (stops_end most text p TooFar w v.0)
kinds_same most text one other (inr (inl (p, f, w))) (inl (q, g, v)) =
    let same = stops_same most text p q BeginsDeep TooFar w v in absurd (same.1.2 same.1.1)
kinds_same most text one other (inr (inl (p, f, w))) (inr (inl (q, g, v))) =
    let same = stops_same most text p q BeginsDeep BeginsDeep w v in f ∙ ap (λ x. fault.R5 x) same.0 ∙ sym g
kinds_same most text one other (inr (inl (p, f, w))) (inr (inr v)) = absurd (stops_end most text p BeginsDeep w v.0)
kinds_same most text one other (inr (inr w)) (inl (q, g, v)) = absurd (stops_end most text q TooFar v w.0)
kinds_same most text one other (inr (inr w)) (inr (inl (q, g, v))) = absurd (stops_end most text q BeginsDeep v w.0)
kinds_same most text one other (inr (inr w)) (inr (inr v)) = ends_same most text one other w v

-- a text has one fault
pub one_fault : (most : ℕ) (text : List ℕ) (one other : ReadFault) → IsFaultOf most text one → IsFaultOf most text other → one ≡ other
one_fault most text one other w v = kinds_same most text one other (kinds most text one w) (kinds most text other v)

spelled_begins : (most : ℕ) (text : List ℕ) (tree : Outline) → IsFile most text tree → Begins most text
spelled_begins most text tree is = ([], tree, subst (λ x. IsFile most x tree) (sym (append-nil text)) is)

ends_unread : (most : ℕ) (text : List ℕ) (why : ReadFault) (tree : Outline) → Ends most text why → IsFile most text tree → ⊥
unfolding read_lines
ends_unread most text why tree w is =
    let run = begun_run most text w.0 in
    let here = read_after most 0 (length text) start_of_file run.0 text [] (omega arith) run.1 in
    let read = subst (λ x. read_lines most x ≡ Ok (lines tree)) (sym (append-nil text)) (complete most text (lines tree) is) in
    never_read (lines tree) why (end_at run.0.builder run.0.phase (length text)) (sym here ∙ read) (breaks_as most text why run.0 run.1 w.1)

kinds_unread : (most : ℕ) (text : List ℕ) (why : ReadFault) (tree : Outline) → Kinds most text why → IsFile most text tree → ⊥
kinds_unread most text why tree (inl (p, f, w)) is = stops_end most text p TooFar w (spelled_begins most text tree is)
kinds_unread most text why tree (inr (inl (p, f, w))) is = stops_end most text p BeginsDeep w (spelled_begins most text tree is)
kinds_unread most text why tree (inr (inr w)) is = ends_unread most text why tree w is

-- a text that has a fault spells no tree
pub no_tree : (most : ℕ) (text : List ℕ) (why : ReadFault) → IsFaultOf most text why → (tree : Outline) → IsFile most text tree → ⊥
no_tree most text why w tree is = kinds_unread most text why tree (kinds most text why w) is

-- each text spells a tree or has a fault
pub tree_or_fault : (most : ℕ) (text : List ℕ) → ((tree : Outline) × IsFile most text tree) ⊎ ((why : ReadFault) × IsFaultOf most text why)
tree_or_fault most text = by_answer (read_lines most text) refl
  where
    by_answer : (answer : Result (List Line) ReadFault) → read_lines most text ≡ answer → ((tree : Outline) × IsFile most text tree) ⊎ ((why : ReadFault) × IsFaultOf most text why)
    by_answer (Ok all) h = inl (tree_of most text all (found most text all h))
    by_answer (Err why) h = inr (why, (refused most text why h).first)
