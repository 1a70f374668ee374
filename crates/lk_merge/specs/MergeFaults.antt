-- The faults of merging, in their order: a name declared twice, a refinement of a final object, an unknown base, and a
-- cycle of extensions. (Looker, LookML reference: refinements, extends; lookd)
use Rattle.std.specs.Prelude.{ℕ, Bool, not, ◌&&◌, if◌then◌else◌, List, [], ◌∷◌, find, Option, Some, None, codes}
use Rattle.std.specs.List.{list_any}
use Rattle.std.specs.Option.{option_or, option_and_then}
use Rattle.lk_val.specs.Texts.{is_same_text}
use Rattle.lk_val.specs.Least.{is_in, least_set}
use Rattle.lk_val.specs.declared.fault.FaultLine.{FaultLine}
use Rattle.lk_overlay.specs.declared.kind.Kind.{Kind}
use Rattle.lk_overlay.specs.declared.kind.Kind.TheVariants as kind
use Rattle.lk_merge.specs.declared.declaration.Declaration.{Declaration}
use Rattle.lk_params.specs.Picking.{first_in, first_along}
use Rattle.lk_merge.specs.Declarations.{is_same_kind}
use Rattle.lk_merge.specs.Objects.{is_declared, declaration_of, bases_of, extends_of, is_final, declared_names}

-- a fault at a declaration or a refinement: its file, its place, its name, and a base where one is unknown
abbrev pub fault_at : List ℕ → List ℕ → Declaration → FaultLine
fault_at code base d = record { code = code; path = d.path; place = d.place; name = d.name; other = base }

-- a second declaration of a name, in its kind
abbrev pub declared_twice : List Declaration → Declaration → Option FaultLine
declared_twice before d =
    if not d.refines && is_declared before d.kind d.name then Some (fault_at (codes "M4") [] d) else None

-- a refinement of an object that is final
abbrev pub refines_final : List Declaration → Declaration → Option FaultLine
refines_final all d =
    if d.refines && is_declared all d.kind d.name && is_final all d.kind d.name
    then Some (fault_at (codes "M5") [] d) else None

abbrev pub unknown_base : List Declaration → Declaration → List ℕ → Option FaultLine
unknown_base all d base = if is_declared all d.kind base then None else Some (fault_at (codes "M2") base d)

-- a refinement of an object that nobody declares, or else the first unknown base of a view or explore
abbrev pub refers_nowhere : List Declaration → Declaration → Option FaultLine
refers_nowhere all d =
    if d.refines && not (is_declared all d.kind d.name) then Some (fault_at (codes "M2") [] d)
    else if is_same_kind d.kind kind.Datagroup then None
    else first_in (unknown_base all d) (extends_of d)

-- ---- cycles

-- the base is one of an object's, or of one that the object reaches
abbrev pub reaches : List Declaration → Kind → List ℕ → List (List ℕ) → List ℕ → Bool
reaches all k name set base = list_any (λ from. is_in is_same_text base (bases_of all k from)) (name ∷ set)

-- the objects that an object reaches by extending: the least set
abbrev pub reached : List Declaration → Kind → List ℕ → List (List ℕ)
reached all k name = least_set is_same_text (declared_names all k) (reaches all k name)

abbrev pub is_on_cycle : List Declaration → Kind → List ℕ → Bool
is_on_cycle all k name = is_in is_same_text name (reached all k name)

abbrev pub cycle_line : Option Declaration → Option FaultLine
cycle_line None = None
cycle_line (Some d) = Some (fault_at (codes "M3") [] d)

-- the least name that stands on a cycle
abbrev pub extends_itself : List Declaration → Kind → Option FaultLine
extends_itself all k =
    option_and_then (λ name. cycle_line (declaration_of all k name)) (find (is_on_cycle all k) (declared_names all k))

-- ---- all of them

-- the first fault of merging
abbrev pub merge_fault : List Declaration → Option FaultLine
merge_fault all =
    option_or (first_along declared_twice [] all)
    (option_or (first_in (refines_final all) all)
    (option_or (first_in (refers_nowhere all) all)
    (option_or (extends_itself all kind.View)
    (extends_itself all kind.Explore))))
