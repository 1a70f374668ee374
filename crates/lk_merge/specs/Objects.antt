-- The effective views, explores and datagroups: who contributes to each, and what it is.
-- (Looker, LookML reference: refinements, extends, extension, final; lookd)
use Rattle.std.specs.Prelude.{ℕ, zero, suc, Bool, true, false, not, ◌&&◌, ◌||◌, nat_lt, if◌then◌else◌, List, [], ◌∷◌, ◌++◌, map, length, find, Option, Some, None, codes}
use Rattle.std.specs.List.{filter, flat_map, list_any}
use Rattle.std.specs.Option.{is_none, option_and_then, unwrap_or}
use Rattle.std.specs.Cmp.Lexicographic.{slice_cmp}
use Rattle.std.specs.Ordering.{nat_cmp}
use Rattle.std.specs.declared.cmp.Ordering.{Ordering}
use Rattle.lk_val.specs.Texts.{is_same_text}
use Rattle.lk_val.specs.Sets.{set_of}
use Rattle.lk_read.specs.TreeOutline.{outline_of}
use Rattle.lk_read.specs.declared.tree.Item.{Item}
use Rattle.lk_params.specs.Parameters.{items_of, is_named, last_named}
use Rattle.lk_params.specs.Values.{scalar, words}
use Rattle.lk_overlay.specs.declared.kind.Kind.{Kind}
use Rattle.lk_overlay.specs.declared.kind.Kind.TheVariants as kind
use Rattle.lk_merge.specs.declared.declaration.Declaration.{Declaration}
use Rattle.lk_merge.specs.declared.project.Object.{Object}
use Rattle.lk_params.specs.Picking.{firsts, last_given, or_list}
use Rattle.lk_merge.specs.Declarations.{is_same_kind}
use Rattle.lk_overlay.specs.Overlay.{merged}

-- ---- one declaration

-- the bases that a value of `extends` lists: a list alone has some
abbrev pub listed_bases : Item → List (List ℕ)
listed_bases item = unwrap_or (words item.value) []

-- views and explores extend others; a datagroup has no `extends`, `extension` or `final` (lookd)
abbrev pub may_extend : Kind → Bool
may_extend kind.View = true
may_extend kind.Explore = true
may_extend kind.Datagroup = false

-- the parameter lists bases
abbrev pub lists_bases : Kind → Item → Bool
lists_bases k item = may_extend k && is_named (codes "extends") item

abbrev pub extends_in : Declaration → List Item
extends_in d = filter (lists_bases d.kind) (items_of d.tree)

-- the bases that a declaration or a refinement lists, in order
abbrev pub extends_of : Declaration → List (List ℕ)
extends_of d = flat_map listed_bases (extends_in d)

-- what it gives to its own object: all but `extends`
abbrev pub kept : Declaration → List Item
kept d = filter (λ item. not (lists_bases d.kind item)) (items_of d.tree)

-- what it gives to an object that extends it: neither `extension` nor `final`
abbrev pub handed_on : Declaration → List Item
handed_on d = filter (λ item. not (is_named (codes "extension") item || is_named (codes "final") item)) (kept d)

-- ---- an object, by its kind and its name, given all declarations and refinements

-- it declares the object
abbrev pub declares : Kind → List ℕ → Declaration → Bool
declares k name d = not d.refines && is_same_kind d.kind k && is_same_text d.name name

-- it refines the object
abbrev pub refines_it : Kind → List ℕ → Declaration → Bool
refines_it k name d = d.refines && is_same_kind d.kind k && is_same_text d.name name

abbrev pub is_declared : List Declaration → Kind → List ℕ → Bool
is_declared all k name = list_any (declares k name) all

-- the declaration of an object
abbrev pub declaration_of : List Declaration → Kind → List ℕ → Option Declaration
declaration_of all k name = find (declares k name) all

abbrev pub option_list : {A : Type 0} → Option A → List A
option_list None = []
option_list (Some x) = x ∷ []

-- the declaration of an object and then its refinements, in order of reading
abbrev pub own : List Declaration → Kind → List ℕ → List Declaration
own all k name = option_list (declaration_of all k name) ++ filter (refines_it k name) all

-- the bases of an object: the union of all that its declaration and its refinements list, in order
abbrev pub bases_of : List Declaration → Kind → List ℕ → List (List ℕ)
bases_of all k name = firsts is_same_text (flat_map extends_of (own all k name))

-- what an object gives to those that extend it: what each of its bases gives, in order, and then its own; no chain of
-- bases is longer than there are declarations
abbrev pub handed_within : List Declaration → Kind → ℕ → List ℕ → List (List Item)
handed_within all k zero name = []
handed_within all k (suc n) name =
    flat_map (handed_within all k n) (bases_of all k name) ++ map handed_on (own all k name)

-- the contributors of an object, as their parameters
abbrev pub contributors : List Declaration → Kind → List ℕ → List (List Item)
contributors all k name =
    flat_map (handed_within all k (length all)) (bases_of all k name) ++ map kept (own all k name)

-- the text of the last value of a parameter in some declarations
abbrev pub last_text : List ℕ → List Declaration → Option (List ℕ)
last_text parameter ds =
    option_and_then (λ item. scalar item.value) (last_named parameter (flat_map (λ d. items_of d.tree) ds))

abbrev pub is_text : List ℕ → Option (List ℕ) → Bool
is_text text None = false
is_text text (Some other) = is_same_text other text

-- the object is there only for others to extend
abbrev pub is_required : List Declaration → Kind → List ℕ → Bool
is_required all k name = may_extend k && is_text (codes "required") (last_text (codes "extension") (own all k name))

abbrev pub is_final : List Declaration → Kind → List ℕ → Bool
is_final all k name = may_extend k && is_text (codes "yes") (last_text (codes "final") (own all k name))

-- ---- what is wrong with an `extends`, which the object keeps so that it can be told

-- a value that is no list of words
abbrev pub is_wrong : Item → Bool
is_wrong item = is_none (words item.value)

-- the parameters, where there are several
abbrev pub if_several : List Item → List Item
if_several items = if nat_lt 1 (length items) then items else []

-- those of the last declaration that has several, or else the first that lists no names
abbrev pub wrong_extends : List Declaration → List Item
wrong_extends ds = or_list
    (last_given (map (λ d. if_several (extends_in d)) ds))
    (option_list (find is_wrong (flat_map extends_in ds)))

-- ---- the objects

abbrev pub object_with : List Declaration → Kind → List ℕ → Option Declaration → List Object
object_with all k name None = []
object_with all k name (Some d) = record {
  name = name;
  tree = outline_of (merged k (contributors all k name) ++ wrong_extends (own all k name));
  path = d.path;
} ∷ []

abbrev pub text_cmp : List ℕ → List ℕ → Ordering
text_cmp = slice_cmp nat_cmp

-- the names that are declared, ascending
abbrev pub declared_names : List Declaration → Kind → List (List ℕ)
declared_names all k =
    set_of text_cmp (map (λ d. d.name) (filter (λ d. not d.refines && is_same_kind d.kind k) all))

-- the effective objects of a kind by name, without those that are there only for others to extend
abbrev pub objects : List Declaration → Kind → List Object
objects all k =
    flat_map (λ name. object_with all k name (declaration_of all k name))
    (filter (λ name. not (is_required all k name)) (declared_names all k))
