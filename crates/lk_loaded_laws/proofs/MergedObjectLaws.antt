-- The effective objects of files that texts spell: names that are names, parameters that texts spell, and joins of different names.
use Rattle.std.proofs.Common.{◌≡◌, ◌∙◌, ℕ, zero, suc, Bool, true, false, ◌&&◌, ◌||◌, List, [], ◌∷◌, ◌++◌, map, length, refl, ap, sym, subst, Option, Some, None}
use Rattle.std.specs.Prelude.{codes, filter, find, flat_map, if◌then◌else◌, nat_eq, nat_lt, not}
use Rattle.std.specs.List.{AllByRecursion, list_all}
use Rattle.std.proofs.lemmas.Bool.{false≢true}
use Rattle.std.proofs.lemmas.List.{append-nil}
use Rattle.lk_val.specs.Texts.{is_same_text}
use Rattle.lk_read.specs.Bytes.{is_code_name, is_name, is_title}
use Rattle.lk_read.specs.Outline.{Outline}
use Rattle.lk_read.specs.TreeOutline.{outline_of}
use Rattle.lk_read.specs.declared.tree.Item.{Item}
use Rattle.lk_read.specs.declared.tree.Node.{Node}
use Rattle.lk_read.specs.declared.tree.Node.TheVariants as node
use Rattle.lk_params.specs.Known.{is_titled}
use Rattle.lk_params.specs.Parameters.{is_named, items_of}
use Rattle.lk_params.specs.Picking.{last_given, or_list}
use Rattle.lk_params.proofs.ItemLaws.{items_of_outline}
use Rattle.lk_overlay.specs.Overlay.{merged}
use Rattle.lk_overlay.specs.declared.kind.Kind.{Kind}
use Rattle.lk_overlay.specs.declared.kind.Kind.TheVariants.{Datagroup, Explore}
use Rattle.lk_merge.specs.Declarations.{declarations, declared_as, declared_by, declared_in, has_plus, is_same_kind, kind_named, without_plus}
use Rattle.lk_merge.specs.Objects.{bases_of, contributors, declaration_of, declared_names, declares, extends_in, handed_on, handed_within, if_several, is_required, is_wrong, kept, lists_bases, object_with, objects, option_list, own, refines_it, wrong_extends}
use Rattle.lk_merge.specs.declared.declaration.Declaration.{Declaration}
use Rattle.lk_merge.specs.declared.project.Object.{Object}
use Rattle.lk_semantics.proofs.EveryLaws.{both, first, second}
use Rattle.lk_model_laws.specs.Named.{are_distinct}
use Rattle.lk_model_laws.specs.Spelled.{is_spelled, is_value_of}
use Rattle.lk_model_laws.proofs.ListLaws.{all_append, all_every, all_filter, all_flat, all_kept, all_map, all_more, all_true}
use Rattle.lk_loaded_laws.proofs.MergedItemLaws.{AreSpelled, merged_spelled, outline_spelled}
use Rattle.lk_loaded_laws.proofs.MergedJoinLaws.{is_join, join_names, merged_joins, names_append, no_names}
use Rattle.lk_model_laws.proofs.PieceLaws.{some_none}
use Rattle.lk_model_laws.proofs.SpelledLaws.{IsSpelled, items_spelled}
use Rattle.lk_model_laws.proofs.TextLaws as text

-- ---- declarations

-- a declaration has a name, and its parameters are as texts spell them
abbrev pub IsSpelledDeclaration : Declaration → Type 0
IsSpelledDeclaration d = (is_name d.name ≡ true) × (is_spelled d.tree ≡ true)

plain_title : (title : List ℕ) → is_title title ≡ true → is_name (without_plus title) ≡ true
plain_title [] h = absurd (false≢true h)
plain_title (c ∷ title) h =
    elim (nat_eq c 43) as (λ b. (if b then is_name title else is_name (c ∷ title)) ≡ true → is_name (if b then title else c ∷ title) ≡ true) [ true ↦ λ k. k | false ↦ λ k. k ] h

module _ (path : List ℕ) (place : ℕ) where
  as_spelled : (k : Option Kind) (title : List ℕ) (inner : Outline) → is_title title ≡ true → is_spelled inner ≡ true → AllByRecursion IsSpelledDeclaration (declared_as path place k title inner)
  as_spelled None title inner h spelled = tt
  as_spelled (Some k) title inner h spelled =
      elim (has_plus title && is_same_kind k Datagroup) as (λ b. AllByRecursion IsSpelledDeclaration (if b then [] else record { kind = k; refines = has_plus title; name = without_plus title; tree = inner; path = path; place = place } ∷ [])) [
        | true ↦ tt
        | false ↦ ((plain_title title h, spelled), tt)
      ]

  by_spelled : (name : List ℕ) (value : Node) → is_value_of name value ≡ true → AllByRecursion IsSpelledDeclaration (declared_by path name place value)
  by_spelled name (node.Block (Some title) inner) h =
      as_spelled (kind_named name) title inner (second (not (is_code_name name)) (is_title title) (first (not (is_code_name name) && is_title title) (is_spelled inner) h))
      (second (not (is_code_name name) && is_title title) (is_spelled inner) h)
  by_spelled name (node.Block None inner) h = tt
  by_spelled name (node.Word t) h = tt
  by_spelled name (node.Quoted t) h = tt
  by_spelled name (node.List entries) h = tt
  by_spelled name (node.Code t) h = tt

-- what files that are read declare
pub declarations_spelled : (files : List (List ℕ × Outline)) → AllByRecursion (λ file. is_spelled file.1 ≡ true) files → AllByRecursion IsSpelledDeclaration (declarations files)
declarations_spelled files h =
    all_flat IsSpelledDeclaration (λ (file : List ℕ × Outline). is_spelled file.1 ≡ true) declared_in
    (λ file is. all_flat IsSpelledDeclaration IsSpelled (λ item. declared_by file.0 item.name item.place item.value) (λ item spelled. by_spelled file.0 item.place item.name item.value spelled) (items_of file.1) (items_spelled file.1 is)) files h

-- ---- what contributes to an object

one_listed : {A : Type 0} (P : A → Type 0) (o : Option A) → ((x : A) → o ≡ Some x → P x) → AllByRecursion P (option_list o)
one_listed P None h = tt
one_listed P (Some x) h = (h x refl, tt)

found_holds : {A : Type 0} (P : A → Type 0) (t : A → Bool) (xs : List A) → AllByRecursion P xs → (x : A) → find t xs ≡ Some x → P x × (t x ≡ true)
found_holds P t [] h x at = absurd (some_none (sym at))
found_holds P t (y ∷ xs) h x at =
    elim (t y) as (λ b. t y ≡ b → (if b then Some y else find t xs) ≡ Some x → P x × (t x ≡ true)) [
      | true ↦ λ is e. let same : y ≡ x = cc in subst (λ z. P z × (t z ≡ true)) same (h.0, is)
      | false ↦ λ is e. found_holds P t xs h.1 x e
    ] refl at

module _ (all : List Declaration) (spelled : AllByRecursion IsSpelledDeclaration all) (k : Kind) where
  own_spelled : (name : List ℕ) → AllByRecursion IsSpelledDeclaration (own all k name)
  own_spelled name =
      all_append IsSpelledDeclaration (option_list (declaration_of all k name)) (filter (refines_it k name) all)
      (one_listed IsSpelledDeclaration (declaration_of all k name) (λ d at. (found_holds IsSpelledDeclaration (declares k name) all spelled d at).0))
      (all_filter IsSpelledDeclaration (refines_it k name) all spelled)

  kept_spelled : (d : Declaration) → IsSpelledDeclaration d → AllByRecursion IsSpelled (kept d)
  kept_spelled d h = all_filter IsSpelled (λ item. not (lists_bases d.kind item)) (items_of d.tree) (items_spelled d.tree h.1)

  handed_spelled : (d : Declaration) → IsSpelledDeclaration d → AllByRecursion IsSpelled (handed_on d)
  handed_spelled d h = all_filter IsSpelled (λ item. not (is_named (codes "extension") item || is_named (codes "final") item)) (kept d) (kept_spelled d h)

  within_spelled : (n : ℕ) (name : List ℕ) → AreSpelled (handed_within all k n name)
  within_spelled zero name = tt
  within_spelled (suc n) name =
      all_append (λ items. AllByRecursion IsSpelled items) (flat_map (handed_within all k n) (bases_of all k name)) (map handed_on (own all k name))
      (all_flat (λ items. AllByRecursion IsSpelled items) (λ base. Unit {0}) (handed_within all k n) (λ base is. within_spelled n base) (bases_of all k name) (all_true (λ base. Unit {0}) (λ base. tt) (bases_of all k name)))
      (all_map (λ items. AllByRecursion IsSpelled items) IsSpelledDeclaration handed_on handed_spelled (own all k name) (own_spelled name))

  contributors_spelled : (name : List ℕ) → AreSpelled (contributors all k name)
  contributors_spelled name =
      all_append (λ items. AllByRecursion IsSpelled items) (flat_map (handed_within all k (length all)) (bases_of all k name)) (map kept (own all k name))
      (all_flat (λ items. AllByRecursion IsSpelled items) (λ base. Unit {0}) (handed_within all k (length all)) (λ base is. within_spelled (length all) base) (bases_of all k name) (all_true (λ base. Unit {0}) (λ base. tt) (bases_of all k name)))
      (all_map (λ items. AllByRecursion IsSpelled items) IsSpelledDeclaration kept kept_spelled (own all k name) (own_spelled name))

  -- ---- what is wrong with an `extends`

  -- what holds of each `extends` holds of those that are kept
  wrong_holds : (P : Item → Type 0) (ds : List Declaration) → AllByRecursion (λ d. AllByRecursion P (extends_in d)) ds → AllByRecursion P (wrong_extends ds)
  wrong_holds P ds h = of_several (last_given (map (λ d. if_several (extends_in d)) ds)) (lasts (map (λ d. if_several (extends_in d)) ds) (all_map (λ items. AllByRecursion P items) (λ d. AllByRecursion P (extends_in d)) (λ d. if_several (extends_in d)) several ds h))
    where
      several : (d : Declaration) → AllByRecursion P (extends_in d) → AllByRecursion P (if_several (extends_in d))
      several d is = elim (nat_lt 1 (length (extends_in d))) as (λ b. AllByRecursion P (if b then extends_in d else [])) [ true ↦ is | false ↦ tt ]

      lasts : (lists : List (List Item)) → AllByRecursion (λ items. AllByRecursion P items) lists → AllByRecursion P (last_given lists)
      lasts [] k = tt
      lasts (items ∷ lists) k = of_rest (last_given lists) (lasts lists k.1)
        where
          of_rest : (rest : List Item) → AllByRecursion P rest → AllByRecursion P (or_list rest items)
          of_rest [] q = k.0
          of_rest (item ∷ rest) q = q

      of_several : (items : List Item) → AllByRecursion P items → AllByRecursion P (or_list items (option_list (find is_wrong (flat_map extends_in ds))))
      of_several [] q =
          one_listed P (find is_wrong (flat_map extends_in ds))
          (λ item at. (found_holds P is_wrong (flat_map extends_in ds) (all_flat P (λ d. AllByRecursion P (extends_in d)) extends_in (λ d is. is) ds h) item at).0)
      of_several (item ∷ items) q = q

  extends_spelled : (d : Declaration) → IsSpelledDeclaration d → AllByRecursion IsSpelled (extends_in d)
  extends_spelled d h = all_filter IsSpelled (lists_bases d.kind) (items_of d.tree) (items_spelled d.tree h.1)

  wrong_spelled : (name : List ℕ) → AllByRecursion IsSpelled (wrong_extends (own all k name))
  wrong_spelled name = wrong_holds IsSpelled (own all k name) (all_more IsSpelledDeclaration (λ d. AllByRecursion IsSpelled (extends_in d)) extends_spelled (own all k name) (own_spelled name))

  no_join : (d : Declaration) (item : Item) → lists_bases d.kind item ≡ true → is_join item ≡ false
  no_join d item h =
      let named : item.name ≡ codes "extends" = text.same_exact item.name (codes "extends") (second _ (is_same_text item.name (codes "extends")) h) in
      ap (λ name. is_same_text name (codes "join") && is_titled item.value) named

  wrong_no_join : (name : List ℕ) → AllByRecursion (λ item. is_join item ≡ false) (wrong_extends (own all k name))
  wrong_no_join name =
      wrong_holds (λ item. is_join item ≡ false) (own all k name)
      (all_true (λ d. AllByRecursion (λ item. is_join item ≡ false) (extends_in d))
      (λ d. all_more (λ item. Unit {0} × (lists_bases d.kind item ≡ true)) (λ item. is_join item ≡ false) (λ item h. no_join d item h.1) (extends_in d)
      (all_kept (λ item. Unit {0}) (lists_bases d.kind) (items_of d.tree) (all_true (λ item. Unit {0}) (λ item. tt) (items_of d.tree)))) (own all k name))

  -- ---- objects

  abbrev parameters : List ℕ → List Item
  parameters name = merged k (contributors all k name) ++ wrong_extends (own all k name)

  parameters_spelled : (name : List ℕ) → AllByRecursion IsSpelled (parameters name)
  parameters_spelled name =
      all_append IsSpelled (merged k (contributors all k name)) (wrong_extends (own all k name)) (merged_spelled k (contributors all k name) (contributors_spelled name)) (wrong_spelled name)

  -- what is made of each declared object
  pub all_objects : (P : Object → Type 0) → ((name path : List ℕ) → is_name name ≡ true → P (record { name = name; tree = outline_of (parameters name); path = path })) → AllByRecursion P (objects all k)
  all_objects P f =
      all_flat P (λ name. Unit {0}) (λ name. object_with all k name (declaration_of all k name)) (λ name is. of_declaration name (declaration_of all k name) refl)
      (filter (λ name. not (is_required all k name)) (declared_names all k)) (all_true (λ name. Unit {0}) (λ name. tt) (filter (λ name. not (is_required all k name)) (declared_names all k)))
    where
      of_declaration : (name : List ℕ) (o : Option Declaration) → declaration_of all k name ≡ o → AllByRecursion P (object_with all k name o)
      of_declaration name None at = tt
      of_declaration name (Some d) at =
          let found = found_holds IsSpelledDeclaration (declares k name) all spelled d at in
          let same = text.same_exact d.name name (second (not d.refines && is_same_kind d.kind k) (is_same_text d.name name) found.1) in
          (f name d.path (subst (λ n. is_name n ≡ true) same found.0.0), tt)

  pub objects_spelled : list_all (λ (o : Object). is_name o.name && is_spelled o.tree) (objects all k) ≡ true
  objects_spelled =
      all_every (λ (o : Object). (is_name o.name && is_spelled o.tree) ≡ true) (λ o. is_name o.name && is_spelled o.tree) (λ o is. is) (objects all k)
      (all_objects (λ o. (is_name o.name && is_spelled o.tree) ≡ true)
      (λ name path is. both (is_name name) (is_spelled (outline_of (parameters name))) is (outline_spelled (parameters name) (parameters_spelled name))))

-- the joins of each explore
pub explores_own : (all : List Declaration) → AllByRecursion IsSpelledDeclaration all → list_all (λ (o : Object). are_distinct (join_names (items_of o.tree))) (objects all Explore) ≡ true
explores_own all spelled =
    all_every (λ (o : Object). are_distinct (join_names (items_of o.tree)) ≡ true) (λ o. are_distinct (join_names (items_of o.tree))) (λ o is. is) (objects all Explore)
    (all_objects all spelled Explore (λ o. are_distinct (join_names (items_of o.tree)) ≡ true) (λ name path is. of_name name))
  where
    of_name : (name : List ℕ) → are_distinct (join_names (items_of (outline_of (parameters all spelled Explore name)))) ≡ true
    of_name name =
        ap (λ items. are_distinct (join_names items)) (items_of_outline (parameters all spelled Explore name))
        ∙ ap are_distinct (names_append (merged Explore (contributors all Explore name)) (wrong_extends (own all Explore name)))
        ∙ ap (λ names. are_distinct (join_names (merged Explore (contributors all Explore name)) ++ names)) (no_names (wrong_extends (own all Explore name)) (wrong_no_join all spelled Explore name))
        ∙ ap are_distinct (append-nil (join_names (merged Explore (contributors all Explore name)))) ∙ merged_joins (contributors all Explore name)
