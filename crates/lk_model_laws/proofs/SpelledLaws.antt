-- Parameters as a text spells them: code where their names want it, and titles without a dot and a brace.
use Rattle.std.proofs.Common.{◌≡◌, ◌∙◌, ℕ, Bool, true, false, ◌&&◌, ◌||◌, List, [], ◌∷◌, ◌++◌, refl, ap, sym, Some, None, arith}
use Rattle.std.specs.Prelude.{codes, if◌then◌else◌, is_some, nat_eq, not}
use Rattle.std.specs.List.{AllByRecursion, list_all, list_any}
use Rattle.std.specs.Option.{option_and_then}
use Rattle.std.proofs.lemmas.Bool.{eqb-true, false≢true}
use Rattle.lk_read.specs.Bytes.{is_code_name, is_name, is_name_byte, is_title}
use Rattle.lk_read.specs.Outline.{Plain, Outline, word, quoted, list, code, no_more, leaf, branch}
use Rattle.lk_read.specs.declared.tree.Item.{Item}
use Rattle.lk_read.specs.declared.tree.Node.{Node}
use Rattle.lk_read.specs.declared.tree.Node.TheVariants as node
use Rattle.lk_params.specs.declared.number.Order.{Order}
use Rattle.lk_params.specs.declared.owner.Owner.{Owner}
use Rattle.lk_params.specs.Known.{begins_liquid, block_findings, has_liquid, holds_liquid, item_findings}
use Rattle.lk_params.specs.Owners.{has_effect}
use Rattle.lk_params.specs.Parameters.{items_of, last_named, plain_value}
use Rattle.lk_params.specs.Values as values
use Rattle.lk_fields.specs.Scopes.{is_dot}
use Rattle.lk_written.specs.Blocks.{block_items, block_name}
use Rattle.lk_written.specs.Values.{code_at, is_missing}
use Rattle.lk_semantics.proofs.EveryLaws.{first, second}
use Rattle.lk_model_laws.specs.Spelled.{is_none_or_title, is_plain_of, is_spelled, is_value_of}
use Rattle.lk_model_laws.proofs.PieceLaws.{nil_along, nil_right, not_so}
use Rattle.lk_model_laws.proofs.ViewObjectLaws.{last_holds, not_false, some_of}

-- ---- parameters

abbrev pub IsSpelled : Item → Type 0
IsSpelled item = is_value_of item.name item.value ≡ true

plain_spelled : (name : List ℕ) (value : Plain) → is_plain_of name value ≡ true → is_value_of name (plain_value value) ≡ true
plain_spelled name (word text) h = h
plain_spelled name (quoted text) h = h
plain_spelled name (list entries) h = h
plain_spelled name (code text) h = h

pub items_spelled : (tree : Outline) → is_spelled tree ≡ true → AllByRecursion IsSpelled (items_of tree)
items_spelled no_more h = tt
items_spelled (leaf name place value rest) h =
    (plain_spelled name value (first (is_plain_of name value) (is_spelled rest) h), items_spelled rest (second (is_plain_of name value) (is_spelled rest) h))
items_spelled (branch name place title inner rest) h =
    let own = not (is_code_name name) && is_none_or_title title && is_spelled inner in
    (first own (is_spelled rest) h, items_spelled rest (second own (is_spelled rest) h))

-- those of a block are so too
inner_spelled : (name : List ℕ) (value : Node) → is_value_of name value ≡ true → (place : ℕ) → AllByRecursion IsSpelled (block_items (record { name = name; value = value; place = place }))
inner_spelled name (node.Block title inner) h place = items_spelled inner (second (not (is_code_name name) && is_none_or_title title) (is_spelled inner) h)
inner_spelled name (node.Word text) h place = tt
inner_spelled name (node.Quoted text) h place = tt
inner_spelled name (node.List entries) h place = tt
inner_spelled name (node.Code text) h place = tt

pub block_spelled : (item : Item) → IsSpelled item → AllByRecursion IsSpelled (block_items item)
block_spelled item h = inner_spelled item.name item.value h item.place

not_both : (b : Bool) → not b ≡ true → b ≡ true → ⊥
not_both true h k = false≢true h
not_both false h k = false≢true k

value_code : (name : List ℕ) (value : Node) → is_value_of name value ≡ true → is_code_name name ≡ true → (text : List ℕ) × (value ≡ node.Code text)
value_code name (node.Code text) h is = (text, refl)
value_code name (node.Word text) h is = absurd (not_both (is_code_name name) h is)
value_code name (node.Quoted text) h is = absurd (not_both (is_code_name name) h is)
value_code name (node.List entries) h is = absurd (not_both (is_code_name name) h is)
value_code name (node.Block title inner) h is =
    absurd (not_both (is_code_name name) (first (not (is_code_name name)) (is_none_or_title title) (first (not (is_code_name name) && is_none_or_title title) (is_spelled inner) h)) is)

-- ---- code

-- a parameter of code that is there has code
pub record HasText (name : List ℕ) (items : List Item) : Type 0 where
  pub text : List ℕ
  pub given : code_at name items ≡ Some text
  pub no_liquid : holds_liquid text ≡ false

item_liquid : (item : Item) (name text : List ℕ) → item.name ≡ name → item.value ≡ node.Code text → has_liquid item ≡ has_liquid (record { name = name; value = node.Code text; place = item.place })
item_liquid item name text p q = λ i. has_liquid (record { name = p i; value = q i; place = item.place })

module _ (o : Order) (own : Owner) (object name : List ℕ) (wanted : is_code_name name ≡ true) (effect : has_effect own name ≡ true)
    (told : (text : List ℕ) (place : ℕ) → has_liquid (record { name = name; value = node.Code text; place = place }) ≡ holds_liquid text) where
  clear_liquid : (front : List Item) (item : Item) (text : List ℕ) → item_findings o own object None front item ≡ [] → item.name ≡ name → item.value ≡ node.Code text → holds_liquid text ≡ false
  clear_liquid front item text h is value =
      let rule : (has_effect own item.name && has_liquid item) ≡ false = not_so (has_effect own item.name && has_liquid item) _ (nil_right _ _ h) in
      sym (told text item.place) ∙ sym (item_liquid item name text is value) ∙ sym (ap (λ b. b && has_liquid item) (ap (has_effect own) is ∙ effect)) ∙ rule

  pub text_given : (items : List Item) → AllByRecursion IsSpelled items → block_findings o own object None items ≡ [] → is_missing name items ≡ false → HasText name items
  text_given items spelled clear there =
      let last = some_of (last_named name items) (not_false (is_some (last_named name items)) there) in
      let is = last_holds IsSpelled name items last.0 spelled last.1 in
      let found = last_holds (λ i. (front : List Item) × (item_findings o own object None front i ≡ [])) name items last.0 (nil_along (item_findings o own object None) [] items clear) last.1 in
      let value = value_code last.0.name last.0.value is.0 (ap is_code_name is.1 ∙ wanted) in
      record {
        text = value.0;
        given = ap (option_and_then (λ (i : Item). values.code i.value)) last.1 ∙ ap values.code value.1;
        no_liquid = clear_liquid found.0.0 last.0 value.0 found.0.1 is.1 value.1;
      }

-- ---- titles

byte_no_dot : (b : ℕ) → is_name_byte b ≡ true → is_dot b ≡ false
byte_no_dot b h = grind arith

byte_no_brace : (b : ℕ) → is_name_byte b ≡ true → nat_eq b 123 ≡ false
byte_no_brace b h = grind arith

none_any : {A : Type 0} (t u : A → Bool) → ((x : A) → t x ≡ true → u x ≡ false) → (xs : List A) → list_all t xs ≡ true → list_any u xs ≡ false
none_any t u f [] h = refl
none_any t u f (x ∷ xs) h = (λ i. f x (first (t x) (list_all t xs) h) i || none_any t u f xs (second (t x) (list_all t xs) h) i)

-- bytes of which none is one
pub name_without : (u : ℕ → Bool) → ((b : ℕ) → is_name_byte b ≡ true → u b ≡ false) → (name : List ℕ) → is_name name ≡ true → list_any u name ≡ false
name_without u f name h = none_any is_name_byte u f name (second _ (list_all is_name_byte name) h)

title_without : (u : ℕ → Bool) → ((b : ℕ) → is_name_byte b ≡ true → u b ≡ false) → u 43 ≡ false → (title : List ℕ) → is_title title ≡ true → list_any u title ≡ false
title_without u f plus [] h = refl
title_without u f plus (b ∷ text) h = of_plus (nat_eq b 43) refl h
  where
    of_plus : (p : Bool) → nat_eq b 43 ≡ p → (if p then is_name text else is_name (b ∷ text)) ≡ true → list_any u (b ∷ text) ≡ false
    of_plus true is e = (λ i. (ap u (eqb-true b 43 is) ∙ plus) i || name_without u f text e i)
    of_plus false is e = name_without u f (b ∷ text) e

pub no_dot : (name : List ℕ) → is_name name ≡ true → list_any is_dot name ≡ false
no_dot = name_without is_dot byte_no_dot

block_without : (u : ℕ → Bool) → ((b : ℕ) → is_name_byte b ≡ true → u b ≡ false) → u 43 ≡ false → (name : List ℕ) (value : Node) (place : ℕ) → is_value_of name value ≡ true
    → list_any u (block_name (record { name = name; value = value; place = place })) ≡ false
block_without u f plus name (node.Block (Some title) inner) place h =
    title_without u f plus title (second (not (is_code_name name)) (is_title title) (first (not (is_code_name name) && is_title title) (is_spelled inner) h))
block_without u f plus name (node.Block None inner) place h = refl
block_without u f plus name (node.Word text) place h = refl
block_without u f plus name (node.Quoted text) place h = refl
block_without u f plus name (node.List entries) place h = refl
block_without u f plus name (node.Code text) place h = refl

pub block_no_dot : (item : Item) → IsSpelled item → list_any is_dot (block_name item) ≡ false
block_no_dot item h = block_without is_dot byte_no_dot refl item.name item.value item.place h

-- the column of a name that is a title
unbraced : (text : List ℕ) → list_any (λ b. nat_eq b 123) text ≡ false → holds_liquid text ≡ false
unbraced [] h = refl
unbraced (c ∷ rest) h = (λ i. begins c rest (left (nat_eq c 123) (list_any (λ b. nat_eq b 123) rest) h) i || unbraced rest (right (nat_eq c 123) (list_any (λ b. nat_eq b 123) rest) h) i)
  where
    begins : (c : ℕ) (rest : List ℕ) → nat_eq c 123 ≡ false → begins_liquid (c ∷ rest) ≡ false
    begins c [] h = refl
    begins c (d ∷ rest) h = ap (λ t. t && (nat_eq d 37 || nat_eq d 123)) h

    left : (a b : Bool) → (a || b) ≡ false → a ≡ false
    left true b h = h
    left false b h = refl

    right : (a b : Bool) → (a || b) ≡ false → b ≡ false
    right true b h = absurd (false≢true (sym h))
    right false b h = h

dotted : (name : List ℕ) → holds_liquid (46 ∷ name) ≡ holds_liquid name
dotted [] = refl
dotted (c ∷ name) = refl

pub column_no_liquid : (item : Item) → IsSpelled item → holds_liquid (codes "${TABLE}." ++ block_name item) ≡ false
column_no_liquid item h =
    dotted (block_name item) ∙ unbraced (block_name item) (block_without (λ b. nat_eq b 123) byte_no_brace refl item.name item.value item.place h)
