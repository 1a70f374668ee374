-- What lists of nodes in postfix order build, list by list, and that a function of trees is computed node by node.
use Rattle.std.proofs.Common.{◌≡◌, ℕ, ◌+◌, ◌-◌, ◌≤◌, Bool, true, false, List, [], ◌∷◌, ◌++◌, length, take, drop, map, Option, Some, None, refl, sym, ap, ◌∙◌, arith, length-append}
use Rattle.std.specs.Prelude.{nat_le, if◌then◌else◌, slice_index_or}
use Rattle.std.proofs.lemmas.Bool.{false≢true}
use Rattle.std.proofs.lemmas.List.{take-map, drop-map, length-map, map-append, append-nil, append_assoc, length-take-le, length-drop, take-append-drop}
use Rattle.std.proofs.lemmas.List.Sums.{fold-append}
use Rattle.std.proofs.Math.Seq.{take-append-add, drop-append-add}
use Rattle.lk_postfix.specs.Postfix.{operands, replaced, after_node, after_nodes, depth_after, Builds, is_one, is_whole, gathered}

-- ---- a function of trees

module _ {N T U : Type 0} (arity : N → ℕ) (made : N → List T → T) (means : N → List U → U) (f : T → U) (does : (n : N) (ts : List T) → means n (map f ts) ≡ f (made n ts)) where
  -- below and on top of a stack of what trees mean
  operands-map : (k : ℕ) (stack : List T) → operands k (map f stack) ≡ map f (operands k stack)
  operands-map k stack = rw (length-map stack f) (drop-map f (length stack - k) stack)

  replaced-map : (k : ℕ) (t : T) (stack : List T) → replaced k (f t) (map f stack) ≡ map f (replaced k t stack)
  replaced-map k t stack =
      rw (length-map stack f) (ap (λ s. s ++ f t ∷ []) (take-map f (length stack - k) stack)
      ∙ sym (map-append f (take (length stack - k) stack) (t ∷ [])))

  after_node-map : (stack : List T) (n : N) → after_node arity means (map f stack) n ≡ map f (after_node arity made stack n)
  after_node-map stack n =
      ap (λ m. replaced (arity n) m (map f stack)) (ap (means n) (operands-map (arity n) stack) ∙ does n (operands (arity n) stack))
      ∙ replaced-map (arity n) (made n (operands (arity n) stack)) stack

  -- what a function means, node by node, is what it means of the trees that the nodes build
  pub after_nodes-map : (stack : List T) (nodes : List N) → after_nodes arity means (map f stack) nodes ≡ map f (after_nodes arity made stack nodes)
  after_nodes-map stack [] = refl
  after_nodes-map stack (n ∷ nodes) =
      ap (λ s. after_nodes arity means s nodes) (after_node-map stack n)
      ∙ after_nodes-map (after_node arity made stack n) nodes

-- ---- how many items stand on the stack

if_some : {A : Type 0} (b : Bool) (x : Option A) (e : A) → (if b then x else None) ≡ Some e → (b ≡ true) × (x ≡ Some e)
if_some true x e h = (refl, h)
if_some false x e h = cc

le_of_test : (m n : ℕ) → nat_le m n ≡ true → m ≤ n
le_of_test m n h = grind arith

test_of_le : (m n : ℕ) → m ≤ n → nat_le m n ≡ true
test_of_le m n h = grind arith

module _ {N : Type 0} (arity : N → ℕ) where
  -- a node that has its operands
  depth_after-node : (d : ℕ) (n : N) (nodes : List N) → arity n ≤ d → depth_after arity d (n ∷ nodes) ≡ depth_after arity ((d - arity n) + 1) nodes
  depth_after-node d n nodes h = ap (λ b. if b then depth_after arity ((d - arity n) + 1) nodes else None) (test_of_le (arity n) d h)

  -- more on the stack below stays there
  pub depth_after-more : (k d e : ℕ) (nodes : List N) → depth_after arity d nodes ≡ Some e → depth_after arity (k + d) nodes ≡ Some (k + e)
  depth_after-more k d e [] h = cc
  depth_after-more k d e (n ∷ nodes) h =
      let parts = if_some (nat_le (arity n) d) (depth_after arity ((d - arity n) + 1) nodes) e h in
      let within = le_of_test (arity n) d parts.0 in
      let same : (k + d - arity n) + 1 ≡ k + ((d - arity n) + 1) = omega arith in
      depth_after-node (k + d) n nodes (omega arith)
      ∙ ap (λ m. depth_after arity m nodes) same
      ∙ depth_after-more k ((d - arity n) + 1) e nodes parts.1

  pub depth_after-append : (d e : ℕ) (xs ys : List N) → depth_after arity d xs ≡ Some e → depth_after arity d (xs ++ ys) ≡ depth_after arity e ys
  depth_after-append d e [] ys h = let same : d ≡ e = cc in ap (λ m. depth_after arity m ys) same
  depth_after-append d e (n ∷ xs) ys h =
      let parts = if_some (nat_le (arity n) d) (depth_after arity ((d - arity n) + 1) xs) e h in
      depth_after-node d n (xs ++ ys) (le_of_test (arity n) d parts.0)
      ∙ depth_after-append ((d - arity n) + 1) e xs ys parts.1

-- ---- lists one behind another

module _ {N T : Type 0} (arity : N → ℕ) (made : N → List T → T) where
  operands-below : (k : ℕ) (fs gs : List T) → k ≤ length gs → operands k (fs ++ gs) ≡ operands k gs
  operands-below k fs gs h =
      let same : length (fs ++ gs) - k ≡ length fs + (length gs - k) = omega (arith, length-append fs gs) in
      ap (λ m. drop m (fs ++ gs)) same ∙ drop-append-add fs gs (length gs - k)

  replaced-below : (k : ℕ) (t : T) (fs gs : List T) → k ≤ length gs → replaced k t (fs ++ gs) ≡ fs ++ replaced k t gs
  replaced-below k t fs gs h =
      let same : length (fs ++ gs) - k ≡ length fs + (length gs - k) = omega (arith, length-append fs gs) in
      ap (λ m. take m (fs ++ gs) ++ t ∷ []) same
      ∙ ap (λ s. s ++ t ∷ []) (take-append-add fs gs (length gs - k))
      ∙ append_assoc fs (take (length gs - k) gs) (t ∷ [])

  after_node-below : (fs gs : List T) (n : N) → arity n ≤ length gs → after_node arity made (fs ++ gs) n ≡ fs ++ after_node arity made gs n
  after_node-below fs gs n h =
      ap (λ ts. replaced (arity n) (made n ts) (fs ++ gs)) (operands-below (arity n) fs gs h)
      ∙ replaced-below (arity n) (made n (operands (arity n) gs)) fs gs h

  length-replaced : (k : ℕ) (t : T) (gs : List T) → length (replaced k t gs) ≡ (length gs - k) + 1
  length-replaced k t gs = omega (arith, length-append (take (length gs - k) gs) (t ∷ []), length-take-le (length gs - k) gs (omega arith))

  -- what stands below stays there
  pub after_nodes-below : (fs gs : List T) (e : ℕ) (nodes : List N) → depth_after arity (length gs) nodes ≡ Some e → after_nodes arity made (fs ++ gs) nodes ≡ fs ++ after_nodes arity made gs nodes
  after_nodes-below fs gs e [] h = refl
  after_nodes-below fs gs e (n ∷ nodes) h =
      let parts = if_some (nat_le (arity n) (length gs)) (depth_after arity ((length gs - arity n) + 1) nodes) e h in
      let deep = ap (λ m. depth_after arity m nodes) (length-replaced (arity n) (made n (operands (arity n) gs)) gs) ∙ parts.1 in
      ap (λ s. after_nodes arity made s nodes) (after_node-below fs gs n (le_of_test (arity n) (length gs) parts.0))
      ∙ after_nodes-below fs (after_node arity made gs n) e nodes deep

  pub Builds-none : Builds arity made [] []
  Builds-none = record { stack = refl; depth = refl }

  -- two lists build what each of them builds
  pub Builds-append : {xs ys : List N} {ts us : List T} → Builds arity made xs ts → Builds arity made ys us → Builds arity made (xs ++ ys) (ts ++ us)
  Builds-append {xs = xs} {ys = ys} {ts = ts} {us = us} first second = record {
    stack =
        fold-append (after_node arity made) [] xs ys
        ∙ ap (λ s. after_nodes arity made s ys) (first.stack ∙ sym (append-nil ts))
        ∙ after_nodes-below ts [] (length us) ys second.depth
        ∙ ap (λ s. ts ++ s) second.stack;
    depth =
        let deeper : depth_after arity (length ts + 0) ys ≡ Some (length ts + length us) = depth_after-more arity (length ts) 0 (length us) ys second.depth in
        let flat : length ts ≡ length ts + 0 = omega arith in
        depth_after-append arity 0 (length ts) xs ys first.depth
        ∙ ap (λ m. depth_after arity m ys) flat ∙ deeper ∙ ap (λ m. Some m) (sym (length-append ts us));
  }

  -- a node takes its operands, and what it makes stands in their place
  pub Builds-node : {xs : List N} (ts us : List T) (n : N) → Builds arity made xs (ts ++ us) → length us ≡ arity n → Builds arity made (xs ++ n ∷ []) (ts ++ made n us ∷ [])
  Builds-node {xs = xs} ts us n b h = record {
    stack =
        fold-append (after_node arity made) [] xs (n ∷ [])
        ∙ ap (λ s. after_node arity made s n) b.stack
        ∙ after_node-below ts us n (omega arith)
        ∙ ap (λ s. ts ++ s) (alone us n h);
    depth =
        let within : arity n ≤ length (ts ++ us) = omega (arith, length-append ts us) in
        let same : (length (ts ++ us) - arity n) + 1 ≡ length (ts ++ made n us ∷ []) = omega (arith, length-append ts us, length-append ts (made n us ∷ [])) in
        depth_after-append arity 0 (length (ts ++ us)) xs (n ∷ []) b.depth
        ∙ depth_after-node arity (length (ts ++ us)) n [] within ∙ ap (λ m. Some m) same;
  }
    where
      alone : (us : List T) (n : N) → length us ≡ arity n → after_node arity made us n ≡ made n us ∷ []
      alone us n h =
          let none : length us - arity n ≡ 0 = omega arith in
          ap (λ m. take m us ++ made n (drop m us) ∷ []) none

  pub Builds-one : {xs : List N} (us : List T) (n : N) → Builds arity made xs us → length us ≡ arity n → Builds arity made (xs ++ n ∷ []) (made n us ∷ [])
  Builds-one us n b h = Builds-node [] us n b h

  pub Builds-leaf : (n : N) → arity n ≡ 0 → Builds arity made (n ∷ []) (made n [] ∷ [])
  Builds-leaf n h = Builds-one [] n Builds-none (sym h)

-- ---- the nodes of one tree

module _ {N T : Type 0} (arity : N → ℕ) (made : N → List T → T) where
  pub length-after_nodes : (gs : List T) (e : ℕ) (nodes : List N) → depth_after arity (length gs) nodes ≡ Some e → length (after_nodes arity made gs nodes) ≡ e
  length-after_nodes gs e [] h = cc
  length-after_nodes gs e (n ∷ nodes) h =
      let parts = if_some (nat_le (arity n) (length gs)) (depth_after arity ((length gs - arity n) + 1) nodes) e h in
      let deep = ap (λ m. depth_after arity m nodes) (length-replaced arity made (arity n) (made n (operands (arity n) gs)) gs) ∙ parts.1 in
      length-after_nodes (after_node arity made gs n) e nodes deep

  one_depth : (depth : Option ℕ) → is_one depth ≡ true → depth ≡ Some 1
  one_depth None h = absurd (false≢true h)
  one_depth (Some d) h = let same : d ≡ 1 = grind arith in ap (λ m. Some m) same

  alone : (ts : List T) (d : T) → length ts ≡ 1 → ts ≡ slice_index_or ts 0 d ∷ []
  alone [] d h = absurd (omega arith)
  alone (t ∷ []) d h = refl
  alone (t ∷ u ∷ ts) d h = absurd (omega arith)

  -- a whole list builds its one tree
  pub Builds-whole : (nodes : List N) (d : T) → is_whole arity nodes ≡ true → Builds arity made nodes (slice_index_or (after_nodes arity made [] nodes) 0 d ∷ [])
  Builds-whole nodes d h =
      let deep = one_depth (depth_after arity 0 nodes) h in
      record { stack = alone (after_nodes arity made [] nodes) d (length-after_nodes [] 1 nodes deep); depth = deep }

  -- what builds one tree is a whole list, and that tree is its own
  pub whole-Builds : {nodes : List N} {t : T} → Builds arity made nodes (t ∷ []) → is_whole arity nodes ≡ true
  whole-Builds b = ap is_one b.depth

  pub tree-Builds : {nodes : List N} {t : T} (d : T) → Builds arity made nodes (t ∷ []) → slice_index_or (after_nodes arity made [] nodes) 0 d ≡ t
  tree-Builds d b = ap (λ ts. slice_index_or ts 0 d) b.stack

-- ---- what is gathered from all nodes

module _ {N T M : Type 0} (arity : N → ℕ) (made : N → List T → T) (op : M → M → M) (unit : M) (assoc : (a b c : M) → op (op a b) c ≡ op a (op b c)) (left : (a : M) → op unit a ≡ a) (right : (a : M) → op a unit ≡ a) (g : T → M) (own : N → M) (does : (n : N) (ts : List T) → length ts ≡ arity n → g (made n ts) ≡ op (gathered op unit g ts) (own n)) where
  gathered-append : (ts us : List T) → gathered op unit g (ts ++ us) ≡ op (gathered op unit g ts) (gathered op unit g us)
  gathered-append [] us = sym (left (gathered op unit g us))
  gathered-append (t ∷ ts) us = ap (op (g t)) (gathered-append ts us) ∙ sym (assoc (g t) (gathered op unit g ts) (gathered op unit g us))

  gathered-node : (stack : List T) (n : N) → arity n ≤ length stack → gathered op unit g (after_node arity made stack n) ≡ op (gathered op unit g stack) (own n)
  gathered-node stack n h =
      let m = length stack - arity n in
      let many : length (drop m stack) ≡ arity n = omega (arith, length-drop m stack) in
      gathered-append (take m stack) (made n (drop m stack) ∷ [])
      ∙ ap (op (gathered op unit g (take m stack))) (right (g (made n (drop m stack))) ∙ does n (drop m stack) many)
      ∙ sym (assoc (gathered op unit g (take m stack)) (gathered op unit g (drop m stack)) (own n))
      ∙ ap (λ a. op a (own n)) (sym (gathered-append (take m stack) (drop m stack)) ∙ ap (gathered op unit g) (take-append-drop m stack))

  gathered-nodes : (stack : List T) (e : ℕ) (nodes : List N) → depth_after arity (length stack) nodes ≡ Some e → gathered op unit g (after_nodes arity made stack nodes) ≡ op (gathered op unit g stack) (gathered op unit own nodes)
  gathered-nodes stack e [] h = sym (right (gathered op unit g stack))
  gathered-nodes stack e (n ∷ nodes) h =
      let parts = if_some (nat_le (arity n) (length stack)) (depth_after arity ((length stack - arity n) + 1) nodes) e h in
      let deep = ap (λ m. depth_after arity m nodes) (length-replaced arity made (arity n) (made n (operands (arity n) stack)) stack) ∙ parts.1 in
      gathered-nodes (after_node arity made stack n) e nodes deep
      ∙ ap (λ a. op a (gathered op unit own nodes)) (gathered-node stack n (le_of_test (arity n) (length stack) parts.0))
      ∙ assoc (gathered op unit g stack) (own n) (gathered op unit own nodes)

  -- what is gathered from the trees is gathered from the nodes, one by one
  pub gathered-Builds : {nodes : List N} {ts : List T} → Builds arity made nodes ts → gathered op unit g ts ≡ gathered op unit own nodes
  gathered-Builds {nodes = nodes} {ts = ts} b =
      ap (gathered op unit g) (sym b.stack) ∙ gathered-nodes [] (length ts) nodes b.depth ∙ left (gathered op unit own nodes)
