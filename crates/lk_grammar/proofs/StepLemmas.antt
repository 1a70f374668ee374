-- A rule is opened one level deeper, and not at all at depth 0 or where there is none; and where a form can't begin with
-- the byte, nothing is found in it.
use Rattle.std.proofs.Common.{◌≡◌, ℕ, zero, suc, ◌-◌, ◌<◌, ◌≤◌, Bool, true, false, ◌&&◌, nat_le, List, ◌∷◌, length, slice_index_or, if◌then◌else◌, refl, ◌∙◌, arith}
use Rattle.std.proofs.lemmas.Bool.{or_parts, true≢false}
use Rattle.std.proofs.lemmas.List.{get_or_default}
use Rattle.std.proofs.Math.ListN.{get_or-eq_default}
use Rattle.lk_grammar.specs.Forms.{Form, nothing, empty, byte, seq, either, many, nested, may_end, is_live}
use Rattle.lk_grammar.specs.Steps.{Stack, may_begin, open_rule, ways, ways_in}

pub opened_deeper : (rules : List Form) (b depth rule : ℕ) (d : Form) (rest : Stack) (found : List Stack) → 0 < depth → rule < length rules → open_rule rules b depth rule rest found ≡ ways rules b (depth - 1) (slice_index_or rules rule d) rest found
unfolding open_rule
opened_deeper rules b zero rule d rest found deep fits = absurd (omega arith)
opened_deeper rules b (suc depth) rule d rest found deep fits =
    let e : suc depth - 1 ≡ depth = omega arith in
    rw (e, get_or_default rules rule d nothing fits) refl

pub not_opened : (rules : List Form) (b depth rule : ℕ) (rest : Stack) (found : List Stack) → depth ≡ 0 → open_rule rules b depth rule rest found ≡ found
unfolding open_rule
not_opened rules b zero rule rest found shallow = refl
not_opened rules b (suc depth) rule rest found shallow = absurd (omega arith)

pub no_such_rule : (rules : List Form) (b depth rule : ℕ) (rest : Stack) (found : List Stack) → length rules ≤ rule → open_rule rules b depth rule rest found ≡ found
unfolding open_rule
no_such_rule rules b zero rule rest found beyond = refl
no_such_rule rules b (suc depth) rule rest found beyond = rw (get_or-eq_default rules nothing beyond) refl

-- of a list and itself the one that a test picks
same_pick : (b : Bool) (one found : List Stack) → one ≡ found → (if b then one else found) ≡ found
same_pick true one found e = e
same_pick false one found e = refl

-- no other list comes of a further search that finds nothing
then_none : (b c : Bool) (more found : List Stack) → ((b && c) ≡ false) → (c ≡ false → more ≡ found) → (if b then more else found) ≡ found
then_none true c more found e none = none e
then_none false c more found e none = refl

module _ (open_rule : ℕ → Stack → List Stack → List Stack) (count depth b : ℕ) where
  never_begun : (form : Form) (rest : Stack) (found : List Stack) → may_begin b form ≡ false → ways_in open_rule count depth b form rest found ≡ found
  never_begun nothing rest found h = refl
  never_begun empty rest found h = refl
  never_begun (byte low high) rest found h = rw (h) refl
  never_begun (seq first second) rest found h =
      let p = or_parts (may_begin b first) (may_end first && may_begin b second) h in
      let begun : (if is_live depth count second then ways_in open_rule count depth b first ((depth, second) ∷ rest) found else found) ≡ found =
      same_pick (is_live depth count second) _ found (never_begun first ((depth, second) ∷ rest) found p.0) in
      rw (begun) (then_none (may_end first) (may_begin b second) _ found p.1 (λ e. never_begun second rest found e))
  never_begun (either one other) rest found h =
      let p = or_parts (may_begin b one) (may_begin b other) h in
      rw (never_begun one rest found p.0) (never_begun other rest found p.1)
  never_begun (many form) rest found h = never_begun form ((depth, many form) ∷ rest) found h
  never_begun (nested rule) rest found h = absurd (true≢false h)

-- where no text of the form begins with the byte, nothing is found in it
pub nothing_begun : (rules : List Form) (b depth : ℕ) (form : Form) (rest : Stack) (found : List Stack) → may_begin b form ≡ false → ways rules b depth form rest found ≡ found
nothing_begun rules b depth form rest found h = never_begun (open_rule rules b depth) (length rules) depth b form rest found h
